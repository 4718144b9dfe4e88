pub mod Written
pub mod Renewed
