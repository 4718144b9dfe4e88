pub mod Renewed
pub mod Shift
