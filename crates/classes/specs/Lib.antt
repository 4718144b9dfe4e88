pub mod Shown
pub mod Lasts
