pub mod Built
pub mod Checks
pub mod Lists
