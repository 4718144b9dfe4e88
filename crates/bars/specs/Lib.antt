pub mod Bars
pub mod Given
pub mod Calls
pub mod Promises
