pub mod Runs
pub mod Promises
