pub mod Crossing
pub mod Running
pub mod Promises
