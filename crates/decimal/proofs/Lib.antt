pub mod Numerals
pub mod Writing
pub mod Putting
pub mod Runs
pub mod Reading
pub mod Lining
pub mod Deciding
pub mod Promises
