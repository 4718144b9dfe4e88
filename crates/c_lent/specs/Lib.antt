pub mod Answer
pub mod Lent
pub mod Calls
pub mod Reading
