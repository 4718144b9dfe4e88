pub mod Lines
pub mod Inside
pub mod Promises
pub mod Printing
