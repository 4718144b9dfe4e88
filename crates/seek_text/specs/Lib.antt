pub mod Seek
pub mod Pages
pub mod Inside
pub mod Promises
