pub mod Texts
pub mod Finding
pub mod Answering
pub mod Paging
pub mod Promises
