pub mod Catalogue
pub mod Reading
pub mod Refusals
pub mod Promises
pub mod Table
