pub mod Said
pub mod Build
pub mod Edit
pub mod Parts
pub mod Plain
pub mod Search
pub mod Sheet
