pub mod Checks
pub mod Cut
pub mod Found
pub mod Editing
pub mod Reading
