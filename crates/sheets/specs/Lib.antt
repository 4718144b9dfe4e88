pub mod Result
pub mod Sheets
