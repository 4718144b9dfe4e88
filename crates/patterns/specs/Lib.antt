pub mod Pattern
pub mod Answers
pub mod Searchable
pub mod Walk
