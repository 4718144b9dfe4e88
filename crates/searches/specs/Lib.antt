pub mod Searches
pub mod Spans
