pub mod Reading
pub mod Table
pub mod Few
