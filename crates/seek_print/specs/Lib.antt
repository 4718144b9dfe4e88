pub mod Print
pub mod Inside
