pub mod Building
pub mod Classing
pub mod Passing
pub mod Replacing
pub mod Sums
