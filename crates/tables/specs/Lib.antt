pub mod Given
pub mod Beside
pub mod Hops
