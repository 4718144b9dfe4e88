pub mod Put
pub mod Moved
pub mod Given
pub mod Replace
pub mod Buffers
