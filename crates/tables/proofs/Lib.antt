pub mod Standing
pub mod Fill
pub mod Hops
pub mod Given
pub mod Pass
