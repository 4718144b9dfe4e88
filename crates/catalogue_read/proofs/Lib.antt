pub mod Behind
pub mod Storing
pub mod Taking
