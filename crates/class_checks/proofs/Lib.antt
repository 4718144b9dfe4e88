pub mod Parts
pub mod Skip
pub mod Once
pub mod Falls
pub mod Refuse
