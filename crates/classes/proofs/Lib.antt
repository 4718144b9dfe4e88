pub mod Shown
pub mod Signs
pub mod Front
pub mod Within
pub mod Lasts
pub mod Places
pub mod Names
pub mod Rewrote
