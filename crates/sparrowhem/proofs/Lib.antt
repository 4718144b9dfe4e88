pub mod Handing
pub mod Preferring
pub mod Searching
pub mod Sheeting
pub mod Trying
