pub mod Spelling
pub mod Reach
pub mod Blanks
pub mod Placing
pub mod Trying
pub mod Parting
