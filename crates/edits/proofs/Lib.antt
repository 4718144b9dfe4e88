pub mod Put
pub mod Ends
pub mod Positions
pub mod Before
pub mod Signed
pub mod Place
pub mod Tail
pub mod Replace
