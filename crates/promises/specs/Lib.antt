pub mod Runs
pub mod Demands
pub mod Catalogues
pub mod Bars
pub mod Worked
