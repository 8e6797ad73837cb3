pub mod HandedParts
pub mod LeftOut
pub mod Performed
