pub mod Order
pub mod Texts
pub mod Names
pub mod NameSets
pub mod Paths
pub mod Ends
pub mod Escapes
