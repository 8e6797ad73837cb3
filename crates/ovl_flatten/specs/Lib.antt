pub mod Flatten
pub mod Laws
pub mod Directories
pub mod Limits
