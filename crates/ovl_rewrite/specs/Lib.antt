pub mod Directories
pub mod Passes
pub mod NewLayers
pub mod Limits
pub mod Ends
