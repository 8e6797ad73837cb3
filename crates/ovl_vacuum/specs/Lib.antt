pub mod Vacuum
pub mod Laws
pub mod Directories
pub mod Visits
pub mod Passes
