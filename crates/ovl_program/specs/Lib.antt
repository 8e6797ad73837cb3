pub mod Faults
pub mod HandedOut
pub mod LayerFiles
pub mod Programs
pub mod Reported
pub mod Status
