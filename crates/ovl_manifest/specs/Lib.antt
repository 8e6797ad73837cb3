pub mod Versions
pub mod Fields
pub mod Manifest
pub mod Text
pub mod Compact
