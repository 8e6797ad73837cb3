pub mod BlobFolders
pub mod Faults
pub mod Listings
pub mod Slots
