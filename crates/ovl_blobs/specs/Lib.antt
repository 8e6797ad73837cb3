pub mod Blobs
pub mod ByDigest
pub mod Contents
pub mod Known
pub mod Measuring
