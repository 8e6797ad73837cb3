pub mod Ascent
pub mod ListFacts
pub mod Plain
pub mod BlobLemmas
mod BlobRanges
mod NamedLemmas
pub mod FindLemmas
pub mod Digests
