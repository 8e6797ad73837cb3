pub mod FlattenLemmas
pub mod DirectoryLemmas
pub mod FinishLemmas
mod Rows
