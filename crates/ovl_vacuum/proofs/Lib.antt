pub mod VacuumLemmas
pub mod KeptLemmas
pub mod SoundLemmas
pub mod DirectoryLemmas
pub mod RowLemmas
pub mod VisitLemmas
mod Rows
