pub mod DirectoryLemmas
pub mod EmitLemmas
pub mod EntryCounts
pub mod LayerReportSteps
mod LayerRows
pub mod LeafSteps
pub mod ListingLemmas
pub mod ListingSteps
pub mod MergedLemmas
mod Rows
pub mod ShareLemmas
mod VacuumRows
