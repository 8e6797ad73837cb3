pub mod Ascending
pub mod LawsOfNameSets
pub mod NameLemmas
pub mod EscapeLemmas
pub mod PathTexts
pub mod EndLemmas
mod OnLiterals
mod Rows
