pub mod LawsOfPaths
pub mod LawsOfInodes
pub mod LawsOfWalks
pub mod LawsOfSplits
pub mod LawsOfNames
pub mod LawsOfFound
pub mod LawsOfLooks
pub mod LawsOfUnmarked
pub mod LawsOfKids
pub mod LawsOfEntries
pub mod Longest
pub mod Turns
pub mod WalkFacts
pub mod FoundLemmas
mod ShownKindLemmas
pub mod ListLemmas
pub mod Notation
pub mod RowLemmas
pub mod RowStacks
pub mod ViewLemmas
pub mod PlaceLemmas
pub mod LawsOfNamedLists
mod JoinLemmas
pub mod TopLemmas
pub mod DirViewLemmas
pub mod ViewSteps
pub mod ViewLookLemmas
mod PlaceReads
mod ShownInodeLemmas
mod Rows
mod RopeLemmas
mod RopeNameLemmas
mod RopeOrderLemmas
