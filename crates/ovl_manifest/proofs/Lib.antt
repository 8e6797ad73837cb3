pub mod FieldLemmas
mod Rows
pub mod ReadLemmas
pub mod TextLemmas
pub mod MemberLemmas
pub mod EntryLemmas
pub mod WrittenBackLemmas
pub mod TailLemmas
pub mod ValueLemmas
pub mod StatedLemmas
pub mod CompactLemmas
pub mod Utf8Lemmas
pub mod RunLemmas
pub mod ListLemmas
