pub mod Ascending
pub mod Lasts
pub mod Listings
pub mod Shares
pub mod SlotLemmas
pub mod Spelling
pub mod Telling
pub mod Unread
