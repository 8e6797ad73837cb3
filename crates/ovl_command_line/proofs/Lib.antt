pub mod Accepted
pub mod Numbers
pub mod OptionLemmas
pub mod Outcomes
pub mod Taken
