pub mod OnLiterals
pub mod SoundLaws
pub mod AttributeLemmas
pub mod DigestLemmas
mod Rows
pub mod RedirectLemmas
mod DigitLaneLemmas
mod PairLemmas
mod TableLemmas
mod SearchLemmas
mod SpellLemmas
