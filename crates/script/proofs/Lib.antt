pub mod EveryLaws
pub mod WordsLaws
