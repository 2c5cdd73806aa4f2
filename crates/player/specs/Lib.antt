pub mod Kind
pub mod Plays
