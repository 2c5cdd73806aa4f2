pub mod GreatestLaws
