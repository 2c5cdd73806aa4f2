pub mod WritingLaws
pub mod RoundTripLaws
pub mod RoundTripUses
