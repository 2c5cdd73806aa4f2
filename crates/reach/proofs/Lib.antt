pub mod PartsLaws
pub mod GroundsLaws
pub mod CarriedLaws
pub mod Sound
pub mod BalanceLaws
pub mod OutletLaws
