pub mod Demand1Laws
pub mod Demand2Laws
pub mod Demand3Laws
pub mod FrictionLaws
pub mod LimitsLaws
pub mod ModelLaws
