pub mod CallLaws
pub mod TallyLaws
pub mod HoldsLaws
