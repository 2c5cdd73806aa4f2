pub mod DealLaws
pub mod IndexLaws
pub mod QuotientLaws
pub mod RootLaws
pub mod SearchLaws
pub mod SharesLaws
pub mod SignedLaws
