pub mod TransportLaws
pub mod GainsLaws
