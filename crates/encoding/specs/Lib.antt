pub mod FromBytes
pub mod ToBytes
