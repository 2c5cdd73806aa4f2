pub mod FromBytesLaws
pub mod ToBytesLaws
pub mod BytesBack
