pub mod WaveLaws
pub mod VelocityLaws
pub mod CrossingLaws
pub mod InterfaceLaws
