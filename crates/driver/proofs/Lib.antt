pub mod DriverLaws
