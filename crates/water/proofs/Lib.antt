pub mod WaterLaws
