pub mod CflLaws
