pub mod GreatestStep
