pub mod FrictionLaws
