pub mod StepCallLaws
