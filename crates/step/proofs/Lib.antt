pub mod Onward
pub mod PlanLaws
pub mod Search
pub mod StepLaws
