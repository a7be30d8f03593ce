pub mod FitCases
pub mod FitsStill
