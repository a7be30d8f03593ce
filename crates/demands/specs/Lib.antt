pub mod Demands
pub mod Answers
pub mod Kept
pub mod Examples
pub mod model
