pub mod Fields
pub mod model
