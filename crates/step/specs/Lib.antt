pub mod InPlace
pub mod model
