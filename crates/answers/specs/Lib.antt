pub mod model
