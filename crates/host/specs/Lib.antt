pub mod Numbers
pub mod model
