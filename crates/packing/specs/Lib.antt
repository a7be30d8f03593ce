pub mod Packing
pub mod model
