pub mod Onward
pub mod Place
