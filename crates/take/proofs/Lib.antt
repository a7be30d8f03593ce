pub mod HereCases
pub mod TakeHere
pub mod Onward
