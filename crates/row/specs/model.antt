pub mod Words
pub mod Tops
