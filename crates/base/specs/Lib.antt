pub mod Checks
pub mod Bytes
pub mod Refusals
