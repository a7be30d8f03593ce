pub mod Scan
pub mod Modes
pub mod Ends
pub mod model
