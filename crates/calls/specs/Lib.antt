pub mod Fit
pub mod Before
pub mod Calls
pub mod model
