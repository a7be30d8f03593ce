pub mod Scalers
pub mod BothRoutes
pub mod Examples
