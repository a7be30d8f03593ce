pub mod Bools
pub mod Past
pub mod Pigeonhole
pub mod Puts
pub mod Checks
pub mod Faults
pub mod Tests
