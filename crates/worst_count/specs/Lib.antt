pub mod WorstCount
pub mod Slowest
pub mod Cases
pub mod Kinds
pub mod ShortBlocks
