pub mod RowLaws
pub mod WordLaws
pub mod Tried
pub mod BitLaws
pub mod ReadLaws
pub mod GatherLaws
pub mod Flags
