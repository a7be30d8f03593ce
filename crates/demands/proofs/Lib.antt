pub mod LayoutLaws
pub mod WaitingLaws
pub mod Kept
pub mod Examples
pub mod RowLaws
pub mod CallLaws
