pub mod ReplyFacts
pub mod Rows
pub mod CodeCases
pub mod LongwordLaws
