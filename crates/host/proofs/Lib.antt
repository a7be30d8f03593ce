pub mod TooWide
pub mod RecordAgain
pub mod OneReply
