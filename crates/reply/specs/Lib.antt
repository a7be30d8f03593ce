pub mod Replies
pub mod Causes
pub mod Status
pub mod Effect
pub mod model
