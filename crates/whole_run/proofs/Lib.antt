pub mod StepsAreTakes
pub mod WordsAhead
pub mod Turns
pub mod Reach
pub mod RunTurn
pub mod WholeRun
pub mod SeveralReplies
