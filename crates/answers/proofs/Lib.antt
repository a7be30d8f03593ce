pub mod VisitRoom
pub mod AnswerTurn
pub mod AnswersKeep
