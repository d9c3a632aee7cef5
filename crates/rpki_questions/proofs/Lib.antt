pub mod QuestionWords
pub mod FactTexts
pub mod AllRefused
