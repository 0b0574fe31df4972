pub mod QuestionExact
pub mod ThreeAnswers
pub mod QuestionAnswers
