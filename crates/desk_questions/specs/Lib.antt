pub mod QuestionCalls
pub mod QuestionCallsLaws
