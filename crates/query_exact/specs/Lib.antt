pub mod PlainShape
pub mod PlainExact
pub mod SoughtExact
pub mod QuestionExact
