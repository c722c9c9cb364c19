pub mod Kind
pub mod KindText
pub mod AnswerLine
pub mod Steps
