pub mod AnswerLaws
pub mod RefusalLaws
