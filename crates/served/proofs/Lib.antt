pub mod ServedLaws
pub mod RunLaws
pub mod AnsweredLaws
