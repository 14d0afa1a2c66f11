pub mod TestLaws
pub mod LimitLaws
