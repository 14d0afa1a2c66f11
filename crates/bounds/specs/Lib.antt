pub mod Tests
pub mod Refusal
pub mod Limits
