pub mod Served
pub mod Replies
pub mod Answered
