pub mod Meetings
pub mod Statement
