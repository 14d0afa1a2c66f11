pub mod Claims
pub mod Statement
