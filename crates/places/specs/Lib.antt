pub mod Begin
pub mod Place
