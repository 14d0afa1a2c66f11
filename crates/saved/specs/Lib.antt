pub mod Place
pub mod Fields
pub mod Line
