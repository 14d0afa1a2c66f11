pub mod Shows
pub mod Table
