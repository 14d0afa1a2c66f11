pub mod Heading
pub mod Output
pub mod Trace
