pub mod Lines
pub mod Hex
pub mod Frames
pub mod Texts
pub mod Output
