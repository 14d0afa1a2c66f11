pub mod HeadingLaws
pub mod TraceLaws
