pub mod LineLaws
pub mod HexLaws
pub mod TextLaws
pub mod StepLaws
pub mod PasteLaws
