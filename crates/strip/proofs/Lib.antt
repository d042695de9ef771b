pub mod DrawingLaws
pub mod Shown
pub mod TrendLaws
