pub mod GroupsLaws
pub mod PlantAnswer
pub mod PointsLaws
pub mod RangeLaws
pub mod RowsLaws
pub mod RunAnswer
pub mod TestedLaws
pub mod UnitAnswer
