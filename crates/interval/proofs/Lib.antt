pub mod Calls
pub mod HeldLaws
pub mod LentLaws
pub mod RangesLaws
pub mod Promises
pub mod RunLaws
pub mod TallyLaws
