pub mod Came
pub mod HeldLaws
