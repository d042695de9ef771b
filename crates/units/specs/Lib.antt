-- What the parts of a unit call promise each other
pub mod Groups
pub mod Points
pub mod Rows
