-- What the numbers of a unit's line promise
pub mod Spans
