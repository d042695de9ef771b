-- The tally in words, and what each call over them promises
pub mod Words
pub mod Called
pub mod Promises
pub mod Runs
pub mod Asked
pub mod Answers
pub mod Weekly
pub mod Verdicts
pub mod Writing
pub mod Trends
pub mod Reports
