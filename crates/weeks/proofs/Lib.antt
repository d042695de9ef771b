pub mod Averages
pub mod GatherLaws
pub mod Promises
pub mod Reached
pub mod ReadsLaws
pub mod Rosters
pub mod Runs
