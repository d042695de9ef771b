-- What the calls promise
pub mod Promises
-- What their parts promise each other: records that a run of calls leaves, a pass over a member's lists, a roster's members
pub mod Runs
pub mod Gather
pub mod Rosters
-- Worked weeks, by computing
pub mod Worked
