-- The answer to a requirement
pub mod Asked
pub mod Ranges
pub mod Lists
pub mod Promises
pub mod Lent
pub mod Made
pub mod Residual
pub mod Values
pub mod Rcr
pub mod Roster
pub mod Report
pub mod Pools
pub mod Shares
pub mod Tested
pub mod Charges
pub mod Worked
pub mod BookAnswered
