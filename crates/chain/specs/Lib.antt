-- A chain of calls, what it leaves from the table of contents to the end of a book, and what the theorems in proofs/ speak of
pub mod Long
pub mod PlantsAt
pub mod Taken
pub mod Chain
pub mod BookRecords
pub mod Alike
pub mod Way
pub mod Runs
pub mod BookWay
pub mod BookRuns
pub mod Keeps
pub mod BookChain
pub mod Spelled
pub mod Reports
pub mod Answerable
pub mod Mixed
