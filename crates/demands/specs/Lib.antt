-- A chain of C calls
pub mod WordsChain
-- What the proof speaks of that it is a chain of the calls below
pub mod WordsLaws
pub mod WordsCalls
-- The rules' answer over words, from a chain and from a book's bytes
pub mod WordsAnswer
pub mod WordsBook
-- A stored tally over another book's lists
pub mod OtherBook
-- What the demands' theorems speak of
pub mod ColumnsFront
pub mod BookWriter
pub mod Demand1
pub mod WeekDefaults
pub mod Demand3
pub mod NoFairerSplit
pub mod OurSheet
pub mod TrendStrip
pub mod PerformanceReport
pub mod Panel
pub mod PanelWords
-- what settle writes of what it read
pub mod Settled
