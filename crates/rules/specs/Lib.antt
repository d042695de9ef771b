-- Document 01 as definitions, in its order
pub mod Quantities
pub mod Bytes
pub mod Layout
pub mod Refusals
pub mod Book
pub mod Contents
pub mod SettingsRecord
pub mod Fields
pub mod FrequencyRecord
pub mod UnitRecord
pub mod Groups
pub mod RequirementRecord
pub mod WholeBook
-- A book from what is handed in (document 02, R-4)
pub mod Laid
pub mod Given
pub mod Written
pub mod Said
pub mod Measure
pub mod Dropped
pub mod Reliability
pub mod Deviation
pub mod Plants
pub mod Performance
pub mod Standings
pub mod Members
pub mod Share
pub mod Factors
pub mod Sheet
pub mod Rcr
pub mod Cents
pub mod Answer
pub mod Text
pub mod Listing
-- The performance report as text (document 02, R-11)
pub mod Calendar
pub mod ReportRow
pub mod ReportRead
pub mod Report
-- The trend strip of a unit (document 02, R-2)
pub mod Strip
pub mod StripText
-- Defaults from seven days of record (document 02, R-7)
pub mod Week
pub mod RunningWeek
pub mod WeekRoster
-- The panel (document 02, R-13)
pub mod Phrases
pub mod Panel
pub mod Keys
