-- Laws of the calendar, and of dates as the code holds them
pub mod CalendarLaws
pub mod DatesLaws
pub mod Estimates
-- Laws of the row of the performance report: pieces of text, columns, performances in billionths, the row, and how much of a line decides
pub mod PieceLaws
pub mod PutLaws
pub mod WriteLaws
pub mod ColumnLaws
pub mod BillionthsLaws
pub mod RowLaws
pub mod HeldLaws
-- Laws of the reader: of its loops, of its columns, and of the row in turn
pub mod SaidLaws
pub mod ReadLaws
pub mod TurnLaws
-- No promise allows two answers
pub mod PromiseLaws
