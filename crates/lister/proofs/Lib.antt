-- Laws of the lines in a text, of how far a listing has come, and of the tests before it
pub mod SaidLaws
mod LeastLaws
pub mod StepsLaws
pub mod ListLaws
-- of the moves, the members' rows and a requirement's turn
pub mod MoveLaws
pub mod MembersLaws
pub mod TurnLaws
-- a call for a piece of a listing has one answer, and on a refusal nothing is written
pub mod Promises
-- what is left of a taken book's listing at a cursor, and that its pieces are the rules' listing
mod LinesLeft
pub mod BookListed
-- a listing comes to its end
pub mod Progress
