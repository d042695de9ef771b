-- Laws of the page record and the keys
pub mod KeysLaws
-- Laws of the members' rows, of the tests, of who stands in a row, and of a key press
pub mod MembersLaws
pub mod PastLaws
pub mod WhoLaws
pub mod ShownLaws
pub mod PressLaws
pub mod Promises
-- What key presses show of a book
pub mod BookPages
