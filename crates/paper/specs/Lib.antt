pub mod PaperListing
pub mod RefusedBooks
pub mod GroupsOfOne
pub mod PaperWritten
