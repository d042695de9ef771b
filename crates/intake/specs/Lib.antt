-- What a book is that came, and a part of one that is held
pub mod Came
pub mod Held
