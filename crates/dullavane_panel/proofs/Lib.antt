-- Laws of the words, and that no promise allows two answers
pub mod WordsLaws
pub mod CalledLaws
