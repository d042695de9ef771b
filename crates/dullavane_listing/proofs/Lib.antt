-- Laws of the cursor's words, and that the call's promise allows no two answers
pub mod CursorLaws
pub mod CalledLaws
-- the pieces over words are the rules' listing
pub mod WordsListed
