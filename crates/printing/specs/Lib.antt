-- What a line holds, and where it ends, when bytes, words and numbers are put to it
pub mod Lines
