-- Laws of what is drawn
pub mod RepeatedLaws
pub mod FigureLaws
pub mod DrawLaws
pub mod PhraseLaws
-- What the display shows, as theorems; no promise allows two answers
pub mod Shown
pub mod PromiseLaws
