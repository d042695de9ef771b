pub mod LinesLaws
pub mod PiecesLaws
