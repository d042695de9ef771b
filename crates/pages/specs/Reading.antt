-- A figure's 16 places read back: what stands behind the spaces, as a number (02, R-13). For theorems alone; no function reads figures.
use Rattle.std.specs.Prelude.{cond, List, [], ◌∷◌, ℕ, eqb, ℤ}
use Rattle.rules.specs.ReportRead.{signed_said}

unfoldable pub behind_spaces : List ℕ → List ℕ
behind_spaces [] = []
behind_spaces (b ∷ bs) = cond (eqb b 32) (behind_spaces bs) (b ∷ bs)

abbrev pub read_figure : List ℕ → ℤ
read_figure places = signed_said (behind_spaces places)
