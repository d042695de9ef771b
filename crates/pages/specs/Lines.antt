-- What the functions of `lines` promise each other.
use Rattle.std.specs.Prelude.{List, ◌++◌, ℕ}
use Rattle.rules.specs.declared.Direction.{Direction}
use Rattle.rules.specs.Text.{text, natural}
use Rattle.rules.specs.Listing.{direction_word}

-- a requirement's direction, after its space; the requirement's words; a unit's name
unfoldable pub way_text : Direction → List ℕ
way_text direction = text " " ++ direction_word direction

abbrev pub required_text : ℕ → Direction → List ℕ
required_text number direction = text "req " ++ (natural number ++ way_text direction)

abbrev pub unit_text : ℕ → List ℕ
unit_text number = text "unit " ++ natural number
