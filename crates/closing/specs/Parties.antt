-- The parties of a requirement (the demand's words): a helpful one has a performance above zero, an unhelpful one below, its default where that stands in.
use Rattle.std.specs.Prelude.{Bool, false, ◌||◌, List, [], ◌∷◌, ◌<◌, pos}
use Rattle.std.specs.Int.Signed.{lt_z}
use Rattle.integers.specs.Totals.{all, All}
use Rattle.rules.specs.Quantities.{regions}
use Rattle.rules.specs.Book.{Requirement, Book}
use Rattle.rules.specs.Plants.{plants}
use Rattle.rules.specs.Standings.{is_live}
use Rattle.rules.specs.Members.{members}

-- does some element pass
unfoldable pub some : {A : Type 0} → (A → Bool) → List A → Bool
some p [] = false
some p (x ∷ xs) = p x || some p xs

abbrev pub some_helpful : Book → Requirement → Bool
some_helpful b q = some (λ m. lt_z (pos 0) m.payment) (members b q)

abbrev pub some_unhelpful : Book → Requirement → Bool
some_unhelpful b q = some (λ m. lt_z m.payment (pos 0)) (members b q)

-- a requirement in which no default stands: all its members are live
abbrev pub no_default : Book → Requirement → Bool
no_default b q = all (λ m. is_live m.standing) (members b q)

-- every plant is of one of the five regions
abbrev pub Placed : Book → Type 0
Placed b = All (λ p. p.region < regions) (plants b.roster)
