-- How tables of refused books say what a reply is (02, R-1): number, place and t of its refusal, all 0 where what is asked for is taken.
use Rattle.std.specs.Prelude.{List, [], ◌∷◌, ℕ}
use Rattle.rules.specs.Refusals.{number, point, LocatedReply, taken, refused}

abbrev pub no : ℕ → ℕ → ℕ → List ℕ
no n place t = n ∷ place ∷ t ∷ []

abbrev pub told : {A : Type 0} → LocatedReply A → List ℕ
told (taken a) = no 0 0 0
told (refused r) = no (number r.refusal) r.place (point r.refusal)
