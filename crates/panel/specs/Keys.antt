-- Keys pressed one after another on one display, at one book, requirement and number of members.
use Rattle.std.specs.Prelude.{List, [], ◌∷◌, ℕ, replicate}
use Rattle.rules.specs.declared.Page.{Page}
use Rattle.rules.specs.declared.Key.{Key}
use Rattle.rules.specs.declared.Key.TheVariants.{Next, Home}
use Rattle.rules.specs.Keys.{step}

abbrev pub keys_pressed : Page → List Key → ℕ → ℕ → ℕ → Page
keys_pressed p [] book requirement members = p
keys_pressed p (key ∷ keys) book requirement members = keys_pressed (step p key book requirement members) keys book requirement members

-- home, and then so many times next
abbrev pub nexts_after_home : ℕ → List Key
nexts_after_home count = Home ∷ replicate count Next
