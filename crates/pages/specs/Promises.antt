-- What is promised of every text that is drawn: so many bytes at the front of the lent text, and nothing else of it changed; 12 where it is shorter, with
-- nothing written.
use Rattle.rules.specs.declared.Refusal.{Refusal}
use Rattle.std.specs.Prelude.{◌≡◌, cond, List, ◌++◌, ℕ, leb, length, drop, ℤ, pos, Result, Ok, Err, ⊤}
use Rattle.rules.specs.declared.Refusal.TheVariants.{TooShort}
use Rattle.rules.specs.declared.Standing.{Standing}
use Rattle.rules.specs.Members.{Name, unit, residual}
use Rattle.rules.specs.Answer.{Line}
use Rattle.pages.specs.declared.Who.{Who}
use Rattle.pages.specs.declared.Who.TheVariants as who

module _ (places : ℕ) (drawing : List ℕ) (old : List ℕ) where
  pub record Draws (r : Result ⊤ Refusal) (new : List ℕ) : Type 0 where
    pub reply : r ≡ cond (leb places (length old)) (Ok tt) (Err TooShort)
    pub written : new ≡ cond (leb places (length old)) (drawing ++ drop places old) old

-- a member's name, and what a page reads of its line
abbrev pub name_of : Who → Name
name_of (who.Unit n) = unit n
name_of who.Residual = residual

abbrev pub line_of : Who → Standing → ℤ → ℤ → ℤ → Line
line_of w s payment used unused =
    record { name = name_of w; standing = s; performance = pos 0; factor = pos 0; payment = payment; used = used; unused = unused }
