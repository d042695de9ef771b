-- Who a member's page names, and how they stand.
use Rattle.std.specs.Prelude.{◌≡◌, ℕ}
use Rattle.rules.specs.declared.Standing.{Standing}
use Rattle.rules.specs.Book.{Requirement}
use Rattle.interval.specs.Lent.{Lent}
use Rattle.answer.specs.declared.Row.{Row}
use Rattle.answer.specs.declared.Row.TheVariants.{Unit, Other, Refused}
use Rattle.pages.specs.declared.Who.TheVariants as who
use Rattle.pages.specs.Promises.{name_of}
use Rattle.panel.specs.declared.Shown.{Shown}
use Rattle.panel.specs.declared.who.Named.{Named}
use Rattle.panel.specs.Press.{name_at, standing_at}

-- a row's member; a row with none has the residual's place
abbrev pub by_row : Row → Standing → Named
by_row (Unit n s) residual = record { who = who.Unit n; standing = s }
by_row Other residual = record { who = who.Residual; standing = residual }
by_row (Refused r) residual = record { who = who.Residual; standing = residual }

-- member k, from 0
pub record NamedAt (units : ℕ) (l : Lent) (q : Requirement) (s : Shown) (k : ℕ) (r : Named) : Type 0 where
  pub name : name_of r.who ≡ name_at units l q s k
  pub standing : r.standing ≡ standing_at units l q s k
