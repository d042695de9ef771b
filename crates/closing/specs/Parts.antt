-- One good unit in two parts: two good ones of its region and kind whose start, end, defaults and every reading add up to its own (the demand's words). None
-- of the three is of a group (02, R-5).
use Rattle.std.specs.Prelude.{◌≡◌, true, ℕ, ◌<◌, pos, ◌+ℤ◌, get_or}
use Rattle.rules.specs.declared.Direction.{Direction}
use Rattle.rules.specs.Quantities.{points}
use Rattle.rules.specs.Book.{by, Defaults, Unit}
use Rattle.rules.specs.Deviation.{good}

-- a good unit without a group, of another's region and kind
pub record Alike (u x : Unit) : Type 0 where
  pub good : good x ≡ true
  pub group : x.group ≡ 0
  pub region : x.region ≡ u.region
  pub kind : x.kind ≡ u.kind

pub record DefaultsAddUp (f g h : Defaults) : Type 0 where
  pub payment : g.payment +ℤ h.payment ≡ f.payment
  pub used : g.used +ℤ h.used ≡ f.used
  pub unused : g.unused +ℤ h.unused ≡ f.unused

-- the good unit u in two good ones, x and y; their numbers are free
pub record Parts (u x y : Unit) : Type 0 where
  pub good : good u ≡ true
  pub group : u.group ≡ 0
  pub first : Alike u x
  pub second : Alike u y
  pub start : x.start +ℤ y.start ≡ u.start
  pub end : x.end +ℤ y.end ≡ u.end
  pub defaults : (d : Direction) → DefaultsAddUp (by d u.defaults) (by d x.defaults) (by d y.defaults)
  pub reading : (t : ℕ) → t < points → get_or x.reading t (pos 0) +ℤ get_or y.reading t (pos 0) ≡ get_or u.reading t (pos 0)
