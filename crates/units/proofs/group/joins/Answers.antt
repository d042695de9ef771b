-- A unit joins where it has a group, is not the first, and the unit before has the same.
use Rattle.std.proofs.Common.{◌≡◌, ◌<◌, ◌≤◌, Bool, true, false, ◌&&◌, leb, refl, arith, eq-eqb, ne_eqb, le-leb}
use borrow.Author.Tests.{lt-leb}
use Rattle.units.proofs.group.joins.Goals as goal

none : (t : Bool) → false ≡ t && false
none true = refl
none false = refl

pub returns-then-group-eq0 : goal.returns-then-group-eq0
returns-then-group-eq0 c = rw (eq-eqb _ _ c.if-group-eq0.true) (none (leb 1 c.args.row))

pub returns-then-row-eq0 : goal.returns-then-row-eq0
returns-then-row-eq0 c = let h : c.args.row < 1 = omega arith in rw (lt-leb 1 c.args.row h)

pub returns : goal.returns
returns c =
    let h : 1 ≤ c.args.row = omega (arith, c.if-row-eq0.false) in
    rw (le-leb 1 c.args.row h, ne_eqb c.args.group 0 c.if-group-eq0.false)
