-- By the cursor.
use mathlib.Core.Path.{◌≡◌, sym, subst}
use mathlib.Core.List.{List}
use Prim.Native.Nat.{ℕ}
use Rattle.interval.specs.declared.Tally.{Tally}
use Rattle.interval.specs.Lent.{Lent}
use Rattle.answer.specs.Promises.{Columns, columns}
use Rattle.lister.specs.declared.Cursor.{Cursor}
use Rattle.lister.specs.declared.Step.{Step}
use Rattle.lister.specs.Steps.{lent_listing, Turns}
use Rattle.lister.proofs.turn.turn.Goals as goal
use Rattle.lister.proofs.turn.turn.Goals.{Start}

abbrev cols : Start → Columns
cols s = let a = s.args in columns a.performances.now a.factors.now a.payments.now a.used.now a.unused.now

abbrev lists : Start → Lent → Lent
lists s rest = let a = s.args in lent_listing rest a.measures.now a.sums.now a.figures.now a.numbers.now a.homes.now a.rows.now

-- from the cursor that it is
as_cursor :
    {t : Tally} {bytes : List ℕ} {l : Lent} {x y : Cursor} {c c' : Columns} {done : ℕ} {old new : List ℕ} {s : Step} → x ≡ y →
    Turns t bytes l y c done old s c' new → Turns t bytes l x c done old s c' new
as_cursor {t} {bytes} {l} {c = c} {c' = c'} {done = done} {old = old} {new = new} {s = s} e r =
    subst (λ (z : Cursor). Turns t bytes l z c done old s c' new) (sym e) r

pub returns-in-Interval : goal.returns-in-Interval
returns-in-Interval c =
    λ rest. as_cursor c.in-Interval.is (c.from_interval.ensures c.args.bytes.now (lists (goal.at.returns-in-Interval c).Start rest) (cols (goal.at.returns-in-Interval c).Start))

pub returns-in-Requirement : goal.returns-in-Requirement
returns-in-Requirement c =
    λ rest. as_cursor c.in-Requirement.is (c.from_requirement.ensures rest)

pub returns-in-Answered : goal.returns-in-Answered
returns-in-Answered c =
    λ rest. as_cursor c.in-Answered.is (c.from_answered.ensures c.args.bytes.now (lists (goal.at.returns-in-Answered c).Start rest))

pub returns-in-Members : goal.returns-in-Members
returns-in-Members c =
    λ rest. as_cursor c.in-Members.is (c.from_members.ensures c.args.bytes.now (lists (goal.at.returns-in-Members c).Start rest))
