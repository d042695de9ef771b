-- Who stands there is put into the three words; refused, nothing is.
use mathlib.Core.Path.{refl, ◌∙◌, ap}
use Prim.Native.Nat.{ℕ}
use Rattle.dullavane.specs.Asked.{with_row}
use Rattle.dullavane.proofs.asked.tell_row.Goals as goal

pub returns-in-Unit : goal.returns-in-Unit
returns-in-Unit c =
    let ws = c.args.words.now in
    rw c.in-Unit.is (refl, c.put_row.ensures ∙ ap (λ (s : ℕ). with_row 1 c.in-Unit.number s ws) c.standing_number.ensures)

pub returns-in-Other : goal.returns-in-Other
returns-in-Other c =
    rw c.in-Other.is (refl, c.put_row-in-Other.ensures)

pub returns-in-Refused : goal.returns-in-Refused
returns-in-Refused c = rw c.in-Refused.is (c.refusal_number.ensures, refl)
