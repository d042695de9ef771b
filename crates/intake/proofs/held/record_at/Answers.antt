-- What is lent runs from the place, or from the end, to the end.
use mathlib.Core.Path.{◌∙◌, ap}
use Prim.Native.Nat.{ℕ, ◌-◌}
use native.Mathlib.Omega.{arith}
use lib.ListN.{length, drop, length-drop}
use lib.Seq.{take_all}
use Rattle.intake.proofs.HeldLaws.{from_within}
use Rattle.intake.proofs.held.record_at.Goals as goal

pub returns : goal.returns
returns c =
    let book = c.args.book.now in
    let from = c.within-from.result in
    take_all (length book - from) (drop from book) (omega (arith, length-drop from book))
    ∙ ap (λ (i : ℕ). drop i book) c.within-from.ensures
    ∙ from_within c.args.start book
