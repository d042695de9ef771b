-- `keys::step`: the record is the call's book and requirement, and the page is what the two functions above ensure.
use mathlib.Core.Path.{ap, ◌∙◌}
use Prim.Native.Nat.{ℕ}
use Rattle.rules.specs.Keys.{moved, step}
use Rattle.panel.proofs.keys.step.Goals as goal

pub returns : goal.returns
unfolding step
returns c =
    let a = c.args in
    ap (λ (page : ℕ). record { book = a.book; requirement = a.requirement; page = page })
    (c.page_after.ensures ∙ ap (moved a.key a.members) c.page_before-before.ensures)
