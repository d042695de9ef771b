-- Before turn i the first i bytes are copied, the others as they came.
use mathlib.Core.Path.{sym, ◌∙◌, ap}
use mathlib.Core.List.{List}
use Prim.Native.Nat.{ℕ, ◌+◌}
use native.Mathlib.Numerals.{add-one}
use native.Mathlib.Omega.{arith}
use lib.ListN.{set, get_or}
use lib.Seq.{paste, paste-suc}
use Rattle.listing.proofs.pieces.copy.Goals as goal

pub loop-i-preserved : goal.loop-i-preserved
loop-i-preserved c =
    let a = c.args in
    let i = c.loop-i.i in
    let e = paste-suc a.target.now a.to a.source.now i 0 (omega arith) (omega arith) in (
      omega arith,
      ap (λ (t : List ℕ). set t (a.to + i) (get_or a.source.now i 0)) c.loop-i.invariant.1 ∙ e
          ∙ ap (paste a.target.now a.to a.source.now) (sym (add-one i)),
    )
