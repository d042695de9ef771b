-- `ratio_of` meets its contract: after i bits, `found` times the sum and what is over are rest·2^i.
use Rattle.std.proofs.Common.{◌≡◌, ℕ, ◌+◌, ◌*◌, ◌^◌, sym, ap, ◌∙◌, add-one, arith}
use native.Mathlib.Nat.{pow-succ'}
use Rattle.share.proofs.part.ratio_of.Goals as goal

-- one power more
twice : (i : ℕ) → 2 ^ (i + 1) ≡ 2 * 2 ^ i
twice i = ap (λ (m : ℕ). 2 ^ m) (add-one i) ∙ pow-succ' 2 i

pub loop-i-preserved : goal.loop-i-preserved
loop-i-preserved c =
    let v = c.loop-i.invariant in
    let e = c.bit_more-p.ensures in
    record {
      within = omega arith;
      below = e.1;
      few = omega (arith, e.2, v.few, twice c.loop-i.i);
      so_far =
          e.0 ∙ ap (λ (m : ℕ). 2 * m) v.so_far ∙ sym (ap (λ (m : ℕ). c.args.rest * m) (twice c.loop-i.i) ∙ omega arith);
    }
