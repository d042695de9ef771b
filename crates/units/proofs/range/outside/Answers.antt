-- `units::range::outside` meets its contract: the sign bit of either sum is that of both, and neither has it exactly where the number is within the limit.
use Rattle.std.proofs.Common.{ℕ, ◌+◌, ◌%◌, ◌^◌, sym, ap, ◌∙◌, arith, to_z-of_z}
use Rattle.units.proofs.RangeLaws.{sign_of_both, sign_bits}
use Rattle.units.proofs.range.outside.Goals as goal

pub returns : goal.returns
returns c =
    let is = simp (to_z-of_z, c.ranges.x) at c.bits-number.ensures in
    sign_of_both c.wrapping_add_u64-above.result c.wrapping_sub_u64-below.result
    ∙ sign_bits c.args.limit c.args.x c.requires c.ranges.x
    (c.wrapping_add_u64-above.ensures.value ∙ ap (λ (k : ℕ). (c.args.limit + k) % 2 ^ 64) is)
    (sym (ap (λ (k : ℕ). (c.wrapping_sub_u64-below.result + k) % 2 ^ 64) is) ∙ c.wrapping_sub_u64-below.ensures.value) (omega arith)
