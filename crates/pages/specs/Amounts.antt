-- A number by its sign and its size.
use Rattle.std.specs.Prelude.{Bool, cond, ℕ, ℤ, pos, neg_ℤ, nat_abs}
use Rattle.std.specs.Int.Signed.{lt_z}
use Rattle.pages.specs.declared.Amount.{Amount}

abbrev pub signed : Bool → ℕ → ℤ
signed below size = cond below (neg_ℤ (pos size)) (pos size)

abbrev pub value : Amount → ℤ
value a = signed a.below a.size

-- a number's own sign and size
abbrev pub amount_of : ℤ → Amount
amount_of x = record { below = lt_z x (pos 0); size = nat_abs x }
