-- Laws of the definitions in specs/Runs.antt.
use mathlib.Core.Path.{◌≡◌, refl, sym, ◌∙◌, ap₂}
use mathlib.Core.Bool.{Bool, true, false}
use Prim.Native.Nat.{ℕ, ◌+◌, ◌*◌, ◌-◌, ◌^◌, ◌≤◌, ◌<◌}
use native.Mathlib.Nat.{div-add-mod', mod-lt, le_refl, add-zero}
use native.Mathlib.Omega.{arith}
use lib.Bits.{bit_or, or_add_and, and_le_l, and_le_r}
use lib.Dec.{leb, ltb, eqb, leb→le, ltb→lt}
use lib.IntN.{ℤ, pos, negsuc, nat_abs, ◌+ℤ◌}
use lib.Signed.{◌<ℤ◌, ◌≤ℤ◌, lt_z}
use mir.Syntax.{w64}
use mir.Val.{SFits}
use borrow.Author.Tests.{leb-true, ltb-true, ltb-false, eqb-true, eqb-false, le-leb, lt-ltb}
use Rattle.integers.specs.Pairs.{loss}
use Rattle.integers.proofs.Pairs.{lt_in, v, ◌⊕◌, lt?, le?}
use Rattle.integers.proofs.Bounds.{loss_≤, abs_is, fits! }
use Rattle.integers.proofs.Tests.{ltZ_true, ltZ_false}
use Rattle.integers.specs.Sums.{one, both}
use Rattle.integers.proofs.Casts.{no_loss}
use Rattle.integers.specs.Division.{Divided}
use Rattle.integers.proofs.Division.{quotient, remains}
use Rattle.rules.specs.declared.RunningWeek.{RunningWeek}
use Rattle.rules.specs.declared.Whose.{Whose}
use Rattle.rules.specs.declared.Whose.TheVariants as whose
use Rattle.rules.specs.Quantities.{most_units, performance_limit}
use Rattle.rules.specs.Week.{Interval, live, not_live, is_live, shortfall, within, reach, whose_fine, most_intervals}
use Rattle.rules.specs.RunningWeek.{base, running, total_in, fresh, left_by_a_run, with_interval, add_reply}
use Rattle.weeks.specs.Runs.{Run, units_of, units_fine}

pub run_means : (r : RunningWeek) → left_by_a_run r ≡ true → Run r
unfolding left_by_a_run
run_means r e =
    let a = both (leb r.live r.seen) _ e in
    let b = both (leb r.seen most_intervals) _ a.1 in
    let c = both (ltb r.low base) _ b.1 in
    record { counted = leb-true _ _ a.0; short = leb-true _ _ b.0; small = ltb-true _ _ c.0; reached = leb-true _ _ c.1 }

pub means_run : (r : RunningWeek) → Run r → left_by_a_run r ≡ true
unfolding left_by_a_run
means_run r h = rw (le-leb _ _ h.counted, le-leb _ _ h.short, lt-ltb _ _ h.small, le-leb _ _ h.reached)

pub no_run : (r : RunningWeek) → (Run r → ⊥) → left_by_a_run r ≡ false
no_run r f = go (left_by_a_run r) refl
  where
    go : (t : Bool) → left_by_a_run r ≡ t → t ≡ false
    go true e = absurd (f (run_means r e))
    go false e = refl

-- where `high` is below the number of live ones, `low` need but be a digit
pub any_digit :
    (r : RunningWeek) → r.live ≤ r.seen → r.seen ≤ most_intervals → r.high < r.live → ltb r.low base ≡ left_by_a_run r
any_digit r counted short under = go (ltb r.low base) refl
  where
    go : (t : Bool) → ltb r.low base ≡ t → t ≡ left_by_a_run r
    go true e =
        let small : r.low < base = ltb-true r.low base e in
        sym (means_run r (record { counted = counted; short = short; small = small; reached = omega arith }))
    go false e = sym (no_run r (λ h. omega (arith, h.small, ltb-false r.low base e)))

no_bits : (a b : ℕ) → bit_or a b ≡ 0 → (a ≡ 0) × (b ≡ 0)
no_bits a b e = (omega (arith, or_add_and a b, and_le_r a b), omega (arith, or_add_and a b, and_le_l a b))

-- where it is not, it is their number and `low` is 0
pub no_digit :
    (r : RunningWeek) → r.live ≤ r.seen → r.seen ≤ most_intervals → r.live ≤ r.high → eqb (bit_or (r.high - r.live) r.low) 0 ≡ left_by_a_run r
no_digit r counted short over = go (eqb (bit_or (r.high - r.live) r.low) 0) refl
  where
    go : (t : Bool) → eqb (bit_or (r.high - r.live) r.low) 0 ≡ t → t ≡ left_by_a_run r
    go true e =
        let z = no_bits (r.high - r.live) r.low (eqb-true _ 0 e) in
        sym (means_run r (record { counted = counted; short = short; small = omega (arith, z.1); reached = omega (arith, z.0, z.1) }))
    go false e =
        sym (no_run r (λ h.
        let l : total_in r ≤ r.live * base = h.reached in
        let none : r.high - r.live ≡ 0 = omega arith in
        let zero_low : r.low ≡ 0 = omega arith in
        eqb-false _ 0 e (ap₂ bit_or none zero_low)))

-- ---- the two digits of a total
pub base_some : 0 < base
base_some = ltb→lt 0 base tt

-- they are the only ones below the base
pub digits :
    (seen n high low total : ℕ) → total ≡ high * base + low → low < base → record { seen = seen; live = n; high = high; low = low } ≡ running seen n total
digits seen n high low total e h =
    let d : Divided total base high low = record { is = e; small = h } in
    rw (quotient d, remains d)

pub total_kept : (seen n total : ℕ) → total_in (running seen n total) ≡ total
total_kept seen n total = div-add-mod' total base

-- with one interval more that is not live they are as they were
pub still_more : (r : RunningWeek) → r.low < base → record { seen = r.seen + 1; live = r.live; high = r.high; low = r.low } ≡ with_interval r not_live
still_more r small =
    digits (r.seen + 1) r.live r.high r.low (total_in r) refl small ∙ ap₂ (running (r.seen + 1)) (sym (add-zero r.live))
    (sym (add-zero (total_in r)))

-- a live performance above zero counts and adds nothing
pub counted_more :
    (r : RunningWeek) (p : ℤ) → pos 0 ≤ℤ p → r.low < base →
    record { seen = r.seen + 1; live = r.live + 1; high = r.high; low = r.low } ≡ with_interval r (live p)
counted_more r p h small =
    digits (r.seen + 1) (r.live + 1) r.high r.low (total_in r + loss p) (omega (arith, no_loss p h)) small

pub running_run : (seen n total : ℕ) → n ≤ seen → seen ≤ most_intervals → total ≤ n * base → Run (running seen n total)
running_run seen n total h l t =
    record { counted = h; short = l; small = mod-lt total base_some; reached = rw (total_kept seen n total) t }

pub fresh_run : Run fresh
fresh_run = running_run 0 0 0 (omega arith) (omega arith) (omega arith)

-- ---- what an interval can add
none_below : (n : ℕ) → pos n <ℤ pos 0 → ⊥
none_below n h = go (lt_in h)
  where
    go : n + 0 < 0 + 0 → ⊥
    go h = omega arith

-- the size of a number below zero
pub size_below : (z : ℤ) → z <ℤ pos 0 → nat_abs z ≡ loss z
size_below (pos n) h = absurd (none_below n h)
size_below (negsuc n) h = refl

-- a number below zero is past a limit where the two together are below zero
pub sum_fits : (k : ℕ) (z : ℤ) → k < 2 ^ 63 → z <ℤ pos 0 → SFits w64 z → SFits w64 (pos k +ℤ z)
sum_fits k (pos n) small h f = absurd (none_below n h)
sum_fits k (negsuc n) small h f = fits! w64 (v (pos k) ⊕ v (negsuc n)) (omega (arith, f.sfits)) (omega (arith, f.sfits))

pub past_limit : (k : ℕ) (z : ℤ) → lt_z (pos k +ℤ z) (pos 0) ≡ true → k < nat_abs z
past_limit k z e = omega (arith, lt? (v (pos k) ⊕ v z) (v (pos 0)) (ltZ_true e), abs_is z)

pub in_limit : (k : ℕ) (z : ℤ) → z <ℤ pos 0 → lt_z (pos k +ℤ z) (pos 0) ≡ false → nat_abs z ≤ k
in_limit k (pos n) h e = absurd (none_below n h)
in_limit k (negsuc n) h e = omega (arith, le? (v (pos 0)) (v (pos k) ⊕ v (negsuc n)) (ltZ_false e))

-- no member reaches further than a residual
pub reach_≤ : (m : Whose) → whose_fine m ≡ true → reach m ≤ base
reach_≤ whose.Unit e = leb→le performance_limit base tt
reach_≤ (whose.Group k) e = let h : k ≤ most_units = leb-true k most_units (both (leb 1 k) (leb k most_units) e).1 in omega arith
reach_≤ whose.Residual e = le_refl base

pub within_wider : (x : Interval) {j k : ℕ} → j ≤ k → within j x ≡ true → within k x ≡ true
within_wider (live p) {j} {k} h e = le-leb (nat_abs p) k (omega (arith, leb-true (nat_abs p) j e))
within_wider not_live h e = refl

pub shortfall_≤ : (limit : ℕ) (x : Interval) → limit ≤ base → within limit x ≡ true → shortfall x ≤ one (is_live x) * base
shortfall_≤ limit (live p) h e = omega (arith, leb-true (nat_abs p) limit e, loss_≤ p)
shortfall_≤ limit not_live h e = omega arith

-- a member is tested, and reaches, as a group of so many units
pub fine_units : (m : Whose) → units_fine (units_of m) ≡ whose_fine m
fine_units whose.Unit = refl
fine_units (whose.Group k) = refl
fine_units whose.Residual = refl

pub reach_units : (m : Whose) → units_of m * performance_limit ≡ reach m
reach_units whose.Unit = refl
reach_units (whose.Group k) = refl
reach_units whose.Residual = refl

pub few_units : (k : ℕ) → units_fine k ≡ true → k ≤ most_units
few_units k e = leb-true k most_units (both (leb 1 k) (leb k most_units) e).1

-- so an interval is added to both alike
pub added_as_group : (m : Whose) (x : Interval) (r : RunningWeek) → add_reply (whose.Group (units_of m)) x r ≡ add_reply m x r
unfolding add_reply
added_as_group m x r = rw (fine_units m, reach_units m)

-- one interval more
pub more_run : (r : RunningWeek) (x : Interval) → Run r → r.seen < most_intervals → within base x ≡ true → Run (with_interval r x)
more_run r x h l e =
    running_run (r.seen + 1) (r.live + one (is_live x)) (total_in r + shortfall x) (at_most (is_live x)) (omega arith)
    (omega (arith, shortfall_≤ base x (le_refl base) e, h.reached))
  where
    at_most : (t : Bool) → r.live + one t ≤ r.seen + 1
    at_most true = omega (arith, h.counted)
    at_most false = omega (arith, h.counted)
