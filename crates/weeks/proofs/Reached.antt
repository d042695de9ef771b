-- A record that passes the test is one that some run of calls leaves, so 11 is given to those alone that none leaves: of a residual's live intervals
-- `high` are at the limit, the next has `low`, the others 0; those after them are not live.
use mathlib.Core.Path.{◌≡◌, refl, sym, ◌∙◌, ap, ap₂}
use mathlib.Core.Bool.{Bool, true, false, cond}
use Prim.Native.Nat.{ℕ, zero, suc, ◌+◌, ◌*◌, ◌≤◌, ◌<◌, min}
use native.Mathlib.Nat.{le_refl}
use native.Mathlib.Omega.{arith}
use lib.Dec.{ltb, eqb}
use lib.IntN.{ℤ, pos, neg_ℤ, nat_abs}
use borrow.Author.Tests.{ltb-true, ltb-false, lt-ltb, le-ltb, eq-eqb, ne_eqb, le-leb}
use Rattle.integers.proofs.Pairs.{loss_negation}
use Rattle.integers.proofs.Bounds.{abs_neg}
use Rattle.integers.specs.Sums.{one, sumℕ}
use Rattle.integers.proofs.Sums.{every_all}
use Rattle.rules.specs.declared.RunningWeek.{RunningWeek}
use Rattle.rules.specs.declared.Whose.TheVariants.{Residual}
use Rattle.rules.specs.Refusals.{taken}
use Rattle.rules.specs.Week.{Interval, interval, is_live, shortfall, in_reach, most_intervals, live_count, live_total, week_fine}
use Rattle.rules.specs.RunningWeek.{base, total_in, left_by_a_run, running, run}
use Rattle.weeks.specs.Runs.{Run}
use Rattle.weeks.proofs.Runs.{run_means, digits}
use Rattle.weeks.specs.Gather.{run_of}
use Rattle.weeks.proofs.ReadsLaws.{fit}

-- an interval's parts, by whether it is live
live_is : (t : Bool) (p : ℤ) → is_live (interval t p) ≡ t
live_is true p = refl
live_is false p = refl

short_is : (t : Bool) (d : ℕ) → shortfall (interval t (neg_ℤ (pos d))) ≡ cond t d 0
short_is true d = loss_negation (pos d)
short_is false d = refl

within_is : (t : Bool) (d : ℕ) → d ≤ base → in_reach Residual (interval t (neg_ℤ (pos d))) ≡ true
within_is true d h = le-leb (nat_abs (neg_ℤ (pos d))) base (omega (arith, abs_neg (pos d)))
within_is false d h = refl

module _ (r : RunningWeek) (h : Run r) where
  abbrev depth : ℕ → ℕ
  depth i = cond (ltb i r.high) base (cond (eqb i r.high) r.low 0)

  abbrev pub week : ℕ → Interval
  week i = interval (ltb i r.live) (neg_ℤ (pos (depth i)))

  high_≤ : r.high ≤ r.live
  high_≤ = omega (arith, h.reached)

  -- where as many are at the limit as are live, nothing is left over
  none_left : r.live ≤ r.high → r.low ≡ 0
  none_left l = omega (arith, h.reached)

  depth_≤ : (i : ℕ) → depth i ≤ base
  depth_≤ i = go (ltb i r.high) (eqb i r.high)
    where
      go : (s t : Bool) → cond s base (cond t r.low 0) ≤ base
      go true t = le_refl base
      go false true = omega (arith, h.small)
      go false false = omega arith

  counts : (n : ℕ) → live_count n week ≡ min n r.live
  unfolding sumℕ
  counts zero = omega arith
  counts (suc n) = ap₂ ◌+◌ (counts n) (ap one (live_is (ltb n r.live) (neg_ℤ (pos (depth n))))) ∙ go (ltb n r.live) refl
    where
      go : (t : Bool) → ltb n r.live ≡ t → min n r.live + one t ≡ min (suc n) r.live
      go true e = let l : n < r.live = ltb-true n r.live e in omega arith
      go false e = let l : r.live ≤ n = ltb-false n r.live e in omega arith

  -- the terms of the total
  at_limit : (n : ℕ) → n < r.high → shortfall (week n) ≡ base
  at_limit n l =
      short_is (ltb n r.live) (depth n) ∙ rw (lt-ltb n r.live (omega (arith, high_≤)), lt-ltb n r.high l)

  at_low : shortfall (week r.high) ≡ r.low
  at_low =
      short_is (ltb r.high r.live) (depth r.high) ∙ rw (le-ltb r.high r.high (le_refl r.high), eq-eqb r.high r.high refl)
      (go (ltb r.high r.live) refl)
    where
      go : (t : Bool) → ltb r.high r.live ≡ t → cond t r.low 0 ≡ r.low
      go true e = refl
      go false e = sym (none_left (ltb-false r.high r.live e))

  at_none : (n : ℕ) → r.high < n → shortfall (week n) ≡ 0
  at_none n l =
      short_is (ltb n r.live) (depth n) ∙ rw (le-ltb n r.high (omega arith), ne_eqb n r.high (λ e. omega arith)) (go (ltb n r.live))
    where
      go : (t : Bool) → ◌≡◌ {A = ℕ} (cond t 0 0) 0
      go true = refl
      go false = refl

  up_to : (n : ℕ) → n ≤ r.high → live_total n week ≡ n * base
  unfolding sumℕ
  up_to zero l = refl
  up_to (suc n) l = ap₂ ◌+◌ (up_to n (omega arith)) (at_limit n (omega arith)) ∙ omega arith

  past : (n : ℕ) → r.high < n → live_total n week ≡ total_in r
  unfolding sumℕ
  past zero l = absurd (omega arith)
  past (suc n) l = go (λ k. past n k) (ltb r.high n) refl
    where
      go : (r.high < n → live_total n week ≡ total_in r) → (t : Bool) → ltb r.high n ≡ t → live_total n week + shortfall (week n) ≡ total_in r
      go ih true e = let k : r.high < n = ltb-true r.high n e in ap₂ ◌+◌ (ih k) (at_none n k) ∙ omega arith
      go ih false e =
          let same : n ≡ r.high = omega (arith, ltb-false r.high n e) in
          rw same (ap₂ ◌+◌ (up_to r.high (le_refl r.high)) at_low)

  whole : live_total r.seen week ≡ total_in r
  whole = go (ltb r.high r.seen) refl
    where
      go : (t : Bool) → ltb r.high r.seen ≡ t → live_total r.seen week ≡ total_in r
      go true e = past r.seen (ltb-true r.high r.seen e)
      go false e =
          let l : r.seen ≤ r.high = ltb-false r.high r.seen e in
          let z : r.low ≡ 0 = none_left (omega (arith, h.counted)) in
          up_to r.seen l ∙ omega (arith, high_≤, h.counted)

  is : run_of r.seen week ≡ r
  is =
      let counted : live_count r.seen week ≡ r.live = counts r.seen ∙ omega (arith, h.counted) in
      ap₂ (running r.seen) counted whole ∙ sym (digits r.seen r.live r.high r.low (total_in r) refl h.small)

  fine : week_fine Residual r.seen week ≡ true
  fine =
      rw (
        le-leb r.seen most_intervals h.short,
        every_all r.seen (λ i. in_reach Residual (week i))
            (λ i l. within_is (ltb i r.live) (depth i) (depth_≤ i)),
      )

  reached : run (λ _. Residual) r.seen week ≡ taken r
  reached = fit Residual week refl r.seen ∙ rw (fine, is)

pub left_by_some_run : (r : RunningWeek) → left_by_a_run r ≡ true → (w : ℕ → Interval) × (run (λ _. Residual) r.seen w ≡ taken r)
left_by_some_run r e = let h = run_means r e in (week r h, reached r h)
