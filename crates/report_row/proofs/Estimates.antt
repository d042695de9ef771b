-- The year and the month in which a day falls, from an estimate that is at most one off: the days before a year are about the mean year's, those before a
-- month about 30 7/12 each.
use mathlib.Core.Path.{◌≡◌, refl, sym, ap}
use mathlib.Core.Bool.{Bool, true, false, cond}
use Prim.Native.Nat.{ℕ, ◌+◌, ◌*◌, ◌-◌, ◌/◌, ◌≤◌, ◌<◌}
use native.Mathlib.Omega.{arith}
use lib.Dec.{ltb}
use borrow.Author.Tests.{ltb-true, ltb-false}
use Rattle.integers.specs.Sums.{sumℕ, one}
use Rattle.integers.proofs.Sums.{sumℕ_prefix}
use Rattle.rules.specs.Calendar.{month_days, year_days, year_of}
use Rattle.report_row.specs.Dates.{last_day, month_in}
use Rattle.report_row.proofs.CalendarLaws.{years_sum, months_sum, falls_at}

-- ---- years
pub years_bounds : (k : ℕ) → (400 * sumℕ k year_days ≤ 146_097 * k + 699) × (146_097 * k ≤ 400 * sumℕ k year_days + 396)
years_bounds k = (omega (arith, years_sum k), omega (arith, years_sum k))

abbrev year_estimate : ℕ → ℕ
year_estimate d = (400 * d + 396) / 146_097

module _ (d : ℕ) where
  -- a day before the estimated year falls into the one before
  pub year_some : d < sumℕ (year_estimate d) year_days → 1 ≤ year_estimate d
  year_some l = omega (arith, years_sum (year_estimate d))

  pub year_before : d ≤ last_day → d < sumℕ (year_estimate d) year_days → year_estimate d - 1 ≡ (year_of d).piece
  year_before h l =
      let k = year_estimate d - 1 in
      let e : year_estimate d ≡ k + 1 = omega (arith, year_some l) in
      sym
      (ap (λ x. x.piece)
      (falls_at year_days 7_999 d k (omega arith) (omega (arith, (years_bounds k).0)) (omega (arith, ap (λ (m : ℕ). sumℕ m year_days) e))))

  pub year_there : d ≤ last_day → sumℕ (year_estimate d) year_days ≤ d → year_estimate d ≡ (year_of d).piece
  year_there h l =
      let k = year_estimate d in
      sym (ap (λ x. x.piece) (falls_at year_days 7_999 d k (omega arith) l (omega (arith, (years_bounds (k + 1)).1))))

-- ---- months
pub months_bounds : (t : Bool) (m : ℕ) → m ≤ 12 → (12 * sumℕ m (month_days t) ≤ 367 * m + 5) × (367 * m ≤ 12 * sumℕ m (month_days t) + 30)
months_bounds t m h = go (ltb m 2) t (months_sum t m h)
  where
    go : (a b : Bool) → sumℕ m (month_days t) + cond a 0 (2 - one b) ≡ (367 * m + 5) / 12 →
        (12 * sumℕ m (month_days t) ≤ 367 * m + 5) × (367 * m ≤ 12 * sumℕ m (month_days t) + 30)
    go true b e = (omega arith, omega arith)
    go false true e = (omega arith, omega arith)
    go false false e = (omega arith, omega arith)

abbrev month_estimate : ℕ → ℕ
month_estimate d = d / 32

module _ (t : Bool) (d : ℕ) (h : d < sumℕ 12 (month_days t)) where
  pub month_small : month_estimate d ≤ 11
  month_small = omega (arith, h, (months_bounds t 12 (omega arith)).0)

  pub month_there : d < sumℕ (month_estimate d + 1) (month_days t) → month_estimate d ≡ (month_in t d).piece
  month_there l =
      let k = month_estimate d in
      sym
      (ap (λ x. x.piece)
      (falls_at (month_days t) 11 d k month_small (omega (arith, (months_bounds t k (omega (arith, month_small))).0)) l))

  pub month_behind : sumℕ (month_estimate d + 1) (month_days t) ≤ d → month_estimate d + 1 ≡ (month_in t d).piece
  month_behind l =
      let k = month_estimate d + 1 in
      sym
      (ap (λ x. x.piece)
      (falls_at (month_days t) 11 d k (inside (ltb k 12) refl) l
      (omega (arith, inside (ltb k 12) refl, (months_bounds t (k + 1) (omega (arith, inside (ltb k 12) refl))).1))))
    where
      inside : (s : Bool) → ltb (month_estimate d + 1) 12 ≡ s → month_estimate d + 1 ≤ 11
      inside true e = omega (arith, ltb-true (month_estimate d + 1) 12 e)
      inside false e =
          absurd (omega (arith, h, l, sumℕ_prefix 12 (month_estimate d + 1) (month_days t) (ltb-false (month_estimate d + 1) 12 e)))
