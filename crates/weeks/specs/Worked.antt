-- Worked weeks, by computing: no live interval, one, the largest, halves, and both sides of each limit.
use Rattle.std.specs.Prelude.{◌≡◌, refl, true, false, cond, [], ◌∷◌, ℕ, ◌+◌, ◌*◌, ◌^◌, ◌<◌, ltb, eqb, ℤ, pos, negsuc, neg_ℤ}
use Rattle.std.proofs.Common.{ltb→lt}
use Rattle.integers.specs.Sums.{sumℕ, every}
use Rattle.rules.specs.declared.Refusal.TheVariants.{TooShort, WrongCount, AverageTooLow, WrongWeek}
use Rattle.rules.specs.declared.WeekDefault.{WeekDefault}
use Rattle.rules.specs.declared.Whose.TheVariants.{Unit, Group, Residual}
use Rattle.rules.specs.Refusals.{Reply, taken, refused}
use Rattle.rules.specs.Week.{Interval, live, not_live, live_total, week_reply, list_reply}
use Rattle.rules.specs.RunningWeek.{left_by_a_run}

abbrev is : ℕ → ℤ → Reply WeekDefault
is n d = taken (record { count = n; default = d })

-- n live intervals of one performance
abbrev flat : ℤ → ℕ → Interval
flat p i = live p

-- -a at the first interval, 0 at the others
abbrev first : ℕ → ℕ → Interval
first a i = live (cond (eqb i 0) (neg_ℤ (pos a)) (pos 0))

abbrev unit_limit : ℕ
unit_limit = 5_625_000_000_000_000

abbrev residual_reach : ℕ
residual_reach = 2_880_000_000_000_000_000

pub record WorkedWeeks : Type 0 where
  -- no interval; none live, whatever stands there; one
  pub empty : week_reply Unit 0 (flat (pos 7)) ≡ is 0 (pos 0)
  pub none_live : week_reply Residual 2_016 (λ i. not_live) ≡ is 0 (pos 0)
  pub not_looked_at : list_reply Unit (negsuc 9_223_372_036_854_775_807 ∷ []) (254 ∷ []) ≡ is 0 (pos 0)
  pub one : list_reply Unit (neg_ℤ (pos 9) ∷ neg_ℤ (pos 4) ∷ []) (2 ∷ []) ≡ is 1 (neg_ℤ (pos 4))
  -- a live performance above 0 counts and adds 0
  pub above_counts : week_reply Unit 2 (λ i. live (cond (eqb i 0) (pos 100) (neg_ℤ (pos 100)))) ≡ is 2 (neg_ℤ (pos 50))
  -- divided by the live ones alone
  pub over_the_live : list_reply Unit (neg_ℤ (pos 6) ∷ neg_ℤ (pos 6) ∷ neg_ℤ (pos 6) ∷ []) (5 ∷ []) ≡ is 2 (neg_ℤ (pos 6))
  -- halves go away from zero, and what is less does not
  pub half : week_reply Unit 2 (first 1) ≡ is 2 (neg_ℤ (pos 1))
  pub half_of_three : week_reply Unit 2 (first 3) ≡ is 2 (neg_ℤ (pos 2))
  pub under_half : week_reply Unit 3 (first 1) ≡ is 3 (pos 0)
  pub over_half : week_reply Unit 3 (first 2) ≡ is 3 (neg_ℤ (pos 1))
  -- 2,016 residual intervals at the limit pass 64 bits, and their average is refused; so is that of a group of two
  pub past_64_bits : 2 ^ 64 < live_total 2_016 (flat (neg_ℤ (pos residual_reach)))
  pub residual_week : week_reply Residual 2_016 (flat (neg_ℤ (pos residual_reach))) ≡ refused AverageTooLow
  pub group_week : week_reply (Group 2) 2_016 (flat (neg_ℤ (pos (2 * unit_limit)))) ≡ refused AverageTooLow
  -- a total past 64 bits whose average is a default: 35 intervals at the limit among 2,016
  pub large_week : week_reply Residual 2_016 (λ i. live (cond (ltb i 35) (neg_ℤ (pos residual_reach)) (pos 0))) ≡ is 2_016 (neg_ℤ (pos 50_000_000_000_000_000))
  pub next_week :
      week_reply Residual 2_016 (λ i. live (cond (ltb i 35) (neg_ℤ (pos residual_reach)) (cond (eqb i 35) (neg_ℤ (pos 1_008)) (pos 0)))) ≡ refused AverageTooLow
  pub under_next :
      week_reply Residual 2_016 (λ i. live (cond (ltb i 35) (neg_ℤ (pos residual_reach)) (cond (eqb i 35) (neg_ℤ (pos 1_007)) (pos 0)))) ≡ is 2_016
      (neg_ℤ (pos 50_000_000_000_000_000))
  -- both sides of each limit
  pub unit_at : week_reply Unit 1 (flat (neg_ℤ (pos unit_limit))) ≡ is 1 (neg_ℤ (pos unit_limit))
  pub unit_past : week_reply Unit 1 (flat (neg_ℤ (pos (unit_limit + 1)))) ≡ refused WrongWeek
  pub unit_past_above : week_reply Unit 1 (flat (pos (unit_limit + 1))) ≡ refused WrongWeek
  pub least : week_reply Residual 1 (flat (negsuc 9_223_372_036_854_775_807)) ≡ refused WrongWeek
  pub residual_at : week_reply Residual 1 (flat (pos residual_reach)) ≡ is 1 (pos 0)
  pub residual_past : week_reply Residual 1 (flat (pos (residual_reach + 1))) ≡ refused WrongWeek
  pub group_at : week_reply (Group 512) 2 (flat (pos residual_reach)) ≡ is 2 (pos 0)
  pub group_past : week_reply (Group 512) 2 (flat (pos (residual_reach + 1))) ≡ refused WrongWeek
  pub group_of_none : week_reply (Group 0) 1 (flat (pos 0)) ≡ refused WrongCount
  pub group_of_513 : week_reply (Group 513) 1 (flat (pos 0)) ≡ refused WrongCount
  pub longest : week_reply Unit 2_016 (flat (neg_ℤ (pos unit_limit))) ≡ is 2_016 (neg_ℤ (pos unit_limit))
  pub too_long : week_reply Unit 2_017 (λ i. not_live) ≡ refused WrongWeek
  pub too_few_bits : list_reply Unit (pos 0 ∷ pos 0 ∷ pos 0 ∷ pos 0 ∷ pos 0 ∷ pos 0 ∷ pos 0 ∷ pos 0 ∷ pos 0 ∷ []) (0 ∷ []) ≡ refused TooShort
  -- 17 comes before 14
  pub wrong_before_low :
      week_reply (Group 2) 2 (λ i. live (cond (eqb i 0) (neg_ℤ (pos (2 * unit_limit))) (neg_ℤ (pos (2 * unit_limit + 1))))) ≡ refused WrongWeek
  -- a record that no run leaves
  pub more_live_than_seen : left_by_a_run (record { seen = 1; live = 2; high = 0; low = 0 }) ≡ false
  pub at_its_reach : left_by_a_run (record { seen = 2; live = 2; high = 2; low = 0 }) ≡ true
  pub over_its_reach : left_by_a_run (record { seen = 2; live = 2; high = 2; low = 1 }) ≡ false
  pub second_digit_over : left_by_a_run (record { seen = 2; live = 2; high = 0; low = residual_reach }) ≡ false

pub worked_weeks : WorkedWeeks
unfolding sumℕ every week_reply list_reply left_by_a_run
worked_weeks =
    record {
      empty = refl;
      none_live = refl;
      not_looked_at = refl;
      one = refl;
      above_counts = refl;
      over_the_live = refl;
      half = refl;
      half_of_three = refl;
      under_half = refl;
      over_half = refl;
      past_64_bits = ltb→lt (2 ^ 64) (live_total 2_016 (flat (neg_ℤ (pos residual_reach)))) tt;
      residual_week = refl;
      group_week = refl;
      large_week = refl;
      next_week = refl;
      under_next = refl;
      unit_at = refl;
      unit_past = refl;
      unit_past_above = refl;
      least = refl;
      residual_at = refl;
      residual_past = refl;
      group_at = refl;
      group_past = refl;
      group_of_none = refl;
      group_of_513 = refl;
      longest = refl;
      too_long = refl;
      too_few_bits = refl;
      wrong_before_low = refl;
      more_live_than_seen = refl;
      at_its_reach = refl;
      over_its_reach = refl;
      second_digit_over = refl;
    }
