-- Laws of the definitions in specs/Rosters.antt.
use Rattle.std.specs.Prelude.{Result, Ok, Err, ⊤}
use mathlib.Core.Path.{◌≡◌, refl, sym, ◌∙◌, ap}
use mathlib.Core.Bool.{Bool, true, false, ◌&&◌}
use mathlib.Core.List.{List}
use Prim.Native.Nat.{ℕ, zero, suc, ◌+◌, ◌*◌, ◌-◌, ◌/◌, ◌≤◌, ◌<◌}
use native.Mathlib.Nat.{mul-le-mul_right, add-mul, le-div_iff_mul-le, div-lt_iff_lt-mul}
use native.Mathlib.Omega.{arith}
use lib.Dec.{leb}
use lib.IntN.{ℤ, pos}
use lib.ListN.{length, take, drop, length-drop}
use lib.Seq.{get_or-take, length-take-le, take_all}
use borrow.Author.Tests.{leb-true, leb-false, le-leb, lt-leb}
use Rattle.integers.specs.Sums.{one, every, both}
use Rattle.integers.proofs.Sums.{every_at, every_step, every_more, every_fails, every_none, every_ext, sumℕ_ext}
use Rattle.rules.specs.declared.Refusal.{Refusal}
use Rattle.rules.specs.declared.Refusal.TheVariants.{TooShort, WrongCount, AverageTooLow, WrongWeek}
use Rattle.rules.specs.declared.WeekDefault.{WeekDefault}
use Rattle.rules.specs.declared.Whose.{Whose}
use Rattle.rules.specs.declared.Whose.TheVariants.{Group}
use Rattle.rules.specs.Refusals.{taken, refused, unless}
use Rattle.rules.specs.Week.{
  Interval,
  interval,
  is_live,
  shortfall,
  in_reach,
  live_bit,
  whose_fine,
  most_intervals,
  live_total,
  live_count,
  default_reply,
  week_reply,
  bytes_for,
  list_reply,
}
use Rattle.rules.specs.WeekRoster.{whose_of, member, member_interval, member_default, long_enough, roster_reply}
use Rattle.weeks.specs.Promises.{told_of, reply_to, RosterPromise}
use Rattle.weeks.specs.Rosters.{AllTold, ColumnsWritten, Long, averages_fine, judged, judgement, member_told, weeks_fine}

-- what a member is told, by its tests
abbrev told_by : Bool → Bool → WeekDefault → Result WeekDefault Refusal
told_by a b d = told_of (unless a WrongWeek (unless b AverageTooLow (taken d)))

is_wrong : (a b : Bool) (d : WeekDefault) {r : Refusal} → told_by a b d ≡ Err r → (r ≡ AverageTooLow → ⊥) → (a ≡ false) × (r ≡ WrongWeek)
is_wrong true true d e other = (cc, cc)
is_wrong true false d e other = absurd (other cc)
is_wrong false b d e other = (refl, cc)

is_low : (a b : Bool) (d : WeekDefault) → told_by a b d ≡ Err AverageTooLow → (a ≡ true) × (b ≡ false)
is_low true true d e = (cc, cc)
is_low true false d e = (refl, refl)
is_low false b d e = (cc, cc)

is_default : (a b : Bool) (d : WeekDefault) {x : WeekDefault} → told_by a b d ≡ Ok x → (a ≡ true) × (b ≡ true)
is_default true true d e = (refl, refl)
is_default true false d e = (cc, cc)
is_default false b d e = (cc, cc)

-- the judgement with one member more, where no week is wrong
stays : (a b c d : Bool) → c ≡ true → d ≡ true → judgement a b ≡ judgement (a && c) (b && d)
stays true true c d e f = rw (e, f)
stays true false c d e f = rw e
stays false b c d e f = refl

falls : (a b c d : Bool) → a ≡ true → c ≡ true → d ≡ false → Err AverageTooLow ≡ judgement (a && c) (b && d)
falls a true c d e f g = rw (e, f, g)
falls a false c d e f g = rw (e, f)

pub group_of : (n : ℕ) → (n ≡ 0 → ⊥) → (n ≡ 1 → ⊥) → Group n ≡ whose_of n
group_of zero a b = absurd (a refl)
group_of (suc zero) a b = absurd (b refl)
group_of (suc (suc k)) a b = refl

-- a product is within a length where one factor is within the quotient
pub long_by_division : (m each l : ℕ) → (each ≡ 0 → ⊥) → leb m (l / each) ≡ leb (m * each) l
long_by_division m each l some = go (leb (m * each) l) refl
  where
    above : 0 < each
    above = omega arith

    go : (t : Bool) → leb (m * each) l ≡ t → leb m (l / each) ≡ t
    go true e = le-leb m (l / each) ((le-div_iff_mul-le {k = each} {x = m} {y = l} above).1 (leb-true (m * each) l e))
    go false e = lt-leb m (l / each) ((div-lt_iff_lt-mul {k = each} {x = l} {y = m} above).1 (leb-false (m * each) l e))

-- ---- a week is what its intervals say
pub week_ext : (m : Whose) (n : ℕ) (w v : ℕ → Interval) → ((i : ℕ) → i < n → w i ≡ v i) → week_reply m n w ≡ week_reply m n v
unfolding week_reply
week_ext m n w v e =
    go (every n (λ i. in_reach m (w i))) (every n (λ i. in_reach m (v i))) (live_total n w) (live_total n v) (live_count n w) (live_count n v)
    (every_ext n _ _ (λ i h. ap (in_reach m) (e i h)))
    (sumℕ_ext n _ _ (λ i h. ap shortfall (e i h)))
    (sumℕ_ext n _ _ (λ i h. ap (λ (x : Interval). one (is_live x)) (e i h)))
  where
    go :
        (a b : Bool) (s t c d : ℕ) → a ≡ b → s ≡ t → c ≡ d →
        unless (whose_fine m) WrongCount (unless (leb n most_intervals && a) WrongWeek (default_reply m s c)) ≡ unless (whose_fine m) WrongCount
        (unless (leb n most_intervals && b) WrongWeek (default_reply m t d))
    go a b s t c d e f g = rw (e, f, g)

module _ (n : ℕ) (ms : List ℕ) (ps : List ℤ) (bits : List ℕ) where
  -- the judgement of the members so far, none of whose weeks is wrong
  abbrev pub Judged : Result ⊤ Refusal → ℕ → Type 0
  Judged found j = (every j (weeks_fine n ms ps bits) ≡ true) × (found ≡ judged n ms ps bits j)

  pub judged_none : Judged (Ok tt) 0
  judged_none = (every_none (weeks_fine n ms ps bits), rw (every_none (weeks_fine n ms ps bits), every_none (averages_fine n ms ps bits)))

  module _ (j : ℕ) (fine : whose_fine (member n ms ps bits j) ≡ true) where
    told_is : member_told n ms ps bits j ≡ told_by (weeks_fine n ms ps bits j) (averages_fine n ms ps bits j) (member_default n ms ps bits j)
    unfolding week_reply
    told_is = rw fine

    pub judged_wrong : {r : Refusal} → j < length ms → member_told n ms ps bits j ≡ Err r → (r ≡ AverageTooLow → ⊥) → Err r ≡ judged n ms ps bits (length ms)
    judged_wrong h e other =
        let wrong = is_wrong (weeks_fine n ms ps bits j) (averages_fine n ms ps bits j) (member_default n ms ps bits j) (sym told_is ∙ e) other in
        rw (every_fails (length ms) (weeks_fine n ms ps bits) j h wrong.0, wrong.1)

    pub judged_low : {found : Result ⊤ Refusal} → Judged found j → member_told n ms ps bits j ≡ Err AverageTooLow → Judged (Err AverageTooLow) (j + 1)
    judged_low sound e =
        let low = is_low (weeks_fine n ms ps bits j) (averages_fine n ms ps bits j) (member_default n ms ps bits j) (sym told_is ∙ e) in (
          every_step j (weeks_fine n ms ps bits) sound.0 low.0,
          rw (every_more j (weeks_fine n ms ps bits), every_more j (averages_fine n ms ps bits))
              (falls (every j (weeks_fine n ms ps bits)) (every j (averages_fine n ms ps bits)) (weeks_fine n ms ps bits j) (averages_fine n ms ps bits j) sound.0 low.0 low.1),
        )

    pub judged_more : {found : Result ⊤ Refusal} {x : WeekDefault} → Judged found j → member_told n ms ps bits j ≡ Ok x → Judged found (j + 1)
    judged_more sound e =
        let told = is_default (weeks_fine n ms ps bits j) (averages_fine n ms ps bits j) (member_default n ms ps bits j) (sym told_is ∙ e) in (
          every_step j (weeks_fine n ms ps bits) sound.0 told.0,
          sound.1 ∙ rw (every_more j (weeks_fine n ms ps bits), every_more j (averages_fine n ms ps bits))
              (stays (every j (weeks_fine n ms ps bits)) (every j (averages_fine n ms ps bits)) (weeks_fine n ms ps bits j) (averages_fine n ms ps bits j) told.0 told.1),
        )

  -- what a member's own part of the lists comes to
  pub own_part :
      (Long n ms ps bits) → (j : ℕ) → j < length ms →
      list_reply (member n ms ps bits j) (take n (drop (j * n) ps)) (drop (j * bytes_for n) bits) ≡ week_reply (member n ms ps bits j) n
      (member_interval n ms ps bits j)
  unfolding list_reply
  own_part long j h =
      let b = bytes_for n in
      let all_n : (j + 1) * n ≤ length ms * n = mul-le-mul_right n (omega arith) in
      let all_b : (j + 1) * b ≤ length ms * b = mul-le-mul_right b (omega arith) in
      let own : length (take n (drop (j * n) ps)) ≡ n = length-take-le n (drop (j * n) ps)
      (rw (length-drop (j * n) ps) (omega (arith, long.weeks, add-mul j 1 n))) in
      let room : b ≤ length (drop (j * b) bits) = rw (length-drop (j * b) bits) (omega (arith, long.bytes, add-mul j 1 b)) in
      rw (own, le-leb b (length (drop (j * b) bits)) room)
      (week_ext _ n _ _ (λ i l. ap (interval (live_bit (drop (j * b) bits) i)) (get_or-take n (drop (j * n) ps) i (pos 0) l)))

  -- the same of the part as the code cuts it
  pub own_part_cut :
      (Long n ms ps bits) → (j : ℕ) → j < length ms → (m : Whose) (x y b : ℕ) → m ≡ member n ms ps bits j → x ≡ n → b ≡ bytes_for n → y ≡ length bits - j * b →
      list_reply m (take x (drop (j * n) ps)) (take y (drop (j * b) bits)) ≡ week_reply (member n ms ps bits j) n (member_interval n ms ps bits j)
  own_part_cut long j h m x y b e f g k =
      let all : take y (drop (j * b) bits) ≡ drop (j * b) bits = take_all y (drop (j * b) bits) (omega (arith, length-drop (j * b) bits)) in
      rw (all, e, f, g) (own_part long j h)

  -- where its tests hold, a member is told its default
  pub told_default :
      (j : ℕ) → whose_fine (member n ms ps bits j) ≡ true → (weeks_fine n ms ps bits) j ≡ true → (averages_fine n ms ps bits) j ≡ true →
      member_told n ms ps bits j ≡ Ok (member_default n ms ps bits j)
  unfolding week_reply
  told_default j a b c = rw (a, b, c)

-- ---- the whole promise, by the tests
module _ (n : ℕ) (ms : List ℕ) (ps : List ℤ) (bits counts : List ℕ) (defaults : List ℤ) where
  abbrev fine : ℕ → Bool
  fine j = whose_fine (member n ms ps bits j)

  abbrev m : ℕ
  m = length ms

  replied :
      (a b c d : Bool) → long_enough n ms ps bits (length counts) (length defaults) ≡ a → every m fine ≡ b → every m (weeks_fine n ms ps bits) ≡ c →
      every m (averages_fine n ms ps bits) ≡ d →
      reply_to n ms ps bits counts defaults ≡ unless a TooShort (unless b WrongCount (unless c WrongWeek (unless d AverageTooLow (taken tt))))
  unfolding roster_reply
  replied a b c d e f g h = rw (e, f, g, h)

  pub roster_refused :
      (r : Refusal) → reply_to n ms ps bits counts defaults ≡ refused r → RosterPromise n ms ps bits counts defaults (Err r) counts defaults
  roster_refused r e = record { reply = rw e; counted = rw e; averaged = rw e }

  pub roster_short :
      false ≡ long_enough n ms ps bits (length counts) (length defaults) →
      RosterPromise n ms ps bits counts defaults (Err TooShort) counts defaults
  roster_short e = roster_refused TooShort (replied false (every m fine) (every m (weeks_fine n ms ps bits)) (every m (averages_fine n ms ps bits))
      (sym e) refl refl refl)

  module _ (long : true ≡ long_enough n ms ps bits (length counts) (length defaults)) where
    pub record Roomy : Type 0 where
      pub lists : Long n ms ps bits
      pub counts_room : m ≤ length counts
      pub defaults_room : m ≤ length defaults

    pub roomy : Roomy
    roomy =
        let a = both (leb (m * n) (length ps)) _ (sym long) in
        let b = both (leb (m * bytes_for n) (length bits)) _ a.1 in
        let c = both (leb m (length counts)) _ b.1 in
        record {
          lists = record { weeks = leb-true _ _ a.0; bytes = leb-true _ _ b.0 };
          counts_room = leb-true _ _ c.0;
          defaults_room = leb-true _ _ c.1;
        }

    pub roster_unfit : false ≡ every m fine → RosterPromise n ms ps bits counts defaults (Err WrongCount) counts defaults
    roster_unfit e = roster_refused WrongCount (replied true false (every m (weeks_fine n ms ps bits)) (every m (averages_fine n ms ps bits)) (sym long)
        (sym e) refl refl)

    module _ (who : true ≡ every m fine) where
      by :
          (c d : Bool) → every m (weeks_fine n ms ps bits) ≡ c → every m (averages_fine n ms ps bits) ≡ d →
          reply_to n ms ps bits counts defaults ≡ unless c WrongWeek (unless d AverageTooLow (taken tt))
      by c d e f = replied true true c d (sym long) (sym who) e f

      pub roster_judged : {r : Refusal} → judged n ms ps bits m ≡ Err r → RosterPromise n ms ps bits counts defaults (Err r) counts defaults
      roster_judged {r} e =
          roster_refused r (by (every m (weeks_fine n ms ps bits)) (every m (averages_fine n ms ps bits)) refl refl
          ∙ go (every m (weeks_fine n ms ps bits)) (every m (averages_fine n ms ps bits)) e)
        where
          go : (c d : Bool) → judgement c d ≡ Err r → unless c WrongWeek (unless d AverageTooLow (taken (tt {0}))) ≡ refused r
          go true true e = cc
          go true false e = cc
          go false d e = cc

      module _ {x : ⊤} (sound : judged n ms ps bits m ≡ Ok x) where
        passed : (every m (weeks_fine n ms ps bits) ≡ true) × (every m (averages_fine n ms ps bits) ≡ true)
        passed = go (every m (weeks_fine n ms ps bits)) (every m (averages_fine n ms ps bits)) sound
          where
            go : (c d : Bool) → judgement c d ≡ Ok x → (c ≡ true) × (d ≡ true)
            go true true e = (refl, refl)
            go true false e = (cc, cc)
            go false d e = (cc, cc)

        pub all_told : AllTold n ms ps bits
        all_told =
            record {
              all = λ j l. told_default n ms ps bits j (every_at m fine (sym who) j l) (every_at m (weeks_fine n ms ps bits) passed.0 j l)
                  (every_at m (averages_fine n ms ps bits) passed.1 j l);
            }

        pub roster_done :
            {r : Result ⊤ Refusal} {counts' : List ℕ} {defaults' : List ℤ} → r ≡ Ok tt → ColumnsWritten n ms ps bits counts defaults counts' defaults' →
            RosterPromise n ms ps bits counts defaults r counts' defaults'
        roster_done done columns =
            let all = by true true passed.0 passed.1 in
            record { reply = done ∙ rw all; counted = rw all columns.counted; averaged = rw all columns.averaged }
