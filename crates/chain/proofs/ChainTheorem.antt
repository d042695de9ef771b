-- THE CHAIN: whatever the calls were handed, the tally and the lent lists are what the rules say of the records that were taken, all of them.
use Rattle.std.specs.Prelude.{Ok}
use mathlib.Core.Path.{◌≡◌, refl, sym, ◌∙◌, ap, subst}
use mathlib.Core.Bool.{true}
use mathlib.Core.List.{List}
use Prim.Native.Nat.{ℕ, zero, suc, ◌+◌, ◌-◌, ◌≤◌, ◌<◌}
use native.Mathlib.Numerals.{add-one}
use native.Mathlib.Decide.{dec_lt}
use native.Mathlib.Omega.{arith}
use lib.Dec.{eqb, ltb}
use lib.ListN.{get_or}
use borrow.Author.Tests.{lt-ltb, le-ltb, ne_eqb}
use Rattle.integers.specs.Bounds.{Within}
use Rattle.integers.proofs.Sums.{none_below}
use Rattle.integers.proofs.Fills.{filled_none}
use Rattle.rules.specs.declared.Located.{Located}
use Rattle.rules.specs.Quantities.{points, regions, measure_limit}
use Rattle.rules.specs.Bytes.{number_at}
use Rattle.rules.specs.Refusals.{Reply, taken, refused}
use Rattle.rules.specs.Book.{Region, Unit, Requirement}
use Rattle.rules.specs.Contents.{Counts, contents}
use Rattle.rules.specs.UnitRecord.{unit_in}
use Rattle.rules.specs.Groups.{group_fine}
use Rattle.rules.specs.RequirementRecord.{requirement_in}
use Rattle.laws.proofs.LimitsLaws.{settings_fit, region_fits, unit_fits}
use Rattle.rules.specs.Fields.{good_at}
use Rattle.rules.specs.Measure.{measure}
use Rattle.laws.proofs.MeasureLaws.{measure_within}
use Rattle.interval.specs.declared.Tally.{Tally}
use Rattle.interval.specs.declared.Step.{Step}
use Rattle.interval.specs.Tally.{next_place, settings_of, before_units, book_end, next_region, units_taken}
use Rattle.interval.specs.Lent.{Lent, group_fits}
use Rattle.interval.specs.Calls.{fresh, opened, left, settled, counted, unit_counted, settings_reply, frequency_reply, unit_reply, requirement_reply}
use Rattle.interval.specs.Promises.{ContentsPromise, SettingsPromise, FrequencyPromise, UnitPromise, RequirementPromise, region_kept, unit_kept}
use Rattle.chain.specs.Long.{Long}
use Rattle.chain.specs.Taken.{counts_in}
use Rattle.interval.proofs.Calls.{step_taken, step_refused, left_refused}
use Rattle.chain.proofs.Taken.{
  contents_is,
  settings_is,
  region_is,
  unit_is,
  requirement_is,
  settings_passed,
  frequency_passed,
  unit_passed,
  requirement_passed,
  behind_taken,
}
use Rattle.chain.specs.Chain.{
  Taken,
  Refused,
  Chain,
  begun,
  took_settings,
  took_frequency,
  took_unit,
  took_requirement,
  refused_settings,
  refused_frequency,
  refused_unit,
  refused_requirement,
  regions_among,
  units_among,
  the_settings,
  region,
  least_at,
  RecordTaken,
  deviations_at,
  unit,
  Leaves,
  Means,
}
use Rattle.chain.specs.PlantsAt.{units_before}
use Rattle.chain.proofs.ChainSteps.{was_long, one_region, group_judged, region_leaves, unit_leaves}

-- ---- refused calls leave everything as it came
pub frequency_stays : {t : Tally} {p : List ℕ} {l l' : Lent} {r : Step} {why : Located} → FrequencyPromise t p l r l' → Refused r why →
    (r.tally ≡ t) × (l' ≡ l)
frequency_stays {t} {p} {l} c h =
    let w = step_refused _ t (frequency_reply t p l) c.reply h in
    (w.1, c.lent ∙ left_refused (region_kept t) (next_place t) (frequency_reply t p l) l w.0)

pub unit_stays : {t : Tally} {p : List ℕ} {l l' : Lent} {r : Step} {why : Located} → UnitPromise t p l r l' → Refused r why → (r.tally ≡ t) × (l' ≡ l)
unit_stays {t} {p} {l} c h =
    let w = step_refused _ t (unit_reply t p l) c.reply h in
    (w.1, c.lent ∙ left_refused (unit_kept t) (next_place t) (unit_reply t p l) l w.0)

-- ---- both kinds of record have their number in front
pub unit_number : (bs : List ℕ) → (unit_in bs).number ≡ number_at 2 0 bs
unfolding unit_in
unit_number bs = refl

pub requirement_number : (bs : List ℕ) → (requirement_in bs).number ≡ number_at 2 0 bs
unfolding requirement_in
requirement_number bs = refl

-- ---- how many regions and units are among the records
regions_now : (k : ℕ) → k ≤ regions → regions_among (suc k) ≡ k
regions_now k h = omega arith

regions_all : (n : ℕ) → before_units ≤ n → regions_among n ≡ regions
regions_all n h = omega arith

-- where a region stands among the records
region_place : (n r : ℕ) → r < regions_among n → (0 < n) × (suc r < n) × (suc r < before_units)
region_place n r h = (omega arith, omega arith, omega arith)

units_none : (u n : ℕ) → n ≤ before_units → units_among u n ≡ 0
units_none u n h = omega arith

units_now : (u n : ℕ) → n ≤ before_units + u → units_among u n ≡ n - before_units
units_now u n h = omega arith

units_then : (u n : ℕ) → before_units ≤ n → n < before_units + u → units_among u (suc n) ≡ suc (n - before_units)
units_then u n h l = omega arith

units_all : (u n : ℕ) → before_units + u ≤ n → units_among u n ≡ u
units_all u n h = omega arith

-- ---- before the first record
opened_taken : {t : Tally} (reply : Reply Counts) → Ok t ≡ opened reply → (c : Counts) × (reply ≡ taken c) × (t ≡ fresh c)
opened_taken (taken c) e = (c, refl, cc)
opened_taken (refused why) e = let z : ◌≡◌ {A = ℕ} 0 1 = cc in absurd (omega arith)

module _ (head : List ℕ) (part : ℕ → List ℕ) (l₀ : Lent) where
  abbrev c : Counts
  c = counts_in head

  nothing_left : Leaves part l₀ 0 0 l₀
  unfolding deviations_at
  nothing_left =
      record {
        measures = sym (filled_none _ _);
        sums = sym (filled_none _ _);
        figures = sym (filled_none _ _);
        numbers = sym (filled_none _ _);
        homes = sym (filled_none _ _);
        rows = sym (filled_none _ _);
        groups = sym (filled_none _ _);
        deviations = refl;
      }

  start : {t : Tally} → ContentsPromise head (Ok t) → Means head part l₀ 0 t l₀
  unfolding least_at
  start {t} w =
      let a = opened_taken (contents head) w.reply in
      let is = (contents_is head a.0 a.1).0 in
      let none : units_among c.units 0 ≡ 0 = omega arith in
      record {
        table = a.1 ∙ ap taken (sym is);
        units = ap (λ (t : Tally). t.units) a.2 ∙ ap (λ (c : Counts). c.units) (sym is);
        requirements = ap (λ (t : Tally). t.requirements) a.2 ∙ ap (λ (c : Counts). c.requirements) (sym is);
        records = ap (λ (t : Tally). t.records) a.2;
        most = omega arith;
        least = ap (λ (t : Tally). t.least) a.2;
        before = λ _. ap settings_of a.2;
        kept = λ h. none_below 0 h;
        taken_each = λ m h. none_below m h;
        long = λ h. absurd (omega arith);
        lent = rw none nothing_left;
      }

  -- ---- one record more
  module _ {n : ℕ} {t : Tally} {l : Lent} (w : Means head part l₀ n t l) where
    next : {t' : Tally} {l' : Lent} → t'.units ≡ t.units → t'.requirements ≡ t.requirements → t'.records ≡ suc n →
        t'.least ≡ least_at part c.units (suc n) → settings_of t' ≡ the_settings part → n < before_units + c.units + c.requirements →
        RecordTaken part c n → (1 < suc n → Long l₀ (units_among c.units (suc n))) →
        Leaves part l₀ (regions_among (suc n)) (units_among c.units (suc n)) l' → Means head part l₀ (suc n) t' l'
    next us rs records least s more this long lent =
        record {
          table = w.table;
          units = us ∙ w.units;
          requirements = rs ∙ w.requirements;
          records = records;
          most = more;
          least = least;
          before = λ e. absurd (omega arith);
          kept = λ _. s;
          taken_each = λ m h. each m h (dec_lt m n);
          long = long;
          lent = lent;
        }
      where
        each : (m : ℕ) → m < suc n → Dec (m < n) → RecordTaken part c m
        each m h (yes l) = w.taken_each m l
        each m h (no l) = let e : n ≡ m = omega arith in subst (RecordTaken part c) e this

    -- one that is counted, once the settings are in
    counts : {least : ℕ} {t' : Tally} {l' : Lent} → 0 < n → t' ≡ counted least t → least ≡ least_at part c.units (suc n) →
        n < before_units + c.units + c.requirements → RecordTaken part c n → Long l₀ (units_among c.units (suc n)) →
        Leaves part l₀ (regions_among (suc n)) (units_among c.units (suc n)) l' → Means head part l₀ (suc n) t' l'
    counts h e least more this long =
        next (ap (λ (t : Tally). t.units) e) (ap (λ (t : Tally). t.requirements) e)
        (ap (λ (t : Tally). t.records) e ∙ ap (λ (m : ℕ). m + 1) w.records ∙ add-one n) (ap (λ (t : Tally). t.least) e ∙ least)
        (ap settings_of e ∙ w.kept h) more this (λ _. long)

  settings_next : (n : ℕ) {t : Tally} {l : Lent} {r : Step} → Means head part l₀ n t l → SettingsPromise t (part n) r → Taken r →
      Means head part l₀ (suc n) r.tally l
  unfolding least_at
  settings_next zero {t} w p h =
      let a = step_taken (settled t) t (settings_reply t (part 0)) p.reply h in
      let b = (settings_passed t (part 0) a.0 a.1).1 in
      let is = (settings_is (part 0) a.0 b).0 in
      let e = a.2 in
      next w (ap (λ (t : Tally). t.units) e) (ap (λ (t : Tally). t.requirements) e) (ap (λ (t : Tally). t.records) e) (ap (λ (t : Tally). t.least) e)
      (ap settings_of e ∙ sym is) (omega arith)
      (record {
        as_settings = λ _. b ∙ ap taken (sym is);
        as_frequency = λ f _. none_below 0 f;
        as_unit = λ f _. absurd (omega arith);
        as_requirement = λ f. absurd (omega arith);
      })
      (λ h. none_below 0 (omega arith)) w.lent
  settings_next (suc n) {t} w p h =
      let a = step_taken (settled t) t (settings_reply t (part (suc n))) p.reply h in
      absurd (omega (arith, w.records, (settings_passed t (part (suc n)) a.0 a.1).0))

  frequency_next : (n : ℕ) {t : Tally} {l l' : Lent} {r : Step} → Means head part l₀ n t l → FrequencyPromise t (part n) l r l' → Taken r →
      Means head part l₀ (suc n) r.tally l'
  unfolding least_at
  frequency_next zero {t} {l} w call h =
      let a = step_taken (λ _. counted 0 t) t (frequency_reply t (part 0) l) call.reply h in
      absurd (omega (arith, w.records, (frequency_passed t (part 0) l a.0 a.1).first))
  frequency_next (suc k) {t} {l} w call h =
      let a = step_taken (λ _. counted 0 t) t (frequency_reply t (part (suc k)) l) call.reply h in
      let f = frequency_passed t (part (suc k)) l a.0 a.1 in
      let is = region_is (next_region t) (part (suc k)) a.0 f.record_taken in
      let leaves = call.lent ∙ ap (λ (x : Reply Region). left (region_kept t) x l) (a.1 ∙ ap taken (sym is)) in
      let few : k < regions = omega (arith, w.records, f.last) in
      let lent : Leaves part l₀ k 0 l = rw (regions_now k (omega arith), units_none c.units (suc k) (omega arith)) at w.lent in
      let before : ltb (suc k) before_units ≡ true = lt-ltb (suc k) before_units (omega arith) in
      counts w (omega arith) a.2 (rw before) (omega arith)
      (record {
        as_settings = λ f. absurd (omega arith);
        as_frequency = λ _ _. rw (ap (λ (m : ℕ). m - 1) w.records) at (f.record_taken ∙ ap taken (sym is));
        as_unit = λ f _. absurd (omega arith);
        as_requirement = λ f. absurd (omega arith);
      })
      (rw (units_none c.units (suc (suc k)) (omega arith)) (was_long lent f.long))
      (rw (regions_now (suc k) few, units_none c.units (suc (suc k)) (omega arith), leaves)
      (region_leaves t lent (omega (arith, w.records)) (w.kept (omega arith))))

  -- FM of a region that was taken is within its limit
  pub measure_fits : {n : ℕ} {t : Tally} {l : Lent} → Means head part l₀ n t l → (r : ℕ) → r < regions_among n → (i : ℕ) → i < points →
      Within measure_limit (measure (the_settings part) (region part r) i)
  measure_fits {n} w r h i b =
      let at = region_place n r h in
      let s = settings_fit (part 0) (the_settings part) ((w.taken_each 0 at.0).as_settings refl) in
      let f = region_fits _ (part (suc r)) (region part r) ((w.taken_each (suc r) at.1).as_frequency (omega arith) at.2) in
      measure_within (the_settings part).smoothing (good_at (region part r).quality) (λ i. get_or (region part r).frequency i 0) (region part r).before
      s.smoothing f.before f.frequency (suc i) b

  unit_least : (n : ℕ) (t : Tally) (u : Unit) → t.records ≡ n → t.units ≡ c.units → before_units ≤ n → unit_in (part n) ≡ u →
      (unit_counted t u).least ≡ least_at part c.units (suc n)
  unfolding least_at
  unit_least n t u records units first is = rw (records, units, le-ltb n before_units first, ← is, unit_number (part n))

  unit_next : (n : ℕ) {t : Tally} {l l' : Lent} {r : Step} → Means head part l₀ n t l → UnitPromise t (part n) l r l' → Taken r →
      Means head part l₀ (suc n) r.tally l'
  unfolding least_at
  unit_next n {t} {l} {l'} w call h =
      let a = step_taken (unit_counted t) t (unit_reply t (part n) l) call.reply h in
      let f = unit_passed t (part n) l a.0 a.1 in
      let is = unit_is t.least (part n) a.0 f.record_taken in
      let whole = f.record_taken ∙ ap taken (sym is) in
      let leaves : l' ≡ unit_kept t (unit_in (part n)) l = call.lent ∙ ap (λ (x : Reply Unit). left (unit_kept t) x l) (a.1 ∙ ap taken (sym is)) in
      let first : before_units ≤ n = omega (arith, w.records, f.first) in
      let last : n < before_units + c.units = omega (arith, w.records, w.units, f.last) in
      let row : units_taken t ≡ n - before_units = ap (λ (m : ℕ). m - before_units) w.records in
      let place : n ≡ before_units + (n - before_units) = omega arith in
      let lent : Leaves part l₀ regions (n - before_units) l = rw (regions_all n first, units_now c.units n (omega arith)) at w.lent in
      let long : Long l₀ (suc (n - before_units)) = was_long lent (rw (row, add-one (n - before_units)) at f.long) in
      let fits : group_fits (n - before_units) (unit_in (part n)) l ≡ true = rw (row, sym is) at f.group in
      let fine : group_fine (units_before (unit part) (n - before_units)) (unit_in (part n)) ≡ true =
      sym (group_judged (n - before_units) lent long (unit_in (part n))) ∙ fits in
      let one = one_region (unit part) (n - before_units)
      (subst (λ (m : ℕ). group_fine (units_before (unit part) (n - before_units)) (unit_in (part m)) ≡ true) place fine) in
      let inside : (unit_in (part n)).region < regions = (unit_fits t.least (part n) (unit_in (part n)) whole).region in
      let here = subst (λ (m : ℕ). (unit_in (part m)).region < regions) place inside in
      counts w (omega arith) a.2 (unit_least n t a.0 w.records w.units first is) (omega arith)
      (record {
        as_settings = λ f. absurd (omega arith);
        as_frequency = λ _ f. absurd (omega arith);
        as_unit = λ _ _. behind_taken _ _ _ (rw w.least at whole) fine;
        as_requirement = λ f. absurd (omega arith);
      })
      (rw (units_then c.units n first last) long)
      (rw (regions_all (suc n) (omega arith), units_then c.units n first last, leaves ∙ ap (λ (m : ℕ). unit_kept t (unit_in (part m)) l) place)
      (unit_leaves t lent row here long one (measure_fits w _ (rw (regions_all n first) here))))

  requirement_least : (n : ℕ) (q : Requirement) → before_units + c.units ≤ n → requirement_in (part n) ≡ q → q.number + 1 ≡ least_at part c.units (suc n)
  unfolding least_at
  requirement_least n q first is =
      rw (le-ltb n before_units (omega arith), ne_eqb (n + 1) (before_units + c.units) (λ e. omega arith), ← is, requirement_number (part n))

  requirement_next : (n : ℕ) {t : Tally} {l : Lent} {r : Step} → Means head part l₀ n t l → RequirementPromise t (part n) r → Taken r →
      Means head part l₀ (suc n) r.tally l
  unfolding least_at
  requirement_next n {t} {l} {r} w p h =
      let a = step_taken (λ q. counted (q.number + 1) t) t (requirement_reply t (part n)) p.reply h in
      let f = requirement_passed t (part n) a.0 a.1 in
      let is = requirement_is t.least (eqb (t.records + 1) (book_end t)) (part n) a.0 f.2 in
      let whole = f.2 ∙ ap taken (sym is) in
      let first : before_units + c.units ≤ n = omega (arith, w.records, w.units, f.0) in
      let last : n < before_units + c.units + c.requirements = omega (arith, w.records, w.units, w.requirements, f.1) in
      counts w (omega arith) a.2 (requirement_least n a.0 first is) last
      (record {
        as_settings = λ f. absurd (omega arith);
        as_frequency = λ _ f. absurd (omega arith);
        as_unit = λ _ f. absurd (omega arith);
        as_requirement = λ _. rw (w.records, w.units, w.requirements, w.least) at whole;
      })
      (rw (units_all c.units (suc n) (omega arith)) (rw (units_all c.units n first) at (w.long (omega arith))))
      (rw (regions_all (suc n) (omega arith), units_all c.units (suc n) (omega arith))
      (rw (regions_all n (omega arith), units_all c.units n first) at w.lent))

-- ---- THE CHAIN
module _ {head : List ℕ} {part : ℕ → List ℕ} {l₀ : Lent} where
  pub chain : {n : ℕ} {t : Tally} {l : Lent} → Chain head part l₀ n t l → Means head part l₀ n t l
  chain (begun w) = start head part l₀ w
  chain (took_settings {n} d w h) = settings_next head part l₀ n (chain d) w h
  chain (took_frequency {n} d w h) = frequency_next head part l₀ n (chain d) w h
  chain (took_unit {n} d w h) = unit_next head part l₀ n (chain d) w h
  chain (took_requirement {n} d w h) = requirement_next head part l₀ n (chain d) w h
  chain (refused_settings {t} {p} d w h) = rw (step_refused (settled t) t (settings_reply t p) w.reply h).1 (chain d)
  chain (refused_frequency d w h) = let e = frequency_stays w h in rw (e.0, e.1) (chain d)
  chain (refused_unit d w h) = let e = unit_stays w h in rw (e.0, e.1) (chain d)
  chain (refused_requirement {t} {p} d w h) = rw (step_refused (λ q. counted (q.number + 1) t) t (requirement_reply t p) w.reply h).1 (chain d)
