-- A book's units by runs: a run is taken where the single calls take its records, and where they refuse one the run stops there, with the same refusal.
use Rattle.std.specs.Prelude.{Err}
use mathlib.Core.Path.{◌≡◌, refl, sym, ◌∙◌, ap, ap₂, subst, subst⁻¹}
use mathlib.Core.Bool.{Bool, true, false}
use mathlib.Core.List.{List, [], ◌∷◌}
use Prim.Native.Nat.{ℕ, zero, suc, ◌+◌, ◌*◌, ◌-◌, ◌%◌, ◌≤◌, ◌<◌}
use native.Mathlib.Decide.{dec_lt}
use native.Mathlib.Omega.{arith}
use lib.ListN.{length, take, drop, length-drop}
use lib.Seq.{drop-drop, length-take-le}
use borrow.Author.Tests.{eq-eqb}
use Rattle.rules.specs.declared.Refusal.{Refusal}
use Rattle.rules.specs.declared.Located.{Located}
use Rattle.rules.specs.Refusals.{located}
use Rattle.rules.specs.Contents.{unit_size, unit_start}
use Rattle.interval.specs.declared.Tally.{Tally}
use Rattle.interval.specs.declared.Step.{Step}
use Rattle.interval.specs.Tally.{before_units, next_place}
use Rattle.interval.specs.Lent.{Lent}
use Rattle.interval.specs.Calls.{refused_step}
use Rattle.interval.specs.Promises.{UnitPromise}
use Rattle.interval.specs.Run.{RunPromise, in_run, records_in}
use Rattle.chain.specs.Taken.{counts_in}
use Rattle.chain.specs.Chain.{Chain, Taken, Refused}
use Rattle.chain.specs.Alike.{Alike}
use Rattle.chain.specs.BookRecords.{part_of}
use Rattle.chain.specs.Way.{Call, for_unit}
use Rattle.chain.specs.BookWay.{Stops, Takes}
use Rattle.chain.specs.Runs.{HandsRun, RunFrom, RunOutcome, Singly, is_ragged, none, one_more, stops_behind, takes_all}
use Rattle.chain.specs.BookRuns.{RunStops, run_of}
use Rattle.chain.proofs.Alike.{cut_behind, unit_alike}
use Rattle.chain.proofs.BookRecords.{unit_place, unit_sized}
use Rattle.chain.proofs.BookWay.{taken_or_refused}
use Rattle.chain.proofs.ChainTheorem.{chain}
use Rattle.chain.proofs.Spelled.{record_long}
use Rattle.chain.proofs.Runs.{run_outcome, singly_chain}

-- of the records that were taken singly, the first few
singly_first :
    {run : List ℕ} {t : Tally} {l : Lent} {k : ℕ} {t' : Tally} {l' : Lent} → Singly run t l k t' l' → (j : ℕ) → j ≤ k →
    (t'' : Tally) × (l'' : Lent) × Singly run t l j t'' l''
singly_first {run} {t} {l} none j h = (t, l, subst (λ (j : ℕ). Singly run t l j t l) (omega arith) none)
singly_first {run} {t} {l} {k} {t'} {l'} (one_more {k = i} so_far call e) j h = go (dec_lt i j) (λ b. singly_first so_far j b)
  where
    go : Dec (i < j) → (j ≤ i → (t'' : Tally) × (l'' : Lent) × Singly run t l j t'' l'') → (t'' : Tally) × (l'' : Lent) × Singly run t l j t'' l''
    go (yes b) earlier = (t', l', subst (λ (j : ℕ). Singly run t l j t' l') (omega arith) (one_more so_far call e))
    go (no b) earlier = earlier (omega arith)

not_ragged : {A : Type 0} {b : Bool} → b ≡ true → b ≡ false → A
not_ragged e f = let z : ◌≡◌ {A = ℕ} 0 1 = cc in absurd (omega arith)

fewer : {part : ℕ → List ℕ} {n j k : ℕ} {run : List ℕ} → j ≤ k → HandsRun part n k run → HandsRun part n j run
fewer h hands = record { each = λ i b. hands.each i (omega arith) }

module _ {head : List ℕ} {part : ℕ → List ℕ} {l₀ : Lent} {n : ℕ} {t : Tally} {l : Lent} (d : Chain head part l₀ n t l)
    {run : List ℕ} {r : Step} {l' : Lent} (p : RunPromise t run l r l') where
  -- the single call for the record at which a run stops
  module _ {k : ℕ} {why : Refusal} (first : before_units ≤ n) (hands : HandsRun part n (suc k) run) (last : n + k < before_units + (counts_in head).units)
      (so_far : Singly run t l k r.tally l') (call : UnitPromise r.tally (drop (unit_size * k) run) l' (refused_step r.tally why) l') where
    come : Chain head part l₀ (n + k) r.tally l'
    come = singly_chain d so_far (fewer (omega arith) hands)

    refusing : Call (counts_in head) (part (n + k)) (n + k) r.tally l' (refused_step r.tally why) l'
    refusing = for_unit (omega arith) last (unit_alike (hands.each k (omega arith)) r.tally (omega arith) call)

  pub run_takes : {m : ℕ} → Takes head part l₀ m → n + records_in run ≤ m → n + records_in run ≤ before_units + (counts_in head).units →
      RunFrom part n (records_in run) run → Taken r × Chain head part l₀ (n + records_in run) r.tally l'
  run_takes {m} takes inside last from = go (run_outcome t run l p)
    where
      go : RunOutcome t run l r l' → Taken r × Chain head part l₀ (n + records_in run) r.tally l'
      go (takes_all w s h) = (h, singly_chain d s from.hands)
      go (stops_behind k why w h s call e) =
          let so = fewer h from.hands in
          let taken = takes.each (omega arith) (come from.first so (omega arith) s call) (refusing from.first so (omega arith) s call) in
          taken_or_refused (refused_step r.tally why) taken refl
      go (is_ragged w e f) = not_ragged from.is_whole w

  pub run_stops : {m : ℕ} {why : Located} → Stops head part l₀ why m → n ≤ m → m < n + records_in run → m < before_units + (counts_in head).units →
      RunFrom part n (suc (m - n)) run → RunStops head part l₀ n m why r l'
  run_stops {m} {why} stops begins inside last from = go (run_outcome t run l p)
    where
      -- no chain comes past the record that is refused
      not_beyond : {A : Type 0} {k : ℕ} {t' : Tally} {m' : Lent} → Singly run t l k t' m' → suc (m - n) ≤ k → A
      not_beyond s h = let x = singly_first s (suc (m - n)) h in let far = stops.furthest (singly_chain d x.2 from.hands) in absurd (omega arith)

      -- and none stops before it
      not_before :
          {A : Type 0} {k : ℕ} {x : Refusal} → Singly run t l k r.tally l' →
          UnitPromise r.tally (drop (unit_size * k) run) l' (refused_step r.tally x) l' → k < m - n → A
      not_before {A} {k} {x} s call b =
          let so = fewer {j = suc k} (omega arith) from.hands in
          let taken = stops.before.each (omega arith) (come from.first so (omega arith) s call) (refusing from.first so (omega arith) s call) in
          taken_or_refused (refused_step r.tally x) taken refl

      there :
          {k : ℕ} {x : Refusal} → Singly run t l k r.tally l' →
          UnitPromise r.tally (drop (unit_size * k) run) l' (refused_step r.tally x) l' → Refused r (in_run (k + 1) x) → k ≡ m - n →
          RunStops head part l₀ n m why r l'
      there {k} {x} s call e here =
          let so = fewer {j = suc k} (omega arith) from.hands in
          let at : n + k ≡ m = omega arith in
          let chain = subst (λ (j : ℕ). Chain head part l₀ j r.tally l') at (come from.first so (omega arith) s call) in
          let call_at = subst (λ (j : ℕ). Call (counts_in head) (part j) j r.tally l' (refused_step r.tally x) l') at (refusing from.first so (omega arith) s call) in
          let same = ap (λ (s : Step). s.taking) (stops.refuses chain call_at).0 in
          let named : located (next_place r.tally) x ≡ why = cc in
          let placed : k + 1 ≡ m - n + 1 = omega arith in
          record { there = chain; reply = e ∙ ap₂ (λ (place : ℕ) (w : Located). Err (in_run place w.refusal)) placed named }

      go : RunOutcome t run l r l' → RunStops head part l₀ n m why r l'
      go (takes_all w s h) = not_beyond s (omega arith)
      go (stops_behind k x w h s call e) = by (dec_lt k (m - n)) (dec_lt (m - n) k)
        where
          by : Dec (k < m - n) → Dec (m - n < k) → RunStops head part l₀ n m why r l'
          by (yes b) _ = not_before s call b
          by (no a) (yes b) = not_beyond s b
          by (no a) (no b) = there s call e (omega arith)
      go (is_ragged w e f) = not_ragged from.is_whole w

-- ---- a run that is cut out of a book: k units from record n on
drop_of_take : {A : Type 0} (i k : ℕ) (xs : List A) → i ≤ k → drop i (take k xs) ≡ take (k - i) (drop i xs)
drop_of_take zero k xs h = let all : k ≡ k - 0 = omega arith in ap (λ (n : ℕ). take n xs) all
drop_of_take (suc i) zero xs h = absurd (omega arith)
drop_of_take (suc i) (suc k) [] h = sym (take_none (suc k - suc i))
  where
    take_none : {A : Type 0} (n : ℕ) → take {A = A} n [] ≡ []
    take_none zero = refl
    take_none (suc n) = refl
drop_of_take (suc i) (suc k) (x ∷ xs) h =
    let less : k - i ≡ suc k - suc i = omega arith in
    drop_of_take i k xs (omega arith) ∙ ap (λ (n : ℕ). take n (drop i xs)) less

module _ (bs : List ℕ) (n k : ℕ) (first : before_units ≤ n) (last : n + k ≤ before_units + (counts_in bs).units) where
  behind : (i : ℕ) → i < k → drop (unit_size * i) (part_of bs n) ≡ part_of bs (n + i)
  behind i h =
      let j = n - before_units in
      let sum : unit_size * j + unit_size * i ≡ unit_size * (j + i) = omega arith in
      ap (drop (unit_size * i)) (unit_place bs n j (omega arith) (omega arith))
      ∙ drop-drop (unit_size * i) (unit_size * j) (drop unit_start bs)
      ∙ ap (λ (at : ℕ). drop at (drop unit_start bs)) sum
      ∙ sym (unit_place bs (n + i) (j + i) (omega arith) (omega arith))

  cut_hands : HandsRun (part_of bs) n k (run_of bs n k)
  cut_hands = record { each = each }
    where
      each : (i : ℕ) → i < k → Alike unit_size (drop (unit_size * i) (run_of bs n k)) (part_of bs (n + i))
      each i h =
          let cut = drop_of_take (unit_size * i) (unit_size * k) (part_of bs n) (omega arith) ∙ ap (take (unit_size * k - unit_size * i)) (behind i h) in
          subst (λ (p : List ℕ). Alike unit_size p (part_of bs (n + i))) (sym cut)
          (cut_behind unit_size (unit_size * k - unit_size * i) (part_of bs (n + i)) (omega arith))

  -- it is as long as its records, where a chain has taken them
  module _ {l₀ : Lent} {m : ℕ} {t : Tally} {l : Lent} (d : Chain bs (part_of bs) l₀ m t l) (inside : n + k ≤ m) where
    reaches : (j : ℕ) → k ≡ j → unit_size * j ≤ length (part_of bs n)
    reaches zero e = omega arith
    reaches (suc j) e =
        let there = length-drop (unit_size * j) (part_of bs n) in
        let same = ap length (behind j (omega arith)) in
        let long = record_long (part_of bs) (counts_in bs) (n + j) ((chain d).taken_each (n + j) (omega arith)) in
        let sized = unit_sized (counts_in bs).units (n + j) (omega arith) (omega arith) in
        omega (arith, there, same, long, sized)

    cut_length : length (run_of bs n k) ≡ unit_size * k
    cut_length = length-take-le (unit_size * k) (part_of bs n) (reaches k refl)

    pub cut_records : records_in (run_of bs n k) ≡ k
    cut_records = omega (arith, cut_length)

    pub cut_out : RunFrom (part_of bs) n (records_in (run_of bs n k)) (run_of bs n k)
    cut_out =
        record {
          is_whole = eq-eqb (length (run_of bs n k) % unit_size) 0 (omega (arith, cut_length));
          first = first;
          hands = subst⁻¹ (λ (j : ℕ). HandsRun (part_of bs) n j (run_of bs n k)) cut_records cut_hands;
        }
