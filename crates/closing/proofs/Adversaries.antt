-- THE ADVERSARIES (01, What the promises have to pin, Easy to get wrong): wrong calculators, each with the demand that it breaks. A calculator is what it
-- prints of a book's bytes, or what it holds a residual to be. What a tally holds is the calls' to say: one handed back untouched and a made-up number of units
-- taken are edits of the calls that must fail.
use mathlib.Core.Path.{◌≡◌, refl, sym, ◌∙◌, ap, ap₂}
use mathlib.Core.Bool.{Bool, true, false}
use mathlib.Core.List.{List, [], ◌∷◌, ◌++◌}
use Prim.Native.Nat.{ℕ, ◌+◌, ◌*◌, ◌/◌, ◌<◌}
use native.Mathlib.Omega.{arith}
use lib.IntN.{ℤ, pos, neg_ℤ, ◌+ℤ◌}
use lib.ListN.{length, get_or, take, replicate, length-append, length-replicate}
use lib.Seq.{take_at}
use Rattle.integers.proofs.Pairs.{ring, v, neg, eq?, eq_in, ◌⊕◌}
use Rattle.integers.specs.Nearest.{nearestℕ}
use Rattle.integers.specs.Totals.{total, totalℕ, those}
use Rattle.integers.proofs.Totals.{total_++, those_++}
use Rattle.rules.specs.declared.Direction.{Direction}
use Rattle.rules.specs.declared.Direction.TheVariants.{Raise}
use Rattle.rules.specs.declared.Kind.{Kind}
use Rattle.rules.specs.declared.Kind.TheVariants.{Generation, Load}
use Rattle.rules.specs.declared.Located.{Located}
use Rattle.rules.specs.Quantities.{points}
use Rattle.rules.specs.Bytes.{listed}
use Rattle.rules.specs.Book.{Unit, Book}
use Rattle.rules.specs.Deviation.{deviation, good}
use Rattle.rules.specs.Plants.{Plant, plants, good_plants, residual_deviation}
use Rattle.laws.proofs.PlantsLaws.{deviation_closes, unit_parts}
use Rattle.rules.specs.Performance.{residual_performance}
use Rattle.rules.specs.Text.{text, words}
use Rattle.rules.specs.Listing.{refused_line, settle}
use Rattle.books.specs.PaperBook.{zeros, first, second, paper_book}
use Rattle.paper.specs.PaperListing.{paper_listing}
use Rattle.books.specs.Computing.{computing}
use Rattle.closing.specs.Parts.{Parts}
use Rattle.closing.specs.Drawn.{with_roster}
use Rattle.closing.specs.PaperCloses.{generator}
use Rattle.closing.proofs.PaperCloses.{generator_parts}
use Rattle.closing.specs.Adversaries.{Calculator, Closes, InBlocks, Residual, paper_bytes, rounded}

-- refuses everything: breaks demand 2 at the paper's listing
pub refuses_everything : (c : Calculator) → ((bs : List ℕ) → (r : Located) × (c bs ≡ refused_line r)) → c (paper_bytes 7) ≡ settle (paper_bytes 7) → ⊥
unfolding text words
refuses_everything c refuses right =
    let k = refuses (paper_bytes 7) in
    let e : ◌≡◌ {A = ℕ} 114 105 = ap (λ (l : List ℕ). get_or l 0 0) (sym k.1 ∙ right ∙ paper_listing.in_full) in
    omega arith

-- prints the same of every book: breaks demand 2 there or at the same book with interval 8
pub always_one_listing : (c : Calculator) → ((bs cs : List ℕ) → c bs ≡ c cs)
    → c (paper_bytes 7) ≡ settle (paper_bytes 7) → c (paper_bytes 8) ≡ settle (paper_bytes 8) → ⊥
unfolding text
always_one_listing c same seven eight =
    let one = sym paper_listing.in_full ∙ sym seven ∙ same (paper_bytes 7) (paper_bytes 8) ∙ eight ∙ paper_listing.interval_8 in
    let e : ◌≡◌ {A = ℕ} 55 56 = ap (λ (l : List ℕ). get_or l 9 0) one in
    omega arith

-- it is stated over demand 2's definitions: who keeps to these closes, and who closes keeps to them
pub definition_closes : (R : Residual) → ((us : List Unit) (t : ℕ) → R us t ≡ residual_deviation (plants us) t) → Closes R
definition_closes R right us t =
    ap (λ (z : ℤ). total (λ p. p.deviation t) (good_plants (plants us)) +ℤ z) (right us t) ∙ deviation_closes (plants us) t

pub closing_pins : (R : Residual) → Closes R → (us : List Unit) (t : ℕ) → R us t ≡ residual_deviation (plants us) t
closing_pins R h us t =
    let sum : ℤ = total (λ p. p.deviation t) (good_plants (plants us)) in
    let e = eq? (v sum ⊕ v (R us t)) (v (pos 0)) (h us t) in
    ring (v (R us t)) (neg (v sum)) (omega arith)

-- behind the units xs the units ys are plants of their own, as they are where the first of them has no group
abbrev Apart : List Unit → List Unit → Type 0
Apart xs ys = plants (xs ++ ys) ≡ plants xs ++ plants ys

ungrouped_apart : (xs : List Unit) (u : Unit) (us : List Unit) → u.group ≡ 0 → Apart xs (u ∷ us)
unfolding plants
ungrouped_apart xs u us e = unit_parts xs us u e ∙ ap (λ (ps : List Plant). plants xs ++ ps) (sym (unit_parts [] us u e))

-- who leaves out such a part of a roster closes only where the good plants of that part add up to zero
pub left_out : (R : Residual) → Closes R → (xs ys : List Unit) → Apart xs ys → (t : ℕ) → R (xs ++ ys) t ≡ R xs t
    → total (λ p. p.deviation t) (good_plants (plants ys)) ≡ pos 0
left_out R h xs ys apart t e =
    let f : Plant → ℤ = λ p. p.deviation t in
    let these : ℤ = total f (good_plants (plants xs)) in
    let those : ℤ = total f (good_plants (plants ys)) in
    let good = ap good_plants apart ∙ those_++ (λ p. p.good) (plants xs) (plants ys) in
    let both = ap (total f) good ∙ total_++ f (good_plants (plants xs)) (good_plants (plants ys)) in
    let all = eq? (v these ⊕ v those ⊕ v (R xs t)) (v (pos 0)) (sym (ap₂ ◌+ℤ◌ both e) ∙ h (xs ++ ys) t) in
    let some = eq? (v these ⊕ v (R xs t)) (v (pos 0)) (h xs t) in
    ring (v those) (v (pos 0)) (omega arith)

-- a residual that is the same whatever the roster, as of sums that no unit has reached: breaks demand 3's closing with one unit
pub adds_nobody : (R : Residual) → ((us : List Unit) (t : ℕ) → R us t ≡ R [] t) → Closes R → ⊥
unfolding computing
adds_nobody R blind h =
    let e : pos 7_500 ≡ pos 0 = left_out R h [] (first ∷ []) refl 0 (blind (first ∷ []) 0) in
    omega (arith, eq_in e)

-- really adds only the first unit and nods at the rest: breaks demand 3's closing at roster 2
pub adds_only_the_first : (R : Residual) → ((u : Unit) (us : List Unit) (t : ℕ) → R (u ∷ us) t ≡ R (u ∷ []) t) → Closes R → ⊥
unfolding computing
adds_only_the_first R nods h =
    let e : neg_ℤ (pos 2_250) ≡ pos 0 = left_out R h (first ∷ []) (second ∷ []) refl 0 (nods first (second ∷ []) 0) in
    omega (arith, eq_in e)

-- and demand 2 there: the paper's residual line has -7,875,000,000, with its first unit alone it would have -11,250,000,000
pub only_the_first_in_performance : (R : Book → Direction → ℕ → ℤ)
    → ((b : Book) (d : Direction) (r : ℕ) → R b d r ≡ R (with_roster b (take 1 b.roster)) d r)
    → ((b : Book) (d : Direction) (r : ℕ) → R b d r ≡ residual_performance b d r) → ⊥
unfolding computing
only_the_first_in_performance R nods right =
    let alone : Book = with_roster (paper_book 7) (first ∷ []) in
    let e : neg_ℤ (pos 7_875_000_000) ≡ neg_ℤ (pos 11_250_000_000) = sym (right (paper_book 7) Raise 0) ∙ nods (paper_book 7) Raise 0 ∙ right alone Raise 0 in
    omega (arith, eq_in e)

pub last_five_left_out : (R : Residual) → InBlocks R → Closes R → (xs ys : List Unit) → Apart xs ys → length xs ≡ 472 → length ys ≡ 5
    → (t : ℕ) → total (λ p. p.deviation t) (good_plants (plants ys)) ≡ pos 0
last_five_left_out R blocks h xs ys apart most five t =
    let n : length (xs ++ ys) ≡ 477 = length-append xs ys ∙ ap₂ ◌+◌ most five in
    left_out R h xs ys apart t (blocks (xs ++ ys) t ∙ ap (λ (l : List Unit). R l t) (ap (λ (n : ℕ). take (n / 8 * 8) (xs ++ ys)) n ∙ take_at xs ys 472 most))

-- breaks demand 3's closing at roster 477
pub adds_in_blocks_of_eight : (R : Residual) → InBlocks R → Closes R → ⊥
unfolding computing
adds_in_blocks_of_eight R blocks h =
    let apart = ungrouped_apart (replicate 472 first) first (replicate 4 first) refl in
    let e : pos 37_500 ≡ pos 0 = last_five_left_out R blocks h (replicate 472 first) (replicate 5 first) apart (length-replicate 472 first) refl 0 in
    omega (arith, eq_in e)

-- a unit of some kind and group that should stand still and moves, bad at its first point or good
abbrev moved : Kind → Bool → ℕ → Unit
moved kind first group =
    record {
      number = 1;
      region = 0;
      kind = kind;
      start = pos 0;
      end = pos 0;
      defaults = zeros;
      quality = first ∷ listed 1 74 (λ t. true);
      group = group;
      reading = pos 0 ∷ listed 1 74 (λ t. pos 1);
    }

-- lets a bad unit's readings into the residual: breaks demand 3's closing with one unit, bad at its first point
pub lets_bad_readings_in : Closes (λ us t. neg_ℤ (total (λ u. deviation u t) us)) → ⊥
unfolding computing
lets_bad_readings_in h =
    let e : neg_ℤ (pos 75) ≡ pos 0 = h (moved Generation false 0 ∷ []) 1 in
    omega (arith, eq_in e)

-- leaves a bad unit out of its group instead of making the group bad: breaks it with a group of two
pub keeps_the_good_of_a_bad_group : Closes (λ us t. neg_ℤ (total (λ u. deviation u t) (those good us))) → ⊥
unfolding computing
keeps_the_good_of_a_bad_group h =
    let e : neg_ℤ (pos 75) ≡ pos 0 = h (moved Generation true 1 ∷ moved Generation false 1 ∷ []) 1 in
    omega (arith, eq_in e)

-- goes by the primary's kind for all units of a group: breaks it with a group of a generator and a load
pub signs_by_the_primary : (R : Residual)
    → ((u v w : Unit) (t : ℕ) → v.group ≡ u.group → w.group ≡ u.group → v.start ≡ w.start → v.end ≡ w.end → v.quality ≡ w.quality
    → v.reading ≡ w.reading → R (u ∷ v ∷ []) t ≡ R (u ∷ w ∷ []) t)
    → Closes R → ⊥
unfolding computing
signs_by_the_primary R blind h =
    let one : Kind → List Unit = λ k. moved Generation true 1 ∷ moved k true 1 ∷ [] in
    let same = blind (moved Generation true 1) (moved Generation true 1) (moved Load true 1) 1 refl refl refl refl refl refl in
    let e : neg_ℤ (pos 150) ≡ pos 0 = sym (closing_pins R h (one Generation) 1) ∙ same ∙ closing_pins R h (one Load) 1 in
    omega (arith, eq_in e)

pub rounds_the_trajectory : ((u x y : Unit) → Parts u x y → (t : ℕ) → t < points → rounded x t +ℤ rounded y t ≡ rounded u t) → ⊥
unfolding computing
rounds_the_trajectory h =
    let e : pos 0 ≡ neg_ℤ (pos 75) = h (climbs 2) (climbs 1) (climbs 1) (generator_parts 1 1 1 0 0 1 1 (pos 0) (pos 0) 0 0) 29 (omega arith) in
    omega (arith, eq_in e)
  where
    climbs : ℕ → Unit
    climbs n = generator 1 0 n (pos 0) 0

-- rounds each payment alone: the cents do not meet (demand 3), at 10 over 1, 1, 1
pub rounds_each_payment : ((T : ℕ) (ws : List ℕ) → 0 < totalℕ (λ k. k) ws → totalℕ (λ w. nearestℕ (T * w) (totalℕ (λ k. k) ws)) ws ≡ T) → ⊥
unfolding computing
rounds_each_payment h =
    let e : ◌≡◌ {A = ℕ} 9 10 = h 10 (1 ∷ 1 ∷ 1 ∷ []) (omega arith) in
    omega arith
