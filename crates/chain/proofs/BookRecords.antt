-- A book, record by record: where each record starts, and that the format reads the bodies one record after the other, up to the first refusal.
use mathlib.Core.Path.{◌≡◌, refl, sym, ◌∙◌, ap, ap₂, subst}
use mathlib.Core.Bool.{Bool, true, false}
use mathlib.Core.List.{List, [], ◌∷◌}
use Prim.Native.Nat.{ℕ, zero, suc, ◌+◌, ◌*◌, ◌-◌, ◌≤◌, ◌<◌}
use native.Mathlib.Numerals.{add-one}
use native.Mathlib.Nat.{add-zero}
use native.Mathlib.Omega.{arith}
use lib.Dec.{eqb, ltb}
use lib.ListN.{get_or, drop}
use lib.Seq.{drop-drop, get_or-drop}
use borrow.Author.Tests.{lt-ltb, le-ltb, eq-eqb, ne_eqb, eqb-true, eqb-false}
use Rattle.integers.proofs.Sums.{none_below}
use Rattle.rules.specs.Quantities.{regions}
use Rattle.rules.specs.Bytes.{number_at, listed}
use Rattle.rules.specs.declared.Located.{Located}
use Rattle.rules.specs.Refusals.{Reply, LocatedReply, taken, refused, at, ◌>>=◌}
use Rattle.rules.specs.Book.{Region, Unit, Requirement, Book}
use Rattle.rules.specs.Contents.{
  Counts,
  contents,
  contents_size,
  settings_size,
  frequency_start,
  frequency_size,
  unit_start,
  unit_size,
  requirement_start,
  requirement_size,
}
use Rattle.rules.specs.SettingsRecord.{settings}
use Rattle.rules.specs.FrequencyRecord.{region_in, frequency_record}
use Rattle.rules.specs.UnitRecord.{unit_in, unit_record}
use Rattle.rules.specs.RequirementRecord.{requirement_in, requirement_record}
use Rattle.rules.specs.WholeBook.{frequency_body, unit_body, requirement_body, book}
use Rattle.rules.specs.Groups.{in_its_group}
use Rattle.laws.proofs.LimitsLaws.{there, took, went_on, in_group}
use Rattle.interval.specs.Tally.{before_units}
use Rattle.chain.proofs.ChainLaws.{or_true, listed_shift}
use Rattle.chain.specs.Taken.{counts_in, unit_behind}
use Rattle.chain.proofs.Taken.{contents_is, region_is, unit_is, requirement_is}
use Rattle.chain.specs.Chain.{unit, least_at}
use Rattle.chain.specs.PlantsAt.{units_before}
use Rattle.chain.proofs.ChainTheorem.{unit_number, requirement_number}
use Rattle.chain.specs.BookRecords.{Read, before_from, body, joined, least_from, part_of, record_size, record_start}

module _ (units m : ℕ) where
  pub settings_sized : m ≡ 0 → record_size units m ≡ settings_size
  unfolding record_size
  settings_sized z = rw z

  pub frequency_sized : 1 ≤ m → m < before_units → record_size units m ≡ frequency_size
  unfolding record_size
  frequency_sized first last = rw (le-ltb m 1 first, lt-ltb m before_units last)

  pub unit_sized : before_units ≤ m → m < before_units + units → record_size units m ≡ unit_size
  unfolding record_size
  unit_sized first last = rw (le-ltb m 1 (omega arith), le-ltb m before_units first, lt-ltb m (before_units + units) last)

  pub requirement_sized : before_units + units ≤ m → record_size units m ≡ requirement_size
  unfolding record_size
  requirement_sized first = rw (le-ltb m 1 (omega arith), le-ltb m before_units (omega arith), le-ltb m (before_units + units) first)

module _ (units : ℕ) where
  frequency_starts : (i : ℕ) → i ≤ regions → record_start units (suc i) ≡ frequency_start + frequency_size * i
  unfolding record_start
  frequency_starts zero h = omega (arith, settings_sized units 0 refl)
  frequency_starts (suc i) h = omega (arith, frequency_starts i (omega arith), frequency_sized units (suc i) (omega arith) (omega arith))

  unit_starts : (i : ℕ) → i ≤ units → record_start units (before_units + i) ≡ unit_start + unit_size * i
  unfolding record_start
  unit_starts zero h = frequency_starts regions (omega arith)
  unit_starts (suc i) h =
      let next : before_units + suc i ≡ suc (before_units + i) = omega arith in
      ap (record_start units) next ∙ omega (arith, unit_starts i (omega arith), unit_sized units (before_units + i) (omega arith) (omega arith))

  requirement_starts : (j : ℕ) → record_start units (before_units + units + j) ≡ requirement_start units + requirement_size * j
  unfolding record_start
  requirement_starts zero =
      let none : before_units + units + 0 ≡ before_units + units = omega arith in
      ap (record_start units) none ∙ omega (arith, unit_starts units (omega arith))
  requirement_starts (suc j) =
      let next : before_units + units + suc j ≡ suc (before_units + units + j) = omega arith in
      ap (record_start units) next ∙ omega (arith, requirement_starts j, requirement_sized units (before_units + units + j) (omega arith))

module _ (bs : List ℕ) where
  abbrev many : ℕ
  many = (counts_in bs).units

  part_at : (m n place k : ℕ) → m ≡ n → record_start many n ≡ place + k → part_of bs m ≡ drop k (drop place bs)
  unfolding part_of
  part_at m n place k e f = ap (λ (i : ℕ). drop i bs) (ap (record_start many) e ∙ f) ∙ sym (drop-drop k place bs)

  pub settings_part : part_of bs 0 ≡ drop contents_size bs
  unfolding part_of record_start
  settings_part = refl

  pub frequency_place : (m i : ℕ) → m ≡ suc i → i < regions → part_of bs m ≡ drop (frequency_size * i) (drop frequency_start bs)
  frequency_place m i e h = part_at m (suc i) frequency_start (frequency_size * i) e (frequency_starts many i (omega arith))

  pub unit_place : (m i : ℕ) → m ≡ before_units + i → i < (counts_in bs).units → part_of bs m ≡ drop (unit_size * i) (drop unit_start bs)
  unit_place m i e h = part_at m (before_units + i) unit_start (unit_size * i) e (unit_starts many i (omega arith))

  pub requirement_place :
      (m j : ℕ) → m ≡ before_units + (counts_in bs).units + j → part_of bs m ≡ drop (requirement_size * j) (drop (requirement_start (counts_in bs).units) bs)
  requirement_place m j e = part_at m (before_units + many + j) (requirement_start many) (requirement_size * j) e (requirement_starts many j)

  -- the bytes of a part are bytes of the book
  pub part_bytes : ((i : ℕ) → get_or bs i 0 < 256) → (m i : ℕ) → get_or (part_of bs m) i 0 < 256
  unfolding part_of
  part_bytes bytes m i = rw (get_or-drop (record_start (counts_in bs).units m) bs i 0) (bytes _)

module _ {A : Type 0} where
  body_same : (n : ℕ) (f g : ℕ → LocatedReply A) → ((i : ℕ) → f i ≡ g i) → body n f ≡ body n g
  unfolding body
  body_same zero f g h = refl
  body_same (suc n) f g h = ap₂ joined (h 0) (body_same n _ _ (λ i. h (suc i)))

  -- a body that was taken; v is what a record is where it is taken
  body_each : (v : ℕ → A) (n : ℕ) (f : ℕ → LocatedReply A) (xs : List A) → ((i : ℕ) (a : A) → f i ≡ taken a → v i ≡ a) → body n f ≡ taken xs →
      (xs ≡ listed 0 n v) × ((i : ℕ) → i < n → f i ≡ taken (v i))
  unfolding body listed
  body_each v zero f xs is e = (sym (took e), λ i h. none_below i h)
  body_each v (suc n) f xs is e =
      let first = went_on (f 0) _ xs e in
      let rest = went_on (body n (λ i. f (suc i))) _ xs first.2 in
      let later = body_each (λ i. v (suc i)) n (λ i. f (suc i)) rest.0 (λ i. is (suc i)) rest.1 in
      let here = is 0 first.0 first.1 in (
        sym (took rest.2) ∙ ap₂ (λ (y : A) (ys : List A). y ∷ ys) (sym here) (later.0 ∙ sym (listed_shift 0 n v)),
        each (first.1 ∙ ap taken (sym here)) later.1,
      )
    where
      each : f 0 ≡ taken (v 0) → ((i : ℕ) → i < n → f (suc i) ≡ taken (v (suc i))) → (i : ℕ) → i < suc n → f i ≡ taken (v i)
      each now later zero h = now
      each now later (suc i) h = later i (omega arith)

  -- a body whose records are taken is taken
  pub body_all : (v : ℕ → A) (n : ℕ) (f : ℕ → LocatedReply A) → ((i : ℕ) → i < n → f i ≡ taken (v i)) → body n f ≡ taken (listed 0 n v)
  unfolding body listed
  body_all v zero f h = refl
  body_all v (suc n) f h =
      ap₂ joined (h 0 (omega arith)) (body_all (λ i. v (suc i)) n (λ i. f (suc i)) (λ i l. h (suc i) (omega arith)))
      ∙ ap (λ (xs : List A). taken (v 0 ∷ xs)) (sym (listed_shift 0 n v))

  -- a body is refused as the first record in it that is
  pub body_stops : (v : ℕ → A) (n k : ℕ) (f : ℕ → LocatedReply A) (why : Located) → k < n → ((i : ℕ) → i < k → f i ≡ taken (v i)) → f k ≡ refused why →
      body n f ≡ refused why
  unfolding body
  body_stops v zero k f why l h e = none_below k l
  body_stops v (suc n) zero f why l h e = ap (λ (x : LocatedReply A). joined x (body n (λ i. f (suc i)))) e
  body_stops v (suc n) (suc k) f why l h e =
      ap₂ joined (h 0 (omega arith)) (body_stops (λ i. v (suc i)) n k (λ i. f (suc i)) why (omega arith) (λ i m. h (suc i) (omega arith)) e)

-- ---- the three bodies are such
next : (k i : ℕ) → suc k + i ≡ k + suc i
next k i = omega arith

drop_step : (size i : ℕ) (bs : List ℕ) → drop (size * i) (drop size bs) ≡ drop (size * suc i) bs
drop_step size i bs = drop-drop (size * i) size bs ∙ ap (λ (k : ℕ). drop k bs) (more size i)
  where
    more : (size i : ℕ) → size + size * i ≡ size * suc i
    more size i = omega arith

pub frequency_body_is : (n r : ℕ) (bs : List ℕ) → frequency_body n r bs ≡
    body n (λ i. at (suc (r + i)) (frequency_record (r + i) (drop (frequency_size * i) bs)))
unfolding frequency_body body
frequency_body_is zero r bs = refl
frequency_body_is (suc n) r bs =
    ap₂ joined (ap (λ (k : ℕ). at (suc k) (frequency_record k bs)) (sym (add-zero r)))
    (frequency_body_is n (suc r) (drop frequency_size bs)
    ∙ body_same n _ _ (λ i. ap₂ (λ (k : ℕ) (b : List ℕ). at (suc k) (frequency_record k b)) (next r i) (drop_step frequency_size i bs)))

least_step : (size least : ℕ) (bs : List ℕ) (number : ℕ) → number ≡ number_at 2 0 bs → (i : ℕ) →
    least_from size (suc number) (drop size bs) i ≡ least_from size least bs (suc i)
unfolding least_from
least_step size least bs number e zero = ap suc e ∙ ap (λ (k : ℕ). suc (number_at 2 0 (drop k bs))) (none size)
  where
    none : (size : ℕ) → 0 ≡ size * 0
    none size = omega arith
least_step size least bs number e (suc i) = ap (λ (b : List ℕ). suc (number_at 2 0 b)) (drop_step size i bs)

-- the units before, seen from one unit further on
before_step : (before : List Unit) (bs : List ℕ) (u : Unit) → u ≡ unit_in bs → (i : ℕ) →
    before_from (u ∷ before) (drop unit_size bs) i ≡ before_from before bs (suc i)
unfolding before_from
before_step before bs u e zero = ap (λ (v : Unit). v ∷ before) e
before_step before bs u e (suc i) =
    ap₂ (λ (p : List ℕ) (vs : List Unit). unit_in p ∷ vs) (drop_step unit_size i bs) (before_step before bs u e i)

pub unit_body_is : (n place least : ℕ) (before : List Unit) (bs : List ℕ) → unit_body n place least before bs ≡
    body n (λ i. at (place + i) (unit_behind (before_from before bs i) (least_from unit_size least bs i) (drop (unit_size * i) bs)))
unfolding unit_body body least_from before_from
unit_body_is zero place least before bs = refl
unit_body_is (suc n) place least before bs =
    go (λ u. unit_body_is n (suc place) (suc u.number) (u ∷ before) (drop unit_size bs)) (unit_behind before least bs) refl
    ∙ ap (λ (k : ℕ). joined (at k (unit_behind before least bs)) others) (sym (add-zero place))
  where
    others : LocatedReply (List Unit)
    others =
        body n (λ i. at (place + suc i) (unit_behind (before_from before bs (suc i)) (least_from unit_size least bs (suc i)) (drop (unit_size * suc i) bs)))

    go : ((u : Unit) → unit_body n (suc place) (suc u.number) (u ∷ before) (drop unit_size bs) ≡ body n
        (λ i. at (suc place + i) (unit_behind (before_from (u ∷ before) (drop unit_size bs) i) (least_from unit_size (suc u.number) (drop unit_size bs) i)
        (drop (unit_size * i) (drop unit_size bs))))) → (x : Reply Unit) → unit_behind before least bs ≡ x →
        (at place x >>= (λ u. joined (taken u) (unit_body n (suc place) (suc u.number) (u ∷ before) (drop unit_size bs)))) ≡ joined (at place x) others
    go rest (refused why) e = refl
    go rest (taken u) e =
        let is : unit_in bs ≡ u = unit_is least bs u (in_group before (unit_record least bs) u e).0 in
        let number : u.number ≡ number_at 2 0 bs = ap (λ (u : Unit). u.number) (sym is) ∙ unit_number bs in
        ap (joined (taken u)) (rest u ∙ body_same n _ _ (λ i. ap₂ (λ (k : ℕ) (x : Reply Unit). at k x) (next place i)
        (ap₂ (λ (vs : List Unit) (x : Reply Unit). x >>= in_its_group vs) (before_step before bs u (sym is) i)
        (ap₂ unit_record (least_step unit_size least bs u.number number i) (drop_step unit_size i bs)))))

pub requirement_body_is : (n place least : ℕ) (bs : List ℕ) → requirement_body n place least bs ≡
    body n (λ i. at (place + i) (requirement_record (least_from requirement_size least bs i) (eqb (n - suc i) 0) (drop (requirement_size * i) bs)))
unfolding requirement_body body least_from
requirement_body_is zero place least bs = refl
requirement_body_is (suc n) place least bs =
    let less : n ≡ suc n - 1 = omega arith in
    go (λ number. requirement_body_is n (suc place) (suc number) (drop requirement_size bs)) (requirement_record least (eqb n 0) bs) refl
    ∙ ap₂ (λ (k p : ℕ). joined (at p (requirement_record least (eqb k 0) bs)) others) less (sym (add-zero place))
  where
    others : LocatedReply (List Requirement)
    others =
        body n (λ i. at (place + suc i) (requirement_record (least_from requirement_size least bs (suc i)) (eqb (suc n - suc (suc i)) 0)
        (drop (requirement_size * suc i) bs)))

    go : ((number : ℕ) → requirement_body n (suc place) (suc number) (drop requirement_size bs) ≡
        body n (λ i. at (suc place + i) (requirement_record (least_from requirement_size (suc number) (drop requirement_size bs) i) (eqb (n - suc i) 0)
        (drop (requirement_size * i) (drop requirement_size bs))))) → (x : Reply Requirement) → requirement_record least (eqb n 0) bs ≡ x →
        (at place x >>= (λ q. joined (taken q) (requirement_body n (suc place) (suc q.number) (drop requirement_size bs)))) ≡ joined (at place x) others
    go rest (refused why) e = refl
    go rest (taken q) e =
        let number : q.number ≡ number_at 2 0 bs = ap (λ (q : Requirement). q.number) (sym (requirement_is least (eqb n 0) bs q e)) ∙ requirement_number bs in
        ap (joined (taken q)) (rest q.number
        ∙ body_same n _ _ (λ i. ap₂ (λ (k : ℕ) (x : Reply Requirement). at k x) (next place i) (later q.number number i)))
      where
        later : (number : ℕ) → number ≡ number_at 2 0 bs → (i : ℕ) → requirement_record (least_from requirement_size (suc number) (drop requirement_size bs) i)
            (eqb (n - suc i) 0) (drop (requirement_size * i) (drop requirement_size bs)) ≡ requirement_record (least_from requirement_size least bs (suc i))
            (eqb (suc n - suc (suc i)) 0) (drop (requirement_size * suc i) bs)
        later number e i =
            let less : n - suc i ≡ suc n - suc (suc i) = omega arith in
            rw (least_step requirement_size least bs number e i, less, drop_step requirement_size i bs)

-- ---- each record of a body that was taken
pub frequencies_each : (n r : ℕ) (bs : List ℕ) (rs : List Region) → frequency_body n r bs ≡ taken rs →
    (rs ≡ listed 0 n (λ i. region_in (drop (frequency_size * i) bs))) × ((i : ℕ) → i < n →
    frequency_record (r + i) (drop (frequency_size * i) bs) ≡ taken (region_in (drop (frequency_size * i) bs)))
frequencies_each n r bs rs e =
    let each = body_each (λ i. region_in (drop (frequency_size * i) bs)) n _ rs
    (λ i a f. region_is (r + i) (drop (frequency_size * i) bs) a (there (suc (r + i)) _ a f)) (sym (frequency_body_is n r bs) ∙ e) in
    (each.0, λ i h. there (suc (r + i)) _ _ (each.1 i h))

pub units_each : (n place least : ℕ) (before : List Unit) (bs : List ℕ) (us : List Unit) → unit_body n place least before bs ≡ taken us →
    (us ≡ listed 0 n (λ i. unit_in (drop (unit_size * i) bs))) × ((i : ℕ) → i < n →
    unit_behind (before_from before bs i) (least_from unit_size least bs i) (drop (unit_size * i) bs) ≡ taken (unit_in (drop (unit_size * i) bs)))
units_each n place least before bs us e =
    let each = body_each (λ i. unit_in (drop (unit_size * i) bs)) n _ us
    (λ i a f. unit_is (least_from unit_size least bs i) (drop (unit_size * i) bs) a
    (in_group (before_from before bs i) (unit_record (least_from unit_size least bs i) (drop (unit_size * i) bs)) a (there (place + i) _ a f)).0)
    (sym (unit_body_is n place least before bs) ∙ e) in
    (each.0, λ i h. there (place + i) _ _ (each.1 i h))

pub requirements_each : (n place least : ℕ) (bs : List ℕ) (qs : List Requirement) → requirement_body n place least bs ≡ taken qs →
    (qs ≡ listed 0 n (λ i. requirement_in (drop (requirement_size * i) bs))) ×
    ((i : ℕ) → i < n → requirement_record (least_from requirement_size least bs i) (eqb (n - suc i) 0) (drop (requirement_size * i) bs) ≡
    taken (requirement_in (drop (requirement_size * i) bs)))
requirements_each n place least bs qs e =
    let each = body_each (λ i. requirement_in (drop (requirement_size * i) bs)) n _ qs
    (λ i a f. requirement_is (least_from requirement_size least bs i) (eqb (n - suc i) 0) (drop (requirement_size * i) bs) a (there (place + i) _ a f))
    (sym (requirement_body_is n place least bs) ∙ e) in
    (each.0, λ i h. there (place + i) _ _ (each.1 i h))

pub book_read : (bs : List ℕ) (b : Book) → book bs ≡ taken b → Read bs b
unfolding book
book_read bs b e =
    let counts = went_on (at 0 (contents bs)) _ b e in
    let s = went_on (at 1 (settings (drop contents_size bs))) _ b counts.2 in
    let rs = went_on (frequency_body regions 0 (drop frequency_start bs)) _ b s.2 in
    let us = went_on (unit_body counts.0.units 1 0 [] (drop unit_start bs)) _ b rs.2 in
    let qs = went_on (requirement_body counts.0.requirements 1 0 (drop (requirement_start counts.0.units) bs)) _ b us.2 in
    let table = there 0 _ counts.0 counts.1 in
    let is = (contents_is bs counts.0 table).0 in
    let units : (counts_in bs).units ≡ counts.0.units = ap (λ (c : Counts). c.units) is in
    let requirements : (counts_in bs).requirements ≡ counts.0.requirements = ap (λ (c : Counts). c.requirements) is in
    subst (Read bs) (took qs.2)
    (record {
      table = table ∙ ap taken (sym is);
      settings = there 1 _ s.0 s.1;
      regions = rs.1;
      roster = ap (λ (k : ℕ). unit_body k 1 0 [] (drop unit_start bs)) units ∙ us.1;
      requirements = ap₂ (λ (k u : ℕ). requirement_body k 1 0 (drop (requirement_start u) bs)) requirements units ∙ qs.1;
    })

same_test : (a b c d : ℕ) → (a ≡ b → c ≡ d) → (c ≡ d → a ≡ b) → eqb a b ≡ eqb c d
same_test a b c d f g = go (eqb a b) refl
  where
    go : (t : Bool) → eqb a b ≡ t → t ≡ eqb c d
    go true e = sym (eq-eqb c d (f (eqb-true a b e)))
    go false e = sym (ne_eqb c d (λ q. eqb-false a b e (g q)))

-- ---- record m, with the least number that a chain would allow it, is the one at its place in its body
module _ (bs : List ℕ) where
  unit_least_at : (i : ℕ) → i < (counts_in bs).units → (m : ℕ) → m ≡ before_units + i →
      least_at (part_of bs) (counts_in bs).units m ≡ least_from unit_size 0 (drop unit_start bs) i
  unfolding least_at least_from
  unit_least_at zero h m e = let f : m ≡ before_units = omega arith in rw f
  unit_least_at (suc i) h m e =
      let f : m ≡ suc (before_units + i) = omega arith in
      rw (
        f,
        le-ltb (before_units + i) before_units (omega arith),
        ne_eqb (before_units + i + 1) (before_units + (counts_in bs).units) (λ q. omega arith),
        unit_place bs (before_units + i) i refl (omega arith),
      )
      (add-one (number_at 2 0 (drop (unit_size * i) (drop unit_start bs))))

  requirement_least_at : (j m : ℕ) → m ≡ before_units + (counts_in bs).units + j →
      least_at (part_of bs) (counts_in bs).units m ≡ least_from requirement_size 0 (drop (requirement_start (counts_in bs).units) bs) j
  unfolding least_at least_from
  requirement_least_at zero m e =
      let f : m ≡ suc (5 + (counts_in bs).units) = omega arith in
      rw (f, eq-eqb (5 + (counts_in bs).units + 1) (before_units + (counts_in bs).units) (omega arith), or_true (ltb (5 + (counts_in bs).units) before_units))
  requirement_least_at (suc j) m e =
      let f : m ≡ suc (before_units + (counts_in bs).units + j) = omega arith in
      rw (
        f,
        le-ltb (before_units + (counts_in bs).units + j) before_units (omega arith),
        ne_eqb (before_units + (counts_in bs).units + j + 1) (before_units + (counts_in bs).units) (λ q. omega arith),
        requirement_place bs (before_units + (counts_in bs).units + j) j refl,
      )
      (add-one (number_at 2 0 (drop (requirement_size * j) (drop (requirement_start (counts_in bs).units) bs))))

  pub frequency_at : (m i : ℕ) → m ≡ suc i → i < regions → frequency_record (m - 1) (part_of bs m) ≡
      frequency_record (0 + i) (drop (frequency_size * i) (drop frequency_start bs))
  frequency_at m i e h =
      let less : m - 1 ≡ 0 + i = omega arith in
      ap₂ frequency_record less (frequency_place bs m i e h)

  -- the units before, in both
  before_at : (i : ℕ) → i ≤ (counts_in bs).units → units_before (unit (part_of bs)) i ≡ before_from [] (drop unit_start bs) i
  unfolding units_before before_from
  before_at zero h = refl
  before_at (suc i) h =
      ap₂ (λ (p : List ℕ) (vs : List Unit). unit_in p ∷ vs) (unit_place bs (before_units + i) i refl (omega arith)) (before_at i (omega arith))

  pub unit_at : (m i : ℕ) → m ≡ before_units + i → i < (counts_in bs).units →
      unit_behind (units_before (unit (part_of bs)) (m - before_units)) (least_at (part_of bs) (counts_in bs).units m) (part_of bs m) ≡
      unit_behind (before_from [] (drop unit_start bs) i) (least_from unit_size 0 (drop unit_start bs) i) (drop (unit_size * i) (drop unit_start bs))
  unit_at m i e h =
      let less : m - before_units ≡ i = omega arith in
      ap₂ (λ (vs : List Unit) (x : Reply Unit). x >>= in_its_group vs) (ap (units_before (unit (part_of bs))) less ∙ before_at i (omega arith))
      (ap₂ unit_record (unit_least_at i h m e) (unit_place bs m i e h))

  pub requirement_at : (m j : ℕ) → m ≡ before_units + (counts_in bs).units + j → j < (counts_in bs).requirements →
      requirement_record (least_at (part_of bs) (counts_in bs).units m) (eqb (m + 1) (before_units + (counts_in bs).units + (counts_in bs).requirements))
      (part_of bs m) ≡ requirement_record (least_from requirement_size 0 (drop (requirement_start (counts_in bs).units) bs) j)
      (eqb ((counts_in bs).requirements - suc j) 0) (drop (requirement_size * j) (drop (requirement_start (counts_in bs).units) bs))
  requirement_at m j e h = rw (
    requirement_least_at j m e,
    last (before_units + (counts_in bs).units) (counts_in bs).requirements m e h,
    requirement_place bs m j e,
  )
    where
      last : (a q m : ℕ) → m ≡ a + j → j < q → eqb (m + 1) (a + q) ≡ eqb (q - suc j) 0
      last a q m e h = same_test (m + 1) (a + q) (q - suc j) 0 (λ f. omega arith) (λ f. omega arith)
