-- THE BOOK TAKEN OR REFUSED: where the format takes a book, the calls take every record of it, whatever was refused in between. Where it refuses the book,
-- they meet that refusal and no other, number, place and t: the table of contents is refused with its number, or all records before some record are taken and this one is refused.
use Rattle.std.specs.Prelude.{Err}
use mathlib.Core.Path.{◌≡◌, refl, sym, ◌∙◌, ap, ap₂, subst}
use mathlib.Core.List.{List, []}
use Prim.Native.Nat.{ℕ, suc, ◌+◌, ◌*◌, ◌-◌, ◌≤◌, ◌<◌}
use native.Mathlib.Omega.{arith}
use lib.Dec.{eqb}
use lib.ListN.{get_or, drop}
use Rattle.rules.specs.declared.Refusal.{Refusal}
use Rattle.rules.specs.declared.Located.{Located}
use Rattle.rules.specs.Quantities.{regions}
use Rattle.rules.specs.Bytes.{listed}
use Rattle.rules.specs.Refusals.{ReplyOf, Reply, LocatedReply, taken, refused, located, at, ◌>>=◌}
use Rattle.rules.specs.Book.{Settings, Region, Unit, Requirement, Book}
use Rattle.rules.specs.Contents.{Counts, contents, contents_size, frequency_start, frequency_size, unit_start, unit_size, requirement_start, requirement_size}
use Rattle.rules.specs.SettingsRecord.{settings, settings_in}
use Rattle.rules.specs.FrequencyRecord.{region_in, frequency_record}
use Rattle.rules.specs.UnitRecord.{unit_in}
use Rattle.rules.specs.RequirementRecord.{requirement_in, requirement_record}
use Rattle.rules.specs.WholeBook.{frequency_body, unit_body, requirement_body, book}
use Rattle.interval.specs.declared.Tally.{Tally}
use Rattle.interval.specs.Tally.{before_units, record_place, next_place}
use Rattle.interval.proofs.TallyLaws.{settings_placed, frequency_placed, unit_placed, requirement_placed}
use Rattle.interval.specs.declared.Step.{Step}
use Rattle.interval.specs.Lent.{Lent}
use Rattle.interval.specs.Calls.{opened, settled, counted, unit_counted, settings_reply, frequency_reply, unit_reply, requirement_reply}
use Rattle.chain.specs.Taken.{counts_in, unit_behind}
use Rattle.interval.proofs.Calls.{step_refused}
use Rattle.chain.specs.Chain.{Refused, Chain, Means}
use Rattle.chain.proofs.ChainTheorem.{chain}
use Rattle.chain.specs.Long.{Long}
use Rattle.chain.proofs.Judged.{settings_judged, frequency_judged, unit_judged, requirement_judged}
use Rattle.chain.specs.BookRecords.{before_from, part_of, least_from}
use Rattle.chain.proofs.BookRecords.{
  settings_part,
  part_bytes,
  body_all,
  body_stops,
  frequency_body_is,
  unit_body_is,
  requirement_body_is,
  frequency_place,
  frequency_at,
  unit_place,
  unit_at,
  requirement_place,
  requirement_at,
}
use Rattle.chain.proofs.Alike.{contents_alike}
use Rattle.chain.specs.Way.{records_of, Call, for_settings, for_frequency, for_unit, for_requirement}
use Rattle.chain.proofs.Way.{way_chain, any_call}
use Rattle.chain.specs.BookWay.{records_in, Hands, Takes, Meets, at_contents, at_record, Walked, arrived, stopped}
use Rattle.chain.proofs.BookWay.{hands_counts, hands_chain, hands_call, way_takes, walk}

-- ---- a book by its bodies
abbrev assembled : LocatedReply Settings → LocatedReply (List Region) → LocatedReply (List Unit) → LocatedReply (List Requirement) → LocatedReply Book
assembled settings_body regions_body roster_body requirements_body = do
  s ← settings_body
  rs ← regions_body
  us ← roster_body
  qs ← requirements_body
  taken (record { settings = s; regions = rs; roster = us; requirements = qs })

module _ (bs : List ℕ) where
  abbrev settings_bytes : List ℕ
  settings_bytes = drop contents_size bs

  abbrev frequency_bytes : ℕ → List ℕ
  frequency_bytes i = drop (frequency_size * i) (drop frequency_start bs)

  abbrev unit_bytes : ℕ → List ℕ
  unit_bytes i = drop (unit_size * i) (drop unit_start bs)

  abbrev requirement_bytes : ℕ → List ℕ
  requirement_bytes i = drop (requirement_size * i) (drop (requirement_start (counts_in bs).units) bs)

  book_is :
      contents bs ≡ taken (counts_in bs) →
      book bs ≡
      assembled (at 1 (settings settings_bytes)) (frequency_body regions 0 (drop frequency_start bs))
      (unit_body (counts_in bs).units 1 0 [] (drop unit_start bs)) (requirement_body (counts_in bs).requirements 1 0 (drop (requirement_start (counts_in bs).units) bs))
  unfolding book
  book_is table = rw table

  -- the book that is read from them where none is refused
  pub book_in : Book
  book_in =
      record {
        settings = settings_in settings_bytes;
        regions = listed 0 regions (λ i. region_in (frequency_bytes i));
        roster = listed 0 (counts_in bs).units (λ i. unit_in (unit_bytes i));
        requirements = listed 0 (counts_in bs).requirements (λ i. requirement_in (requirement_bytes i));
      }

-- ---- where a chain stands: the bodies that it has taken, and the one in which the next record is refused
module _ (bs : List ℕ) (l₀ : Lent) {n : ℕ} {t : Tally} {l : Lent} (d : Chain bs (part_of bs) l₀ n t l) where
  w : Means bs (part_of bs) l₀ n t l
  w = chain d

  settings_there : 0 < n → settings (settings_bytes bs) ≡ taken (settings_in (settings_bytes bs))
  settings_there h = rw (settings_part bs) at ((w.taken_each 0 h).as_settings refl)

  frequency_there : (i : ℕ) → suc i < n → i < regions → frequency_record (0 + i) (frequency_bytes bs i) ≡ taken (region_in (frequency_bytes bs i))
  frequency_there i m h =
      sym (frequency_at bs (suc i) i refl h)
      ∙ (w.taken_each (suc i) m).as_frequency (omega arith) (omega arith)
      ∙ ap (λ (p : List ℕ). taken (region_in p)) (frequency_place bs (suc i) i refl h)

  unit_there :
      (i : ℕ) → before_units + i < n → i < (counts_in bs).units →
      unit_behind (before_from [] (drop unit_start bs) i) (least_from unit_size 0 (drop unit_start bs) i) (unit_bytes bs i) ≡ taken (unit_in (unit_bytes bs i))
  unit_there i m h =
      sym (unit_at bs (before_units + i) i refl h)
      ∙ (w.taken_each (before_units + i) m).as_unit (omega arith) (omega arith)
      ∙ ap (λ (p : List ℕ). taken (unit_in p)) (unit_place bs (before_units + i) i refl h)

  requirement_there :
      (j : ℕ) → before_units + (counts_in bs).units + j < n → j < (counts_in bs).requirements →
      requirement_record (least_from requirement_size 0 (drop (requirement_start (counts_in bs).units) bs) j) (eqb ((counts_in bs).requirements - suc j) 0)
      (requirement_bytes bs j) ≡ taken (requirement_in (requirement_bytes bs j))
  requirement_there j m h =
      sym (requirement_at bs (before_units + (counts_in bs).units + j) j refl h)
      ∙ (w.taken_each (before_units + (counts_in bs).units + j) m).as_requirement (omega arith)
      ∙ ap (λ (p : List ℕ). taken (requirement_in p)) (requirement_place bs (before_units + (counts_in bs).units + j) j refl)

  frequencies_there : before_units ≤ n → frequency_body regions 0 (drop frequency_start bs) ≡ taken (book_in bs).regions
  unfolding book_in
  frequencies_there m =
      frequency_body_is regions 0 _
      ∙ body_all (λ i. region_in (frequency_bytes bs i)) regions _ (λ i h. ap (at (suc (0 + i))) (frequency_there i (omega arith) h))

  units_there : before_units + (counts_in bs).units ≤ n → unit_body (counts_in bs).units 1 0 [] (drop unit_start bs) ≡ taken (book_in bs).roster
  unfolding book_in
  units_there m =
      unit_body_is (counts_in bs).units 1 0 [] _
      ∙ body_all (λ i. unit_in (unit_bytes bs i)) (counts_in bs).units _ (λ i h. ap (at (1 + i)) (unit_there i (omega arith) h))

  -- at the end of the book the format has taken it
  pub book_ended : n ≡ records_in bs → book bs ≡ taken (book_in bs)
  unfolding book_in
  book_ended e =
      let many = (counts_in bs).requirements in
      let requirements_there =
      requirement_body_is many 1 0 _
      ∙ body_all (λ i. requirement_in (requirement_bytes bs i)) many _ (λ i h. ap (at (1 + i)) (requirement_there i (omega arith) h)) in
      book_is bs w.table ∙ rw (settings_there (omega arith), frequencies_there (omega arith), units_there (omega arith), requirements_there)

  -- the record that comes next, at its place
  placed_here : (place : ℕ) {A : Type 0} {x y : Reply A} {why : Located} → record_place (counts_in bs).units n ≡ place → y ≡ x →
      at (next_place t) x ≡ refused why → at place y ≡ refused why
  placed_here place {A} e f g =
      ap₂ (λ (k : ℕ) (z : Reply A). at k z) (sym (ap₂ record_place w.units w.records ∙ e)) f ∙ g

  -- where the next call refuses, the format has refused the book with the same number, place and t
  record_refused :
      {r : Step} {l' : Lent} {why : Located} → Long l₀ (counts_in bs).units → ((i : ℕ) → get_or bs i 0 < 256) →
      Call (counts_in bs) (part_of bs n) n t l r l' → Refused r why → book bs ≡ refused why
  record_refused {why = why} long bytes (for_settings z p _) e =
      let answer = (step_refused (settled t) t (settings_reply t (part_of bs n)) p.reply e).0 in
      let judged = settings_judged d (λ m i _. part_bytes bs bytes m i) z (part_of bs n) in
      let here = placed_here 1 (settings_placed (counts_in bs).units n z)
      (ap settings (sym (ap (part_of bs) z ∙ settings_part bs)) ∙ sym judged) answer in
      book_is bs w.table ∙ rw here
  record_refused {why = why} long bytes (for_frequency first last c) e =
      let i = n - 1 in
      let answer = (step_refused (λ _. counted 0 t) t (frequency_reply t (part_of bs n) l) c.reply e).0 in
      let judged = frequency_judged d (λ m i _. part_bytes bs bytes m i) first last long (part_of bs n) in
      let here = placed_here (suc (0 + i)) (frequency_placed (counts_in bs).units n (0 + i) (omega arith) (omega arith))
      (sym (frequency_at bs n i (omega arith) (omega arith)) ∙ sym judged) answer in
      let stops =
      frequency_body_is regions 0 _
      ∙ body_stops (λ i. region_in (frequency_bytes bs i)) regions i _ why (omega arith)
      (λ i h. ap (at (suc (0 + i))) (frequency_there i (omega arith) (omega arith))) here in
      book_is bs w.table ∙ rw (settings_there (omega arith), stops)
  record_refused {why = why} long bytes (for_unit first last c) e =
      let many = (counts_in bs).units in
      let i = n - before_units in
      let answer = (step_refused (unit_counted t) t (unit_reply t (part_of bs n) l) c.reply e).0 in
      let judged = unit_judged d (λ m i _. part_bytes bs bytes m i) first last long (part_of bs n) in
      let here = placed_here (1 + i) (unit_placed many n i (omega arith) (omega arith))
      (sym (unit_at bs n i (omega arith) (omega arith)) ∙ sym judged) answer in
      let stops =
      unit_body_is many 1 0 [] _
      ∙ body_stops (λ i. unit_in (unit_bytes bs i)) many i _ why (omega arith) (λ i h. ap (at (1 + i)) (unit_there i (omega arith) (omega arith))) here in
      book_is bs w.table ∙ rw (settings_there (omega arith), frequencies_there first, stops)
  record_refused {why = why} long bytes (for_requirement first last p _) e =
      let j = n - (before_units + (counts_in bs).units) in
      let many = (counts_in bs).requirements in
      let answer = (step_refused (λ q. counted (q.number + 1) t) t (requirement_reply t (part_of bs n)) p.reply e).0 in
      let judged = requirement_judged d (λ m i _. part_bytes bs bytes m i) first last (part_of bs n) in
      let here = placed_here (1 + j) (requirement_placed (counts_in bs).units n j (omega arith))
      (sym (requirement_at bs n j (omega arith) (omega arith)) ∙ sym judged) answer in
      let stops =
      requirement_body_is many 1 0 _
      ∙ body_stops (λ i. requirement_in (requirement_bytes bs i)) many j _ why (omega arith)
      (λ i h. ap (at (1 + i)) (requirement_there i (omega arith) (omega arith))) here in
      book_is bs w.table ∙ rw (settings_there (omega arith), frequencies_there (omega arith), units_there first, stops)

contents_refused : (bs : List ℕ) (x : Refusal) → contents bs ≡ refused x → book bs ≡ refused (located 0 x)
unfolding book
contents_refused bs x e = rw e

opened_refused : {why : Refusal} (reply : Reply Counts) → Err why ≡ opened reply → reply ≡ refused why
opened_refused (taken c) e = let z : ◌≡◌ {A = ℕ} 0 1 = cc in absurd (omega arith)
opened_refused (refused x) e = cc

pub not_both : {R A B : Type 0} {x : ReplyOf R A} {a : A} {why : R} → x ≡ taken a → x ≡ refused why → B
not_both e f = let z : ◌≡◌ {A = ℕ} 0 1 = cc in absurd (omega arith)

-- ---- of a caller who hands on the bytes of a book, and lends lists that are long long for the units of a table of contents that is taken
module _
    {bs head : List ℕ} {part : ℕ → List ℕ} (l₀ : Lent) (hands : Hands bs head part)
    (long : contents bs ≡ taken (counts_in bs) → Long l₀ (counts_in bs).units) (bytes : (i : ℕ) → get_or bs i 0 < 256) where
  -- whatever was refused before, the refusal of the call for the next record is the format's
  pub refused_here :
      {n : ℕ} {t : Tally} {l l' : Lent} {r : Step} {why : Located} → Chain head part l₀ n t l → n < records_in head →
      Call (counts_in head) (part n) n t l r l' → Refused r why → book bs ≡ refused why
  refused_here d h c e =
      let d' = hands_chain hands d in
      record_refused bs l₀ d' (long (chain d').table) bytes (hands_call hands d h c) e

  pub refused_book : {why : Located} → Meets head part l₀ why → book bs ≡ refused why
  refused_book (at_contents {x} p e) =
      contents_refused bs x (opened_refused (contents bs) (contents_alike hands.contents (omega arith) p).reply) ∙ ap refused e
  refused_book (at_record {m} s) =
      let at = s.before.there in
      let call = any_call (counts_in head) (part m) m at.0 at.1 s.inside in
      refused_here at.2 s.inside call.2 (ap (λ (r : Step). r.taking) (s.refuses at.2 call.2).0)

  -- and the calls meet the format's refusal
  pub book_refused : {why : Located} → book bs ≡ refused why → Meets head part l₀ why
  book_refused {why} e = go (walk head part l₀ (records_in head) (omega arith))
    where
      same : {x : Located} → book bs ≡ refused x → x ≡ why
      same f = cc

      go : Walked head part l₀ (records_in head) → Meets head part l₀ why
      go (arrived way) = not_both (book_ended bs l₀ (hands_chain hands (way_chain head part l₀ way)) (ap records_of (hands_counts hands))) e
      go (stopped m) = subst (Meets head part l₀) (same (refused_book m)) m

  -- of a book that the format takes they take every record, to its end
  pub book_way : (b : Book) → book bs ≡ taken b → Takes head part l₀ (records_in head)
  book_way b e = go (walk head part l₀ (records_in head) (omega arith))
    where
      go : Walked head part l₀ (records_in head) → Takes head part l₀ (records_in head)
      go (arrived way) = way_takes head part l₀ way
      go (stopped m) = not_both e (refused_book m)
