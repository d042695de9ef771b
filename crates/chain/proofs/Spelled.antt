-- THE BOOK THAT WAS TAKEN: where a chain has ended, the format takes the book that its parts spell, and what the chain leaves is what the rules say of this
-- book. It need not be there as a whole: each part is what the call for its record took, and what was tried before in its place and refused is not in it.
use mathlib.Core.Path.{◌≡◌, sym, ◌∙◌, ap, ap₂, subst}
use mathlib.Core.Bool.{true, not, ◌&&◌, ◌||◌}
use mathlib.Core.List.{List, ◌++◌, append-nil}
use Prim.Native.Nat.{ℕ, zero, suc, ◌+◌, ◌-◌, ◌≤◌, ◌<◌}
use native.Mathlib.Decide.{dec_lt}
use native.Mathlib.Omega.{arith}
use lib.Dec.{eqb, leb}
use lib.ListN.{length, take, drop}
use lib.Seq.{length-take-le, take_all, take-append-le, take-take, take_at, drop_at, drop-drop}
use borrow.Author.Tests.{leb-true, eqb-true, eq-eqb, ne_eqb}
use Rattle.rules.specs.declared.Refusal.TheVariants.{EndsEarly, BytesFollow, RequirementField}
use Rattle.rules.specs.Bytes.{number_at}
use Rattle.rules.specs.Refusals.{Reply, taken, unless}
use Rattle.rules.specs.Book.{Requirement, Book}
use Rattle.rules.specs.Contents.{Counts, contents, contents_size, settings_size, frequency_size, unit_size, requirement_size}
use Rattle.rules.specs.SettingsRecord.{settings}
use Rattle.rules.specs.FrequencyRecord.{frequency_record}
use Rattle.rules.specs.UnitRecord.{unit_record}
use Rattle.rules.specs.RequirementRecord.{requirement_in, requirement_fine, requirement_record}
use Rattle.rules.specs.WholeBook.{book}
use Rattle.laws.proofs.LimitsLaws.{passed, in_group}
use Rattle.interval.specs.declared.Tally.{Tally}
use Rattle.interval.specs.Tally.{before_units}
use Rattle.interval.specs.Lent.{Lent}
use Rattle.chain.specs.Taken.{counts_in}
use Rattle.chain.proofs.Taken.{contents_is}
use Rattle.chain.specs.Chain.{Chain, Means, RecordTaken}
use Rattle.chain.proofs.ChainTheorem.{chain}
use Rattle.chain.specs.BookRecords.{record_size, record_start, part_of}
use Rattle.chain.proofs.BookRecords.{settings_sized, frequency_sized, unit_sized, requirement_sized}
use Rattle.chain.specs.Alike.{Alike}
use Rattle.chain.proofs.Alike.{counts_same}
use Rattle.chain.specs.Way.{records_of, reads}
use Rattle.chain.specs.BookWay.{records_in, Hands}
use Rattle.chain.proofs.BookWay.{hands_counts, hands_chain}
use Rattle.chain.proofs.BookRefused.{book_in, book_ended}
use Rattle.chain.specs.Keeps.{Keeps, BookMeans}
use Rattle.chain.proofs.BookChain.{chain_keeps, book_records, requirements_many}
use Rattle.chain.specs.Spelled.{spelled, spelled_from}

-- ---- where a chain over what is handed on of a book has ended, the format takes the book, and the chain leaves what the rules say of it
module _
    {bs head : List ℕ} {part : ℕ → List ℕ} (hands : Hands bs head part) {l₀ : Lent} {t : Tally} {l : Lent} (d : Chain head part l₀ (records_in head) t l) where
  same_records : records_in head ≡ records_in bs
  same_records = ap records_of (hands_counts hands)

  pub book_means : (b : Book) → book bs ≡ taken b → BookMeans b t l
  book_means b e =
      let d' = hands_chain hands d in
      let m = chain d' in
      let is = sym (book_records bs b e) in
      let keeps = subst (λ (b : Book). Keeps t l b) is (chain_keeps d' (omega (arith, same_records)) b.requirements) in
      record {
        requirements = m.requirements ∙ sym (requirements_many bs b e);
        ended = m.records ∙ same_records ∙ ap₂ (λ (u q : ℕ). before_units + u + q) (sym m.units) (sym m.requirements);
        keeps = keeps;
      }

  pub handed_book : (b : Book) × (book bs ≡ taken b) × BookMeans b t l
  handed_book =
      let e = book_ended bs l₀ (hands_chain hands d) same_records in
      (book_in bs, e, book_means (book_in bs) e)

-- ---- what the parts spell is handed on by them
-- each record that was taken is as long as it has to be, and nothing follows the last
pub record_long : (part : ℕ → List ℕ) (c : Counts) (m : ℕ) → RecordTaken part c m → record_size c.units m ≤ length (part m)
unfolding settings frequency_record unit_record requirement_record
record_long part c m w = go (dec_lt m 1) (dec_lt m before_units) (dec_lt m (before_units + c.units))
  where
    long : {A : Type 0} (size : ℕ) (rest : Reply A) (a : A) → unless (leb size (length (part m))) EndsEarly rest ≡ taken a → size ≤ length (part m)
    long size rest a e = leb-true size (length (part m)) (passed (leb size (length (part m))) EndsEarly rest a e).0

    go : Dec (m < 1) → Dec (m < before_units) → Dec (m < before_units + c.units) → record_size c.units m ≤ length (part m)
    go (yes x) _ _ = omega (arith, settings_sized c.units m (omega arith), long settings_size _ _ (w.as_settings (omega arith)))
    go (no x) (yes y) _ = omega (arith, frequency_sized c.units m (omega arith) y, long frequency_size _ _ (w.as_frequency (omega arith) y))
    go (no x) (no y) (yes z) = omega (arith, unit_sized c.units m (omega arith) z, long unit_size _ _ (in_group _ (unit_record _ (part m)) _ (w.as_unit (omega arith) z)).0)
    go (no x) (no y) (no z) = omega (arith, requirement_sized c.units m (omega arith), long requirement_size _ _ (w.as_requirement (omega arith)))

last_ends : (least : ℕ) (p : List ℕ) (q : Requirement) → requirement_record least true p ≡ taken q → length p ≡ requirement_size
unfolding requirement_record
last_ends least p q e =
    let whole = passed (leb requirement_size (length p)) EndsEarly _ q e in
    let fine = leb least (requirement_in p).number && leb (number_at 1 3 p) 1 && requirement_fine (requirement_in p) in
    let fields = passed fine RequirementField _ q whole.1 in
    eqb-true (length p) requirement_size (passed (not true || eqb (length p) requirement_size) BytesFollow _ q fields.1).0

contents_long : (bs : List ℕ) (c : Counts) → contents bs ≡ taken c → contents_size ≤ length bs
unfolding contents
contents_long bs c e = leb-true contents_size (length bs) (passed (leb contents_size (length bs)) EndsEarly _ c e).0

module _
    (head : List ℕ) (part : ℕ → List ℕ) (table : contents_size ≤ length head)
    (long : (m : ℕ) → m < records_in head → record_size (counts_in head).units m ≤ length (part m)) where
  abbrev units : ℕ
  units = (counts_in head).units

  spelled_contents : Alike contents_size head (spelled head part)
  unfolding spelled
  spelled_contents = record { starts = sym (take_at (take contents_size head) _ contents_size (length-take-le contents_size head table)) }

  -- from record m on stand the records from there
  spelled_drop : (m k : ℕ) → m + k ≡ records_in head → drop (record_start units m) (spelled head part) ≡ spelled_from units part m k
  unfolding spelled spelled_from record_start
  spelled_drop zero k e =
      let all : records_in head ≡ k = omega arith in
      drop_at (take contents_size head) _ contents_size (length-take-le contents_size head table)
      ∙ ap (λ (n : ℕ). spelled_from units part 0 n) all
  spelled_drop (suc m) k e =
      sym (drop-drop (record_size units m) (record_start units m) (spelled head part))
      ∙ ap (drop (record_size units m)) (spelled_drop m (suc k) (omega arith))
      ∙ drop_at (take (record_size units m) (part m)) _ (record_size units m) (length-take-le (record_size units m) (part m) (long m (omega arith)))

  spelled_part :
      (m k : ℕ) → m + suc k ≡ records_in head → part_of (spelled head part) m ≡ take (record_size units m) (part m) ++ spelled_from units part (suc m) k
  unfolding part_of spelled_from
  spelled_part m k e =
      let same : (counts_in (spelled head part)).units ≡ units = ap (λ (c : Counts). c.units) (sym (counts_same spelled_contents (omega arith))) in
      ap (λ (u : ℕ). drop (record_start u m) (spelled head part)) same ∙ spelled_drop m (suc k) e

  module _ (ends : (m : ℕ) → suc m ≡ records_in head → length (part m) ≡ record_size (counts_in head).units m) where
    spelled_record : (m k : ℕ) → m + suc k ≡ records_in head → Alike (reads (counts_in head) m) (part m) (part_of (spelled head part) m)
    unfolding spelled_from
    spelled_record m zero e =
        let all = take_all (record_size units m) (part m) (omega (arith, ends m (omega arith))) in
        record { starts = rw (spelled_part m 0 e, all) (ap (take (reads (counts_in head) m)) (sym (append-nil (part m)))) }
    spelled_record m (suc k) e =
        let size = record_size units m in
        let last = ne_eqb (m + 1) (records_in head) (λ f. omega arith) in
        let stands = take-append-le (size + 0) (take size (part m)) _ (omega (arith, length-take-le size (part m) (long m (omega arith)))) in
        record { starts = rw (spelled_part m (suc k) e, last) (sym (stands ∙ take-take (size + 0) size (part m) (omega arith))) }

    spelled_handed : Hands (spelled head part) head part
    spelled_handed = record { contents = spelled_contents; records = λ n h. spelled_record n (records_in head - suc n) (omega arith) }

module _ {head : List ℕ} {part : ℕ → List ℕ} {l₀ : Lent} {t : Tally} {l : Lent} (d : Chain head part l₀ (records_in head) t l) where
  -- so a chain that has ended has handed on the book that its parts spell
  pub spelled_hands : Hands (spelled head part) head part
  spelled_hands =
      spelled_handed head part (contents_long head (counts_in head) m.table) (λ i h. record_long part (counts_in head) i (m.taken_each i h)) ends
    where
      m : Means head part l₀ (records_in head) t l
      m = chain d

      ends : (i : ℕ) → suc i ≡ records_in head → length (part i) ≡ record_size (counts_in head).units i
      ends i e =
          let some = (contents_is head (counts_in head) m.table).1.some in
          let first : before_units + (counts_in head).units ≤ i = omega arith in
          let last = eq-eqb (i + 1) (records_in head) (omega arith) in
          last_ends _ (part i) _ (rw last at ((m.taken_each i (omega arith)).as_requirement first)) ∙ sym (requirement_sized (counts_in head).units i first)

  -- ---- THE BOOK THAT WAS TAKEN
  pub chain_book : (b : Book) × (book (spelled head part) ≡ taken b) × BookMeans b t l
  chain_book = handed_book spelled_hands d
