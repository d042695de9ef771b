-- ANSWERABLE: once a chain has all units in, all is there for the answers, and stays so: the tally is in range, the lent lists are long enough and in range,
-- and what is kept gives the rules' answer to any requirement, and the rows of the rules' report.
use mathlib.Core.Path.{◌≡◌, sym, ◌∙◌, ap, subst}
use mathlib.Core.Bool.{Bool, true, false, not, ◌&&◌, ◌||◌}
use mathlib.Core.List.{List}
use Prim.Native.Nat.{ℕ, ◌+◌, ◌*◌, ◌≤◌, ◌<◌}
use native.Mathlib.Omega.{arith}
use lib.Dec.{eqb, leb}
use lib.ListN.{length, get_or, drop}
use borrow.Author.Tests.{le-leb}
use Rattle.integers.specs.Sums.{both}
use Rattle.rules.specs.declared.Refusal.TheVariants.{EndsEarly, BytesFollow, RequirementField}
use Rattle.rules.specs.Bytes.{number_at}
use Rattle.laws.proofs.BytesLaws.{listed_from_zero}
use Rattle.rules.specs.Refusals.{taken}
use Rattle.rules.specs.Book.{Requirement, Book}
use Rattle.rules.specs.Contents.{Counts, requirement_size}
use Rattle.rules.specs.RequirementRecord.{requirement_in, requirement_fine, requirement_record}
use Rattle.rules.specs.WholeBook.{requirement_body, book}
use Rattle.laws.proofs.LimitsLaws.{passed}
use Rattle.interval.specs.declared.Tally.{Tally}
use Rattle.interval.specs.Tally.{before_units, in_range}
use Rattle.interval.specs.Lent.{Lent}
use Rattle.chain.specs.Long.{Long}
use Rattle.chain.proofs.ChainLaws.{listed_length}
use Rattle.chain.specs.Taken.{counts_in}
use Rattle.chain.specs.Chain.{Chain, units_among}
use Rattle.chain.proofs.ChainSteps.{still_long}
use Rattle.chain.proofs.ChainTheorem.{chain}
use Rattle.chain.proofs.Judged.{chain_in_range}
use Rattle.chain.proofs.BookRecords.{requirement_sized, part_bytes, requirement_place, requirements_each, book_read}
use Rattle.chain.proofs.Alike.{requirement_same}
use Rattle.chain.specs.BookWay.{records_in, Hands}
use Rattle.chain.proofs.BookWay.{hands_counts, hands_chain}
use Rattle.chain.proofs.KeptInRange.{passes_both}
use Rattle.chain.proofs.Spelled.{spelled_hands, chain_book}
use Rattle.chain.specs.BookChain.{book_of}
use Rattle.chain.proofs.BookChain.{chain_answers, chain_reports, chain_kept_in_range, book_records, requirements_many}
use Rattle.chain.specs.Answerable.{Answerable}

-- ---- of any chain that has all units in, for the book of the records that it took
module _
    {head : List ℕ} {part : ℕ → List ℕ} {l₀ : Lent} {n : ℕ} {t : Tally} {l : Lent} (d : Chain head part l₀ n t l)
    (all : before_units + (counts_in head).units ≤ n) where
  chain_long : Long l t.units
  chain_long =
      let w = chain d in
      rw w.units (still_long w.lent (rw (every (counts_in head).units all) at (w.long (omega arith))))
    where
      every : (u : ℕ) → before_units + u ≤ n → units_among u n ≡ u
      every u h = omega arith

  answerable_in_range : in_range t ≡ true → (qs : List Requirement) → Answerable (book_of (counts_in head).units part qs) t l
  answerable_in_range tally qs =
      let w = chain d in
      record {
        tally = tally;
        turn = omega (arith, w.records, w.units);
        long = chain_long;
        lent = chain_kept_in_range d all;
        answers = chain_answers d all qs;
        reports = chain_reports d all qs;
      }

  pub chain_answerable : ((m i : ℕ) → m < n → get_or (part m) i 0 < 256) → (qs : List Requirement) → Answerable (book_of (counts_in head).units part qs) t l
  chain_answerable bytes = answerable_in_range (chain_in_range d bytes)

-- ---- of a book that the format takes, handed on whole or cut
module _
    {bs head : List ℕ} {part : ℕ → List ℕ} (hands : Hands bs head part) (b : Book) (e : book bs ≡ taken b)
    {l₀ : Lent} {n : ℕ} {t : Tally} {l : Lent} (d : Chain head part l₀ n t l) (all : before_units + (counts_in head).units ≤ n) where
  handed_answerable : in_range t ≡ true → Answerable b t l
  handed_answerable tally =
      let all' = subst (λ (c : Counts). before_units + c.units ≤ n) (hands_counts hands) all in
      subst (λ (b : Book). Answerable b t l) (sym (book_records bs b e)) (answerable_in_range (hands_chain hands d) all' tally b.requirements)

  pub units_answerable : ((i : ℕ) → get_or bs i 0 < 256) → Answerable b t l
  units_answerable bytes = handed_answerable (chain_in_range (hands_chain hands d) (λ m i _. part_bytes bs bytes m i))

-- ---- of the book that the parts of a chain have spelled, where it has ended
pub ended_answerable :
    {head : List ℕ} {part : ℕ → List ℕ} {l₀ : Lent} {t : Tally} {l : Lent} (d : Chain head part l₀ (records_in head) t l) →
    ((m i : ℕ) → m < records_in head → get_or (part m) i 0 < 256) → Answerable (chain_book d).0 t l
ended_answerable d bytes =
    handed_answerable (spelled_hands d) (chain_book d).0 (chain_book d).1 d (omega arith) (chain_in_range d bytes)

-- ---- a requirement's record, read again
-- one that was taken is taken again whatever its number and whatever follows
pub requirement_again :
    (least : ℕ) (last : Bool) (bs : List ℕ) (q : Requirement) → requirement_record least last bs ≡ taken q → requirement_record 0 false bs ≡ taken q
unfolding requirement_record
requirement_again least last bs q e =
    let n = (requirement_in bs).number in
    let direction = leb (number_at 1 3 bs) 1 in
    let whole = passed (leb requirement_size (length bs)) EndsEarly _ q e in
    let fields = passed (leb least n && direction && requirement_fine (requirement_in bs)) RequirementField _ q whole.1 in
    let ends = passed (not last || eqb (length bs) requirement_size) BytesFollow _ q fields.1 in
    let fine = both (leb least n && direction) (requirement_fine (requirement_in bs)) fields.0 in
    let known = both (leb least n) direction fine.0 in
    let again = passes_both (leb 0 n) direction (le-leb 0 n (omega arith)) known.1 in
    rw (whole.0, passes_both (leb 0 n && direction) (requirement_fine (requirement_in bs)) again fine.1) ends.1

-- in a body, z standing where there is no requirement
read_in_body :
    (n : ℕ) (bs : List ℕ) (qs : List Requirement) → requirement_body n 1 0 bs ≡ taken qs → (i : ℕ) (z : Requirement) → i < length qs →
    requirement_record 0 false (drop (requirement_size * i) bs) ≡ taken (get_or qs i z)
read_in_body n bs qs e i z h =
    let each = requirements_each n 1 0 bs qs e in
    let here : i < n = omega (arith, ap length each.0 ∙ listed_length 0 n record_of) in
    let value : get_or qs i z ≡ record_of i = ap (λ (l : List Requirement). get_or l i z) each.0 ∙ listed_from_zero n record_of i z here in
    requirement_again _ _ _ _ (each.1 i here) ∙ ap taken (sym value)
  where
    record_of : ℕ → Requirement
    record_of j = requirement_in (drop (requirement_size * j) bs)

module _ {bs head : List ℕ} {part : ℕ → List ℕ} (hands : Hands bs head part) (b : Book) (e : book bs ≡ taken b) where
  pub requirement_read :
      (i : ℕ) (z : Requirement) → i < length b.requirements →
      requirement_record 0 false (part (before_units + (counts_in head).units + i)) ≡ taken (get_or b.requirements i z)
  requirement_read i z h =
      let m = before_units + (counts_in head).units + i in
      let same = hands_counts hands in
      let few : m < records_in head = omega (arith, requirements_many bs b e, ap (λ (c : Counts). c.requirements) same) in
      requirement_same (hands.records m few) 0 false (omega (arith, requirement_sized (counts_in head).units m (omega arith)))
      ∙ ap (requirement_record 0 false) (requirement_place bs m i (ap (λ (c : Counts). before_units + c.units + i) same))
      ∙ read_in_body (counts_in bs).requirements _ b.requirements (book_read bs b e).requirements i z h
