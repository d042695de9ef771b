-- SETTLE, TO ITS LAST LINE: whatever bytes the system's read gave, in pieces of any size, the text handed to the system's write, joined, is the rules' `settle`
-- of them. What stays outside is that read and write do as they are asked, and the two loops that ask them.
use mathlib.Core.Path.{◌≡◌, refl, sym, ◌∙◌, ap}
use mathlib.Core.Bool.{true, false}
use mathlib.Core.List.{List, []}
use Prim.Native.Nat.{ℕ, ◌+◌, ◌*◌, ◌≤◌, ◌<◌}
use native.Mathlib.Omega.{arith}
use lib.ListN.{length, get_or, drop}
use Rattle.rules.specs.declared.Refusal.TheVariants.{EndsEarly}
use Rattle.rules.specs.Quantities.{most_units}
use Rattle.rules.specs.Refusals.{taken, located}
use Rattle.rules.specs.Book.{Settings, Requirement, Book}
use Rattle.rules.specs.Contents.{contents, requirement_size}
use Rattle.rules.specs.RequirementRecord.{requirement_record}
use Rattle.rules.specs.WholeBook.{book}
use Rattle.rules.specs.Listing.{refused_line, listing, printed, settle}
use Rattle.interval.specs.declared.Tally.{Tally}
use Rattle.interval.specs.Tally.{before_units}
use Rattle.interval.specs.Lent.{Lent}
use Rattle.interval.proofs.TallyLaws.{ranged}
use Rattle.chain.specs.Taken.{counts_in}
use Rattle.chain.specs.Chain.{Chain}
use Rattle.chain.specs.Long.{Long}
use Rattle.chain.specs.BookWay.{records_in, Hands}
use Rattle.chain.proofs.Spelled.{book_means}
use Rattle.chain.proofs.Answerable.{units_answerable}
use Rattle.answer.specs.Promises.{Columns, columns_long}
use Rattle.answer.proofs.BookAnswered.{units_answered}
use Rattle.reader.proofs.ReadsBook.{reads_book}
use Rattle.reader.proofs.ReadFrom.{enough}
use Rattle.lister.specs.BookListed.{Taken as Listable}
use Rattle.lister.proofs.BookListed.{listed_whole}
use Rattle.dullavane_listing.specs.Called.{ListingCalled}
use Rattle.dullavane_listing.specs.WordsListed.{Came, written_in}
use Rattle.dullavane_listing.proofs.WordsListed.{words_whole}
use Rattle.demands.specs.WordsChain.{WordsChain}
use Rattle.demands.proofs.WordsTheorem.{words_chain}
use Rattle.demands.specs.Settled.{Settles, lists, refuses, finds_nothing}

-- a book that was taken to its end can be listed, with its requirements' records one behind the other
chain_listable :
    {bs head : List ℕ} {part : ℕ → List ℕ} {l₀ : Lent} {t : Tally} {l : Lent} → Hands bs head part → (b : Book) → book bs ≡ taken b →
    ((i : ℕ) → get_or bs i 0 < 256) → Chain head part l₀ (records_in head) t l → (records : List ℕ) → requirement_size * t.requirements ≤ length records →
    ((i : ℕ) (z : Requirement) → i < length b.requirements →
    requirement_record 0 false (drop (requirement_size * i) records) ≡ taken (get_or b.requirements i z)) →
    Listable b t records l
chain_listable {head = head} hands b e bytes chain records room asks =
    let means = book_means hands chain b e in
    let all : before_units + (counts_in head).units ≤ records_in head = omega arith in
    record {
      tally = (units_answerable hands b e chain all bytes).tally;
      ended = means.ended;
      interval = ap (λ (s : Settings). s.interval) means.keeps.settings;
      requirements = means.requirements;
      answers = units_answered hands b e bytes chain all;
      room = room;
      asks = asks;
    }

-- an input without a byte
nothing_there : settle [] ≡ refused_line (located 0 EndsEarly)
unfolding settle book contents
nothing_there = refl

module _
    {bs place₀ : List ℕ} {l₀ : Lent} {c₀ : Columns} (room : 769 ≤ length place₀) (long : Long l₀ most_units)
    (columns : (units : ℕ) → units ≤ most_units → columns_long units c₀ ≡ true) (bytes : (i : ℕ) → get_or bs i 0 < 256) where
  pub settled : {said : List ℕ} → Settles bs place₀ l₀ c₀ said → said ≡ settle bs
  unfolding settle
  settled (lists {t = t} reads reached through) =
      let k = reads_book room (enough long bs) bytes reads in
      let able = chain_listable k.hands k.the_book k.is_taken bytes k.chain _ k.room k.asks in
      listed_whole able c₀ (columns t.units (ranged t able.tally).units) reached through ∙ sym (ap printed k.is_taken)
  settled (refuses reads) = sym (ap printed (reads_book room (enough long bs) bytes reads))
  settled (finds_nothing e) = sym (rw e nothing_there)

-- ---- FROM C: once the calls have taken a book to its end, with its requirements' records in a list, one behind the other, the pieces that `dullavane_listing`
-- writes from sixteen zeros on, joined, are the book's listing where it says that nothing is left
module _
    {bs head : List ℕ} {part : ℕ → List ℕ} {l₀ : Lent} {ws₀ ts : List ℕ} {l : Lent} (hands : Hands bs head part) (b : Book) (e : book bs ≡ taken b)
    (bytes : (i : ℕ) → get_or bs i 0 < 256) (d : WordsChain head part l₀ ws₀ (records_in head) ts l) (records : List ℕ)
    (room : requirement_size * length b.requirements ≤ length records)
    (asks : (i : ℕ) (z : Requirement) → i < length b.requirements →
    requirement_record 0 false (drop (requirement_size * i) records) ≡ taken (get_or b.requirements i z)) where
  words_listable : Listable b (words_chain d).tally records l
  words_listable =
      let x = words_chain d in
      chain_listable hands b e bytes x.chain records (omega (arith, (book_means hands x.chain b e).requirements, room)) asks

  pub book_listed_in_c :
      {c₀ c c' : Columns} {ws ws' said old new : List ℕ} → columns_long (words_chain d).tally.units c₀ ≡ true → Came ts records l c₀ ws c said →
      ListingCalled ts ws records l c old 0 ws' c' new → written_in ws' ≡ 0 → said ≡ listing b
  book_listed_in_c {c₀} long came called none = words_whole words_listable ts (words_chain d).held c₀ long came called none
