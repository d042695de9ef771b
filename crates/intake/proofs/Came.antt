-- Laws of the definitions in specs/Came.antt: a walk of the reading has taken records of a book, one after the other, or met a refusal.
use Rattle.std.specs.Prelude.{Result, Ok, Err, ⊤}
use Rattle.rules.specs.declared.Located.{Located}
use Rattle.rules.specs.declared.Refusal.{Refusal}
use mathlib.Core.Path.{◌≡◌, refl, sym, ◌∙◌, ap₂, subst}
use mathlib.Core.Bool.{Bool, true, false, cond}
use mathlib.Core.List.{List}
use Prim.Native.Nat.{ℕ, suc, ◌+◌, ◌≤◌, ◌<◌}
use native.Mathlib.Omega.{arith}
use lib.ListN.{length}
use borrow.Author.Tests.{eqb-true}
use Rattle.rules.specs.Quantities.{most_units, most_requirements}
use Rattle.rules.specs.Refusals.{taken}
use Rattle.rules.specs.Book.{Book}
use Rattle.rules.specs.WholeBook.{book}
use Rattle.interval.specs.declared.Tally.{Tally}
use Rattle.interval.specs.Tally.{before_units, book_end}
use Rattle.interval.specs.Lent.{Lent}
use Rattle.interval.specs.Promises.{ContentsPromise}
use Rattle.chain.specs.Taken.{counts_in}
use Rattle.chain.proofs.Taken.{contents_is}
use Rattle.chain.specs.Chain.{Chain}
use Rattle.chain.proofs.ChainTheorem.{chain}
use Rattle.chain.specs.BookWay.{records_in}
use Rattle.chain.specs.Keeps.{BookMeans}
use Rattle.chain.specs.Spelled.{spelled}
use Rattle.chain.proofs.Spelled.{chain_book}
use Rattle.reader.specs.declared.Reading.{Reading}
use Rattle.reader.specs.declared.Reading.TheVariants.{Contents, Record}
use Rattle.reader.specs.declared.Came as r
use Rattle.reader.specs.Reading.{CamePromise, ContentsCame, RecordCame, after_contents, after_record, all, is_end, some, too_many, wanted_part}
use Rattle.reader.specs.Arrives.{Arrives, Reads, arrives, starts}
use Rattle.reader.proofs.OneMore.{chain_calls, chain_next, next_part, one_more}
use Rattle.reader.proofs.Arrives.{Stands}
use Rattle.reader.proofs.ReadsStep.{within_wanted}
use Rattle.reader.proofs.ReadsBook.{walked}
use Rattle.intake.specs.declared.whole.Next as n
use Rattle.intake.specs.declared.whole.Next.{Next}
use Rattle.intake.specs.Came.{Came, ReadTo, RefusedBook, RoomFor, TakenTo, at_contents, at_record}

-- what a walk has taken, by what was said last
abbrev Took : Lent → r.Came → Lent → Type 0
Took l₀ (r.TheVariants.Wants reading) l = Unit {0}
Took l₀ (r.TheVariants.Taken t) l = Came l₀ (book_end t) t l
Took l₀ (r.TheVariants.Refused why) l = RefusedBook l₀ why l

contents_took : {p : List ℕ} {x : r.Came} (l₀ : Lent) → ContentsCame p x → Took l₀ x l₀
contents_took {p} l₀ w = subst (λ (x : r.Came). Took l₀ x l₀) (sym w.reply) (go w.opened w.promise)
  where
    go : (x : Result Tally Refusal) → ContentsPromise p x → Took l₀ (after_contents x) l₀
    go (Ok t) q = tt
    go (Err x) q = at_contents q refl refl

record_took :
    {head : List ℕ} {part : ℕ → List ℕ} {l₀ : Lent} {t : Tally} {l l' : Lent} {p : List ℕ} {x : r.Came} → Chain head part l₀ t.records t l →
    t.records < book_end t → RecordCame t p l x l' → Took l₀ x l'
record_took {head} {part} {l₀} {t} {l} {l'} {p} d inside w =
    subst (λ (x : r.Came). Took l₀ x l') (sym w.reply) (go w.step.taking refl)
  where
    tally : Tally
    tally = w.step.tally

    go : (x : Result ⊤ Located) → w.step.taking ≡ x → Took l₀ (after_record x tally) l'
    go (Err why) e = at_record d (chain_calls d inside w.turn) e
    go (Ok tt) e = ends (is_end tally.records tally) refl
      where
        ends : (x : Bool) → is_end tally.records tally ≡ x → Took l₀ (after_record (Ok tt) tally) l'
        ends x f =
            subst (λ (b : Bool). Took l₀ (cond b (r.TheVariants.Taken tally) (r.TheVariants.Wants (Record tally 0))) l') (sym f) (at x f)
          where
            at : (x : Bool) → is_end tally.records tally ≡ x → Took l₀ (cond x (r.TheVariants.Taken tally) (r.TheVariants.Wants (Record tally 0))) l'
            at false f = tt
            at true f =
                let all_in : suc t.records ≡ book_end tally =
                omega (arith, eqb-true tally.records (book_end tally) f, (one_more d inside w.turn e).records) in
                record {
                  head = head;
                  part = next_part d inside w.turn;
                  chain = subst (λ (m : ℕ). Chain head (next_part d inside w.turn) l₀ m tally l') all_in (chain_next d inside w.turn e);
                }

step_took :
    (alone : Bool) (bs : List ℕ) (l₀ : Lent) (p count : ℕ) (old new : List ℕ) (l l' : Lent) (x : r.Came) (reading : Reading) →
    Stands alone bs l₀ p reading old l → Arrives bs p (wanted_part reading alone (length old)) count old new → CamePromise reading alone count new l x l' →
    Took l₀ x l'
step_took alone bs l₀ p count old new l l' x reading s a (too_many h e f) = absurd (within_wanted alone reading a h)
step_took alone bs l₀ p count old new l l' x reading s a (some h e f) = rw e tt
step_took alone bs l₀ p count old new l l' x (Contents got) s a (all h w) = subst (λ (l : Lent). Took l₀ x l) (sym (w.1 ∙ s.lent)) (contents_took l₀ w.0)
step_took alone bs l₀ p count old new l l' x (Record t got) s a (all h w) = record_took s.chain s.inside w

walk_took :
    {alone : Bool} {bs place₀ : List ℕ} {l₀ : Lent} {arrivals p : ℕ} {x : r.Came} {place : List ℕ} {l : Lent} → 769 ≤ length place₀ →
    Reads alone bs place₀ l₀ arrivals p x place l → Took l₀ x l
walk_took room starts = tt
walk_took {alone} {bs} {place₀} {l₀} room (arrives {n} {p} {count} {reading} {old} {new} {l} {l'} {r = x} w a c) =
    step_took alone bs l₀ p count old new l l' x reading (walked room w).1 a c

-- ---- what was read is what was taken
pub read_took :
    (alone : Bool) (place₀ : List ℕ) (l₀ : Lent) (x : Next) (place : List ℕ) (l : Lent) → 769 ≤ length place₀ → ReadTo alone place₀ l₀ x place l →
    TakenTo book_end l₀ x l
read_took alone place₀ l₀ (n.TheVariants.Taken t) place l room w = walk_took room w.walk
read_took alone place₀ l₀ n.TheVariants.Ended place l room w = tt
read_took alone place₀ l₀ (n.TheVariants.Refused why) place l room w = walk_took room w.walk
read_took alone place₀ l₀ n.TheVariants.Failed place l room w = tt

module _ {l₀ : Lent} {records : ℕ} {t : Tally} {l : Lent} (c : Came l₀ records t l) where
  pub came_fits : (t.units ≤ most_units) × (t.requirements ≤ most_requirements)
  came_fits =
      let means = chain c.chain in
      let fit = (contents_is c.head (counts_in c.head) means.table).1 in
      (omega (arith, means.units, fit.units), omega (arith, means.requirements, fit.requirements))

-- a book announces no more requirements than there is room for
pub room_for : (end : Tally → ℕ) (l₀ l : Lent) (x : Next) → TakenTo end l₀ x l → RoomFor most_requirements x
room_for end l₀ l (n.TheVariants.Taken t) w = (came_fits w).1
room_for end l₀ l n.TheVariants.Ended w = tt
room_for end l₀ l (n.TheVariants.Refused why) w = tt
room_for end l₀ l n.TheVariants.Failed w = tt

-- ---- WHAT CAME: a book that was taken to its end is one that the format takes, and what is kept of it is what the rules say of it
pub came_book :
    {l₀ : Lent} {t : Tally} {l : Lent} (c : Came l₀ (book_end t) t l) → (b : Book) × (book (spelled c.head c.part) ≡ taken b) × BookMeans b t l
came_book {l₀} {t} {l} c =
    let m = chain c.chain in
    let all_in : book_end t ≡ records_in c.head = ap₂ (λ (u q : ℕ). before_units + u + q) m.units m.requirements in
    chain_book (subst (λ (k : ℕ). Chain c.head c.part l₀ k t l) all_in c.chain)
