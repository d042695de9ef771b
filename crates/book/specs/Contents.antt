-- What the reader of the table of contents answers and promises.
use Rattle.rules.specs.declared.Refusal.{Refusal}
use Rattle.std.specs.Prelude.{◌≡◌, cond, ◌&&◌, List, ℕ, ◌+◌, ◌*◌, eqb, leb, Result, Ok, Err, ⊤}
use Rattle.rules.specs.declared.Refusal.TheVariants.{WrongTable, WrongCount}
use Rattle.rules.specs.Quantities.{most_units, most_requirements}
use Rattle.rules.specs.Bytes.{number_at}
use Rattle.rules.specs.Refusals.{Reply, taken}
use Rattle.rules.specs.Contents.{
  contents,
  contents_size,
  settings_size,
  frequency_size,
  unit_size,
  requirement_size,
  frequency_start,
  unit_start,
  requirement_start,
  items,
  entry,
  Counts as Announced,
}
use Rattle.book.specs.declared.Counts.{Counts}
use Rattle.book.specs.Replies.{answered}

abbrev pub counts_of : Announced → Counts
counts_of c = record { units = c.units; requirements = c.requirements }

abbrev pub contents_answer : Reply Announced → Result Counts Refusal
contents_answer reply = answered (λ c. Ok (counts_of c)) Err reply

pub record ContentsPromise (part : List ℕ) (r : Result Counts Refusal) : Type 0 where
  pub reply : r ≡ contents_answer (contents part)

-- ---- one entry by itself
abbrev pub entry_answer : ℕ → ℕ → ℕ → ℕ → ℕ → ℕ → List ℕ → Result ⊤ Refusal
entry_answer place kind least most start size bs =
    cond (eqb (number_at 2 place bs) kind)
    (cond (leb least (items place bs) && leb (items place bs) most)
    (cond (eqb (number_at 4 (place + 4) bs) start)
    (cond (eqb (number_at 4 (place + 8) bs) (items place bs * size)) (Ok tt) (Err WrongTable))
    (Err WrongTable))
    (Err WrongCount))
    (Err WrongTable)

-- ---- the four entries, after the mark and the two fields that follow it
unfoldable pub entries : List ℕ → Reply Announced
entries bs =
    entry 8 1 1 1 contents_size settings_size bs
    (entry 20 2 5 5 frequency_start frequency_size bs
    (entry 32 3 0 most_units unit_start unit_size bs
    (entry 44 4 1 most_requirements (requirement_start (items 32 bs)) requirement_size bs
    (taken (record { units = items 32 bs; requirements = items 44 bs })))))
