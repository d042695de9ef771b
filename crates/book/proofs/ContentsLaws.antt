-- Laws of the definitions in specs/Contents.antt.
use Rattle.std.specs.Prelude.{Result, Ok, Err, ⊤}
use Rattle.book.specs.declared.Counts.{Counts}
use Rattle.rules.specs.declared.Refusal.{Refusal}
use mathlib.Core.Path.{◌≡◌, refl, sym, ◌∙◌, ap}
use mathlib.Core.Bool.{Bool, true, false, cond, ◌&&◌}
use mathlib.Core.List.{List}
use Prim.Native.Nat.{ℕ, ◌+◌, ◌*◌}
use lib.Dec.{eqb, leb}
use Rattle.rules.specs.declared.Refusal.TheVariants.{WrongTable, WrongCount}
use Rattle.rules.specs.Quantities.{most_units, most_requirements}
use Rattle.rules.specs.Bytes.{number_at}
use Rattle.rules.specs.Refusals.{Reply, taken, refused}
use Rattle.rules.specs.Contents.{
  contents_size,
  settings_size,
  frequency_size,
  unit_size,
  requirement_size,
  frequency_start,
  unit_start,
  requirement_start,
  items,
  entry,
}
use Rattle.book.specs.Contents.{ContentsPromise, entries, entry_answer}

pub read_contents_only : {part : List ℕ} {r s : Result Counts Refusal} → ContentsPromise part r → ContentsPromise part s → r ≡ s
read_contents_only a b = a.reply ∙ sym b.reply

-- an entry that is fine lets the rest of the table speak
abbrev pub passed : {A : Type 0} → Result ⊤ Refusal → Reply A → Reply A
passed (Ok tt) rest = rest
passed (Err r) rest = refused r

pub entry_passed : {A : Type 0} (place kind least most start size : ℕ) (bs : List ℕ) (rest : Reply A)
    → entry place kind least most start size bs rest ≡ passed (entry_answer place kind least most start size bs) rest
entry_passed place kind least most start size bs rest =
    go
    (eqb (number_at 2 place bs) kind)
    (leb least (items place bs) && leb (items place bs) most)
    (eqb (number_at 4 (place + 4) bs) start)
    (eqb (number_at 4 (place + 8) bs) (items place bs * size))
  where
    go : (k i o l : Bool)
        → cond k (cond i (cond o (cond l rest (refused WrongTable)) (refused WrongTable)) (refused WrongCount)) (refused WrongTable) ≡
        passed (cond k (cond i (cond o (cond l (Ok tt) (Err WrongTable)) (Err WrongTable)) (Err WrongCount)) (Err WrongTable)) rest
    go false i o l = refl
    go true false o l = refl
    go true true false l = refl
    go true true true false = refl
    go true true true true = refl

-- each entry's answer by itself
abbrev pub settings_entry : List ℕ → Result ⊤ Refusal
settings_entry bs = entry_answer 8 1 1 1 contents_size settings_size bs

abbrev pub frequency_entry : List ℕ → Result ⊤ Refusal
frequency_entry bs = entry_answer 20 2 5 5 frequency_start frequency_size bs

abbrev pub unit_entry : List ℕ → Result ⊤ Refusal
unit_entry bs = entry_answer 32 3 0 most_units unit_start unit_size bs

abbrev pub requirement_entry : List ℕ → Result ⊤ Refusal
requirement_entry bs = entry_answer 44 4 1 most_requirements (requirement_start (items 32 bs)) requirement_size bs

pub entries_passed : (bs : List ℕ)
    → entries bs ≡ passed (settings_entry bs) (passed (frequency_entry bs)
    (passed (unit_entry bs) (passed (requirement_entry bs) (taken (record { units = items 32 bs; requirements = items 44 bs })))))
unfolding entries
entries_passed bs =
    entry_passed 8 1 1 1 contents_size settings_size bs _
    ∙ ap (passed (settings_entry bs))
    (entry_passed 20 2 5 5 frequency_start frequency_size bs _
    ∙ ap (passed (frequency_entry bs))
    (entry_passed 32 3 0 most_units unit_start unit_size bs _
    ∙ ap (passed (unit_entry bs)) (entry_passed 44 4 1 most_requirements (requirement_start (items 32 bs)) requirement_size bs _)))
