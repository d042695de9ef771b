-- No promise allows two answers: any two that it allows are the same.
use Rattle.std.specs.Prelude.{Result}
use Rattle.rules.specs.declared.Refusal.{Refusal}
use mathlib.Core.Path.{◌≡◌, sym, ◌∙◌}
use mathlib.Core.List.{List}
use Prim.Native.Nat.{ℕ}
use Rattle.rules.specs.declared.ReportRow.{ReportRow}
use Rattle.report_row.specs.Promises.{WritePromise, ReadPromise}

-- THE ROW THAT IS WRITTEN, AND THE TEXT THEN
pub write_row_only : {row : ReportRow} {old : List ℕ} {a b : Result ℕ Refusal} {new new' : List ℕ} → WritePromise row old a new →
    WritePromise row old b new' → (a ≡ b) × (new ≡ new')
write_row_only p q = (p.reply ∙ sym q.reply, p.text ∙ sym q.text)

-- THE ROW THAT IS READ
pub read_row_only : {bytes : List ℕ} {a b : Result ReportRow Refusal} → ReadPromise bytes a → ReadPromise bytes b → a ≡ b
read_row_only p q = p.reply ∙ sym q.reply
