-- What proofs/OurSheet.antt speaks of: our own factors of a requirement as a sheet beside its performances (02, R-12).
use Rattle.rules.specs.declared.Refusal.{Refusal}
use Rattle.std.specs.Prelude.{◌≡◌, map, Result, Ok}
use Rattle.rules.specs.declared.Verdict.TheVariants.{Possible}
use Rattle.rules.specs.Book.{Requirement, Book}
use Rattle.rules.specs.Members.{members}
use Rattle.rules.specs.Share.{earlier_first}
use Rattle.rules.specs.Refusals.{taken}
use Rattle.rules.specs.Answer.{answer}
use Rattle.rules.specs.Sheet.{sheet_reply}
use Rattle.sheets.specs.Ours.{sheet_by}
use Rattle.answer.specs.declared.Answer.{Answer}
use Rattle.answer.specs.Promises.{Columns}
use Rattle.demands.specs.ColumnsFront.{front}

-- a requirement's factors beside its payment performances, from its book: as they stand, and under the tie rule before R-9
pub record RequirementPossible (b : Book) (q : Requirement) : Type 0 where
  pub ours : sheet_reply (map (λ l. l.performance) (answer b q).lines) (map (λ l. l.factor) (answer b q).lines) ≡ taken Possible
  pub before : sheet_reply (map (λ l. l.performance) (answer b q).lines) (sheet_by earlier_first (map (λ m. m.payment) (members b q))) ≡ taken Possible

-- and what a caller has after the call: a number of each member at the front of the two columns
pub record ColumnsPossible (r : Result Answer Refusal) (new : Columns) : Type 0 where
  pub figures : Answer
  pub given : r ≡ Ok figures
  pub ours : sheet_reply (front figures.members new).performances (front figures.members new).factors ≡ taken Possible
