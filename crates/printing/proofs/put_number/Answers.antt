-- The word of the digits.
use mathlib.Core.Path.{◌∙◌, ap}
use mathlib.Core.List.{List}
use Prim.Native.Nat.{ℕ}
use Rattle.printing.specs.Lines.{line, with_word}
use Rattle.printing.proofs.LinesLaws.{natural_is}
use Rattle.printing.proofs.put_number.Goals as goal

pub returns : goal.returns
returns c =
    let d = c.decimal-count.ensures in
    c.put_word.ensures
    ∙ ap (λ (word : List ℕ). with_word word (line c.args.at c.args.text.now)) (d.digits ∙ natural_is _ _ c.ranges.number d.len)
