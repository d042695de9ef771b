-- The minus as a word, and the digits behind it.
use mathlib.Core.Path.{◌∙◌, ap}
use mathlib.Core.List.{List, ◌++◌}
use Prim.Native.Nat.{ℕ}
use lib.ListN.{take}
use Rattle.rules.specs.Text.{text}
use Rattle.printing.specs.Lines.{Line, line, with_bytes, with_word}
use Rattle.printing.proofs.LinesLaws.{word_on, natural_is}
use Rattle.printing.proofs.put_below.Goals as goal

pub returns : goal.returns
unfolding text
returns c =
    let d = c.decimal-count.ensures in
    let came = line c.args.at c.args.text.now in
    let digits = take c.decimal-count.result c.decimal-count.new.out in
    c.put_bytes.ensures
    ∙ ap (λ (l : Line). with_bytes digits l) c.put_word-to.ensures
    ∙ word_on (text "-") digits came
    ∙ ap (λ (x : List ℕ). with_word (text "-" ++ x) came) (d.digits ∙ natural_is _ _ c.ranges.size d.len)
