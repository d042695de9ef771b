-- The blank, where there is one, and the bytes.
use mathlib.Core.Path.{sym, ◌∙◌, ap, ap₂}
use mathlib.Core.List.{List}
use Prim.Native.Nat.{ℕ}
use Rattle.printing.specs.Lines.{Line, line, with_bytes}
use Rattle.printing.proofs.LinesLaws.{word_first, word_after}
use Rattle.printing.proofs.put_word.Goals as goal
use Rattle.printing.proofs.put_word.Goals.{then-at-gt0, else-at-gt0}

pub returns : goal.returns
returns c =
    let a = c.args in
    let word = a.word.now in
    let came = line a.at a.text.now in
    c.put_bytes.ensures
    ∙ elim c.if-at-gt0.branch [
      | then-at-gt0 w ↦
          ap₂ (λ (t : ℕ) (x : List ℕ). with_bytes word (line t x)) w.to-is w.text-is
          ∙ ap (λ (l : Line). with_bytes word l) w.put_byte-to.ensures.text_after
          ∙ sym (word_after word came w.if-at-gt0.true)
      | else-at-gt0 w ↦
          ap₂ (λ (t : ℕ) (x : List ℕ). with_bytes word (line t x)) w.to-is w.text-is
          ∙ sym (word_first word came w.if-at-gt0.false)
    ]
