-- Laws of a line behind what stands in a text.
use mathlib.Core.Path.{◌≡◌, refl, sym, ◌∙◌, ap, subst}
use mathlib.Core.List.{List, [], ◌∷◌, ◌++◌, append_assoc}
use Prim.Native.Nat.{ℕ, ◌+◌, ◌-◌, ◌≤◌, ◌<◌}
use native.Mathlib.Omega.{arith}
use lib.ListN.{length, take, drop, length-append, length-drop, length-take, take-append-drop}
use lib.Seq.{take_at, drop_at, drop-drop, take-length, length-take-le}
use Rattle.rules.specs.Text.{text, words}
use Rattle.listing.specs.Pieces.{PutWhereRoom}
use Rattle.listing.specs.Lines.{LineWritten}
use Rattle.listing.proofs.PiecesLaws.{put_there}
use Rattle.lister.specs.Said.{Said}

-- no line is empty: it ends with a line feed
pub words_some : (ws : List (List ℕ)) → 0 < length (words ws)
unfolding words text
words_some [] = omega arith
words_some (w ∷ []) = omega (arith, length-append w (10 ∷ []))
words_some (w ∷ (v ∷ ws)) = omega (arith, words_some (v ∷ ws), length-append w (text " " ++ words (v ∷ ws)), length-append (text " ") (words (v ∷ ws)))

-- what a text holds with lines behind its first bytes, and how long it is
abbrev pub with_lines_at : ℕ → List ℕ → List ℕ → List ℕ
with_lines_at done lines old = take done old ++ (lines ++ drop (done + length lines) old)

module _ (done : ℕ) (lines old : List ℕ) (fits : done + length lines ≤ length old) where
  pub same_size : length (with_lines_at done lines old) ≡ length old
  same_size =
      omega (
        arith,
        length-append (take done old) (lines ++ drop (done + length lines) old),
        length-append lines (drop (done + length lines) old),
        length-drop (done + length lines) old,
        length-take-le done old (omega arith),
      )

  front : with_lines_at done lines old ≡ (take done old ++ lines) ++ drop (done + length lines) old
  front = sym (append_assoc (take done old) lines (drop (done + length lines) old))

  long : length (take done old ++ lines) ≡ done + length lines
  long = omega (arith, length-append (take done old) lines, length-take-le done old (omega arith))

  pub front_taken : take (done + length lines) (with_lines_at done lines old) ≡ take done old ++ lines
  front_taken = ap (take (done + length lines)) front ∙ take_at (take done old ++ lines) (drop (done + length lines) old) (done + length lines) long

  pub behind_kept : drop (done + length lines) (with_lines_at done lines old) ≡ drop (done + length lines) old
  behind_kept = ap (drop (done + length lines)) front ∙ drop_at (take done old ++ lines) (drop (done + length lines) old) (done + length lines) long

-- lines behind lines
pub lines_behind :
    (done : ℕ) (first second old : List ℕ) → done + length first ≤ length old →
    with_lines_at (done + length first) second (with_lines_at done first old) ≡ with_lines_at done (first ++ second) old
lines_behind done first second old fits =
    let n = done + length first in
    let mid = with_lines_at done first old in
    let end : n + length second ≡ done + length (first ++ second) = omega (arith, length-append first second) in
    let rest : drop (n + length second) mid ≡ drop (done + length (first ++ second)) old =
    sym (drop-drop (length second) n mid) ∙ ap (drop (length second)) (behind_kept done first old fits) ∙ drop-drop (length second) n old
    ∙ ap (λ (k : ℕ). drop k old) end in
    rw (front_taken done first old fits, rest)
    (append_assoc (take done old) first (second ++ drop (done + length (first ++ second)) old)
    ∙ ap (λ (x : List ℕ). take done old ++ x) (sym (append_assoc first second (drop (done + length (first ++ second)) old))))

-- ---- a word that is put there
pub said_put :
    {line old new : List ℕ} {done r : ℕ} → 0 < length line → done + length line ≤ length old →
    PutWhereRoom (length line) line (done + length line) old r new → Said line done old (length line) new
said_put {line} {old} {new} {done} {r} some fits p =
    let w = put_there (record { free = omega arith; inside = fits }) p in
    let at : r ≡ done = omega (arith, w.place) in
    let whole : new ≡ with_lines_at done line old =
    sym (take-append-drop r new) ∙ rw (w.before, w.bytes, at) in
    record { said = λ _. (refl, whole); unsaid = λ k. absurd (omega (arith, k, fits)); some = some }

pub said_nothing : {line old : List ℕ} {done : ℕ} → 0 < length line → length old < done + length line → Said line done old 0 old
said_nothing some k = record { said = λ h. absurd (omega (arith, h, k)); unsaid = λ _. (refl, refl); some = some }

-- ---- a line that ends its own text
pub line_there : {line old whole : List ℕ} {start : ℕ} → LineWritten line old start whole → take (165 - start) (drop start whole) ≡ line
line_there {line} {start = start} w =
    let long : 165 - start ≡ length line = omega (arith, w.place) in
    ap (take (165 - start)) w.bytes ∙ ap (λ (k : ℕ). take k line) long ∙ take-length line

pub line_part : {line old whole : List ℕ} {start : ℕ} → LineWritten line old start whole → 0 < length line → 0 < length (take (165 - start) (drop start whole))
line_part w some = omega (arith, ap length (line_there w), some)

pub said_line :
    {line old whole text text' : List ℕ} {start done r : ℕ} → LineWritten line old start whole →
    Said (take (165 - start) (drop start whole)) done text r text' → Said line done text r text'
said_line {text = text} {text' = text'} {done = done} {r = r} w s = subst (λ (x : List ℕ). Said x done text r text') (line_there w) s

-- its own text stays as long as it was
pub line_size : {line old whole : List ℕ} {start : ℕ} → LineWritten line old start whole → length old ≡ 165 → 165 ≤ length whole
line_size {line} {old} {whole} {start} w e =
    omega (
      arith,
      w.place,
      ap length w.bytes,
      ap length w.before,
      length-drop start whole,
      length-take-le start old (omega (arith, w.place, e)),
      length-take start whole,
    )
