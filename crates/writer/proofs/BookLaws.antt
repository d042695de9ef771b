-- The five pieces of a book, put one behind the other, are the book at the buffer's front.
use mathlib.Core.Path.{◌≡◌, sym, ◌∙◌, ap}
use mathlib.Core.List.{List, ◌++◌, append_assoc}
use Prim.Native.Nat.{ℕ, ◌+◌, ◌*◌, ◌≤◌}
use native.Mathlib.Nat.{zero-add}
use native.Mathlib.Omega.{arith}
use lib.ListN.{length, drop, length-append}
use Rattle.rules.specs.Laid.{strung, laid}
use Rattle.rules.specs.Given.{Given}
use Rattle.rules.specs.Written.{contents_filled, settings_filled, region_laid, unit_laid, requirement_laid, book_laid, book_size}
use Rattle.laws.proofs.LaidLaws.{contents_length, settings_length, region_length, unit_length, requirement_length, strung_length}
use Rattle.writer.specs.Put.{put}
use Rattle.writer.proofs.PutLaws.{put_next}

-- what is put at the front
put_front : (xs old : List ℕ) → put 0 xs old ≡ xs ++ drop (length xs) old
unfolding put
put_front xs old = ap (λ (n : ℕ). xs ++ drop n old) (zero-add (length xs))

pub book_put : (g : Given) (old : List ℕ) {a b c d e : List ℕ} → book_size g.units g.requirements ≤ length old →
    a ≡ put 0 (laid (contents_filled g.units g.requirements)) old → b ≡ put 56 (laid (settings_filled g)) a → c ≡ put 64 (strung 0 5 (region_laid g)) b →
    d ≡ put 1904 (strung 0 g.units (unit_laid g)) c →
    e ≡ put (1904 + 372 * g.units) (strung 0 g.requirements (requirement_laid g)) d →
    e ≡ book_laid g ++ drop (length (book_laid g)) old
unfolding book_laid
book_put g old {d} room contents settings regions units requirements =
    let xs = laid (contents_filled g.units g.requirements) in
    let ss = laid (settings_filled g) in
    let rs = strung 0 5 (region_laid g) in
    let us = strung 0 g.units (unit_laid g) in
    let qs = strung 0 g.requirements (requirement_laid g) in
    let long_x : length xs ≡ 56 = contents_length g.units g.requirements in
    let long_s : length ss ≡ 8 = settings_length g in
    let long_r : length rs ≡ 5 * 368 = strung_length 0 5 368 (region_laid g) (region_length g) in
    let long_u : length us ≡ g.units * 372 = strung_length 0 g.units 372 (unit_laid g) (unit_length g) in
    let long_q : length qs ≡ g.requirements * 24 = strung_length 0 g.requirements 24 (requirement_laid g) (requirement_length g) in
    let front : length (xs ++ ss) ≡ 64 = omega (arith, length-append xs ss) in
    let half : length ((xs ++ ss) ++ rs) ≡ 1904 = omega (arith, length-append (xs ++ ss) rs) in
    let most : length (((xs ++ ss) ++ rs) ++ us) ≡ 1904 + 372 * g.units = omega (arith, length-append ((xs ++ ss) ++ rs) us) in
    let until_settings = put_next 0 56 xs ss old long_x (omega arith) contents settings in
    let until_regions = put_next 0 64 (xs ++ ss) rs old front (omega arith) until_settings regions in
    let until_units = put_next 0 1904 ((xs ++ ss) ++ rs) us old half (omega arith) until_regions units in
    put_next 0 (1904 + 372 * g.units) (((xs ++ ss) ++ rs) ++ us) qs old most (omega arith) until_units
    (requirements ∙ ap (λ (n : ℕ). put n qs d) (sym (zero-add (1904 + 372 * g.units))))
    ∙ ap (λ (l : List ℕ). put 0 l old) (simp append_assoc)
    ∙ put_front (book_laid g) old
