-- Laws of the definitions in specs/Version.antt: a word goes on byte by byte.
use mathlib.Core.Path.{◌≡◌, sym, ◌∙◌, ap}
use mathlib.Core.List.{List}
use Prim.Native.Nat.{ℕ, ◌+◌, ◌<◌}
use native.Mathlib.Numerals.{add-one}
use lib.ListN.{length, drop, get_or}
use lib.Seq.{drop-cons, drop-length}
use Rattle.numerals.specs.declared.Word.{Word}
use Rattle.numerals.specs.Numerals.{byte_added}
use Rattle.report.specs.Version.{bytes_added}

-- from the i-th on, one more
pub bytes_next : (bytes : List ℕ) (i : ℕ) (w : Word) → i < length bytes →
    bytes_added w (drop i bytes) ≡ bytes_added (byte_added w (get_or bytes i 0)) (drop (i + 1) bytes)
unfolding bytes_added
bytes_next bytes i w h =
    ap (bytes_added w) (drop-cons bytes i 0 h) ∙ ap (λ (j : ℕ). bytes_added (byte_added w (get_or bytes i 0)) (drop j bytes)) (sym (add-one i))

pub bytes_all : (bytes : List ℕ) (w : Word) → bytes_added w (drop (length bytes) bytes) ≡ w
unfolding bytes_added
bytes_all bytes w = ap (bytes_added w) (drop-length bytes)
