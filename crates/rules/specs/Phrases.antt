-- A refusal number as a short phrase of its own (02, R-13). The numbers that fell apart have one phrase together; a number that no refusal has is `unknown`.
use Rattle.std.specs.Prelude.{Bool, cond, ◌&&◌, List, ℕ, eqb, leb}
use Rattle.rules.specs.Text.{text}

abbrev pub unknown : List ℕ
unknown = text "unknown"

-- from one number to another, both included
abbrev pub between : ℕ → ℕ → ℕ → Bool
between first last n = leb first n && leb n last

unfoldable pub phrase : ℕ → List ℕ
phrase n =
    cond (eqb n 1) (text "ends too early")
    (cond (eqb n 2) (text "not an interval book")
    (cond (eqb n 3) (text "wrong contents table")
    (cond (eqb n 4) (text "bytes after the end")
    (cond (eqb n 5) (text "count out of limits")
    (cond (eqb n 6) (text "wrong settings")
    (cond (eqb n 9) (text "unit out of order")
    (cond (eqb n 10) (text "wrong requirement")
    (cond (eqb n 11) (text "call out of turn")
    (cond (eqb n 12) (text "buffer too short")
    (cond (eqb n 14) (text "default too low")
    (cond (eqb n 15) (text "year past 9999")
    (cond (eqb n 16) (text "wrong group")
    (cond (eqb n 17) (text "week out of limits")
    (cond (eqb n 18) (text "wrong report row")
    (cond (between 71 74 n) (text "wrong frequency data")
    (cond (between 81 84 n) (text "wrong unit data")
    unknown))))))))))))))))
