-- Bytes that are put into a book from a place on, and what a run of numbers is put as.
use Rattle.std.specs.Prelude.{List, ◌++◌, ℕ, ◌+◌, ◌^◌, ℤ, pos, length, get_or, take, drop}
use Rattle.rules.specs.Laid.{bytes, turned}

-- the bytes from `at` on are these, the others as they were
unfoldable pub put : ℕ → List ℕ → List ℕ → List ℕ
put at xs old = take at old ++ (xs ++ drop (at + length xs) old)

-- the i-th number behind `from`, as bytes: a default, a quality byte, a frequency, a reading
abbrev pub defaults_run : List ℤ → ℕ → ℕ → List ℕ
defaults_run rows from i = bytes 8 (turned (2 ^ 64) (get_or rows (from + i) (pos 0)))

abbrev pub marks_run : List ℕ → ℕ → ℕ → List ℕ
marks_run marks from i = bytes 1 (get_or marks (from + i) 0)

abbrev pub frequencies_run : List ℕ → ℕ → ℕ → List ℕ
frequencies_run frequencies from t = bytes 4 (get_or frequencies (from + t) 0)

abbrev pub readings_run : List ℤ → ℕ → ℕ → List ℕ
readings_run readings from t = bytes 4 (turned (2 ^ 32) (get_or readings (from + t) (pos 0)))
