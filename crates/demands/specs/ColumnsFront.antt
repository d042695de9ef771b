-- What proofs/ColumnsFront.antt speaks of.
use Rattle.std.specs.Prelude.{List, map, ℕ, take}
use Rattle.rules.specs.Answer.{Line}
use Rattle.answer.specs.Promises.{Columns, columns}

-- the first so many numbers of each column
abbrev pub front : ℕ → Columns → Columns
front n c = columns (take n c.performances) (take n c.factors) (take n c.payments) (take n c.used) (take n c.unused)

-- the numbers of lines
abbrev pub columns_of : List Line → Columns
columns_of ls = columns (map (λ l. l.performance) ls) (map (λ l. l.factor) ls) (map (λ l. l.payment) ls) (map (λ l. l.used) ls) (map (λ l. l.unused) ls)
