-- Every integer as a difference of two naturals, so that what is linear over ℤ is `omega`'s, and what is polynomial too.
-- A proof writes an expression with `v`, `⊕`, `⊖`, `⊗`, `neg`; `ring`, `le!`, `lt!` prove a goal over it, `eq?`, `le?`, `lt?` hand a hypothesis to `omega`:
--     le! (v a ⊖ v b) (v (pos 200)) (omega (arith, zrules)) : (a -ℤ b) ≤ℤ pos 200
use Rattle.std.specs.Prelude.{ℕ, suc, ℤ, pos, negsuc}

-- ---- what stands above zero, and below, as a size
abbrev pub gain : ℤ → ℕ
gain (pos n) = n
gain (negsuc n) = 0

abbrev pub loss : ℤ → ℕ
loss (pos n) = 0
loss (negsuc n) = suc n
