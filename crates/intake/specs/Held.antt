-- A part of a book that is held whole in memory.
use Rattle.std.specs.Prelude.{List, ℕ, drop}

-- the bytes from a place on; from the end on there are none
abbrev pub from_place : ℕ → List ℕ → List ℕ
from_place start book = drop start book
