-- The tests are those of the definition.
use native.Mathlib.Omega.{arith}
use lib.Dec.{lit≤}
use mathlib.Core.Path.{sym}
use Rattle.chain.proofs.BookRecords.{settings_sized, frequency_sized, unit_sized, requirement_sized}
use Rattle.reader.proofs.turn.size.Goals as goal

pub returns-then-tally-lt1 : goal.returns-then-tally-lt1
returns-then-tally-lt1 c = record { value = sym (settings_sized _ _ (omega arith)); upper_bound = lit≤ tt }

pub returns-then-tally-lt-BEFORE_UNITS : goal.returns-then-tally-lt-BEFORE_UNITS
returns-then-tally-lt-BEFORE_UNITS c = record { value = sym (frequency_sized _ _ (omega arith) (omega arith)); upper_bound = lit≤ tt }

pub returns-then-tally : goal.returns-then-tally
returns-then-tally c = record { value = sym (unit_sized _ _ (omega arith) (omega arith)); upper_bound = lit≤ tt }

pub returns : goal.returns
returns c = record { value = sym (requirement_sized _ _ (omega arith)); upper_bound = lit≤ tt }
