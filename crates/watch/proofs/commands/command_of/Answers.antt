-- Each byte that is a key is computed; of any other every test fails.
use mathlib.Core.Path.{sym, ap}
use native.Mathlib.Omega.{arith}
use borrow.Author.Tests.{ne_eqb}
use Rattle.watch.specs.Commands.{command}
use Rattle.watch.proofs.commands.command_of.Goals as goal

pub returns-in-110 : goal.returns-in-110
returns-in-110 c = ap command (sym c.in-110.is)

pub returns-in-112 : goal.returns-in-112
returns-in-112 c = ap command (sym c.in-112.is)

pub returns-in-104 : goal.returns-in-104
returns-in-104 c = ap command (sym c.in-104.is)

pub returns-in-114 : goal.returns-in-114
returns-in-114 c = ap command (sym c.in-114.is)

pub returns-in-82 : goal.returns-in-82
returns-in-82 c = ap command (sym c.in-82.is)

pub returns-in-98 : goal.returns-in-98
returns-in-98 c = ap command (sym c.in-98.is)

pub returns-in-113 : goal.returns-in-113
returns-in-113 c = ap command (sym c.in-113.is)

pub returns-in_default : goal.returns-in_default
returns-in_default c =
    let b = c.args.byte in
    rw (
      ne_eqb b 110 (omega arith),
      ne_eqb b 112 (omega arith),
      ne_eqb b 104 (omega arith),
      ne_eqb b 114 (omega arith),
      ne_eqb b 82 (omega arith),
      ne_eqb b 98 (omega arith),
      ne_eqb b 113 (omega arith),
    )
