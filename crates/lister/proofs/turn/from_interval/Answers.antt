-- The interval's line, where it has room.
use native.Mathlib.Omega.{arith}
use Rattle.lister.proofs.StepsLaws.{run_said, run_full, said_some, said_within}
use Rattle.lister.proofs.MoveLaws.{move_interval}
use Rattle.lister.proofs.turn.from_interval.Goals as goal

pub returns-then-said-eq0 : goal.returns-then-said-eq0
returns-then-said-eq0 c =
    λ bytes l columns. record {
      runs = run_full (move_interval c.args.tally bytes l columns) c.say_interval-said.ensures c.if-said-eq0.true c.requires;
      less = omega arith;
    }

pub overflow_add-result : goal.overflow_add-result
overflow_add-result c =
    omega (arith, said_within c.say_interval-said.ensures c.requires)

pub returns : goal.returns
returns c =
    λ bytes l columns. record {
      runs = run_said (move_interval c.args.tally bytes l columns) c.say_interval-said.ensures (said_some c.say_interval-said.ensures c.if-said-eq0.false);
      less = omega arith;
    }
