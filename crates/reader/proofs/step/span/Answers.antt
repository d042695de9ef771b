-- By what is being read.
use mathlib.Core.Path.{sym, ◌∙◌, ap, ap₂}
use Prim.Native.Nat.{ℕ, ◌+◌}
use native.Mathlib.Omega.{arith}
use lib.Dec.{lit≤}
use Rattle.reader.specs.declared.Reading.{Reading}
use Rattle.reader.specs.Reading.{span_of}
use Rattle.reader.proofs.step.span.Goals as goal

pub returns-in-Contents : goal.returns-in-Contents
returns-in-Contents c = record { value = ap (λ (r : Reading). span_of r c.args.alone) (sym c.in-Contents.is); end_bound = lit≤ tt }

pub returns-in-Record : goal.returns-in-Record
returns-in-Record c =
    let a = c.args in record {
      value = ap₂ (λ (n k : ℕ). record { start = n; end = n + k; got = c.in-Record.got }) c.start_of-start.ensures.value c.asked.ensures.value
          ∙ ap (λ (r : Reading). span_of r a.alone) (sym c.in-Record.is);
      end_bound = omega (arith, c.start_of-start.ensures.upper_bound, c.asked.ensures.upper_bound);
    }
