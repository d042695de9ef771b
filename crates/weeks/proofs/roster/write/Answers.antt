-- The columns so far are filled with what the members passed are told; none is refused.
use mathlib.Core.Path.{◌≡◌, sym, ◌∙◌, ap}
use Prim.Native.Nat.{ℕ}
use native.Mathlib.Omega.{arith}
use borrow.Author.Rules.{rules}
use mir.Syntax.{w64}
use mir.Val.{to_z, of_z}
use Rattle.integers.proofs.Fills.{filled_none, filled_store}
use Rattle.rules.specs.declared.WeekDefault.{WeekDefault}
use Rattle.rules.specs.WeekRoster.{member_default}
use Rattle.weeks.proofs.roster.write.Goals as goal

pub loop-j-init : goal.loop-j-init
loop-j-init c =
    record { within = omega arith; counted = sym (filled_none _ _); averaged = sym (filled_none _ _) }

pub loop-j-preserved : goal.loop-j-preserved
loop-j-preserved c =
    let said : ℕ → WeekDefault = member_default c.args.intervals c.args.whose.now c.args.performances.now c.args.live.now in
    let told = c.requires.1.all c.loop-j.j c.loop-j-test.true in
    let is : c.in_ok-found.found ≡ said c.loop-j.j = cc (c.in_ok-found.was, told) in
    let kept : to_z w64 (of_z w64 c.in_ok-found.found.default) ≡ c.in_ok-found.found.default = search rules in
    record {
      within = omega arith;
      counted = filled_store c.loop-j.j (λ i. (said i).count) c.args.counts.now c.loop-j.counts _ c.loop-j.invariant.counted
          (ap (λ (x : WeekDefault). x.count) is);
      averaged = filled_store c.loop-j.j (λ i. (said i).default) c.args.defaults.now c.loop-j.defaults _ c.loop-j.invariant.averaged
          (kept ∙ ap (λ (x : WeekDefault). x.default) is);
    }
