use Rattle.std.proofs.Common.{arith, sym, subst}
use Rattle.std.proofs.lemmas.List.{take_all}
use Rattle.std.specs.List.{AllByRecursion}
use Rattle.ae_journal.proofs.Splits.{all_contained}
use Rattle.ae_sure_literals.proofs.Flags.{all_next}
use Rattle.ae_sure_literals.specs.Inner.Closing.{IsOtherFailing}
use Rattle.ae_sure_literals.proofs.closing.others_fail.Goals as goal

pub returns-then-not-is_other_failing : goal.returns-then-not-is_other_failing
returns-then-not-is_other_failing c = λ all.
    c.if-not-is_other_failing.ensures
    (all_contained (IsOtherFailing c.args.trail.now.assigned c.args.flags.now c.args.own.now) c.args.clause.now c.lit-item.result all (c.loop-lit.lit-index, omega arith, sym c.lit-item.is))

pub loop-lit-preserved : goal.loop-lit-preserved
loop-lit-preserved c =
    all_next (IsOtherFailing c.args.trail.now.assigned c.args.flags.now c.args.own.now) c.args.clause.now c.loop-lit.lit-index c.lit-item.result (omega arith) c.lit-item.is c.loop-lit.invariant
    c.if-not-is_other_failing.ensures

pub returns : goal.returns
returns c =
    subst (AllByRecursion (IsOtherFailing c.args.trail.now.assigned c.args.flags.now c.args.own.now)) (take_all c.loop-lit.lit-index c.args.clause.now (omega arith)) c.loop-lit.invariant
