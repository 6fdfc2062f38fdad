use Rattle.std.specs.Prelude.{◌≢◌}
use Rattle.std.proofs.Common.{arith, refl, subst, sym}
use Rattle.std.specs.List.{AllByRecursion, Contains}
use Rattle.std.proofs.lemmas.List.{take_all}
use Rattle.ae_journal.proofs.Splits.{all_contained}
use Rattle.ae_rules.specs.Clauses.{opposite}
use Rattle.ae_sure_literals.proofs.Flags.{all_next}
use Rattle.ae_sure_literals.proofs.closing.has_opposite.Goals as goal

pub returns-then-is_opposite : goal.returns-then-is_opposite
returns-then-is_opposite c = subst (Contains c.args.clause.now) c.if-is_opposite.ensures (c.loop-other.other-index, omega arith, sym c.other-item.is)

pub loop-other-preserved : goal.loop-other-preserved
loop-other-preserved c =
    all_next (λ m. m ≢ opposite c.args.lit.now) c.args.clause.now c.loop-other.other-index c.other-item.result (omega arith) c.other-item.is c.loop-other.invariant c.if-is_opposite.ensures

pub returns : goal.returns
returns c = λ h.
    all_contained (λ m. m ≢ opposite c.args.lit.now) c.args.clause.now (opposite c.args.lit.now)
    (subst (AllByRecursion (λ m. m ≢ opposite c.args.lit.now)) (take_all c.loop-other.other-index c.args.clause.now (omega arith)) c.loop-other.invariant) h refl
