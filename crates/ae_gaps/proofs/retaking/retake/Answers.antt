use Rattle.std.specs.Prelude.{List}
use Rattle.std.proofs.Common.{subst, inr}
use Rattle.ae_journal.specs.declared.lines.Line.{Line}
use Rattle.ae_monoid.specs.Rules.{Contents as Rules, rule_at}
use Rattle.ae_state.specs.Names.{rules_now}
use Rattle.ae_gaps.specs.Inner.Overlapping.{ArePairedInOrder, AreNotPairedInOrder}
use Rattle.ae_gaps.proofs.AllJoined.{joined_turned}
use Rattle.ae_gaps.proofs.Coupled.{paired_turned}
use Rattle.ae_gaps.proofs.retaking.retake.Goals as goal

pub retake_in_order-requires-clause-paired : goal.retake_in_order-requires-clause-paired
retake_in_order-requires-clause-paired c =
    let m = c.args.first in
    let n = c.args.second in
    inr
    (subst (λ (z : Rules × List Line). ArePairedInOrder (λ i. rule_at z.0 i) z.1 m n) (λ i. (c.rules.ensures.rules i, c.lines.ensures i)) (rw c.if-paired_in_order.true at c.paired_in_order.ensures))

pub retake_in_order-requires-2-clause-paired : goal.retake_in_order-requires-2-clause-paired
retake_in_order-requires-2-clause-paired c =
    let m = c.args.first in
    let n = c.args.second in
    paired_turned c.args.held.now c.args.journal.now.lines c.requires.step m n c.requires.paired
    (subst (λ (z : Rules × List Line). AreNotPairedInOrder (λ i. rule_at z.0 i) z.1 m n) (λ i. (c.rules.ensures.rules i, c.lines.ensures i)) (rw c.if-paired_in_order.false at c.paired_in_order.ensures))

pub returns-clause-joined : goal.returns-clause-joined
returns-clause-joined c q = joined_turned (rules_now c.args.held.now) c.args.first c.args.second (c.retake_in_order-2.ensures.joined q)
