use Rattle.std.proofs.Common.{subst}
use Rattle.ae_elab.specs.Conditions.{is_bool}
use Rattle.ae_elab.specs.Nodes.{a_claim}
use Rattle.ae_elab.specs.Rules.{give}
use Rattle.ae_elab.specs.Trees.{claim_of}
use Rattle.ae_elab.specs.Typings.{Puts, nodes_of}
use Rattle.ae_elab.proofs.NodeLaws.{tree_is}
use Rattle.ae_elab.proofs.TypingLaws.{with_bindings, walks_demand, puts_claim}
use Rattle.ae_elab.proofs.formula_steps.holds.Goals as goal

pub returns : goal.returns
returns c d x h =
    let old = c.args.typing.now in
    let mid = with_bindings c.is_bool.new.bindings old in
    let new = c.push_node.new.typing in
    let n = c.in_ok-push_node.field-0 in
    let last = puts_claim d mid new (claim_of x) n (subst (λ z. Puts mid new (a_claim (claim_of z)) n) (tree_is (nodes_of old) c.args.inner.tree x h) c.in_ok-push_node.ensures) in
    record {
      claim = last.claim;
      stands = last.stands;
      walks = walks_demand d (λ sc. is_bool c.args.place c.args.inner.sort) (λ sc. give (claim_of x)) old c.is_bool.new.bindings new last.claim c.in_ok-is_bool.ensures.met last.walks;
    }
