use Rattle.std.proofs.Common.{◌∙◌, ◌++◌, List, ap}
use Rattle.ae_core.specs.declared.terms.Term.{Term}
use Rattle.ae_elab.specs.Elaboration.{Cases, leaf}
use Rattle.ae_lifting.proofs.LiftingLaws.{cases_leaf, at_leaf, answer_at_branch}
use Rattle.ae_lifting.proofs.cases.+led.Goals as goal

abbrev behind : List Term → List Term → Cases (List Term)
behind ts us = leaf (ts ++ us)

pub returns-in_ok-all-in-Leaf : goal.returns-in_ok-all-in-Leaf
returns-in_ok-all-in-Leaf t c =
    at_leaf (behind c.args.terms.now) c.args.next.now c.in-Leaf.more _ c.in-Leaf.is
    (cases_leaf c.in_ok-all-in-Leaf.all ∙ ap leaf (c.in_ok-all-in-Leaf.ensures ∙ ap (λ (z : List Term). c.args.terms.now ++ z) c.as_slice.ensures))

pub returns-in-Branch : goal.returns-in-Branch
returns-in-Branch t c =
    answer_at_branch (behind c.args.terms.now) c.args.next.now c.chosen.result c.in-Branch.condition c.in-Branch.positive c.in-Branch.negative _ _ _ _ c.in-Branch.is
    c.get-left.ensures c.get-right.ensures c.led-yes.ensures c.led-no.ensures c.chosen.ensures
