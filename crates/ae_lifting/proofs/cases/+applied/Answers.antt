use Rattle.std.proofs.Common.{◌∷◌, [], List, refl}
use Rattle.ae_core.specs.declared.terms.Term.{Term, Apply}
use Rattle.ae_core.specs.declared.terms.Sort.{Sort}
use Rattle.ae_elab.specs.Elaboration.{Cases, leaf}
use Rattle.ae_core.specs.declared.terms.Head.{Head}
use Rattle.ae_lifting.proofs.LiftingLaws.{answer_at_leaf, answer_at_branch}
use Rattle.ae_lifting.proofs.cases.+applied.Goals as goal

abbrev under : Head → List Sort → List Term → Cases (List Term)
under h ss us = leaf (Apply h ss us ∷ [])

pub returns-in-Leaf : goal.returns-in-Leaf
returns-in-Leaf t c = answer_at_leaf (under c.args.head c.args.sorts.now) c.args.args c.application.result c.in-Leaf.us _ c.in-Leaf.is refl c.application.ensures

pub returns-in-Branch : goal.returns-in-Branch
returns-in-Branch t c =
    answer_at_branch (under c.args.head c.args.sorts.now) c.args.args c.choice_of.result c.in-Branch.condition c.in-Branch.positive c.in-Branch.negative _ _ _ _ c.in-Branch.is
    c.into_inner-left.ensures c.into_inner-right.ensures c.applied-yes.ensures c.applied-no.ensures c.choice_of.ensures
