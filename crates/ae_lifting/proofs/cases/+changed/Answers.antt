use Rattle.std.proofs.Common.{◌∷◌, [], List, ap}
use Rattle.ae_core.specs.declared.terms.Term.{Term}
use Rattle.ae_core.specs.declared.terms.Sort.{Sort}
use Rattle.ae_elab.specs.Elaboration.{Cases, leaf}
use Rattle.std.proofs.Common.{ℕ}
use Rattle.ae_lifting.specs.Lifting.{changed_in}
use Rattle.ae_lifting.proofs.LiftingLaws.{answer_at_leaf, answer_at_branch}
use Rattle.ae_lifting.proofs.cases.+changed.Goals as goal

abbrev under : ℕ → List Sort → ℕ → List ℕ → List Term → Cases (List Term)
under of ss count ps us = leaf (changed_in of ss count ps us ∷ [])

pub returns-in-Leaf : goal.returns-in-Leaf
returns-in-Leaf t c =
    answer_at_leaf (under c.args.of c.args.sorts.now c.args.count c.args.places.now) c.args.terms c.changed_leaf.result c.in-Leaf.us _ c.in-Leaf.is
    (ap (under c.args.of c.args.sorts.now c.args.count c.args.places.now) c.as_slice.ensures) c.changed_leaf.ensures

pub returns-in-Branch : goal.returns-in-Branch
returns-in-Branch t c =
    answer_at_branch (under c.args.of c.args.sorts.now c.args.count c.args.places.now) c.args.terms c.choice_of.result c.in-Branch.condition c.in-Branch.positive c.in-Branch.negative _ _ _ _
    c.in-Branch.is c.into_inner-left.ensures c.into_inner-right.ensures c.changed-yes.ensures c.changed-no.ensures c.choice_of.ensures
