use Rattle.std.proofs.Common.{◌++◌, List, ap}
use Rattle.ae_core.specs.declared.terms.Term.{Term}
use Rattle.ae_elab.specs.Elaboration.{Cases, leaf, ◌|>◌}
use Rattle.ae_lifting.specs.Lifting.{cases_of}
use Rattle.ae_lifting.specs.declared.cases.Cases as held
use Rattle.ae_lifting.proofs.LiftingLaws.{answer_at_leaf, answer_at_branch}
use Rattle.ae_lifting.proofs.cases.+followed.Goals as goal

abbrev behind : held.Cases → List Term → Cases (List Term)
behind next us = cases_of next |> λ vs. leaf (us ++ vs)

pub returns-in-Leaf : goal.returns-in-Leaf
returns-in-Leaf t c =
    answer_at_leaf (behind c.args.next.now) c.args.first c.led.result c.in-Leaf.terms _ c.in-Leaf.is (ap (behind c.args.next.now) c.as_slice.ensures) c.led.ensures

pub returns-in-Branch : goal.returns-in-Branch
returns-in-Branch t c =
    answer_at_branch (behind c.args.next.now) c.args.first c.choice_of.result c.in-Branch.condition c.in-Branch.positive c.in-Branch.negative _ _ _ _ c.in-Branch.is
    c.into_inner-left.ensures c.into_inner-right.ensures c.followed-yes.ensures c.followed-no.ensures c.choice_of.ensures
