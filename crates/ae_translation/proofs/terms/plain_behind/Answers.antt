use Rattle.std.proofs.Common.{◌∙◌, ◌++◌, List, sym, ap}
use Rattle.ae_core.specs.declared.terms.Term.{Term}
use Rattle.ae_elab.specs.Elaboration.{Cases, leaf, ◌|>◌}
use Rattle.ae_lifting.specs.declared.cases.Cases as held
use Rattle.ae_lifting.specs.Lifting.{cases_of}
use Rattle.ae_translation.proofs.NodeRules.{same_cases}
use Rattle.ae_translation.proofs.CaseLaws.{held_leaf}
use Rattle.ae_translation.proofs.terms.plain_behind.Goals as goal

pub returns-in-Leaf : goal.returns-in-Leaf
returns-in-Leaf c =
    same_cases c.joined.result _ _
    (sym (ap (λ (z : held.Cases). cases_of z |> λ (us : List Term). leaf (us ++ c.args.next)) c.in-Leaf.is
    ∙ ap (λ (z : Cases (List Term)). z |> λ (us : List Term). leaf (us ++ c.args.next)) (held_leaf c.in-Leaf.terms))) c.joined.ensures

pub returns-in_default : goal.returns-in_default
returns-in_default c =
    same_cases c.followed.result _ _
    (ap (λ (z : Cases (List Term)). cases_of c.args.first |> λ (us : List Term). z |> λ (vs : List Term). leaf (us ++ vs)) (held_leaf c.args.next)) c.followed.ensures
