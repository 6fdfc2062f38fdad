use Rattle.std.proofs.Common.{◌∙◌, ◌++◌, List, sym, ap}
use Rattle.ae_core.specs.declared.terms.Term.{Term}
use Rattle.ae_elab.specs.Elaboration.{Cases, leaf, ◌|>◌}
use Rattle.ae_lifting.specs.declared.cases.Cases as held
use Rattle.ae_lifting.specs.Lifting.{cases_of}
use Rattle.ae_translation.proofs.NodeRules.{same_cases}
use Rattle.ae_translation.proofs.CaseLaws.{held_leaf}
use Rattle.ae_translation.proofs.terms.put_behind.Goals as goal

pub returns-in-Leaf : goal.returns-in-Leaf
returns-in-Leaf c =
    let on = λ (z : Cases (List Term)). cases_of c.args.first |> λ (us : List Term). z |> λ (vs : List Term). leaf (us ++ vs) in
    same_cases c.plain_behind.result _ _ (sym (ap (λ (z : held.Cases). on (cases_of z)) c.in-Leaf.is ∙ ap on (held_leaf c.in-Leaf.terms))) c.plain_behind.ensures
