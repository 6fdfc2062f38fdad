use Rattle.std.proofs.Common.{◌∙◌, ◌++◌, List, sym, ap}
use Rattle.ae_core.specs.declared.terms.Term.{Term}
use Rattle.ae_elab.specs.Elaboration.{Cases, leaf, ◌|>◌}
use Rattle.ae_lifting.specs.Lifting.{cases_of}
use Rattle.ae_translation.proofs.CaseLaws.{none_before}
use Rattle.ae_translation.proofs.terms.branch_behind.Goals as goal

pub returns-then-is_nothing : goal.returns-then-is_nothing
returns-then-is_nothing c =
    let x = cases_of c.args.next in
    sym (ap (λ (z : Cases (List Term)). z |> λ (us : List Term). x |> λ (vs : List Term). leaf (us ++ vs)) (c.is_nothing.ensures c.if-is_nothing.true) ∙ none_before x)
