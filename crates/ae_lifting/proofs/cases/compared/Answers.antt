use Rattle.std.proofs.Common.{◌≡◌, ◌∙◌, ◌++◌, List, ap}
use Rattle.std.proofs.lemmas.Result.{IfOk-weaker}
use Rattle.ae_core.specs.declared.terms.Term.{Term}
use Rattle.ae_elab.specs.Elaboration.{Cases, leaf, ◌|>◌, formula_of}
use Rattle.ae_lifting.specs.declared.cases.Cases as held
use Rattle.ae_lifting.specs.Lifting.{cases_of, said_of}
use Rattle.ae_lifting.specs.declared.cases.Atom.TheVariants.{Relation}
use Rattle.ae_lifting.specs.Inner.Answered.{IsRelation}
use Rattle.std.proofs.lemmas.Result.{IfOk-at_ok}
use Rattle.ae_lifting.proofs.LiftingLaws.{of_both}
use Rattle.ae_lifting.proofs.cases.compared.Goals as goal

pub returns : goal.returns
returns c =
    let said = λ (us : List Term). leaf (said_of (Relation c.args.relation) us) in
    let left = cases_of c.args.left in
    let right = cases_of c.args.right in
    let terms = left |> λ us. right |> λ vs. leaf (us ++ vs) in
    IfOk-weaker c.relation_lifted.result (IsRelation c.followed-terms.result c.args.relation)
    (λ f. f ≡ formula_of (left |> λ us. right |> λ vs. said (us ++ vs)))
    (λ f w.
    w.2
    ∙ ap (λ (z : Cases (List Term)). formula_of (z |> said)) (IfOk-at_ok (λ (cs : held.Cases). cases_of cs ≡ terms) w.1 c.followed-terms.ensures)
    ∙ ap formula_of (of_both left right said))
    c.relation_lifted.ensures
