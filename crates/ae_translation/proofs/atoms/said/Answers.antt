use Rattle.std.proofs.Common.{◌≡◌, ◌∙◌, List, ap}
use Rattle.std.proofs.lemmas.Result.{IfOk-at_ok}
use Rattle.ae_core.specs.declared.terms.Term.{Term}
use Rattle.ae_elab.specs.Elaboration.{Cases, leaf, ◌|>◌, formula_of}
use Rattle.ae_lifting.specs.declared.cases.Cases as held
use Rattle.ae_lifting.specs.Lifting.{cases_of, said_of}
use Rattle.ae_translation.proofs.NodeRules.{same_answer}
use Rattle.ae_lifting.specs.declared.cases.Atom.{Atom}
use Rattle.ae_translation.proofs.atoms.said.Goals as goal

pub returns : goal.returns
returns c x a p q =
    let made = c.in_ok-terms in
    let e : cases_of c.into_inner-cases.result ≡ x = ap cases_of c.into_inner-cases.ensures ∙ IfOk-at_ok (λ (cs : held.Cases). cases_of cs ≡ x) made.ensures.0 p in
    let f : made.atom ≡ a = IfOk-at_ok (λ (z : Atom). z ≡ a) made.ensures.1 q in
    same_answer c.new.result _ _
    (c.in_ok-formula.ensures ∙ ap (λ (z : Cases (List Term)). formula_of (z |> λ (us : List Term). leaf (said_of made.atom us))) e
    ∙ ap (λ (z : Atom). formula_of (x |> λ (us : List Term). leaf (said_of z us))) f) c.new.ensures
