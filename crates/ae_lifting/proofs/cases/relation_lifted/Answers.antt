use Rattle.std.proofs.Common.{◌≡◌, List}
use Rattle.std.proofs.lemmas.Result.{IfOk-weaker}
use Rattle.ae_core.specs.declared.terms.Term.{Term}
use Rattle.ae_elab.specs.Elaboration.{leaf, ◌|>◌, formula_of}
use Rattle.ae_lifting.specs.Lifting.{cases_of, said_of}
use Rattle.ae_lifting.specs.declared.cases.Atom.TheVariants.{Relation}
use Rattle.ae_lifting.specs.Inner.Answered.{IsRelation}
use Rattle.ae_lifting.proofs.cases.relation_lifted.Goals as goal

pub returns-in-Ok : goal.returns-in-Ok
returns-in-Ok c =
    IfOk-weaker c.lifted.result (λ f. f ≡ formula_of (cases_of c.in-Ok.cases |> λ (us : List Term). leaf (said_of (Relation c.args.relation) us)))
    (IsRelation c.args.terms c.args.relation) (λ f e. (c.in-Ok.cases, c.in-Ok.is, e)) c.lifted.ensures
