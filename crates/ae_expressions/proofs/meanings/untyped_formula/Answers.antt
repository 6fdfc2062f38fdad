use Rattle.std.proofs.Common.{sym, subst}
use Rattle.ae_elab.specs.declared.environment.Class.{Class}
use Rattle.ae_elab.specs.Environments.{class_in}
use Rattle.ae_elab.specs.Expressions.{name_formula}
use Rattle.ae_elab.specs.Scope.{bound, of_class}
use Rattle.ae_elab.specs.Typings.{ClaimAnswer, around_in}
use Rattle.ae_expressions.proofs.meanings.untyped_formula.Goals as goal

pub returns-in-Formula : goal.returns-in-Formula
returns-in-Formula c d args same =
    let old = c.args.typing.now in
    subst (λ (k : Class). ClaimAnswer d (λ sc. name_formula c.args.name args sc (around_in c.args.around.now) c.args.place (bound (of_class (class_in k)))) old c.untyped_claim.new.typing c.untyped_claim.result) (sym c.in-Formula.is)
    (c.untyped_claim.ensures d args c.args.place same)

pub returns-in-Either : goal.returns-in-Either
returns-in-Either c d args same =
    let old = c.args.typing.now in
    subst (λ (k : Class). ClaimAnswer d (λ sc. name_formula c.args.name args sc (around_in c.args.around.now) c.args.place (bound (of_class (class_in k)))) old c.term_as_formula.new.typing c.term_as_formula.result) (sym c.in-Either.is)
    (c.term_as_formula.ensures d args same)

pub returns-in-Term : goal.returns-in-Term
returns-in-Term c d args same =
    let old = c.args.typing.now in
    subst (λ (k : Class). ClaimAnswer d (λ sc. name_formula c.args.name args sc (around_in c.args.around.now) c.args.place (bound (of_class (class_in k)))) old c.term_as_formula-in-Term.new.typing c.term_as_formula-in-Term.result) (sym c.in-Term.is)
    (c.term_as_formula-in-Term.ensures d args same)
