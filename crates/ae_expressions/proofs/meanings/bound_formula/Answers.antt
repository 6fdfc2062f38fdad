use Rattle.std.proofs.Common.{sym, subst}
use Rattle.ae_elab.specs.declared.environment.Meaning.{Meaning}
use Rattle.ae_elab.specs.Environments.{meaning_in}
use Rattle.ae_elab.specs.Expressions.{name_formula}
use Rattle.ae_elab.specs.Scope.{bound}
use Rattle.ae_elab.specs.Typings.{ClaimAnswer, around_in, nodes_of}
use Rattle.ae_expressions.proofs.meanings.bound_formula.Goals as goal

pub returns-in-Formula : goal.returns-in-Formula
returns-in-Formula c d args same =
    let old = c.args.typing.now in
    subst (λ (m : Meaning). ClaimAnswer d (λ sc. name_formula c.args.name args sc (around_in c.args.around.now) c.args.place (bound (meaning_in (nodes_of old) m))) old c.named_claim.new.typing c.named_claim.result) (sym c.in-Formula.is)
    (c.named_claim.ensures d args c.args.place same)

pub returns-in-Untyped : goal.returns-in-Untyped
returns-in-Untyped c d args same =
    let old = c.args.typing.now in
    subst (λ (m : Meaning). ClaimAnswer d (λ sc. name_formula c.args.name args sc (around_in c.args.around.now) c.args.place (bound (meaning_in (nodes_of old) m))) old c.untyped_formula.new.typing c.untyped_formula.result) (sym c.in-Untyped.is)
    (c.untyped_formula.ensures d args same)

pub returns-in-Variable : goal.returns-in-Variable
returns-in-Variable c d args same =
    let old = c.args.typing.now in
    subst (λ (m : Meaning). ClaimAnswer d (λ sc. name_formula c.args.name args sc (around_in c.args.around.now) c.args.place (bound (meaning_in (nodes_of old) m))) old c.term_as_formula.new.typing c.term_as_formula.result) (sym c.in-Variable.is)
    (c.term_as_formula.ensures d args same)

pub returns-in-Term : goal.returns-in-Term
returns-in-Term c d args same =
    let old = c.args.typing.now in
    subst (λ (m : Meaning). ClaimAnswer d (λ sc. name_formula c.args.name args sc (around_in c.args.around.now) c.args.place (bound (meaning_in (nodes_of old) m))) old c.term_as_formula-in-Term.new.typing c.term_as_formula-in-Term.result) (sym c.in-Term.is)
    (c.term_as_formula-in-Term.ensures d args same)
