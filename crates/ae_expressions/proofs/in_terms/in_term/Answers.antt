use Rattle.std.proofs.Common.{sym, subst}
use Rattle.ae_elab.specs.Expressions.{formula_in_term}
use Rattle.ae_elab.specs.Typings.{Stops, ClaimAnswer}
use Rattle.ae_expressions.proofs.AnswerLaws.{in_term_stops, in_term_first}
use Rattle.ae_expressions.proofs.in_terms.in_term.Goals as goal

pub returns-in-Ok : goal.returns-in-Ok
returns-in-Ok c d r old new h =
    let a = subst (ClaimAnswer d r old new) c.in-Ok.is h in
    subst (λ e. Stops d (λ sc. formula_in_term c.args.place (r sc)) old e) (sym c.prop_in_term.ensures) (in_term_stops d c.args.place r old new a.claim a.walks)

pub returns-in-Err : goal.returns-in-Err
returns-in-Err c d r old new h = in_term_first d c.args.place r old c.in-Err.fault (subst (ClaimAnswer d r old new) c.in-Err.is h)
