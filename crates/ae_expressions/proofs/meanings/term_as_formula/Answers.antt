use Rattle.std.proofs.lemmas.Result.{err_from_is_err_and}
use Rattle.ae_elab.specs.AfterParts.{then_truth}
use Rattle.ae_elab.specs.Environments.{meaning_in}
use Rattle.ae_elab.specs.Expressions.{name_term}
use Rattle.ae_elab.specs.Rules.{typed}
use Rattle.ae_elab.specs.Scope.{bound}
use Rattle.ae_elab.specs.Typings.{nodes_of}
use Rattle.ae_elab.proofs.TypingLaws.{stops_first}
use Rattle.ae_expressions.proofs.AnswerLaws.{then_claim}
use Rattle.ae_expressions.proofs.meanings.term_as_formula.Goals as goal

pub returns-in_err-found : goal.returns-in_err-found
returns-in_err-found c d args same =
    let p = err_from_is_err_and c.from_residual.result c.from_residual.ensures.1 in
    let old = c.args.typing.now in
    rw (p.1, p.2) (stops_first d (λ sc. name_term c.args.name args sc c.args.place (bound (meaning_in (nodes_of old) c.args.meaning))) (λ sc. then_truth c.args.place) old c.in_err-found.field-0.0 (c.in_err-found.ensures d args same))

pub returns : goal.returns
returns c d args same =
    let old = c.args.typing.now in
    let a = c.in_ok-found.ensures d args same in
    then_claim d (λ sc. name_term c.args.name args sc c.args.place (bound (meaning_in (nodes_of old) c.args.meaning))) old c.bound_term.new.typing c.holds.new.typing (typed a.tree c.in_ok-found.found.sort) a.walks
    (λ sc. then_truth c.args.place) c.holds.result (c.holds.ensures d a.tree a.stands)
