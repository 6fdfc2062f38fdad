use Rattle.std.proofs.Common.{◌∙◌, map, length, ap}
use Rattle.std.proofs.lemmas.Result.{err_from_is_err_and}
use Rattle.ae_declaration_typing.proofs.DefinitionLaws.{predicate_fails, predicate_given}
use Rattle.ae_elab.specs.Typings.{bound_in}
use Rattle.ae_declaration_typing.proofs.definitions.define_predicate.Goals as goal

pub returns-in_err-inner-clause-draft : goal.returns-in_err-inner-clause-draft
returns-in_err-inner-clause-draft c =
    let p = err_from_is_err_and c.from_residual-in_err-inner.result c.from_residual-in_err-inner.ensures.1 in
    let d = c.args.context.now in
    let text = d.text.now in
    rw (p.1, p.2) (predicate_fails text d.known c.args.place c.args.name c.args.body.now (map (bound_in text) c.args.bounds.now) c.count_written-vars.result c.args.typing.now c.count_written-vars.ensures
    c.declare.new.known c.requires.locals c.in_err-inner.field-0.0 c.in_ok-declare.ensures c.in_err-inner.ensures)

pub returns-clause-draft : goal.returns-clause-draft
returns-clause-draft c =
    let d = c.args.context.now in
    let text = d.text.now in
    let bs = map (bound_in text) c.args.bounds.now in
    let body = c.in_ok-inner.ensures in
    predicate_given text d.known c.args.place c.args.name c.args.body.now bs c.count_written-vars.result c.args.typing.now c.formula_under.new.typing c.count_written-vars.ensures
    c.declare.new.known c.requires.locals c.len-symbol.result (c.len-symbol.ensures ∙ ap (λ s. length s.symbols) c.signature.ensures) c.predicate_claim.new.environment c.in_ok-claim.claim body.walks.locals body.walks.kept
    c.in_ok-declare.ensures body.claim body.walks.walked (c.in_ok-claim.ensures text body.claim body.stands)
