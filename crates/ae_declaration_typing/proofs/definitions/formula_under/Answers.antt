use Rattle.std.proofs.Common.{◌∙◌, map, reverse}
use Rattle.std.proofs.lemmas.Result.{err_from_is_err_and}
use Rattle.ae_declaration_typing.proofs.UnderLaws.{under_stops, claim_under, as_many}
use Rattle.ae_elab.specs.Formulas.{local_of}
use Rattle.ae_elab.specs.Rules.{as_formula}
use Rattle.ae_elab.specs.Expressions.{part_of}
use Rattle.ae_elab.specs.Typings.{bound_in, locals_of}
use Rattle.ae_declaration_typing.proofs.definitions.formula_under.Goals as goal

pub returns-in_err-claim : goal.returns-in_err-claim
returns-in_err-claim c =
    let p = err_from_is_err_and c.from_residual-in_err-claim.result c.from_residual-in_err-claim.ensures.1 in
    let d = c.args.context.now in
    let bs = map (bound_in d.text.now) c.args.bounds.now in
    rw (p.1, p.2) (under_stops d (λ sc. as_formula sc
    (part_of c.args.body.now)) c.args.typing.now bs c.enter_block.new.environment c.enter_block.ensures.nodes c.in_ok-enter_block.ensures.locals c.in_err-claim.field-0.0 c.in_err-claim.ensures)

pub returns : goal.returns
returns c =
    let d = c.args.context.now in
    let bs = map (bound_in d.text.now) c.args.bounds.now in
    let left = c.leave_block.new.environment in
    let body = c.in_ok-claim.ensures in
    let outer = c.leave_block.ensures.locals (reverse (map local_of bs)) (locals_of c.args.typing.now) (body.walks.locals ∙ c.in_ok-enter_block.ensures.locals) (as_many d.text.now c.args.bounds.now) in
    claim_under d (λ sc. as_formula sc (part_of c.args.body.now)) c.args.typing.now bs c.enter_block.new.environment c.enter_block.ensures.nodes c.in_ok-enter_block.ensures.locals
    c.formula_of.new.typing c.in_ok-claim.claim body left c.leave_block.ensures.nodes outer
