use Rattle.std.proofs.lemmas.Result.{err_from_is_err_and}
use Rattle.ae_declaration_typing.proofs.StatementLaws.{statement_fault, statement_typed}
use Rattle.ae_declaration_typing.proofs.statements.statement.Goals as goal

pub returns-in_err-claim : goal.returns-in_err-claim
returns-in_err-claim c =
    let p = err_from_is_err_and c.from_residual.result c.from_residual.ensures.1 in
    rw (p.1, p.2) (statement_fault c.args.context.now c.args.place c.args.is_goal c.args.name c.args.body.now c.args.typing.now c.requires.locals c.in_err-claim.field-0.0 c.in_err-claim.ensures)

pub returns : goal.returns
returns c =
    statement_typed c.args.context.now c.args.place c.args.is_goal c.args.name c.args.body.now c.args.typing.now c.requires.locals c.formula_of.new.typing c.in_ok-claim.claim c.in_ok-claim.ensures
