use Rattle.std.proofs.lemmas.Result.{err_from_is_err_and}
use Rattle.ae_syntax.proofs.ParserMeetsMachine.Decls.{file_start, file_step, file_fails, file_done}
use Rattle.ae_syntax.proofs.parser.read_file.Goals as goal

pub loop-first-init : goal.loop-first-init
loop-first-init c = file_start c.args.tokens.now _ c.new-found.ensures

pub returns-in_err-decl : goal.returns-in_err-decl
returns-in_err-decl c = let p = err_from_is_err_and c.from_residual.result c.from_residual.ensures.1 in rw (p.1, p.2) (file_fails c.args.tokens.now c.loop-first.at c.loop-first.found c.in_err-decl.field-0.0 c.loop-first.invariant c.in_err-decl.ensures)

pub loop-first-preserved : goal.loop-first-preserved
loop-first-preserved c = file_step c.args.tokens.now c.loop-first.at c.in_ok-decl.to c.loop-first.found _ c.in_ok-decl.decl c.loop-first.invariant c.in_ok-decl.ensures.2 c.in_ok-push.ensures.ok

pub returns : goal.returns
returns c = file_done c.args.tokens.now c.loop-first.at c.loop-first.found c.loop-first.invariant c.in_default.ensures.none
