use Rattle.std.proofs.Common.{ap, ◌∙◌, [], ◌∷◌, ◌++◌}
use Rattle.std.proofs.lemmas.Result.{err_from_is_err_and}
use Rattle.ae_syntax.proofs.ParserMeetsMachine.Decls.{typeds_start, typeds_none, typeds_step, typeds_fail, typeds_end}
use Rattle.ae_syntax.proofs.read_decls.read_typeds.Goals as goal

pub returns-in_err-first : goal.returns-in_err-first
returns-in_err-first c = let p = err_from_is_err_and c.from_residual.result c.from_residual.ensures.1 in rw (p.1, p.2) (typeds_none c.args.tokens.now c.args.at c.in_err-first.field-0.0 c.args.separator c.in_err-first.ensures)

pub loop-alloc-init : goal.loop-alloc-init
loop-alloc-init c = typeds_start c.args.separator c.in_ok-first.first _ c.in_ok-first.ensures (c.in_ok-push.ensures.ok ∙ ap (λ z. z ++ c.in_ok-first.first ∷ []) c.new-found.ensures)

pub returns-in_err-typed : goal.returns-in_err-typed
returns-in_err-typed c = let p = err_from_is_err_and c.from_residual-in_err-typed.result c.from_residual-in_err-typed.ensures.1 in rw (p.1, p.2) (typeds_fail c.in_err-typed.field-0.0 c.loop-alloc.invariant c.loop-alloc-test.ensures c.in_err-typed.ensures)

pub loop-alloc-preserved : goal.loop-alloc-preserved
loop-alloc-preserved c = typeds_step c.in_ok-typed.typed _ c.loop-alloc.invariant c.loop-alloc-test.ensures c.in_ok-typed.ensures c.in_ok-push-2.ensures.ok

pub returns : goal.returns
returns c = typeds_end c.loop-alloc.invariant c.loop-alloc-test.ensures
