use Rattle.std.proofs.Common.{ap, ◌∙◌, refl, [], ◌∷◌, ◌++◌}
use Rattle.std.proofs.lemmas.Result.{err_from_is_err_and}
use Rattle.ae_syntax.proofs.ParserMeetsMachine.Decls.{names_start, names_none, names_step, names_fail, names_end}
use Rattle.ae_syntax.proofs.read_items.read_item_list.Goals as goal

pub returns-in_err-first : goal.returns-in_err-first
returns-in_err-first c = let p = err_from_is_err_and c.from_residual.result c.from_residual.ensures.1 in rw (p.1, p.2) (names_none c.args.separator c.requires.within c.in_err-first.ensures.lacks c.in_err-first.ensures.wrong)

pub loop-kind-init : goal.loop-kind-init
loop-kind-init c = names_start c.args.separator c.in_ok-first.first _ c.in_ok-first.ensures.is c.in_ok-first.ensures.kind (c.in_ok-push.ensures.ok ∙ ap (λ z. z ++ c.span.result ∷ []) c.new-found.ensures ∙ ap (λ z. z ∷ []) c.span.ensures)

pub returns-in_err-name : goal.returns-in_err-name
returns-in_err-name c = let p = err_from_is_err_and c.from_residual-in_err-name.result c.from_residual-in_err-name.ensures.1 in rw (p.1, p.2) (names_fail c.loop-kind.invariant c.loop-kind-test.ensures c.in_err-name.ensures.lacks c.in_err-name.ensures.wrong)

pub loop-kind-preserved : goal.loop-kind-preserved
loop-kind-preserved c = names_step _ c.loop-kind.invariant c.loop-kind-test.ensures c.in_ok-name.ensures.is c.in_ok-name.ensures.kind (c.in_ok-push-2.ensures.ok ∙ ap (λ z. c.loop-kind.found ++ z ∷ []) c.span-in-loop-kind.ensures) refl

pub returns : goal.returns
returns c = names_end c.loop-kind.invariant c.loop-kind-test.ensures
