use Rattle.std.proofs.Common.{ap, ◌∙◌, [], ◌∷◌, ◌++◌}
use Rattle.std.proofs.lemmas.Result.{err_from_is_err_and}
use Rattle.ae_syntax.specs.Parts.{named_after}
use Rattle.ae_syntax.proofs.ParserMeetsMachine.Decls.{type_ends, type_sinks, type_goes_on}
use Rattle.ae_syntax.proofs.read_types.+more_type.Goals as goal

pub returns-in_default : goal.returns-in_default
returns-in_default t c = type_ends c.args.tokens.now c.args.at c.args.depth c.args.left c.requires.within c.in_default.ensures.lacks

pub returns-in_err-inner : goal.returns-in_err-inner
returns-in_err-inner t c = let p = err_from_is_err_and c.from_residual.result c.from_residual.ensures.1 in rw (p.1, p.2) (type_sinks c.args.tokens.now c.args.at c.args.depth c.args.left c.in-Ok.name c.in_err-inner.field-0.0 c.in-Ok.ensures.is c.in-Ok.ensures.kind c.in_err-inner.ensures.full c.in_err-inner.ensures.deep)

pub returns : goal.returns
returns t c = type_goes_on c.args.tokens.now c.args.at c.args.depth c.in_ok-inner.inner c.args.left c.named_after.result c.in-Ok.name c.more_type.result c.in-Ok.ensures.is c.in-Ok.ensures.kind c.in_ok-inner.ensures.more c.in_ok-inner.ensures.room (c.named_after.ensures ∙ ap (λ z. named_after c.args.left.span z c.in-Ok.name) (c.in_ok-push.ensures.ok ∙ ap (λ z. z ++ c.args.left ∷ []) c.new-args.ensures)) c.more_type.ensures
