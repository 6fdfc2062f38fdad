use Rattle.std.proofs.Common.{suc, [], ◌∷◌, refl}
use Rattle.std.proofs.lemmas.Result.{err_from_is_err_and}
use Rattle.ae_lex.specs.declared.kinds.TokenKind.TheVariants as kind
use Rattle.ae_syntax.specs.Parts.{tree}
use Rattle.ae_syntax.specs.Inner.Machine.{make, more_post, keep, take_field}
use Rattle.ae_syntax.proofs.ParserMeetsMachine.Steps.{relay, lacks_keep}
use Rattle.ae_syntax.proofs.ParserMeetsMachine.Exprs.{chain_deep}
use Rattle.ae_syntax.proofs.ParserMeetsMachine.Items.{takes_post, post_ends, post_1, post_2}
use Rattle.ae_syntax.proofs.read_exprs.+more_post.Goals as goal

pub returns-then-not-stands_sign : goal.returns-then-not-stands_sign
returns-then-not-stands_sign t c = post_ends c.args.tokens.now c.args.at c.args.depth c.args.left c.requires.within c.if-not-stands_sign.ensures

pub returns-in_err-inner : goal.returns-in_err-inner
returns-in_err-inner t c = let p = err_from_is_err_and c.from_residual.result c.from_residual.ensures.1 in rw (p.1, p.2) (chain_deep (more_post c.args.depth) (suc c.args.depth) (keep kind.Ident (suc c.args.depth) ∷ make take_field ∷ more_post (suc c.args.depth) ∷ []) c.args.tokens.now c.args.at 7 c.args.left c.in_err-inner.field-0.0 (takes_post c.args.tokens.now c.args.at c.args.depth (suc c.args.depth) c.if-not-stands_sign.ensures refl) c.in_err-inner.ensures.full c.in_err-inner.ensures.deep)

pub returns-in_err-name : goal.returns-in_err-name
returns-in_err-name t c = let p = err_from_is_err_and c.from_residual-in_err-name.result c.from_residual-in_err-name.ensures.1 in rw (p.1, p.2) (lacks_keep (λ p. tree p) 7 c.in_err-name.field-0.0 (post_1 c.args.tokens.now c.args.at c.args.depth c.in_ok-inner.inner c.args.left c.if-not-stands_sign.ensures c.in_ok-inner.ensures.more c.in_ok-inner.ensures.room) c.in_err-name.ensures.lacks c.in_err-name.ensures.wrong)

pub returns : goal.returns
returns t c = relay (λ p. tree p) 7 c.more_post.result (post_2 c.args.tokens.now c.args.at c.args.depth c.in_ok-inner.inner c.args.left _ c.in_ok-name.name c.if-not-stands_sign.ensures c.in_ok-inner.ensures.more c.in_ok-inner.ensures.room c.in_ok-name.ensures.is c.in_ok-name.ensures.kind c.in_ok-field.ensures) c.more_post.ensures
