use Rattle.std.proofs.Common.{[], ◌∷◌, ◌++◌, sym, ap, ◌∙◌, subst}
use Rattle.std.proofs.lemmas.Result.{err_from_is_err_and}
use Rattle.ae_lex.specs.Inner.KeptTokens.{tokens_of, AreNumbered}
use Rattle.ae_lex.proofs.KeptTokens.{same_tokens, one_more, one_more_numbered}
use Rattle.ae_lex.proofs.token_list.TokenList.push.Goals as goal

pub returns-in_err-kind-clause-err : goal.returns-in_err-kind-clause-err
returns-in_err-kind-clause-err c =
    let p = err_from_is_err_and c.from_residual.result c.from_residual.ensures.1 in
    rw p.1 (same_tokens c.self.inside.numerals c.keep.new.numerals c.self.inside.kept c.keep.ensures.more c.self.invariant ∙ c.self.view_is)

pub invariant_of-self-2 : goal.invariant_of-self-2
invariant_of-self-2 c =
    subst (AreNumbered c.keep.new.numerals) (sym c.in_ok-push.ensures.ok) (
    one_more_numbered c.self.inside.numerals c.keep.new.numerals c.self.inside.kept c.in_ok-kind.kind c.args.token.from c.args.token.to c.keep.ensures.more c.self.invariant c.in_ok-kind.ensures.kind.0
    )

pub returns-clause-ok : goal.returns-clause-ok
returns-clause-ok c =
    ap (tokens_of c.keep.new.numerals) c.in_ok-push.ensures.ok ∙
    one_more c.self.inside.numerals c.keep.new.numerals c.self.inside.kept c.in_ok-kind.kind c.args.token c.keep.ensures.more c.self.invariant c.in_ok-kind.ensures.kind.1 ∙
    ap (λ ts. ts ++ c.args.token ∷ []) c.self.view_is

pub returns-in_err-push-clause-err : goal.returns-in_err-push-clause-err
returns-in_err-push-clause-err c =
    let p = err_from_is_err_and c.from_residual-in_err-push.result c.from_residual-in_err-push.ensures.1 in
    rw p.1 (
    ap (tokens_of c.keep.new.numerals) c.in_err-push.ensures.err ∙
    same_tokens c.self.inside.numerals c.keep.new.numerals c.self.inside.kept c.keep.ensures.more c.self.invariant ∙
    c.self.view_is
    )
