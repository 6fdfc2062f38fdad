use Rattle.std.proofs.Common.{◌+◌, [], ◌∷◌, refl, arith}
use Rattle.std.proofs.lemmas.Result.{err_from_is_err_and}
use Rattle.ae_lex.specs.declared.kinds.Sign.TheVariants as sign
use Rattle.ae_syntax.specs.Parts.{token, tree, sort, ascribed}
use Rattle.ae_syntax.specs.Inner.Machine.{make, keep, the_sign, a_type, ascribe}
use Rattle.ae_syntax.proofs.ParserMeetsMachine.Steps.{then_reads, fails_on, start, then_keeps, lacks_keep}
use Rattle.ae_syntax.proofs.ParserMeetsMachine.OpenExprs.{made}
use Rattle.ae_syntax.proofs.ParserMeetsMachine.Levels.{small_grip}
use Rattle.ae_syntax.specs.Inner.Reading.{ascribed_wants}
use Rattle.ae_syntax.proofs.read_exprs.read_ascribed.Goals as goal

pub returns-in_err-sort : goal.returns-in_err-sort
returns-in_err-sort c = let p = err_from_is_err_and c.from_residual.result c.from_residual.ensures.1 in rw (p.1, p.2) (λ m l. fails_on (λ p. tree p) (λ p. sort p) 8 8 (a_type c.args.depth ∷ []) (keep (the_sign sign.CloseParen) m ∷ make ascribe ∷ []) [] (tree c.args.body ∷ token c.args.opener ∷ []) c.in_err-sort.field-0.0 (start c.args.tokens.now (ascribed_wants c.args.depth m) (tree c.args.body ∷ token c.args.opener ∷ []) (c.args.at + 1) (let q = c.requires.within in omega (arith, q))) c.in_err-sort.ensures)

pub returns-in_err-close : goal.returns-in_err-close
returns-in_err-close c = let p = err_from_is_err_and c.from_residual-in_err-close.result c.from_residual-in_err-close.ensures.1 in rw (p.1, p.2) (λ m l. lacks_keep (λ p. tree p) 8 c.in_err-close.field-0.0 (then_reads (a_type c.args.depth ∷ []) (keep (the_sign sign.CloseParen) m ∷ make ascribe ∷ []) [] (tree c.args.body ∷ token c.args.opener ∷ []) (start c.args.tokens.now (ascribed_wants c.args.depth m) (tree c.args.body ∷ token c.args.opener ∷ []) (c.args.at + 1) (let q = c.requires.within in omega (arith, q))) c.in_ok-sort.ensures) c.in_err-close.ensures.lacks c.in_err-close.ensures.wrong)

pub returns : goal.returns
returns c = λ m l. made 8 (ascribed c.args.opener c.args.body c.in_ok-sort.sort c.in_ok-close.close) _ (then_keeps c.in_ok-close.close (then_reads (a_type c.args.depth ∷ []) (keep (the_sign sign.CloseParen) m ∷ make ascribe ∷ []) [] (tree c.args.body ∷ token c.args.opener ∷ []) (start c.args.tokens.now (ascribed_wants c.args.depth m) (tree c.args.body ∷ token c.args.opener ∷ []) (c.args.at + 1) (let q = c.requires.within in omega (arith, q))) c.in_ok-sort.ensures) c.in_ok-close.ensures.is c.in_ok-close.ensures.kind l) (λ v. refl) c.in_ok-stated.ensures (small_grip _)
