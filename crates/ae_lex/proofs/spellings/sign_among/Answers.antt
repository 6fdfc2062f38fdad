use Rattle.std.proofs.Common.{subst, arith, sym}
use Rattle.std.proofs.lemmas.List.{get_or_default}
use Rattle.std.proofs.lemmas.Bool.{both_ways}
use Rattle.ae_lex.specs.Lexis.{Begins}
use Rattle.ae_lex.proofs.Tables.{none_more}
use Rattle.ae_lex.proofs.spellings.sign_among.Goals as goal

pub returns-then-begins-clause-some : goal.returns-then-begins-clause-some
returns-then-begins-clause-some c = record {
  place = c.loop-sign.sign-index;
  listed = c.loop-sign-test.true;
  is = get_or_default c.args.signs.now c.loop-sign.sign-index _ _ c.loop-sign-test.true;
  begins = subst (λ z. Begins z c.args.bytes.now) c.spelling.ensures (c.begins.ensures.0 c.if-begins.true);
  before = c.loop-sign.invariant;
}

pub loop-sign-preserved : goal.loop-sign-preserved
loop-sign-preserved c = none_more c.args.signs.now c.args.bytes.now c.loop-sign.sign-index _ c.loop-sign-test.true c.loop-sign.invariant
    (λ b. both_ways c.begins.result c.if-begins.false (c.begins.ensures.1 (subst (λ z. Begins z c.args.bytes.now) (sym c.spelling.ensures) b)))

pub returns-clause-none : goal.returns-clause-none
returns-clause-none c = λ k d h. c.loop-sign.invariant k d (omega arith)
