use Rattle.std.proofs.Common.{subst, sym, ◌∙◌, ◌∷◌, []}
use Rattle.ae_lex.specs.Lexis.{is_digit, value}
use Rattle.ae_lex.specs.Inner.Pieces.{IsValue}
use Rattle.ae_lex.proofs.Parts.{run_none, run_step, value-append}
use Rattle.ae_lex.proofs.numerals.digits.Goals as goal

pub loop-byte-init : goal.loop-byte-init
loop-byte-init c = (run_none is_digit c.args.text.now c.args.from c.requires, λ v h. h)

pub loop-byte-preserved : goal.loop-byte-preserved
loop-byte-preserved c =
    let i = c.loop-byte.invariant in
    let s = c.in-Some.ensures.some in (
      run_step is_digit c.args.text.now c.args.from c.loop-byte.at c.in-Some.byte i.0 s.0 s.1 (sym c.is_digit.ensures ∙ c.if-not-is_digit.false),
      λ v h. subst (λ z. IsValue c.with_digit-value.result z) (sym (value-append v i.0.w (c.in-Some.byte ∷ []))) (c.with_digit-value.ensures (value v i.0.w) (i.1 v h)),
    )
