use Rattle.std.proofs.Common.{◌∷◌, [], sym, subst}
use Rattle.std.proofs.lemmas.Bool.{both_ways}
use Rattle.ae_lex.specs.Lexis.{Begins, IsOutsideMark, mark}
use Rattle.ae_lex.specs.Spellings.{sign_bytes}
use Rattle.ae_lex.proofs.Pieces.{comment_stands, open_stands, sign_stands, bad_stands}
use Rattle.ae_lex.proofs.lexer.mark.Goals as goal
use Rattle.std.proofs.lemmas.List.{take_rest}

pub returns-in-Some : goal.returns-in-Some
returns-in-Some c =
    comment_stands c.args.text.now c.args.at c.args.byte c.in-Some.to c.requires.here.0 c.requires.here.1
    (subst (λ z. Begins (40 ∷ 42 ∷ []) z) (take_rest c.args.text.now c.args.at) (c.begins.ensures.0 c.if-begins.true)) c.in-Some.ensures

pub returns-in-None : goal.returns-in-None
returns-in-None c =
    open_stands c.args.text.now c.args.at c.args.byte c.requires.here.0 c.requires.here.1
    (subst (λ z. Begins (40 ∷ 42 ∷ []) z) (take_rest c.args.text.now c.args.at) (c.begins.ensures.0 c.if-begins.true)) c.in-None.ensures

pub returns-then-is_outside : goal.returns-then-is_outside
returns-then-is_outside c = (λ i. c.args.at, mark (subst IsOutsideMark (take_rest c.args.text.now c.args.at) (c.is_outside.ensures.0 c.if-is_outside.true)))

pub returns-in-Some-longest_sign : goal.returns-in-Some-longest_sign
returns-in-Some-longest_sign c =
    let all = take_rest c.args.text.now c.args.at in
    sign_stands c.args.text.now c.spelling.result.now c.args.at c.args.byte c.in-Some-longest_sign.sign c.requires.here.0 c.requires.here.1 c.requires.other c.spelling.ensures
    (subst (λ z. Begins (sign_bytes c.in-Some-longest_sign.sign) z) all c.in-Some-longest_sign.ensures.some)
    (λ t b. c.in-Some-longest_sign.ensures.longest t (subst (λ z. Begins (sign_bytes t) z) (sym all) b))
    (λ b. both_ways c.begins.result c.if-begins.false (c.begins.ensures.1 (subst (λ z. Begins (40 ∷ 42 ∷ []) z) (sym all) b)))
    (λ o. both_ways c.is_outside.result c.if-is_outside.false (c.is_outside.ensures.1 (subst IsOutsideMark (sym all) o)))

pub returns-in-None-longest_sign : goal.returns-in-None-longest_sign
returns-in-None-longest_sign c =
    let all = take_rest c.args.text.now c.args.at in
    bad_stands c.args.text.now c.args.at c.args.byte c.requires.here.1 c.requires.other
    (λ t b. c.in-None-longest_sign.ensures.none t (subst (λ z. Begins (sign_bytes t) z) (sym all) b))
    (λ o. both_ways c.is_outside.result c.if-is_outside.false (c.is_outside.ensures.1 (subst IsOutsideMark (sym all) o)))
