use Rattle.std.proofs.Common.{◌≡◌, ◌+◌, ◌∙◌, sym, subst, drop, arith}
use Rattle.ae_lex.specs.Lexis.{is_inner, is_letter}
use Rattle.ae_lex.specs.Inner.Pieces.{HasRun}
use Rattle.ae_lex.proofs.Parts.{stops_at, stops_none}
use Rattle.ae_lex.proofs.Pieces.{type_var_stands, quote_stands}
use Rattle.ae_lex.proofs.lexer.type_var.Goals as goal

pub returns-in-Some : goal.returns-in-Some
returns-in-Some c =
    let deep : c.args.at + 2 ≡ c.args.at + 1 + 1 = omega arith in
    let some = c.in-Some.ensures.some in
    type_var_stands c.args.text.now c.args.at c.in-Some.byte c.word_end.result some.0 c.requires.1 some.1 (sym c.is_letter.ensures ∙ c.if-is_letter.true)
    (subst (λ z. HasRun is_inner c.args.text.now z c.word_end.result) deep c.word_end.ensures)

pub returns-in_default : goal.returns-in_default
returns-in_default c = quote_stands c.args.text.now c.args.at c.requires.1 (stops_at is_letter (drop (c.args.at + 1) c.args.text.now) _ c.in-Some.byte c.in-Some.ensures.some.1 (sym c.is_letter.ensures ∙ c.if-is_letter.false))

pub returns-in_default-2 : goal.returns-in_default-2
returns-in_default-2 c = quote_stands c.args.text.now c.args.at c.requires.1 (stops_none is_letter (drop (c.args.at + 1) c.args.text.now) c.in_default.ensures.none)
