use Rattle.ae_lex.proofs.Pieces.{whole_stands, decimal_stands}
use Rattle.ae_lex.proofs.lexer.numeral.Goals as goal

pub returns-then-not-has_point : goal.returns-then-not-has_point
returns-then-not-has_point c = whole_stands c.args.text.now c.args.at c.args.byte c.digits-front.result.to c.digits-front.result.value c.whole_kind.result c.ended.result c.requires.here.1 c.requires.digit c.digits-front.ensures (c.has_point.ensures.no c.if-not-has_point.true) c.whole_kind.ensures c.ended.ensures

pub returns : goal.returns
returns c =
    let point = c.has_point.ensures.yes c.if-not-has_point.false in
    decimal_stands c.args.text.now c.args.at c.args.byte c.digits-front.result.to c.digits-back.result.to c.digits-front.result.value c.digits-back.result.value c.power_of_ten-power.result c.decimal_kind.result c.ended-2.result c.requires.here.1 c.requires.digit c.digits-front.ensures point.0 point.1 c.digits-back.ensures c.power_of_ten-power.ensures.is c.decimal_kind.ensures c.ended-2.ensures
