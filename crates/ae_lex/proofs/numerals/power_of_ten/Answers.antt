use Rattle.std.proofs.Common.{◌≡◌, ◌^◌, arith, subst}
use Rattle.ae_lex.specs.Inner.Pieces.{IsValue}
use Rattle.ae_lex.proofs.NumeralFacts.{ten_some}
use Rattle.ae_lex.proofs.numerals.power_of_ten.Goals as goal

pub returns-clause-some : goal.returns-clause-some
returns-clause-some c =
    let all : c.loop-place._place ≡ c.args.places = omega arith in
    ten_some c.args.places c.loop-place.power (subst (λ z. IsValue c.loop-place.power (10 ^ z)) all c.loop-place.invariant)
