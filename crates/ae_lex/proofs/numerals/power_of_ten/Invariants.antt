use Rattle.std.proofs.Common.{◌^◌}
use Rattle.ae_lex.specs.Inner.Pieces.{IsValue}
use Rattle.ae_lex.proofs.numerals.power_of_ten.Given as goal

abbrev pub invariant-loop-place : goal.invariant-loop-place
invariant-loop-place l = IsValue l.power (10 ^ l._place)
