use Rattle.std.proofs.Common.{◌∙◌, sym}
use Rattle.ae_numeric.proofs.EndingLaws.{zero_missing, zero_not, zero_denied}
use Rattle.ae_numeric.proofs.combinations.zero_ends.Goals as goal

pub returns-in-None : goal.returns-in-None
returns-in-None c = zero_missing c.args.signature.now c.args.lines.now c.args.line c.in-None.ensures.none

pub returns-then-is_equation : goal.returns-then-is_equation
returns-then-is_equation c =
    zero_not c.args.signature.now c.args.lines.now c.args.line c.in-Some.found.now c.in-Some.ensures.some (sym c.is_equation.ensures ∙ c.if-is_equation.true)

pub returns-else-is_equation : goal.returns-else-is_equation
returns-else-is_equation c =
    zero_denied c.args.signature.now c.args.lines.now c.args.line c.in-Some.found.now c.in-Some.ensures.some c.line_denied.result (sym c.is_equation.ensures ∙ c.if-is_equation.false) c.line_denied.ensures
