use Rattle.std.proofs.Common.{◌∙◌, sym}
use Rattle.ae_numeric.proofs.EndingLaws.{const_missing, const_not, const_denied}
use Rattle.ae_numeric.proofs.combinations.const_ends.Goals as goal

pub returns-in-None : goal.returns-in-None
returns-in-None c = const_missing c.args.signature.now c.args.lines.now c.args.line c.in-None.ensures.none

pub returns-then-not-is_equation : goal.returns-then-not-is_equation
returns-then-not-is_equation c =
    const_not c.args.signature.now c.args.lines.now c.args.line c.in-Some.found.now c.in-Some.ensures.some (sym c.is_equation.ensures ∙ c.if-not-is_equation.true)

pub returns-else-not-is_equation : goal.returns-else-not-is_equation
returns-else-not-is_equation c =
    const_denied c.args.signature.now c.args.lines.now c.args.line c.in-Some.found.now c.in-Some.ensures.some c.line_denied.result (sym c.is_equation.ensures ∙ c.if-not-is_equation.false) c.line_denied.ensures
