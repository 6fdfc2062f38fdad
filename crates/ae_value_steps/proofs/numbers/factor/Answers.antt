use Rattle.std.proofs.Common.{◌∙◌, rules}
use Rattle.std.proofs.lemmas.Int.{to_z-of_z}
use mir.Syntax.{w128}
use Rattle.ae_num.proofs.KeyLaws.{found_factor, next_factor}
use Rattle.ae_value_steps.proofs.numbers.factor.Goals as goal

pub loop-part-preserved : goal.loop-part-preserved
loop-part-preserved c = next_factor c.args.parts.now c.loop-part.part-index _ c.args.name c.loop-part-test.true c.if-part-name.false c.loop-part.invariant

pub returns-then-part-name : goal.returns-then-part-name
returns-then-part-name c = to_z-of_z w128 _ (search rules) ∙ found_factor c.args.parts.now c.loop-part.part-index _ c.args.name c.loop-part-test.true c.if-part-name.true c.loop-part.invariant
