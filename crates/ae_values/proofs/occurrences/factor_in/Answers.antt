use Rattle.std.proofs.Common.{◌∙◌, rules}
use Rattle.std.proofs.lemmas.Int.{to_z-of_z}
use mir.Syntax.{w128}
use Rattle.ae_num.proofs.KeyLaws.{found_key, found_factor, next_key, next_factor}
use Rattle.ae_values.proofs.occurrences.factor_in.Goals as goal

pub loop-part-preserved : goal.loop-part-preserved
loop-part-preserved c = record {
  keys = next_key c.args.parts.now c.loop-part.part-index _ c.args.name c.loop-part-test.true c.if-part-name.false c.loop-part.invariant.keys;
  factors = next_factor c.args.parts.now c.loop-part.part-index _ c.args.name c.loop-part-test.true c.if-part-name.false c.loop-part.invariant.factors;
}

pub returns-then-part-name-clause-some : goal.returns-then-part-name-clause-some
returns-then-part-name-clause-some c = (
  found_key c.args.parts.now c.loop-part.part-index _ c.args.name c.loop-part-test.true c.if-part-name.true c.loop-part.invariant.keys,
  to_z-of_z w128 _ (search rules) ∙ found_factor c.args.parts.now c.loop-part.part-index _ c.args.name c.loop-part-test.true c.if-part-name.true c.loop-part.invariant.factors,
)
