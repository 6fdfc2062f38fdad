use Rattle.std.proofs.Common.{◌∙◌, rules}
use Rattle.std.proofs.lemmas.Int.{to_z-of_z}
use mir.Syntax.{w128}
use Rattle.ae_num.proofs.KeyLaws.{found_key, found_factor, next_key, next_factor}
use Rattle.ae_num.proofs.forms.factor_at.Goals as goal

pub loop-part-preserved : goal.loop-part-preserved
loop-part-preserved c = record {
  keys = next_key c.args.parts.now c.loop-part.part-index _ c.args.key c.loop-part-test.true c.if-part-key.false c.loop-part.invariant.keys;
  factors = next_factor c.args.parts.now c.loop-part.part-index _ c.args.key c.loop-part-test.true c.if-part-key.false c.loop-part.invariant.factors;
}

pub returns-then-part-key-clause-some : goal.returns-then-part-key-clause-some
returns-then-part-key-clause-some c = (
  found_key c.args.parts.now c.loop-part.part-index _ c.args.key c.loop-part-test.true c.if-part-key.true c.loop-part.invariant.keys,
  to_z-of_z w128 _ (search rules) ∙ found_factor c.args.parts.now c.loop-part.part-index _ c.args.key c.loop-part-test.true c.if-part-key.true c.loop-part.invariant.factors,
)
