use Rattle.std.proofs.Common.{arith, ◌∙◌, sym}
use Rattle.ae_elaboration.proofs.ElaborationRules.{value_none, value_next}
use Rattle.ae_elaboration.proofs.elaboration.value_at.Goals as goal

pub returns-then-i-values : goal.returns-then-i-values
returns-then-i-values c = sym (value_none c.args.place c.args.places.now c.args.values.now c.loop-i.i (omega arith)) ∙ c.loop-i.invariant

pub loop-i-preserved : goal.loop-i-preserved
loop-i-preserved c = value_next c.args.place c.args.places.now c.args.values.now c.loop-i.i (omega arith) (omega arith) c.if-places-i.false ∙ c.loop-i.invariant
