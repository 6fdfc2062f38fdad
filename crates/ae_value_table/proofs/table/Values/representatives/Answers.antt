use Rattle.std.specs.Prelude.{length, ◌+◌}
use Rattle.std.proofs.Common.{ap, ◌∙◌}
use Rattle.std.proofs.lemmas.List.{length_push}
use Rattle.ae_value_table.proofs.Least.{least_more}
use Rattle.ae_value_table.proofs.table.Values.representatives.Goals as goal

pub loop-name-preserved : goal.loop-name-preserved
loop-name-preserved c = record {
  one_each = ap length c.in_ok-push.ensures.items ∙ length_push c.loop-name.reps.items c.least.result ∙ ap (λ n. n + 1) c.loop-name.invariant.one_each;
  least = least_more c.args.self.now c.loop-name.reps.items c.push.new.self.items c.loop-name.name c.least.result c.loop-name.invariant.one_each c.loop-name.invariant.least c.in_ok-push.ensures.items c.least.ensures;
}
