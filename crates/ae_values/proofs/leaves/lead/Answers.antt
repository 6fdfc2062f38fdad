use Rattle.std.specs.Prelude.{[], ◌∷◌}
use Rattle.std.proofs.lemmas.Result.{on_ok_weaker}
use Rattle.ae_store.specs.Shapes.{shapes}
use Rattle.ae_store.specs.Terms.{terms}
use Rattle.ae_values.proofs.LeafPuts.{led_by}
use Rattle.ae_values.proofs.leaves.lead.Goals as goal

pub returns-clause-led : goal.returns-clause-led
returns-clause-led c =
    let follower = c.args.follower in
    on_ok_weaker c.put_just.result
    (led_by c.args.store.now.signature (terms (shapes c.args.store.now.nodes)) c.args.justs.now c.state_chained.new.justs c.args.leaf follower.name c.args.values.now c.put_leaf.new.self c.put_just.new.self c.in_ok-step.step
    (follower.step ∷ c.args.just ∷ []) c.in_ok-step.ensures.added c.state_chained.ensures.fits c.in_ok-put_leaf.ensures.ok c.put_just.ensures.others) c.put_just.ensures.ok
