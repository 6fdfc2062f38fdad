use Rattle.std.specs.Prelude.{[], ◌∷◌}
use Rattle.std.proofs.Common.{sym}
use Rattle.std.proofs.lemmas.Result.{on_ok_weaker}
use Rattle.ae_store.specs.Shapes.{shapes}
use Rattle.ae_store.specs.Terms.{terms}
use Rattle.ae_values.proofs.Restating.{restated_by}
use Rattle.ae_values.proofs.numbers.restate.Goals as goal

pub returns-clause-done : goal.returns-clause-done
returns-clause-done c =
    let change = c.args.change in
    on_ok_weaker c.put_just.result
    (restated_by c.args.store.now.signature (terms (shapes c.args.store.now.nodes)) c.args.justs.now c.state_put.new.justs c.args.real c.args.put.now.name c.args.put.now.value.now c.args.values.now c.put_just.new.self change
    c.in-Some.row.now c.in_ok-step.step (change.before.step ∷ c.args.put.now.step ∷ []) (sym c.in-Some.ensures.row) c.requires.change c.in_ok-step.ensures.added c.state_put.ensures.fits c.put_just.ensures.others) c.put_just.ensures.ok
