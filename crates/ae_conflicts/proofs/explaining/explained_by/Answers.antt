use Rattle.std.proofs.Common.{sym, subst}
use Rattle.std.proofs.lemmas.Option.{slice_get_within}
use Rattle.std.proofs.lemmas.Result.{IfOk-weaker}
use Rattle.ae_store.specs.Shapes.{shapes}
use Rattle.ae_store.specs.Terms.{terms}
use Rattle.ae_pmap.specs.Forest.{present}
use Rattle.ae_conflicts.specs.Conflicting.{AreOpposed}
use Rattle.ae_conflicts.proofs.explaining.explained_by.Goals as goal

pub denied-requires-clause-own : goal.denied-requires-clause-own
denied-requires-clause-own c = rw c.in-Differ.is at c.requires.own

pub opposed-requires-clause-own : goal.opposed-requires-clause-own
opposed-requires-clause-own c =
    subst (AreOpposed c.args.store.now.signature (terms (shapes c.args.store.now.nodes)) c.args.justs.now (present c.args.assumed.now) c.in-Opposed.positive c.in-Opposed.negative) (sym c.as_slice.ensures)
    (rw c.in-Opposed.is at c.requires.own)

pub mixed-requires-clause-step : goal.mixed-requires-clause-step
mixed-requires-clause-step c = let own = rw c.in-Mixed.is at c.requires.own in slice_get_within c.args.justs.now c.in-Mixed.step (own.says).step (own.says).is

pub constant-requires-clause-step : goal.constant-requires-clause-step
constant-requires-clause-step c = let own = rw c.in-Constant.is at c.requires.own in slice_get_within c.args.justs.now c.in-Constant.step (own.says).step (own.says).is

pub unsolvable-requires-clause-step : goal.unsolvable-requires-clause-step
unsolvable-requires-clause-step c = let own = rw c.in-Unsolvable.is at c.requires.own in slice_get_within c.args.justs.now c.in-Unsolvable.step (own.says).step (own.says).is

pub returns-in-Mixed : goal.returns-in-Mixed
returns-in-Mixed c = IfOk-weaker c.mixed.result _ _ (λ e h. h (present c.args.assumed.now) (rw c.in-Mixed.is at c.requires.own)) c.mixed.ensures

pub returns-in-Constant : goal.returns-in-Constant
returns-in-Constant c = IfOk-weaker c.constant.result _ _ (λ e h. h (present c.args.assumed.now) (rw c.in-Constant.is at c.requires.own)) c.constant.ensures

pub returns-in-Unsolvable : goal.returns-in-Unsolvable
returns-in-Unsolvable c = IfOk-weaker c.unsolvable.result _ _ (λ e h. h (present c.args.assumed.now) (rw c.in-Unsolvable.is at c.requires.own)) c.unsolvable.ensures
