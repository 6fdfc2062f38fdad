use Rattle.std.proofs.Common.{◌≡◌, ◌↔◌, IsTrue, slice_get, Some}
use Rattle.std.proofs.lemmas.Result.{IfOk-weaker}
use Rattle.ae_core.specs.declared.problems.Item.TheVariants.{Goal}
use Rattle.ae_reach.specs.Reach.{IsInReach}
use Rattle.ae_reach_checks.specs.Decisions.{AreReached}
use Rattle.ae_reach_checks.proofs.ReachedGoals.{decided}
use Rattle.ae_reach_checks.proofs.goals.is_in_reach.Goals as goal

pub returns-in-Goal : goal.returns-in-Goal
returns-in-Goal c =
    let p = c.args.problem.now in
    let g = c.args.goal in
    let f = c.in-Goal.body in
    let e = c.in-Some.ensures in
    let i = c.in-Goal.is in
    let s = c.as_slice.ensures in
    let at : slice_get p.items g ≡ Some (Goal c.in-Goal.name c.in-Goal.rigid f) = cc in
    let d = decided p g c.requires.lawful c.in-Goal.name c.in-Goal.rigid f at in
    IfOk-weaker c.is_all_in_reach.result (λ b. IsTrue b ↔ AreReached p g f) (λ b. IsTrue b ↔ IsInReach p g)
    (λ b h. (λ t. d.0 (h.0 t), λ r. h.1 (d.1 r)))
    c.is_all_in_reach.ensures
