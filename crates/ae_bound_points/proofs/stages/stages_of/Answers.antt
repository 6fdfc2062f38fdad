use Rattle.std.specs.Prelude.{ℕ, suc, ◌≡◌, ◌<◌, Option, Some, None}
use Rattle.std.proofs.Common.{arith, ap, subst}
use Rattle.ae_ineq.specs.Inner.Sets.{name_reach}
use Rattle.ae_bound_points.specs.Inner.Stages.{AreStaged}
use Rattle.ae_bound_points.proofs.Staging.{reach_below, staged_none, staged_more, most_of}
use Rattle.ae_bound_points.proofs.stages.stages_of.Goals as goal

pub names-init : goal.names-init
names-init c =
    let n = c.next_name-next.ensures in
    staged_none c.args.rows.now (name_reach c.next_name-next.result) c.new-stages.result c.new-stages.ensures (λ r p m e. most_of c.args.rows.now None c.next_name-next.result n r p m e tt)

pub names-smaller : goal.names-smaller
names-smaller c =
    let was : name_reach c.names.next ≡ suc c.in-Some.name = ap name_reach c.in-Some.is in
    let less = reach_below c.next_name-next-in-Some.result c.in-Some.name c.next_name-next-in-Some.ensures.below in
    let h : name_reach c.next_name-next-in-Some.result < name_reach c.names.next = omega (arith, was, less) in
    h

pub names-preserved : goal.names-preserved
names-preserved c =
    let rows = c.args.rows.now in
    let name = c.in-Some.name in
    let next = c.next_name-next-in-Some.result in
    let n = c.next_name-next-in-Some.ensures in
    staged_more rows c.requires c.names.stages c.in_ok-stage.stage name (name_reach next) c.in_ok-stage.ensures
    (subst (λ (o : Option ℕ). AreStaged rows (name_reach o) c.names.stages) c.in-Some.is c.names.invariant) (reach_below next name n.below)
    (λ r p m e b. most_of rows (Some name) next n r p m e b) c.push.new.self c.in_ok-push.ensures.ok

pub returns : goal.returns
returns c = subst (λ (o : Option ℕ). AreStaged c.args.rows.now (name_reach o) c.names.stages) c.in_default.is c.names.invariant
