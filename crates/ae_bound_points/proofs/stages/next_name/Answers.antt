use Rattle.std.specs.Prelude.{◌<◌, Option, Some, IfSome}
use Rattle.std.proofs.Common.{sym, ap, ◌∙◌, subst}
use Rattle.std.proofs.lemmas.Option.{slice_get-get_or}
use Rattle.ae_num.specs.declared.forms.Part.{Part}
use Rattle.ae_ineq.specs.Inner.Sets.{name_reach}
use Rattle.ae_bound_points.specs.Inner.Stages.{IsBeneath}
use Rattle.ae_bound_points.proofs.Staging.{next_none, next_step, next_all}
use Rattle.ae_bound_points.proofs.stages.next_name.Goals as goal

pub loop-place-init : goal.loop-place-init
loop-place-init c = next_none c.args.rows.now c.args.bound

pub loop-place-preserved : goal.loop-place-preserved
loop-place-preserved c =
    let rows = c.args.rows.now in
    let i = c.loop-place.place in
    let r = c.index-rows-place.result in
    let new = c.greater_below-found.result in
    let e = c.greater_below-found.ensures in
    next_step rows i r c.args.bound c.loop-place.found new (slice_get-get_or rows i r c.loop-place-test.true ∙ ap Some (sym c.index-rows-place.is)) c.loop-place.invariant e.below e.more
    (subst (λ (o : Option Part). IfSome o (λ p. IsBeneath c.args.bound p.key → p.key < name_reach new)) c.last_of.ensures e.part)

pub returns : goal.returns
returns c = next_all c.args.rows.now c.loop-place.place c.args.bound c.loop-place.found c.loop-place-test.false c.loop-place.invariant
