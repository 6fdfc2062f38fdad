use Rattle.std.specs.Prelude.{◌≡◌, Some, slice_get}
use Rattle.std.proofs.Common.{refl, sym, ap, ◌∙◌}
use Rattle.std.proofs.lemmas.Option.{slice_get-get_or}
use Rattle.ae_num.specs.Forms.{IsNormal}
use Rattle.ae_base.proofs.AllOf.{all_at}
use Rattle.ae_bounds.specs.declared.rows.Row.{Row}
use Rattle.ae_bound_points.specs.Inner.Stages.{IsLowerPart, IsUpperPart}
use Rattle.ae_bound_points.proofs.Staging.{taken_none, taken_step, taken_all}
use Rattle.ae_bound_points.proofs.stages.stage_of.Goals as goal

pub loop-place-init : goal.loop-place-init
loop-place-init c = record {
  lower = taken_none (IsLowerPart c.args.name) c.args.rows.now c.new-lowers.result c.new-lowers.ensures;
  upper = taken_none (IsUpperPart c.args.name) c.args.rows.now c.new-uppers.result c.new-uppers.ensures;
}

pub add_lower-requires : goal.add_lower-requires
add_lower-requires c =
    let r = c.index-rows-place.result in
    all_at (λ (t : Row). IsNormal t.lin) c.args.rows.now c.loop-place.place r c.requires (slice_get-get_or c.args.rows.now c.loop-place.place r c.loop-place-test.true ∙ ap Some (sym c.index-rows-place.is))

pub add_upper-requires : goal.add_upper-requires
add_upper-requires c =
    let r = c.index-rows-place.result in
    all_at (λ (t : Row). IsNormal t.lin) c.args.rows.now c.loop-place.place r c.requires (slice_get-get_or c.args.rows.now c.loop-place.place r c.loop-place-test.true ∙ ap Some (sym c.index-rows-place.is))

pub loop-place-preserved : goal.loop-place-preserved
loop-place-preserved c =
    let rows = c.args.rows.now in
    let i = c.loop-place.place in
    let r = c.index-rows-place.result in
    let at : slice_get rows i ≡ Some r = slice_get-get_or rows i r c.loop-place-test.true ∙ ap Some (sym c.index-rows-place.is) in
    let normal : IsNormal r.lin = all_at (λ (t : Row). IsNormal t.lin) rows i r c.requires at in
    record {
      lower = taken_step (IsLowerPart c.args.name) rows i r c.loop-place.lowers at normal c.loop-place.invariant.lower c.add_lower.new.made c.in_ok-add_lower.ensures;
      upper = taken_step (IsUpperPart c.args.name) rows i r c.loop-place.uppers at normal c.loop-place.invariant.upper c.add_upper.new.made c.in_ok-add_upper.ensures;
    }

pub returns : goal.returns
returns c = record {
  named = refl;
  lower = taken_all (IsLowerPart c.args.name) c.args.rows.now c.loop-place.place c.loop-place.lowers c.loop-place-test.false c.loop-place.invariant.lower;
  upper = taken_all (IsUpperPart c.args.name) c.args.rows.now c.loop-place.place c.loop-place.uppers c.loop-place-test.false c.loop-place.invariant.upper;
}
