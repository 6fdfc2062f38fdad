use Rattle.std.proofs.Common.{rules, arith, ◌≡◌, ◌-◌, ◌<◌, ◌++◌, ◌∙◌, sym, ap, drop, length, slice_get, Some}
use Rattle.std.proofs.lemmas.Option.{slice_get-get_or}
use Rattle.ae_journal.specs.Values.{settled, scaled}
use Rattle.ae_naturals.specs.Fractions.{value_of}
use Rattle.ae_constants.specs.Forms.{multiples}
use Rattle.ae_constants.proofs.EnterLaws.{none_left, settled_stays, settled_down}
use Rattle.ae_constants.proofs.forms.with_multiple.Goals as goal

pub loop-place-init : goal.loop-place-init
loop-place-init c = record {
  within = omega arith;
  parts =
      sym (ap (λ ps. settled (ps ++ multiples c.args.sum.parts.items)) (none_left (value_of c.args.by.now) c.as_slice-added.result.now)
      ∙ settled_stays (multiples c.args.sum.parts.items) c.requires);
}

pub loop-place-preserved : goal.loop-place-preserved
loop-place-preserved c =
    let some : 0 < c.loop-place.place = search rules in
    let within : c.loop-place.place - 1 < length c.as_slice-added.result.now = omega (arith, c.loop-place.invariant.within) in
    let at : slice_get c.as_slice-added.result.now (c.loop-place.place - 1) ≡ Some c.index-added-place.result =
    slice_get-get_or c.as_slice-added.result.now (c.loop-place.place - 1) _ within ∙ ap Some (sym c.index-added-place.is) in
    record {
      within = omega (arith, c.loop-place.invariant.within);
      parts =
          settled_down (value_of c.args.by.now) c.as_slice-added.result.now (multiples c.args.sum.parts.items) c.loop-place.place c.index-added-place.result
          (multiples c.enter.new.parts.items) (multiples c.loop-place.parts.items) (value_of c.in_ok-factor.factor) some at c.in_ok-factor.ensures c.loop-place.invariant.parts c.in_ok-enter.ensures;
    }

pub returns-clause-parts : goal.returns-clause-parts
returns-clause-parts c =
    let last : c.loop-place.place ≡ 0 = omega (arith, c.loop-place-test.false) in
    c.loop-place.invariant.parts
    ∙ (λ j. settled (drop (last j) (scaled (value_of c.args.by.now) (multiples (c.as_slice-added.ensures.value j))) ++ multiples c.args.sum.parts.items))
