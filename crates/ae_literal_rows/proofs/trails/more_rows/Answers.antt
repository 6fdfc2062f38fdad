use Rattle.std.specs.Prelude.{ℕ, ◌<◌, ◌≡◌, false, Err}
use Rattle.std.proofs.Common.{arith, sym, ap, subst, get_or}
use Rattle.std.proofs.lemmas.Option.{slice_get-get_or}
use Rattle.std.proofs.lemmas.Result.{err_from_is_err_and}
use Rattle.ae_theory.specs.declared.theory.Fail.TheVariants.{Number}
use Rattle.ae_literal_rows.proofs.Adding.{none_added, more_added, added_to_end, still_even}
use Rattle.ae_literal_rows.proofs.Places.{there}
use Rattle.ae_literal_rows.proofs.Telling.{told_here}
use Rattle.ae_literal_rows.proofs.trails.more_rows.Goals as goal

pub loop-place-init : goal.loop-place-init
loop-place-init c = record {
  so_far = none_added c.args.store.now c.args.state.now c.args.trail.now c.args.marks.now c.args.from c.args.rows.now c.args.from (omega arith);
  fitting = c.requires.fit;
  tagged = λ h. h;
  even = c.requires.even;
}

pub add_row-requires-clause-fits : goal.add_row-requires-clause-fits
add_row-requires-clause-fits c = c.requires.fits

pub add_row-requires-clause-taken : goal.add_row-requires-clause-taken
add_row-requires-clause-taken c = c.requires.taken

pub add_row-requires-clause-system : goal.add_row-requires-clause-system
add_row-requires-clause-system c = c.requires.system

pub add_row-requires-clause-opaque : goal.add_row-requires-clause-opaque
add_row-requires-clause-opaque c = c.requires.opaque

pub add_row-requires-clause-named : goal.add_row-requires-clause-named
add_row-requires-clause-named c =
    let k = c.loop-place.place in
    let a = get_or c.args.trail.now k c.index-trail-place.result in
    (c.requires.told).named k a (slice_get-get_or c.args.trail.now k c.index-trail-place.result c.loop-place-test.true)

pub add_row-requires-clause-sorted : goal.add_row-requires-clause-sorted
add_row-requires-clause-sorted c =
    let k = c.loop-place.place in
    let a = get_or c.args.trail.now k c.index-trail-place.result in
    (c.requires.told).sorted k a (slice_get-get_or c.args.trail.now k c.index-trail-place.result c.loop-place-test.true)

pub add_row-requires-clause-assumed : goal.add_row-requires-clause-assumed
add_row-requires-clause-assumed c =
    let k = c.loop-place.place in
    let a = get_or c.args.trail.now k c.index-trail-place.result in
    told_here c.args.state.now c.args.store.now c.args.trail.now c.requires.told k a (slice_get-get_or c.args.trail.now k c.index-trail-place.result c.loop-place-test.true)

pub add_row-requires-clause-fit : goal.add_row-requires-clause-fit
add_row-requires-clause-fit c = c.loop-place.invariant.fitting

pub returns-in_err-add_row-clause-fits : goal.returns-in_err-add_row-clause-fits
returns-in_err-add_row-clause-fits c = c.add_row.ensures.fits

pub returns-in_err-add_row-clause-of_tags : goal.returns-in_err-add_row-clause-of_tags
returns-in_err-add_row-clause-of_tags c h = c.add_row.ensures.of_tags (c.loop-place.invariant.tagged h)

pub returns-in_err-add_row-clause-number : goal.returns-in_err-add_row-clause-number
returns-in_err-add_row-clause-number c wide e x js b may =
    let k = c.loop-place.place in
    let a = get_or c.args.trail.now k c.index-trail-place.result in
    let at = slice_get-get_or c.args.trail.now k c.index-trail-place.result c.loop-place-test.true in
    let p = err_from_is_err_and c.from_residual.result c.from_residual.ensures.1 in
    let failed : c.in_err-add_row.field-0.0 ≡ Number wide = (let u = p.1 in let v = p.2 in cc) in
    c.in_err-add_row.ensures.number wide (ap Err failed) x js b (may a.lit (there c.args.trail.now 0 k a (omega arith) at))

pub loop-place-preserved : goal.loop-place-preserved
loop-place-preserved c =
    let k = c.loop-place.place in
    let a = get_or c.args.trail.now k c.index-trail-place.result in
    let at = slice_get-get_or c.args.trail.now k c.index-trail-place.result c.loop-place-test.true in
    let i = c.loop-place.invariant in
    let s = c.args.store.now in
    let o = c.args.state.now in
    let counts = get_or c.args.marks.now k false in
    let mark = slice_get-get_or c.args.marks.now k false (subst (λ (n : ℕ). k < n) (sym c.requires.marks) c.loop-place-test.true) in
    record {
      so_far = more_added s o c.args.trail.now c.args.marks.now c.args.from c.args.rows.now k c.loop-place.rows i.so_far a counts at mark c.loop-place.auto.place c.add_row.new.rows c.in_ok-add_row.ensures.added i.even;
      fitting = c.add_row.ensures.fits;
      tagged = λ h. c.add_row.ensures.of_tags (i.tagged h);
      even = still_even s o a.lit k counts c.loop-place.rows c.add_row.new.rows c.in_ok-add_row.ensures.added i.even;
    }

pub returns-clause-added : goal.returns-clause-added
returns-clause-added c =
    added_to_end c.args.store.now c.args.state.now c.args.trail.now c.args.marks.now c.args.from c.args.rows.now c.loop-place.place c.loop-place.rows (let e = c.loop-place-test.false in omega (arith, e)) c.loop-place.invariant.so_far

pub returns-clause-fits : goal.returns-clause-fits
returns-clause-fits c = c.loop-place.invariant.fitting

pub returns-clause-of_tags : goal.returns-clause-of_tags
returns-clause-of_tags c = c.loop-place.invariant.tagged

pub returns-clause-even : goal.returns-clause-even
returns-clause-even c = c.loop-place.invariant.even
