use Rattle.std.specs.Prelude.{◌≡◌, Err}
use Rattle.std.proofs.Common.{ap}
use Rattle.std.proofs.lemmas.Result.{err_from_is_err_and}
use Rattle.ae_theory.specs.declared.theory.Fail.TheVariants.{Number}
use Rattle.ae_kept_rows.proofs.Going.{fits_so_far, tags_so_far, even_so_far, all_agree}
use Rattle.ae_kept_rows.proofs.solving.all_rows.Goals as goal

pub system-requires : goal.system-requires
system-requires c = record { fits = c.requires.fits }

pub more_rows-requires-clause-fits : goal.more_rows-requires-clause-fits
more_rows-requires-clause-fits c = c.requires.fits

pub more_rows-requires-clause-taken : goal.more_rows-requires-clause-taken
more_rows-requires-clause-taken c = c.requires.taken

pub more_rows-requires-clause-system : goal.more_rows-requires-clause-system
more_rows-requires-clause-system c = c.in_ok-system.ensures.system

pub more_rows-requires-clause-opaque : goal.more_rows-requires-clause-opaque
more_rows-requires-clause-opaque c = c.requires.opaque

pub more_rows-requires-clause-told : goal.more_rows-requires-clause-told
more_rows-requires-clause-told c = c.requires.told

pub more_rows-requires-clause-marks : goal.more_rows-requires-clause-marks
more_rows-requires-clause-marks c = c.requires.marks

pub more_rows-requires-clause-fit : goal.more_rows-requires-clause-fit
more_rows-requires-clause-fit c = fits_so_far c.args.store.now c.args.trail.now c.args.lines c.args.kept c.rows_so_far-bounds.result c.requires.kept c.rows_so_far-bounds.ensures

pub more_rows-requires-clause-even : goal.more_rows-requires-clause-even
more_rows-requires-clause-even c = even_so_far c.args.store.now c.args.trail.now c.args.lines c.args.kept c.rows_so_far-bounds.result c.requires.kept c.rows_so_far-bounds.ensures

pub returns-in_err-more_rows-clause-number : goal.returns-in_err-more_rows-clause-number
returns-in_err-more_rows-clause-number c wide e x js b stand =
    let p = err_from_is_err_and c.from_residual-in_err-more_rows.result c.from_residual-in_err-more_rows.ensures.1 in
    let failed : c.in_err-more_rows.field-0.0 ≡ Number wide = (let u = p.1 in let v = p.2 in cc) in
    c.in_err-more_rows.ensures.number wide (ap Err failed) x js b stand.may

pub returns-clause-fits : goal.returns-clause-fits
returns-clause-fits c = c.more_rows.ensures.fits

pub returns-clause-tags : goal.returns-clause-tags
returns-clause-tags c =
    c.more_rows.ensures.of_tags
    (tags_so_far c.args.state.now c.args.store.now c.args.trail.now c.args.lines c.args.kept c.rows_so_far-bounds.result (c.requires.told).assumed c.requires.kept c.rows_so_far-bounds.ensures)

pub returns-clause-even : goal.returns-clause-even
returns-clause-even c = c.in_ok-more_rows.ensures.even

pub returns-clause-agreed : goal.returns-clause-agreed
returns-clause-agreed c x js long b =
    all_agree x js c.args.store.now c.args.state.now c.args.trail.now c.args.marks.now c.args.lines c.args.kept c.rows_so_far-bounds.result c.more_rows.new.rows long b c.rows_so_far-bounds.ensures c.in_ok-more_rows.ensures.added
