use Rattle.std.specs.Prelude.{◌≡◌, Err, length}
use Rattle.std.proofs.Common.{sym, ap, ◌∙◌, subst}
use Rattle.std.proofs.lemmas.Result.{err_from_is_err_and}
use Rattle.ae_theory.specs.declared.theory.Fail.TheVariants.{Number}
use Rattle.ae_inequalities.specs.Held.{Held}
use Rattle.ae_literal_rows.specs.Trails.{AreAdded}
use Rattle.ae_literal_rows.proofs.Telling.{all_kept, of_no_tags}
use Rattle.ae_literal_rows.proofs.trails.trail_rows.Goals as goal

pub more_rows-requires-clause-fits : goal.more_rows-requires-clause-fits
more_rows-requires-clause-fits c = c.requires.fits

pub more_rows-requires-clause-taken : goal.more_rows-requires-clause-taken
more_rows-requires-clause-taken c = c.requires.taken

pub more_rows-requires-clause-system : goal.more_rows-requires-clause-system
more_rows-requires-clause-system c = c.requires.system

pub more_rows-requires-clause-opaque : goal.more_rows-requires-clause-opaque
more_rows-requires-clause-opaque c = c.requires.opaque

pub more_rows-requires-clause-told : goal.more_rows-requires-clause-told
more_rows-requires-clause-told c = c.requires.told

pub more_rows-requires-clause-marks : goal.more_rows-requires-clause-marks
more_rows-requires-clause-marks c = c.requires.marks

pub more_rows-requires-clause-fit : goal.more_rows-requires-clause-fit
more_rows-requires-clause-fit c = c.new-rows.ensures.fits c.args.store.now

pub more_rows-requires-clause-even : goal.more_rows-requires-clause-even
more_rows-requires-clause-even c = ap (λ (b : Held). length b.tags) c.new-rows.ensures.empty ∙ sym (ap (λ (b : Held). length b.given) c.new-rows.ensures.empty)

pub returns-in_err-more_rows-clause-number : goal.returns-in_err-more_rows-clause-number
returns-in_err-more_rows-clause-number c wide e x js b may =
    let p = err_from_is_err_and c.from_residual.result c.from_residual.ensures.1 in
    let failed : c.in_err-more_rows.field-0.0 ≡ Number wide = (let u = p.1 in let v = p.2 in cc) in
    c.in_err-more_rows.ensures.number wide (ap Err failed) x js b may

pub returns-clause-kept : goal.returns-clause-kept
returns-clause-kept c x js b m =
    let t = c.args.trail.now in
    all_kept c.args.store.now c.args.state.now t c.args.marks.now c.more_rows.new.rows
    (subst (λ (old : Held). AreAdded c.args.store.now c.args.state.now t c.args.marks.now 0 (length t) old c.more_rows.new.rows) c.new-rows.ensures.empty c.in_ok-more_rows.ensures.added) x js b m

pub returns-clause-added : goal.returns-clause-added
returns-clause-added c =
    let t = c.args.trail.now in
    subst (λ (old : Held). AreAdded c.args.store.now c.args.state.now t c.args.marks.now 0 (length t) old c.more_rows.new.rows) c.new-rows.ensures.empty c.in_ok-more_rows.ensures.added

pub returns-clause-fits : goal.returns-clause-fits
returns-clause-fits c = c.more_rows.ensures.fits

pub returns-clause-of_tags : goal.returns-clause-of_tags
returns-clause-of_tags c = c.more_rows.ensures.of_tags (of_no_tags c.args.state.now c.new-rows.result c.new-rows.ensures.empty)

pub returns-clause-even : goal.returns-clause-even
returns-clause-even c = c.in_ok-more_rows.ensures.even
