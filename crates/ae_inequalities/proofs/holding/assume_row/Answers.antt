use Rattle.std.specs.Prelude.{ℕ, length}
use Rattle.std.proofs.Common.{rules, refl, sym, ap, subst, ◌∙◌}
use Rattle.std.proofs.lemmas.Int.{to_z-of_z}
use mir.Syntax.{w128}
use Rattle.ae_bounds.specs.Rounding.{IsAssumed}
use Rattle.ae_inequalities.specs.Rows.{given_by}
use Rattle.ae_inequalities.specs.Held.{AreOfTags, Fits}
use Rattle.ae_inequalities.proofs.Sources.{given_back, fits_added, tags_added, same_length, state_same}
use Rattle.ae_inequalities.proofs.holding.assume_row.Goals as goal

pub returns-in_err-push_source-clause-of_tags : goal.returns-in_err-push_source-clause-of_tags
returns-in_err-push_source-clause-of_tags c = λ assumed all one.
    let k = c.in_err-push_source.ensures.kept in
    state_same (AreOfTags assumed) c.args.rows.now c.args.rows.now c.args.given.now c.push_source.new.given c.args.tags.now c.push_source.new.tags refl k.0 k.1 all

pub returns-in_err-push_source-clause-fits : goal.returns-in_err-push_source-clause-fits
returns-in_err-push_source-clause-fits c =
    let k = c.in_err-push_source.ensures.kept in
    state_same (Fits c.args.store.now) c.args.rows.now c.args.rows.now c.args.given.now c.push_source.new.given c.args.tags.now c.push_source.new.tags refl k.0 k.1 c.requires.fits

pub returns-in_err-push_source-clause-same : goal.returns-in_err-push_source-clause-same
returns-in_err-push_source-clause-same c = let k = c.in_err-push_source.ensures.kept in ap length k.1 ∙ c.requires.same ∙ sym (ap length k.0)

pub returns-in-Ok-clause-added : goal.returns-in-Ok-clause-added
returns-in-Ok-clause-added c =
    let k = c.in-Ok.ensures.added in
    record {
      kept = k.0;
      marked = k.3;
      assumed = subst (λ (n : ℕ). IsAssumed c.args.row.lin c.args.row.strict c.args.row.integral n k.0) c.len-number.ensures k.2;
      rows = k.1;
      given = given_back c.args.row _ c.args.given.now c.push_source.new.given (to_z-of_z w128 c.args.row.multiple (search rules)) c.in_ok-push_source.ensures.given;
      tags = c.in_ok-push_source.ensures.tags;
    }

pub returns-in-Ok-clause-of_tags : goal.returns-in-Ok-clause-of_tags
returns-in-Ok-clause-of_tags c = λ assumed all one.
    tags_added assumed c.args.given.now c.push_source.new.given c.args.tags.now c.push_source.new.tags (given_by c.args.row) c.args.row.from.tags
    (given_back c.args.row _ c.args.given.now c.push_source.new.given (to_z-of_z w128 c.args.row.multiple (search rules)) c.in_ok-push_source.ensures.given) c.in_ok-push_source.ensures.tags
    c.requires.same all one

pub returns-in-Ok-clause-fits : goal.returns-in-Ok-clause-fits
returns-in-Ok-clause-fits c =
    let k = c.in-Ok.ensures.added in
    fits_added c.args.store.now (record { rows = c.args.rows.now; given = c.args.given.now; tags = c.args.tags.now }) c.args.row c.requires.fits c.requires.right k.0
    (subst (λ (n : ℕ). IsAssumed c.args.row.lin c.args.row.strict c.args.row.integral n k.0) c.len-number.ensures k.2) c.assume.new.self c.push_source.new.given c.push_source.new.tags k.1
    (given_back c.args.row _ c.args.given.now c.push_source.new.given (to_z-of_z w128 c.args.row.multiple (search rules)) c.in_ok-push_source.ensures.given)

pub returns-in-Ok-clause-same : goal.returns-in-Ok-clause-same
returns-in-Ok-clause-same c =
    same_length c.args.given.now c.push_source.new.given c.args.tags.now c.push_source.new.tags (given_by c.args.row) c.args.row.from.tags
    (given_back c.args.row _ c.args.given.now c.push_source.new.given (to_z-of_z w128 c.args.row.multiple (search rules)) c.in_ok-push_source.ensures.given) c.in_ok-push_source.ensures.tags c.requires.same

pub returns-in-Err-clause-kept : goal.returns-in-Err-clause-kept
returns-in-Err-clause-kept c = (
  c.in-Err.ensures.kept,
  c.take_given.ensures c.args.given.now (given_by c.args.row) (given_back c.args.row _ c.args.given.now c.push_source.new.given (to_z-of_z w128 c.args.row.multiple (search rules)) c.in_ok-push_source.ensures.given),
  c.take_tags.ensures c.args.tags.now c.args.row.from.tags c.in_ok-push_source.ensures.tags,
)

pub returns-in-Err-clause-of_tags : goal.returns-in-Err-clause-of_tags
returns-in-Err-clause-of_tags c = λ assumed all one.
    state_same (AreOfTags assumed) c.args.rows.now c.assume.new.self c.args.given.now c.take_given.new.given c.args.tags.now c.take_tags.new.tags c.in-Err.ensures.kept
    (c.take_given.ensures c.args.given.now (given_by c.args.row) (given_back c.args.row _ c.args.given.now c.push_source.new.given (to_z-of_z w128 c.args.row.multiple (search rules)) c.in_ok-push_source.ensures.given))
    (c.take_tags.ensures c.args.tags.now c.args.row.from.tags c.in_ok-push_source.ensures.tags) all

pub returns-in-Err-clause-fits : goal.returns-in-Err-clause-fits
returns-in-Err-clause-fits c =
    state_same (Fits c.args.store.now) c.args.rows.now c.assume.new.self c.args.given.now c.take_given.new.given c.args.tags.now c.take_tags.new.tags c.in-Err.ensures.kept
    (c.take_given.ensures c.args.given.now (given_by c.args.row) (given_back c.args.row _ c.args.given.now c.push_source.new.given (to_z-of_z w128 c.args.row.multiple (search rules)) c.in_ok-push_source.ensures.given))
    (c.take_tags.ensures c.args.tags.now c.args.row.from.tags c.in_ok-push_source.ensures.tags) c.requires.fits

pub returns-in-Err-clause-same : goal.returns-in-Err-clause-same
returns-in-Err-clause-same c =
    ap length (c.take_tags.ensures c.args.tags.now c.args.row.from.tags c.in_ok-push_source.ensures.tags) ∙ c.requires.same
    ∙ sym (ap length (c.take_given.ensures c.args.given.now (given_by c.args.row) (given_back c.args.row _ c.args.given.now c.push_source.new.given (to_z-of_z w128 c.args.row.multiple (search rules)) c.in_ok-push_source.ensures.given)))
