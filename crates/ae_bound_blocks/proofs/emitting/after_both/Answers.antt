use Rattle.std.proofs.Common.{rules, refl, sym, subst}
use Rattle.ae_num.specs.Limits.{FitsLimits}
use Rattle.ae_num.proofs.ReductionLaws.{read_back}
use Rattle.ae_store.specs.Shapes.{shapes}
use Rattle.ae_store.specs.Terms.{terms}
use Rattle.ae_bounds.specs.declared.rows.Unrounded.{Unrounded}
use Rattle.ae_bound_blocks.specs.Said.{kept}
use Rattle.ae_bound_blocks.proofs.Sorting.{parts_within}
use Rattle.ae_bound_blocks.proofs.Adding.{numbers_after, product_fits, times_exist, falling_fits, falling_is, rising_is, both_after}
use Rattle.ae_bound_blocks.proofs.emitting.after_both.Goals as goal

pub line_times-times-requires-clause-product : goal.line_times-times-requires-clause-product
line_times-times-requires-clause-product c = product_fits (kept c.args.first.now) (kept c.args.second.now) (record { lin = c.args.form.now; strict = c.args.strict }) c.requires.combined

pub line_times-times-requires-clause-divides : goal.line_times-times-requires-clause-divides
line_times-times-requires-clause-divides c = times_exist (kept c.args.first.now) (kept c.args.second.now) (record { lin = c.args.form.now; strict = c.args.strict }) c.requires.combined

pub two_parts-requires : goal.two_parts-requires
two_parts-requires c =
    let form : Unrounded = record { lin = c.args.form.now; strict = c.args.strict } in
    let h = falling_fits (kept c.args.first.now) (kept c.args.second.now) form c.requires.combined c.last_factor.result c.last_factor.ensures in
    record { falling = subst FitsLimits (sym (read_back c.last_factor.result h)) h }

pub row_line-requires : goal.row_line-requires
row_line-requires c =
    let sig = c.args.store.now.signature in
    let ts = terms (shapes c.args.store.now.nodes) in
    let form : Unrounded = record { lin = c.args.form.now; strict = c.args.strict } in
    record { within = parts_within sig ts c.args.real c.args.form.now.parts (numbers_after (kept c.args.first.now) (kept c.args.second.now) form c.requires.combined sig ts c.args.real c.requires.first.numbers c.requires.second.numbers) }

pub returns-clause-said : goal.returns-clause-said
returns-clause-said c =
    let first = kept c.args.first.now in
    let second = kept c.args.second.now in
    let form : Unrounded = record { lin = c.args.form.now; strict = c.args.strict } in
    both_after first second form c.requires.combined c.args.store.now.signature (terms (shapes c.args.store.now.nodes)) c.args.real c.args.deriv _ c.args.lower c.args.upper
    c.line_times-times.result c.last_factor-2.result c.last_factor.result c.line_times-times.ensures
    (rising_is first second form c.requires.combined c.last_factor-2.result c.last_factor-2.ensures)
    (falling_is first second form c.requires.combined c.last_factor.result c.last_factor.ensures)
    c.requires.first c.requires.second c.requires.allowed refl (search rules)
