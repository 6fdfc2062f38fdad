use Rattle.std.specs.Prelude.{◌≡◌, ◌-◌, List, Some, None, length, slice_get, option_copied}
use Rattle.std.proofs.Common.{sym, ap, ◌∙◌, subst}
use Rattle.ae_base.proofs.Options.{never_some}
use Rattle.ae_bounds.specs.declared.rows.Row.{Row}
use Rattle.ae_bounds.proofs.Found.{last_there, last_refuted, last_possible}
use Rattle.ae_bounds.proofs.finding.ends_refuted.Goals as goal

pub returns-in-Some-clause-yes : goal.returns-in-Some-clause-yes
returns-in-Some-clause-yes c = λ e.
    let at : slice_get c.args.rows.now (length c.args.rows.now - 1) ≡ Some c.in-Some.row.now =
    subst (λ (rs : List Row). slice_get rs (length rs - 1) ≡ Some c.in-Some.row.now) c.as_slice.ensures (sym c.last.ensures.value ∙ ap (option_copied {T = Row}) c.in-Some.is) in
    last_refuted c.args.rows.now c.requires.normal c.in-Some.row.now at (c.is_refuted.ensures.yes e)

pub returns-in-Some-clause-no : goal.returns-in-Some-clause-no
returns-in-Some-clause-no c = λ e.
    let at : slice_get c.args.rows.now (length c.args.rows.now - 1) ≡ Some c.in-Some.row.now =
    subst (λ (rs : List Row). slice_get rs (length rs - 1) ≡ Some c.in-Some.row.now) c.as_slice.ensures (sym c.last.ensures.value ∙ ap (option_copied {T = Row}) c.in-Some.is) in
    last_possible c.args.rows.now c.requires.normal c.in-Some.row.now at (c.is_refuted.ensures.no e)

pub returns-in-None-clause-no : goal.returns-in-None-clause-no
returns-in-None-clause-no c = λ e front row same h.
    never_some row (sym (subst (λ (rs : List Row). slice_get rs (length rs - 1) ≡ None) c.as_slice.ensures (sym c.last.ensures.value ∙ ap (option_copied {T = Row}) c.in-None.is)) ∙ last_there c.args.rows.now front row same)
