use Rattle.std.specs.Prelude.{ℕ, not, ◌≡◌, List, ◌∷◌, Err}
use Rattle.std.proofs.Common.{sym, ap, subst}
use Rattle.std.proofs.lemmas.Result.{err_from_is_err_and}
use Rattle.ae_journal.specs.Standing.{Setting}
use Rattle.ae_journal.specs.declared.lines.Line.{Line}
use Rattle.ae_num.specs.Forms.{IsNormal}
use Rattle.ae_theory.specs.Names.{terms_in}
use Rattle.ae_theory.specs.Noting.{IsBlockOf}
use Rattle.ae_theory.specs.declared.theory.Fail.TheVariants.{Number}
use Rattle.ae_agreed_rows.specs.Kept.{IsFormOf}
use Rattle.ae_inequalities.specs.Rows.{IsRightRow}
use Rattle.ae_inequalities.specs.declared.rows.Row.{Row}
use Rattle.ae_state.specs.Names.{assumed_in}
use Rattle.ae_literal_rows.specs.Beside.{IsBeside}
use Rattle.ae_literal_rows.proofs.Numbers.{shown_now, number_is_at, name_below, numbers_at, right_row, difference_at}
use Rattle.ae_literal_rows.proofs.Values.{written_is, form_is, opaque_parts}
use Rattle.ae_literal_rows.proofs.Widths.{width_is}
use Rattle.ae_literal_rows.proofs.rows.row_between.Goals as goal

pub number_of-above-requires : goal.number_of-above-requires
number_of-above-requires c =
    let w = c.requires.numbers in
    record { number = shown_now c.args.state.now c.args.store.now c.requires.taken c.entries_of_all_names_fit.ensures w.0 c.args.upper w.1 c.args.system.now c.requires.system }

pub number_of-below-requires : goal.number_of-below-requires
number_of-below-requires c =
    let w = c.requires.numbers in
    record { number = shown_now c.args.state.now c.args.store.now c.requires.taken c.entries_of_all_names_fit.ensures w.0 c.args.lower w.2 c.args.system.now c.requires.system }

pub difference-requires-clause-upper : goal.difference-requires-clause-upper
difference-requires-clause-upper c =
    let w = c.requires.numbers in
    let o = c.args.state.now in
    let e = number_is_at o c.args.store.now c.requires.taken c.entries_of_all_names_fit.ensures w.0 c.args.upper w.1 c.args.system.now c.requires.system c.number_of-above.result.now c.number_of-above.ensures in
    subst IsNormal (sym e) (written_is o c.args.store.now c.requires.taken c.entries_of_all_names_fit.ensures w.0 c.args.upper w.1).normal

pub difference-requires-clause-lower : goal.difference-requires-clause-lower
difference-requires-clause-lower c =
    let w = c.requires.numbers in
    let o = c.args.state.now in
    let e = number_is_at o c.args.store.now c.requires.taken c.entries_of_all_names_fit.ensures w.0 c.args.lower w.2 c.args.system.now c.requires.system c.number_of-below.result.now c.number_of-below.ensures in
    subst IsNormal (sym e) (written_is o c.args.store.now c.requires.taken c.entries_of_all_names_fit.ensures w.0 c.args.lower w.2).normal

pub node-requires : goal.node-requires
node-requires c =
    let w = c.requires.numbers in
    name_below c.args.state.now c.args.store.now c.requires.taken c.entries_of_all_names_fit.ensures w.0 c.args.upper w.1

pub grounds_of-requires-clause-taken : goal.grounds_of-requires-clause-taken
grounds_of-requires-clause-taken c = c.requires.taken

pub grounds_of-requires-clause-between : goal.grounds_of-requires-clause-between
grounds_of-requires-clause-between c = c.requires.between

pub grounds_of-requires-clause-upper : goal.grounds_of-requires-clause-upper
grounds_of-requires-clause-upper c =
    let w = c.requires.numbers in
    let s = c.args.store.now in
    (numbers_at s.signature (terms_in s) w.0 c.args.upper c.args.lower w.1 w.2 c.node.result.now.sort c.node.ensures.sort c.is_real-real.result c.is_real-real.ensures).0

pub grounds_of-requires-clause-lower : goal.grounds_of-requires-clause-lower
grounds_of-requires-clause-lower c =
    let w = c.requires.numbers in
    let s = c.args.store.now in
    (numbers_at s.signature (terms_in s) w.0 c.args.upper c.args.lower w.1 w.2 c.node.result.now.sort c.node.ensures.sort c.is_real-real.result c.is_real-real.ensures).1

pub grounds_of-requires-clause-upper_value : goal.grounds_of-requires-clause-upper_value
grounds_of-requires-clause-upper_value c =
    let w = c.requires.numbers in
    number_is_at c.args.state.now c.args.store.now c.requires.taken c.entries_of_all_names_fit.ensures w.0 c.args.upper w.1 c.args.system.now c.requires.system c.number_of-above.result.now c.number_of-above.ensures

pub grounds_of-requires-clause-lower_value : goal.grounds_of-requires-clause-lower_value
grounds_of-requires-clause-lower_value c =
    let w = c.requires.numbers in
    number_is_at c.args.state.now c.args.store.now c.requires.taken c.entries_of_all_names_fit.ensures w.0 c.args.lower w.2 c.args.system.now c.requires.system c.number_of-below.result.now c.number_of-below.ensures

pub grounds_of-requires-clause-assumed : goal.grounds_of-requires-clause-assumed
grounds_of-requires-clause-assumed c = c.requires.assumed

pub grounds_of-requires-clause-normal : goal.grounds_of-requires-clause-normal
grounds_of-requires-clause-normal c = c.in_ok-form.ensures.normal

pub grounds_of-requires-clause-difference : goal.grounds_of-requires-clause-difference
grounds_of-requires-clause-difference c = c.in_ok-form.ensures.means

pub grounds_of-requires-clause-within : goal.grounds_of-requires-clause-within
grounds_of-requires-clause-within c = c.in_ok-form.ensures.within

pub returns-in_err-form-clause-number : goal.returns-in_err-form-clause-number
returns-in_err-form-clause-number c wide e x js b may =
    let w = c.requires.numbers in
    let o = c.args.state.now in
    let s = c.args.store.now in
    let law = c.entries_of_all_names_fit.ensures in
    let p = err_from_is_err_and c.from_residual.result c.from_residual.ensures.1 in
    let failed : c.in_err-form.field-0.0 ≡ Number wide = (let a = p.1 in let d = p.2 in cc) in
    let above = number_is_at o s c.requires.taken law w.0 c.args.upper w.1 c.args.system.now c.requires.system c.number_of-above.result.now c.number_of-above.ensures in
    let below = number_is_at o s c.requires.taken law w.0 c.args.lower w.2 c.args.system.now c.requires.system c.number_of-below.result.now c.number_of-below.ensures in
    width_is o s c.requires.taken law w.0 c.args.upper c.args.lower w.1 w.2 c.inequality_widths_are_licensed.ensures x js b c.args.lit.now c.args.strict c.requires.between may
    c.number_of-above.result.now c.number_of-below.result.now above below wide (c.in_err-form.ensures.number wide (ap Err failed))

pub returns-clause-form : goal.returns-clause-form
returns-clause-form c =
    let w = c.requires.numbers in
    let o = c.args.state.now in
    let s = c.args.store.now in
    let law = c.entries_of_all_names_fit.ensures in
    let r = c.is_real-real.result in
    let n = numbers_at s.signature (terms_in s) w.0 c.args.upper c.args.lower w.1 w.2 c.node.result.now.sort c.node.ensures.sort r c.is_real-real.ensures in
    let above = number_is_at o s c.requires.taken law w.0 c.args.upper w.1 c.args.system.now c.requires.system c.number_of-above.result.now c.number_of-above.ensures in
    let below = number_is_at o s c.requires.taken law w.0 c.args.lower w.2 c.args.system.now c.requires.system c.number_of-below.result.now c.number_of-below.ensures in
    subst (λ (y : Row). (x : Setting) (js : List Line) → IsBeside x js s o → IsFormOf x js c.args.lit.now y.lin y.strict y.integral) (sym c.row_of.ensures)
    (λ x js b. form_is o s c.requires.taken law r c.args.upper c.args.lower n.0 n.1 c.in_ok-form.form c.in_ok-form.ensures.normal (difference_at _ _ _ _ _ above below c.in_ok-form.ensures.means) x js b
    c.args.lit.now c.args.strict (not c.in_ok-why.why.given.real) (ap not c.in_ok-why.ensures.real) c.requires.between)

pub returns-clause-normal : goal.returns-clause-normal
returns-clause-normal c = subst (λ (y : Row). IsNormal y.lin) (sym c.row_of.ensures) c.in_ok-form.ensures.normal

pub returns-clause-right : goal.returns-clause-right
returns-clause-right c =
    let w = c.requires.numbers in
    let o = c.args.state.now in
    let s = c.args.store.now in
    let law = c.entries_of_all_names_fit.ensures in
    let r = c.is_real-real.result in
    let n = numbers_at s.signature (terms_in s) w.0 c.args.upper c.args.lower w.1 w.2 c.node.result.now.sort c.node.ensures.sort r c.is_real-real.ensures in
    let above = number_is_at o s c.requires.taken law w.0 c.args.upper w.1 c.args.system.now c.requires.system c.number_of-above.result.now c.number_of-above.ensures in
    let below = number_is_at o s c.requires.taken law w.0 c.args.lower w.2 c.args.system.now c.requires.system c.number_of-below.result.now c.number_of-below.ensures in
    subst (IsRightRow s.signature (terms_in s)) (sym c.row_of.ensures)
    (right_row s.signature (terms_in s) r c.in_ok-form.form c.args.strict c.in_ok-why.why.given c.in_ok-why.why.tags c.in_ok-why.ensures.given c.in_ok-why.ensures.real
    (opaque_parts o s c.requires.taken law r c.args.upper c.args.lower n.0 n.1 c.in_ok-form.form c.in_ok-form.ensures.normal (difference_at _ _ _ _ _ above below c.in_ok-form.ensures.means) c.requires.opaque))

pub returns-clause-block : goal.returns-clause-block
returns-clause-block c = subst (λ (y : Row). IsBlockOf (assumed_in c.args.state.now) y.from.deriv.hyps y.from.tags) (sym c.row_of.ensures) c.in_ok-why.ensures.block

pub returns-clause-first : goal.returns-clause-first
returns-clause-first c = subst (λ (y : Row). (more : List ℕ) × (y.from.tags ≡ c.args.tag ∷ more)) (sym c.row_of.ensures) c.in_ok-why.ensures.first
