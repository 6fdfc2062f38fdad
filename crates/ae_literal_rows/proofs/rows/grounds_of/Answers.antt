use Rattle.std.specs.Prelude.{ℕ, ◌∷◌, ◌++◌, ◌≡◌, List}
use Rattle.std.proofs.Common.{sym, ◌∙◌, subst}
use Rattle.std.proofs.Math.IntN.{*ℤ_comm}
use Rattle.ae_core.specs.declared.formulas.Lit.{Lit}
use Rattle.ae_num.specs.Limits.{FitsLimits}
use Rattle.ae_state.specs.Names.{assumed_in}
use Rattle.ae_theory.specs.Noting.{IsBlockOf}
use Rattle.ae_literal_rows.proofs.Values.{taken_within}
use Rattle.ae_literal_rows.proofs.Numbers.{told}
use Rattle.ae_literal_rows.proofs.Tags.{both_blocks}
use Rattle.ae_literal_rows.proofs.rows.grounds_of.Goals as goal

pub explain_value-requires-clause-fits : goal.explain_value-requires-clause-fits
explain_value-requires-clause-fits c = (c.requires.taken).fits

pub explain_value-requires-clause-within : goal.explain_value-requires-clause-within
explain_value-requires-clause-within c = taken_within c.args.state.now c.args.store.now c.requires.taken c.entries_of_all_names_fit.ensures c.args.real c.args.upper.name c.requires.upper

pub explain_value-requires-clause-number : goal.explain_value-requires-clause-number
explain_value-requires-clause-number c = (c.args.real, c.requires.upper)

pub explain_value-requires-2-clause-fits : goal.explain_value-requires-2-clause-fits
explain_value-requires-2-clause-fits c = (c.requires.taken).fits

pub explain_value-requires-2-clause-within : goal.explain_value-requires-2-clause-within
explain_value-requires-2-clause-within c = taken_within c.args.state.now c.args.store.now c.requires.taken c.entries_of_all_names_fit.ensures c.args.real c.args.lower.name c.requires.lower

pub explain_value-requires-2-clause-number : goal.explain_value-requires-2-clause-number
explain_value-requires-2-clause-number c = (c.args.real, c.requires.lower)

pub given_row-requires-clause-between : goal.given_row-requires-clause-between
given_row-requires-clause-between c = c.requires.between

pub given_row-requires-clause-upper : goal.given_row-requires-clause-upper
given_row-requires-clause-upper c =
    let d = c.in_ok-upper_why in
    told c.args.state.now c.args.store.now c.requires.taken c.entries_of_all_names_fit.ensures c.args.real c.args.upper.name c.requires.upper c.args.upper.value.now c.requires.upper_value d.upper_why.deriv
    d.ensures.allowed (d.ensures.stated c.args.real c.requires.upper) d.ensures.built

pub given_row-requires-clause-lower : goal.given_row-requires-clause-lower
given_row-requires-clause-lower c =
    let d = c.in_ok-lower_why in
    told c.args.state.now c.args.store.now c.requires.taken c.entries_of_all_names_fit.ensures c.args.real c.args.lower.name c.requires.lower c.args.lower.value.now c.requires.lower_value d.lower_why.deriv
    d.ensures.allowed (d.ensures.stated c.args.real c.requires.lower) d.ensures.built

pub given_row-requires-clause-normal : goal.given_row-requires-clause-normal
given_row-requires-clause-normal c = c.requires.normal

pub given_row-requires-clause-difference : goal.given_row-requires-clause-difference
given_row-requires-clause-difference c = c.requires.difference

pub given_row-requires-clause-within : goal.given_row-requires-clause-within
given_row-requires-clause-within c = subst FitsLimits (*ℤ_comm c.args.upper.value.now.den c.args.lower.value.now.den) c.requires.within

pub returns-clause-given : goal.returns-clause-given
returns-clause-given c = c.in_ok-given.ensures.given

pub returns-clause-real : goal.returns-clause-real
returns-clause-real c = c.in_ok-given.ensures.real

pub returns-clause-block : goal.returns-clause-block
returns-clause-block c =
    let up = c.in_ok-upper_why.upper_why in
    let low = c.in_ok-lower_why.lower_why in
    let tags : c.in_ok-tags.tags ≡ c.args.tag ∷ low.tags ++ up.tags = c.in_ok-tags.ensures ∙ (λ i. c.args.tag ∷ c.as_slice.ensures i ++ c.as_slice-2.ensures i) in
    subst (λ (z : List Lit × List ℕ). IsBlockOf (assumed_in c.args.state.now) z.0 z.1) (λ i. (sym c.in_ok-given.ensures.hyps i, sym tags i))
    (c.requires.assumed, both_blocks (assumed_in c.args.state.now) low.deriv.hyps low.tags up.deriv.hyps up.tags c.in_ok-lower_why.ensures.tags c.in_ok-upper_why.ensures.tags)

pub returns-clause-first : goal.returns-clause-first
returns-clause-first c = (c.as_slice.result.now ++ c.as_slice-2.result.now, c.in_ok-tags.ensures)
