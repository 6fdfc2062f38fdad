use Rattle.std.specs.Prelude.{◌≡◌, List, Err, slice_get}
use Rattle.std.proofs.Common.{sym, ap, ◌∙◌, subst}
use Rattle.std.proofs.lemmas.Result.{err_from_is_err_and}
use Rattle.ae_core.specs.declared.terms.Term.{Term}
use Rattle.ae_store.specs.Terms.{HasOneName}
use Rattle.ae_theory.specs.Names.{terms_in}
use Rattle.ae_theory.specs.declared.theory.Fail.TheVariants.{Number}
use Rattle.ae_literal_rows.proofs.Sides.{sides_named, sides_sorted}
use Rattle.ae_literal_rows.proofs.SideNames.{names_are, name_there, number_names}
use Rattle.ae_literal_rows.proofs.literals.literal_row.Goals as goal

pub name_in-upper-requires-clause-apart : goal.name_in-upper-requires-clause-apart
name_in-upper-requires-clause-apart c =
    subst HasOneName (sym (c.as_slice-names.ensures ∙ names_are c.args.state.now c.args.store.now c.args.system.now c.requires.system c.requires.taken)) c.len-names.ensures.store.sound.one_name

pub name_in-upper-requires-clause-there : goal.name_in-upper-requires-clause-there
name_in-upper-requires-clause-there c =
    let up = c.in-Some.sides.upper.now in
    let low = c.in-Some.sides.lower.now in
    let named = sides_named c.args.lit.now up low c.in-Some.sides.strict c.in-Some.ensures.some c.args.store.now c.requires.named in
    name_there c.as_slice-names.result.now (terms_in c.args.store.now) up (c.as_slice-names.ensures ∙ names_are c.args.state.now c.args.store.now c.args.system.now c.requires.system c.requires.taken) named.0

pub name_in-lower-requires-clause-apart : goal.name_in-lower-requires-clause-apart
name_in-lower-requires-clause-apart c =
    subst HasOneName (sym (c.as_slice-names.ensures ∙ names_are c.args.state.now c.args.store.now c.args.system.now c.requires.system c.requires.taken)) c.len-names.ensures.store.sound.one_name

pub name_in-lower-requires-clause-there : goal.name_in-lower-requires-clause-there
name_in-lower-requires-clause-there c =
    let up = c.in-Some.sides.upper.now in
    let low = c.in-Some.sides.lower.now in
    let named = sides_named c.args.lit.now up low c.in-Some.sides.strict c.in-Some.ensures.some c.args.store.now c.requires.named in
    name_there c.as_slice-names.result.now (terms_in c.args.store.now) low (c.as_slice-names.ensures ∙ names_are c.args.state.now c.args.store.now c.args.system.now c.requires.system c.requires.taken) named.1

pub row_between-requires-clause-taken : goal.row_between-requires-clause-taken
row_between-requires-clause-taken c = record { store = c.len-names.ensures.store; fits = c.requires.fits; all = c.requires.taken }

pub row_between-requires-clause-system : goal.row_between-requires-clause-system
row_between-requires-clause-system c = c.requires.system

pub row_between-requires-clause-opaque : goal.row_between-requires-clause-opaque
row_between-requires-clause-opaque c = c.requires.opaque

pub row_between-requires-clause-between : goal.row_between-requires-clause-between
row_between-requires-clause-between c =
    let e = c.as_slice-names.ensures ∙ names_are c.args.state.now c.args.store.now c.args.system.now c.requires.system c.requires.taken in
    record {
      above = c.in-Some.sides.upper.now;
      below = c.in-Some.sides.lower.now;
      is = c.in-Some.ensures.some;
      upper_is = ap (λ (ts : List Term). slice_get ts c.name_in-upper.result) (sym e) ∙ c.name_in-upper.ensures;
      lower_is = ap (λ (ts : List Term). slice_get ts c.name_in-lower.result) (sym e) ∙ c.name_in-lower.ensures;
    }

pub row_between-requires-clause-numbers : goal.row_between-requires-clause-numbers
row_between-requires-clause-numbers c =
    let s = c.args.store.now in
    let up = c.in-Some.sides.upper.now in
    let low = c.in-Some.sides.lower.now in
    let e = c.as_slice-names.ensures ∙ names_are c.args.state.now s c.args.system.now c.requires.system c.requires.taken in
    number_names s.signature (terms_in s) up low c.name_in-upper.result c.name_in-lower.result
    (ap (λ (ts : List Term). slice_get ts c.name_in-upper.result) (sym e) ∙ c.name_in-upper.ensures) (ap (λ (ts : List Term). slice_get ts c.name_in-lower.result) (sym e) ∙ c.name_in-lower.ensures)
    (sides_sorted c.args.lit.now up low c.in-Some.sides.strict c.in-Some.ensures.some s.signature c.requires.sorted)

pub row_between-requires-clause-assumed : goal.row_between-requires-clause-assumed
row_between-requires-clause-assumed c = c.requires.assumed c.in-Some.sides.upper.now c.in-Some.sides.lower.now c.in-Some.sides.strict c.in-Some.ensures.some

pub returns-in-None-clause-none : goal.returns-in-None-clause-none
returns-in-None-clause-none c e = c.in-None.ensures.none

pub returns-in_err-row-in-Some-clause-number : goal.returns-in_err-row-in-Some-clause-number
returns-in_err-row-in-Some-clause-number c wide e x js b may =
    let p = err_from_is_err_and c.from_residual.result c.from_residual.ensures.1 in
    let failed : c.in_err-row-in-Some.field-0.0 ≡ Number wide = (let a = p.1 in let d = p.2 in cc) in
    c.in_err-row-in-Some.ensures.number wide (ap Err failed) x js b may
