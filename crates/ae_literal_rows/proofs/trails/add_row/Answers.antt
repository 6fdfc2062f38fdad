use Rattle.std.specs.Prelude.{ℕ, ◌≡◌, ◌∷◌, List, Ok, Err}
use Rattle.std.proofs.Common.{refl, ap}
use Rattle.std.proofs.lemmas.Result.{err_from_is_err_and}
use Rattle.ae_journal.specs.Standing.{Setting}
use Rattle.ae_journal.specs.declared.lines.Line.{Line}
use Rattle.ae_agreed_rows.specs.Kept.{IsFormOf}
use Rattle.ae_literal_rows.specs.Beside.{IsBeside}
use Rattle.ae_num.specs.Forms.{IsNormal}
use Rattle.ae_theory.specs.Names.{terms_in}
use Rattle.ae_theory.specs.declared.theory.Fail.TheVariants.{Number}
use Rattle.ae_inequalities.specs.declared.rows.Row.{Row}
use Rattle.ae_inequalities.specs.Rows.{IsRightRow}
use Rattle.ae_literal_rows.specs.Inner.Adding.IsRowAdded.{no_inequality, its_row}
use Rattle.ae_literal_rows.proofs.Added.{some_row}
use Rattle.ae_literal_rows.proofs.trails.add_row.Goals as goal

pub literal_row-requires-clause-fits : goal.literal_row-requires-clause-fits
literal_row-requires-clause-fits c = c.requires.fits

pub literal_row-requires-clause-taken : goal.literal_row-requires-clause-taken
literal_row-requires-clause-taken c = c.requires.taken

pub literal_row-requires-clause-system : goal.literal_row-requires-clause-system
literal_row-requires-clause-system c = c.requires.system

pub literal_row-requires-clause-opaque : goal.literal_row-requires-clause-opaque
literal_row-requires-clause-opaque c = c.requires.opaque

pub literal_row-requires-clause-named : goal.literal_row-requires-clause-named
literal_row-requires-clause-named c = c.requires.named

pub literal_row-requires-clause-sorted : goal.literal_row-requires-clause-sorted
literal_row-requires-clause-sorted c = c.requires.sorted

pub literal_row-requires-clause-assumed : goal.literal_row-requires-clause-assumed
literal_row-requires-clause-assumed c = c.requires.assumed

pub assume-requires-clause-normal : goal.assume-requires-clause-normal
assume-requires-clause-normal c = some_row (λ (r : Row). IsNormal r.lin) c.in_ok-found.found c.in-Some.row c.in-Some.is c.in_ok-found.ensures.normal

pub assume-requires-clause-right : goal.assume-requires-clause-right
assume-requires-clause-right c =
    let s = c.args.store.now in
    some_row (IsRightRow s.signature (terms_in s)) c.in_ok-found.found c.in-Some.row c.in-Some.is c.in_ok-found.ensures.right

pub assume-requires-clause-fits : goal.assume-requires-clause-fits
assume-requires-clause-fits c = c.requires.fit

pub returns-in_err-found-clause-number : goal.returns-in_err-found-clause-number
returns-in_err-found-clause-number c wide e x js b may =
    let p = err_from_is_err_and c.from_residual.result c.from_residual.ensures.1 in
    let failed : c.in_err-found.field-0.0 ≡ Number wide = (let a = p.1 in let d = p.2 in cc) in
    c.in_err-found.ensures.number wide (ap Err failed) x js b may

pub returns-in-None-clause-added : goal.returns-in-None-clause-added
returns-in-None-clause-added c = no_inequality (c.in_ok-found.ensures.none (ap Ok c.in-None.is)) refl

pub returns-in_ok-assume-in-Some-clause-added : goal.returns-in_ok-assume-in-Some-clause-added
returns-in_ok-assume-in-Some-clause-added c =
    let s = c.args.store.now in
    let o = c.args.state.now in
    let l = c.args.lit.now in
    let row = c.in-Some.row in
    let first = some_row (λ (r : Row). (more : List ℕ) × (r.from.tags ≡ c.args.tag ∷ more)) c.in_ok-found.found row c.in-Some.is c.in_ok-found.ensures.first in
    let form = some_row (λ (r : Row). (x : Setting) (js : List Line) → IsBeside x js s o → IsFormOf x js l r.lin r.strict r.integral) c.in_ok-found.found row c.in-Some.is c.in_ok-found.ensures.form in
    its_row row form first.0 first.1 c.in_ok-assume-in-Some.ensures.added
