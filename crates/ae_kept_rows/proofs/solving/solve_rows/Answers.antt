use Rattle.std.specs.Prelude.{ℕ, ◌≡◌, List, [], Ok, Err}
use Rattle.std.specs.List.{AllByRecursion}
use Rattle.std.proofs.Common.{refl, sym, ap, ◌∙◌, subst, append-nil}
use Rattle.std.proofs.lemmas.Result.{err_from_is_err_and}
use Rattle.ae_inequalities.specs.declared.rows.Row.{Row}
use Rattle.ae_inequalities.specs.Tight.{AreTightRows}
use Rattle.ae_kept_rows.specs.Kept.{AreKeptAt}
use Rattle.ae_kept_rows.specs.declared.solving.Solved.{Solved}
use Rattle.ae_kept_rows.proofs.Lines.{none_noted, all_combined}
use Rattle.ae_kept_rows.proofs.Solved.{rows_for, solved_is, in_step_after, assumed_after, point_after}
use Rattle.ae_state.specs.Names.{assumed_in}
use Rattle.ae_theory.specs.Noting.{IsBlockOf}
use Rattle.ae_theory.specs.Tagged.{Tagged}
use Rattle.ae_theory.specs.declared.theory.Fail.TheVariants.{Number}
use Rattle.ae_kept_rows.proofs.solving.solve_rows.Goals as goal

pub all_rows-requires-clause-fits : goal.all_rows-requires-clause-fits
all_rows-requires-clause-fits c = c.requires.fits

pub all_rows-requires-clause-taken : goal.all_rows-requires-clause-taken
all_rows-requires-clause-taken c = c.requires.taken

pub all_rows-requires-clause-opaque : goal.all_rows-requires-clause-opaque
all_rows-requires-clause-opaque c = c.requires.opaque

pub all_rows-requires-clause-told : goal.all_rows-requires-clause-told
all_rows-requires-clause-told c = c.requires.told

pub all_rows-requires-clause-marks : goal.all_rows-requires-clause-marks
all_rows-requires-clause-marks c = c.requires.marks

pub all_rows-requires-clause-kept : goal.all_rows-requires-clause-kept
all_rows-requires-clause-kept c = subst (λ (n : ℕ). AreKeptAt c.args.store.now c.args.trail.now n c.args.kept) (sym c.how_many-lines.ensures) c.requires.kept

pub solve-requires : goal.solve-requires
solve-requires c = record { fits = c.in_ok-bounds.ensures.fits }

-- ---- no rows
pub returns-in_err-bounds-clause-combines : goal.returns-in_err-bounds-clause-combines
returns-in_err-bounds-clause-combines c = none_noted c.args.journal.now.lines c.args.journal.now.lines refl

pub returns-in_err-bounds-clause-legal : goal.returns-in_err-bounds-clause-legal
returns-in_err-bounds-clause-legal c x bound b = ([], sym (append-nil c.args.journal.now.lines), tt)

pub returns-in_err-bounds-clause-number : goal.returns-in_err-bounds-clause-number
returns-in_err-bounds-clause-number c wide e x b sure =
    let p = err_from_is_err_and c.from_residual.result c.from_residual.ensures.1 in
    let failed : c.in_err-bounds.field-0.0 ≡ Number wide = (let u = p.1 in let v = p.2 in cc) in
    c.in_err-bounds.ensures.number wide (ap Err failed) x c.args.journal.now.lines b.beside b.stand

-- ---- they aren't solved
pub returns-in_err-found-clause-combines : goal.returns-in_err-found-clause-combines
returns-in_err-found-clause-combines c =
    let e = c.solve.ensures.extended in
    all_combined c.args.journal.now.lines c.in_ok-bounds.bounds.rows c.solve.new.self.rows e.0 c.solve.new.journal.lines e.1 e.2

pub returns-in_err-found-clause-legal : goal.returns-in_err-found-clause-legal
returns-in_err-found-clause-legal c x bound b =
    c.solve.ensures.legal x bound (c.in_ok-bounds.ensures.agreed x c.args.journal.now.lines (sym c.how_many-lines.ensures) b).1

pub returns-in_err-found-clause-number : goal.returns-in_err-found-clause-number
returns-in_err-found-clause-number c wide e x b sure =
    let p = err_from_is_err_and c.from_residual-in_err-found.result c.from_residual-in_err-found.ensures.1 in
    let failed : c.in_err-found.field-0.0 ≡ Number wide = (let u = p.1 in let v = p.2 in cc) in
    let all = c.in_ok-bounds.ensures.agreed x c.args.journal.now.lines (sym c.how_many-lines.ensures) b in
    c.in_err-found.ensures.licensed wide x (ap Err failed) all.1
    (assumed_after x c.args.journal.now.lines c.solve.new.journal.lines c.args.trail.now c.in_ok-bounds.bounds.rows c.solve.new.self.rows all c.solve.ensures.extended sure)

-- ---- solved
pub returns-clause-kept : goal.returns-clause-kept
returns-clause-kept c =
    rows_for c.args.store.now c.args.trail.now (assumed_in c.args.state.now) c.in_ok-bounds.bounds c.solve.new.self c.how_many-lines-2.result (c.requires.told).assumed c.solve.ensures.given c.solve.ensures.tags c.solve.ensures.fits
    c.in_ok-bounds.ensures.tags c.in_ok-bounds.ensures.even

pub returns-clause-lines : goal.returns-clause-lines
returns-clause-lines c = c.how_many-lines-2.ensures

pub returns-clause-agreed : goal.returns-clause-agreed
returns-clause-agreed c x b =
    let js = c.args.journal.now.lines in
    let all = c.in_ok-bounds.ensures.agreed x js (sym c.how_many-lines.ensures) b in
    in_step_after x js c.solve.new.journal.lines c.args.trail.now c.in_ok-bounds.bounds.rows c.solve.new.self.rows all c.solve.ensures.extended c.solve.new.self c.how_many-lines-2.result refl
    (c.in_ok-found.ensures.agreed x all.1)

pub returns-clause-combines : goal.returns-clause-combines
returns-clause-combines c =
    let e = c.solve.ensures.extended in
    all_combined c.args.journal.now.lines c.in_ok-bounds.bounds.rows c.solve.new.self.rows e.0 c.solve.new.journal.lines e.1 e.2

pub returns-clause-legal : goal.returns-clause-legal
returns-clause-legal c x bound b =
    c.solve.ensures.legal x bound (c.in_ok-bounds.ensures.agreed x c.args.journal.now.lines (sym c.how_many-lines.ensures) b).1

pub returns-clause-point : goal.returns-clause-point
returns-clause-point c r made is found x b =
    let js = c.args.journal.now.lines in
    let all = c.in_ok-bounds.ensures.agreed x js (sym c.how_many-lines.ensures) b in
    let same = ap (λ (z : Solved). z.found) (solved_is _ r is) in
    point_after x js c.solve.new.journal.lines c.args.trail.now c.in_ok-bounds.bounds.rows c.solve.new.self.rows all c.solve.ensures.extended made
    (c.solve.ensures.point made (c.in_ok-found.was ∙ ap Ok (same ∙ found)))

pub returns-clause-stand : goal.returns-clause-stand
returns-clause-stand c r made is found = c.solve.ensures.stand made (c.in_ok-found.was ∙ ap Ok (ap (λ (z : Solved). z.found) (solved_is _ r is) ∙ found))

pub returns-clause-contradiction : goal.returns-clause-contradiction
returns-clause-contradiction c r e is found =
    let same = ap (λ (z : Solved). z.found) (solved_is _ r is) in
    let was = c.in_ok-found.was ∙ ap Ok (same ∙ found) in (
      c.solve.ensures.contradictory e was,
      subst (λ (ts : List Tagged). IsBlockOf ts e.block.deriv.hyps e.tags) (c.requires.told).assumed (c.solve.ensures.literals e (assumed_in c.args.state.now) was c.in_ok-bounds.ensures.tags),
    )

pub returns-clause-built : goal.returns-clause-built
returns-clause-built c r e is found = c.solve.ensures.built e (c.in_ok-found.was ∙ ap Ok (ap (λ (z : Solved). z.found) (solved_is _ r is) ∙ found))

pub returns-clause-tight : goal.returns-clause-tight
returns-clause-tight c r found is was_found =
    let same = ap (λ (z : Solved). z.found) (solved_is _ r is) in
    let was = c.in_ok-found.was ∙ ap Ok (same ∙ was_found) in
    let whole = solved_is _ r is in (
      subst (λ (z : Solved). AreTightRows c.args.store.now z.kept.bounds found) whole (c.solve.ensures.tight found was),
      subst (λ (ts : List Tagged). AllByRecursion (λ (row : Row). IsBlockOf ts row.from.deriv.hyps row.from.tags) found) (c.requires.told).assumed
          (c.solve.ensures.tight_literals found (assumed_in c.args.state.now) was c.in_ok-bounds.ensures.tags),
    )
