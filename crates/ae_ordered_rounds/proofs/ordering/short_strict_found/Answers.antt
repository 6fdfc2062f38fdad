use Rattle.std.specs.Prelude.{◌≡◌, List}
use Rattle.std.proofs.Common.{sym, subst}
use Rattle.ae_explain.specs.declared.trail.Assigned.{Assigned}
use Rattle.ae_opaque_numbers.specs.Opaque.{AreOpaqueNumbers}
use Rattle.ae_solved_orders.proofs.Standing.{are_opaque, is_told}
use Rattle.ae_solved_orders.specs.Passed.{IsTold}
use Rattle.ae_state.specs.Fitting.{FitsStore}
use Rattle.ae_state.specs.Names.{system_now, terms_now}
use Rattle.ae_state.specs.declared.holding.Holding.{Holding}
use Rattle.ae_strict_rows.specs.Found.{IsFoundIn}
use Rattle.std.specs.Prelude.{IfSome}
use Rattle.std.proofs.lemmas.Result.{IfOk-weaker}
use Rattle.ae_theory.specs.Names.{terms_in}
use Rattle.ae_ordered_rounds.proofs.ordering.short_strict_found.Goals as goal

pub strict_contradiction-requires-clause-fits : goal.strict_contradiction-requires-clause-fits
strict_contradiction-requires-clause-fits v c = subst (λ (h : Holding). FitsStore h c.args.search.now.store) (sym c.theory.ensures) c.requires.between.searching.alive.fits_store

pub strict_contradiction-requires-clause-taken : goal.strict_contradiction-requires-clause-taken
strict_contradiction-requires-clause-taken v c = subst (λ (h : Holding). terms_now h ≡ terms_in c.args.search.now.store) (sym c.theory.ensures) c.requires.is_open.complete.1

pub strict_contradiction-requires-clause-opaque : goal.strict_contradiction-requires-clause-opaque
strict_contradiction-requires-clause-opaque v c =
    let k = c.args.task in
    let o = c.args.search.now in
    subst (λ (h : Holding). AreOpaqueNumbers o.store.signature (system_now h)) (sym c.theory.ensures)
    (are_opaque k.problem.now k.goal k.generations o c.requires.between c.requires.is_open c.opaque_numbers_are_leaves.ensures)

pub strict_contradiction-requires-clause-told : goal.strict_contradiction-requires-clause-told
strict_contradiction-requires-clause-told v c =
    let k = c.args.task in
    let o = c.args.search.now in
    subst (λ (z : Holding × List Assigned). IsTold z.0 o.store z.1) (λ i. (sym c.theory.ensures i, sym c.trail.ensures i)) (is_told k.problem.now k.goal k.generations o c.requires.between c.requires.is_open)

pub returns : goal.returns
returns v c =
    let o = c.args.search.now in
    IfOk-weaker c.strict_contradiction.result _ _ (λ found h. subst (λ (t : List Assigned). IfSome found (IsFoundIn o.store t)) c.trail.ensures h) c.strict_contradiction.ensures
