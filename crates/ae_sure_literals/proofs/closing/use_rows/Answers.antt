use Rattle.std.specs.Prelude.{ℕ, ◌+◌, ◌≡◌, Bool, List, get_or, take}
use Rattle.std.specs.List.{AllByRecursion}
use Rattle.std.proofs.Common.{◌∙◌, ap, arith, subst, sym}
use Rattle.std.proofs.lemmas.List.{get_or_default}
use Rattle.ae_core.specs.declared.formulas.Lit.{Lit}
use Rattle.ae_explain.specs.Trail.{at}
use Rattle.ae_journal.specs.Standing.{SurelyStands}
use Rattle.ae_rules.specs.Defining.{called_rows}
use Rattle.ae_sure_literals.proofs.Passing.{list_end, list_next, list_none}
use Rattle.ae_sure_literals.specs.Inner.Closing.{IsRowClosed, Passes}
use Rattle.ae_sure_literals.proofs.closing.use_rows.Goals as goal

pub loop-number-init : goal.loop-number-init
loop-number-init c =
    let t = c.args.trail.now.assigned in
    let w : Lit = (at t c.args.place).lit in
    list_none t (λ x js. SurelyStands x js w) (λ x js. SurelyStands x js w) (λ fs r. IsRowClosed t fs w r) c.as_slice-number-items.result.now c.args.flags.now

pub loop-number-preserved : goal.loop-number-preserved
loop-number-preserved c =
    let t = c.args.trail.now.assigned in
    let w : Lit = (at t c.args.place).lit in
    let ns = c.as_slice-number-items.result.now in
    let i = c.loop-number.number-index in
    let r : ℕ = get_or ns i 0 in
    let now = c.use_row.new.flags in
    subst (λ (b : Bool). Passes t (λ x js. SurelyStands x js w) (λ fs. AllByRecursion (IsRowClosed t fs w) (take (i + 1) ns)) c.args.flags.now now b) (sym c.one_of-changed.ensures)
    (list_next t (λ x js. SurelyStands x js w) (λ x js. SurelyStands x js w) (λ fs k. IsRowClosed t fs w k) ns i r c.args.flags.now c.loop-number.flags now c.loop-number.changed c.in_ok-more.more
    (omega arith) (get_or_default ns i 0 r (omega arith)) (λ x js h. h) c.loop-number.invariant c.in_ok-more.ensures)

pub returns : goal.returns
returns c =
    let t = c.args.trail.now.assigned in
    let w : Lit = (at t c.args.place).lit in
    let ns = c.as_slice-number-items.result.now in
    let called : ns ≡ called_rows w.positive w.formula = c.as_slice-number-items.ensures ∙ c.in_ok-rows.ensures ∙ ap (λ (l : Lit). called_rows l.positive l.formula) c.lit_at.ensures in
    subst (λ (ks : List ℕ). Passes t (λ x js. SurelyStands x js w) (λ fs. AllByRecursion (IsRowClosed t fs w) ks) c.args.flags.now c.loop-number.flags c.loop-number.changed) called
    (list_end t (λ x js. SurelyStands x js w) (λ x js. SurelyStands x js w) (λ fs r. IsRowClosed t fs w r) ns c.loop-number.number-index c.args.flags.now c.loop-number.flags c.loop-number.changed
    (omega arith) c.loop-number.invariant)
