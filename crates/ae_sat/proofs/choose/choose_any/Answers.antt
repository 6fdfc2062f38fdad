use Rattle.std.proofs.Common.{◌≡◌, ◌∙◌, ℕ, ◌+◌, ◌<◌, List, length, sym, ap, subst, arith, None}
use Rattle.std.proofs.lemmas.Result.{IfOk-weaker}
use Rattle.std.specs.List.{Contains}
use Rattle.ae_core.specs.declared.formulas.Lit.{Lit}
use Rattle.ae_explain.specs.Trail.{IsFalse, place_in}
use Rattle.ae_propagation.specs.Inner.Scan.{IsNotFalse}
use Rattle.ae_propagation.proofs.Settling.{is_open}
use Rattle.ae_sat.proofs.Choosing.{IsChosen, not_false_at, chosen_yes, chosen_no}
use Rattle.ae_sat.proofs.choose.choose_any.Goals.{then-not-is_false+in_ok-push, else-not-is_false}
use Rattle.ae_sat.proofs.choose.choose_any.Goals as goal

pub loop-i-preserved : goal.loop-i-preserved
loop-i-preserved g c =
    let t = c.args.trail.now.assigned in
    let u = c.args.clause.now in
    let i = c.loop-i.i in
    let x = c.index-clause-i.result in
    let old = c.loop-i.places.items in
    elim c.if-not-is_false.branch as (λ _. IsChosen t u c.if-not-is_false.places.items (i + 1)) [
      | then-not-is_false+in_ok-push w ↦ subst (λ (v : List ℕ). IsChosen t u v (i + 1)) (sym (ap (λ v. v.items) w.places-is ∙ w.in_ok-push.ensures.items))
          (chosen_yes t u old i c.loop-i.invariant (not_false_at t u i x c.loop-i-test.true c.index-clause-i.is w.if-not-is_false.ensures))
      | else-not-is_false w ↦ subst (λ (v : List ℕ). IsChosen t u v (i + 1)) (sym (ap (λ v. v.items) w.places-is))
          (chosen_no t u old i x c.loop-i-test.true c.index-clause-i.is w.if-not-is_false.ensures c.loop-i.invariant)
    ]

pub returns-clause-has : goal.returns-clause-has
returns-clause-has g c =
    let u = c.args.clause.now in
    let n : c.ask-number.result < length c.loop-i.places.items = omega (arith, c.ask-number.ensures, c.len.ensures, c.loop-i.places.ok.0) in
    let w : IsNotFalse c.args.trail.now.assigned u c.index.result.now = subst (IsNotFalse c.args.trail.now.assigned u) (sym c.index.ensures) (c.loop-i.invariant.kept c.ask-number.result c.index.result.now n) in
    IfOk-weaker c.new.result _ _ (λ l e. subst (Contains u) (sym (e ∙ c.in_ok-lit.ensures)) (c.index.result.now, w.within, sym c.index-clause-index.is)) c.new.ensures

pub returns-clause-no_value : goal.returns-clause-no_value
returns-clause-no_value g c =
    let t = c.args.trail.now.assigned in
    let u = c.args.clause.now in
    let x = c.index-clause-index.result in
    let n : c.ask-number.result < length c.loop-i.places.items = omega (arith, c.ask-number.ensures, c.len.ensures, c.loop-i.places.ok.0) in
    let w : IsNotFalse t u c.index.result.now = subst (IsNotFalse t u) (sym c.index.ensures) (c.loop-i.invariant.kept c.ask-number.result c.index.result.now n) in
    IfOk-weaker c.new.result _ _ (λ l e. subst (λ (m : Lit). place_in t m.formula ≡ None) (sym (e ∙ c.in_ok-lit.ensures))
    (is_open t x (λ y. c.requires.untrue (x, (c.index.result.now, w.within, sym c.index-clause-index.is), y)) (λ f. w.not_false x (subst (IsFalse t) c.index-clause-index.is f)))) c.new.ensures
