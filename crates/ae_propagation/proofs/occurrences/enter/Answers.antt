use Rattle.std.proofs.Common.{◌≡◌, ◌∙◌, ◌<◌, ℕ, length, get_or, refl, sym, subst, arith}
use Rattle.std.proofs.lemmas.Result.{IfOk-at_ok, IfErr-at_err}
use Rattle.std.proofs.lemmas.List.{get_or_default}
use Rattle.ae_core.specs.declared.formulas.Lit.{Lit}
use Rattle.ae_explain.specs.Trail.{nothing}
use Rattle.ae_propagation.specs.Inner.Finding.{listed, IsPut, AreEntered}
use Rattle.ae_propagation.proofs.Entering.{none_entered, entered_next, entered_all, entered_left, same_left}
use Rattle.ae_propagation.proofs.Numbering.{table_sized}
use Rattle.ae_propagation.proofs.occurrences.enter.Goals as goal

pub loop-i-init : goal.loop-i-init
loop-i-init c = record {
  size = refl;
  entered = λ numbers u cs h ks e q. none_entered (listed numbers c.args.table.now.items) cs u q;
}

pub loop-i-preserved : goal.loop-i-preserved
loop-i-preserved c =
    let before = c.loop-i.table.items in
    let after = c.put.new.table.items in
    let own = IfOk-at_ok _ c.in_default.is c.put.ensures.own in
    record {
      size = c.put.ensures.size ∙ c.loop-i.invariant.size;
      entered = λ numbers u cs h ks e q.
          let f = listed numbers before in
          let g = listed numbers after in
          let i = c.loop-i.i in
          let w : i < length u = omega (arith, c.loop-i-test.true, ks.size) in
          let y : Lit = get_or u i nothing.lit in
          entered_next f g cs u i y w (get_or_default u i nothing.lit y w) (subst (λ (n : ℕ). IsPut n (f y) (g y)) (sym e) (own numbers y (ks.each i nothing.lit _ w)))
          (λ m d. c.put.ensures.others numbers y m (table_sized numbers c.args.table.now.items before c.loop-i.invariant.size h) (ks.each i nothing.lit _ w) d) (c.loop-i.invariant.entered numbers u cs h ks e q);
    }

pub returns-in-Err-clause-err : goal.returns-in-Err-clause-err
returns-in-Err-clause-err c numbers u cs h ks e q =
    let before = c.loop-i.table.items in
    let after = c.put.new.table.items in
    let f = listed numbers before in
    let g = listed numbers after in
    let i = c.loop-i.i in
    let w : i < length u = omega (arith, c.loop-i-test.true, ks.size) in
    let y : Lit = get_or u i nothing.lit in
    let sized = table_sized numbers c.args.table.now.items before c.loop-i.invariant.size h in
    let err = IfErr-at_err _ c.in-Err.is c.put.ensures.err in
    let s : (m : Lit) → g m ≡ f m = λ m. err numbers y m sized (ks.each i nothing.lit _ w) in
    c.forget.ensures.each numbers u cs (table_sized numbers before after c.put.ensures.size sized) ks e (same_left f g cs u 0 s (entered_left f cs u i (c.loop-i.invariant.entered numbers u cs h ks e q)))

pub returns-clause-ok : goal.returns-clause-ok
returns-clause-ok c numbers u cs h ks e q =
    let g = listed numbers c.loop-i.table.items in
    let n : c.loop-i.i ≡ length u = omega (arith, ks.size) in
    entered_all g cs u (subst (λ (n : ℕ). AreEntered g cs u n) n (c.loop-i.invariant.entered numbers u cs h ks e q))
