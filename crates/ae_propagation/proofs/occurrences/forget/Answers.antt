use Rattle.std.proofs.Common.{◌≡◌, ◌∙◌, ◌<◌, ℕ, length, get_or, sym, subst, arith}
use Rattle.std.proofs.lemmas.List.{get_or_default}
use Rattle.ae_core.specs.declared.formulas.Lit.{Lit}
use Rattle.ae_explain.specs.Trail.{nothing}
use Rattle.ae_propagation.specs.Inner.Finding.{listed, IsTaken, AreLeft}
use Rattle.ae_propagation.proofs.Entering.{left_next, left_all}
use Rattle.ae_propagation.proofs.Numbering.{table_sized}
use Rattle.ae_propagation.proofs.occurrences.forget.Goals as goal

pub loop-i-preserved : goal.loop-i-preserved
loop-i-preserved c = record {
  size = c.take.ensures.size ∙ c.loop-i.invariant.size;
  left = λ numbers u cs h ks e q.
      let f = listed numbers c.loop-i.table.items in
      let g = listed numbers c.take.new.table.items in
      let i = c.loop-i.i in
      let w : i < length u = omega (arith, c.loop-i-test.true, ks.size) in
      let y : Lit = get_or u i nothing.lit in
      left_next f g cs u i y w (get_or_default u i nothing.lit y w) (subst (λ (n : ℕ). IsTaken n (f y) (g y)) (sym e) (c.take.ensures.own numbers y (ks.each i nothing.lit _ w)))
      (λ m d. c.take.ensures.others numbers y m (table_sized numbers c.args.table.now.items c.loop-i.table.items c.loop-i.invariant.size h) (ks.each i nothing.lit _ w) d) (c.loop-i.invariant.left numbers u cs h ks e q);
}

pub returns-clause-each : goal.returns-clause-each
returns-clause-each c numbers u cs h ks e q =
    let g = listed numbers c.loop-i.table.items in
    let n : c.loop-i.i ≡ length u = omega (arith, ks.size) in
    left_all g cs u (subst (λ (n : ℕ). AreLeft g cs u n) n (c.loop-i.invariant.left numbers u cs h ks e q))
