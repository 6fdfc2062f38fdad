use Rattle.std.proofs.Common.{◌≡◌, ◌∙◌, ℕ, ap, subst, sym, arith, true, inl, inr, get_or}
use Rattle.std.proofs.lemmas.Bool.{cases_eq, cases_Bool}
use Rattle.std.proofs.lemmas.List.{get_or_default}
use Rattle.ae_core.specs.declared.formulas.Lit.{Lit}
use Rattle.ae_explain.specs.Trail.{place_in}
use Rattle.ae_explain.specs.Inner.Marks.{is_marked, is_kept, marked, kept, IsPlaceOf}
use Rattle.ae_explain.proofs.marks.keep_clause.Goals as goal

pub loop-lit-preserved : goal.loop-lit-preserved
loop-lit-preserved c =
    let i = c.loop-lit.invariant in
    let e = c.keep_lit-count.ensures.kept in
    let n = c.loop-lit.lit-index in
    let item = c.lit-item.result in
    let old = c.loop-lit.marks in
    let new = c.keep_lit-count.new.marks in
    let t = c.args.trail.now.assigned in
    record {
      grows = λ p h. e.grows p (ap is_marked (i.grows p h) ∙ h) ∙ i.grows p h;
      fresh = λ p u h. elim (cases_Bool (marked old p)) as (λ _. (kept new p ≡ true) × IsPlaceOf t c.args.clause.now p) [
        | inl y ↦ let f = i.fresh p u y in (ap is_kept (e.grows p y) ∙ f.0, f.1)
        | inr o ↦ let f = e.fresh p o h in (f.0, (item, (n, c.loop-lit-test.true, sym c.lit-item.is), f.1))
      ];
      all = λ k m lt r p z. elim (cases_eq k n) as (λ _. marked new p ≡ true) [
        | inl q ↦
            let same : item ≡ m = c.lit-item.is ∙ get_or_default c.args.clause.now n item m c.loop-lit-test.true ∙ subst (λ (w : ℕ). get_or c.args.clause.now w m ≡ m) q r in
            e.there p (ap (λ (x : Lit). place_in t x.formula) same ∙ z)
        | inr d ↦ let y = i.all k m (omega (arith, lt, d)) r p z in ap is_marked (e.grows p y) ∙ y
      ];
      count = c.keep_lit-count.ensures.count;
    }
