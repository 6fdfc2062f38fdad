use Rattle.std.proofs.Common.{◌≡◌, ◌∙◌, ◌<◌, ℕ, List, [], sym, subst, ap, get_or, length, refl, Some, None}
use Rattle.std.proofs.lemmas.List.{get_or_default}
use Rattle.ae_rules.specs.Clauses.{Clause}
use Rattle.ae_core.specs.declared.formulas.Lit.{Lit}
use Rattle.ae_explain.specs.declared.trail.Assigned.{Assigned}
use Rattle.ae_explain.specs.Trail.{clause, place_in}
use Rattle.ae_propagation.specs.Settled.{IsOpenAlone}
use Rattle.ae_propagation.proofs.Settling.{lawful_push, falls, grown_push, made}
use Rattle.ae_propagation.proofs.settle.unit_at.Goals as goal

-- the literal that is read is the one of the clause
read : (t : List Assigned) (clauses : List Clause) (k p : ℕ) (at_k own : Clause) (x copy : Lit) (o : IsOpenAlone t (clause clauses k) p) → k < length clauses → own ≡ at_k → at_k ≡ get_or clauses k at_k
    → x ≡ get_or own p x → copy ≡ x → copy ≡ o.lit
read t clauses k p at_k own x copy o l same is r e =
    e ∙ (r ∙ (ap (λ (w : Clause). get_or w p x) (same ∙ (is ∙ get_or_default clauses k at_k [] l)) ∙ o.is x))

pub returns : goal.returns
returns c =
    let t = c.args.trail.now.assigned in
    let u = c.args.clauses.now in
    let o = c.requires.alone in
    let q : c.in_ok-lit.lit ≡ o.lit =
    read t u c.args.k c.args.p c.index-clauses-k.result c.as_slice.result.now c.index-as_slice-p.result c.in_ok-lit.lit o c.requires.within c.as_slice.ensures c.index-clauses-k.is c.index-as_slice-p.is c.in_ok-lit.ensures in
    let a : Assigned = record { lit = c.in_ok-lit.lit; level = c.level_now-level.result; by = Some c.args.k } in
    let w = lawful_push t u c.args.k c.args.p a c.requires.lawful c.requires.within o q c.level_now-level.ensures refl in
    record {
      lit = λ x. o.is x ∙ sym q;
      new = subst (λ (x : Lit). place_in t x.formula ≡ None) (sym q) o.no_place;
      lawful = w;
      grown = λ first h. grown_push first t a c.args.k refl c.level_now-level.ensures h;
      falls = falls t u c.args.k c.args.p a c.requires.within o q w;
      made = made t (clause u c.args.k) c.args.p a o q;
    }
