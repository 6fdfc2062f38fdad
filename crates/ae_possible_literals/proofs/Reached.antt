-- Literals that possible clauses can make true beside those of an open trail, and that they don't contradict each other.
use Rattle.std.specs.Prelude.{Bool, true, false, not, List, ◌≡◌, None}
use Rattle.std.specs.List.{Contains}
use Rattle.std.proofs.Common.{refl, sym, ap, ◌∙◌, subst, arith}
use Rattle.ae_core.specs.declared.formulas.Formula.{Formula, Formula-F, Eq, out-Formula}
use Rattle.ae_core.specs.declared.formulas.Formula.TheOpen as layer
use Rattle.ae_core.specs.declared.formulas.Formula.TheVariants.{outs-Eq}
use Rattle.ae_core.specs.declared.formulas.Lit.{Lit}
use Rattle.ae_core.specs.declared.formulas.Quant.{Quant}
use Rattle.ae_core.specs.declared.terms.Term.{Term}
use Rattle.ae_explain.specs.Trail.{place_in, Apart}
use Rattle.ae_explain.specs.declared.trail.Assigned.{Assigned}
use Rattle.ae_journal.specs.States.{is_universal_by, is_universal}
use Rattle.ae_possible_literals.proofs.Rests.{own, rests, clash, back_again}
use Rattle.ae_propagation.proofs.Trails.{consistent, no_place}
use Rattle.ae_propagation.specs.Settled.{Holds}
use Rattle.ae_rules.specs.Clauses.{Clause, is_true, opposite}

-- a literal of the trail; an equation that isn't denied; a universal literal whose opposite isn't there; or what a defining clause makes of a formula that has no place
pub data IsReached (t : List Assigned) : Lit → Type 0 where
  holds : (l : Lit) → Holds t l → IsReached t l
  equation : (l : Lit) (s u : Term) → l ≡ is_true (Eq s u) → ¬ Holds t (opposite l) → IsReached t l
  block : (l : Lit) → is_universal l ≡ true → ¬ Holds t (opposite l) → IsReached t l
  part : (l : Lit) (f : Formula) (sign : Bool) (rest : Clause) → l ≡ own sign f → place_in t f ≡ None → Contains (rests (out-Formula f) sign) rest
      → ((m : Lit) → Contains rest m → IsReached t (opposite m)) → IsReached t l

-- ---- an equation and a block have no defining clauses, and an equation is no block
pub universal_rests : (y : Formula-F Formula Quant) (sign s : Bool) (rest : Clause) → is_universal_by sign y ≡ true → Contains (rests y s) rest → ⊥
universal_rests (layer.All q) sign s rest e h = absurd (omega (arith, h.1))
universal_rests (layer.Ex q) sign s rest e h = absurd (omega (arith, h.1))
universal_rests (layer.Eq a b) sign s rest e h = absurd (omega (arith, h.1))
universal_rests (layer.Lt a b) sign s rest e h = absurd (omega (arith, h.1))
universal_rests (layer.Le a b) sign s rest e h = absurd (omega (arith, h.1))
universal_rests (layer.Pred p ss ts) sign s rest e h = absurd (omega (arith, h.1))
universal_rests (layer.Not a) sign s rest e h = absurd (omega (arith, h.1))
universal_rests (layer.And a b) sign s rest e h = cc e
universal_rests (layer.Or a b) sign s rest e h = cc e
universal_rests (layer.Iff a b) sign s rest e h = cc e
universal_rests (layer.Xor a b) sign s rest e h = cc e
universal_rests layer.True sign s rest e h = cc e
universal_rests layer.False sign s rest e h = cc e

pub equation_rests : (s u : Term) (f : Formula) (sign : Bool) (rest : Clause) → f ≡ Eq s u → Contains (rests (out-Formula f) sign) rest → ⊥
equation_rests s u f sign rest e h =
    none (subst (λ y. Contains (rests y sign) rest) (ap out-Formula e ∙ outs-Eq s u) h)
  where
    none : Contains (rests (layer.Eq s u) sign) rest → ⊥
    none k = absurd (omega (arith, k.1))

pub equation_universal : (s u : Term) (l : Lit) → l.formula ≡ Eq s u → is_universal l ≡ true → ⊥
equation_universal s u l e v = let w : false ≡ true = sym (ap (λ (f : Formula). is_universal_by l.positive (out-Formula f)) e ∙ ap (is_universal_by l.positive) (outs-Eq s u)) ∙ v in cc w

both_by : (y : Formula-F Formula Quant) (sign : Bool) → is_universal_by sign y ≡ true → is_universal_by (not sign) y ≡ true → ⊥
both_by (layer.All q) true e h = cc h
both_by (layer.All q) false e h = cc e
both_by (layer.Ex q) true e h = cc e
both_by (layer.Ex q) false e h = cc h
both_by (layer.Eq a b) sign e h = cc e
both_by (layer.Lt a b) sign e h = cc e
both_by (layer.Le a b) sign e h = cc e
both_by (layer.Pred p ss ts) sign e h = cc e
both_by (layer.Not a) sign e h = cc e
both_by (layer.And a b) sign e h = cc e
both_by (layer.Or a b) sign e h = cc e
both_by (layer.Iff a b) sign e h = cc e
both_by (layer.Xor a b) sign e h = cc e
both_by layer.True sign e h = cc e
both_by layer.False sign e h = cc e

pub both_universal : (l : Lit) → is_universal l ≡ true → is_universal (opposite l) ≡ true → ⊥
both_universal l = both_by (out-Formula l.formula) l.positive

module _ (t : List Assigned) (apart : Apart t) where
  -- what the trail denies isn't reached
  pub undenied : (l : Lit) → IsReached t l → Holds t (opposite l) → ⊥
  undenied l (holds _ h) y = consistent t apart l h y
  undenied l (equation _ s u e n) y = n y
  undenied l (block _ v n) y = n y
  undenied l (part _ f sign rest e none c o) y = no_place t apart f none y.0 y.1 (ap (λ (m : Lit). m.formula) y.2 ∙ ap (λ (m : Lit). m.formula) e)

  -- the formulas of two literals of which one is the other's opposite
  same_formula : (l k : Lit) → k ≡ opposite l → k.formula ≡ l.formula
  same_formula l k e = ap (λ (m : Lit). m.formula) e

  formula_of : (l m : Lit) → l ≡ m → l.formula ≡ m.formula
  formula_of l m e = ap (λ (z : Lit). z.formula) e

  -- neither is an equation beside a reached literal that denies it
  no_equation : (l : Lit) (s u : Term) → l ≡ is_true (Eq s u) → ¬ Holds t (opposite l) → (k : Lit) → IsReached t k → k ≡ opposite l → ⊥
  no_equation l s u q n k (holds _ h) e = n (subst (Holds t) e h)
  no_equation l s u q n k (equation _ a b r m) e = let w : true ≡ false = ap (λ (z : Lit). z.positive) (sym r ∙ e ∙ ap opposite q) in cc w
  no_equation l s u q n k (block _ v m) e = equation_universal s u k (same_formula l k e ∙ formula_of l (is_true (Eq s u)) q) v
  no_equation l s u q n k (part _ f sign rest r none c o) e =
      equation_rests s u f sign rest (sym (formula_of k (own sign f) r) ∙ same_formula l k e ∙ formula_of l (is_true (Eq s u)) q) c

  no_block : (l : Lit) → is_universal l ≡ true → ¬ Holds t (opposite l) → (k : Lit) → IsReached t k → k ≡ opposite l → ⊥
  no_block l v n k (holds _ h) e = n (subst (Holds t) e h)
  no_block l v n k (equation _ s u q m) e = equation_universal s u l (sym (same_formula l k e) ∙ formula_of k (is_true (Eq s u)) q) v
  no_block l v n k (block _ w m) e = both_universal l v (subst (λ (z : Lit). is_universal z ≡ true) e w)
  no_block l v n k (part _ f sign rest r none c o) e =
      universal_rests (out-Formula f) l.positive sign rest
      (ap (λ (h : Formula). is_universal_by l.positive (out-Formula h)) (sym (formula_of k (own sign f) r) ∙ same_formula l k e) ∙ v) c

  -- the rest of the other's row, at this formula
  at_this : (f h : Formula) (sign s : Bool) (rest : Clause) → h ≡ f → s ≡ sign → Contains (rests (out-Formula h) s) rest → Contains (rests (out-Formula f) sign) rest
  at_this f h sign s rest e q c = subst (λ (b : Bool). Contains (rests (out-Formula f) b) rest) q (subst (λ (g : Formula). Contains (rests (out-Formula g) s) rest) e c)

  -- no literal is reached with its opposite
  pub disagree : (l : Lit) → IsReached t l → (k : Lit) → IsReached t k → k ≡ opposite l → ⊥
  disagree l (holds _ h) k b e = undenied k b (subst (Holds t) (sym (ap opposite e ∙ back_again l)) h)
  disagree l (equation _ s u q n) k b e = no_equation l s u q n k b e
  disagree l (block _ v n) k b e = no_block l v n k b e
  disagree l (part _ f sign rest q none c o) k (holds _ h) e =
      no_place t apart f none h.0 h.1 (ap (λ (m : Lit). m.formula) h.2 ∙ same_formula l k e ∙ formula_of l (own sign f) q)
  disagree l (part _ f sign rest q none c o) k (equation _ s u r n) e =
      equation_rests s u f sign rest (sym (formula_of l (own sign f) q) ∙ sym (same_formula l k e) ∙ formula_of k (is_true (Eq s u)) r) c
  disagree l (part _ f sign rest q none c o) k (block _ v n) e =
      universal_rests (out-Formula f) k.positive sign rest
      (ap (λ (h : Formula). is_universal_by k.positive (out-Formula h)) (sym (formula_of l (own sign f) q) ∙ sym (same_formula l k e)) ∙ v) c
  disagree l (part _ f true rest q none c o) k (part _ h s other r none2 d w) e =
      let is : own s h ≡ opposite (own true f) = sym r ∙ e ∙ ap opposite q in
      let x = clash (out-Formula f) rest other c (at_this f h false s other (ap (λ (m : Lit). m.formula) is) (ap (λ (m : Lit). m.positive) is) d) in
      disagree (opposite x.0) (o x.0 x.1) (opposite (opposite x.0)) (w (opposite x.0) x.2) refl
  disagree l (part _ f false rest q none c o) k (part _ h s other r none2 d w) e =
      let is : own s h ≡ opposite (own false f) = sym r ∙ e ∙ ap opposite q in
      let x = clash (out-Formula f) other rest (at_this f h true s other (ap (λ (m : Lit). m.formula) is) (ap (λ (m : Lit). m.positive) is) d) c in
      disagree (opposite (opposite x.0)) (o (opposite x.0) x.2) (opposite x.0) (w x.0 x.1) (sym (back_again (opposite x.0)))
