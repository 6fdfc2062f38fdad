-- Formulas without quantifier and inequality: their parts, terms put in them, and what they aren't.
use Rattle.std.specs.Prelude.{ℕ, Bool, true, false, ◌&&◌, List, [], ◌∷◌, ◌≡◌, map, Some}
use Rattle.std.specs.List.{Contains}
use Rattle.std.proofs.Common.{refl, sym, ap, ◌∙◌, subst, inl, inr, arith}
use Rattle.std.proofs.lemmas.Bool.{and_parts}
use Rattle.ae_base.proofs.Options.{never_some}
use Rattle.ae_core.specs.Inner.Induction.{by_formulas}
use Rattle.ae_core.specs.Putting.{put_formula_in, put_terms}
use Rattle.ae_core.specs.declared.terms.Sort.{Sort}
use Rattle.ae_core.specs.declared.terms.Term.{Term}
use Rattle.ae_core.specs.declared.formulas.Formula.{Formula, Formula-F, True, False, Eq, Lt, Le, Pred, Not, And, Or, Xor, Iff, All, Ex, out-Formula, roll-Formula, roll-out-Formula}
use Rattle.ae_core.specs.declared.formulas.Formula.TheOpen as layer
use Rattle.ae_core.specs.declared.formulas.Formula.TheVariants.{outs-True, outs-False, outs-Eq, outs-Lt, outs-Le, outs-Pred, outs-Not, outs-And, outs-Or, outs-Xor, outs-Iff, outs-All, outs-Ex}
use Rattle.ae_core.specs.declared.formulas.Formula.TheVariants.{rolls-Lt, rolls-Le, rolls-All, rolls-Ex}
use Rattle.ae_core.specs.declared.formulas.Quant.{Quant}
use Rattle.ae_core.proofs.Recursion.{fold_true, fold_false, fold_eq, fold_lt, fold_le, fold_pred, fold_all, fold_ex}
use Rattle.ae_core.proofs.PuttingLaws.{put_true, put_false, put_eq, put_lt, put_le, put_pred, put_not, put_and, put_or, put_xor, put_iff, put_all, put_ex}
use Rattle.ae_journal.specs.Ground.{is_simple, simple_step}
use Rattle.ae_journal.specs.Standing.{parts_by, parts_of}
use Rattle.ae_journal.specs.States.{inequality_of, quant_of}
use Rattle.ae_journal.proofs.Splits.{contains_cases, contains_one}
use Rattle.ae_evaluation.proofs.Literals.{simple-Not, simple-And, simple-Or, simple-Xor, simple-Iff, lt_not_simple, le_not_simple, all_not_simple, ex_not_simple}

-- ---- each form of formula
pub simple_true : is_simple True ≡ true
unfolding is_simple
simple_true = fold_true Bool (Unit {0}) simple_step (λ q. tt)

pub simple_false : is_simple False ≡ true
unfolding is_simple
simple_false = fold_false Bool (Unit {0}) simple_step (λ q. tt)

pub simple_eq : (a b : Term) → is_simple (Eq a b) ≡ true
unfolding is_simple
simple_eq a b = fold_eq Bool (Unit {0}) simple_step (λ q. tt) a b

pub simple_lt : (a b : Term) → is_simple (Lt a b) ≡ false
unfolding is_simple
simple_lt a b = fold_lt Bool (Unit {0}) simple_step (λ q. tt) a b

pub simple_le : (a b : Term) → is_simple (Le a b) ≡ false
unfolding is_simple
simple_le a b = fold_le Bool (Unit {0}) simple_step (λ q. tt) a b

pub simple_pred : (n : ℕ) (ss : List Sort) (us : List Term) → is_simple (Pred n ss us) ≡ true
unfolding is_simple
simple_pred n ss us = fold_pred Bool (Unit {0}) simple_step (λ q. tt) n ss us

pub simple_all : (q : Quant) → is_simple (All q) ≡ false
unfolding is_simple
simple_all q = fold_all Bool (Unit {0}) simple_step (λ q. tt) q

pub simple_ex : (q : Quant) → is_simple (Ex q) ≡ false
unfolding is_simple
simple_ex q = fold_ex Bool (Unit {0}) simple_step (λ q. tt) q

-- ---- terms put for variables change nothing
pub simple_put : (ts : List Term) (f : Formula) (d : ℕ) → is_simple (put_formula_in d ts f) ≡ is_simple f
simple_put ts =
    by_formulas (λ f. (d : ℕ) → is_simple (put_formula_in d ts f) ≡ is_simple f) (λ q. Unit {0})
    (λ d. ap is_simple (put_true d ts))
    (λ d. ap is_simple (put_false d ts))
    (λ a b d. ap is_simple (put_eq d ts a b) ∙ simple_eq (put_terms d ts a) (put_terms d ts b) ∙ sym (simple_eq a b))
    (λ a b d. ap is_simple (put_lt d ts a b) ∙ simple_lt (put_terms d ts a) (put_terms d ts b) ∙ sym (simple_lt a b))
    (λ a b d. ap is_simple (put_le d ts a b) ∙ simple_le (put_terms d ts a) (put_terms d ts b) ∙ sym (simple_le a b))
    (λ n ss us d. ap is_simple (put_pred d ts n ss us) ∙ simple_pred n ss (map (put_terms d ts) us) ∙ sym (simple_pred n ss us))
    (λ a h d. ap is_simple (put_not d ts a) ∙ simple-Not _ ∙ h d ∙ sym (simple-Not a))
    (λ a b h k d. ap is_simple (put_and d ts a b) ∙ simple-And _ _ ∙ (λ i. h d i && k d i) ∙ sym (simple-And a b))
    (λ a b h k d. ap is_simple (put_or d ts a b) ∙ simple-Or _ _ ∙ (λ i. h d i && k d i) ∙ sym (simple-Or a b))
    (λ a b h k d. ap is_simple (put_xor d ts a b) ∙ simple-Xor _ _ ∙ (λ i. h d i && k d i) ∙ sym (simple-Xor a b))
    (λ a b h k d. ap is_simple (put_iff d ts a b) ∙ simple-Iff _ _ ∙ (λ i. h d i && k d i) ∙ sym (simple-Iff a b))
    (λ q h d. ap is_simple (put_all d ts q) ∙ simple_all _ ∙ sym (simple_all q))
    (λ q h d. ap is_simple (put_ex d ts q) ∙ simple_ex _ ∙ sym (simple_ex q))
    (λ q h. tt)

-- ---- parts
pub no_part : {P : Type 0} (f h : Formula) → parts_of f ≡ [] → Contains (parts_of f) h → P
no_part f h e i = let c = subst (λ (w : List Formula). Contains w h) e i in absurd (omega (arith, c.1))

two_parts : (f a b h : Formula) → parts_of f ≡ a ∷ b ∷ [] → is_simple a && is_simple b ≡ true → Contains (parts_of f) h → is_simple h ≡ true
two_parts f a b h e s i =
    let q = and_parts (is_simple a) (is_simple b) s in
    elim (contains_cases a (b ∷ []) h (subst (λ (w : List Formula). Contains w h) e i)) as (λ _. is_simple h ≡ true) [
      | inl x ↦ ap is_simple (sym x) ∙ q.0
      | inr r ↦ ap is_simple (sym (contains_one b h r)) ∙ q.1
    ]

pub simple_part : (f h : Formula) → is_simple f ≡ true → Contains (parts_of f) h → is_simple h ≡ true
simple_part =
    by_formulas (λ f. (h : Formula) → is_simple f ≡ true → Contains (parts_of f) h → is_simple h ≡ true) (λ q. Unit {0})
    (λ h s i. no_part True h (ap parts_by outs-True) i)
    (λ h s i. no_part False h (ap parts_by outs-False) i)
    (λ a b h s i. no_part (Eq a b) h (ap parts_by (outs-Eq a b)) i)
    (λ a b h s i. no_part (Lt a b) h (ap parts_by (outs-Lt a b)) i)
    (λ a b h s i. no_part (Le a b) h (ap parts_by (outs-Le a b)) i)
    (λ n ss us h s i. no_part (Pred n ss us) h (ap parts_by (outs-Pred n ss us)) i)
    (λ a k h s i. ap is_simple (sym (contains_one a h (subst (λ (w : List Formula). Contains w h) (ap parts_by (outs-Not a)) i))) ∙ sym (simple-Not a) ∙ s)
    (λ a b k l h s i. two_parts (And a b) a b h (ap parts_by (outs-And a b)) (sym (simple-And a b) ∙ s) i)
    (λ a b k l h s i. two_parts (Or a b) a b h (ap parts_by (outs-Or a b)) (sym (simple-Or a b) ∙ s) i)
    (λ a b k l h s i. two_parts (Xor a b) a b h (ap parts_by (outs-Xor a b)) (sym (simple-Xor a b) ∙ s) i)
    (λ a b k l h s i. two_parts (Iff a b) a b h (ap parts_by (outs-Iff a b)) (sym (simple-Iff a b) ∙ s) i)
    (λ q k h s i. no_part (All q) h (ap parts_by (outs-All q)) i)
    (λ q k h s i. no_part (Ex q) h (ap parts_by (outs-Ex q)) i)
    (λ q k. tt)

-- ---- they are no inequalities, and have no quantifier
pub simple_no_order : (f : Formula) → is_simple f ≡ true → (b : Bool) (x : Term × Term × Bool) → inequality_of b (out-Formula f) ≡ Some x → ⊥
simple_no_order f e b x h = go b (out-Formula f) refl h
  where
    go : (b : Bool) (o : Formula-F Formula Quant) → out-Formula f ≡ o → inequality_of b o ≡ Some x → ⊥
    go b (layer.Lt u v) q h = lt_not_simple u v (ap is_simple (sym (sym (roll-out-Formula f) ∙ ap roll-Formula q ∙ rolls-Lt u v)) ∙ e)
    go b (layer.Le u v) q h = le_not_simple u v (ap is_simple (sym (sym (roll-out-Formula f) ∙ ap roll-Formula q ∙ rolls-Le u v)) ∙ e)
    go true layer.True q h = never_some x h
    go false layer.True q h = never_some x h
    go true layer.False q h = never_some x h
    go false layer.False q h = never_some x h
    go true (layer.Eq u v) q h = never_some x h
    go false (layer.Eq u v) q h = never_some x h
    go true (layer.Pred n ss us) q h = never_some x h
    go false (layer.Pred n ss us) q h = never_some x h
    go true (layer.Not u) q h = never_some x h
    go false (layer.Not u) q h = never_some x h
    go true (layer.And u v) q h = never_some x h
    go false (layer.And u v) q h = never_some x h
    go true (layer.Or u v) q h = never_some x h
    go false (layer.Or u v) q h = never_some x h
    go true (layer.Xor u v) q h = never_some x h
    go false (layer.Xor u v) q h = never_some x h
    go true (layer.Iff u v) q h = never_some x h
    go false (layer.Iff u v) q h = never_some x h
    go true (layer.All r) q h = never_some x h
    go false (layer.All r) q h = never_some x h
    go true (layer.Ex r) q h = never_some x h
    go false (layer.Ex r) q h = never_some x h

pub simple_no_quant : (f : Formula) → is_simple f ≡ true → (q : Quant) → quant_of (out-Formula f) ≡ Some q → ⊥
simple_no_quant f e q h = go (out-Formula f) refl h
  where
    go : (o : Formula-F Formula Quant) → out-Formula f ≡ o → quant_of o ≡ Some q → ⊥
    go (layer.All r) i h = all_not_simple r (ap is_simple (sym (sym (roll-out-Formula f) ∙ ap roll-Formula i ∙ rolls-All r)) ∙ e)
    go (layer.Ex r) i h = ex_not_simple r (ap is_simple (sym (sym (roll-out-Formula f) ∙ ap roll-Formula i ∙ rolls-Ex r)) ∙ e)
    go layer.True i h = never_some q h
    go layer.False i h = never_some q h
    go (layer.Eq u v) i h = never_some q h
    go (layer.Lt u v) i h = never_some q h
    go (layer.Le u v) i h = never_some q h
    go (layer.Pred n ss us) i h = never_some q h
    go (layer.Not u) i h = never_some q h
    go (layer.And u v) i h = never_some q h
    go (layer.Or u v) i h = never_some q h
    go (layer.Xor u v) i h = never_some q h
    go (layer.Iff u v) i h = never_some q h
