-- What a match says of an axiom, and of a universal literal.
use Rattle.std.specs.Prelude.{ℕ, Bool, true, false, nat_eq, nat_lt, ◌≡◌, List, [], ◌∷◌, map, length, slice_get, Option, Some, None}
use Rattle.std.specs.List.{AllByRecursion, list_all}
use Rattle.std.proofs.Common.{refl, sym, ap, ◌∙◌, subst, arith}
use Rattle.std.proofs.lemmas.Bool.{eq-eqb}
use Rattle.std.proofs.lemmas.Option.{same_Some}
use Rattle.ae_base.specs.Options.{only, when, ◌>>=◌}
use Rattle.ae_base.proofs.AllOf.{all_always, map_same}
use Rattle.ae_base.proofs.Options.{bind_some, never_some, only_some}
use Rattle.ae_base.proofs.Tests.{false_true}
use Rattle.ae_core.proofs.PutSorts.{map_identity}
use Rattle.ae_core.proofs.PuttingLaws.{put_var, put_rigid, put_int, put_real, put_bool, put_unit, put_named}
use Rattle.ae_core.proofs.PuttingLaws.{instance_true, instance_false, instance_eq, instance_lt, instance_le, instance_pred, instance_not, instance_and, instance_or, instance_xor, instance_iff, instance_all, instance_ex, instance_block}
use Rattle.ae_core.specs.Inner.Induction.{by_sorts}
use Rattle.ae_core.specs.Putting.{instance, instance_quant, instance_term, put_sort}
use Rattle.ae_core.specs.Sorts.{is_closed_sort}
use Rattle.ae_core.specs.declared.formulas.Formula.{Formula, Formula-F, True, False, Eq, Lt, Le, Pred, Not, And, Or, Xor, Iff, All, Ex, out-Formula, roll-Formula, roll-out-Formula}
use Rattle.ae_core.specs.declared.formulas.Formula.TheOpen as layer
use Rattle.ae_core.specs.declared.formulas.Formula.TheVariants.{outs-True, outs-False, outs-Eq, outs-Lt, outs-Le, outs-Pred, outs-Not, outs-And, outs-Or, outs-Xor, outs-Iff, outs-All, outs-Ex}
use Rattle.ae_core.specs.declared.formulas.Formula.TheVariants.{rolls-True, rolls-False, rolls-Eq, rolls-Lt, rolls-Le, rolls-Pred, rolls-Not, rolls-And, rolls-Or, rolls-Xor, rolls-Iff, rolls-All, rolls-Ex}
use Rattle.ae_core.specs.declared.formulas.Lit.{Lit}
use Rattle.ae_core.specs.declared.formulas.Quant.{Quant}
use Rattle.ae_core.specs.declared.problems.Item.{Item}
use Rattle.ae_core.specs.declared.problems.Item.TheVariants.{Axiom, Goal}
use Rattle.ae_core.specs.declared.problems.Problem.{Problem}
use Rattle.ae_core.specs.declared.terms.Sort.{Sort, Named}
use Rattle.ae_core.specs.declared.terms.Term.{Term}
use Rattle.ae_journal.specs.States.{of_axiom, of_literal, axiom_pattern, is_universal, literal_pattern, pattern_of, quant_of, Pattern}
use Rattle.ae_made_instances.specs.Inner.Making.{is_all_layer}
use Rattle.ae_rules.specs.Instances.{have_sorts, hypothesis}
use Rattle.ae_rules.specs.Matches.{IsMatch}

-- ---- sorts into which nothing is put
all_same : (ss : List Sort) → AllByRecursion (λ s. put_sort [] s ≡ s) ss → map (put_sort []) ss ≡ ss
all_same ss a = map_same (put_sort []) (λ s. s) ss a ∙ sym (map_identity ss)

put_nothing : (s : Sort) → put_sort [] s ≡ s
put_nothing =
    by_sorts (λ s. put_sort [] s ≡ s) (λ i. put_var [] i) (λ i. put_rigid [] i) (put_int []) (put_real []) (put_bool []) (put_unit [])
    (λ h ss a. put_named [] h ss ∙ ap (Named h) (all_same ss a))

put_none : (ss : List Sort) → map (put_sort []) ss ≡ ss
put_none ss = all_same ss (all_always (λ s. put_sort [] s ≡ s) put_nothing ss)

-- ---- a universal literal
pub record IsUniversal (p : Problem) (l : Lit) (ts : List Term) : Type 0 where
  pub universal : is_universal l ≡ true
  pub quant : Quant
  pub is : quant_of (out-Formula l.formula) ≡ Some quant
  pub have : have_sorts p.signature ts quant.sorts ≡ true

pub literal_facts : (p : Problem) (g : ℕ) (known : Term → Type 0) (same : Term → Term → Type 0) (l : Lit) (ts : List Term) (pattern : Pattern) (trigger : List Term) → pattern_of p g (of_literal l) ≡ Some pattern
    → IsMatch p.signature known same pattern.type_vars pattern.vars trigger [] ts → IsUniversal p l ts
literal_facts p g known same l ts pattern trigger e m =
    let b = bind_some (only (is_universal l) (quant_of (out-Formula l.formula))) (λ q. Some (literal_pattern p.signature q)) pattern e in
    let o = only_some (is_universal l) (quant_of (out-Formula l.formula)) b.0 b.1 in
    let vars : pattern.vars ≡ b.0.sorts = ap (λ (z : Pattern). z.vars) (sym (same_Some (literal_pattern p.signature b.0) pattern b.2)) in
    record {
      universal = o.0;
      quant = b.0;
      is = o.1;
      have = subst (λ (z : List Sort). have_sorts p.signature ts z ≡ true) (ap (map (put_sort [])) vars ∙ put_none b.0.sorts) m.sorted;
    }

-- it has no type variables
pub literal_no_sorts : (p : Problem) (g : ℕ) (l : Lit) (ss : List Sort) (pattern : Pattern) → pattern_of p g (of_literal l) ≡ Some pattern → length ss ≡ pattern.type_vars → ss ≡ []
literal_no_sorts p g l ss pattern e n =
    let b = bind_some (only (is_universal l) (quant_of (out-Formula l.formula))) (λ q. Some (literal_pattern p.signature q)) pattern e in
    none ss (n ∙ ap (λ (z : Pattern). z.type_vars) (sym (same_Some (literal_pattern p.signature b.0) pattern b.2)))
  where
    none : (ss : List Sort) → length ss ≡ 0 → ss ≡ []
    none [] e = refl
    none (s ∷ ss) e = absurd (omega (arith, e))

-- ---- layers of blocks
pub all_of : (y : Formula-F Formula Quant) → is_all_layer y ≡ true → (q : Quant) × (y ≡ layer.All q)
all_of (layer.All q) e = (q, refl)
all_of (layer.Ex q) e = false_true e
all_of layer.True e = false_true e
all_of layer.False e = false_true e
all_of (layer.Eq a b) e = false_true e
all_of (layer.Lt a b) e = false_true e
all_of (layer.Le a b) e = false_true e
all_of (layer.Pred n os us) e = false_true e
all_of (layer.Not a) e = false_true e
all_of (layer.And a b) e = false_true e
all_of (layer.Or a b) e = false_true e
all_of (layer.Xor a b) e = false_true e
all_of (layer.Iff a b) e = false_true e

pub not_all : (y : Formula-F Formula Quant) → is_all_layer y ≡ false → (q : Quant) → y ≡ layer.All q → ⊥
not_all y n q e = false_true (sym n ∙ ap is_all_layer e)

-- ---- an `all` block into which sorts are put
module _ (ss : List Sort) (f : Formula) (q : Quant) (o : out-Formula (instance ss f) ≡ layer.All q) where
  abbrev IsBlock : Type 0
  IsBlock = (b : Quant) × (out-Formula f ≡ layer.All b) × (q.sorts ≡ map (put_sort ss) b.sorts)

  other : (h : Formula) (y : Formula-F Formula Quant) → instance ss f ≡ h → out-Formula h ≡ y → is_all_layer y ≡ false → IsBlock
  other h y e out n = false_true (sym n ∙ ap is_all_layer (sym out) ∙ ap (λ (z : Formula). is_all_layer (out-Formula z)) (sym e) ∙ ap is_all_layer o)

  from : (y : Formula-F Formula Quant) → out-Formula f ≡ y → (h : Formula) → roll-Formula y ≡ h → instance ss f ≡ instance ss h
  from y e h r = ap (instance ss) (sym (roll-out-Formula f) ∙ ap roll-Formula e ∙ r)

  by_layer : (y : Formula-F Formula Quant) → out-Formula f ≡ y → IsBlock
  by_layer (layer.All b) e =
      let put : instance ss f ≡ All (instance_quant ss b) = from (layer.All b) e (All b) (rolls-All b) ∙ instance_all ss b in
      let same : layer.All (instance_quant ss b) ≡ layer.All q = sym (outs-All (instance_quant ss b)) ∙ ap out-Formula (sym put) ∙ o in
      (b, e, ap (λ (z : Quant). z.sorts) (same_all (instance_quant ss b) q same) ∙ ap (λ (z : Quant). z.sorts) (instance_block ss b))
    where
      same_all : (a c : Quant) → ◌≡◌ {A = Formula-F Formula Quant} (layer.All a) (layer.All c) → c ≡ a
      same_all a c e = cc e
  by_layer (layer.Ex b) e = other _ _ (from (layer.Ex b) e (Ex b) (rolls-Ex b) ∙ instance_ex ss b) (outs-Ex (instance_quant ss b)) refl
  by_layer layer.True e = other _ _ (from layer.True e True rolls-True ∙ instance_true ss) outs-True refl
  by_layer layer.False e = other _ _ (from layer.False e False rolls-False ∙ instance_false ss) outs-False refl
  by_layer (layer.Eq a b) e = other _ _ (from (layer.Eq a b) e (Eq a b) (rolls-Eq a b) ∙ instance_eq ss a b) (outs-Eq (instance_term ss a) (instance_term ss b)) refl
  by_layer (layer.Lt a b) e = other _ _ (from (layer.Lt a b) e (Lt a b) (rolls-Lt a b) ∙ instance_lt ss a b) (outs-Lt (instance_term ss a) (instance_term ss b)) refl
  by_layer (layer.Le a b) e = other _ _ (from (layer.Le a b) e (Le a b) (rolls-Le a b) ∙ instance_le ss a b) (outs-Le (instance_term ss a) (instance_term ss b)) refl
  by_layer (layer.Pred n os us) e =
      other _ _ (from (layer.Pred n os us) e (Pred n os us) (rolls-Pred n os us) ∙ instance_pred ss n os us) (outs-Pred n (map (put_sort ss) os) (map (instance_term ss) us)) refl
  by_layer (layer.Not a) e = other _ _ (from (layer.Not a) e (Not a) (rolls-Not a) ∙ instance_not ss a) (outs-Not (instance ss a)) refl
  by_layer (layer.And a b) e = other _ _ (from (layer.And a b) e (And a b) (rolls-And a b) ∙ instance_and ss a b) (outs-And (instance ss a) (instance ss b)) refl
  by_layer (layer.Or a b) e = other _ _ (from (layer.Or a b) e (Or a b) (rolls-Or a b) ∙ instance_or ss a b) (outs-Or (instance ss a) (instance ss b)) refl
  by_layer (layer.Xor a b) e = other _ _ (from (layer.Xor a b) e (Xor a b) (rolls-Xor a b) ∙ instance_xor ss a b) (outs-Xor (instance ss a) (instance ss b)) refl
  by_layer (layer.Iff a b) e = other _ _ (from (layer.Iff a b) e (Iff a b) (rolls-Iff a b) ∙ instance_iff ss a b) (outs-Iff (instance ss a) (instance ss b)) refl

  block_sorts : IsBlock
  block_sorts = by_layer (out-Formula f) refl

-- ---- an axiom
pub record IsAxiom (p : Problem) (g k : ℕ) (ss : List Sort) (ts : List Term) : Type 0 where
  pub formula : Formula
  pub is : hypothesis p g k ss ≡ Some formula
  pub closed : list_all (is_closed_sort p.signature) ss ≡ true
  pub have : (q : Quant) → out-Formula formula ≡ layer.All q → have_sorts p.signature ts q.sorts ≡ true

module _ (p : Problem) (g k : ℕ) (known : Term → Type 0) (same : Term → Term → Type 0) (ss : List Sort) (ts : List Term) (pattern : Pattern) (trigger : List Term)
    (m : IsMatch p.signature known same pattern.type_vars pattern.vars trigger ss ts) where
  vars_of : (v : ℕ) (f : Formula) (y : Formula-F Formula Quant) → (axiom_pattern p.signature v f y).type_vars ≡ v
  vars_of v f (layer.All q) = refl
  vars_of v f (layer.Ex q) = refl
  vars_of v f layer.True = refl
  vars_of v f layer.False = refl
  vars_of v f (layer.Eq a b) = refl
  vars_of v f (layer.Lt a b) = refl
  vars_of v f (layer.Le a b) = refl
  vars_of v f (layer.Pred n os us) = refl
  vars_of v f (layer.Not a) = refl
  vars_of v f (layer.And a b) = refl
  vars_of v f (layer.Or a b) = refl
  vars_of v f (layer.Xor a b) = refl
  vars_of v f (layer.Iff a b) = refl

  of_axiom_item : (n : List ℕ) (v : ℕ) (f : Formula) → only (nat_lt k g) (slice_get p.items k) ≡ Some (Axiom n v f) → axiom_pattern p.signature v f (out-Formula f) ≡ pattern → IsAxiom p g k ss ts
  of_axiom_item n v f at e =
      let count : length ss ≡ v = m.one_each ∙ ap (λ (z : Pattern). z.type_vars) (sym e) ∙ vars_of v f (out-Formula f) in
      record {
        formula = instance ss f;
        is = ap (λ (o : Option Item). o >>= λ i. elim i [ Axiom n v f ↦ when (nat_eq (length ss) v) (instance ss f) | Goal n v f ↦ None ]) at ∙ ap (λ (b : Bool). when b (instance ss f)) (eq-eqb (length ss) v count);
        closed = m.closed;
        have = λ q o.
            let b = block_sorts ss f q o in
            let vars : pattern.vars ≡ b.0.sorts = ap (λ (z : Pattern). z.vars) (sym e) ∙ ap (λ (y : Formula-F Formula Quant). (axiom_pattern p.signature v f y).vars) b.1 in
            subst (λ (z : List Sort). have_sorts p.signature ts z ≡ true) (ap (map (put_sort ss)) vars ∙ sym b.2) m.sorted;
      }

  pub axiom_facts : pattern_of p g (of_axiom k) ≡ Some pattern → IsAxiom p g k ss ts
  axiom_facts e =
      let b = bind_some (only (nat_lt k g) (slice_get p.items k)) (λ (i : Item). elim i [ Axiom n v f ↦ only (nat_lt 0 v) (Some (axiom_pattern p.signature v f (out-Formula f))) | Goal n v f ↦ None ]) pattern e in
      by_item b.0 b.1 b.2
    where
      by_item : (i : Item) → only (nat_lt k g) (slice_get p.items k) ≡ Some i → elim i [ Axiom n v f ↦ only (nat_lt 0 v) (Some (axiom_pattern p.signature v f (out-Formula f))) | Goal n v f ↦ None ] ≡ Some pattern
          → IsAxiom p g k ss ts
      by_item (Axiom n v f) at h = of_axiom_item n v f at (same_Some _ pattern (only_some (nat_lt 0 v) (Some (axiom_pattern p.signature v f (out-Formula f))) pattern h).1)
      by_item (Goal n v f) at h = never_some pattern h
