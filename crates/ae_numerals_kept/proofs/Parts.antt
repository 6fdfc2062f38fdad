-- What holds of each count, and of each number of a formula, holds of those of its parts, of the terms that stand in it, of their fields, and of the clauses that it gives.
use Rattle.std.specs.Prelude.{ℕ, zero, suc, Bool, true, false, nat_eq, nat_lt, List, [], ◌∷◌, ◌++◌, ◌≡◌, length, map, slice_get, Option, Some, None}
use Rattle.std.specs.List.{AllByRecursion, Contains}
use Rattle.std.proofs.Common.{refl, sym, ap, ◌∙◌, subst}
use Rattle.std.proofs.lemmas.Option.{same_Some}
use Rattle.ae_base.specs.Options.{only, ◌>>=◌}
use Rattle.ae_base.proofs.AllOf.{all_of_map, all_always}
use Rattle.ae_base.proofs.Options.{bind_some, never_some, only_some, when_some}
use Rattle.ae_core.specs.Inner.Induction.{by_formulas}
use Rattle.ae_core.specs.Putting.{put_formula, instance}
use Rattle.ae_core.specs.Sorts.{same_numeric, sort_of}
use Rattle.ae_core.specs.declared.formulas.Formula.{Formula, Formula-F, True, False, Eq, Lt, Le, Pred, Not, And, Or, Xor, Iff, All, Ex, out-Formula, roll-Formula, roll-out-Formula}
use Rattle.ae_core.specs.declared.formulas.Formula.TheOpen as layer
use Rattle.ae_core.specs.declared.formulas.Formula.TheVariants.{outs-True, outs-False, outs-Eq, outs-Lt, outs-Le, outs-Pred, outs-Not, outs-And, outs-Or, outs-Xor, outs-Iff, outs-All, outs-Ex, rolls-All, rolls-Ex}
use Rattle.ae_core.specs.declared.formulas.Lit.{Lit}
use Rattle.ae_core.specs.declared.formulas.Quant.{Quant}
use Rattle.ae_core.specs.declared.problems.Item.{Item}
use Rattle.ae_core.specs.declared.problems.Item.TheVariants.{Axiom, Goal}
use Rattle.ae_core.specs.declared.problems.Problem.{Problem}
use Rattle.ae_core.specs.declared.problems.Signature.{Signature}
use Rattle.ae_core.specs.declared.terms.Head.{Head}
use Rattle.ae_core.specs.declared.terms.Head.TheVariants as head
use Rattle.ae_core.specs.declared.terms.Sort.{Sort, Sort-F, out-Sort}
use Rattle.ae_core.specs.declared.terms.Sort.TheOpen as sort_layer
use Rattle.ae_core.specs.declared.terms.Term.{Term, Apply}
use Rattle.ae_journal.proofs.RowParts.{literal_part, row_part}
use Rattle.ae_journal.proofs.Splits.{all_contained}
use Rattle.ae_journal.specs.Standing.{parts_by, parts_of}
use Rattle.ae_journal.specs.States.{outside}
use Rattle.ae_journal.specs.Systems.{field_terms, field_terms_of}
use Rattle.ae_legal_texts.specs.Numbers.{Number, count, formula_numbers}
use Rattle.ae_rules.specs.Clauses.{Clause, literal, yes_of, no_of, is_true, is_false, row}
use Rattle.ae_rules.specs.Derivations.{goal_body}
use Rattle.ae_rules.specs.Instances.{axiom_with, hypothesis, have_sorts, instance_clause, count_from, are_numbered, fresh_clause, choices_of, exhaustion, trichotomy}
use Rattle.ae_rules.specs.Lines.{fields_from}
use Rattle.ae_numerals_kept.proofs.Layers.{InTerm, InFormula, InBlock, in_fresh, in_apply, in_relation, in_sides, predicate_arguments, in_two, block_parts}
use Rattle.ae_numerals_kept.proofs.Layers.{eq_numbers, lt_numbers, le_numbers, not_numbers, and_numbers, or_numbers, xor_numbers, iff_numbers, all_numbers, ex_numbers}
use Rattle.ae_numerals_kept.proofs.Outside.{all_outside}
use Rattle.ae_numerals_kept.proofs.Put.{formula_instance, formula_put}

module _ (P : Number → Type 0) (counts : (n : ℕ) → P (count n)) where
  -- ---- parts
  abbrev PartsHave : Formula → Type 0
  PartsHave f = InFormula P f → AllByRecursion (InFormula P) (parts_of f)

  parts_are : (f : Formula) (ps : List Formula) → parts_of f ≡ ps → AllByRecursion (InFormula P) ps → AllByRecursion (InFormula P) (parts_of f)
  parts_are f ps e a = subst (AllByRecursion (InFormula P)) (sym e) a

  two_parts : (rule : Formula → Formula → Formula) → ((a b : Formula) → formula_numbers (rule a b) ≡ formula_numbers a ++ formula_numbers b) → (a b : Formula) → parts_of (rule a b) ≡ a ∷ b ∷ [] → PartsHave (rule a b)
  two_parts rule is a b e w = let s = in_two P counts rule is a b w in parts_are (rule a b) (a ∷ b ∷ []) e (s.0, (s.1, tt))

  all_parts : (f : Formula) → PartsHave f
  all_parts =
      by_formulas PartsHave (λ q. Unit {0})
      (λ w. parts_are True [] (ap parts_by outs-True) tt)
      (λ w. parts_are False [] (ap parts_by outs-False) tt)
      (λ a b w. parts_are (Eq a b) [] (ap parts_by (outs-Eq a b)) tt)
      (λ a b w. parts_are (Lt a b) [] (ap parts_by (outs-Lt a b)) tt)
      (λ a b w. parts_are (Le a b) [] (ap parts_by (outs-Le a b)) tt)
      (λ p ss us w. parts_are (Pred p ss us) [] (ap parts_by (outs-Pred p ss us)) tt)
      (λ a h w. parts_are (Not a) (a ∷ []) (ap parts_by (outs-Not a)) (subst (AllByRecursion P) (not_numbers a) w, tt))
      (λ a b h k. two_parts And and_numbers a b (ap parts_by (outs-And a b)))
      (λ a b h k. two_parts Or or_numbers a b (ap parts_by (outs-Or a b)))
      (λ a b h k. two_parts Xor xor_numbers a b (ap parts_by (outs-Xor a b)))
      (λ a b h k. two_parts Iff iff_numbers a b (ap parts_by (outs-Iff a b)))
      (λ q h w. parts_are (All q) [] (ap parts_by (outs-All q)) tt)
      (λ q h w. parts_are (Ex q) [] (ap parts_by (outs-Ex q)) tt)
      (λ q h. tt)

  pub part_kept : (f h : Formula) → InFormula P f → Contains (parts_of f) h → InFormula P h
  part_kept f h w i = all_contained (InFormula P) (parts_of f) h (all_parts f w) i

  -- ---- terms
  pub outside_kept : (f : Formula) → InFormula P f → AllByRecursion (InTerm P) (outside f)
  outside_kept =
      all_outside (InFormula P) (InTerm P) part_kept (in_sides P counts Eq eq_numbers) (in_sides P counts Lt lt_numbers) (in_sides P counts Le le_numbers)
      (λ p ss us w. in_apply P counts (head.Symbol p) ss us (predicate_arguments P counts p ss us w))

  fields_kept : (n : ℕ) (ss : List Sort) (t : Term) (i k : ℕ) → InTerm P t → AllByRecursion (InTerm P) (fields_from n ss t i k)
  fields_kept n ss t i zero w = tt
  fields_kept n ss t i (suc k) w = (in_apply P counts (head.Field n i) ss (t ∷ []) (w, tt), fields_kept n ss t (suc i) k w)

  pub field_kept : (s : Sort) (t : Term) (k : ℕ) → InTerm P t → AllByRecursion (InTerm P) (field_terms s t k)
  field_kept s t k w = by_layer (out-Sort s)
    where
      by_layer : (l : Sort-F Sort) → AllByRecursion (InTerm P) (field_terms_of l t k)
      by_layer (sort_layer.Named n ss) = fields_kept n ss t 0 k w
      by_layer (sort_layer.Var i) = tt
      by_layer (sort_layer.Rigid i) = tt
      by_layer sort_layer.Int = tt
      by_layer sort_layer.Real = tt
      by_layer sort_layer.Bool = tt
      by_layer sort_layer.Unit = tt

  pub constants_kept : (m : ℕ) (ss : List Sort) → AllByRecursion (InTerm P) (count_from m ss)
  constants_kept m [] = tt
  constants_kept m (s ∷ ss) = (in_fresh P counts m s, constants_kept (suc m) ss)

  -- ---- literals and clauses
  abbrev pub InClause : Clause → Type 0
  InClause c = (l : Lit) → Contains c l → InFormula P l.formula

  pub literal_kept : (f : Formula) → InFormula P f → (sign : Bool) → InFormula P (literal sign f).formula
  literal_kept f w sign = literal_part (InFormula P) part_kept f w sign

  pub row_kept : (f : Formula) → InFormula P f → (r : ℕ) (c : Clause) → row r f ≡ Some c → InClause c
  row_kept f w r c e = row_part (InFormula P) part_kept f w r c e

  each_kept : (c : Clause) → AllByRecursion (λ (l : Lit). InFormula P l.formula) c → InClause c
  each_kept c a l i = all_contained (λ (l : Lit). InFormula P l.formula) c l a i

  same_kept : (c d : Clause) → Some c ≡ Some d → AllByRecursion (λ (l : Lit). InFormula P l.formula) c → InClause d
  same_kept c d e a = each_kept d (subst (AllByRecursion (λ (l : Lit). InFormula P l.formula)) (same_Some c d e) a)

  -- the body of a block with terms put
  pub body_kept : (q : Quant) → InBlock P q → (ts : List Term) → AllByRecursion (InTerm P) ts → InFormula P (put_formula ts q.body)
  body_kept q w ts a = formula_put P counts ts a q.body 0 (block_parts P counts q w).1

  universal : (f : Formula) (q : Quant) → out-Formula f ≡ layer.All q → InFormula P f → InBlock P q
  universal f q o w = subst (AllByRecursion P) (all_numbers q) (subst (InFormula P) (sym (roll-out-Formula f) ∙ ap roll-Formula o ∙ rolls-All q) w)

  existential : (f : Formula) (q : Quant) → out-Formula f ≡ layer.Ex q → InFormula P f → InBlock P q
  existential f q o w = subst (AllByRecursion P) (ex_numbers q) (subst (InFormula P) (sym (roll-out-Formula f) ∙ ap roll-Formula o ∙ rolls-Ex q) w)

  -- a block and its body with terms put
  with_body : (f : Formula) (q : Quant) (sign turn : Bool) (ts : List Term) → InFormula P f → InBlock P q → AllByRecursion (InTerm P) ts
      → AllByRecursion (λ (l : Lit). InFormula P l.formula) (record { positive = sign; formula = f } ∷ literal turn (put_formula ts q.body) ∷ [])
  with_body f q sign turn ts w b a = (w, (literal_kept (put_formula ts q.body) (body_kept q b ts a) turn, tt))

  pub instance_kept : (sig : Signature) (f : Formula) (ts : List Term) → InFormula P f → AllByRecursion (InTerm P) ts → (c : Clause) → instance_clause sig f ts (out-Formula f) ≡ Some c → InClause c
  instance_kept sig f ts w a c e = by_layer (out-Formula f) refl e
    where
      by_layer : (l : Formula-F Formula Quant) → out-Formula f ≡ l → instance_clause sig f ts l ≡ Some c → InClause c
      by_layer (layer.All q) o h = let x = when_some (have_sorts sig ts q.sorts) (is_false f ∷ yes_of (put_formula ts q.body) ∷ []) c h in same_kept _ c (ap Some x.1) (with_body f q false true ts w (universal f q o w) a)
      by_layer (layer.Ex q) o h = let x = when_some (have_sorts sig ts q.sorts) (is_true f ∷ no_of (put_formula ts q.body) ∷ []) c h in same_kept _ c (ap Some x.1) (with_body f q true false ts w (existential f q o w) a)
      by_layer layer.True o h = never_some c h
      by_layer layer.False o h = never_some c h
      by_layer (layer.Eq x y) o h = never_some c h
      by_layer (layer.Lt x y) o h = never_some c h
      by_layer (layer.Le x y) o h = never_some c h
      by_layer (layer.Pred p ss us) o h = never_some c h
      by_layer (layer.Not x) o h = never_some c h
      by_layer (layer.And x y) o h = never_some c h
      by_layer (layer.Or x y) o h = never_some c h
      by_layer (layer.Xor x y) o h = never_some c h
      by_layer (layer.Iff x y) o h = never_some c h

  pub fresh_kept : (f : Formula) (m : ℕ) → InFormula P f → (c : Clause) → fresh_clause f m (out-Formula f) ≡ Some c → InClause c
  fresh_kept f m w c e = by_layer (out-Formula f) refl e
    where
      by_layer : (l : Formula-F Formula Quant) → out-Formula f ≡ l → fresh_clause f m l ≡ Some c → InClause c
      by_layer (layer.Ex q) o h =
          let x = when_some (are_numbered m q.sorts) (is_false f ∷ yes_of (put_formula (count_from m q.sorts) q.body) ∷ []) c h in
          same_kept _ c (ap Some x.1) (with_body f q false true (count_from m q.sorts) w (existential f q o w) (constants_kept m q.sorts))
      by_layer (layer.All q) o h =
          let x = when_some (are_numbered m q.sorts) (is_true f ∷ no_of (put_formula (count_from m q.sorts) q.body) ∷ []) c h in
          same_kept _ c (ap Some x.1) (with_body f q true false (count_from m q.sorts) w (universal f q o w) (constants_kept m q.sorts))
      by_layer layer.True o h = never_some c h
      by_layer layer.False o h = never_some c h
      by_layer (layer.Eq x y) o h = never_some c h
      by_layer (layer.Lt x y) o h = never_some c h
      by_layer (layer.Le x y) o h = never_some c h
      by_layer (layer.Pred p ss us) o h = never_some c h
      by_layer (layer.Not x) o h = never_some c h
      by_layer (layer.And x y) o h = never_some c h
      by_layer (layer.Or x y) o h = never_some c h
      by_layer (layer.Xor x y) o h = never_some c h
      by_layer (layer.Iff x y) o h = never_some c h

  -- ---- enumerations and numbers
  abbrev choice : Term → Head → Lit
  choice t h = is_true (Eq t (Apply h [] []))

  pub choice_kept : (sig : Signature) (t : Term) → InTerm P t → (c : Clause) → exhaustion sig t ≡ Some c → InClause c
  choice_kept sig t w c e =
      let x = bind_some (sort_of sig t) (λ s. choices_of sig (out-Sort s) >>= λ hs. Some (map (choice t) hs)) c e in
      let y = bind_some (choices_of sig (out-Sort x.0)) (λ hs. Some (map (choice t) hs)) c x.2 in
      same_kept (map (choice t) y.0) c y.2
      (all_of_map (λ (l : Lit). InFormula P l.formula) (choice t) y.0
      (all_always (λ h. InFormula P (Eq t (Apply h [] []))) (λ h. in_relation P counts Eq eq_numbers t (Apply h [] []) w (in_apply P counts h [] [] tt)) y.0))

  pub order_kept : (sig : Signature) (s t : Term) → InTerm P s → InTerm P t → (c : Clause) → trichotomy sig s t ≡ Some c → InClause c
  order_kept sig s t v w c e =
      let x = when_some (same_numeric (sort_of sig s) (sort_of sig t)) (is_true (Eq s t) ∷ is_true (Lt s t) ∷ is_true (Lt t s) ∷ []) c e in
      same_kept _ c (ap Some x.1) (in_relation P counts Eq eq_numbers s t v w, (in_relation P counts Lt lt_numbers s t v w, (in_relation P counts Lt lt_numbers t s w v, tt)))

  -- ---- the formulas of a problem
  module _ (p : Problem) (axioms : (k : ℕ) (n : List ℕ) (v : ℕ) (f : Formula) → slice_get p.items k ≡ Some (Axiom n v f) → InFormula P f) where
    pub hypothesis_kept : (g k : ℕ) (ss : List Sort) (f : Formula) → hypothesis p g k ss ≡ Some f → InFormula P f
    hypothesis_kept g k ss f e =
        let b = bind_some (only (nat_lt k g) (slice_get p.items k)) (λ (i : Item). elim i as (λ _. Option Formula) [ Axiom n v h ↦ axiom_with v h ss | Goal n v h ↦ None ]) f e in
        by_item b.0 (only_some (nat_lt k g) (slice_get p.items k) b.0 b.1).1 b.2
      where
        by_item : (i : Item) → slice_get p.items k ≡ Some i → ◌≡◌ {A = Option Formula} (elim i as (λ _. Option Formula) [ Axiom n v h ↦ axiom_with v h ss | Goal n v h ↦ None ]) (Some f) → InFormula P f
        by_item (Axiom n v h) at i = subst (InFormula P) (when_some (nat_eq (length ss) v) (instance ss h) f i).1 (formula_instance P counts ss h (axioms k n v h at))
        by_item (Goal n v h) at i = never_some f i

  module _ (p : Problem) (goals : (k : ℕ) (n : List ℕ) (v : ℕ) (f : Formula) → slice_get p.items k ≡ Some (Goal n v f) → InFormula P f) where
    pub goal_kept : (g : ℕ) (f : Formula) → goal_body p g ≡ Some f → InFormula P f
    goal_kept g f e =
        let b = bind_some (slice_get p.items g) (λ (i : Item). elim i as (λ _. Option Formula) [ Axiom n v h ↦ None | Goal n v h ↦ Some h ]) f e in
        by_item b.0 b.1 b.2
      where
        by_item : (i : Item) → slice_get p.items g ≡ Some i → ◌≡◌ {A = Option Formula} (elim i as (λ _. Option Formula) [ Axiom n v h ↦ None | Goal n v h ↦ Some h ]) (Some f) → InFormula P f
        by_item (Axiom n v h) at i = never_some f i
        by_item (Goal n v h) at i = subst (InFormula P) (same_Some h f i) (goals g n v h at)
