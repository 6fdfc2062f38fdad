-- Each literal of a saturated state without quantifier and inequality is true.
use Rattle.std.specs.Prelude.{ℕ, zero, suc, Bool, true, false, not, ◌&&◌, ◌||◌, nat_eq, List, [], ◌∷◌, ◌≡◌, ◌⊎◌, map, length, slice_get, Option, Some, None}
use Rattle.std.specs.List.{AllByRecursion, Contains, list_all}
use Rattle.std.proofs.Common.{inl, inr}
use Rattle.std.proofs.lemmas.Bool.Decides.{nat_tests}
use mathlib.Core.Path.{refl, sym, ap, ◌∙◌, subst}
use native.Mathlib.Omega.{arith}
use Rattle.ae_base.specs.Decided.{decided}
use Rattle.ae_core.specs.Inner.Induction.{by_formulas}
use Rattle.ae_core.specs.Sorts.{sort_of, is_closed_sort, formula_ok, same_sorts, predicate_ok, predicate_fits}
use Rattle.ae_base.specs.Options.{all_known, known, or_else, ◌>>=◌}
use Rattle.ae_core.specs.Putting.{put_sort}
use Rattle.ae_rules.specs.Clauses.{literal, is_true, is_false, yes_of, no_of, row}
use Rattle.ae_core.specs.Signatures.{IsLawful}
use Rattle.ae_rules.specs.Valuations.{same_truth}
use Rattle.ae_core.proofs.SortLaws.{formula_in_eq, formula_in_pred, formula_in_not, formula_in_and, formula_in_or, formula_in_xor, formula_in_iff}
use Rattle.ae_core.proofs.SortFacts.{same_known_is}
use Rattle.ae_rules.proofs.ClauseLaws.{literal_true, literal_false, literal_eq, literal_pred, literal_not, literal_and, literal_or, literal_xor, literal_iff}
use Rattle.ae_rules.proofs.ClauseLaws.{row_true, row_false, row_and, row_or, row_xor, row_iff}
use Rattle.ae_core.proofs.Recursion.{fold_eq, fold_lt, fold_le, fold_pred, fold_not, fold_and, fold_or, fold_xor, fold_iff, fold_all, fold_ex}
use Rattle.ae_core.specs.declared.terms.Sort.{Sort}
use Rattle.ae_core.specs.declared.terms.Term.{Term, Apply, out-Term}
use Rattle.ae_core.specs.declared.terms.Term.TheOpen as term_layer
use Rattle.ae_core.specs.declared.terms.Term.TheVariants.{outs-Apply}
use Rattle.ae_core.specs.declared.terms.Head.TheVariants as head
use Rattle.ae_core.specs.declared.formulas.Formula.{Formula, Formula-F, True, False, Eq, Lt, Le, Pred, Not, And, Or, Xor, Iff, All, Ex, out-Formula, roll-Formula, roll-out-Formula}
use Rattle.ae_core.specs.declared.formulas.Formula.TheOpen as layer
use Rattle.ae_core.specs.declared.formulas.Formula.TheVariants.{rolls-Pred, outs-Pred}
use Rattle.ae_core.specs.declared.formulas.Quant.{Quant}
use Rattle.ae_core.specs.declared.formulas.Lit.{Lit}
use Rattle.ae_core.specs.declared.problems.SymbolEntry.{SymbolEntry}
use Rattle.ae_core.specs.declared.problems.Problem.{Problem}
use Rattle.ae_journal.specs.Values.{Val, Val_discrete, meaning}
use Rattle.ae_journal.specs.Systems.{IsNamed, ValueOf, IsPredicateName}
use Rattle.ae_journal.specs.Truth.{is_said, says_by, all_same}
use Rattle.ae_journal.specs.Evaluate.{unassigned, value, is_true_at}
use Rattle.ae_journal.specs.States.{IsSaturatedBy, Stands, by_value, AllSame, outside, outside_step, Selection}
use Rattle.ae_journal.specs.Ground.{is_simple, simple_step}
use Rattle.ae_evaluation.proofs.Decisions.{same_list, yes_sorts}
use Rattle.ae_evaluation.proofs.Main.{names_have_values}
use Rattle.ae_evaluation.proofs.Respect.{is_known}
use Rattle.ae_evaluation.proofs.SortFacts.{is_applied, result_is, no_result}
use Rattle.ae_evaluation.proofs.Truths.{truth_true, truth_false, truth_eq, truth_pred, truth_not, truth_and, truth_or, truth_xor, truth_iff}
use Rattle.ae_journal.specs.declared.systems.Saturated.{Saturated}
use Rattle.ae_base.proofs.Decided.{decided_not, decided_of, decided_yes}
use Rattle.ae_base.proofs.Options.{bind_some}
use Rattle.std.proofs.lemmas.Bool.{and_parts}
use Rattle.std.proofs.lemmas.Option.{same_Some, slice_get_within}
use Rattle.std.proofs.Math.Bool.{and-false, or-true}
use Rattle.ae_base.proofs.Tests.{not_itself, nat_eq_itself}
use Rattle.ae_base.proofs.ListFacts.{value_at as at_place}
use Rattle.ae_journal.proofs.Splits.{contains_cases, contains_one}

-- ---- simple formulas
simple-Lt : (a b : Term) → is_simple (Lt a b) ≡ false
unfolding is_simple
simple-Lt a b = fold_lt Bool (Unit {0}) simple_step (λ q. tt) a b

simple-Le : (a b : Term) → is_simple (Le a b) ≡ false
unfolding is_simple
simple-Le a b = fold_le Bool (Unit {0}) simple_step (λ q. tt) a b

simple-All : (q : Quant) → is_simple (All q) ≡ false
unfolding is_simple
simple-All q = fold_all Bool (Unit {0}) simple_step (λ q. tt) q

simple-Ex : (q : Quant) → is_simple (Ex q) ≡ false
unfolding is_simple
simple-Ex q = fold_ex Bool (Unit {0}) simple_step (λ q. tt) q

pub simple-Not : (a : Formula) → is_simple (Not a) ≡ is_simple a
unfolding is_simple
simple-Not a = fold_not Bool (Unit {0}) simple_step (λ q. tt) a

pub simple-And : (a b : Formula) → is_simple (And a b) ≡ is_simple a && is_simple b
unfolding is_simple
simple-And a b = fold_and Bool (Unit {0}) simple_step (λ q. tt) a b

pub simple-Or : (a b : Formula) → is_simple (Or a b) ≡ is_simple a && is_simple b
unfolding is_simple
simple-Or a b = fold_or Bool (Unit {0}) simple_step (λ q. tt) a b

pub simple-Xor : (a b : Formula) → is_simple (Xor a b) ≡ is_simple a && is_simple b
unfolding is_simple
simple-Xor a b = fold_xor Bool (Unit {0}) simple_step (λ q. tt) a b

pub simple-Iff : (a b : Formula) → is_simple (Iff a b) ≡ is_simple a && is_simple b
unfolding is_simple
simple-Iff a b = fold_iff Bool (Unit {0}) simple_step (λ q. tt) a b

pub not_simple : (f : Formula) → is_simple f ≡ false → is_simple f ≡ true → ⊥
not_simple f e g = let z : false ≡ true = sym e ∙ g in cc

pub lt_not_simple : (a b : Term) → is_simple (Lt a b) ≡ true → ⊥
lt_not_simple a b e = not_simple (Lt a b) (simple-Lt a b) e

pub le_not_simple : (a b : Term) → is_simple (Le a b) ≡ true → ⊥
le_not_simple a b e = not_simple (Le a b) (simple-Le a b) e

pub all_not_simple : (q : Quant) → is_simple (All q) ≡ true → ⊥
all_not_simple q e = not_simple (All q) (simple-All q) e

pub ex_not_simple : (q : Quant) → is_simple (Ex q) ≡ true → ⊥
ex_not_simple q e = not_simple (Ex q) (simple-Ex q) e

pub outside-Eq : (a b : Term) → outside (Eq a b) ≡ a ∷ b ∷ []
unfolding outside
outside-Eq a b = fold_eq (List Term) (Unit {0}) outside_step (λ q. tt) a b

pub outside-Pred : (p : ℕ) (ss : List Sort) (us : List Term) → outside (Pred p ss us) ≡ Apply (head.Symbol p) ss us ∷ []
unfolding outside
outside-Pred p ss us = fold_pred (List Term) (Unit {0}) outside_step (λ q. tt) p ss us

-- ---- elements of lists
none_there : {A : Type 0} (z : A) → Contains [] z → ⊥
none_there z c = omega (arith, c.1)

-- ---- a saturated state
module _ (p : Problem) (g : ℕ) (st : Saturated) (takes : Selection) (bound : ℕ) (lawful : IsLawful p.signature)
    (saturated : IsSaturatedBy p g st takes bound) (choosing : Bool) where
  abbrev V : Term → Val
  V = value p.signature st.system choosing unassigned

  abbrev pub T : Formula → Bool
  T = is_true_at p.signature st.system choosing unassigned st.literals

  abbrev alike : Term → Term → Bool
  alike a b = decided (Val_discrete (V a) (V b))

  pub valued : (t : Term) → IsNamed st.system t → (v : Val) × ValueOf st.system t v
  valued t i =
      let b = slice_get_within st.system.names i.0 t i.1 in
      let w = at_place st.system.values i.0 (omega (arith, b, saturated.completed.values)) in
      (meaning w.0, (i.0, i.1, ap (λ o. o >>= λ w. Some (meaning w)) w.1))

  pub has_value : (t : Term) (s : Sort) (v : Val) → sort_of p.signature t ≡ Some s → ValueOf st.system t v → V t ≡ v
  has_value t s v e o = names_have_values p.signature st.system lawful saturated.completed choosing t s v e o

  -- a literal doesn't stand with its opposite
  pub never_both : (f : Formula) → Stands p g st (is_true f) → Stands p g st (is_false f) → ⊥
  never_both f a b = saturated.consistent (is_true f) a b

  abbrev pub IsTrueLiteral : Formula → Type 0
  IsTrueLiteral f = is_simple f ≡ true → formula_ok p.signature f ≡ true → (sign : Bool) → Stands p g st (literal sign f) → T f ≡ sign

  stands_at : (l m : Lit) → l ≡ m → Stands p g st l → Stands p g st m
  stands_at l m e a = subst (Stands p g st) e a

  -- a row of two or three literals
  row_two : (f : Formula) (s : Bool) (r : ℕ) (a b : Lit) → Stands p g st (record { positive = s; formula = f })
      → row r f ≡ Some (a ∷ b ∷ []) → Stands p g st a ⊎ Stands p g st b
  row_two f s r a b h e =
      let k = saturated.taken_apart (record { positive = s; formula = f }) h r (a ∷ b ∷ []) e in
      elim (contains_cases a (b ∷ []) k.0 k.1) as
      (λ _. Stands p g st a ⊎ Stands p g st b) [
        | inl z ↦ inl (stands_at k.0 a (sym z) k.2)
        | inr c ↦ inr
            (stands_at k.0 b (sym (contains_one b k.0 c)) k.2)
      ]

  row_three : (f : Formula) (s : Bool) (r : ℕ) (a b c : Lit) → Stands p g st (record { positive = s; formula = f })
      → row r f ≡ Some (a ∷ b ∷ c ∷ []) → Stands p g st a ⊎ Stands p g st b ⊎ Stands p g st c
  row_three f s r a b c h e =
      let k = saturated.taken_apart (record { positive = s; formula = f }) h r (a ∷ b ∷ c ∷ []) e in
      elim (contains_cases a (b ∷ c ∷ []) k.0 k.1) as (λ _. Stands p g st a ⊎ Stands p g st b ⊎ Stands p g st c) [
        | inl z ↦ inl (stands_at k.0 a (sym z) k.2)
        | inr d ↦ elim (contains_cases b (c ∷ []) k.0 d) as
            (λ _. Stands p g st a ⊎ Stands p g st b ⊎ Stands p g st c) [
              | inl z ↦ inr (inl (stands_at k.0 b (sym z) k.2))
              | inr q ↦ inr
                  (inr (stands_at k.0 c (sym (contains_one c k.0 q)) k.2))
            ]
      ]

  -- where the formula's own literal is against it, one of the others stands
  second_of : (f : Formula) (s : Bool) (r : ℕ) (b : Lit) → Stands p g st (record { positive = s; formula = f })
      → row r f ≡ Some (record { positive = not s; formula = f } ∷ b ∷ []) → Stands p g st b
  second_of f s r b h e =
      elim (row_two f s r (record { positive = not s; formula = f }) b h e) as
      (λ _. Stands p g st b) [ inl z ↦ absurd (saturated.consistent (record { positive = s; formula = f }) h z) | inr z ↦ z ]

  others_of : (f : Formula) (s : Bool) (r : ℕ) (b c : Lit) → Stands p g st (record { positive = s; formula = f })
      → row r f ≡ Some (record { positive = not s; formula = f } ∷ b ∷ c ∷ []) → Stands p g st b ⊎ Stands p g st c
  others_of f s r b c h e =
      elim (row_three f s r (record { positive = not s; formula = f }) b c h e) as
      (λ _. Stands p g st b ⊎ Stands p g st c) [
        | inl z ↦ absurd
            (saturated.consistent (record { positive = s; formula = f }) h z)
        | inr z ↦ z
      ]

  alone_of : (f : Formula) (s : Bool) (r : ℕ) → Stands p g st (record { positive = s; formula = f })
      → row r f ≡ Some (record { positive = not s; formula = f } ∷ []) → ⊥
  alone_of f s r h e =
      let k = saturated.taken_apart (record { positive = s; formula = f }) h r (record { positive = not s; formula = f } ∷ []) e in
      saturated.consistent (record { positive = s; formula = f }) h
      (stands_at k.0 (record { positive = not s; formula = f }) (sym (contains_one (record { positive = not s; formula = f }) k.0 k.1)) k.2)

  -- ---- connectives
  true_case : IsTrueLiteral True
  true_case i o true h = truth_true _ _
  true_case i o false h = absurd (alone_of True false 15 (stands_at _ _ (literal_true false) h) (row_true 15))

  false_case : IsTrueLiteral False
  false_case i o false h = truth_false _ _
  false_case i o true h = absurd (alone_of False true 16 (stands_at _ _ (literal_false true) h) (row_false 16))

  not_flip : (s : Bool) → not (not s) ≡ s
  not_flip true = refl
  not_flip false = refl

  not_case : (a : Formula) → IsTrueLiteral a → IsTrueLiteral (Not a)
  not_case a k i o sign h =
      truth_not _ _ a ∙ ap not
      (k (sym (simple-Not a) ∙ i) (sym (formula_in_not p.signature (is_closed_sort p.signature) [] a) ∙ o) (not sign)
      (stands_at _ _ (literal_not sign a) h)) ∙ not_flip sign

  and_case : (a b : Formula) → IsTrueLiteral a → IsTrueLiteral b → IsTrueLiteral (And a b)
  and_case a b k l i o sign h = truth_and _ _ a b ∙ go sign (stands_at _ _ (literal_and sign a b) h)
    where
      s : (is_simple a ≡ true) × (is_simple b ≡ true)
      s = and_parts (is_simple a) (is_simple b) (sym (simple-And a b) ∙ i)

      q : (formula_ok p.signature a ≡ true) × (formula_ok p.signature b ≡ true)
      q =
          and_parts (formula_ok p.signature a) (formula_ok p.signature b)
          (sym (formula_in_and p.signature (is_closed_sort p.signature) [] a b) ∙ o)

      go : (sign : Bool) → Stands p g st (record { positive = sign; formula = And a b }) → T a && T b ≡ sign
      go true h =
          λ j. k s.0 q.0 true (second_of (And a b) true 1 (yes_of a) h (row_and 1 a b)) j && l s.1 q.1 true
          (second_of (And a b) true 2 (yes_of b) h (row_and 2 a b)) j
      go false h = elim (others_of (And a b) false 3 (no_of a) (no_of b) h (row_and 3 a b)) as (λ _. T a && T b ≡ false) [
        | inl z ↦ ap (λ x. x && T b) (k s.0 q.0 false z)
        | inr z ↦ ap (λ x. T a && x) (l s.1 q.1 false z) ∙ and-false (T a)
      ]

  or_case : (a b : Formula) → IsTrueLiteral a → IsTrueLiteral b → IsTrueLiteral (Or a b)
  or_case a b k l i o sign h = truth_or _ _ a b ∙ go sign (stands_at _ _ (literal_or sign a b) h)
    where
      s : (is_simple a ≡ true) × (is_simple b ≡ true)
      s = and_parts (is_simple a) (is_simple b) (sym (simple-Or a b) ∙ i)

      q : (formula_ok p.signature a ≡ true) × (formula_ok p.signature b ≡ true)
      q =
          and_parts (formula_ok p.signature a) (formula_ok p.signature b)
          (sym (formula_in_or p.signature (is_closed_sort p.signature) [] a b) ∙ o)

      go : (sign : Bool) → Stands p g st (record { positive = sign; formula = Or a b }) → T a || T b ≡ sign
      go false h =
          λ j. k s.0 q.0 false (second_of (Or a b) false 4 (no_of a) h (row_or 4 a b)) j || l s.1 q.1 false
          (second_of (Or a b) false 5 (no_of b) h (row_or 5 a b)) j
      go true h = elim (others_of (Or a b) true 6 (yes_of a) (yes_of b) h (row_or 6 a b)) as (λ _. T a || T b ≡ true) [
        | inl z ↦ ap (λ x. x || T b) (k s.0 q.0 true z)
        | inr z ↦ ap (λ x. T a || x) (l s.1 q.1 true z) ∙ or-true (T a)
      ]

  -- two rows that leave four pairs of literals
  pairs_case : (x y : Bool) (s1 u1 s2 u2 : Bool) (r : Bool) → (x ≡ s1) ⊎ (y ≡ u1) → (x ≡ s2) ⊎ (y ≡ u2) → s2 ≡ not s1 → u2 ≡ not u1
      → same_truth s1 (not u1) ≡ r → same_truth x y ≡ r
  pairs_case x y s1 u1 s2 u2 r (inl a) (inl b) e f z = not_itself s1 (sym a ∙ b ∙ e)
  pairs_case x y s1 u1 s2 u2 r (inl a) (inr b) e f z = (λ i. same_truth (a i) ((b ∙ f) i)) ∙ z
  pairs_case x y s1 u1 s2 u2 r (inr a) (inl b) e f z = (λ i. same_truth ((b ∙ e) i) (a i)) ∙ turn s1 u1 ∙ z
    where
      turn : (s u : Bool) → same_truth (not s) u ≡ same_truth s (not u)
      turn true u = refl
      turn false true = refl
      turn false false = refl
  pairs_case x y s1 u1 s2 u2 r (inr a) (inr b) e f z = not_itself u1 (sym a ∙ b ∙ f)

  pair_of : (a b : Formula) → IsTrueLiteral a → IsTrueLiteral b → (is_simple a ≡ true) × (is_simple b ≡ true)
      → (formula_ok p.signature a ≡ true) × (formula_ok p.signature b ≡ true)
      → (u w : Bool) → Stands p g st (literal u a) ⊎ Stands p g st (literal w b) → (T a ≡ u) ⊎ (T b ≡ w)
  pair_of a b k l s q u w (inl z) = inl (k s.0 q.0 u z)
  pair_of a b k l s q u w (inr z) = inr (l s.1 q.1 w z)

  iff_case : (a b : Formula) → IsTrueLiteral a → IsTrueLiteral b → IsTrueLiteral (Iff a b)
  iff_case a b k l i o sign h = truth_iff _ _ a b ∙ go sign (stands_at _ _ (literal_iff sign a b) h)
    where
      s : (is_simple a ≡ true) × (is_simple b ≡ true)
      s = and_parts (is_simple a) (is_simple b) (sym (simple-Iff a b) ∙ i)

      q : (formula_ok p.signature a ≡ true) × (formula_ok p.signature b ≡ true)
      q =
          and_parts (formula_ok p.signature a) (formula_ok p.signature b)
          (sym (formula_in_iff p.signature (is_closed_sort p.signature) [] a b) ∙ o)

      go : (sign : Bool) → Stands p g st (record { positive = sign; formula = Iff a b }) → same_truth (T a) (T b) ≡ sign
      go true h =
          pairs_case (T a) (T b) false true true false true
          (pair_of a b k l s q false true (others_of (Iff a b) true 7 (no_of a) (yes_of b) h (row_iff 7 a b)))
          (pair_of a b k l s q true false (others_of (Iff a b) true 8 (yes_of a) (no_of b) h (row_iff 8 a b))) refl refl refl
      go false h =
          pairs_case (T a) (T b) true true false false false
          (pair_of a b k l s q true true (others_of (Iff a b) false 9 (yes_of a) (yes_of b) h (row_iff 9 a b)))
          (pair_of a b k l s q false false (others_of (Iff a b) false 10 (no_of a) (no_of b) h (row_iff 10 a b))) refl refl refl

  xor_case : (a b : Formula) → IsTrueLiteral a → IsTrueLiteral b → IsTrueLiteral (Xor a b)
  xor_case a b k l i o sign h = truth_xor _ _ a b ∙ go sign (stands_at _ _ (literal_xor sign a b) h)
    where
      s : (is_simple a ≡ true) × (is_simple b ≡ true)
      s = and_parts (is_simple a) (is_simple b) (sym (simple-Xor a b) ∙ i)

      q : (formula_ok p.signature a ≡ true) × (formula_ok p.signature b ≡ true)
      q =
          and_parts (formula_ok p.signature a) (formula_ok p.signature b)
          (sym (formula_in_xor p.signature (is_closed_sort p.signature) [] a b) ∙ o)

      go : (sign : Bool) → Stands p g st (record { positive = sign; formula = Xor a b }) → not (same_truth (T a) (T b)) ≡ sign
      go true h =
          ap not
          (pairs_case (T a) (T b) true true false false false
          (pair_of a b k l s q true true (others_of (Xor a b) true 11 (yes_of a) (yes_of b) h (row_xor 11 a b)))
          (pair_of a b k l s q false false (others_of (Xor a b) true 12 (no_of a) (no_of b) h (row_xor 12 a b))) refl refl refl)
      go false h =
          ap not
          (pairs_case (T a) (T b) false true true false true
          (pair_of a b k l s q false true (others_of (Xor a b) false 13 (no_of a) (yes_of b) h (row_xor 13 a b)))
          (pair_of a b k l s q true false (others_of (Xor a b) false 14 (yes_of a) (no_of b) h (row_xor 14 a b))) refl refl refl)

  -- ---- equations
  eq_case : (a b : Term) → IsTrueLiteral (Eq a b)
  eq_case a b i o sign h = truth_eq _ _ a b ∙ go sign (stands_at _ _ (literal_eq sign a b) h)
    where
      sorted : (known (sort_of p.signature a) ≡ true) × (sort_of p.signature a ≡ sort_of p.signature b)
      sorted =
          same_known_is (sort_of p.signature a) (sort_of p.signature b)
          (sym (formula_in_eq p.signature (is_closed_sort p.signature) [] a b) ∙ o)

      k : (s : Sort) × (sort_of p.signature a ≡ Some s)
      k = is_known (sort_of p.signature a) sorted.0

      go : (sign : Bool) → Stands p g st (record { positive = sign; formula = Eq a b }) → alike a b ≡ sign
      go true h =
          let e = saturated.equal a b h in
          decided_of (Val_discrete (V a) (V b)) (has_value a k.0 e.0 k.1 e.1 ∙ sym (has_value b k.0 e.0 (sym sorted.1 ∙ k.1) e.2))
      go false h =
          let n = subst (AllByRecursion (IsNamed st.system)) (outside-Eq a b) (saturated.named (is_false (Eq a b)) h) in
          let va = valued a n.0 in
          let vb = valued b (n.1).0 in
          decided_not (Val_discrete (V a) (V b)) (λ z.
          let same : va.0 ≡ vb.0 = sym (has_value a k.0 va.0 k.1 va.1) ∙ z ∙ has_value b k.0 vb.0 (sym sorted.1 ∙ k.1) vb.1 in
          saturated.unequal a b vb.0 h (subst (ValueOf st.system a) same va.1) vb.1)

  -- ---- predicates
  abbrev same_one_value : Term → Term → Bool
  same_one_value a b = decided (Val_discrete (V a) (V b))

  all_same-itself : (us : List Term) → all_same same_one_value us us ≡ true
  all_same-itself [] = refl
  all_same-itself (u ∷ us) = λ i. decided_of (Val_discrete (V u) (V u)) refl i && all_same-itself us i

  said_of : (ls : List Lit) (l : Lit) (q : ℕ) (ss : List Sort) (us : List Term) → Contains ls l
      → l.positive && says_by same_one_value q ss us (out-Formula l.formula) ≡ true → is_said same_one_value ls q ss us ≡ true
  said_of [] l q ss us c e = absurd (none_there l c)
  said_of (m ∷ ls) l q ss us c e = go (contains_cases m ls l c) (λ d. said_of ls l q ss us d e)
    where
      go : (m ≡ l) ⊎ Contains ls l → (Contains ls l → is_said same_one_value ls q ss us ≡ true)
          → (m.positive && says_by same_one_value q ss us (out-Formula m.formula)) || is_said same_one_value ls q ss us ≡ true
      go (inl z) k =
          ap (λ (n : Lit). (n.positive && says_by same_one_value q ss us (out-Formula n.formula)) || is_said same_one_value ls q ss us) z
          ∙ ap (λ x. x || is_said same_one_value ls q ss us) e
      go (inr d) k =
          ap (λ x. (m.positive && says_by same_one_value q ss us (out-Formula m.formula)) || x) (k d)
          ∙ or-true (m.positive && says_by same_one_value q ss us (out-Formula m.formula))

  said_from : (ls : List Lit) (q : ℕ) (ss : List Sort) (us : List Term) → is_said same_one_value ls q ss us ≡ true
      → (l : Lit) × Contains ls l × (l.positive && says_by same_one_value q ss us (out-Formula l.formula) ≡ true)
  said_from [] q ss us e = absurd (cc)
  said_from (m ∷ ls) q ss us e = go (m.positive && says_by same_one_value q ss us (out-Formula m.formula)) refl e (said_from ls q ss us)
    where
      go : (b : Bool) → b ≡ m.positive && says_by same_one_value q ss us (out-Formula m.formula)
          → b || is_said same_one_value ls q ss us ≡ true
          → (is_said same_one_value ls q ss us ≡ true → (l : Lit) × Contains ls l ×
          (l.positive && says_by same_one_value q ss us (out-Formula l.formula) ≡ true))
          → (l : Lit) × Contains (m ∷ ls) l × (l.positive && says_by same_one_value q ss us (out-Formula l.formula) ≡ true)
      go true z e k = (m, (zero, omega arith, refl), sym z)
      go false z e k = let r = k e in (r.0, (suc r.1.0, omega (arith, r.1.1), r.1.2), r.2)

  pub record SaysSo (l : Lit) (q : ℕ) (ss : List Sort) (us : List Term) : Type 0 where
    pub args : List Term
    pub is : l ≡ is_true (Pred q ss args)
    pub all : all_same same_one_value us args ≡ true

  says_so : (l : Lit) (q : ℕ) (ss : List Sort) (us : List Term)
      → l.positive && says_by same_one_value q ss us (out-Formula l.formula) ≡ true → SaysSo l q ss us
  says_so l q ss us e =
      let a = and_parts l.positive (says_by same_one_value q ss us (out-Formula l.formula)) e in
      go (out-Formula l.formula) refl a.0 a.1
    where
      go : (f : Formula-F Formula Quant) → out-Formula l.formula ≡ f → l.positive ≡ true → says_by same_one_value q ss us f ≡ true
          → SaysSo l q ss us
      go (layer.Pred n os vs) o k h =
          let b = and_parts (nat_eq q n && same_sorts ss os) (all_same same_one_value us vs) h in
          let c = and_parts (nat_eq q n) (same_sorts ss os) b.0 in
          let d : q ≡ n = grind (arith, nat_tests, c.0) in
          let f = same_list ss os c.1 in
          let z : l.formula ≡ Pred q ss vs =
          sym (roll-out-Formula l.formula) ∙ ap roll-Formula o ∙ rolls-Pred n os vs ∙ (λ i. Pred (sym d i) (sym f i) vs) in
          record { args = vs; is = λ i. record { positive = k i; formula = z i }; all = b.1 }
      go layer.True o k h = absurd (cc)
      go layer.False o k h = absurd (cc)
      go (layer.Eq a b) o k h = absurd (cc)
      go (layer.Lt a b) o k h = absurd (cc)
      go (layer.Le a b) o k h = absurd (cc)
      go (layer.Not a) o k h = absurd (cc)
      go (layer.And a b) o k h = absurd (cc)
      go (layer.Or a b) o k h = absurd (cc)
      go (layer.Xor a b) o k h = absurd (cc)
      go (layer.Iff a b) o k h = absurd (cc)
      go (layer.All a) o k h = absurd (cc)
      go (layer.Ex a) o k h = absurd (cc)

  -- the sorts of a predicate's arguments
  pub record ArgumentsFit (q : ℕ) (ss : List Sort) (us : List Term) : Type 0 where
    pub entry : SymbolEntry
    pub at : slice_get p.signature.symbols q ≡ Some entry
    pub sorts : List Sort
    pub known : all_known (map (sort_of p.signature) us) ≡ Some sorts
    pub are : sorts ≡ map (put_sort ss) entry.args

  arguments_fit : (q : ℕ) (ss : List Sort) (us : List Term) → formula_ok p.signature (Pred q ss us) ≡ true → ArgumentsFit q ss us
  arguments_fit q ss us e =
      by_args (all_known (map (sort_of p.signature) us)) refl
      (sym (formula_in_pred p.signature (is_closed_sort p.signature) [] q ss us) ∙ e)
    where
      by_result : (args : List Sort) → all_known (map (sort_of p.signature) us) ≡ Some args → (t : SymbolEntry)
          → slice_get p.signature.symbols q ≡ Some t → (o : Option Sort)
          → elim o as (λ _. Bool) [ Some r ↦ false | None ↦ nat_eq (length ss) t.vars && same_sorts args (map (put_sort ss) t.args) ] ≡ true
          → ArgumentsFit q ss us
      by_result args k t a (Some r) h = absurd (cc)
      by_result args k t a None h =
          record {
            entry = t;
            at = a;
            sorts = args;
            known = k;
            are = same_list args (map (put_sort ss) t.args)
                (and_parts (nat_eq (length ss) t.vars) (same_sorts args (map (put_sort ss) t.args)) h).1;
          }

      by_entry : (args : List Sort) → all_known (map (sort_of p.signature) us) ≡ Some args → (o : Option SymbolEntry)
          → slice_get p.signature.symbols q ≡ o → or_else (o >>= λ e. Some (predicate_fits ss args e)) false ≡ true → ArgumentsFit q ss us
      by_entry args k None a h = absurd (cc)
      by_entry args k (Some t) a h = by_result args k t a t.result h

      by_args : (m : Option (List Sort)) → all_known (map (sort_of p.signature) us) ≡ m
          → predicate_ok p.signature (is_closed_sort p.signature) q ss m ≡ true → ArgumentsFit q ss us
      by_args None k h = absurd (cc)
      by_args (Some args) k h =
          by_entry args k (slice_get p.signature.symbols q) refl
          (and_parts (list_all (is_closed_sort p.signature) ss)
          (or_else (slice_get p.signature.symbols q >>= λ e. Some (predicate_fits ss args e)) false) h).1

  all_are_same : (us vs : List Term) (args : List Sort) → all_same same_one_value us vs ≡ true
      → all_known (map (sort_of p.signature) us) ≡ Some args → all_known (map (sort_of p.signature) vs) ≡ Some args
      → AllByRecursion (IsNamed st.system) us → AllByRecursion (IsNamed st.system) vs → AllSame p.signature st.system vs us
  all_are_same [] [] args h a b n m = tt
  all_are_same [] (v ∷ vs) args h a b n m = absurd (cc)
  all_are_same (u ∷ us) [] args h a b n m = absurd (cc)
  all_are_same (u ∷ us) (v ∷ vs) args h a b n m =
      let s = and_parts (same_one_value u v) (all_same same_one_value us vs) h in
      let c = bind_some (sort_of p.signature u) (λ x. all_known (map (sort_of p.signature) us) >>= λ xs. Some (x ∷ xs)) args a in
      let d = bind_some (all_known (map (sort_of p.signature) us)) (λ xs. Some (c.0 ∷ xs)) args c.2 in
      let e = bind_some (sort_of p.signature v) (λ x. all_known (map (sort_of p.signature) vs) >>= λ xs. Some (x ∷ xs)) args b in
      let f = bind_some (all_known (map (sort_of p.signature) vs)) (λ xs. Some (e.0 ∷ xs)) args e.2 in
      let z : c.0 ∷ d.0 ≡ e.0 ∷ f.0 = same_Some (c.0 ∷ d.0) args d.2 ∙ sym (same_Some (e.0 ∷ f.0) args f.2) in
      let first : c.0 ≡ e.0 = cc in
      let rest : d.0 ≡ f.0 = cc in
      let wu = valued u n.0 in
      let wv = valued v m.0 in
      let same : wu.0 ≡ wv.0 =
      sym (has_value u c.0 wu.0 c.1 wu.1) ∙ decided_yes (Val_discrete (V u) (V v)) s.0 ∙ has_value v e.0 wv.0 e.1 wv.1 in (
        by_value e.0 wv.0 e.1 (c.1 ∙ ap (λ (x : Sort). Some x) first) wv.1 (subst (ValueOf st.system u) same wu.1),
        all_are_same us vs f.0 s.1 (d.1 ∙ ap (λ (x : List Sort). Some x) rest) f.1 n.1 m.1,
      )

  named_predicate : (q : ℕ) (ss : List Sort) (us : List Term) (l : Lit) → l.formula ≡ Pred q ss us → Stands p g st l
      → IsNamed st.system (Apply (head.Symbol q) ss us)
  named_predicate q ss us l e h = (subst (AllByRecursion (IsNamed st.system)) (ap outside e ∙ outside-Pred q ss us) (saturated.named l h)).0

  named_arguments : (q : ℕ) (ss : List Sort) (us : List Term) → IsNamed st.system (Apply (head.Symbol q) ss us)
      → AllByRecursion (IsNamed st.system) us
  named_arguments q ss us n = saturated.completed.subterms n.0 (head.Symbol q) ss us n.1

  also_fits : (q : ℕ) (ss : List Sort) (us vs : List Term) → formula_ok p.signature (Pred q ss us) ≡ true
      → (n : IsNamed st.system (Apply (head.Symbol q) ss vs)) → ArgumentsFit q ss vs
  also_fits q ss us vs o n = go (saturated.completed.sorted n.0 (Apply (head.Symbol q) ss vs) n.1)
    where
      go : ((s : Sort) × (sort_of p.signature (Apply (head.Symbol q) ss vs) ≡ Some s)) ⊎ IsPredicateName p.signature
          (Apply (head.Symbol q) ss vs)
          → ArgumentsFit q ss vs
      go (inl s) =
          let a = is_applied p.signature (head.Symbol q) ss vs s.0 s.1 in
          let z = sym (no_result p.signature q ss us o ss) ∙ result_is p.signature (head.Symbol q) ss a.args s.0 a.headed in
          absurd (cc)
      go (inr r) =
          let f : term_layer.Apply (head.Symbol r.0) r.1 r.2 ≡ term_layer.Apply (head.Symbol q) ss vs =
          sym (ap out-Term r.3 ∙ outs-Apply (head.Symbol r.0) r.1 r.2) ∙ outs-Apply (head.Symbol q) ss vs in
          let a : head.Symbol r.0 ≡ head.Symbol q = cc in
          let b : r.0 ≡ q = cc in
          let c : r.1 ≡ ss = cc in
          let d : r.2 ≡ vs = cc in
          arguments_fit q ss vs
          (subst (λ (w : ℕ × List Sort × List Term). formula_ok p.signature (Pred w.0 w.1 w.2) ≡ true) (λ i. (b i, c i, d i)) r.4)

  pred_case : (q : ℕ) (ss : List Sort) (us : List Term) → IsTrueLiteral (Pred q ss us)
  pred_case q ss us i o sign h = truth_pred _ _ q ss us ∙ go sign (stands_at _ _ (literal_pred sign q ss us) h)
    where
      denied : Stands p g st (is_false (Pred q ss us)) → is_said same_one_value st.literals q ss us ≡ true → ⊥
      denied h e =
          let r = said_from st.literals q ss us e in
          let s = says_so r.0 q ss us r.2 in
          let stands = stands_at r.0 (is_true (Pred q ss s.args)) s.is r.1 in
          let n = named_predicate q ss us (is_false (Pred q ss us)) refl h in
          let m = named_predicate q ss s.args (is_true (Pred q ss s.args)) refl stands in
          let a = arguments_fit q ss us o in
          let b = also_fits q ss us s.args o m in
          let same : a.entry ≡ b.entry = same_Some a.entry b.entry (sym a.at ∙ b.at) in
          let sorts : b.sorts ≡ a.sorts = b.are ∙ ap (λ (e : SymbolEntry). map (put_sort ss) e.args) (sym same) ∙ sym a.are in
          saturated.predicates q ss s.args us stands h
          (all_are_same us s.args a.sorts s.all a.known (b.known ∙ ap (λ (x : List Sort). Some x) sorts) (named_arguments q ss us n)
          (named_arguments q ss s.args m))

      go : (sign : Bool) → Stands p g st (record { positive = sign; formula = Pred q ss us })
          → is_said same_one_value st.literals q ss us ≡ sign
      go true h =
          said_of st.literals (is_true (Pred q ss us)) q ss us h
          (ap (says_by same_one_value q ss us) (outs-Pred q ss us) ∙ (λ j. nat_eq_itself q j && yes_sorts ss j && all_same-itself us j))
      go false h = by_answer (is_said same_one_value st.literals q ss us) refl
        where
          by_answer : (b : Bool) → b ≡ is_said same_one_value st.literals q ss us → b ≡ false
          by_answer false z = refl
          by_answer true z = absurd (denied h (sym z))

  -- ---- all literals
  pub true_literal : (f : Formula) → IsTrueLiteral f
  true_literal =
      by_formulas IsTrueLiteral (λ q. Unit {0}) true_case false_case eq_case
      (λ a b i o s h. absurd (lt_not_simple a b i))
      (λ a b i o s h. absurd (le_not_simple a b i)) pred_case not_case and_case or_case xor_case iff_case
      (λ q h i o s k. absurd (all_not_simple q i)) (λ q h i o s k. absurd (ex_not_simple q i)) (λ q h. tt)
