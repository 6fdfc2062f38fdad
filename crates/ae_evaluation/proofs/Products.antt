-- Plain products: the value depends on the factors alone, in any order and grouping.
-- A factor counts as its constant and one of its other factors; of a product of two, one has no other factors.
use Rattle.std.specs.Prelude.{ℕ, Bool, true, false, cond, ◌&&◌, List, [], ◌∷◌, ◌++◌, ◌≡◌, ◌⊎◌, Option, Some, None}
use Rattle.std.specs.List.{AllByRecursion}
use Rattle.std.specs.List.Sorted.{IsPermutation}
use Rattle.std.proofs.Common.{inl, inr}
use mathlib.Core.Path.{refl, sym, ap, ◌∙◌, subst}
use Rattle.ae_math.specs.Fractions.{ℚ, zero_ℚ, one_ℚ, ◌+ℚ◌, ◌*ℚ◌}
use Rattle.ae_math.proofs.FractionLaws.{field, add_zero_q, zero_add_q, one_mul_q', mul_comm_q, mul_zero_q}
use Rattle.ae_base.specs.Decided.{pick}
use Rattle.ae_core.specs.Decided.{Head_discrete, Sorts_discrete}
use Rattle.ae_core.specs.Inner.Induction.{by_terms}
use Rattle.ae_base.specs.Options.{or_else}
use Rattle.ae_core.specs.Sorts.{sort_of}
use Rattle.ae_rules.specs.Linear.{form, is_number, is_plain}
use Rattle.ae_rules.specs.Lines.{flat}
use Rattle.ae_core.specs.declared.terms.Sort.{Sort, Int, Real}
use Rattle.ae_core.specs.declared.terms.Term.{Term, Apply}
use Rattle.ae_core.specs.declared.terms.Head.{Head}
use Rattle.ae_core.specs.declared.terms.Head.TheVariants as head
use Rattle.ae_core.specs.declared.terms.Op.TheVariants as op
use Rattle.ae_core.specs.declared.problems.Signature.{Signature}
use Rattle.ae_journal.specs.Values.{Val, number as number_val, constant_val, scale_val}
use Rattle.ae_journal.specs.Keys.{Numbering}
use Rattle.ae_journal.specs.Evaluation.{ev}
use Rattle.ae_evaluation.proofs.Facts.{IsFit, IsNum}
use Rattle.ae_evaluation.proofs.Sums.{one_sum}
use Rattle.ae_evaluation.proofs.Linear.{factor_at, constant_of, factor_coordinate, ev-Apply, rest_of, firsts}
use Rattle.ae_evaluation.proofs.Congruence.{constant_value}
use Rattle.ae_evaluation.proofs.Plainness.{plain-Apply, plain_node, factors_int, factors_real}
use Rattle.ae_evaluation.proofs.Joins.{flat-Bound, flat-Num, flat-Fresh, flat-Apply}
use Rattle.ae_evaluation.proofs.Folds.{folded, folded_alone, folded-append, folded-permuted}
use Rattle.ae_journal.specs.declared.systems.System.{System}
use Rattle.std.proofs.lemmas.Bool.{and_parts}

abbrev pub Dual : Type 0
Dual = ℚ × ℚ

abbrev pub mul_dual : Dual → Dual → Dual
mul_dual p q = (p.0 *ℚ q.0, p.0 *ℚ q.1 +ℚ p.1 *ℚ q.0)

abbrev pub one_dual : Dual
one_dual = (one_ℚ, zero_ℚ)

swap_q : (a b c d : ℚ) → a *ℚ d +ℚ b *ℚ c ≡ c *ℚ b +ℚ d *ℚ a
swap_q a b c d = simp field

pub comm_dual : (p q : Dual) → mul_dual p q ≡ mul_dual q p
comm_dual p q = λ i. (mul_comm_q p.0 q.0 i, swap_q p.0 p.1 q.0 q.1 i)

left_q : (a b c : ℚ) → a *ℚ (b *ℚ c) ≡ b *ℚ (a *ℚ c)
left_q a b c = simp field

left_q' : (a a' b b' c c' : ℚ) → a *ℚ (b *ℚ c' +ℚ b' *ℚ c) +ℚ a' *ℚ (b *ℚ c) ≡ b *ℚ (a *ℚ c' +ℚ a' *ℚ c) +ℚ b' *ℚ (a *ℚ c)
left_q' a a' b b' c c' = simp field

pub left_dual : (p q r : Dual) → mul_dual p (mul_dual q r) ≡ mul_dual q (mul_dual p r)
left_dual p q r = λ i. (left_q p.0 q.0 r.0 i, left_q' p.0 p.1 q.0 q.1 r.0 r.1 i)

pub one_dual_law : (p : Dual) → mul_dual p one_dual ≡ p
one_dual_law p = λ i. (one_mul_q' p.0 i, ((λ j. mul_zero_q p.0 j +ℚ one_mul_q' p.1 j) ∙ zero_add_q p.1) i)

zero_left : (a b c : ℚ) → a *ℚ b +ℚ zero_ℚ *ℚ c ≡ a *ℚ b
zero_left a b c = ap (λ z. a *ℚ b +ℚ z) (mul_comm_q _ _ ∙ mul_zero_q c) ∙ add_zero_q _

zero_right : (a b c : ℚ) → c *ℚ zero_ℚ +ℚ b *ℚ a ≡ a *ℚ b
zero_right a b c = ap (λ z. z +ℚ b *ℚ a) (mul_zero_q c) ∙ zero_add_q _ ∙ mul_comm_q b a

module _ (sig : Signature) (y : System) (num : Numbering) (reduce : Head → List Sort → List ℕ → List ℕ) (choosing : Bool)
    (assigned : ℕ → Sort → Option Val) where
  module _ (j : ℕ) where
    abbrev pub dual : Val → Dual
    dual v = (constant_of v, factor_at j v)

    dual_scale : (k : ℚ) (v : Val) → dual (scale_val k v) ≡ (k *ℚ constant_of v, k *ℚ factor_at j v)
    dual_scale k v = λ i. (k *ℚ constant_of v, (factor_coordinate j).of_scale k v i)

    node_case : (p q : Bool) (ka kb : ℚ) (va vb w rest : Val) → (p ≡ true) ⊎ (q ≡ true) → (p ≡ true → va ≡ constant_val ka)
        → (q ≡ true → vb ≡ constant_val kb)
        → w ≡ or_else (cond p (Some (scale_val ka vb)) (cond q (Some (scale_val kb va)) None)) rest → dual w ≡ mul_dual (dual va) (dual vb)
    node_case true q ka kb va vb w rest x a b e =
        ap dual e ∙ dual_scale ka vb ∙ sym
        (ap (λ v. mul_dual (dual v) (dual vb)) (a refl) ∙ (λ i. (ka *ℚ constant_of vb, zero_left ka (factor_at j vb) (constant_of vb) i)))
    node_case false true ka kb va vb w rest x a b e =
        ap dual e ∙ dual_scale kb va ∙ sym
        (ap (λ v. mul_dual (dual va) (dual v)) (b refl) ∙
        (λ i. (mul_comm_q (constant_of va) kb i, zero_right kb (factor_at j va) (constant_of va) i)))
    node_case false false ka kb va vb w rest x a b e = absurd (elim x as (λ _. ⊥) [ inl e ↦ cc | inr e ↦ cc ])

    module _ (h : Head) (ss : List Sort) (o : Sort)
        (sorts : (a b : Term) (s : Sort) → sort_of sig (Apply h ss (a ∷ b ∷ [])) ≡ Some s → (sort_of sig a ≡ Some o) ×
        (sort_of sig b ≡ Some o))
        (node : (a b : Term) → IsFit sig (Apply h ss (a ∷ b ∷ [])) → dual
        (ev sig y num reduce choosing assigned (Apply h ss (a ∷ b ∷ []))) ≡ mul_dual (dual (ev sig y num reduce choosing assigned a))
        (dual (ev sig y num reduce choosing assigned b))) where
      abbrev pub all_duals : List Term → Dual
      all_duals = folded mul_dual one_dual comm_dual left_dual one_dual_law (λ t. dual (ev sig y num reduce choosing assigned t))

      abbrev pub IsProduct : Term → Type 0
      IsProduct t = IsFit sig t → dual (ev sig y num reduce choosing assigned t) ≡ all_duals (flat h ss t)

      alone : (t : Term) → flat h ss t ≡ t ∷ [] → IsProduct t
      alone t e _ =
          sym
          (ap all_duals e ∙ folded_alone mul_dual one_dual comm_dual left_dual one_dual_law
          (λ t. dual (ev sig y num reduce choosing assigned t)) t)

      arguments_fit : (a b : Term) → IsFit sig (Apply h ss (a ∷ b ∷ [])) → IsFit sig a × IsFit sig b
      arguments_fit a b f =
          let all = (and_parts _ _ (sym (plain-Apply h ss (a ∷ b ∷ [])) ∙ f.plain)).1 in
          let p = and_parts (is_plain a) (is_plain b && true) all in
          let q = and_parts (is_plain b) true p.1 in
          let s = sorts a b f.sort f.sorted in
          (record { plain = p.0; sort = o; sorted = s.0 }, record { plain = q.0; sort = o; sorted = s.1 })

      pair : (a b : Term) → IsProduct a → IsProduct b → IsFit sig (Apply h ss (a ∷ b ∷ []))
          → dual (ev sig y num reduce choosing assigned (Apply h ss (a ∷ b ∷ []))) ≡ all_duals (flat h ss a ++ flat h ss b)
      pair a b p q f =
          let g = arguments_fit a b f in
          node a b f ∙ (λ i. mul_dual (p g.0 i) (q g.1 i)) ∙ sym
          (folded-append mul_dual one_dual comm_dual left_dual one_dual_law (λ t. dual (ev sig y num reduce choosing assigned t))
          (flat h ss a) (flat h ss b))

      two_case : (i : Head) (us : List Sort) (a b : Term) (d : Dec (h ≡ i)) (e : Dec (ss ≡ us)) → IsProduct a → IsProduct b
          → flat h ss (Apply i us (a ∷ b ∷ [])) ≡ pick d (pick e (flat h ss a ++ flat h ss b) (Apply i us (a ∷ b ∷ []) ∷ []))
          (Apply i us (a ∷ b ∷ []) ∷ [])
          → IsProduct (Apply i us (a ∷ b ∷ []))
      two_case i us a b (no n) e p q f = alone _ f
      two_case i us a b (yes d) (no n) p q f = alone _ f
      two_case i us a b (yes d) (yes e) p q f =
          λ fit. subst (λ (k : Head). IsFit sig (Apply k us (a ∷ b ∷ [])) → dual
          (ev sig y num reduce choosing assigned (Apply k us (a ∷ b ∷ []))) ≡ all_duals (flat h ss a ++ flat h ss b)) d
          (subst (λ (vs : List Sort). IsFit sig (Apply h vs (a ∷ b ∷ [])) → dual
          (ev sig y num reduce choosing assigned (Apply h vs (a ∷ b ∷ []))) ≡ all_duals (flat h ss a ++ flat h ss b)) e (pair a b p q)) fit
          ∙ ap all_duals (sym f)

      applied_case : (i : Head) (us : List Sort) (ts : List Term) → AllByRecursion IsProduct ts → IsProduct (Apply i us ts)
      applied_case i us [] is = alone _ (flat-Apply h ss i us [])
      applied_case i us (a ∷ []) is = alone _ (flat-Apply h ss i us (a ∷ []))
      applied_case i us (a ∷ b ∷ []) is =
          two_case i us a b (Head_discrete h i) (Sorts_discrete ss us) is.0 (is.1).0 (flat-Apply h ss i us (a ∷ b ∷ []))
      applied_case i us (a ∷ b ∷ c ∷ ts) is =
          alone _ (flat-Apply h ss i us (a ∷ b ∷ c ∷ ts) ∙ ap (λ vs. Apply i us (a ∷ b ∷ c ∷ vs) ∷ []) (firsts (flat h ss) ts))

      pub product_value : (t : Term) → IsProduct t
      product_value =
          by_terms IsProduct (λ n. alone _ (flat-Bound h ss n)) (λ a b r. alone _ (flat-Num h ss a b r))
          (λ n s. alone _ (flat-Fresh h ss n s)) applied_case

      pub duals_alike : (s t : Term) → IsFit sig s → IsFit sig t → IsPermutation (flat h ss s) (flat h ss t)
          → dual (ev sig y num reduce choosing assigned s) ≡ dual (ev sig y num reduce choosing assigned t)
      duals_alike s t p q e =
          product_value s p
          ∙ folded-permuted mul_dual one_dual comm_dual left_dual one_dual_law (λ t. dual (ev sig y num reduce choosing assigned t)) _ _ e
          ∙ sym (product_value t q)

  -- where the terms of the two numeric sorts have numbers as values
  module _ (numbers : (t : Term) (s : Sort) → sort_of sig t ≡ Some s → (s ≡ Int) ⊎ (s ≡ Real)
      → IsNum sig y num reduce choosing assigned t) where
    int_node : (j : ℕ) (ss : List Sort) (a b : Term) → IsFit sig (Apply (head.Int op.Mul) ss (a ∷ b ∷ []))
        → dual j (ev sig y num reduce choosing assigned (Apply (head.Int op.Mul) ss (a ∷ b ∷ []))) ≡ mul_dual
        (dual j (ev sig y num reduce choosing assigned a)) (dual j (ev sig y num reduce choosing assigned b))
    int_node j ss a b f =
        let s = factors_int sig ss a b f.sort f.sorted in
        let p =
        plain_node (head.Int op.Mul) (a ∷ b ∷ []) (and_parts _ _ (sym (plain-Apply (head.Int op.Mul) ss (a ∷ b ∷ [])) ∙ f.plain)).0 in
        node_case j (is_number (form a)) (is_number (form b)) (form a).constant (form b).constant (ev sig y num reduce choosing assigned a)
        (ev sig y num reduce choosing assigned b) _ (rest_of sig y num reduce choosing assigned (head.Int op.Mul) ss (a ∷ b ∷ [])) p
        (λ e. constant_value sig y num reduce choosing assigned a e (numbers a Int s.0 (inl refl)))
        (λ e. constant_value sig y num reduce choosing assigned b e (numbers b Int s.1 (inl refl)))
        (ev-Apply sig y num reduce choosing assigned (head.Int op.Mul) ss (a ∷ b ∷ []))

    real_node : (j : ℕ) (ss : List Sort) (a b : Term) → IsFit sig (Apply (head.Real op.Mul) ss (a ∷ b ∷ []))
        → dual j (ev sig y num reduce choosing assigned (Apply (head.Real op.Mul) ss (a ∷ b ∷ []))) ≡ mul_dual
        (dual j (ev sig y num reduce choosing assigned a)) (dual j (ev sig y num reduce choosing assigned b))
    real_node j ss a b f =
        let s = factors_real sig ss a b f.sort f.sorted in
        let p =
        plain_node (head.Real op.Mul) (a ∷ b ∷ []) (and_parts _ _ (sym (plain-Apply (head.Real op.Mul) ss (a ∷ b ∷ [])) ∙ f.plain)).0 in
        node_case j (is_number (form a)) (is_number (form b)) (form a).constant (form b).constant (ev sig y num reduce choosing assigned a)
        (ev sig y num reduce choosing assigned b) _ (rest_of sig y num reduce choosing assigned (head.Real op.Mul) ss (a ∷ b ∷ [])) p
        (λ e. constant_value sig y num reduce choosing assigned a e (numbers a Real s.0 (inr refl)))
        (λ e. constant_value sig y num reduce choosing assigned b e (numbers b Real s.1 (inr refl)))
        (ev-Apply sig y num reduce choosing assigned (head.Real op.Mul) ss (a ∷ b ∷ []))

    from_duals : (s t : Term)
        → ((j : ℕ) → dual j (ev sig y num reduce choosing assigned s) ≡ dual j (ev sig y num reduce choosing assigned t))
        → IsNum sig y num reduce choosing assigned s → IsNum sig y num reduce choosing assigned t
        → ev sig y num reduce choosing assigned s ≡ ev sig y num reduce choosing assigned t
    from_duals s t d p q =
        let parts : p.0.parts ≡ q.0.parts =
        one_sum p.0.parts q.0.parts p.2 q.2 (λ j. sym (ap (factor_at j) p.1) ∙ ap (λ (x : Dual). x.1) (d j) ∙ ap (factor_at j) q.1) in
        let constants : p.0.constant ≡ q.0.constant = sym (ap constant_of p.1) ∙ ap (λ (x : Dual). x.0) (d 0) ∙ ap constant_of q.1 in
        p.1 ∙ (λ i. number_val (record { parts = parts i; constant = constants i })) ∙ sym q.1

    pub int_products : (ss : List Sort) (a b c d : Term) → IsFit sig (Apply (head.Int op.Mul) ss (a ∷ b ∷ []))
        → IsFit sig (Apply (head.Int op.Mul) ss (c ∷ d ∷ []))
        → sort_of sig (Apply (head.Int op.Mul) ss (a ∷ b ∷ [])) ≡ Some Int
        → sort_of sig (Apply (head.Int op.Mul) ss (c ∷ d ∷ [])) ≡ Some Int
        → IsPermutation (flat (head.Int op.Mul) ss (Apply (head.Int op.Mul) ss (a ∷ b ∷ [])))
        (flat (head.Int op.Mul) ss (Apply (head.Int op.Mul) ss (c ∷ d ∷ [])))
        → ev sig y num reduce choosing assigned (Apply (head.Int op.Mul) ss (a ∷ b ∷ [])) ≡ ev sig y num reduce choosing assigned
        (Apply (head.Int op.Mul) ss (c ∷ d ∷ []))
    int_products ss a b c d p q u v e =
        from_duals _ _ (λ j. duals_alike j (head.Int op.Mul) ss Int (factors_int sig ss) (int_node j ss) _ _ p q e)
        (numbers _ Int u (inl refl)) (numbers _ Int v (inl refl))

    pub real_products : (ss : List Sort) (a b c d : Term) → IsFit sig (Apply (head.Real op.Mul) ss (a ∷ b ∷ []))
        → IsFit sig (Apply (head.Real op.Mul) ss (c ∷ d ∷ []))
        → sort_of sig (Apply (head.Real op.Mul) ss (a ∷ b ∷ [])) ≡ Some Real
        → sort_of sig (Apply (head.Real op.Mul) ss (c ∷ d ∷ [])) ≡ Some Real
        → IsPermutation (flat (head.Real op.Mul) ss (Apply (head.Real op.Mul) ss (a ∷ b ∷ [])))
        (flat (head.Real op.Mul) ss (Apply (head.Real op.Mul) ss (c ∷ d ∷ [])))
        → ev sig y num reduce choosing assigned (Apply (head.Real op.Mul) ss (a ∷ b ∷ [])) ≡ ev sig y num reduce choosing assigned
        (Apply (head.Real op.Mul) ss (c ∷ d ∷ []))
    real_products ss a b c d p q u v e =
        from_duals _ _ (λ j. duals_alike j (head.Real op.Mul) ss Real (factors_real sig ss) (real_node j ss) _ _ p q e)
        (numbers _ Real u (inr refl)) (numbers _ Real v (inr refl))
