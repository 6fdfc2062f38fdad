-- What an AC application joins can be read off its value.
-- A value is sane where each new leaf that stands for a join joins elements that count as themselves alone.
use Rattle.std.specs.Prelude.{ℕ, zero, suc, ◌+◌, ◌-◌, ◌<◌, ◌≤◌, nat_lt, Bool, true, false, cond, ◌&&◌, List, [], ◌∷◌, ◌++◌, ◌≡◌, map, length, slice_get, Option, Some, None}
use Rattle.std.specs.List.{AllByRecursion}
use Rattle.std.proofs.Common.{inl, inr}
use Rattle.std.proofs.lemmas.Bool.Decides.{nat_tests}
use mathlib.Core.Path.{refl, sym, ap, ◌∙◌, subst}
use native.Mathlib.Omega.{arith}
use Rattle.ae_math.specs.Fractions.{ℚ, ℚ_discrete, zero_ℚ, one_ℚ, neg_ℚ, inverse_ℚ, ◌+ℚ◌, ◌*ℚ◌, ratio}
use Rattle.ae_base.specs.Decided.{decided, pick}
use Rattle.ae_core.specs.Decided.{Head_discrete}
use Rattle.ae_core.specs.Inner.Induction.{by_terms}
use Rattle.ae_rules.specs.Instances.{choices_of}
use Rattle.ae_core.specs.Sorts.{sort_of, same_sort, same_sorts, is_numeric}
use Rattle.ae_base.specs.Options.{or_else, only, ◌>>=◌}
use Rattle.ae_rules.specs.Linear.{form, is_number}
use Rattle.ae_math.specs.Forms.{is_zero}
use Rattle.ae_core.specs.declared.terms.Sort.{Sort, Int, out-Sort}
use Rattle.ae_core.specs.declared.terms.Term.{Term, Bound, Num, Fresh, Apply'}
use Rattle.ae_core.specs.declared.terms.Head.{Head}
use Rattle.ae_core.specs.declared.terms.Head.TheVariants as head
use Rattle.ae_core.specs.declared.terms.Op.TheVariants as op
use Rattle.ae_core.specs.declared.problems.Signature.{Signature}
use Rattle.ae_multiset.specs.Multisets.{count}
use Rattle.ae_multiset.specs.Rewriting.{ReducesTo}
use Rattle.ae_multiset.specs.Rewriting.ReducesTo.{done, more as one_step}
use Rattle.ae_multiset.proofs.Counts.{count-append, count_other, count_same}
use Rattle.std.proofs.lemmas.Bool.{cases_eq, cases_lt, and_parts}
use Rattle.ae_journal.specs.Values.{Val, Vals, Val_discrete, Sum, number, leaf, fields, none, more, once, constant_val, nothing, plus_val, minus_val, scale_val}
use Rattle.ae_journal.specs.Values.{vals, val_at, meaning, put_part, enter, settled, scaled, sum_in}
use Rattle.ae_journal.specs.Systems.{IsCompleted, IsName, IsRule, IsRepresentative, Represents, ac_sort, value_at, own, linear, quotient, record_fields, IsLeaf, IsOver, AreOver}
use Rattle.ae_journal.specs.Keys.{Key, Numbering, applied, constant, joined, held, place}
use Rattle.ae_journal.specs.Evaluation.{Reduction, origin, origin_of, first_leaf, first_in, first_of, new_at, new, new_leaf, depth_of, each_place, chooses}
use Rattle.ae_journal.specs.Evaluation.{choice, constructor_value, first_value, new_single, element, representative, least_from, value_of_element, held_by}
use Rattle.ae_journal.specs.Evaluation.{members, members_by, whole, result_sort, ev, value_of, named, field_at, free_value, other_value, applied_value, is_ac}
use Rattle.ae_evaluation.proofs.Decisions.{same_head, same_one, same_list, yes_sort, yes_sorts}
use Rattle.ae_evaluation.proofs.Found.{found_named, found_value}
use Rattle.ae_evaluation.proofs.Linear.{ev-Apply, ev-Bound, ev-Fresh, ev-Num}
use Rattle.ae_num.specs.declared.forms.Value.{Value}
use Rattle.ae_journal.specs.declared.systems.System.{System}
use Rattle.ae_base.proofs.Decided.{decided_of}
use Rattle.ae_base.proofs.ListFacts.{value_at as at_place}
use Rattle.std.proofs.lemmas.Option.{slice_get_within, same_Some}

module _ (sig : Signature) (y : System) (num : Numbering) (reduce : Head → List Sort → List ℕ → List ℕ) (choosing : Bool) where
  abbrev pub sort_for : Head → List Sort → Sort
  sort_for h ss = or_else (result_sort sig h ss) Int

  module _ (completed : IsCompleted sig y) where
    pub term_at : (n : ℕ) (v : Val) → value_at y n ≡ Some v → (t : Term) × IsName y n t
    term_at n v e = go (slice_get y.values n) refl e
      where
        go : (o : Option Value) → o ≡ slice_get y.values n → (o >>= λ w. Some (meaning w)) ≡ Some v → (t : Term) × IsName y n t
        go None p e = absurd (cc)
        go (Some w) p e = let b = slice_get_within y.values n w (sym p) in at_place y.names n (omega (arith, b, completed.values))

    -- ---- elements
    abbrev Found : Val → ℕ → List Term → List Value → ℕ → Type 0
    Found v n ts ws r = (m : ℕ) × (w : Value) × (r ≡ m + n) × (slice_get ws m ≡ Some w) × (meaning w ≡ v) × (m < length ts)

    later : (v : Val) (n : ℕ) (t : Term) (ts : List Term) (w : Value) (ws : List Value) (r : ℕ) → Found v (suc n) ts ws r
        → Found v n (t ∷ ts) (w ∷ ws) r
    later v n t ts w ws r h = (suc h.0, h.1, omega (arith, h.2), h.3, h.4, omega (arith, h.5))

    least_is : (s : Sort) (v : Val) (n : ℕ) (ts : List Term) (ws : List Value) (r : ℕ)
        → least_from sig y num reduce choosing s v n ts ws ≡ Some r → Found v n ts ws r
    least_is s v n [] ws r e = absurd (cc)
    least_is s v n (t ∷ ts) [] r e = absurd (cc)
    least_is s v n (t ∷ ts) (w ∷ ws) r e =
        by_test (least_is s v (suc n) ts ws r) (or_else (sort_of sig t >>= λ o. Some (same_sort o s)) false) (Val_discrete (meaning w) v) e
      where
        by_test : (least_from sig y num reduce choosing s v (suc n) ts ws ≡ Some r → Found v (suc n) ts ws r)
            → (b : Bool) (d : Dec (meaning w ≡ v))
            → cond (b && decided d) (Some n) (least_from sig y num reduce choosing s v (suc n) ts ws) ≡ Some r
            → Found v n (t ∷ ts) (w ∷ ws) r
        by_test ih true (yes d) e = let f : n ≡ r = cc in (0, w, sym f ∙ omega arith, refl, d, omega arith)
        by_test ih true (no d) e = later v n t ts w ws r (ih e)
        by_test ih false d e = later v n t ts w ws r (ih e)

    low_value : (r : ℕ) (v : Val) → r < length y.names → value_at y r ≡ Some v → value_of_element sig y num reduce choosing r ≡ v
    low_value r v h e =
        let z : nat_lt r (length y.names) ≡ true = grind (arith, nat_tests) in
        (λ i. cond (z i) (or_else (value_at y r) nothing) (held_by sig y num reduce choosing (num.key (r - length y.names)) r)) ∙ ap
        (λ o. or_else o nothing) e

    held_value : (s : Sort) (v : Val) → value_of_element sig y num reduce choosing (new_leaf sig y num reduce choosing (held s v)) ≡ v
    held_value s v =
        let k = new_leaf sig y num reduce choosing (held s v) in
        let z : nat_lt k (length y.names) ≡ false = grind (arith, nat_tests) in
        let w : k - length y.names ≡ num.code (held s v) = omega arith in
        (λ i. cond (z i) (or_else (value_at y k) nothing) (held_by sig y num reduce choosing (num.key (k - length y.names)) k))
        ∙ (λ i. held_by sig y num reduce choosing ((ap num.key w ∙ num.back (held s v)) i) k)

    pub element_value : (s : Sort) (v : Val) → value_of_element sig y num reduce choosing (element sig y num reduce choosing s v) ≡ v
    element_value s v = by_name (representative sig y num reduce choosing s v) refl
      where
        by_name : (o : Option ℕ) → o ≡ representative sig y num reduce choosing s v
            → value_of_element sig y num reduce choosing (or_else o (new_leaf sig y num reduce choosing (held s v))) ≡ v
        by_name None e = held_value s v
        by_name (Some r) e =
            let h = least_is s v 0 y.names y.values r (sym e) in
            let z : h.0 ≡ r = omega (arith, h.2) in
            low_value r v (omega (arith, h.5, z))
            (ap (value_at y) (sym z) ∙ ap (λ o. o >>= λ w. Some (meaning w)) h.3 ∙ ap (λ u. Some u) h.4)

    -- ---- representatives count as themselves
    finds : (s : Sort) (v : Val) (n : ℕ) (ts : List Term) (ws : List Value) (m : ℕ) (t : Term) (w : Value) → slice_get ts m ≡ Some t
        → slice_get ws m ≡ Some w → sort_of sig t ≡ Some s → meaning w ≡ v
        → ((j : ℕ) (t' : Term) (w' : Value) → slice_get ts j ≡ Some t' → slice_get ws j ≡ Some w' → sort_of sig t' ≡ Some s → meaning w' ≡ v
        → m ≤ j)
        → least_from sig y num reduce choosing s v n ts ws ≡ Some (m + n)
    finds s v n [] ws m t w a b c d h = absurd (cc)
    finds s v n (u ∷ us) [] m t w a b c d h = absurd (cc)
    finds s v n (u ∷ us) (x ∷ xs) zero t w a b c d h =
        let e : u ≡ t = cc in
        let f : x ≡ w = cc in
        let k : or_else (sort_of sig u >>= λ o. Some (same_sort o s)) false ≡ true =
        ap (λ o. or_else (o >>= λ o. Some (same_sort o s)) false) (ap (sort_of sig) e ∙ c) ∙ yes_sort s in
        let l : decided (Val_discrete (meaning x) v) ≡ true = decided_of (Val_discrete (meaning x) v) (ap meaning f ∙ d) in
        let z : n ≡ zero + n = omega arith in
        (λ i. cond (k i && l i) (Some n) (least_from sig y num reduce choosing s v (suc n) us xs)) ∙ ap (λ (j : ℕ). Some j) z
    finds s v n (u ∷ us) (x ∷ xs) (suc m) t w a b c d h =
        by_test (or_else (sort_of sig u >>= λ o. Some (same_sort o s)) false) refl (Val_discrete (meaning x) v)
        (finds s v (suc n) us xs m t w a b c d (λ j t' w' p q r k. let i = h (suc j) t' w' p q r k in omega (arith, i)))
      where
        sort_is : (o : Option Sort) → or_else (o >>= λ r. Some (same_sort r s)) false ≡ true → o ≡ Some s
        sort_is None e = absurd (cc)
        sort_is (Some r) e = ap (λ (q : Sort). Some q) (same_one r s e)

        by_test : (b : Bool) → b ≡ or_else (sort_of sig u >>= λ o. Some (same_sort o s)) false → (d : Dec (meaning x ≡ v))
            → least_from sig y num reduce choosing s v (suc n) us xs ≡ Some (m + suc n)
            → cond (b && decided d) (Some n) (least_from sig y num reduce choosing s v (suc n) us xs) ≡ Some (suc m + n)
        by_test true p (yes d) r = let i = h 0 u x refl refl (sort_is (sort_of sig u) (sym p)) d in absurd (omega (arith, i))
        by_test true p (no d) r = r ∙ ap (λ (j : ℕ). Some j) (omega arith)
        by_test false p d r = r ∙ ap (λ (j : ℕ). Some j) (omega arith)

    value_of_name : (n : ℕ) (v : Val) → value_at y n ≡ Some v → (w : Value) × (slice_get y.values n ≡ Some w) × (meaning w ≡ v)
    value_of_name n v e = go (slice_get y.values n) refl e
      where
        go : (o : Option Value) → o ≡ slice_get y.values n → (o >>= λ w. Some (meaning w)) ≡ Some v
            → (w : Value) × (slice_get y.values n ≡ Some w) × (meaning w ≡ v)
        go None p e = absurd (cc)
        go (Some w) p e = let f : meaning w ≡ v = cc in (w, sym p, f)

    pub element_of_representative : (s : Sort) (v : Val) (r : ℕ) → Represents sig y s v r → element sig y num reduce choosing s v ≡ r
    element_of_representative s v r p =
        let w = value_of_name r v p.has.value in
        let z : r + 0 ≡ r = omega arith in
        let found : representative sig y num reduce choosing s v ≡ Some (r + 0) =
        finds s v 0 y.names y.values r p.has.term w.0 p.has.is w.1 p.has.sort w.2
        (λ j t' w' a b c d. p.least j
        (record { term = t'; is = a; sort = c; value = ap (λ o. o >>= λ w. Some (meaning w)) b ∙ ap (λ u. Some u) d })) in
        ap (λ o. or_else o (new_leaf sig y num reduce choosing (held s v))) found ∙ z

    mutual
      low_first : (s : Sort) (v : Val) (k : ℕ) → IsOver sig y s v → first_leaf sig y num reduce choosing v ≡ Some k → k < length y.names
      low_first s (number f) k h e = go f.parts h.1 e
        where
          go : (ps : List (ℕ × ℚ)) → AllByRecursion (λ p. IsLeaf sig y s p.0) ps → first_of sig y num reduce choosing ps ≡ Some k
              → k < length y.names
          go [] h e = absurd (cc)
          go (p ∷ ps) h e = let f : p.0 ≡ k = cc in subst (λ (j : ℕ). j < length y.names) f (slice_get_within y.names p.0 (h.0).term (h.0).is)
      low_first s (leaf n) k h e = let f : n ≡ k = cc in subst (λ (j : ℕ). j < length y.names) f (slice_get_within y.names n (h.2).term (h.2).is)
      low_first s (fields vs) k h e = low_in h.0 vs k h.2 e

      low_in : (ss : List Sort) (vs : Vals) (k : ℕ) → AreOver sig y ss vs → first_in sig y num reduce choosing vs ≡ Some k
          → k < length y.names
      low_in [] none k h e = absurd (cc)
      low_in [] (more v vs) k h e = absurd h
      low_in (s ∷ ss) none k h e = absurd h
      low_in (s ∷ ss) (more v vs) k h e = low_first s v k h.0 e

    pub no_origin : (s : Sort) (v : Val) → IsOver sig y s v → origin_of sig y num reduce choosing v ≡ None
    no_origin s v h = go (first_leaf sig y num reduce choosing v) refl
      where
        go : (o : Option ℕ) → o ≡ first_leaf sig y num reduce choosing v
            → ◌≡◌ {A = Option Key}
            (o >>= λ n. cond (nat_lt n (length y.names)) None
            (num.key (n - length y.names) >>= λ k. Some (origin sig y num reduce choosing k))) None
        go None e = refl
        go (Some k) e =
            let l = low_first s v k h (sym e) in
            let z : nat_lt k (length y.names) ≡ true = grind (arith, nat_tests) in
            ap (λ (b : Bool). cond b None (num.key (k - length y.names) >>= λ q. Some (origin sig y num reduce choosing q))) z

    pub value_of_representative : (s : Sort) (v : Val) (r : ℕ) → Represents sig y s v r → value_of_element sig y num reduce choosing r ≡ v
    value_of_representative s v r p = low_value r v (slice_get_within y.names r p.has.term p.has.is) p.has.value

    -- the value of a name counts as its representative alone
    pub members_of_named : (h : Head) (ss : List Sort) (v : Val) (r : ℕ) → Represents sig y (sort_for h ss) v r
        → members sig y num reduce choosing h ss (sort_for h ss) v ≡ r ∷ []
    members_of_named h ss v r p =
        ap (members_by sig y num reduce choosing h ss (sort_for h ss) v)
        (no_origin (sort_for h ss) v (completed.over (sort_for h ss) v r p.has))
        ∙ ap (λ (k : ℕ). k ∷ []) (element_of_representative (sort_for h ss) v r p)

    joined_sort : (h : Head) (ss : List Sort) (s : Sort) → ac_sort sig h ss ≡ Some s → sort_for h ss ≡ s
    joined_sort (head.Symbol n) ss s e = ap (λ o. or_else o Int) e
    joined_sort (head.Int op.Mul) ss s e = cc
    joined_sort (head.Real op.Mul) ss s e = cc
    joined_sort h ss s e = absurd (cc)

    all_times : (P : ℕ → Type 0) (ns : List ℕ) (x : ℕ) → AllByRecursion P ns → 0 < count x ns → P x
    all_times P [] x h p = absurd (omega arith)
    all_times P (n ∷ ns) x h p =
        elim (cases_eq x n) as
        (λ _. P x) [ inl e ↦ subst P (sym e) h.0 | inr d ↦ all_times P ns x h.1 (omega (arith, count_other x n ns d, p)) ]

    -- a new value that is no constructor's has its own leaf
    pub alone_new : (s : Sort) (q : Key) → chooses sig y num reduce choosing q ≡ false
        → own s (new_leaf sig y num reduce choosing q) ≡ new_single sig y num reduce choosing s q
    alone_new s q e =
        ap (λ b. or_else (only b (first_value sig y num reduce choosing (choices_of sig (out-Sort s))))
        (own s (new_leaf sig y num reduce choosing q))) (sym e)

    module _ (some_field : (s : Sort) → record_fields sig s ≡ Some [] → ⊥) where
      origin_of_own : (s : Sort) (q : Key)
          → origin_of sig y num reduce choosing (own s (new_leaf sig y num reduce choosing q)) ≡ Some (origin sig y num reduce choosing q)
      origin_of_own s q = by_test (is_numeric s)
        where
          at : (length y.names + num.code q) - length y.names ≡ num.code q
          at = omega arith

          high : nat_lt (length y.names + num.code q) (length y.names) ≡ false
          high = grind (arith, nat_tests)

          told : ◌≡◌ {A = Option Key}
              (cond (nat_lt (length y.names + num.code q) (length y.names)) None
              (num.key (length y.names + num.code q - length y.names) >>= λ k. Some (origin sig y num reduce choosing k)))
              (Some (origin sig y num reduce choosing q))
          told = λ i. cond (high i) None ((ap num.key at ∙ num.back q) i >>= λ k. Some (origin sig y num reduce choosing k))

          by_test : (b : Bool)
              → origin_of sig y num reduce choosing
              (cond b (once (new_leaf sig y num reduce choosing q)) (leaf (new_leaf sig y num reduce choosing q))) ≡ Some
              (origin sig y num reduce choosing q)
          by_test true = told
          by_test false = told

      origin_of_single : (s : Sort) (q : Key) → chooses sig y num reduce choosing q ≡ false
          → origin_of sig y num reduce choosing (new_single sig y num reduce choosing s q) ≡ Some (origin sig y num reduce choosing q)
      origin_of_single s q e = ap (origin_of sig y num reduce choosing) (sym (alone_new s q e)) ∙ origin_of_own s q

      abbrev OriginOf : (Sort → Key → Val) → Type 0
      OriginOf f =
          (s : Sort) (q : Key) → chooses sig y num reduce choosing q ≡ false → origin_of sig y num reduce choosing (f s q) ≡ Some
          (origin sig y num reduce choosing q)

      origin_of_new : (d : ℕ) → OriginOf (new_at sig y num reduce choosing d)
      origin_of_new zero s q c = origin_of_single s q c
      origin_of_new (suc d) s q c = by_fields (origin_of_new d) (record_fields sig s) refl
        where
          by_fields : OriginOf (new_at sig y num reduce choosing d) → (o : Option (List Sort)) → o ≡ record_fields sig s
              → origin_of sig y num reduce choosing
              (elim o as (λ _. Val) [
                | None ↦ new_single sig y num reduce choosing s q
                | Some ss ↦ fields
                    (each_place (new_at sig y num reduce choosing d) 0 ss q)
              ])
              ≡ Some (origin sig y num reduce choosing q)
          by_fields r None e = origin_of_single s q c
          by_fields r (Some []) e = absurd (some_field s (sym e))
          by_fields r (Some (o ∷ ss)) e = r o (place q 0) c

      members_of_new : (h : Head) (ss : List Sort) (s : Sort) (ns : List ℕ)
          → members sig y num reduce choosing h ss s (new sig y num reduce choosing s (joined h ss ns)) ≡ ns
      members_of_new h ss s ns =
          let v = new sig y num reduce choosing s (joined h ss ns) in
          let a : decided (Head_discrete h h) ≡ true = decided_of (Head_discrete h h) refl in
          let b : decided (Val_discrete v v) ≡ true = decided_of (Val_discrete v v) refl in
          ap (members_by sig y num reduce choosing h ss s v) (origin_of_new (depth_of sig s) s (joined h ss ns) refl)
          ∙ (λ i. cond (a i && yes_sorts ss i && b i) ns (element sig y num reduce choosing s v ∷ []))

    -- ---- values whose new leaves join elements of which something is so
    module _ (Is : Head → List Sort → ℕ → Type 0) where
      mutual
        pub data SaneLeaf : ℕ → Type 0 where
          of_name : (k : ℕ) → k < length y.names → SaneLeaf k
          of_key : (k : ℕ) → length y.names ≤ k → SaneKey (num.key (k - length y.names)) → SaneLeaf k

        pub data SaneKey : Option Key → Type 0 where
          no_key : SaneKey None
          no_join : (q : Key) → ((i : Head) (us : List Sort) (ns : List ℕ) → origin sig y num reduce choosing q ≡ joined i us ns → ⊥)
              → SaneKey (Some q)
          a_join : (q : Key) (i : Head) (us : List Sort) (ns : List ℕ) → origin sig y num reduce choosing q ≡ joined i us ns
              → SaneElements i us ns → SaneKey (Some q)

        pub data SaneElements : Head → List Sort → List ℕ → Type 0 where
          elements : (i : Head) (us : List Sort) (ns : List ℕ) → ((x : ℕ) → 0 < count x ns → SaneElement i us x) → SaneElements i us ns

        pub data SaneElement : Head → List Sort → ℕ → Type 0 where
          an_element : (i : Head) (us : List Sort) (x : ℕ) → Is i us x → SaneVal (value_of_element sig y num reduce choosing x)
              → SaneElement i us x

        pub data SaneVal : Val → Type 0 where
          of_number : (f : Sum) → SaneParts f.parts → SaneVal (number f)
          of_leaf : (k : ℕ) → SaneLeaf k → SaneVal (leaf k)
          of_fields : (vs : Vals) → SaneVals vs → SaneVal (fields vs)

        pub data SaneParts : List (ℕ × ℚ) → Type 0 where
          no_part : SaneParts []
          a_part : (p : ℕ × ℚ) (ps : List (ℕ × ℚ)) → SaneLeaf p.0 → SaneParts ps → SaneParts (p ∷ ps)

        pub data SaneVals : Vals → Type 0 where
          no_val : SaneVals none
          a_val : (v : Val) (vs : Vals) → SaneVal v → SaneVals vs → SaneVals (more v vs)

      -- ---- sums
      parts_append : (ps qs : List (ℕ × ℚ)) → SaneParts ps → SaneParts qs → SaneParts (ps ++ qs)
      parts_append [] qs s t = t
      parts_append (p ∷ ps) qs (a_part _ _ l s) t = a_part p (ps ++ qs) l (parts_append ps qs s t)

      parts_scaled : (x : ℚ) (ps : List (ℕ × ℚ)) → SaneParts ps → SaneParts (scaled x ps)
      parts_scaled x [] s = no_part
      parts_scaled x (p ∷ ps) (a_part _ _ l s) = a_part (p.0, x *ℚ p.1) (scaled x ps) l (parts_scaled x ps s)

      parts_put : (k : ℕ) (x : ℚ) (ps : List (ℕ × ℚ)) → SaneLeaf k → SaneParts ps → SaneParts (put_part k x ps)
      parts_put k x ps l s =
          elim (ℚ_discrete x zero_ℚ) as
          (λ d. SaneParts (cond (pick d true false) ps ((k, x) ∷ ps))) [ yes e ↦ s | no n ↦ a_part (k, x) ps l s ]

      parts_enter : (k : ℕ) (x : ℚ) (ps : List (ℕ × ℚ)) → SaneLeaf k → SaneParts ps → SaneParts (enter k x ps)
      parts_enter k x [] l s = parts_put k x [] l s
      parts_enter k x (p ∷ ps) l (a_part _ _ m s) = by_test (parts_enter k x ps l s) (nat_lt p.0 k) (nat_lt k p.0)
        where
          by_test : SaneParts (enter k x ps) → (b c : Bool)
              → SaneParts (cond b (p ∷ enter k x ps) (cond c (put_part k x (p ∷ ps)) (put_part k (x +ℚ p.1) ps)))
          by_test r true c = a_part p (enter k x ps) m r
          by_test r false true = parts_put k x (p ∷ ps) l (a_part p ps m s)
          by_test r false false = parts_put k (x +ℚ p.1) ps l s

      parts_settled : (ps : List (ℕ × ℚ)) → SaneParts ps → SaneParts (settled ps)
      parts_settled [] s = no_part
      parts_settled (p ∷ ps) (a_part _ _ l s) = parts_enter p.0 p.1 (settled ps) l (parts_settled ps s)

      parts_in : (v : Val) → SaneVal v → SaneParts (sum_in v).parts
      parts_in (number f) (of_number _ s) = s
      parts_in (leaf k) s = no_part
      parts_in (fields vs) s = no_part

      pub plus_sane : (v w : Val) → SaneVal v → SaneVal w → SaneVal (plus_val v w)
      plus_sane v w s t = of_number _ (parts_settled _ (parts_append _ _ (parts_in v s) (parts_in w t)))

      pub scale_sane : (x : ℚ) (v : Val) → SaneVal v → SaneVal (scale_val x v)
      scale_sane x v s = of_number _ (parts_settled _ (parts_scaled x _ (parts_in v s)))

      pub number_sane : (x : ℚ) → SaneVal (constant_val x)
      number_sane x = of_number _ no_part

      -- ---- linear operations
      SaneArgs : List (Term × Val) → Type 0
      SaneArgs args = AllByRecursion (λ a. SaneVal a.1) args

      product_sane : (p q : Bool) (ka kb : ℚ) (va vb v : Val) → SaneVal va → SaneVal vb
          → cond p (Some (scale_val ka vb)) (cond q (Some (scale_val kb va)) None) ≡ Some v → SaneVal v
      product_sane true q ka kb va vb v s t e = let f : scale_val ka vb ≡ v = cc in subst SaneVal f (scale_sane ka vb t)
      product_sane false true ka kb va vb v s t e = let f : scale_val kb va ≡ v = cc in subst SaneVal f (scale_sane kb va s)
      product_sane false false ka kb va vb v s t e = absurd (cc)

      zero_sane : (z : Bool) (x : ℚ) (w v : Val) → SaneVal w → cond z None (Some (scale_val x w)) ≡ Some v → SaneVal v
      zero_sane true x w v s e = absurd (cc)
      zero_sane false x w v s e = let f : scale_val x w ≡ v = cc in subst SaneVal f (scale_sane x w s)

      quotient_sane : (w : Val) (b : Term) (v : Val) → SaneVal w → quotient w b ≡ Some v → SaneVal v
      quotient_sane w (Bound n) v s e = absurd (cc)
      quotient_sane w (Num p q r) v s e = zero_sane (is_zero (ratio p q)) (inverse_ℚ (ratio p q)) w v s e
      quotient_sane w (Fresh n o) v s e = absurd (cc)
      quotient_sane w (Apply' h ss shape row) v s e = absurd (cc)

      pub linear_sane : (h : Head) (args : List (Term × Val)) (v : Val) → AllByRecursion (λ (a : Term × Val). SaneVal a.1) args
          → linear h args ≡ Some v → SaneVal v
      linear_sane (head.Int op.Add) (a ∷ b ∷ []) v s e =
          let f : plus_val a.1 b.1 ≡ v = cc in subst SaneVal f (plus_sane a.1 b.1 s.0 (s.1).0)
      linear_sane (head.Int op.Sub) (a ∷ b ∷ []) v s e =
          let f : minus_val a.1 b.1 ≡ v = cc in subst SaneVal f (plus_sane a.1 _ s.0 (scale_sane (neg_ℚ one_ℚ) b.1 (s.1).0))
      linear_sane (head.Int op.Neg) (a ∷ []) v s e =
          let f : scale_val (neg_ℚ one_ℚ) a.1 ≡ v = cc in subst SaneVal f (scale_sane (neg_ℚ one_ℚ) a.1 s.0)
      linear_sane (head.Int op.Mul) (a ∷ b ∷ []) v s e =
          product_sane (is_number (form a.0)) (is_number (form b.0)) (form a.0).constant (form b.0).constant a.1 b.1 v s.0 (s.1).0 e
      linear_sane (head.Real op.Add) (a ∷ b ∷ []) v s e =
          let f : plus_val a.1 b.1 ≡ v = cc in subst SaneVal f (plus_sane a.1 b.1 s.0 (s.1).0)
      linear_sane (head.Real op.Sub) (a ∷ b ∷ []) v s e =
          let f : minus_val a.1 b.1 ≡ v = cc in subst SaneVal f (plus_sane a.1 _ s.0 (scale_sane (neg_ℚ one_ℚ) b.1 (s.1).0))
      linear_sane (head.Real op.Neg) (a ∷ []) v s e =
          let f : scale_val (neg_ℚ one_ℚ) a.1 ≡ v = cc in subst SaneVal f (scale_sane (neg_ℚ one_ℚ) a.1 s.0)
      linear_sane (head.Real op.Mul) (a ∷ b ∷ []) v s e =
          product_sane (is_number (form a.0)) (is_number (form b.0)) (form a.0).constant (form b.0).constant a.1 b.1 v s.0 (s.1).0 e
      linear_sane (head.Real op.Div) (a ∷ b ∷ []) v s e = quotient_sane a.1 b.0 v s.0 e
      linear_sane h args v s e = absurd (cc)

      -- ---- new values
      sane_place : (q : Key) (i : ℕ) → SaneKey (Some q) → SaneKey (Some (place q i))
      sane_place q i (no_join _ n) = no_join (place q i) n
      sane_place q i (a_join _ h us ns e s) = a_join (place q i) h us ns e s

      sane_new_leaf : (q : Key) → SaneKey (Some q) → SaneLeaf (new_leaf sig y num reduce choosing q)
      sane_new_leaf q s =
          let z : length y.names + num.code q - length y.names ≡ num.code q = omega arith in
          of_key _ (omega arith) (subst SaneKey (sym (ap num.key z ∙ num.back q)) s)

      sane_own : (s : Sort) (k : ℕ) → SaneLeaf k → SaneVal (own s k)
      sane_own s k l = by_test (is_numeric s)
        where
          by_test : (b : Bool) → SaneVal (cond b (once k) (leaf k))
          by_test true = of_number _ (a_part (k, one_ℚ) [] l no_part)
          by_test false = of_leaf k l

      sane_each : (f : Sort → Key → Val) → ((s : Sort) (q : Key) → SaneKey (Some q) → SaneVal (f s q)) → (i : ℕ) (ss : List Sort) (q : Key)
          → SaneKey (Some q) → SaneVals (each_place f i ss q)
      sane_each f h i [] q k = no_val
      sane_each f h i (s ∷ ss) q k = a_val _ _ (h s (place q i) (sane_place q i k)) (sane_each f h (suc i) ss q k)

      low_of : (k : ℕ) (t : Term) → IsName y k t → SaneLeaf k
      low_of k t e = of_name k (slice_get_within y.names k t e)

      parts_over : (s : Sort) (ps : List (ℕ × ℚ)) → AllByRecursion (λ p. IsLeaf sig y s p.0) ps → SaneParts ps
      parts_over s [] h = no_part
      parts_over s (p ∷ ps) h = a_part p ps (low_of p.0 (h.0).term (h.0).is) (parts_over s ps h.1)

      mutual
        sane_over : (s : Sort) (v : Val) → IsOver sig y s v → SaneVal v
        sane_over s (number f) h = of_number f (parts_over s f.parts h.1)
        sane_over s (leaf k) h = of_leaf k (low_of k (h.2).term (h.2).is)
        sane_over s (fields vs) h = of_fields vs (all_over h.0 vs h.2)

        all_over : (ss : List Sort) (vs : Vals) → AreOver sig y ss vs → SaneVals vs
        all_over [] none h = no_val
        all_over [] (more v vs) h = absurd h
        all_over (s ∷ ss) none h = absurd h
        all_over (s ∷ ss) (more v vs) h = a_val v vs (sane_over s v h.0) (all_over ss vs h.1)

      pub sane_name : (n : ℕ) (v : Val) → value_at y n ≡ Some v → SaneVal v
      sane_name n v e =
          let t = term_at n v e in
          elim (completed.sorted n t.0 t.1) as (λ _. SaneVal v) [
            | inl s ↦ sane_over s.0 v (completed.over s.0 v n (record { term = t.0; is = t.1; sort = s.1; value = e }))
            | inr p ↦ let f : leaf n ≡ v = same_Some (leaf n) v (sym (completed.predicate_value n t.0 t.1 p) ∙ e) in subst SaneVal f
                (of_leaf n (low_of n t.0 t.1))
          ]

      pub sane_found : (v : Val) → (m : ℕ) × (w : Value) × (slice_get y.values m ≡ Some w) × (meaning w ≡ v) → SaneVal v
      sane_found v r = sane_name r.0 v (ap (λ o. o >>= λ w. Some (meaning w)) r.2 ∙ ap (λ u. Some u) r.3)

      pub sane_or : (o : Option Val) (d : Val) → ((v : Val) → o ≡ Some v → SaneVal v) → SaneVal d → SaneVal (or_else o d)
      sane_or None d f s = s
      sane_or (Some v) d f s = f v refl

      -- ---- constructors, and new values
      constructor_sane : (h : Head) → SaneVal (constructor_value sig y num reduce choosing h)
      constructor_sane h =
          sane_or (named sig y num reduce choosing h [] []) _ (λ v e. sane_found v (found_named sig y num reduce choosing h [] [] y.names y.values v e))
          (of_leaf _ (sane_new_leaf (applied h [] []) (no_join (applied h [] []) (λ i us ns e. cc))))

      choice_sane : (b : Bool) (o : Option (List Head)) (v : Val) → only b (first_value sig y num reduce choosing o) ≡ Some v → SaneVal v
      choice_sane true (Some (h ∷ hs)) v e =
          let f : constructor_value sig y num reduce choosing h ≡ v = cc in subst SaneVal f (constructor_sane h)
      choice_sane true (Some []) v e = absurd (cc)
      choice_sane true None v e = absurd (cc)
      choice_sane false o v e = absurd (cc)

      sane_single : (s : Sort) (q : Key) → SaneKey (Some q) → SaneVal (new_single sig y num reduce choosing s q)
      sane_single s q k =
          sane_or (choice sig y num reduce choosing s q) _
          (λ v e. choice_sane (chooses sig y num reduce choosing q) (choices_of sig (out-Sort s)) v e)
          (sane_own s _ (sane_new_leaf q k))

      abbrev SaneNew : (Sort → Key → Val) → Type 0
      SaneNew f = (s : Sort) (q : Key) → SaneKey (Some q) → SaneVal (f s q)

      pub sane_new : (d : ℕ) (s : Sort) (q : Key) → SaneKey (Some q) → SaneVal (new_at sig y num reduce choosing d s q)
      sane_new zero s q k = sane_single s q k
      sane_new (suc d) s q k = by_fields (sane_new d) (record_fields sig s)
        where
          by_fields : SaneNew (new_at sig y num reduce choosing d) → (o : Option (List Sort))
              → SaneVal (elim o as
              (λ _. Val) [
                | None ↦ new_single sig y num reduce choosing s q
                | Some ss ↦ fields
                    (each_place (new_at sig y num reduce choosing d) 0 ss q)
              ])
          by_fields r None = sane_single s q k
          by_fields r (Some ss) = of_fields _ (sane_each (new_at sig y num reduce choosing d) r 0 ss q k)

      -- the leaf that a value's origin is read off
      sane_first : (v : Val) (k : ℕ) → SaneVal v → first_leaf sig y num reduce choosing v ≡ Some k → SaneLeaf k
      sane_first (number f) k (of_number _ s) e = go f.parts s e
        where
          go : (ps : List (ℕ × ℚ)) → SaneParts ps → first_of sig y num reduce choosing ps ≡ Some k → SaneLeaf k
          go [] s e = absurd (cc)
          go (p ∷ ps) (a_part _ _ l s) e = let f : p.0 ≡ k = cc in subst SaneLeaf f l
      sane_first (leaf n) k (of_leaf _ l) e = let f : n ≡ k = cc in subst SaneLeaf f l
      sane_first (fields none) k (of_fields _ s) e = absurd (cc)
      sane_first (fields (more v vs)) k (of_fields _ (a_val _ _ s ss)) e = sane_first v k s e

      -- a join that a sane value comes from has sane elements
      origin_sane : (v : Val) (i : Head) (us : List Sort) (ns : List ℕ) → SaneVal v
          → origin_of sig y num reduce choosing v ≡ Some (joined i us ns) → SaneElements i us ns
      origin_sane v i us ns s e = by_leaf (first_leaf sig y num reduce choosing v) refl e
        where
          by_key : (o : Option Key) → SaneKey o → (o >>= λ q. Some (origin sig y num reduce choosing q)) ≡ Some (joined i us ns)
              → SaneElements i us ns
          by_key None k e = absurd (cc)
          by_key (Some q) (no_join _ n) e = let f : origin sig y num reduce choosing q ≡ joined i us ns = cc in absurd (n i us ns f)
          by_key (Some q) (a_join _ j vs ms f g) e =
              let z : joined j vs ms ≡ joined i us ns = cc in
              let a : j ≡ i = cc in
              let b : vs ≡ us = cc in
              let c : ms ≡ ns = cc in
              subst (λ (j' : Head). SaneElements j' us ns) a
              (subst (λ (vs' : List Sort). SaneElements j vs' ns) b (subst (λ (ms' : List ℕ). SaneElements j vs ms') c g))

          by_side : (k : ℕ) → SaneLeaf k → (b : Bool) → b ≡ nat_lt k (length y.names)
              → cond b None (num.key (k - length y.names) >>= λ q. Some (origin sig y num reduce choosing q)) ≡ Some (joined i us ns)
              → SaneElements i us ns
          by_side k l true z e = absurd (cc)
          by_side k (of_name _ h) false z e =
              let w : nat_lt k (length y.names) ≡ true = grind (arith, nat_tests) in let g : false ≡ true = z ∙ w in absurd (cc)
          by_side k (of_key _ h q) false z e = by_key (num.key (k - length y.names)) q e

          by_leaf : (o : Option ℕ) → o ≡ first_leaf sig y num reduce choosing v
              → (o >>= λ n. cond (nat_lt n (length y.names)) None
              (num.key (n - length y.names) >>= λ k. Some (origin sig y num reduce choosing k))) ≡ Some (joined i us ns)
              → SaneElements i us ns
          by_leaf None p e = absurd (cc)
          by_leaf (Some k) p e = by_side k (sane_first v k s (sym p)) (nat_lt k (length y.names)) refl e

      -- each element that a sane value counts as counts as itself alone
      pub members_sane : (h : Head) (ss : List Sort) (v : Val) → SaneVal v
          → (members sig y num reduce choosing h ss (sort_for h ss) v ≡ element sig y num reduce choosing (sort_for h ss) v ∷ [] → Is h ss
          (element sig y num reduce choosing (sort_for h ss) v))
          → (x : ℕ) → 0 < count x (members sig y num reduce choosing h ss (sort_for h ss) v) → SaneElement h ss x
      members_sane h ss v sane alone x p = by_origin (origin_of sig y num reduce choosing v) refl p
        where
          s : Sort
          s = sort_for h ss

          itself : members sig y num reduce choosing h ss (sort_for h ss) v ≡ element sig y num reduce choosing (sort_for h ss) v ∷ []
              → 0 < count x (element sig y num reduce choosing (sort_for h ss) v ∷ []) → SaneElement h ss x
          itself e p =
              let k = element sig y num reduce choosing (sort_for h ss) v in
              let f : k ≡ x = grind (arith, nat_tests) in
              subst (SaneElement h ss) f (an_element h ss k (alone e) (subst SaneVal (sym (element_value (sort_for h ss) v)) sane))

          by_test : (i : Head) (us : List Sort) (ns : List ℕ) → Some (joined i us ns) ≡ origin_of sig y num reduce choosing v → (b : Bool)
              → b ≡ decided (Head_discrete h i) && same_sorts ss us && decided
              (Val_discrete v (new sig y num reduce choosing (sort_for h ss) (joined i us ns)))
              → 0 < count x (cond b ns (element sig y num reduce choosing (sort_for h ss) v ∷ [])) → SaneElement h ss x
          by_test i us ns o false z p =
              itself (ap (members_by sig y num reduce choosing h ss (sort_for h ss) v) (sym o) ∙ ap
              (λ (b : Bool). cond b ns (element sig y num reduce choosing (sort_for h ss) v ∷ [])) (sym z)) p
          by_test i us ns o true z p =
              let a =
              and_parts (decided (Head_discrete h i) && same_sorts ss us)
              (decided (Val_discrete v (new sig y num reduce choosing (sort_for h ss) (joined i us ns)))) (sym z) in
              let b = and_parts (decided (Head_discrete h i)) (same_sorts ss us) a.0 in
              use_elements i us (same_head h i b.0) (same_list ss us b.1) ns (origin_sane v i us ns sane (sym o)) p
            where
              use_elements : (i : Head) (us : List Sort) → h ≡ i → ss ≡ us → (ns : List ℕ) → SaneElements i us ns → 0 < count x ns
                  → SaneElement h ss x
              use_elements i us e f ns (elements _ _ _ g) p =
                  subst (λ (j : Head). SaneElement j ss x) (sym e) (subst (λ (vs : List Sort). SaneElement i vs x) (sym f) (g x p))

          by_origin : (o : Option Key) → o ≡ origin_of sig y num reduce choosing v
              → 0 < count x (members_by sig y num reduce choosing h ss (sort_for h ss) v o) → SaneElement h ss x
          by_origin None e p = itself (ap (members_by sig y num reduce choosing h ss (sort_for h ss) v) (sym e)) p
          by_origin (Some (applied i us vs)) e p = itself (ap (members_by sig y num reduce choosing h ss (sort_for h ss) v) (sym e)) p
          by_origin (Some (constant n o)) e p = itself (ap (members_by sig y num reduce choosing h ss (sort_for h ss) v) (sym e)) p
          by_origin (Some (held o w)) e p = itself (ap (members_by sig y num reduce choosing h ss (sort_for h ss) v) (sym e)) p
          by_origin (Some (place q n)) e p = itself (ap (members_by sig y num reduce choosing h ss (sort_for h ss) v) (sym e)) p
          by_origin (Some (joined i us ns)) e p =
              by_test i us ns e
              (decided (Head_discrete h i) && same_sorts ss us && decided
              (Val_discrete v (new sig y num reduce choosing (sort_for h ss) (joined i us ns)))) refl p

      pub whole_sane : (h : Head) (ss : List Sort) (ns : List ℕ) → ((x : ℕ) → 0 < count x ns → SaneElement h ss x)
          → SaneVal (whole sig y num reduce choosing h ss (sort_for h ss) ns)
      whole_sane h ss [] s =
          sane_new (depth_of sig (sort_for h ss)) (sort_for h ss) (joined h ss []) (a_join _ h ss [] refl (elements h ss [] s))
      whole_sane h ss (n ∷ []) s = go (s n (omega (arith, count_same n [])))
        where
          go : SaneElement h ss n → SaneVal (value_of_element sig y num reduce choosing n)
          go (an_element _ _ _ e v) = v
      whole_sane h ss (m ∷ n ∷ ns) s =
          sane_new (depth_of sig (sort_for h ss)) (sort_for h ss) (joined h ss (m ∷ n ∷ ns))
          (a_join _ h ss (m ∷ n ∷ ns) refl (elements h ss (m ∷ n ∷ ns) s))

      pub free_sane : (h : Head) (ss : List Sort) (s : Sort) (vs : List Val) → SaneVal (free_value sig y num reduce choosing h ss s vs)
      free_sane h ss s vs =
          sane_or (named sig y num reduce choosing h ss vs) _ (λ v e. sane_found v (found_named sig y num reduce choosing h ss vs y.names y.values v e))
          (sane_new (depth_of sig s) s (applied h ss vs) (no_join (applied h ss vs) (λ i us ns e. cc)))

      other_sane : (h : Head) (ss : List Sort) (vs : List Val)
          → ((v w : Val) → vs ≡ v ∷ w ∷ [] → is_ac sig y num reduce choosing h ≡ true → (x : ℕ) → 0 < count x
          (reduce h ss (members sig y num reduce choosing h ss (sort_for h ss) v ++ members sig y num reduce choosing h ss
          (sort_for h ss) w)) → SaneElement h ss x)
          → SaneVal (other_value sig y num reduce choosing h ss (sort_for h ss) vs)
      other_sane h ss [] j = free_sane h ss (sort_for h ss) []
      other_sane h ss (v ∷ []) j = free_sane h ss (sort_for h ss) (v ∷ [])
      other_sane h ss (v ∷ w ∷ []) j = by_test (is_ac sig y num reduce choosing h) (j v w refl)
        where
          by_test : (b : Bool)
              → (b ≡ true → (x : ℕ) → 0 < count x
              (reduce h ss (members sig y num reduce choosing h ss (sort_for h ss) v ++ members sig y num reduce choosing h ss
              (sort_for h ss) w)) → SaneElement h ss x)
              → SaneVal (cond b (whole sig y num reduce choosing h ss (sort_for h ss)
              (reduce h ss (members sig y num reduce choosing h ss (sort_for h ss) v ++ members sig y num reduce choosing h ss
              (sort_for h ss) w)))
              (free_value sig y num reduce choosing h ss (sort_for h ss) (v ∷ w ∷ [])))
          by_test true j = whole_sane h ss _ (j refl)
          by_test false j = free_sane h ss (sort_for h ss) (v ∷ w ∷ [])
      other_sane h ss (v ∷ w ∷ x ∷ vs) j = free_sane h ss (sort_for h ss) (v ∷ w ∷ x ∷ vs)

      pub vals_sane : (vs : List Val) → AllByRecursion SaneVal vs → SaneVals (vals vs)
      vals_sane [] a = no_val
      vals_sane (v ∷ vs) a = a_val v (vals vs) a.0 (vals_sane vs a.1)

      pub at_sane : (vs : Vals) (i : ℕ) (v : Val) → SaneVals vs → val_at vs i ≡ Some v → SaneVal v
      at_sane none i v s e = absurd (cc)
      at_sane (more w vs) zero v (a_val _ _ s ss) e = let f : w ≡ v = cc in subst SaneVal f s
      at_sane (more w vs) (suc i) v (a_val _ _ s ss) e = at_sane vs i v ss e

      pub field_sane : (v : Val) (i : ℕ) → SaneVal v → SaneVal (field_at sig y num reduce choosing v i)
      field_sane (number f) i s = number_sane zero_ℚ
      field_sane (leaf k) i s = number_sane zero_ℚ
      field_sane (fields vs) i (of_fields _ s) = sane_or (val_at vs i) nothing (λ v e. at_sane vs i v s e) (number_sane zero_ℚ)

      pub applied_sane : (h : Head) (ss : List Sort) (vs : List Val) → AllByRecursion SaneVal vs
          → ((v w : Val) → vs ≡ v ∷ w ∷ [] → is_ac sig y num reduce choosing h ≡ true → (x : ℕ) → 0 < count x
          (reduce h ss (members sig y num reduce choosing h ss (sort_for h ss) v ++ members sig y num reduce choosing h ss
          (sort_for h ss) w)) → SaneElement h ss x)
          → SaneVal (applied_value sig y num reduce choosing h ss (sort_for h ss) vs)
      applied_sane (head.Build n) ss vs a j = of_fields (vals vs) (vals_sane vs a)
      applied_sane (head.Field n i) ss [] a j = other_sane (head.Field n i) ss [] j
      applied_sane (head.Field n i) ss (v ∷ []) a j = field_sane v i a.0
      applied_sane (head.Field n i) ss (v ∷ w ∷ vs) a j = other_sane (head.Field n i) ss (v ∷ w ∷ vs) j
      applied_sane (head.Symbol n) ss vs a j = other_sane (head.Symbol n) ss vs j
      applied_sane (head.Int o) ss vs a j = other_sane (head.Int o) ss vs j
      applied_sane (head.Real o) ss vs a j = other_sane (head.Real o) ss vs j
      applied_sane head.True ss vs a j = other_sane head.True ss vs j
      applied_sane head.False ss vs a j = other_sane head.False ss vs j
      applied_sane head.Void ss vs a j = other_sane head.Void ss vs j

      pub valued_sane : (assigned : ℕ → Sort → Option Val) (ts : List Term)
          → AllByRecursion (λ t. SaneVal (ev sig y num reduce choosing assigned t)) ts
          → AllByRecursion (λ (a : Term × Val). SaneVal a.1) (map (λ t. (t, ev sig y num reduce choosing assigned t)) ts)
      valued_sane assigned [] a = tt
      valued_sane assigned (t ∷ ts) a = (a.0, valued_sane assigned ts a.1)

      pub values_sane : (assigned : ℕ → Sort → Option Val) (ts : List Term)
          → AllByRecursion (λ t. SaneVal (ev sig y num reduce choosing assigned t)) ts
          → AllByRecursion SaneVal (map (ev sig y num reduce choosing assigned) ts)
      values_sane assigned [] a = tt
      values_sane assigned (t ∷ ts) a = (a.0, values_sane assigned ts a.1)

      module _ (represents : (h : Head) (ss : List Sort) (r : ℕ) → IsRepresentative sig y (sort_for h ss) r → Is h ss r)
          (reduction : Reduction y reduce) where
        representative_sane : (h : Head) (ss : List Sort) (r : ℕ) → IsRepresentative sig y (sort_for h ss) r → SaneElement h ss r
        representative_sane h ss r p =
            let e = low_value r p.0 (slice_get_within y.names r p.1.has.term p.1.has.is) p.1.has.value in
            an_element h ss r (represents h ss r p) (subst SaneVal (sym e) (sane_name r p.0 p.1.has.value))

        rule_sane : (h : Head) (ss : List Sort) (l r : List ℕ) → IsRule y h ss l r → (x : ℕ) → 0 < count x r → SaneElement h ss x
        rule_sane h ss l r rule x p =
            let f = completed.rules_fit rule.0 _ rule.1 in
            representative_sane h ss x
            (subst (λ (s : Sort). IsRepresentative sig y s x) (sym (joined_sort h ss f.sort f.symbol))
            (all_times (IsRepresentative sig y f.sort) r x f.right p))

        follows_sane : (h : Head) (ss : List Sort) {a b : List ℕ} → ReducesTo (IsRule y h ss) a b
            → ((x : ℕ) → 0 < count x a → SaneElement h ss x) → (x : ℕ) → 0 < count x b → SaneElement h ss x
        follows_sane h ss (done e) s x p = s x (omega (arith, e.each x, p))
        follows_sane h ss (one_step {b = b} step f) s x p = follows_sane h ss f next x p
          where
            next : (z : ℕ) → 0 < count z b → SaneElement h ss z
            next z q = elim (cases_lt 0 (count z step.right)) as (λ _. SaneElement h ss z) [
              | inl k ↦ rule_sane h ss step.left step.right step.rule z k
              | inr k ↦ s z (omega
                  (arith, step.before.each z, step.after.each z, count-append z step.left step.rest, count-append z step.right step.rest, q, k))
            ]

        pub both_sane : (h : Head) (ss : List Sort) (v w : Val) → SaneVal v → SaneVal w
            → (members sig y num reduce choosing h ss (sort_for h ss) v ≡ element sig y num reduce choosing (sort_for h ss) v ∷ [] → Is h ss
            (element sig y num reduce choosing (sort_for h ss) v))
            → (members sig y num reduce choosing h ss (sort_for h ss) w ≡ element sig y num reduce choosing (sort_for h ss) w ∷ [] → Is h ss
            (element sig y num reduce choosing (sort_for h ss) w))
            → (x : ℕ)
            → 0 < count x (reduce h ss
            (members sig y num reduce choosing h ss (sort_for h ss) v ++ members sig y num reduce choosing h ss (sort_for h ss) w))
            → SaneElement h ss x
        both_sane h ss v w s t va wa =
            follows_sane h ss ((reduction h ss).follows _)
            (λ x p. elim (cases_lt 0 (count x (members sig y num reduce choosing h ss (sort_for h ss) v))) as (λ _. SaneElement h ss x) [
              | inl k ↦ members_sane h ss v s va x k
              | inr k ↦ members_sane h ss w t wa x
                  (omega (
                    arith,
                    k,
                    p,
                    count-append x (members sig y num reduce choosing h ss (sort_for h ss) v)
                        (members sig y num reduce choosing h ss (sort_for h ss) w),
                  ))
            ])

    -- ---- sane values: elements count as themselves alone
    abbrev pub IsAlone : Head → List Sort → ℕ → Type 0
    IsAlone h ss x = members sig y num reduce choosing h ss (sort_for h ss) (value_of_element sig y num reduce choosing x) ≡ x ∷ []

    representative_alone : (h : Head) (ss : List Sort) (r : ℕ) → IsRepresentative sig y (sort_for h ss) r → IsAlone h ss r
    representative_alone h ss r p =
        ap (members sig y num reduce choosing h ss (sort_for h ss))
        (low_value r p.0 (slice_get_within y.names r p.1.has.term p.1.has.is) p.1.has.value)
        ∙ ap (members_by sig y num reduce choosing h ss (sort_for h ss) p.0)
        (no_origin (sort_for h ss) p.0 (completed.over (sort_for h ss) p.0 r p.1.has))
        ∙ ap (λ (k : ℕ). k ∷ []) (element_of_representative (sort_for h ss) p.0 r p.1)

    alone_element : (h : Head) (ss : List Sort) (v : Val)
        → members sig y num reduce choosing h ss (sort_for h ss) v ≡ element sig y num reduce choosing (sort_for h ss) v ∷ []
        → IsAlone h ss (element sig y num reduce choosing (sort_for h ss) v)
    alone_element h ss v e = ap (members sig y num reduce choosing h ss (sort_for h ss)) (element_value (sort_for h ss) v) ∙ e

    abbrev pub IsSane : Val → Type 0
    IsSane = SaneVal IsAlone

    module _ (some_field : (s : Sort) → record_fields sig s ≡ Some [] → ⊥) where
      -- sane elements are what the value of their join counts as
      pub members_of_whole : (h : Head) (ss : List Sort) (ns : List ℕ) → ((x : ℕ) → 0 < count x ns → SaneElement IsAlone h ss x)
          → members sig y num reduce choosing h ss (sort_for h ss) (whole sig y num reduce choosing h ss (sort_for h ss) ns) ≡ ns
      members_of_whole h ss [] s = members_of_new some_field h ss (sort_for h ss) []
      members_of_whole h ss (n ∷ []) s = go (s n (omega (arith, count_same n [])))
        where
          go : SaneElement IsAlone h ss n
              → members sig y num reduce choosing h ss (sort_for h ss) (value_of_element sig y num reduce choosing n) ≡ n ∷ []
          go (an_element _ _ _ e v) = e
      members_of_whole h ss (m ∷ n ∷ ns) s = members_of_new some_field h ss (sort_for h ss) (m ∷ n ∷ ns)

      module _ (reduction : Reduction y reduce) (assigned : ℕ → Sort → Option Val)
          (assigned_sane : (n : ℕ) (s : Sort) (v : Val) → assigned n s ≡ Some v → IsSane v) where
        joins_sane : (h : Head) (ss : List Sort) (vs : List Val) → AllByRecursion IsSane vs → (v w : Val) → vs ≡ v ∷ w ∷ []
            → is_ac sig y num reduce choosing h ≡ true
            → (x : ℕ)
            → 0 < count x (reduce h ss
            (members sig y num reduce choosing h ss (sort_for h ss) v ++ members sig y num reduce choosing h ss (sort_for h ss) w))
            → SaneElement IsAlone h ss x
        joins_sane h ss vs a v w e c =
            let b = subst (AllByRecursion IsSane) e a in
            both_sane IsAlone representative_alone reduction h ss v w b.0 (b.1).0 (alone_element h ss v) (alone_element h ss w)

        pub ev_sane : (t : Term) → IsSane (ev sig y num reduce choosing assigned t)
        ev_sane = by_terms (λ t. IsSane (ev sig y num reduce choosing assigned t))
            (λ n. subst IsSane (sym (ev-Bound sig y num reduce choosing assigned n)) (number_sane IsAlone zero_ℚ))
            (λ a b r. subst IsSane (sym (ev-Num sig y num reduce choosing assigned a b r)) (number_sane IsAlone (ratio a b)))
            (λ n s. subst IsSane (sym (ev-Fresh sig y num reduce choosing assigned n s)) (sane_or IsAlone (assigned n s) _ (assigned_sane n s)
            (sane_or IsAlone (value_of sig y num reduce choosing (Fresh n s)) _
            (λ v e. sane_found IsAlone v (found_value sig y num reduce choosing y.names y.values (Fresh n s) v e))
            (sane_new IsAlone (depth_of sig s) s (constant n s) (no_join (constant n s) (λ i us ns e. cc))))))
            (λ h ss ts is. subst IsSane (sym (ev-Apply sig y num reduce choosing assigned h ss ts))
            (sane_or IsAlone (linear h (map (λ t. (t, ev sig y num reduce choosing assigned t)) ts)) _
            (λ v e. linear_sane IsAlone h _ v (valued_sane IsAlone assigned ts is) e)
            (applied_sane IsAlone h ss (map (ev sig y num reduce choosing assigned) ts) (values_sane IsAlone assigned ts is)
            (joins_sane h ss (map (ev sig y num reduce choosing assigned) ts) (values_sane IsAlone assigned ts is)))))

        -- what an AC application joins can be read off its value
        pub counts : (h : Head) (ss : List Sort) (a b : Term)
            → members sig y num reduce choosing h ss (sort_for h ss) (whole sig y num reduce choosing h ss (sort_for h ss) (reduce h ss
            (members sig y num reduce choosing h ss (sort_for h ss) (ev sig y num reduce choosing assigned a)
            ++ members sig y num reduce choosing h ss (sort_for h ss) (ev sig y num reduce choosing assigned b))))
            ≡ reduce h ss (members sig y num reduce choosing h ss (sort_for h ss) (ev sig y num reduce choosing assigned a)
            ++ members sig y num reduce choosing h ss (sort_for h ss) (ev sig y num reduce choosing assigned b))
        counts h ss a b =
            members_of_whole h ss _
            (both_sane IsAlone representative_alone reduction h ss _ _ (ev_sane a) (ev_sane b)
            (alone_element h ss (ev sig y num reduce choosing assigned a)) (alone_element h ss (ev sig y num reduce choosing assigned b)))
