-- The variables of a tree in which no `if` stands are those of its term.
use Rattle.std.proofs.Common.{arith, ◌≡◌, ◌∙◌, ◌⊎◌, inl, inr, ◌<◌, ◌+◌, ℕ, zero, suc, Bool, true, false, not, ◌||◌, nat_eq, nat_lt, cond}
use Rattle.std.proofs.Common.{List, [], ◌∷◌, ◌++◌, map, reverse, length, refl, sym, ap, subst, Some, None, append_assoc}
use Rattle.std.specs.List.{AllByRecursion, IsDistinct, list_any, list_all}
use Rattle.std.proofs.lemmas.Bool.{and_parts, and_from, or_parts, or_right, eq-eqb, eqb-true, eqb-false, ltb-true, ltb-false, not-true}
use Rattle.std.proofs.lemmas.List.{length-reverse, reverse-append}
use Rattle.std.proofs.lemmas.List.Folds.{list_any-append}
use Rattle.std.proofs.lemmas.Map.Steps.{le-length_from_below}
use Rattle.ae_base.proofs.AllOf.{all_reversed, all_of_test}
use Rattle.ae_base.proofs.Tests.{false_true, by_bool, by_either, nat_eq_itself}
use Rattle.ae_core.specs.Signatures.{has_variable, is_application as is_core_application, IsTrigger}
use Rattle.ae_core.specs.declared.terms.Sort.{Sort, out-Sort}
use Rattle.ae_core.specs.declared.terms.Head.{Head}
use Rattle.ae_core.specs.declared.terms.Head.TheVariants as head
use Rattle.ae_core.specs.declared.terms.Term.{Term, Apply, out-Term}
use Rattle.ae_core.specs.declared.terms.Term.TheVariants.{outs-Apply}
use Rattle.ae_types.specs.Substitutions.{put}
use Rattle.ae_elab.specs.Trees.{Tree, Trees, none, more, variable, numeral, apply, operation, build, update, choice, variables_in, variables_among}
use Rattle.ae_elab.specs.Trees.{has_choice, have_choice, is_application}
use Rattle.ae_elab.specs.Elaboration.{Cases, leaf, branch, ◌|>◌, value_of, distance, true_term, head_on, value_at, field_term, fields_from, record_of}
use Rattle.ae_elab.specs.Elaboration.{term_cases, terms_cases}
use Rattle.ae_elab.specs.Formulas.{covers}
use Rattle.ae_lawful_problems.proofs.WrittenPlaces.{Once}
use Rattle.ae_lawful_problems.proofs.CoveredTrees.{how_many, AreApplied, CoveredTerm, CoveredTerms}
use Rattle.ae_lawful_problems.proofs.FormulaTriggers.{has_bound, has_apply}

-- ---- the value of a term without `if`
value_then : {A B : Type 0} (c : Cases A) (f : A → Cases B) → value_of (c |> f) ≡ value_of (f (value_of c))
value_then (leaf x) f = refl
value_then (branch c a b) f = value_then b f

-- ---- fields
-- a value that is written, at its field's place
record Found (p : Term → Bool) (got ps : List ℕ) (vs : List Term) (n : ℕ) : Type 0 where
  place : ℕ
  value : Term
  within : place < n
  new : list_any (nat_eq place) got ≡ false
  there : value_at place ps vs ≡ Some value
  holds : p value ≡ true

value_found : (p : Term → Bool) (got ps : List ℕ) (vs : List Term) (n : ℕ) → Once got ps → AllByRecursion (λ k. k < n) ps → length vs ≡ length ps → list_any p vs ≡ true
    → Found p got ps vs n
value_found p got [] [] n o a l e = false_true e
value_found p got [] (v ∷ vs) n o a l e = absurd (omega (arith, l))
value_found p got (q ∷ ps) [] n o a l e = false_true e
value_found p got (q ∷ ps) (v ∷ vs) n o a l e =
    by_either (p v) (list_any p vs) e
    (λ h. record { place = q; value = v; within = a.0; new = o.0; there = ap (λ b. elim b [ true ↦ Some v | false ↦ value_at q ps vs ]) (nat_eq_itself q); holds = h })
    (λ h. let f = value_found p (q ∷ got) ps vs n o.1 a.1 (omega (arith, l)) h in
    let z = or_parts (nat_eq f.place q) (list_any (nat_eq f.place) got) f.new in
    record {
      place = f.place;
      value = f.value;
      within = f.within;
      new = z.1;
      there = ap (λ b. elim b [ true ↦ Some v | false ↦ value_at f.place ps vs ]) z.0 ∙ f.there;
      holds = f.holds;
    })

value_none : (k : ℕ) (ps : List ℕ) (vs : List Term) → list_any (nat_eq k) ps ≡ false → value_at k ps vs ≡ None
value_none k [] vs e = refl
value_none k (q ∷ ps) [] e = refl
value_none k (q ∷ ps) (v ∷ vs) e =
    let z = or_parts (nat_eq k q) (list_any (nat_eq k) ps) e in
    ap (λ b. elim b [ true ↦ Some v | false ↦ value_at k ps vs ]) z.0 ∙ value_none k ps vs z.1

field_found : (p : Term → Bool) (n place j of : ℕ) (ss : List Sort) (base : Term) (ps : List ℕ) (vs : List Term) → j < n
    → p (field_term of ss base (place + j) (value_at (place + j) ps vs)) ≡ true → list_any p (fields_from n place of ss base ps vs) ≡ true
field_found p zero place j of ss base ps vs l h = absurd (omega (arith, l))
field_found p (suc n) place zero of ss base ps vs l h =
    ap (λ b. b || list_any p (fields_from n (suc place) of ss base ps vs))
    (subst (λ (k : ℕ). p (field_term of ss base k (value_at k ps vs)) ≡ true) (let z : place + 0 ≡ place = omega arith in z) h)
field_found p (suc n) place (suc j) of ss base ps vs l h =
    or_right (p (field_term of ss base place (value_at place ps vs))) (list_any p (fields_from n (suc place) of ss base ps vs))
    (field_found p n (suc place) j of ss base ps vs (omega (arith, l))
    (subst (λ (k : ℕ). p (field_term of ss base k (value_at k ps vs)) ≡ true) (let z : place + suc j ≡ suc place + j = omega arith in z) h))

-- a number that isn't there
search_below : (n : ℕ) (ps : List ℕ) → ((q : ℕ) → q < n → list_any (nat_eq q) ps ≡ true) ⊎ ((k : ℕ) × (k < n) × (list_any (nat_eq k) ps ≡ false))
search_below zero ps = inl (λ q l. absurd (omega (arith, l)))
search_below (suc n) ps =
    by_bool (list_any (nat_eq n) ps)
    (λ t. elim (search_below n ps) [
      | inl f ↦ inl (λ q l. by_bool (nat_eq q n) (λ e. subst (λ (x : ℕ). list_any (nat_eq x) ps ≡ true) (sym (eqb-true q n e)) t)
          (λ e. by_bool (nat_lt q n) (λ y. f q (ltb-true q n y)) (λ y. absurd (eqb-false q n e (let z = ltb-false q n y in omega (arith, l, z))))))
      | inr x ↦ inr (x.0, let y = x.1 in omega (arith, y), x.2)
    ])
    (λ f. inr (n, omega arith, f))

missing_below : (n : ℕ) (ps : List ℕ) → length ps < n → (k : ℕ) × (k < n) × (list_any (nat_eq k) ps ≡ false)
missing_below n ps l =
    elim (search_below n ps) [
      | inl f ↦ absurd (let x = le-length_from_below ps n f in omega (arith, l, x))
      | inr x ↦ x
    ]

module _ (d of n : ℕ) (ss : List Sort) (base : Term) (ps : List ℕ) (vs : List Term) where
  abbrev among_fields : Bool
  among_fields = list_any (has_variable d) (fields_from n 0 of ss base ps vs)

  in_record : among_fields ≡ true → has_variable d (record_of of ss n base ps vs) ≡ true
  in_record h = has_apply d (head.Build of) ss (fields_from n 0 of ss base ps vs) ∙ h

  -- a variable of a value that is written
  of_value : Once [] ps → AllByRecursion (λ k. k < n) ps → length vs ≡ length ps → list_any (has_variable d) vs ≡ true → has_variable d (record_of of ss n base ps vs) ≡ true
  of_value o a l h =
      let f = value_found (has_variable d) [] ps vs n o a l h in
      in_record (field_found (has_variable d) n 0 f.place of ss base ps vs f.within
      (subst (λ (k : ℕ). has_variable d (field_term of ss base k (value_at k ps vs)) ≡ true) (let z : f.place ≡ 0 + f.place = omega arith in z)
      (ap (λ o. has_variable d (field_term of ss base f.place o)) f.there ∙ f.holds)))

  -- a variable of the base, where a field is left as it is
  of_base : length ps < n → has_variable d base ≡ true → has_variable d (record_of of ss n base ps vs) ≡ true
  of_base l h =
      let f = missing_below n ps l in
      in_record (field_found (has_variable d) n 0 f.0 of ss base ps vs f.1
      (subst (λ (k : ℕ). has_variable d (field_term of ss base k (value_at k ps vs)) ≡ true) (let z : f.0 ≡ 0 + f.0 = omega arith in z)
      (ap (λ o. has_variable d (field_term of ss base f.0 o)) (value_none f.0 ps vs f.2)
      ∙ has_apply d (head.Field of f.0) ss (base ∷ []) ∙ ap (λ b. b || false) h)))

-- ---- trees
either_any : {P : Type 0} (x : ℕ) (xs ys : List ℕ) → list_any (nat_eq x) (xs ++ ys) ≡ true → (list_any (nat_eq x) xs ≡ true → P) → (list_any (nat_eq x) ys ≡ true → P) → P
either_any x xs ys h f g = by_either (list_any (nat_eq x) xs) (list_any (nat_eq x) ys) (sym (list_any-append (nat_eq x) xs ys) ∙ h) f g

module _ (m : ℕ → Sort) (env : List ℕ) where
  abbrev the_term : Tree → Term
  the_term t = value_of (term_cases m env t)

  abbrev the_terms : Trees → List Term
  the_terms us = value_of (terms_cases m env us)

  applied_value : (h : Head) (ss : List Sort) (us : Trees) → value_of (terms_cases m env us |> λ vs. leaf (Apply h ss vs)) ≡ Apply h ss (the_terms us)
  applied_value h ss us = value_then (terms_cases m env us) (λ vs. leaf (Apply h ss vs))

  more_value : (t : Tree) (us : Trees) → the_terms (more t us) ≡ the_term t ∷ the_terms us
  more_value t us =
      value_then (term_cases m env t) (λ v. terms_cases m env us |> λ vs. leaf (v ∷ vs)) ∙ value_then (terms_cases m env us) (λ vs. leaf (the_term t ∷ vs))

  built_value : (of : ℕ) (ss : List Sort) (n : ℕ) (base : Term) (ps : List ℕ) (us : Trees)
      → value_of (terms_cases m env us |> λ vs. leaf (record_of of ss n base ps vs)) ≡ record_of of ss n base ps (the_terms us)
  built_value of ss n base ps us = value_then (terms_cases m env us) (λ vs. leaf (record_of of ss n base ps vs))

  updated_value : (of : ℕ) (ss : List Sort) (n : ℕ) (b : Tree) (ps : List ℕ) (us : Trees)
      → the_term (update of ss n b ps us) ≡ record_of of (map (put m) ss) n (the_term b) ps (the_terms us)
  updated_value of ss n b ps us =
      value_then (term_cases m env b) (λ v. terms_cases m env us |> λ vs. leaf (record_of of (map (put m) ss) n v ps vs))
      ∙ built_value of (map (put m) ss) n (the_term b) ps us

  as_many : (us : Trees) → length (the_terms us) ≡ how_many us
  as_many none = refl
  as_many (more t us) = ap length (more_value t us) ∙ ap suc (as_many us)

  module _ (x : ℕ) where
    abbrev d : ℕ
    d = distance env x

    abbrev Has : Term → Type 0
    Has u = has_variable d u ≡ true

    mutual
      tree_has : (t : Tree) → CoveredTerm t → has_choice t ≡ false → list_any (nat_eq x) (variables_in t) ≡ true → Has (the_term t)
      tree_has (variable y) h c e =
          by_either (nat_eq x y) false e
          (λ i. has_bound d (distance env y) ∙ eq-eqb d (distance env y) (ap (distance env) (eqb-true x y i))) (λ f. false_true f)
      tree_has (numeral a b r) h c e = false_true e
      tree_has (apply g ss us) h c e =
          ap (has_variable d) (applied_value g (map (put m) ss) us) ∙ has_apply d g (map (put m) ss) (the_terms us) ∙ trees_have us h c e
      tree_has (operation o s us) h c e =
          ap (has_variable d) (applied_value (head_on o (out-Sort (put m s))) [] us) ∙ has_apply d (head_on o (out-Sort (put m s))) [] (the_terms us) ∙ trees_have us h c e
      tree_has (build of ss n ps us) h c e =
          ap (has_variable d) (built_value of (map (put m) ss) n true_term ps us)
          ∙ of_value d of n (map (put m) ss) true_term ps (the_terms us) h.0.once h.0.within (as_many us ∙ h.0.count) (trees_have us h.1 c e)
      tree_has (update of ss n b ps us) h c e =
          let p = or_parts (has_choice b) (have_choice us) c in
          ap (has_variable d) (updated_value of ss n b ps us)
          ∙ either_any x (cond (nat_lt (length ps) n) (variables_in b) []) (variables_among us) e
          (λ i. by_bool (nat_lt (length ps) n)
          (λ l. of_base d of n (map (put m) ss) (the_term b) ps (the_terms us) (ltb-true (length ps) n l)
          (tree_has b h.1 p.0 (sym (ap (λ z. list_any (nat_eq x) (cond z (variables_in b) [])) l) ∙ i)))
          (λ l. false_true (sym (ap (λ z. list_any (nat_eq x) (cond z (variables_in b) [])) l) ∙ i)))
          (λ i. of_value d of n (map (put m) ss) (the_term b) ps (the_terms us) h.0.once h.0.within (as_many us ∙ h.0.count) (trees_have us h.2 p.1 i))
      tree_has (choice k s t) h c e = false_true (sym c)

      trees_have : (us : Trees) → CoveredTerms us → have_choice us ≡ false → list_any (nat_eq x) (variables_among us) ≡ true → list_any (has_variable d) (the_terms us) ≡ true
      trees_have none h c e = false_true e
      trees_have (more t us) h c e =
          let p = or_parts (has_choice t) (have_choice us) c in
          ap (list_any (has_variable d)) (more_value t us)
          ∙ either_any x (variables_in t) (variables_among us) e (λ i. ap (λ b. b || list_any (has_variable d) (the_terms us)) (tree_has t h.0 p.0 i))
          (λ i. or_right (has_variable d (the_term t)) (list_any (has_variable d) (the_terms us)) (trees_have us h.1 p.1 i))

  -- ---- applications
  apply_is : (h : Head) (ss : List Sort) (us : List Term) → is_core_application (out-Term (Apply h ss us)) ≡ true
  apply_is h ss us = ap is_core_application (outs-Apply h ss us)

  is_applied : (t : Tree) → is_application t ≡ true → has_choice t ≡ false → is_core_application (out-Term (the_term t)) ≡ true
  is_applied (variable y) e c = false_true e
  is_applied (numeral a b r) e c = false_true e
  is_applied (apply h ss us) e c = ap (λ u. is_core_application (out-Term u)) (applied_value h (map (put m) ss) us) ∙ apply_is h (map (put m) ss) (the_terms us)
  is_applied (operation o s us) e c =
      ap (λ u. is_core_application (out-Term u)) (applied_value (head_on o (out-Sort (put m s))) [] us) ∙ apply_is (head_on o (out-Sort (put m s))) [] (the_terms us)
  is_applied (build of ss n ps us) e c =
      ap (λ u. is_core_application (out-Term u)) (built_value of (map (put m) ss) n true_term ps us)
      ∙ apply_is (head.Build of) (map (put m) ss) (fields_from n 0 of (map (put m) ss) true_term ps (the_terms us))
  is_applied (update of ss n b ps us) e c =
      ap (λ u. is_core_application (out-Term u)) (updated_value of ss n b ps us)
      ∙ apply_is (head.Build of) (map (put m) ss) (fields_from n 0 of (map (put m) ss) (the_term b) ps (the_terms us))
  is_applied (choice k s t) e c = false_true (sym c)

  no_choice : (us : Trees) → AreApplied us → have_choice us ≡ false
  no_choice none h = refl
  no_choice (more t us) h =
      ap (λ b. b || have_choice us) (not-true (has_choice t) (and_parts (is_application t) (not (has_choice t)) h.0).1) ∙ no_choice us h.1

  all_applied : (us : Trees) → AreApplied us → list_all (λ u. is_core_application (out-Term u)) (the_terms us) ≡ true
  all_applied none h = refl
  all_applied (more t us) h =
      let p = and_parts (is_application t) (not (has_choice t)) h.0 in
      ap (list_all (λ u. is_core_application (out-Term u))) (more_value t us)
      ∙ and_from (is_core_application (out-Term (the_term t))) (list_all (λ u. is_core_application (out-Term u)) (the_terms us))
      (is_applied t p.0 (not-true (has_choice t) p.1)) (all_applied us h.1)

-- ---- distances
past : (zs rest : List ℕ) (y : ℕ) → AllByRecursion (λ z. nat_eq y z ≡ false) zs → distance (zs ++ y ∷ rest) y ≡ length zs
past [] rest y a = ap (λ b. elim b [ true ↦ 0 | false ↦ suc (distance rest y) ]) (nat_eq_itself y)
past (z ∷ zs) rest y a = ap (λ b. elim b [ true ↦ 0 | false ↦ suc (distance (zs ++ y ∷ rest) y) ]) a.0 ∙ ap suc (past zs rest y a.1)

-- the variable at a distance within a block
record AtDistance (P : ℕ → Type 0) (env : List ℕ) (i : ℕ) : Type 0 where
  number : ℕ
  holds : P number
  at : distance env number ≡ i

last_first : (x : ℕ) (xs rest : List ℕ) → reverse (x ∷ xs) ++ rest ≡ reverse xs ++ (x ∷ rest)
last_first x xs rest = ap (λ ys. ys ++ rest) (reverse-append (x ∷ []) xs) ∙ append_assoc (reverse xs) (x ∷ []) rest

at_distance : (P : ℕ → Type 0) (xs rest : List ℕ) (i : ℕ) → AllByRecursion P xs → IsDistinct nat_eq xs → i < length xs → AtDistance P (reverse xs ++ rest) i
unfolding IsDistinct
at_distance P [] rest i a d l = absurd (omega (arith, l))
at_distance P (x ∷ xs) rest i a d l =
    subst (λ (env : List ℕ). AtDistance P env i) (sym (last_first x xs rest))
    (by_bool (nat_eq i (length xs))
    (λ e. record {
      number = x;
      holds = a.0;
      at = past (reverse xs) rest x (all_reversed (λ (z : ℕ). nat_eq x z ≡ false) xs d.0) ∙ length-reverse xs ∙ sym (eqb-true i (length xs) e);
    })
    (λ e. at_distance P xs (x ∷ rest) i a.1 d.1
    (by_bool (nat_lt i (length xs)) (λ y. ltb-true i (length xs) y) (λ y. absurd (eqb-false i (length xs) e (let z = ltb-false i (length xs) y in omega (arith, l, z)))))))

-- ---- a trigger that has all variables of a block, in it
pub trigger_may_stand : (m : ℕ → Sort) (xs rest : List ℕ) (us : Trees) → IsDistinct nat_eq xs → CoveredTerms us → AreApplied us → covers xs us ≡ true
    → IsTrigger (length xs) (value_of (terms_cases m (reverse xs ++ rest) us))
trigger_may_stand m xs rest us d h a c =
    let env = reverse xs ++ rest in
    let all = all_of_test (λ x. list_any (nat_eq x) (variables_among us)) (λ x. list_any (nat_eq x) (variables_among us) ≡ true) (λ x e. e) xs c in (
      all_applied m env us a,
      λ i l. let f = at_distance (λ x. list_any (nat_eq x) (variables_among us) ≡ true) xs rest i all d l in
          subst (λ (k : ℕ). list_any (has_variable k) (value_of (terms_cases m env us)) ≡ true) f.at (trees_have m env f.number us h (no_choice m env us a) f.holds),
    )
