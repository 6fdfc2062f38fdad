-- How large a record term is: its written values, each where no earlier one has its field, and copies for the fields that have none.
use Rattle.std.proofs.Common.{arith, ◌≡◌, ◌≢◌, ◌∙◌, ℕ, zero, suc, ◌+◌, ◌≤◌, ◌⊎◌, ⊎_elim, max, Bool, true, false, cond, not, ◌&&◌, ◌||◌, nat_eq, nat_lt, Option, Some, None, List, [], ◌∷◌, ◌++◌, map, length, take, refl, sym, ap, append_assoc}
use Rattle.std.specs.List.{list_any}
use Rattle.std.proofs.lemmas.Bool.Decides.{nat_tests}
use Rattle.std.proofs.lemmas.Bool.{cases_eq}
use Rattle.std.proofs.lemmas.List.{append-nil, length-append}
use Rattle.std.proofs.lemmas.List.Folds.{list_any-append}
use Rattle.std.proofs.lemmas.Option.{slice_get_past}
use Rattle.std.proofs.Math.Nat.{mul-suc}
use Rattle.std.proofs.Math.Seq.{take-append_seam}
use Rattle.ae_base.proofs.ListFacts.{get_seam}
use Rattle.ae_core.specs.declared.terms.Sort.{Sort}
use Rattle.ae_core.specs.declared.terms.Head.TheVariants as head
use Rattle.ae_core.specs.declared.terms.Term.{Term}
use Rattle.ae_elab.specs.Elaboration.{value_at, field_term, fields_from}
use Rattle.ae_elab.specs.Sizes.{Size, sort_size, term_size, round}
use Rattle.ae_elab.specs.Weights.{missing}
use Rattle.ae_elab.proofs.WeightLaws.{same_size, pair_size}
use Rattle.ae_sizes.specs.Inner.Counted.{pile}
use Rattle.ae_sizes.specs.Inner.Weights.{is_first, in_fields}
use Rattle.ae_sizes.proofs.FoldSizes.{size_apply}
use Rattle.ae_sizes.proofs.Standing.{use_size, sized}

-- ---- sizes beside each other
abbrev nil : Size
nil = record { nodes = 0; levels = 0 }

infixl 20 ◌⊕◌
abbrev ◌⊕◌ : Size → Size → Size
s ⊕ t = record { nodes = s.nodes + t.nodes; levels = max s.levels t.levels }

abbrev when : Bool → Size → Size
when true s = s
when false s = nil

both_nil : (s : Size) → s ⊕ nil ≡ nil ⊕ s
both_nil s = same_size (s ⊕ nil) (nil ⊕ s) (omega arith) (omega arith)

left_nil : (s : Size) → nil ⊕ s ≡ s
left_nil s = same_size (nil ⊕ s) s (omega arith) (omega arith)

right_nil : (s : Size) → s ⊕ nil ≡ s
right_nil s = same_size (s ⊕ nil) s (omega arith) (omega arith)

assoc : (s t u : Size) → s ⊕ (t ⊕ u) ≡ (s ⊕ t) ⊕ u
assoc s t u = same_size (s ⊕ (t ⊕ u)) ((s ⊕ t) ⊕ u) (omega arith) (omega arith)

crossed : (s t u v : Size) → (s ⊕ t) ⊕ (u ⊕ v) ≡ (s ⊕ u) ⊕ (t ⊕ v)
crossed s t u v = same_size ((s ⊕ t) ⊕ (u ⊕ v)) ((s ⊕ u) ⊕ (t ⊕ v)) (omega arith) (omega arith)

turned : (s t u : Size) → s ⊕ (t ⊕ u) ≡ t ⊕ (s ⊕ u)
turned s t u = same_size (s ⊕ (t ⊕ u)) (t ⊕ (s ⊕ u)) (omega arith) (omega arith)

as_pair : (s t : Size) → s ⊕ t ≡ pair_size 0 s t
as_pair s t = same_size (s ⊕ t) (pair_size 0 s t) (omega arith) (omega arith)

-- ---- sums over places
abbrev span : ℕ → ℕ → (ℕ → Size) → Size
span zero k h = nil
span (suc n) k h = h k ⊕ span n (suc k) h

abbrev upto : ℕ → (ℕ → Size) → Size
upto zero h = nil
upto (suc n) h = upto n h ⊕ h n

span_last : (n k : ℕ) (h : ℕ → Size) → span (suc n) k h ≡ span n k h ⊕ h (n + k)
span_last zero k h = both_nil (h k) ∙ ap (λ i. nil ⊕ h i) (let e : k ≡ 0 + k = omega arith in e)
span_last (suc n) k h =
    ap (λ z. h k ⊕ z) (span_last n (suc k) h)
    ∙ assoc (h k) (span n (suc k) h) (h (n + suc k))
    ∙ ap (λ i. span (suc n) k h ⊕ h i) (let e : n + suc k ≡ suc n + k = omega arith in e)

span_upto : (n : ℕ) (h : ℕ → Size) → span n 0 h ≡ upto n h
span_upto zero h = refl
span_upto (suc n) h = span_last n 0 h ∙ ap (λ z. z ⊕ h (n + 0)) (span_upto n h) ∙ ap (λ i. upto n h ⊕ h i) (let e : n + 0 ≡ n = omega arith in e)

upto_same : (n : ℕ) (h k : ℕ → Size) → ((i : ℕ) → h i ≡ k i) → upto n h ≡ upto n k
upto_same zero h k e = refl
upto_same (suc n) h k e = ap (λ z. z ⊕ h n) (upto_same n h k e) ∙ ap (λ z. upto n k ⊕ z) (e n)

upto_both : (n : ℕ) (h k : ℕ → Size) → upto n (λ i. h i ⊕ k i) ≡ upto n h ⊕ upto n k
upto_both zero h k = sym (left_nil nil)
upto_both (suc n) h k = ap (λ z. z ⊕ (h n ⊕ k n)) (upto_both n h k) ∙ crossed (upto n h) (upto n k) (h n) (k n)

-- ---- the value of one place
at_place : (n p : ℕ) (b : Bool) (s : Size) → n ≡ p ⊎ n ≢ p → when (nat_lt p n && b) s ⊕ when (nat_eq n p && b) s ≡ when (nat_lt p (suc n) && b) s
at_place n p b s h = ⊎_elim here other h
  where
    here : n ≡ p → when (nat_lt p n && b) s ⊕ when (nat_eq n p && b) s ≡ when (nat_lt p (suc n) && b) s
    here e =
        let l : nat_lt p n ≡ false = grind (arith, nat_tests) in
        let q : nat_eq n p ≡ true = grind (arith, nat_tests) in
        let m : nat_lt p (suc n) ≡ true = grind (arith, nat_tests) in
        ap (λ x. when (x && b) s ⊕ when (nat_eq n p && b) s) l
        ∙ ap (λ x. nil ⊕ when (x && b) s) q
        ∙ left_nil (when b s)
        ∙ ap (λ x. when (x && b) s) (sym m)

    other : n ≢ p → when (nat_lt p n && b) s ⊕ when (nat_eq n p && b) s ≡ when (nat_lt p (suc n) && b) s
    other e =
        let q : nat_eq n p ≡ false = grind (arith, nat_tests) in
        let m : nat_lt p n ≡ nat_lt p (suc n) = grind (arith, nat_tests) in
        ap (λ x. when (nat_lt p n && b) s ⊕ when (x && b) s) q
        ∙ right_nil (when (nat_lt p n && b) s)
        ∙ ap (λ x. when (x && b) s) m

module _ (p : ℕ) (seen : List ℕ) (s : Size) where
  abbrev there : ℕ → Size
  there i = when (nat_eq i p && not (list_any (nat_eq i) seen)) s

  same_there : (n : ℕ) → (n ≡ p) ⊎ (n ≢ p) → there n ≡ when (nat_eq n p && not (list_any (nat_eq p) seen)) s
  same_there n h = ⊎_elim (λ e. ap (λ i. when (nat_eq n p && not (list_any (nat_eq i) seen)) s) e) other h
    where
      other : n ≢ p → there n ≡ when (nat_eq n p && not (list_any (nat_eq p) seen)) s
      other e =
          let q : nat_eq n p ≡ false = grind (arith, nat_tests) in
          ap (λ x. when (x && not (list_any (nat_eq n) seen)) s) q ∙ ap (λ x. when (x && not (list_any (nat_eq p) seen)) s) (sym q)

  one_place : (n : ℕ) → upto n there ≡ when (nat_lt p n && not (list_any (nat_eq p) seen)) s
  one_place zero = ap (λ x. when (x && not (list_any (nat_eq p) seen)) s) (let q : false ≡ nat_lt p 0 = grind (arith, nat_tests) in q)
  one_place (suc n) =
      ap (λ z. z ⊕ there n) (one_place n)
      ∙ ap (λ z. when (nat_lt p n && not (list_any (nat_eq p) seen)) s ⊕ z) (same_there n (cases_eq n p))
      ∙ at_place n p (not (list_any (nat_eq p) seen)) s (cases_eq n p)

first_use : (n p : ℕ) (seen : List ℕ) (s : Size) → when (nat_lt p n && not (list_any (nat_eq p) seen)) s ≡ use_size (cond (is_first n seen (Some p)) 1 0) 0 s
first_use n p seen s = by_test (nat_lt p n && not (list_any (nat_eq p) seen))
  where
    by_test : (b : Bool) → when b s ≡ use_size (cond b 1 0) 0 s
    by_test true = same_size s (use_size 1 0 s) (omega arith) (omega arith)
    by_test false = refl

-- ---- values that stand for no field
no_more : (n : ℕ) (ps : List ℕ) (i : ℕ) (us : List Term) → length ps ≤ i → sized (in_fields n ps) i us ≡ nil
no_more n ps i [] h = refl
no_more n ps i (u ∷ us) h =
    ap (λ o. pair_size 0 (use_size (cond (is_first n (take i ps) o) 1 0) 0 (term_size u)) (sized (in_fields n ps) (suc i) us)) (slice_get_past ps i h)
    ∙ ap (pair_size 0 nil) (no_more n ps (suc i) us (omega arith))

no_value : (i : ℕ) (ps : List ℕ) → value_at i ps [] ≡ None
no_value i [] = refl
no_value i (p ∷ ps) = refl

-- ---- the fields of a record
module _ (n of : ℕ) (ss : List Sort) (base : Term) where
  -- a field that is copied
  abbrev pub copy : Size
  copy = round (map sort_size ss ++ term_size base ∷ [])

  abbrev field : ℕ → Option Term → Size
  field i o = term_size (field_term of ss base i o)

  copied : (i : ℕ) → field i None ≡ copy
  copied i = size_apply (head.Field of i) ss (base ∷ [])

  -- the fields of which none is among those that are seen
  abbrev unseen : List ℕ → List ℕ → List Term → ℕ → Size
  unseen seen ps us i = when (not (list_any (nat_eq i) seen)) (field i (value_at i ps us))

  one_more : (m : ℕ) → use_size m 0 copy ⊕ copy ≡ use_size (suc m) 0 copy
  one_more zero = same_size (use_size 0 0 copy ⊕ copy) (use_size 1 0 copy) (omega arith) (omega arith)
  one_more (suc m) =
      same_size (use_size (suc m) 0 copy ⊕ copy) (use_size (suc (suc m)) 0 copy) (sym (mul-suc copy.nodes (suc m))) (omega arith)

  step_missing : (b : Bool) (m : ℕ) → use_size m 0 copy ⊕ when (not b) copy ≡ use_size (elim b [ true ↦ m | false ↦ suc m ]) 0 copy
  step_missing true m = right_nil (use_size m 0 copy)
  step_missing false m = one_more m

  none_left : (k : ℕ) (seen : List ℕ) → upto k (λ i. when (not (list_any (nat_eq i) seen)) copy) ≡ use_size (missing k seen) 0 copy
  none_left zero seen = refl
  none_left (suc k) seen =
      ap (λ z. z ⊕ when (not (list_any (nat_eq k) seen)) copy) (none_left k seen) ∙ step_missing (list_any (nat_eq k) seen) (missing k seen)

  no_values : (seen ps : List ℕ) (us : List Term) → ((i : ℕ) → value_at i ps us ≡ None) → upto n (unseen seen ps us) ≡ use_size (missing n seen) 0 copy
  no_values seen ps us e =
      upto_same n (unseen seen ps us) (λ i. when (not (list_any (nat_eq i) seen)) copy)
      (λ i. ap (λ o. when (not (list_any (nat_eq i) seen)) (field i o)) (e i) ∙ ap (when (not (list_any (nat_eq i) seen))) (copied i))
      ∙ none_left n seen

  by_seen : (i : ℕ) (a e : Bool) (u : Term) (o : Option Term)
      → when (not a) (field i (elim e [ true ↦ Some u | false ↦ o ])) ≡ when (e && not a) (term_size u) ⊕ when (not (a || (e || false))) (field i o)
  by_seen i true true u o = sym (left_nil nil)
  by_seen i true false u o = sym (left_nil nil)
  by_seen i false true u o = sym (right_nil (term_size u))
  by_seen i false false u o = sym (left_nil (field i o))

  unseen_next : (seen : List ℕ) (p : ℕ) (ps : List ℕ) (u : Term) (us : List Term) (i : ℕ)
      → unseen seen (p ∷ ps) (u ∷ us) i ≡ there p seen (term_size u) i ⊕ unseen (seen ++ p ∷ []) ps us i
  unseen_next seen p ps u us i =
      by_seen i (list_any (nat_eq i) seen) (nat_eq i p) u (value_at i ps us)
      ∙ ap (λ b. there p seen (term_size u) i ⊕ when (not b) (field i (value_at i ps us))) (sym (list_any-append (nat_eq i) seen (p ∷ [])))

  placed : (seen ps : List ℕ) (us : List Term)
      → upto n (unseen seen ps us) ≡ use_size (missing n (seen ++ take (length us) ps)) 0 copy ⊕ sized (in_fields n (seen ++ ps)) (length seen) us
  placed seen ps [] =
      no_values seen ps [] (λ i. no_value i ps)
      ∙ ap (λ xs. use_size (missing n xs) 0 copy) (sym (append-nil seen))
      ∙ sym (right_nil (use_size (missing n (seen ++ [])) 0 copy))
  placed seen [] (u ∷ us) =
      no_values seen [] (u ∷ us) (λ i. refl)
      ∙ ap (λ xs. use_size (missing n xs) 0 copy) (sym (append-nil seen))
      ∙ sym (right_nil (use_size (missing n (seen ++ [])) 0 copy))
      ∙ ap (λ z. use_size (missing n (seen ++ [])) 0 copy ⊕ z)
      (sym (ap (λ xs. sized (in_fields n xs) (length seen) (u ∷ us)) (append-nil seen) ∙ no_more n seen (length seen) (u ∷ us) (omega arith)))
  placed seen (p ∷ ps) (u ∷ us) =
      let all = seen ++ p ∷ ps in
      let after = seen ++ p ∷ [] in
      let kept = use_size (missing n (seen ++ p ∷ take (length us) ps)) 0 copy in
      let here = use_size (cond (is_first n seen (Some p)) 1 0) 0 (term_size u) in
      let same : after ++ ps ≡ all = append_assoc seen (p ∷ []) ps in
      let grown : length after ≡ suc (length seen) = length-append seen (p ∷ []) ∙ (let q : length seen + 1 ≡ suc (length seen) = omega arith in q) in
      upto_same n (unseen seen (p ∷ ps) (u ∷ us)) (λ i. there p seen (term_size u) i ⊕ unseen after ps us i) (unseen_next seen p ps u us)
      ∙ upto_both n (there p seen (term_size u)) (unseen after ps us)
      ∙ ap (λ z. z ⊕ upto n (unseen after ps us)) (one_place p seen (term_size u) n ∙ first_use n p seen (term_size u))
      ∙ ap (λ z. here ⊕ z) (placed after ps us)
      ∙ ap (λ xs. here ⊕ (use_size (missing n xs) 0 copy ⊕ sized (in_fields n (after ++ ps)) (length after) us)) (append_assoc seen (p ∷ []) (take (length us) ps))
      ∙ ap (λ xs. here ⊕ (kept ⊕ sized (in_fields n xs) (length after) us)) same
      ∙ ap (λ i. here ⊕ (kept ⊕ sized (in_fields n all) i us)) grown
      ∙ turned here kept (sized (in_fields n all) (suc (length seen)) us)
      ∙ ap (λ z. kept ⊕ z) (as_pair here (sized (in_fields n all) (suc (length seen)) us))
      ∙ ap (λ xs. kept ⊕ pair_size 0 (use_size (cond (is_first n xs (Some p)) 1 0) 0 (term_size u)) (sized (in_fields n all) (suc (length seen)) us)) (sym (take-append_seam seen (p ∷ ps)))
      ∙ ap (λ o. kept ⊕ pair_size 0 (use_size (cond (is_first n (take (length seen) all) o) 1 0) 0 (term_size u)) (sized (in_fields n all) (suc (length seen)) us)) (sym (get_seam seen ps p))

  fields_pile : (m k : ℕ) (ps : List ℕ) (us : List Term) → pile (map term_size (fields_from m k of ss base ps us)) ≡ span m k (λ i. field i (value_at i ps us))
  fields_pile zero k ps us = refl
  fields_pile (suc m) k ps us = ap (λ z. field k (value_at k ps us) ⊕ z) (fields_pile m (suc k) ps us)

  -- the fields of a record term: those that are copied, beside the written values
  pub fields_size : (ps : List ℕ) (us : List Term)
      → pile (map term_size (fields_from n 0 of ss base ps us)) ≡ pair_size 0 (use_size (missing n (take (length us) ps)) 0 copy) (sized (in_fields n ps) 0 us)
  fields_size ps us =
      fields_pile n 0 ps us
      ∙ span_upto n (λ i. field i (value_at i ps us))
      ∙ placed [] ps us
      ∙ as_pair (use_size (missing n (take (length us) ps)) 0 copy) (sized (in_fields n ps) 0 us)
