-- The values of terms of enumerations are those of constructors, where the state says so of its names, and different constructors have different values.
use Rattle.std.specs.Prelude.{ℕ, zero, suc, ℤ, ◌<◌, ◌≤◌, Bool, true, false, cond, not, ◌&&◌, List, [], ◌∷◌, ◌++◌, ◌≡◌, map, length, slice_get, Option, Some, None}
use Rattle.std.specs.List.{AllByRecursion, Contains, flat_map, slice_index_or}
use Rattle.std.proofs.Common.{inl, inr}
use mathlib.Core.Path.{refl, sym, ap, ◌∙◌, subst}
use native.Mathlib.Omega.{arith}
use Rattle.ae_core.specs.Inner.Induction.{by_terms}
use Rattle.ae_rules.specs.Instances.{choices_of}
use Rattle.ae_core.specs.Sorts.{sort_of, is_closed_sort, is_numeric, numeral_ok}
use Rattle.ae_base.specs.Options.{all_known, only, or_else, ◌>>=◌}
use Rattle.ae_rules.specs.Lines.{IsNumeric, IsAc}
use Rattle.ae_rules.specs.Derivations.{IsConstructor}
use Rattle.ae_core.specs.Signatures.{IsLawful}
use Rattle.ae_core.proofs.SortLaws.{sort_in_bound, sort_in_num, sort_in_fresh}
use Rattle.ae_core.proofs.Recursion as recursion
use Rattle.ae_core.specs.declared.terms.Sort.{Sort, Int, Real, Named, out-Sort}
use Rattle.ae_core.specs.declared.terms.Term.{Term, Bound, Num, Fresh, Apply}
use Rattle.ae_core.specs.declared.terms.Head.{Head}
use Rattle.ae_core.specs.declared.terms.Head.TheVariants as head
use Rattle.ae_core.specs.declared.problems.Signature.{Signature}
use Rattle.ae_journal.specs.Values.{Val, Vals, number, leaf, fields, none, more, once, nothing, vals, val_at}
use Rattle.ae_journal.specs.Keys.{Key, Numbering, applied, constant, place}
use Rattle.ae_journal.specs.Systems.{IsCompleted, ValueOf, ValuesOf, Has, IsLeaf, IsOver, AreOver, own, linear, record_fields}
use Rattle.ae_journal.specs.Evaluation.{Reduction, ev, new_at, new, new_single, new_leaf, chooses, first_value, constructor_value, is_constructor, depth_of}
use Rattle.ae_journal.specs.Evaluation.{each_place, result_sort, value_of, named, is_ac, members, whole, free_value, other_value, applied_value, field_at}
use Rattle.ae_journal.specs.Ground.{HoldsEnumeration, itself, in_field, SomeHolds, first, later, JoinsNoEnumeration, subterms, subterms_step}
use Rattle.ae_evaluation.specs.Shapes.{IsNumber}
use Rattle.ae_evaluation.proofs.Decisions.{both_all}
use Rattle.ae_evaluation.proofs.Depth.{deep, not_flat}
use Rattle.ae_evaluation.proofs.Linear.{ev-Apply, ev-Num, firsts, rest_of, ev-Fresh}
use Rattle.ae_evaluation.proofs.SortFacts.{IsApplied, is_applied, is_built, IsField, is_field, result_is}
use Rattle.ae_evaluation.proofs.Constructors.{constructor_of, constructor_alone, constructor_is, is_a_constructor, choices_are, choices_not_empty}
use Rattle.ae_evaluation.proofs.Constructors.{choice_not_numeric, choice_no_fields, choice_is_no_record, number_is_no_choice}
use Rattle.ae_evaluation.proofs.Sane.{alone_new}
use Rattle.ae_evaluation.proofs.Names.{free_name, valued_by}
use Rattle.ae_evaluation.proofs.Shape.{HasShape, named_has, linear_number, arithmetic, fields_shape, shape_at, named_not_numeric, ac_is}
use Rattle.ae_journal.specs.declared.systems.System.{System}
use Rattle.ae_base.proofs.Options.{bind_some, when_some}
use Rattle.std.proofs.lemmas.Option.{same_Some, slice_get_within, none-some}

-- an element of a list stands at a place of it
pub placed : {A : Type 0} (xs : List A) (x : A) → Contains xs x → (i : ℕ) × (slice_get xs i ≡ Some x)
placed xs x c = (c.0, go xs c.0 c.1 c.2)
  where
    go : {A : Type 0} {x : A} (xs : List A) (k : ℕ) → k < length xs → slice_index_or xs k x ≡ x → slice_get xs k ≡ Some x
    go [] k h e = absurd (omega (arith, h))
    go (z ∷ xs) zero h e = ap (λ y. Some y) e
    go (z ∷ xs) (suc k) h e = go xs k (omega (arith, h)) e

pub subterms-Fresh : (n : ℕ) (s : Sort) → subterms (Fresh n s) ≡ Fresh n s ∷ []
unfolding subterms
subterms-Fresh n s = recursion.para_fresh (List Term) subterms_step n s

-- what holds of each subterm of an application holds of it, and of each subterm of its arguments
parts_of : (P : Term → Type 0) (h : Head) (ss : List Sort) (ts : List Term) → AllByRecursion P (subterms (Apply h ss ts))
    → P (Apply h ss ts) × AllByRecursion (λ t. AllByRecursion P (subterms t)) ts
unfolding subterms
parts_of P h ss ts a =
    let b = subst (AllByRecursion P) (recursion.para_apply (List Term) subterms_step h ss ts) a in
    (subst P (ap (Apply h ss) (firsts subterms ts)) b.0, each ts b.1)
  where
    each : (ts : List Term) → AllByRecursion P (flat_map {X = Term × List Term} (λ u. u.1) (map (λ t. (t, subterms t)) ts))
        → AllByRecursion (λ t. AllByRecursion P (subterms t)) ts
    each [] a = tt
    each (t ∷ ts) a =
        let r = both_all P (subterms t) (flat_map {X = Term × List Term} (λ u. u.1) (map (λ t. (t, subterms t)) ts)) a in (r.0, each ts r.1)

module _ (sig : Signature) (lawful : IsLawful sig) (y : System) (num : Numbering) (reduce : Head → List Sort → List ℕ → List ℕ)
    (completed : IsCompleted sig y) (reduction : Reduction y reduce) where
  abbrev value_of_choice : Head → Val
  value_of_choice = constructor_value sig y num reduce true

  -- ---- the value of a constructor's term
  pub valued_constructor : (h : Head) (v : Val) → IsConstructor sig h → ValueOf y (Apply h [] []) v → value_of_choice h ≡ v
  valued_constructor h v c o =
      let k = constructor_of sig lawful h c in
      ap (λ w. or_else w (leaf (new_leaf sig y num reduce true (applied h [] []))))
      (free_name sig y num reduce true completed o.0 h [] [] [] k.sort v o.1 o.2 k.sorted tt)

  -- a new value of a sort that is no record's
  new_of_single : (d : ℕ) (s : Sort) (q : Key) → record_fields sig s ≡ None
      → new_at sig y num reduce true d s q ≡ new_single sig y num reduce true s q
  new_of_single zero s q r = refl
  new_of_single (suc d) s q r =
      ap
      (λ o. elim o as (λ _. Val) [
        | None ↦ new_single sig y num reduce true s q
        | Some ss ↦ fields
            (each_place (new_at sig y num reduce true d) 0 ss q)
      ]) r

  free_constructor : (h : Head) (c : IsConstructor sig h)
      → free_value sig y num reduce true h [] (constructor_of sig lawful h c).sort [] ≡ value_of_choice h
  free_constructor h c =
      let k = constructor_of sig lawful h c in
      let q = applied h [] [] in
      ap (or_else (named sig y num reduce true h [] [])) (
      new_of_single (depth_of sig k.sort) k.sort q (choice_no_fields sig k.sort k.heads k.listed)
      ∙ sym (alone_new sig y num reduce true completed k.sort q (ap (λ b. not b && true) (is_a_constructor sig y num reduce true h c)))
      ∙ ap (λ b. cond b (once (new_leaf sig y num reduce true q)) (leaf (new_leaf sig y num reduce true q)))
      (choice_not_numeric sig k.sort k.heads k.listed)
      )

  -- ---- different constructors have different values, where named ones have
  low_value : (s : Sort) (k n : ℕ) → is_numeric s ≡ false → Has sig y s (leaf k) n → k < length y.names
  low_value s k n z h = let l = (completed.over s (leaf k) n h).2 in slice_get_within y.names k l.term l.is

  named_constructor : (h : Head) (c : IsConstructor sig h) (v : Val) → named sig y num reduce true h [] [] ≡ Some v
      → ValueOf y (Apply h [] []) v × ((k : ℕ) → v ≡ leaf k → k < length y.names)
  named_constructor h c v e =
      let k = constructor_of sig lawful h c in
      let a = is_applied sig h [] [] k.sort k.sorted in
      let f = named_has sig lawful y num reduce true completed reduction h [] [] k.sort v (result_is sig h [] a.args k.sort a.headed) e in (
        (f.0, f.2 ∙ ap (λ (us : List Term). Some (Apply h [] us)) (no_values f.1 f.3), f.4.value),
        λ n z. low_value k.sort n f.0 (choice_not_numeric sig k.sort k.heads k.listed) (subst (λ (w : Val). Has sig y k.sort w f.0) z f.4),
      )
    where
      no_values : (us : List Term) → ValuesOf y us [] → us ≡ []
      no_values [] w = refl
      no_values (u ∷ us) w = absurd w

  pub constructors_apart :
      ((h i : Head) (v : Val) → IsConstructor sig h → IsConstructor sig i → ValueOf y (Apply h [] []) v → ValueOf y (Apply i [] []) v
      → h ≡ i)
      → (h i : Head) → IsConstructor sig h → IsConstructor sig i → value_of_choice h ≡ value_of_choice i → h ≡ i
  constructors_apart apart h i c d e = go (named sig y num reduce true h [] []) refl (named sig y num reduce true i [] []) refl e
    where
      key : Head → Key
      key j = applied j [] []

      leaf_of : Head → Val
      leaf_of j = leaf (new_leaf sig y num reduce true (applied j [] []))

      not_low : (j : Head) → new_leaf sig y num reduce true (applied j [] []) < length y.names → ⊥
      not_low j l = omega (arith, l)

      same_key : (j k : Head) → num.code (applied j [] []) ≡ num.code (applied k [] []) → j ≡ k
      same_key j k z =
          let w : ◌≡◌ {A = Option Key} (Some (applied j [] [])) (Some (applied k [] [])) =
          sym (num.back (applied j [] [])) ∙ ap num.key z ∙ num.back (applied k [] []) in
          let u : applied j [] [] ≡ applied k [] [] = same_Some (applied j [] []) (applied k [] []) w in
          cc

      go : (o : Option Val) → o ≡ named sig y num reduce true h [] [] → (p : Option Val) → p ≡ named sig y num reduce true i [] []
          → or_else o (leaf (new_leaf sig y num reduce true (applied h [] []))) ≡ or_else p
          (leaf (new_leaf sig y num reduce true (applied i [] [])))
          → h ≡ i
      go (Some v) a (Some w) b e =
          apart h i w c d (subst (ValueOf y (Apply h [] [])) e (named_constructor h c v (sym a)).0) (named_constructor i d w (sym b)).0
      go (Some v) a None b e = absurd (not_low i ((named_constructor h c v (sym a)).1 (new_leaf sig y num reduce true (applied i [] [])) e))
      go None a (Some w) b e =
          absurd (not_low h ((named_constructor i d w (sym b)).1 (new_leaf sig y num reduce true (applied h [] [])) (sym e)))
      go None a None b e =
          let z : new_leaf sig y num reduce true (applied h [] []) ≡ new_leaf sig y num reduce true (applied i [] []) = cc in
          same_key h i (omega (arith, z))

  -- ---- values of which each part of an enumeration's sort is the value of one of its constructors
  abbrev IsChosen : Sort → Val → Type 0
  IsChosen s v =
      (hs : List Head) → choices_of sig (out-Sort s) ≡ Some hs → (h : Head) × (i : ℕ) × (slice_get hs i ≡ Some h) × (value_of_choice h ≡ v)

  abbrev mutual
    pub IsExhausted : Sort → Val → Type 0
    IsExhausted s (number f) = IsChosen s (number f)
    IsExhausted s (leaf n) = IsChosen s (leaf n)
    IsExhausted s (fields vs) = IsChosen s (fields vs) × ((ss : List Sort) → record_fields sig s ≡ Some ss → AreExhausted ss vs)

    pub AreExhausted : List Sort → Vals → Type 0
    AreExhausted (s ∷ ss) (more v vs) = IsExhausted s v × AreExhausted ss vs
    AreExhausted _ _ = Unit {0}

  pub chosen_value : (s : Sort) (v : Val) → IsExhausted s v → IsChosen s v
  chosen_value s (number f) h = h
  chosen_value s (leaf n) h = h
  chosen_value s (fields vs) h = h.0

  single_exhausted : (s : Sort) (v : Val) → record_fields sig s ≡ None → IsChosen s v → IsExhausted s v
  single_exhausted s (number f) r c = c
  single_exhausted s (leaf n) r c = c
  single_exhausted s (fields vs) r c = (c, λ ss e. absurd (none-some ss (sym r ∙ e)))

  number_exhausted : (s : Sort) (v : Val) → IsNumeric s → IsNumber v → IsExhausted s v
  number_exhausted s v n w = subst (IsExhausted s) (sym w.1) (λ hs e. absurd (number_is_no_choice sig s hs e n))

  fields_exhausted : (s : Sort) (ss : List Sort) (vs : Vals) → record_fields sig s ≡ Some ss → AreExhausted ss vs
      → IsExhausted s (fields vs)
  fields_exhausted s ss vs r a = (
    λ hs e. absurd (choice_is_no_record sig s hs ss e r),
    λ os e. let z : ss ≡ os = same_Some ss os (sym r ∙ e) in subst
        (λ (os : List Sort). AreExhausted os vs) z a,
  )

  exhausted_at : (ss : List Sort) (vs : Vals) (i : ℕ) (s : Sort) (v : Val) → AreExhausted ss vs → slice_get ss i ≡ Some s
      → val_at vs i ≡ Some v → IsExhausted s v
  exhausted_at [] vs i s v a e f = absurd (cc)
  exhausted_at (o ∷ ss) none i s v a e f = absurd (cc)
  exhausted_at (o ∷ ss) (more w vs) zero s v a e f =
      subst (IsExhausted s) (same_Some w v f) (subst (λ (q : Sort). IsExhausted q w) (same_Some o s e) a.0)
  exhausted_at (o ∷ ss) (more w vs) (suc i) s v a e f = exhausted_at ss vs i s v a.1 e f

  -- a sort that holds no enumeration asks for nothing
  mutual
    pub none_exhausted : (s : Sort) → (HoldsEnumeration sig s → ⊥) → (v : Val) → IsExhausted s v
    none_exhausted s n (number f) = λ hs e. absurd (n (itself s hs e))
    none_exhausted s n (leaf k) = λ hs e. absurd (n (itself s hs e))
    none_exhausted s n (fields vs) = (λ hs e. absurd (n (itself s hs e)), λ ss r. all_none ss (λ h. n (in_field s ss r h)) vs)

    all_none : (ss : List Sort) → (SomeHolds sig ss → ⊥) → (vs : Vals) → AreExhausted ss vs
    all_none [] n vs = tt
    all_none (s ∷ ss) n none = tt
    all_none (s ∷ ss) n (more v vs) = (none_exhausted s (λ h. n (first h)) v, all_none ss (λ h. n (later h)) vs)

  -- ---- new values
  AllAtMost : ℕ → List Sort → Type 0
  AllAtMost d ss = AllByRecursion (λ o. depth_of sig o ≤ d) ss

  new_single_exhausted : (s : Sort) (q : Key) → record_fields sig s ≡ None → chooses sig y num reduce true q ≡ true
      → IsExhausted s (new_single sig y num reduce true s q)
  new_single_exhausted s q r c =
      single_exhausted s (new_single sig y num reduce true s q) r (λ hs e. by_list hs e (choices_not_empty sig lawful s hs e))
    where
      by_list : (hs : List Head) → choices_of sig (out-Sort s) ≡ Some hs → (hs ≡ [] → ⊥)
          → (h : Head) × (i : ℕ) × (slice_get hs i ≡ Some h) × (value_of_choice h ≡ new_single sig y num reduce true s q)
      by_list [] e n = absurd (n refl)
      by_list (h ∷ hs) e n =
          (h, 0, refl, sym (λ k. or_else (only (c k) (first_value sig y num reduce true (e k))) (own s (new_leaf sig y num reduce true q))))

  abbrev ExhaustsAt : ℕ → Type 0
  ExhaustsAt d =
      (s : Sort) (q : Key) → depth_of sig s ≤ d → chooses sig y num reduce true q ≡ true → IsExhausted s
      (new_at sig y num reduce true d s q)

  each_exhausted : (d : ℕ) → ExhaustsAt d → (ss : List Sort) → AllByRecursion (λ o. depth_of sig o ≤ d) ss → (i : ℕ) (q : Key)
      → chooses sig y num reduce true q ≡ true
      → AreExhausted ss (each_place (new_at sig y num reduce true d) i ss q)
  each_exhausted d f [] a i q c = tt
  each_exhausted d f (s ∷ ss) a i q c = (f s (place q i) a.0 c, each_exhausted d f ss a.1 (suc i) q c)

  all_at_most : (n d : ℕ) (ss : List Sort) → n ≤ suc d → AllByRecursion (λ o. depth_of sig o < n) ss
      → AllByRecursion (λ o. depth_of sig o ≤ d) ss
  all_at_most n d [] h a = tt
  all_at_most n d (s ∷ ss) h a = (omega (arith, a.0, h), all_at_most n d ss h a.1)

  new_at_exhausted : (d : ℕ) → ExhaustsAt d
  new_at_exhausted zero s q h c = by_fields (record_fields sig s) refl
    where
      by_fields : (o : Option (List Sort)) → record_fields sig s ≡ o → IsExhausted s (new_single sig y num reduce true s q)
      by_fields None e = new_single_exhausted s q e c
      by_fields (Some ss) e = let p = not_flat sig lawful s ss e in absurd (omega (arith, h, p))
  new_at_exhausted (suc d) s q h c = by_fields (new_at_exhausted d) (record_fields sig s) refl
    where
      by_fields : ExhaustsAt d → (o : Option (List Sort)) → record_fields sig s ≡ o
          → IsExhausted s (elim o as
          (λ _. Val) [
            | None ↦ new_single sig y num reduce true s q
            | Some ss ↦ fields
                (each_place (new_at sig y num reduce true d) 0 ss q)
          ])
      by_fields f None e = new_single_exhausted s q e c
      by_fields f (Some ss) e =
          fields_exhausted s ss (each_place (new_at sig y num reduce true d) 0 ss q) e
          (each_exhausted d f ss (all_at_most (depth_of sig s) d ss h (deep sig lawful s ss e)) 0 q c)

  new_exhausted : (s : Sort) (q : Key) → chooses sig y num reduce true q ≡ true → IsExhausted s (new sig y num reduce true s q)
  new_exhausted s q c = new_at_exhausted (depth_of sig s) s q (omega arith) c

  -- ---- names: where each name of an enumeration has a constructor's value
  module _ (names : (s : Sort) (v : Val) (n : ℕ) (hs : List Head) → Has sig y s v n → choices_of sig (out-Sort s) ≡ Some hs → (h : Head)
      × Contains hs h × ValueOf y (Apply h [] []) v) where
    leaf_chosen : (s : Sort) (k : ℕ) → is_numeric s ≡ false → IsLeaf sig y s k → IsChosen s (leaf k)
    leaf_chosen s k n l hs e =
        let own_leaf : own s k ≡ leaf k = ap (λ b. cond b (once k) (leaf k)) n in
        let r = names s (leaf k) k hs (subst (λ (v : Val). Has sig y s v k) own_leaf l) e in
        let i = placed hs r.0 r.1 in
        (r.0, i.0, i.1, valued_constructor r.0 (leaf k) (choices_are sig lawful s hs i.0 r.0 e i.1) r.2)

    mutual
      pub over_exhausted : (s : Sort) (v : Val) → IsOver sig y s v → IsExhausted s v
      over_exhausted s (number f) o = λ hs e. absurd (number_is_no_choice sig s hs e o.0)
      over_exhausted s (leaf k) o = leaf_chosen s k o.0 o.2
      over_exhausted s (fields vs) o = fields_exhausted s o.0 vs o.1 (overs_exhausted o.0 vs o.2)

      overs_exhausted : (ss : List Sort) (vs : Vals) → AreOver sig y ss vs → AreExhausted ss vs
      overs_exhausted [] vs o = tt
      overs_exhausted (s ∷ ss) none o = tt
      overs_exhausted (s ∷ ss) (more v vs) o = (over_exhausted s v o.0, overs_exhausted ss vs o.1)

    pub name_exhausted : (s : Sort) (v : Val) (n : ℕ) → Has sig y s v n → IsExhausted s v
    name_exhausted s v n h = over_exhausted s v (completed.over s v n h)

    -- ---- terms
    module _ (assigned : ℕ → Sort → Option Val)
        (shaped : (t : Term) (s : Sort) → sort_of sig t ≡ Some s → HasShape sig s (ev sig y num reduce true assigned t))
        (assigned_exhausted : (n : ℕ) (s : Sort) (v : Val) → assigned n s ≡ Some v → IsExhausted s v) where
      abbrev E : Term → Val
      E = ev sig y num reduce true assigned

      pub constructor_evaluates : (h : Head) → IsConstructor sig h → E (Apply h [] []) ≡ value_of_choice h
      constructor_evaluates h c = ev-Apply sig y num reduce true assigned h [] [] ∙ by_head h c
        where
          sorted : (h : Head) (c : IsConstructor sig h) → or_else (result_sort sig h []) Int ≡ (constructor_of sig lawful h c).sort
          sorted h c =
              let k = constructor_of sig lawful h c in
              let a = is_applied sig h [] [] k.sort k.sorted in
              ap (λ o. or_else o Int) (result_is sig h [] a.args k.sort a.headed)

          free : (h : Head) (c : IsConstructor sig h)
              → free_value sig y num reduce true h [] (or_else (result_sort sig h []) Int) [] ≡ value_of_choice h
          free h c = ap (λ (s : Sort). free_value sig y num reduce true h [] s []) (sorted h c) ∙ free_constructor h c

          by_head : (h : Head) → IsConstructor sig h
              → or_else (linear h []) (rest_of sig y num reduce true assigned h [] []) ≡ value_of_choice h
          by_head (head.Symbol n) c = free (head.Symbol n) c
          by_head head.True c = free head.True c
          by_head head.False c = free head.False c
          by_head head.Void c = free head.Void c
          by_head (head.Build n) c = absurd c
          by_head (head.Field n i) c = absurd c
          by_head (head.Int o) c = absurd c
          by_head (head.Real o) c = absurd c

      -- no AC symbol is applied in the term to terms of a sort that holds an enumeration
      abbrev JoinsNone : Term → Type 0
      JoinsNone t = AllByRecursion (JoinsNoEnumeration sig []) (subterms t)

      abbrev pub Exhausts : Term → Type 0
      Exhausts t = (s : Sort) → sort_of sig t ≡ Some s → JoinsNone t → IsExhausted s (E t)

      bound_case : (n : ℕ) → Exhausts (Bound n)
      bound_case n s e j =
          let z : ◌≡◌ {A = Option Sort} None (Some s) = sym (sort_in_bound sig (is_closed_sort sig) [] n) ∙ e in absurd (cc)

      num_case : (a b : ℤ) (r : Bool) → Exhausts (Num a b r)
      num_case a b r s e j =
          let w = when_some (numeral_ok a b r) (cond r Real Int) s (sym (sort_in_num sig (is_closed_sort sig) [] a b r) ∙ e) in
          subst (IsExhausted s) (sym (ev-Num sig y num reduce true assigned a b r))
          (λ hs f. absurd (number_is_no_choice sig s hs f (subst IsNumeric w.1 (numeral_sort r))))
        where
          numeral_sort : (r : Bool) → IsNumeric (cond r Real Int)
          numeral_sort true = inr refl
          numeral_sort false = inl refl

      fresh_case : (n : ℕ) (o : Sort) → Exhausts (Fresh n o)
      fresh_case n o s e j =
          subst (IsExhausted s) (sym (ev-Fresh sig y num reduce true assigned n o))
          (subst (λ (q : Sort). IsExhausted q
          (or_else (assigned n o) (or_else (value_of sig y num reduce true (Fresh n o)) (new sig y num reduce true o (constant n o))))) w.1
          (by_value (assigned n o) refl (value_of sig y num reduce true (Fresh n o)) refl))
        where
          w : (is_closed_sort sig o ≡ true) × (o ≡ s)
          w = when_some (is_closed_sort sig o) o s (sym (sort_in_fresh sig (is_closed_sort sig) [] n o) ∙ e)

          by_value : (p : Option Val) → p ≡ assigned n o → (q : Option Val) → q ≡ value_of sig y num reduce true (Fresh n o)
              → IsExhausted o (or_else p (or_else q (new sig y num reduce true o (constant n o))))
          by_value (Some v) f q g = assigned_exhausted n o v (sym f)
          by_value None f (Some v) g =
              let r = valued_by sig y num reduce true completed (Fresh n o) v (sym g) in
              name_exhausted o v r.0 (record { term = Fresh n o; is = r.1; sort = e ∙ ap (λ (q : Sort). Some q) (sym w.1); value = r.2 })
          by_value None f None g = new_exhausted o (constant n o) refl

      -- ---- applications
      arguments : (ts : List Term) (args : List Sort) → AllByRecursion Exhausts ts → all_known (map (sort_of sig) ts) ≡ Some args
          → AllByRecursion JoinsNone ts → AreExhausted args (vals (map E ts))
      arguments [] args a e j = let z : [] ≡ args = same_Some [] args e in subst (λ (os : List Sort). AreExhausted os none) z tt
      arguments (t ∷ ts) args a e j =
          let b = bind_some (sort_of sig t) (λ x. all_known (map (sort_of sig) ts) >>= λ xs. Some (x ∷ xs)) args e in
          let c = bind_some (all_known (map (sort_of sig) ts)) (λ xs. Some (b.0 ∷ xs)) args b.2 in
          subst (λ (os : List Sort). AreExhausted os (more (E t) (vals (map E ts)))) (same_Some (b.0 ∷ c.0) args c.2)
          (a.0 b.0 b.1 j.0, arguments ts c.0 a.1 c.1 j.1)

      free_exhausted : (h : Head) (ss : List Sort) (vs : List Val) (s : Sort) → is_constructor sig y num reduce true h ≡ false
          → result_sort sig h ss ≡ Some s
          → IsExhausted s (free_value sig y num reduce true h ss s vs)
      free_exhausted h ss vs s n r = go (named sig y num reduce true h ss vs) refl
        where
          go : (o : Option Val) → o ≡ named sig y num reduce true h ss vs
              → IsExhausted s (or_else o (new sig y num reduce true s (applied h ss vs)))
          go None e = new_exhausted s (applied h ss vs) (ap (λ b. not b && true) n)
          go (Some v) e =
              let f = named_has sig lawful y num reduce true completed reduction h ss vs s v r (sym e) in name_exhausted s v f.0 f.4

      other_exhausted : (h : Head) (ss : List Sort) (vs : List Val) (s : Sort) → is_constructor sig y num reduce true h ≡ false
          → result_sort sig h ss ≡ Some s
          → (IsAc sig h → HoldsEnumeration sig s → ⊥) → IsExhausted s (other_value sig y num reduce true h ss s vs)
      other_exhausted h ss [] s n r j = free_exhausted h ss [] s n r
      other_exhausted h ss (v ∷ []) s n r j = free_exhausted h ss (v ∷ []) s n r
      other_exhausted h ss (v ∷ w ∷ []) s n r j = by_test (is_ac sig y num reduce true h) refl
        where
          by_test : (b : Bool) → b ≡ is_ac sig y num reduce true h
              → IsExhausted s (cond b
              (whole sig y num reduce true h ss s
              (reduce h ss (members sig y num reduce true h ss s v ++ members sig y num reduce true h ss s w)))
              (free_value sig y num reduce true h ss s (v ∷ w ∷ [])))
          by_test true z = none_exhausted s (j (ac_is sig lawful y num reduce true completed reduction h (sym z)))
              (whole sig y num reduce true h ss s
              (reduce h ss (members sig y num reduce true h ss s v ++ members sig y num reduce true h ss s w)))
          by_test false z = free_exhausted h ss (v ∷ w ∷ []) s n r
      other_exhausted h ss (v ∷ w ∷ x ∷ vs) s n r j = free_exhausted h ss (v ∷ w ∷ x ∷ vs) s n r

      field_exhausted : (n i : ℕ) (ss : List Sort) (r : Term) (s : Sort) → IsField sig n i ss (Named n ss ∷ []) s
          → sort_of sig r ≡ Some (Named n ss) → IsExhausted (Named n ss) (E r)
          → IsExhausted s (field_at sig y num reduce true (E r) i)
      field_exhausted n i ss r s f o x =
          let w = fields_shape sig (Named n ss) f.sorts (E r) f.fields (named_not_numeric n ss) (shaped r (Named n ss) o) in
          let a = shape_at sig f.sorts w.0 i s w.2 f.at in
          let b = (subst (IsExhausted (Named n ss)) w.1 x).1 f.sorts f.fields in
          subst (IsExhausted s) (sym (ap (λ u. field_at sig y num reduce true u i) w.1 ∙ ap (λ o. or_else o nothing) a.1))
          (exhausted_at f.sorts w.0 i s a.0 b f.at a.1)

      one_argument : (ts : List Term) (o : Sort) → all_known (map (sort_of sig) ts) ≡ Some (o ∷ [])
          → (r : Term) × (ts ≡ r ∷ []) × (sort_of sig r ≡ Some o)
      one_argument [] o e = absurd (cc)
      one_argument (r ∷ ts) o e =
          let b = bind_some (sort_of sig r) (λ x. all_known (map (sort_of sig) ts) >>= λ xs. Some (x ∷ xs)) (o ∷ []) e in
          let c = bind_some (all_known (map (sort_of sig) ts)) (λ xs. Some (b.0 ∷ xs)) (o ∷ []) b.2 in
          let z : b.0 ∷ c.0 ≡ o ∷ [] = same_Some (b.0 ∷ c.0) (o ∷ []) c.2 in
          let first : b.0 ≡ o = cc in
          let rest : c.0 ≡ [] = cc in
          (r, ap (λ (us : List Term). r ∷ us) (empty ts (c.1 ∙ ap (λ (x : List Sort). Some x) rest)), b.1 ∙ ap (λ (x : Sort). Some x) first)
        where
          empty : (ts : List Term) → all_known (map (sort_of sig) ts) ≡ Some [] → ts ≡ []
          empty [] e = refl
          empty (t ∷ ts) e =
              let b = bind_some (sort_of sig t) (λ x. all_known (map (sort_of sig) ts) >>= λ xs. Some (x ∷ xs)) [] e in
              let d = bind_some (all_known (map (sort_of sig) ts)) (λ xs. Some (b.0 ∷ xs)) [] b.2 in
              let z : b.0 ∷ d.0 ≡ [] = same_Some (b.0 ∷ d.0) [] d.2 in
              absurd (cc)

      -- an application that is neither a constructor nor a linear operation
      module _ (ss : List Sort) (ts : List Term) (s : Sort) (a : AllByRecursion Exhausts ts) where
        other_case : (h : Head) → is_constructor sig y num reduce true h ≡ false → sort_of sig (Apply h ss ts) ≡ Some s
            → JoinsNone (Apply h ss ts)
            → IsExhausted s (other_value sig y num reduce true h ss s (map E ts))
        other_case h n e j =
            let k = is_applied sig h ss ts s e in
            other_exhausted h ss (map E ts) s n (result_is sig h ss k.args s k.headed)
            (λ i. (parts_of (JoinsNoEnumeration sig []) h ss ts j).0 h ss ts s refl i e)

        applied_case : (h : Head) → is_constructor sig y num reduce true h ≡ false → sort_of sig (Apply h ss ts) ≡ Some s
            → JoinsNone (Apply h ss ts)
            → IsExhausted s (applied_value sig y num reduce true h ss s (map E ts))
        applied_case (head.Build n) c e j =
            let k = is_applied sig (head.Build n) ss ts s e in
            let b = is_built sig n ss k.args s k.headed in
            let i = (parts_of (JoinsNoEnumeration sig []) (head.Build n) ss ts j).1 in
            subst (λ (q : Sort). IsExhausted q (fields (vals (map E ts)))) b.is
            (fields_exhausted (Named n ss) k.args (vals (map E ts)) b.fields (arguments ts k.args a k.known i))
        applied_case (head.Field n i) c e j =
            let k = is_applied sig (head.Field n i) ss ts s e in
            let f = is_field sig n i ss k.args s k.headed in
            let r = one_argument ts (Named n ss) (k.known ∙ ap (λ (x : List Sort). Some x) f.args_are) in
            let js = subst (AllByRecursion JoinsNone) r.1 (parts_of (JoinsNoEnumeration sig []) (head.Field n i) ss ts j).1 in
            let x = (subst (AllByRecursion Exhausts) r.1 a).0 (Named n ss) r.2 js.0 in
            subst (λ (us : List Term). IsExhausted s (applied_value sig y num reduce true (head.Field n i) ss s (map E us))) (sym r.1)
            (field_exhausted n i ss r.0 s (subst (λ (os : List Sort). IsField sig n i ss os s) f.args_are f) r.2 x)
        applied_case (head.Symbol n) c e j = other_case (head.Symbol n) c e j
        applied_case (head.Int o) c e j = other_case (head.Int o) c e j
        applied_case (head.Real o) c e j = other_case (head.Real o) c e j
        applied_case head.True c e j = other_case head.True c e j
        applied_case head.False c e j = other_case head.False c e j
        applied_case head.Void c e j = other_case head.Void c e j

      apply_case : (h : Head) (ss : List Sort) (ts : List Term) → AllByRecursion Exhausts ts → Exhausts (Apply h ss ts)
      apply_case h ss ts a s e j = by_test (is_constructor sig y num reduce true h) refl
        where
          k : IsApplied sig h ss ts s
          k = is_applied sig h ss ts s e

          result : result_sort sig h ss ≡ Some s
          result = result_is sig h ss k.args s k.headed

          by_linear : is_constructor sig y num reduce true h ≡ false → (o : Option Val) → o ≡ linear h (map (λ t. (t, E t)) ts)
              → IsExhausted s (or_else o (rest_of sig y num reduce true assigned h ss ts))
          by_linear n (Some v) f = number_exhausted s v (arithmetic sig h ss _ v s (sym f) result) (linear_number sig h _ v (sym f))
          by_linear n None f =
              subst (λ (o : Option Sort). IsExhausted s (applied_value sig y num reduce true h ss (or_else o Int) (map E ts))) (sym result)
              (applied_case ss ts s a h n e j)

          by_alone : IsConstructor sig h → (ss ≡ []) × (ts ≡ []) → IsExhausted s (E (Apply h ss ts))
          by_alone c (os, us) =
              let d = constructor_of sig lawful h c in
              let sorted : d.sort ≡ s = same_Some d.sort s (sym d.sorted ∙ (λ i. sort_of sig (Apply h (sym os i) (sym us i))) ∙ e) in
              subst (IsExhausted s) (sym (constructor_evaluates h c) ∙ (λ i. E (Apply h (sym os i) (sym us i))))
              (subst (λ (q : Sort). IsExhausted q (value_of_choice h)) sorted
              (single_exhausted d.sort (value_of_choice h) (choice_no_fields sig d.sort d.heads d.listed)
              (λ hs f. (
                h,
                d.place,
                ap (λ (xs : List Head). slice_get xs d.place) (sym (same_Some d.heads hs (sym d.listed ∙ f)))
                    ∙ d.at,
                refl,
              ))))

          by_test : (b : Bool) → b ≡ is_constructor sig y num reduce true h → IsExhausted s (E (Apply h ss ts))
          by_test true z =
              by_alone (constructor_is sig y num reduce true h (sym z))
              (constructor_alone sig lawful h ss ts s (constructor_is sig y num reduce true h (sym z)) e)
          by_test false z =
              subst (IsExhausted s) (sym (ev-Apply sig y num reduce true assigned h ss ts))
              (by_linear (sym z) (linear h (map (λ t. (t, E t)) ts)) refl)

      -- a term of an enumeration has the value of one of its constructors
      pub exhausts : (t : Term) → Exhausts t
      exhausts = by_terms Exhausts bound_case num_case fresh_case apply_case
