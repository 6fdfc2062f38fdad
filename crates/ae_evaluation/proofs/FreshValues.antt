-- The fresh constants of the lines of a ground proof, with the values of the terms that a saturated state has for the goal's variables.
use Rattle.std.specs.Prelude.{ℕ, zero, suc, ◌≤◌, Bool, true, false, List, [], ◌∷◌, ◌≡◌, map, length, reverse, slice_get, Option, Some, None}
use Rattle.std.specs.List.{Contains, list_all}
use Rattle.std.specs.Option.{option_map}
use Rattle.std.proofs.lemmas.Option.{same_Some, slice_get-map}
use mathlib.Core.Path.{refl, sym, ap, ◌∙◌, subst}
use native.Mathlib.Omega.{arith}
use Rattle.ae_base.specs.Decided.{pick}
use Rattle.ae_base.proofs.Decided.{pick_yes, pick_no}
use Rattle.ae_core.specs.Decided.{Term_discrete}
use Rattle.ae_core.specs.Sorts.{sort_of, is_closed_sort, variable_sort}
use Rattle.ae_base.specs.Options.{all_known, when, ◌>>=◌}
use Rattle.ae_core.specs.Putting.{put_terms}
use Rattle.ae_rules.specs.Instances.{count_from}
use Rattle.ae_core.proofs.SortLaws.{sort_in_fresh}
use Rattle.ae_core.specs.declared.terms.Sort.{Sort}
use Rattle.ae_core.specs.declared.terms.Term.{Term, Bound, Fresh, out-Term}
use Rattle.ae_core.specs.declared.terms.Term.TheOpen as term_layer
use Rattle.ae_core.specs.declared.terms.Term.TheVariants.{outs-Fresh}
use Rattle.ae_core.specs.declared.problems.Signature.{Signature}
use Rattle.ae_journal.specs.Values.{Val}
use Rattle.ae_evaluation.proofs.Substitution.{Fill, at_variable}
use Rattle.ae_base.proofs.ListFacts.{map_reverse}
use Rattle.ae_base.proofs.Options.{bind_some, known_each}
use Rattle.std.proofs.lemmas.Bool.{and_parts}
use Rattle.ae_journal.proofs.Splits.{contains_later}

found_at : (f : Term → Option Sort) (o : Option Term) (s : Sort) → option_map f o ≡ Some (Some s)
    → (t : Term) × (o ≡ Some t) × (f t ≡ Some s)
found_at f (Some t) s e = (t, refl, same_Some (f t) (Some s) e)
found_at f None s e = absurd (cc)

pub fill_of : (sig : Signature) (ts : List Term) (ss : List Sort) → all_known (map (sort_of sig) ts) ≡ Some ss → Fill sig ss ts
fill_of sig ts ss all k s at =
    let turned : map (sort_of sig) (reverse ts) ≡ map Some (reverse ss) =
    map_reverse (sort_of sig) ts ∙ ap reverse (known_each (sort_of sig) ts ss all) ∙ sym (map_reverse Some ss) in
    found_at (sort_of sig) (slice_get (reverse ts) k) s
    (sym (slice_get-map (sort_of sig) (reverse ts) k) ∙ ap (λ zs. slice_get zs k) turned ∙ slice_get-map Some (reverse ss) k ∙ ap
    (option_map Some) at)

-- two lists with equal values have them at each place, from the end too
values_at : {V : Type 0} (f h : Term → V) (cs ts : List Term) → map f cs ≡ map h ts → (i : ℕ) (c t : Term)
    → slice_get (reverse cs) i ≡ Some c → slice_get (reverse ts) i ≡ Some t → f c ≡ h t
values_at f h cs ts e i c t a b =
    let turned : map f (reverse cs) ≡ map h (reverse ts) = map_reverse f cs ∙ ap reverse e ∙ sym (map_reverse h ts) in
    same_Some (f c) (h t)
    (sym (slice_get-map f (reverse cs) i ∙ ap (option_map f) a) ∙ ap (λ zs. slice_get zs i) turned ∙ slice_get-map h (reverse ts) i ∙ ap
    (option_map h) b)

pub variables_same : {V : Type 0} (sig : Signature) (f h : Term → V) (env : List Sort) (cs ts : List Term) → Fill sig env cs
    → Fill sig env ts → map f cs ≡ map h ts
    → (i : ℕ) (s : Sort) → variable_sort env i ≡ Some s → f (put_terms 0 cs (Bound i)) ≡ h (put_terms 0 ts (Bound i))
variables_same sig f h env cs ts p q e i s at =
    let c = p i s at in
    let t = q i s at in
    ap f (at_variable cs i c.0 c.1) ∙ values_at f h cs ts e i c.0 t.0 c.1 t.1 ∙ sym (ap h (at_variable ts i t.0 t.1))

-- ---- constants in a row
same_fresh : (m n : ℕ) (s o : Sort) → Fresh m s ≡ Fresh n o → (m ≡ n) × (s ≡ o)
same_fresh m n s o e =
    let f : term_layer.Fresh m s ≡ term_layer.Fresh n o = sym (outs-Fresh m s) ∙ ap out-Term e ∙ outs-Fresh n o in
    (cc, cc)

pub constants_sorted : (sig : Signature) (m : ℕ) (ss : List Sort) → list_all (is_closed_sort sig) ss ≡ true
    → all_known (map (sort_of sig) (count_from m ss)) ≡ Some ss
constants_sorted sig m [] c = refl
constants_sorted sig m (s ∷ ss) c =
    let p = and_parts (is_closed_sort sig s) (list_all (is_closed_sort sig) ss) c in
    λ i. ((sort_in_fresh sig (is_closed_sort sig) [] m s ∙ when_it (is_closed_sort sig s) s p.0) i) >>= λ x.
    (constants_sorted sig (suc m) ss p.1 i) >>= λ xs. Some (x ∷ xs)
  where
    when_it : (b : Bool) (s : Sort) → b ≡ true → when b s ≡ Some s
    when_it true s e = refl
    when_it false s e = absurd (cc)

-- the value of a term at the place of a constant
module _ (V : Term → Val) where
  abbrev pub lookup : ℕ → List Sort → List Term → ℕ → Sort → Option Val
  lookup m (s ∷ ss) (t ∷ ts) n o = pick (Term_discrete (Fresh m s) (Fresh n o)) (Some (V t)) (lookup (suc m) ss ts n o)
  lookup m ss ts n o = None

  pub found_constant : (m : ℕ) (ss : List Sort) (ts : List Term) (n : ℕ) (o : Sort) (v : Val) → lookup m ss ts n o ≡ Some v
      → Contains (count_from m ss) (Fresh n o)
  found_constant m [] ts n o v e = absurd (cc)
  found_constant m (s ∷ ss) [] n o v e = absurd (cc)
  found_constant m (s ∷ ss) (t ∷ ts) n o v e = go (Term_discrete (Fresh m s) (Fresh n o)) e (found_constant (suc m) ss ts n o v)
    where
      go : (d : Dec (Fresh m s ≡ Fresh n o)) → pick d (Some (V t)) (lookup (suc m) ss ts n o) ≡ Some v
          → (lookup (suc m) ss ts n o ≡ Some v → Contains (count_from (suc m) ss) (Fresh n o))
          → Contains (Fresh m s ∷ count_from (suc m) ss) (Fresh n o)
      go (yes d) e k = (zero, omega arith, d)
      go (no d) e k = contains_later (Fresh m s) (count_from (suc m) ss) (Fresh n o) (k e)

  -- it is the value of a term of the constant's sort
  pub found_term : (sig : Signature) (m : ℕ) (ss : List Sort) (ts : List Term) → all_known (map (sort_of sig) ts) ≡ Some ss
      → (n : ℕ) (o : Sort) (v : Val) → lookup m ss ts n o ≡ Some v → (t : Term) × (sort_of sig t ≡ Some o) × (v ≡ V t)
  found_term sig m [] ts a n o v e = absurd (cc)
  found_term sig m (s ∷ ss) [] a n o v e = absurd (cc)
  found_term sig m (s ∷ ss) (t ∷ ts) a n o v e = go (Term_discrete (Fresh m s) (Fresh n o)) e (found_term sig (suc m) ss ts later n o v)
    where
      b : (x : Sort) × (sort_of sig t ≡ Some x) × ((all_known (map (sort_of sig) ts) >>= λ xs. Some (x ∷ xs)) ≡ Some (s ∷ ss))
      b = bind_some (sort_of sig t) (λ x. all_known (map (sort_of sig) ts) >>= λ xs. Some (x ∷ xs)) (s ∷ ss) a

      c : (xs : List Sort) × (all_known (map (sort_of sig) ts) ≡ Some xs) × (◌≡◌ {A = Option (List Sort)} (Some (b.0 ∷ xs)) (Some (s ∷ ss)))
      c = bind_some (all_known (map (sort_of sig) ts)) (λ xs. Some (b.0 ∷ xs)) (s ∷ ss) b.2

      heads : (b.0 ≡ s) × (c.0 ≡ ss)
      heads = let z : b.0 ∷ c.0 ≡ s ∷ ss = same_Some (b.0 ∷ c.0) (s ∷ ss) c.2 in (cc, cc)

      later : all_known (map (sort_of sig) ts) ≡ Some ss
      later = c.1 ∙ ap (λ (x : List Sort). Some x) heads.1

      go : (d : Dec (Fresh m s ≡ Fresh n o)) → pick d (Some (V t)) (lookup (suc m) ss ts n o) ≡ Some v
          → (lookup (suc m) ss ts n o ≡ Some v → (t : Term) × (sort_of sig t ≡ Some o) × (v ≡ V t))
          → (t : Term) × (sort_of sig t ≡ Some o) × (v ≡ V t)
      go (yes d) e k = (t, b.1 ∙ ap (λ (x : Sort). Some x) (heads.0 ∙ (same_fresh m n s o d).1), sym (same_Some (V t) v e))
      go (no d) e k = k e

  -- what holds of the value of each term, for the sort of its constant, holds of the value that is found
  abbrev pub EachValue : (Sort → Val → Type 0) → List Sort → List Term → Type 0
  EachValue P (s ∷ ss) (t ∷ ts) = P s (V t) × EachValue P ss ts
  EachValue P _ _ = Unit {0}

  pub found_holds : (P : Sort → Val → Type 0) (m : ℕ) (ss : List Sort) (ts : List Term) → EachValue P ss ts → (n : ℕ) (o : Sort) (v : Val)
      → lookup m ss ts n o ≡ Some v → P o v
  found_holds P m [] ts a n o v e = absurd (cc)
  found_holds P m (s ∷ ss) [] a n o v e = absurd (cc)
  found_holds P m (s ∷ ss) (t ∷ ts) a n o v e = go (Term_discrete (Fresh m s) (Fresh n o)) e (found_holds P (suc m) ss ts a.1 n o v)
    where
      go : (d : Dec (Fresh m s ≡ Fresh n o)) → pick d (Some (V t)) (lookup (suc m) ss ts n o) ≡ Some v
          → (lookup (suc m) ss ts n o ≡ Some v → P o v) → P o v
      go (yes d) e k = subst (P o) (same_Some (V t) v e) (subst (λ (q : Sort). P q (V t)) (same_fresh m n s o d).1 a.0)
      go (no d) e k = k e

  -- constants whose found values are put for them have the values of the terms
  pub own_values : (W : Term → Val) (m : ℕ) (ss : List Sort) (ts : List Term) → length ss ≡ length ts
      → ((n : ℕ) (o : Sort) (v : Val) → m ≤ n → lookup m ss ts n o ≡ Some v → W (Fresh n o) ≡ v) → map W (count_from m ss) ≡ map V ts
  own_values W m [] [] l h = refl
  own_values W m [] (t ∷ ts) l h = absurd (omega (arith, l))
  own_values W m (s ∷ ss) [] l h = absurd (omega (arith, l))
  own_values W m (s ∷ ss) (t ∷ ts) l h =
      let first : W (Fresh m s) ≡ V t =
      h m s (V t) (omega arith) (pick_yes (Term_discrete (Fresh m s) (Fresh m s)) (Some (V t)) (lookup (suc m) ss ts m s) refl) in
      let rest = own_values W (suc m) ss ts (omega (arith, l)) (λ n o v q e. h n o v (omega (arith, q))
      (pick_no (Term_discrete (Fresh m s) (Fresh n o)) (Some (V t)) (lookup (suc m) ss ts n o)
      (λ d. let z = (same_fresh m n s o d).0 in omega (arith, q, z)) ∙ e)) in
      λ i. first i ∷ rest i
