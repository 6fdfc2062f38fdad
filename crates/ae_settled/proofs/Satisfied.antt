-- The literals that a settled state meets hold of the values of their terms.
use Rattle.std.specs.Prelude.{ℕ, ℤ, ◌*ℤ◌, pos, ◌<◌, true, false, List, [], ◌∷◌, ◌≡◌, ◌⊎◌, map, length, slice_get, Some, unsigned_abs}
use Rattle.std.specs.List.{AllByRecursion, Contains}
use Rattle.std.specs.Int.{◌∣◌}
use Rattle.std.proofs.Common.{refl, sym, ap, ◌∙◌, subst, arith, inl, inr}
use Rattle.std.proofs.lemmas.Option.{same_Some, none-some, slice_get_within}
use Rattle.std.proofs.lemmas.Int.{unsigned_abs-mul}
use native.Mathlib.Nat.{dvd-mul_left, dvd-one}
use Rattle.ae_base.proofs.ListFacts.{value_at as there}
use Rattle.ae_core.specs.Sorts.{sort_of}
use Rattle.ae_core.specs.declared.terms.Sort.{Sort, Int}
use Rattle.ae_core.specs.declared.terms.Term.{Term, Apply}
use Rattle.ae_core.specs.declared.terms.Head.{Head}
use Rattle.ae_core.specs.declared.formulas.Formula.{Eq, Pred}
use Rattle.ae_core.specs.declared.formulas.Lit.{Lit}
use Rattle.ae_rules.specs.Clauses.{is_true, is_false}
use Rattle.ae_rules.specs.Derivations.{IsConstructor}
use Rattle.ae_num.specs.Forms.{DividesAll}
use Rattle.ae_num.specs.declared.forms.Part.{Part}
use Rattle.ae_num.specs.declared.forms.Lin.{Lin}
use Rattle.ae_num.specs.declared.forms.Value.{Number}
use Rattle.ae_journal.specs.Values.{Val, number, leaf, fields, meaning}
use Rattle.ae_journal.specs.Systems.{IsName, IsPredicateName, Has, IsOver, ValueOf, value_at, own}
use Rattle.ae_journal.specs.States.{AreSame, AllSame}
use Rattle.ae_journal.specs.States.AreSame.{itself, by_value}
use Rattle.ae_settled.specs.Held.{Held, system_of, terms_of}
use Rattle.ae_settled.specs.Settled.{IsSettled}
use Rattle.ae_settled.specs.Met.{AreNamesOf, AreMet, Satisfies}
use Rattle.ae_settled.proofs.Sorts.{predicate_apart}
use Rattle.ae_settled.proofs.Written.{value_of_written}
use Rattle.ae_settled.proofs.Terms.{apart, named_sorted}
use Rattle.ae_settled.proofs.Leaves.{over}
use Rattle.ae_settled.proofs.Alike.{has, one_rep}
use Rattle.ae_settled.proofs.Enumerated.{IsBare, constructor_bare, constructor_result}

module _ (x : Held) (settled : IsSettled x) where
  -- ---- one representative gives one value
  rep_value : (n : ℕ) (t : Term) (s : Sort) → IsName (system_of x) n t → sort_of x.signature t ≡ Some s → (v : Val) × (value_at (system_of x) n ≡ Some v) × (value_at (system_of x) (x.rep n) ≡ Some v)
  rep_value n t s e o =
      let l : n < length (terms_of x) = slice_get_within (terms_of x) n t e in
      let w = there x.values n (omega (arith, l, settled.values.one_each)) in
      let v = value_of_written (system_of x) n w.0 w.1 in
      (meaning w.0, v, (settled.representatives s (meaning w.0) n (has x settled s t (meaning w.0) o (n, e, v))).has.value)

  both_valued : (m n : ℕ) (t u : Term) (s : Sort) → IsName (system_of x) m t → IsName (system_of x) n u → sort_of x.signature t ≡ Some s → sort_of x.signature u ≡ Some s → x.rep m ≡ x.rep n
      → (v : Val) × ValueOf (system_of x) t v × ValueOf (system_of x) u v
  both_valued m n t u s e f o p same =
      let a = rep_value m t s e o in
      let b = rep_value n u s f p in
      let one : a.0 ≡ b.0 = same_Some a.0 b.0 (sym a.2 ∙ ap (value_at (system_of x)) same ∙ b.2) in
      (a.0, (m, e, a.1), (n, f, b.1 ∙ ap (λ (v : Val). Some v) (sym one)))

  -- ---- one value gives one representative
  one_of_names : (m n : ℕ) (t u : Term) (s : Sort) (v : Val) → IsName (system_of x) m t → IsName (system_of x) n u → sort_of x.signature t ≡ Some s → sort_of x.signature u ≡ Some s
      → ValueOf (system_of x) t v → ValueOf (system_of x) u v → x.rep m ≡ x.rep n
  one_of_names m n t u s v e f o p a b =
      ap x.rep (apart x settled.store m a.0 t e a.1) ∙ one_rep x settled s t u v o p a b ∙ ap x.rep (apart x settled.store b.0 n u b.1 f)

  -- ---- constructors of one value have one sort
  leaf_sort : (s r : Sort) (v w : Val) (k : ℕ) (a : Has x.signature (system_of x) s v k) (b : Has x.signature (system_of x) r w k) → s ≡ r
  leaf_sort s r v w k a b = let e : a.term ≡ b.term = same_Some a.term b.term (sym a.is ∙ b.is) in same_Some s r (sym a.sort ∙ ap (sort_of x.signature) e ∙ b.sort)

  by_shape : (s r : Sort) (v : Val) → IsBare x.signature s → IsOver x.signature (system_of x) s v → IsOver x.signature (system_of x) r v → s ≡ r
  by_shape s r (number f) b o p = absurd (b.no_number o.0)
  by_shape s r (leaf k) b o p = leaf_sort s r (own s k) (own r k) k o.2 p.2
  by_shape s r (fields vs) b o p = absurd (none-some o.0 (sym b.no_record ∙ o.1))

  constructor_sorted : (n : ℕ) (h : Head) → IsConstructor x.signature h → IsName (system_of x) n (Apply h [] []) → (s : Sort) × (sort_of x.signature (Apply h [] []) ≡ Some s)
  constructor_sorted n h c e = by_sorted (named_sorted x settled.store n (Apply h [] []) e)
    where
      by_sorted : ((s : Sort) × (sort_of x.signature (Apply h [] []) ≡ Some s)) ⊎ IsPredicateName x.signature (Apply h [] []) → (s : Sort) × (sort_of x.signature (Apply h [] []) ≡ Some s)
      by_sorted (inl o) = o
      by_sorted (inr p) = let r = constructor_result x.signature settled.store.lawful h c in absurd (predicate_apart x.signature h [] [] r.0 p r.1)

  -- ---- terms that are the same have names of one representative
  same_rep : (m n : ℕ) {t u : Term} → AreSame x.signature (system_of x) t u → IsName (system_of x) m t → IsName (system_of x) n u → x.rep m ≡ x.rep n
  same_rep m n itself e f = ap x.rep (apart x settled.store m n _ e f)
  same_rep m n (by_value s v o p a b) e f = one_of_names m n _ _ s v e f o p a b

  same_reps : (ms ns : List ℕ) (ts us : List Term) → AreNamesOf x.signature (system_of x) ms ts → AreNamesOf x.signature (system_of x) ns us → AllSame x.signature (system_of x) ts us → map x.rep ms ≡ map x.rep ns
  same_reps [] [] [] [] a b c = refl
  same_reps [] (n ∷ ns) [] [] a b c = absurd b
  same_reps (m ∷ ms) ns [] us a b c = absurd a
  same_reps [] ns (t ∷ ts) us a b c = absurd a
  same_reps ms [] ts (u ∷ us) a b c = absurd b
  same_reps [] ns [] (u ∷ us) a b c = absurd c
  same_reps ms ns (t ∷ ts) [] a b c = absurd c
  same_reps (m ∷ ms) (n ∷ ns) (t ∷ ts) (u ∷ us) a b c = λ i. same_rep m n c.0 a.0 b.0 i ∷ same_reps ms ns ts us a.2 b.2 c.1 i

  -- ---- divisors of integers
  divides_own : (z : ℤ) (d : ℕ) → d ∣ unsigned_abs (z *ℤ pos d)
  divides_own z d = subst (λ (n : ℕ). d ∣ n) (sym (unsigned_abs-mul z (pos d))) (dvd-mul_left d (unsigned_abs z))

  divides_parts : (d : ℕ) (ps : List Part) → AllByRecursion (λ (q : Part). (z : ℤ) × (q.factor ≡ z *ℤ pos d)) ps → DividesAll d (map (λ p. unsigned_abs p.factor) ps)
  divides_parts d [] a = tt
  divides_parts d (p ∷ ps) a = (subst (λ (w : ℤ). d ∣ unsigned_abs w) (sym (a.0).1) (divides_own (a.0).0 d), divides_parts d ps a.1)

  -- ---- all of it
  module _ (ls : List Lit) (met : AreMet x ls) where
    equal : (s t : Term) → Contains ls (is_true (Eq s t)) → (v : Val) × ValueOf (system_of x) s v × ValueOf (system_of x) t v
    equal s t c =
        let h = met.sides true s t c in
        both_valued h.left h.right s t h.sort h.left_is h.right_is h.left_sorted h.right_sorted (met.equal s t h.left h.right c h.left_is h.right_is)

    unequal : (s t : Term) (v : Val) → Contains ls (is_false (Eq s t)) → ValueOf (system_of x) s v → ValueOf (system_of x) t v → ⊥
    unequal s t v c a b =
        let h = met.sides false s t c in
        met.unequal s t h.left h.right c h.left_is h.right_is (one_of_names h.left h.right s t h.sort v h.left_is h.right_is h.left_sorted h.right_sorted a b)

    constructors : (h i : Head) (v : Val) → IsConstructor x.signature h → IsConstructor x.signature i → ValueOf (system_of x) (Apply h [] []) v → ValueOf (system_of x) (Apply i [] []) v → h ≡ i
    constructors h i v c d a b =
        let s = constructor_sorted a.0 h c a.1 in
        let r = constructor_sorted b.0 i d b.1 in
        let o = over x settled.store settled.values s.0 v a.0 (has x settled s.0 (Apply h [] []) v s.1 a) in
        let p = over x settled.store settled.values r.0 v b.0 (has x settled r.0 (Apply i [] []) v r.1 b) in
        let same : s.0 ≡ r.0 = by_shape s.0 r.0 v (constructor_bare x.signature settled.store.lawful h s.0 c s.1) o p in
        met.constructors a.0 b.0 h i c d a.1 b.1 (one_rep x settled s.0 (Apply h [] []) (Apply i [] []) v s.1 (r.1 ∙ ap (λ (q : Sort). Some q) (sym same)) a b)

    predicates : (q : ℕ) (ss : List Sort) (ts us : List Term) → Contains ls (is_true (Pred q ss ts)) → Contains ls (is_false (Pred q ss us)) → ¬ AllSame x.signature (system_of x) ts us
    predicates q ss ts us c d same =
        let m = met.arguments true q ss ts c in
        let n = met.arguments false q ss us d in
        met.predicates q ss ts us m.0 n.0 c d m.1 n.1 (same_reps m.0 n.0 ts us m.1 n.1 same)

    whole : (n d : ℕ) (t : Term) (f : Lin) → IsName (system_of x) n t → sort_of x.signature t ≡ Some Int → slice_get x.values n ≡ Some (Number f)
        → ((z : ℤ) × (f.den ≡ z *ℤ pos d)) → AllByRecursion (λ (q : Part). (z : ℤ) × (q.factor ≡ z *ℤ pos d)) f.parts → d ≡ 1
    whole n d t f e o v den parts = dvd-one.0 ((met.whole n t f e o v).1 d (subst (λ (w : ℤ). d ∣ unsigned_abs w) (sym den.1) (divides_own den.0 d), divides_parts d f.parts parts))

    pub satisfied : Satisfies x.signature (system_of x) ls
    satisfied = record { equal = equal; unequal = unequal; constructors = constructors; predicates = predicates; whole = whole }
