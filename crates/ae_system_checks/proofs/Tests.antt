-- A decision for each clause of a completed system.
use Rattle.std.proofs.Math.Bool.{Bool-discrete}
use Rattle.std.specs.Prelude.{ℕ, ℤ, ◌<◌, ◌≤◌, Bool, true, false, ◌≡◌, ◌≢◌, ◌⊎◌, List, [], ◌∷◌, length, slice_get, Option, Some, None}
use Rattle.std.specs.List.{AllByRecursion}
use mathlib.Core.Path.{refl, sym, ap, subst, ◌∙◌}
use native.Mathlib.Decide.{map_dec, dec_le, dec_lt, ℕ_discrete}
use native.Mathlib.Omega.{arith}
use Rattle.ae_base.proofs.Options.{never_some}
use Rattle.ae_math.specs.Fractions.{ratio}
use Rattle.ae_core.specs.Decided.{Head_discrete, Sort_discrete, Sorts_discrete, Term_discrete}
use Rattle.ae_core.specs.Sorts.{sort_of, formula_ok, is_numeric}
use Rattle.ae_core.specs.declared.formulas.Formula.{Pred}
use Rattle.ae_core.specs.declared.problems.AcSymbol.{AcSymbol}
use Rattle.ae_core.specs.declared.problems.Nature.{Nature}
use Rattle.ae_core.specs.declared.problems.Nature.TheVariants.{Free, Ac, Choice}
use Rattle.ae_core.specs.declared.problems.Signature.{Signature}
use Rattle.ae_core.specs.declared.terms.Head.{Head}
use Rattle.ae_core.specs.declared.terms.Head.TheVariants as head
use Rattle.ae_core.specs.declared.terms.Op.TheVariants as op
use Rattle.ae_core.specs.declared.terms.Sort.{Sort, Int, Real}
use Rattle.ae_core.specs.declared.terms.Term.{Term, Num, Apply}
use Rattle.ae_rules.specs.Lines.{IsAc, IsNumeric}
use Rattle.ae_num.specs.Forms.{IsNormal}
use Rattle.ae_multiset.specs.Multisets.{count, minus, IsPart, IsLess}
use Rattle.ae_multiset.proofs.Counts.{count-minus, count_same}
use Rattle.ae_journal.specs.Values.{Val, Vals, Val_discrete, number, leaf, fields, none, more, constant_val, vals}
use Rattle.ae_journal.specs.Systems.{AreOver, Has, IsLeaf, IsName, IsNamed, IsNormalValue, IsOver, IsPredicateName, IsRepresentative, IsRuleFit}
use Rattle.ae_journal.specs.Systems.{Represents, ValueOf, ValuesOf, ac_sort, beside, field_terms, forms_in, linear, own, record_fields, value_at}
use Rattle.ae_journal.specs.declared.systems.RuleEntry.{RuleEntry}
use Rattle.ae_journal.specs.declared.systems.System.{System}
use Rattle.ae_decide.specs.Clauses.{HasTerms, HasLeaves, IsComputed, HasRecords, IsCongruent, RulesFit, AreReduced}
use Rattle.ae_decide.specs.Inner.Decisions.{both, denied, of_each, normal_decided, less_decided}
use Rattle.ae_system_checks.proofs.Decide.{three, six, either, implied, at_all, at_some, where_known, known_with, option_discrete, where_applied, applied_with, where_numeral}

pub is_so : (c : Bool) → Dec (c ≡ true)
is_so true = yes refl
is_so false = no (λ e. cc)

-- ---- multisets
pub is_part : (a b : List ℕ) → Dec (IsPart a b)
is_part a b = go (minus a b) refl
  where
    go : (m : List ℕ) → minus a b ≡ m → Dec (IsPart a b)
    go [] e = yes (record { each = λ x. omega (arith, count-minus x a b, ap (count x) e) })
    go (x ∷ xs) e = no (λ p. omega (arith, p.each x, count-minus x a b, ap (count x) e, count_same x xs))

pub symbol_discrete : Discrete AcSymbol
symbol_discrete c d =
    map_dec (λ e. λ i. record { head = e.0 i; sorts = e.1 i }) (λ e. (ap (λ (s : AcSymbol). s.head) e, ap (λ (s : AcSymbol). s.sorts) e))
    (both (Head_discrete c.head d.head) (Sorts_discrete c.sorts d.sorts))

-- ---- the lists of a record's values
unvals : Vals → List Val
unvals none = []
unvals (more v vs) = v ∷ unvals vs

vals_back : (ws : Vals) → vals (unvals ws) ≡ ws
unfolding unvals
vals_back none = refl
vals_back (more v vs) = ap (more v) (vals_back vs)

vals_there : (vs : List Val) → unvals (vals vs) ≡ vs
unfolding unvals
vals_there [] = refl
vals_there (v ∷ vs) = ap (λ ws. v ∷ ws) (vals_there vs)

module _ (sig : Signature) (y : System) where
  pub sort_is : (t : Term) (s : Sort) → Dec (sort_of sig t ≡ Some s)
  sort_is t s = option_discrete Sort_discrete (sort_of sig t) (Some s)

  pub value_is : (n : ℕ) (v : Val) → Dec (value_at y n ≡ Some v)
  value_is n v = option_discrete Val_discrete (value_at y n) (Some v)

  -- ---- names and their values
  pub is_named : (t : Term) → Dec (IsNamed y t)
  is_named t =
      map_dec (λ (n, u, i, e). (n, i ∙ ap (λ (w : Term). Some w) e)) (λ (n, i). (n, t, i, refl)) (at_some y.names (λ n u. u ≡ t) (λ n u. Term_discrete u t))

  pub has_value : (t : Term) (v : Val) → Dec (ValueOf y t v)
  has_value t v =
      map_dec (λ (n, u, i, (e, w)). (n, i ∙ ap (λ (w : Term). Some w) e, w)) (λ (n, i, w). (n, t, i, (refl, w)))
      (at_some y.names (λ n u. (u ≡ t) × (value_at y n ≡ Some v)) (λ n u. both (Term_discrete u t) (value_is n v)))

  pub have_values : (us : List Term) (vs : List Val) → Dec (ValuesOf y us vs)
  have_values [] [] = yes tt
  have_values [] (v ∷ vs) = no (λ e. e)
  have_values (t ∷ ts) [] = no (λ e. e)
  have_values (t ∷ ts) (v ∷ vs) = both (has_value t v) (have_values ts vs)

  -- what holds of all values of some terms
  pub by_values : (us : List Term) (P : List Val → Type 0) → ((vs : List Val) → Dec (P vs)) → Dec ((vs : List Val) → ValuesOf y us vs → P vs)
  by_values [] P d = map_dec alone (λ f. f [] tt) (d [])
    where
      alone : P [] → (vs : List Val) → ValuesOf y [] vs → P vs
      alone p [] a = p
      alone p (v ∷ vs) a = absurd a
  by_values (t ∷ ts) P d =
      map_dec there back
      (at_all y.names (λ n u. u ≡ t → (v : Val) → value_at y n ≡ Some v → (vs : List Val) → ValuesOf y ts vs → P (v ∷ vs))
      (λ n u. implied (Term_discrete u t)
      (where_known (value_at y n) (λ v. (vs : List Val) → ValuesOf y ts vs → P (v ∷ vs)) (λ v. by_values ts (λ vs. P (v ∷ vs)) (λ vs. d (v ∷ vs))))))
    where
      there : ((n : ℕ) (u : Term) → IsName y n u → u ≡ t → (v : Val) → value_at y n ≡ Some v → (vs : List Val) → ValuesOf y ts vs → P (v ∷ vs))
          → (vs : List Val) → ValuesOf y (t ∷ ts) vs → P vs
      there f [] a = absurd a
      there f (v ∷ vs) ((n, i, w), a) = f n t i refl v w vs a

      back : ((vs : List Val) → ValuesOf y (t ∷ ts) vs → P vs)
          → (n : ℕ) (u : Term) → IsName y n u → u ≡ t → (v : Val) → value_at y n ≡ Some v → (vs : List Val) → ValuesOf y ts vs → P (v ∷ vs)
      back f n u i e v w vs a = f (v ∷ vs) ((n, i ∙ ap (λ (w : Term). Some w) e, w), a)

  -- what holds of each name that is an application
  pub each_applied : (P : ℕ → Head → List Sort → List Term → Type 0) → ((n : ℕ) (h : Head) (ss : List Sort) (us : List Term) → Dec (P n h ss us))
      → Dec ((n : ℕ) (h : Head) (ss : List Sort) (us : List Term) → IsName y n (Apply h ss us) → P n h ss us)
  each_applied P d =
      map_dec (λ f n h ss us i. f n (Apply h ss us) i h ss us refl) (λ f n t i h ss us e. f n h ss us (i ∙ ap (λ (w : Term). Some w) e))
      (at_all y.names (λ n t. (h : Head) (ss : List Sort) (us : List Term) → t ≡ Apply h ss us → P n h ss us) (λ n t. where_applied t (P n) (d n)))

  -- ---- terms
  abbrev OfPredicate : Head → List Sort → List Term → Type 0
  OfPredicate (head.Symbol p) ss us = formula_ok sig (Pred p ss us) ≡ true
  OfPredicate _ ss us = ⊥

  of_predicate : (h : Head) (ss : List Sort) (us : List Term) → Dec (OfPredicate h ss us)
  of_predicate (head.Symbol p) ss us = is_so (formula_ok sig (Pred p ss us))
  of_predicate (head.Build n) ss us = no (λ e. e)
  of_predicate (head.Field n i) ss us = no (λ e. e)
  of_predicate (head.Int o) ss us = no (λ e. e)
  of_predicate (head.Real o) ss us = no (λ e. e)
  of_predicate head.True ss us = no (λ e. e)
  of_predicate head.False ss us = no (λ e. e)
  of_predicate head.Void ss us = no (λ e. e)

  predicate_of : (t : Term) (h : Head) (ss : List Sort) (us : List Term) → t ≡ Apply h ss us → OfPredicate h ss us → IsPredicateName sig t
  predicate_of t (head.Symbol p) ss us e q = (p, ss, us, e, q)
  predicate_of t (head.Build n) ss us e q = absurd q
  predicate_of t (head.Field n i) ss us e q = absurd q
  predicate_of t (head.Int o) ss us e q = absurd q
  predicate_of t (head.Real o) ss us e q = absurd q
  predicate_of t head.True ss us e q = absurd q
  predicate_of t head.False ss us e q = absurd q
  predicate_of t head.Void ss us e q = absurd q

  is_predicate : (t : Term) → Dec (IsPredicateName sig t)
  is_predicate t =
      map_dec (λ (h, ss, us, e, q). predicate_of t h ss us e q) (λ (p, ss, us, e, q). (head.Symbol p, ss, us, e, q)) (applied_with t OfPredicate of_predicate)

  is_sorted : (o : Option Sort) → Dec ((s : Sort) × (o ≡ Some s))
  is_sorted None = no (λ w. never_some w.0 w.1)
  is_sorted (Some s) = yes (s, refl)

  -- what holds of each name of a record sort
  each_record : (P : ℕ → Term → Sort → List Sort → Type 0) → ((n : ℕ) (t : Term) (s : Sort) (ss : List Sort) → Dec (P n t s ss))
      → Dec ((n : ℕ) (t : Term) (s : Sort) (ss : List Sort) → IsName y n t → sort_of sig t ≡ Some s → record_fields sig s ≡ Some ss → P n t s ss)
  each_record P d =
      map_dec (λ f n t s ss i e g. f n t i s e ss g) (λ f n t i s e ss g. f n t s ss i e g)
      (at_all y.names (λ n t. (s : Sort) → sort_of sig t ≡ Some s → (ss : List Sort) → record_fields sig s ≡ Some ss → P n t s ss)
      (λ n t. where_known (sort_of sig t) (λ s. (ss : List Sort) → record_fields sig s ≡ Some ss → P n t s ss)
      (λ s. where_known (record_fields sig s) (P n t s) (d n t s))))

  pub decide_terms : Dec (HasTerms sig y)
  decide_terms =
      map_dec (λ (a, (b, (c, (d, e)))). record { values = a; sorted = b; apart = λ m n t i j. c m t i n j; subterms = d; field_names = e })
      (λ h. (h.values, (h.sorted, ((λ m t i n j. h.apart m n t i j), (h.subterms, h.field_names)))))
      (both (ℕ_discrete (length y.values) (length y.names))
      (both (at_all y.names (λ n t. ((s : Sort) × (sort_of sig t ≡ Some s)) ⊎ IsPredicateName sig t) (λ n t. either (is_sorted (sort_of sig t)) (is_predicate t)))
      (both (at_all y.names (λ m t. (n : ℕ) → IsName y n t → m ≡ n) places)
      (both (each_applied (λ n h ss us. AllByRecursion (IsNamed y) us) (λ n h ss us. of_each (IsNamed y) is_named us))
      (each_record (λ n t s ss. AllByRecursion (IsNamed y) (field_terms s t (length ss)))
      (λ n t s ss. of_each (IsNamed y) is_named (field_terms s t (length ss))))))))
    where
      places : (m : ℕ) (t : Term) → Dec ((n : ℕ) → IsName y n t → m ≡ n)
      places m t =
          map_dec (λ f n i. f n t i refl) (λ f n u i e. f n (i ∙ ap (λ (w : Term). Some w) e))
          (at_all y.names (λ n u. u ≡ t → m ≡ n) (λ n u. implied (Term_discrete u t) (ℕ_discrete m n)))

  -- ---- values
  has : (s : Sort) (v : Val) (n : ℕ) → Dec (Has sig y s v n)
  has s v n =
      map_dec (λ (t, i, (e, w)). record { term = t; is = i; sort = e; value = w }) (λ h. (h.term, h.is, (h.sort, h.value)))
      (known_with (slice_get y.names n) (λ t. (sort_of sig t ≡ Some s) × (value_at y n ≡ Some v)) (λ t. both (sort_is t s) (value_is n v)))

  numeric : (s : Sort) → Dec (IsNumeric s)
  numeric s = either (Sort_discrete s Int) (Sort_discrete s Real)

  no_fields : (s : Sort) → Dec (record_fields sig s ≡ None)
  no_fields s = go (record_fields sig s)
    where
      go : (o : Option (List Sort)) → Dec (o ≡ None)
      go None = yes refl
      go (Some ss) = no (λ e. never_some ss (sym e))

  mutual
    is_over : (s : Sort) (v : Val) → Dec (IsOver sig y s v)
    is_over s (number g) = both (numeric s) (of_each (λ p. IsLeaf sig y s p.0) (λ p. has s (own s p.0) p.0) g.parts)
    is_over s (leaf n) = three (Bool-discrete (is_numeric s) false) (no_fields s) (has s (own s n) n)
    is_over s (fields vs) = known_with (record_fields sig s) (λ ss. AreOver sig y ss vs) (λ ss. are_over ss vs)

    are_over : (ss : List Sort) (vs : Vals) → Dec (AreOver sig y ss vs)
    are_over [] none = yes tt
    are_over (s ∷ ss) (more v vs) = both (is_over s v) (are_over ss vs)
    are_over [] (more v vs) = no (λ e. e)
    are_over (s ∷ ss) none = no (λ e. e)

  pub decide_leaves : Dec (HasLeaves sig y)
  decide_leaves =
      map_dec (λ (a, (b, c)). record { normal = a; over = λ s v n h. b n h.term h.is s h.sort v h.value; predicate_value = c })
      (λ h. (h.normal, ((λ n t i s e v w. h.over s v n (record { term = t; is = i; sort = e; value = w })), h.predicate_value)))
      (both (at_all y.values (λ n v. IsNormalValue v) (λ n v. of_each IsNormal normal_decided (forms_in v)))
      (both (at_all y.names (λ n t. (s : Sort) → sort_of sig t ≡ Some s → (v : Val) → value_at y n ≡ Some v → IsOver sig y s v)
      (λ n t. where_known (sort_of sig t) (λ s. (v : Val) → value_at y n ≡ Some v → IsOver sig y s v)
      (λ s. where_known (value_at y n) (IsOver sig y s) (is_over s))))
      (at_all y.names (λ n t. IsPredicateName sig t → value_at y n ≡ Some (leaf n)) (λ n t. implied (is_predicate t) (value_is n (leaf n))))))

  -- ---- what is computed
  pub decide_computed : Dec (IsComputed sig y)
  decide_computed =
      map_dec
      (λ (a, b). record {
        numeral = λ n p q real i. a n (Num p q real) i p q real refl;
        computed = λ n h ss us vs v i g e. b n h ss us i vs g v e;
      })
      (λ c. (λ n t i p q real e. c.numeral n p q real (i ∙ ap (λ (w : Term). Some w) e), λ n h ss us i vs g v e. c.computed n h ss us vs v i g e))
      (both (at_all y.names (λ n t. (p q : ℤ) (real : Bool) → t ≡ Num p q real → value_at y n ≡ Some (constant_val (ratio p q)))
      (λ n t. where_numeral t (λ p q real. value_at y n ≡ Some (constant_val (ratio p q))) (λ p q real. value_is n (constant_val (ratio p q)))))
      (each_applied (λ n h ss us. (vs : List Val) → ValuesOf y us vs → (v : Val) → linear h (beside us vs) ≡ Some v → value_at y n ≡ Some v)
      (λ n h ss us. by_values us (λ vs. (v : Val) → linear h (beside us vs) ≡ Some v → value_at y n ≡ Some v)
      (λ vs. where_known (linear h (beside us vs)) (λ v. value_at y n ≡ Some v) (value_is n)))))

  -- ---- records
  abbrev OfFields : List Term → Val → Type 0
  OfFields ts v = (vs : List Val) × (v ≡ fields (vals vs)) × ValuesOf y ts vs

  of_fields : (ts : List Term) (v : Val) → Dec (OfFields ts v)
  of_fields ts (number g) = no (λ (vs, e, a). cc)
  of_fields ts (leaf n) = no (λ (vs, e, a). cc)
  of_fields ts (fields ws) =
      map_dec (λ a. (unvals ws, ap fields (sym (vals_back ws)), a)) (λ (vs, e, a). subst (ValuesOf y ts) (same vs e) a) (have_values ts (unvals ws))
    where
      same : (vs : List Val) → fields ws ≡ fields (vals vs) → vs ≡ unvals ws
      same vs e = let z : ws ≡ vals vs = cc in sym (vals_there vs) ∙ ap unvals (sym z)

  abbrev IsWritten : ℕ → Head → List Sort → List Term → Type 0
  IsWritten n (head.Field k place) ss (w ∷ []) =
      (h : Head) (os : List Sort) (us : List Term) → w ≡ Apply h os us → h ≡ head.Build k → os ≡ ss
      → (u : Term) → slice_get us place ≡ Some u → (m : ℕ) (t : Term) → IsName y m t → t ≡ u → (v : Val) → value_at y m ≡ Some v → value_at y n ≡ Some v
  IsWritten n h ss us = Unit {0}

  is_written : (n : ℕ) (h : Head) (ss : List Sort) (us : List Term) → Dec (IsWritten n h ss us)
  is_written n (head.Field k place) ss (w ∷ []) =
      where_applied w
      (λ h os us. h ≡ head.Build k → os ≡ ss → (u : Term) → slice_get us place ≡ Some u → (m : ℕ) (t : Term) → IsName y m t → t ≡ u → (v : Val)
      → value_at y m ≡ Some v → value_at y n ≡ Some v)
      (λ h os us. implied (Head_discrete h (head.Build k))
      (implied (Sorts_discrete os ss)
      (where_known (slice_get us place) (λ u. (m : ℕ) (t : Term) → IsName y m t → t ≡ u → (v : Val) → value_at y m ≡ Some v → value_at y n ≡ Some v)
      (λ u. at_all y.names (λ m t. t ≡ u → (v : Val) → value_at y m ≡ Some v → value_at y n ≡ Some v)
      (λ m t. implied (Term_discrete t u) (where_known (value_at y m) (λ v. value_at y n ≡ Some v) (value_is n)))))))
  is_written n (head.Field k place) ss [] = yes tt
  is_written n (head.Field k place) ss (w ∷ x ∷ us) = yes tt
  is_written n (head.Symbol p) ss us = yes tt
  is_written n (head.Build p) ss us = yes tt
  is_written n (head.Int o) ss us = yes tt
  is_written n (head.Real o) ss us = yes tt
  is_written n head.True ss us = yes tt
  is_written n head.False ss us = yes tt
  is_written n head.Void ss us = yes tt

  written_of : HasRecords sig y → (n : ℕ) (h : Head) (ss : List Sort) (us : List Term) → IsName y n (Apply h ss us) → IsWritten n h ss us
  written_of r n (head.Field k place) ss (w ∷ []) i =
      λ h os us e a b u g m t j c v x. r.written n k place ss us u v
      (i ∙ ap (λ (w : Term). Some (Apply (head.Field k place) ss (w ∷ []))) (e ∙ (λ z. Apply (a z) (b z) us))) g (m, j ∙ ap (λ (w : Term). Some w) c, x)
  written_of r n (head.Field k place) ss [] i = tt
  written_of r n (head.Field k place) ss (w ∷ x ∷ us) i = tt
  written_of r n (head.Symbol p) ss us i = tt
  written_of r n (head.Build p) ss us i = tt
  written_of r n (head.Int o) ss us i = tt
  written_of r n (head.Real o) ss us i = tt
  written_of r n head.True ss us i = tt
  written_of r n head.False ss us i = tt
  written_of r n head.Void ss us i = tt

  pub decide_records : Dec (HasRecords sig y)
  decide_records =
      map_dec
      (λ (a, b). record {
        record_value = λ n t s ss i e g. with_value n (field_terms s t (length ss)) (a n t s ss i e g);
        written = λ n k place ss us u v i g (m, j, x). b n (head.Field k place) ss (Apply (head.Build k) ss us ∷ []) i (head.Build k) ss us refl refl refl u g m u j refl v x;
      })
      (λ r. (
        λ n t s ss i e g. let w = r.record_value n t s ss i e g in (fields (vals w.0), w.1, (w.0, refl, w.2)),
        written_of r,
      ))
      (both
      (each_record (λ n t s ss. (v : Val) × (value_at y n ≡ Some v) × OfFields (field_terms s t (length ss)) v)
      (λ n t s ss. known_with (value_at y n) (OfFields (field_terms s t (length ss))) (of_fields (field_terms s t (length ss)))))
      (each_applied IsWritten is_written))
    where
      with_value : (n : ℕ) (ts : List Term) → (v : Val) × (value_at y n ≡ Some v) × OfFields ts v
          → (vs : List Val) × (value_at y n ≡ Some (fields (vals vs))) × ValuesOf y ts vs
      with_value n ts (v, w, (vs, e, a)) = (vs, w ∙ ap (λ (v : Val). Some v) e, a)

  -- ---- congruence
  pub decide_congruence : Dec (IsCongruent sig y)
  decide_congruence =
      map_dec (λ f m n h ss us ws vs s i j e p q. f m h ss us i n h ss ws j refl refl s e vs p q) back
      (each_applied
      (λ m h ss us. (n : ℕ) (g : Head) (os : List Sort) (ws : List Term) → IsName y n (Apply g os ws) → h ≡ g → ss ≡ os
      → (s : Sort) → sort_of sig (Apply h ss us) ≡ Some s → (vs : List Val) → ValuesOf y us vs → ValuesOf y ws vs → value_at y m ≡ value_at y n)
      (λ m h ss us. each_applied
      (λ n g os ws. h ≡ g → ss ≡ os → (s : Sort) → sort_of sig (Apply h ss us) ≡ Some s → (vs : List Val) → ValuesOf y us vs → ValuesOf y ws vs
      → value_at y m ≡ value_at y n)
      (λ n g os ws. implied (Head_discrete h g)
      (implied (Sorts_discrete ss os)
      (where_known (sort_of sig (Apply h ss us)) (λ s. (vs : List Val) → ValuesOf y us vs → ValuesOf y ws vs → value_at y m ≡ value_at y n)
      (λ s. by_values us (λ vs. ValuesOf y ws vs → value_at y m ≡ value_at y n)
      (λ vs. implied (have_values ws vs) (option_discrete Val_discrete (value_at y m) (value_at y n)))))))))
    where
      back : IsCongruent sig y → (m : ℕ) (h : Head) (ss : List Sort) (us : List Term) → IsName y m (Apply h ss us)
          → (n : ℕ) (g : Head) (os : List Sort) (ws : List Term) → IsName y n (Apply g os ws) → h ≡ g → ss ≡ os
          → (s : Sort) → sort_of sig (Apply h ss us) ≡ Some s → (vs : List Val) → ValuesOf y us vs → ValuesOf y ws vs → value_at y m ≡ value_at y n
      back f m h ss us i n g os ws j a b s e vs p q =
          f m n h ss us ws vs s i (subst (λ (w : Head × List Sort). IsName y n (Apply w.0 w.1 ws)) (λ z. (sym a z, sym b z)) j) e p q

  -- ---- rules
  pub is_ac_symbol : (n : ℕ) → Dec (IsAc sig (head.Symbol n))
  is_ac_symbol n = known_with (slice_get sig.symbols n) (λ e. e.nature ≡ Ac) (λ e. nature e.nature)
    where
      nature : (m : Nature) → Dec (m ≡ Ac)
      nature Free = no (λ e. cc)
      nature Ac = yes refl
      nature (Choice of place) = no (λ e. cc)

  is_ac : (h : Head) → Dec (IsAc sig h)
  is_ac (head.Symbol n) = is_ac_symbol n
  is_ac (head.Int op.Mul) = yes tt
  is_ac (head.Real op.Mul) = yes tt
  is_ac (head.Int op.Add) = no (λ e. e)
  is_ac (head.Int op.Sub) = no (λ e. e)
  is_ac (head.Int op.Neg) = no (λ e. e)
  is_ac (head.Int op.Div) = no (λ e. e)
  is_ac (head.Int op.Mod) = no (λ e. e)
  is_ac (head.Real op.Add) = no (λ e. e)
  is_ac (head.Real op.Sub) = no (λ e. e)
  is_ac (head.Real op.Neg) = no (λ e. e)
  is_ac (head.Real op.Div) = no (λ e. e)
  is_ac (head.Real op.Mod) = no (λ e. e)
  is_ac (head.Build n) = no (λ e. e)
  is_ac (head.Field n i) = no (λ e. e)
  is_ac head.True = no (λ e. e)
  is_ac head.False = no (λ e. e)
  is_ac head.Void = no (λ e. e)

  pub represents : (s : Sort) (v : Val) (n : ℕ) → Dec (Represents sig y s v n)
  represents s v n =
      map_dec (λ (h, l). record { has = h; least = λ m x. l m x.term x.is x.sort x.value })
      (λ r. (r.has, λ m t i e w. r.least m (record { term = t; is = i; sort = e; value = w })))
      (both (has s v n)
      (at_all y.names (λ m t. sort_of sig t ≡ Some s → value_at y m ≡ Some v → n ≤ m)
      (λ m t. implied (sort_is t s) (implied (value_is m v) (dec_le n m)))))

  is_representative : (s : Sort) (n : ℕ) → Dec (IsRepresentative sig y s n)
  is_representative s n =
      map_dec (λ (v, e, r). (v, r)) (λ (v, r). (v, r.has.value, r)) (known_with (value_at y n) (λ v. Represents sig y s v n) (λ v. represents s v n))

  rule_fits : (e : RuleEntry) → Dec (IsRuleFit sig y e)
  rule_fits e =
      map_dec (λ (s, k, (a, l, r, m, t, g)). record { sort = s; symbol = k; ac = a; left = l; right = r; some = m; two = t; falls = g })
      (λ f. (f.sort, f.symbol, (f.ac, f.left, f.right, f.some, f.two, f.falls)))
      (known_with (ac_sort sig e.symbol.head e.symbol.sorts)
      (λ s. IsAc sig e.symbol.head × AllByRecursion (IsRepresentative sig y s) e.left × AllByRecursion (IsRepresentative sig y s) e.right
      × (0 < length e.right) × (2 ≤ length e.left) × IsLess e.right e.left)
      (λ s. six (is_ac e.symbol.head) (of_each (IsRepresentative sig y s) (is_representative s) e.left)
      (of_each (IsRepresentative sig y s) (is_representative s) e.right) (dec_lt 0 (length e.right)) (dec_le 2 (length e.left))
      (less_decided e.right e.left)))

  pub decide_rules : Dec (RulesFit sig y)
  decide_rules = at_all y.rules (λ k e. IsRuleFit sig y e) (λ k e. rule_fits e)

  pub decide_reduction : Dec (AreReduced sig y)
  decide_reduction =
      map_dec
      (λ (a, b). record {
        left_reduced = λ j k d e other x z same. a j d x k e z other same;
        right_reduced = λ j k d e x z same. b j d x k e z same;
      })
      (λ r. (λ j d x k e z other same. r.left_reduced j k d e other x z same, λ j d x k e z same. r.right_reduced j k d e x z same))
      (both
      (at_all y.rules (λ j d. (k : ℕ) (e : RuleEntry) → slice_get y.rules k ≡ Some e → j ≢ k → d.symbol ≡ e.symbol → ¬ IsPart d.left e.left)
      (λ j d. at_all y.rules (λ k e. j ≢ k → d.symbol ≡ e.symbol → ¬ IsPart d.left e.left)
      (λ k e. implied (denied (ℕ_discrete j k)) (implied (symbol_discrete d.symbol e.symbol) (denied (is_part d.left e.left))))))
      (at_all y.rules (λ j d. (k : ℕ) (e : RuleEntry) → slice_get y.rules k ≡ Some e → d.symbol ≡ e.symbol → ¬ IsPart d.left e.right)
      (λ j d. at_all y.rules (λ k e. d.symbol ≡ e.symbol → ¬ IsPart d.left e.right)
      (λ k e. implied (symbol_discrete d.symbol e.symbol) (denied (is_part d.left e.right))))))
