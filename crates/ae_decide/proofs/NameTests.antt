-- The test of a system's terms says `true` exactly where the first clause holds.
use Rattle.std.proofs.Common.{drop, get_or}
use Rattle.std.proofs.lemmas.List.{drop_more}
use Rattle.std.specs.Prelude.{ℕ, zero, suc, ◌+◌, ◌-◌, ◌<◌, Bool, true, false, not, ◌&&◌, ◌≡◌, ◌⊎◌, List, [], ◌∷◌, ◌++◌, length, slice_get, Option, Some, None}
use Rattle.std.specs.List.{AllByRecursion, list_all}
use Rattle.std.proofs.Common.{inl, inr}
use Rattle.std.proofs.lemmas.Bool.{and_parts, and_from, or_cases, or_left, or_right}
use Rattle.std.proofs.lemmas.Option.{same_Some}
use mathlib.Core.Path.{refl, sym, ap, ◌∙◌}
use native.Mathlib.Omega.{arith}
use Rattle.ae_base.specs.Decided.{decided}
use Rattle.ae_base.specs.Options.{known}
use Rattle.ae_base.proofs.AllOf.{all_of_test, test_of_all, all_from_places}
use Rattle.ae_base.proofs.Decided.{decided_of, decided_yes}
use Rattle.ae_base.proofs.ListFacts.{list_all_at}
use Rattle.ae_core.specs.Decided.{Term_discrete}
use Rattle.ae_core.specs.Sorts.{sort_of, is_closed_sort, trigger_ok, applied_ok}
use Rattle.ae_core.proofs.SortLaws.{formula_in_pred}
use Rattle.ae_core.specs.declared.problems.Signature.{Signature}
use Rattle.ae_core.specs.declared.terms.Head.{Head}
use Rattle.ae_core.specs.declared.terms.Head.TheVariants as head
use Rattle.ae_core.specs.declared.terms.Sort.{Sort}
use Rattle.ae_core.specs.declared.terms.Term.{Term, Term-F, Apply, out-Term, roll-Term, roll-out-Term}
use Rattle.ae_core.specs.declared.terms.Term.TheOpen as layer
use Rattle.ae_core.specs.declared.terms.Term.TheVariants.{outs-Apply, rolls-Apply}
use Rattle.ae_rules.specs.Lines.{fields_from}
use Rattle.ae_journal.specs.Systems.{IsNamed, IsPredicateName, record_fields, field_terms}
use Rattle.ae_journal.specs.declared.systems.System.{System}
use Rattle.ae_decide.specs.Names.{stands_in, are_apart, args_by, args_of, fields_by, fields_of, is_entry}
use Rattle.ae_decide.specs.Clauses.{HasTerms}

-- ---- one of some terms
pub named_of : (names : List Term) (t : Term) → stands_in names t ≡ true → (n : ℕ) × (slice_get names n ≡ Some t)
named_of [] t e = absurd (cc)
named_of (u ∷ us) t e = elim (or_cases (decided (Term_discrete u t)) (stands_in us t) e) [
  | inl d ↦ (0, ap (λ (v : Term). Some v) (decided_yes (Term_discrete u t) d))
  | inr r ↦ let w = named_of us t r in (suc w.0, w.1)
]

pub of_named : (names : List Term) (t : Term) (n : ℕ) → slice_get names n ≡ Some t → stands_in names t ≡ true
of_named [] t n e = absurd (cc)
of_named (u ∷ us) t zero e = or_left (decided (Term_discrete u t)) (stands_in us t) (decided_of (Term_discrete u t) (same_Some u t e))
of_named (u ∷ us) t (suc n) e = or_right (decided (Term_discrete u t)) (stands_in us t) (of_named us t n e)

-- ---- no term stands twice
pub denied : (b : Bool) → not b ≡ true → b ≡ true → ⊥
denied true e f = cc
denied false e f = cc

pub apart_of : (names : List Term) → are_apart names ≡ true → (m n : ℕ) (t : Term) → slice_get names m ≡ Some t → slice_get names n ≡ Some t → m ≡ n
apart_of [] e m n t i j = absurd (cc)
apart_of (u ∷ us) e zero zero t i j = refl
apart_of (u ∷ us) e zero (suc n) t i j =
    absurd (denied (stands_in us u) (and_parts (not (stands_in us u)) (are_apart us) e).0 (of_named us u n (j ∙ sym i)))
apart_of (u ∷ us) e (suc m) zero t i j =
    absurd (denied (stands_in us u) (and_parts (not (stands_in us u)) (are_apart us) e).0 (of_named us u m (i ∙ sym j)))
apart_of (u ∷ us) e (suc m) (suc n) t i j = ap suc (apart_of us (and_parts (not (stands_in us u)) (are_apart us) e).1 m n t i j)

pub apart_from : (names : List Term) → ((m n : ℕ) (t : Term) → slice_get names m ≡ Some t → slice_get names n ≡ Some t → m ≡ n) → are_apart names ≡ true
apart_from [] f = refl
apart_from (u ∷ us) f =
    and_from (not (stands_in us u)) (are_apart us) (first (stands_in us u) refl)
    (apart_from us (λ m n t i j. let z = f (suc m) (suc n) t i j in omega (arith, z)))
  where
    first : (b : Bool) → stands_in us u ≡ b → not (stands_in us u) ≡ true
    first true e = let w = named_of us u e in let z = f 0 (suc w.0) u refl w.1 in absurd (omega (arith, z))
    first false e = ap not e

-- ---- closed names
pub is_application : (t : Term) (h : Head) (ss : List Sort) (us : List Term) → out-Term t ≡ layer.Apply h ss us → t ≡ Apply h ss us
is_application t h ss us e = sym (roll-out-Term t) ∙ ap roll-Term e ∙ rolls-Apply h ss us

pub known_value : (o : Option Sort) → known o ≡ true → (s : Sort) × (o ≡ Some s)
known_value None e = absurd (cc)
known_value (Some s) e = (s, refl)

abbrev IsClosed : Signature → Term → Type 0
IsClosed sig t = ((s : Sort) × (sort_of sig t ≡ Some s)) ⊎ IsPredicateName sig t

pub applied : (sig : Signature) (t : Term) (l : Term-F Term) → out-Term t ≡ l → applied_ok sig (is_closed_sort sig) [] l ≡ true → IsPredicateName sig t
applied sig t (layer.Apply (head.Symbol p) ss us) e a =
    (p, ss, us, is_application t (head.Symbol p) ss us e, formula_in_pred sig (is_closed_sort sig) [] p ss us ∙ a)
applied sig t (layer.Apply (head.Build n) ss us) e a = absurd (cc)
applied sig t (layer.Apply (head.Field n i) ss us) e a = absurd (cc)
applied sig t (layer.Apply (head.Int o) ss us) e a = absurd (cc)
applied sig t (layer.Apply (head.Real o) ss us) e a = absurd (cc)
applied sig t (layer.Apply head.True ss us) e a = absurd (cc)
applied sig t (layer.Apply head.False ss us) e a = absurd (cc)
applied sig t (layer.Apply head.Void ss us) e a = absurd (cc)
applied sig t (layer.Bound i) e a = absurd (cc)
applied sig t (layer.Num p q r) e a = absurd (cc)
applied sig t (layer.Fresh n s) e a = absurd (cc)

pub predicate_applied : (sig : Signature) (t : Term) → IsPredicateName sig t → applied_ok sig (is_closed_sort sig) [] (out-Term t) ≡ true
predicate_applied sig t (p, ss, us, e, ok) =
    ap (applied_ok sig (is_closed_sort sig) []) (ap out-Term e ∙ outs-Apply (head.Symbol p) ss us) ∙ sym (formula_in_pred sig (is_closed_sort sig) [] p ss us) ∙ ok

closed_of : (sig : Signature) (t : Term) → trigger_ok sig (is_closed_sort sig) [] t ≡ true → IsClosed sig t
closed_of sig t e = elim (or_cases (known (sort_of sig t)) (applied_ok sig (is_closed_sort sig) [] (out-Term t)) e) [
  | inl k ↦ inl (known_value (sort_of sig t) k)
  | inr a ↦ inr (applied sig t (out-Term t) refl a)
]

of_closed : (sig : Signature) (t : Term) → IsClosed sig t → trigger_ok sig (is_closed_sort sig) [] t ≡ true
of_closed sig t (inl (s, e)) = or_left (known (sort_of sig t)) (applied_ok sig (is_closed_sort sig) [] (out-Term t)) (ap known e)
of_closed sig t (inr p) = or_right (known (sort_of sig t)) (applied_ok sig (is_closed_sort sig) [] (out-Term t)) (predicate_applied sig t p)

-- ---- a whole name
module _ (sig : Signature) (y : System) where
  all_named : (ts : List Term) → list_all (stands_in y.names) ts ≡ true → AllByRecursion (IsNamed y) ts
  all_named = all_of_test (stands_in y.names) (IsNamed y) (λ t e. named_of y.names t e)

  of_all_named : (ts : List Term) → AllByRecursion (IsNamed y) ts → list_all (stands_in y.names) ts ≡ true
  of_all_named = test_of_all (IsNamed y) (stands_in y.names) (λ t w. of_named y.names t w.0 w.1)

  record Parts (t : Term) : Type 0 where
    closed : trigger_ok sig (is_closed_sort sig) [] t ≡ true
    args : list_all (stands_in y.names) (args_of t) ≡ true
    fields : list_all (stands_in y.names) (fields_of sig t) ≡ true

  parts : (t : Term) → is_entry sig y.names t ≡ true → Parts t
  parts t e =
      let c = trigger_ok sig (is_closed_sort sig) [] t in
      let d = list_all (stands_in y.names) (args_of t) in
      let g = list_all (stands_in y.names) (fields_of sig t) in
      let p = and_parts (c && d) g e in
      let q = and_parts c d p.0 in
      record { closed = q.0; args = q.1; fields = p.1 }

  together : (t : Term) → Parts t → is_entry sig y.names t ≡ true
  together t p = and_from _ _ (and_from _ _ p.closed p.args) p.fields

  fields_are : (t : Term) (s : Sort) (ss : List Sort) → sort_of sig t ≡ Some s → record_fields sig s ≡ Some ss → fields_of sig t ≡ field_terms s t (length ss)
  fields_are t s ss e g =
      ap (λ o. elim o as (λ _. List Term) [ Some s ↦ fields_by sig t s | None ↦ [] ]) e
      ∙ ap (λ o. elim o as (λ _. List Term) [ Some ss ↦ field_terms s t (length ss) | None ↦ [] ]) g

  pub terms_hold : length y.values ≡ length y.names → are_apart y.names ≡ true → list_all (is_entry sig y.names) y.names ≡ true → HasTerms sig y
  terms_hold lengths apart entries = record {
    values = lengths;
    sorted = λ n t i. closed_of sig t (at n t i).closed;
    apart = apart_of y.names apart;
    subterms = λ n h ss us i. all_named us (sym (ap (λ l. list_all (stands_in y.names) (args_by l)) (outs-Apply h ss us)) ∙ (at n (Apply h ss us) i).args);
    field_names = λ n t s ss i e g. all_named (field_terms s t (length ss)) (sym (ap (list_all (stands_in y.names)) (fields_are t s ss e g)) ∙ (at n t i).fields);
  }
    where
      at : (n : ℕ) (t : Term) → slice_get y.names n ≡ Some t → Parts t
      at n t i = parts t (list_all_at (is_entry sig y.names) y.names n t entries i)

  pub terms_apart : HasTerms sig y → are_apart y.names ≡ true
  terms_apart h = apart_from y.names h.apart

  pub terms_entries : HasTerms sig y → list_all (is_entry sig y.names) y.names ≡ true
  terms_entries h = test_of_all (λ t. is_entry sig y.names t ≡ true) (is_entry sig y.names) (λ t e. e) y.names (all_from_places _ y.names entry)
    where
      its_args : (n : ℕ) (t : Term) → slice_get y.names n ≡ Some t → (l : Term-F Term) → out-Term t ≡ l → list_all (stands_in y.names) (args_by l) ≡ true
      its_args n t i (layer.Apply g ss us) e = of_all_named us (h.subterms n g ss us (i ∙ ap (λ (w : Term). Some w) (is_application t g ss us e)))
      its_args n t i (layer.Bound k) e = refl
      its_args n t i (layer.Num p q r) e = refl
      its_args n t i (layer.Fresh k s) e = refl

      by_record : (n : ℕ) (t : Term) (s : Sort) → slice_get y.names n ≡ Some t → sort_of sig t ≡ Some s → (o : Option (List Sort)) → record_fields sig s ≡ o
          → list_all (stands_in y.names) (elim o as (λ _. List Term) [ Some ss ↦ field_terms s t (length ss) | None ↦ [] ]) ≡ true
      by_record n t s i e (Some ss) g = of_all_named (field_terms s t (length ss)) (h.field_names n t s ss i e g)
      by_record n t s i e None g = refl

      its_fields : (n : ℕ) (t : Term) → slice_get y.names n ≡ Some t → (o : Option Sort) → sort_of sig t ≡ o
          → list_all (stands_in y.names) (elim o as (λ _. List Term) [ Some s ↦ fields_by sig t s | None ↦ [] ]) ≡ true
      its_fields n t i (Some s) e = by_record n t s i e (record_fields sig s) refl
      its_fields n t i None e = refl

      entry : (n : ℕ) (t : Term) → slice_get y.names n ≡ Some t → is_entry sig y.names t ≡ true
      entry n t i =
          together t (record { closed = of_closed sig t (h.sorted n t i); args = its_args n t i (out-Term t) refl; fields = its_fields n t i (sort_of sig t) refl })

-- ---- the steps of the loops
pub apart_step : (ts : List Term) (i : ℕ) (d : Term) → i < length ts
    → are_apart (drop i ts) ≡ not (stands_in (drop (i + 1) ts) (get_or ts i d)) && are_apart (drop (i + 1) ts)
apart_step ts i d h = ap are_apart (drop_more ts i d h)

pub fields_step : (n : ℕ) (ss : List Sort) (t : Term) (place count : ℕ) → place < count
    → fields_from n ss t place (count - place) ≡ Apply (head.Field n place) ss (t ∷ []) ∷ fields_from n ss t (place + 1) (count - (place + 1))
fields_step n ss t place count h =
    let e : count - place ≡ suc (count - (place + 1)) = omega (arith, h) in
    let z : suc place ≡ place + 1 = omega arith in
    ap (fields_from n ss t place) e ∙ ap (λ (k : ℕ). Apply (head.Field n place) ss (t ∷ []) ∷ fields_from n ss t k (count - (place + 1))) z

pub fields_push : (n : ℕ) (ss : List Sort) (t : Term) (place count : ℕ) (ts : List Term) → place < count
    → (ts ++ Apply (head.Field n place) ss (t ∷ []) ∷ []) ++ fields_from n ss t (place + 1) (count - (place + 1)) ≡ ts ++ fields_from n ss t place (count - place)
fields_push n ss t place count [] h = sym (fields_step n ss t place count h)
fields_push n ss t place count (u ∷ ts) h = ap (λ us. u ∷ us) (fields_push n ss t place count ts h)
