-- Names that are the same.
use Rattle.std.specs.Prelude.{ℕ, ◌<◌, true, false, ◌≡◌, length, nat_eq, slice_get, Option, Some, None, IsTrue}
use Rattle.std.proofs.Common.{refl, sym, ap, ◌∙◌, subst, arith, inl, inr, length-take-le}
use Rattle.std.proofs.lemmas.Bool.{and_parts, and_from, or_from, or_right, eqb-true}
use Rattle.std.proofs.lemmas.Option.{same_Some, slice_get_within}
use Rattle.ae_base.specs.Decided.{decided}
use Rattle.ae_base.proofs.Decided.{decided_yes, decided_of, decided_not}
use Rattle.ae_base.proofs.ListFacts.{get_front, get_map, value_at}
use Rattle.ae_base.proofs.Tests.{by_either, false_true}
use Rattle.ae_core.specs.Decided.{Sort_discrete}
use Rattle.ae_core.specs.Sorts.{sort_of, is_numeric, same_sort}
use Rattle.ae_core.specs.declared.problems.Signature.{Signature}
use Rattle.ae_core.specs.declared.terms.Sort.{Sort, Sort-F, Bool as BoolSort, Int, Real, out-Sort}
use Rattle.ae_core.specs.declared.terms.Sort.TheOpen as layer
use Rattle.ae_core.specs.declared.terms.Sort.TheVariants.{outs-Bool, outs-Int, outs-Real}
use Rattle.ae_core.specs.declared.terms.Term.{Term}
use Rattle.ae_num.specs.declared.forms.Value.{Leaf}
use Rattle.ae_journal.specs.Systems.{IsPredicateName, record_fields, fields_of}
use Rattle.ae_store.specs.Stores.{Stored}
use Rattle.ae_store.specs.Terms.{named, IsOfSort}
use Rattle.ae_settled.specs.Valued.{AreValues}
use Rattle.ae_settled.proofs.Nodes.{named_at}
use Rattle.ae_settled.proofs.Sorts.{predicate_of, predicate_unsorted}
use Rattle.ae_theory.specs.Names.{terms_in}
use Rattle.ae_value_table.specs.declared.patterns.Entry.{Entry}
use Rattle.ae_value_table.specs.Table.{Contents, value_in, held, values}
use Rattle.ae_value_table.specs.Alike.{Value_discrete, alike, alike_entries}
use Rattle.ae_value_table.proofs.Least.{alike_itself}
use Rattle.ae_value_fitting.specs.Fitting.{system_in}
use Rattle.ae_state.specs.declared.holding.Holding.{Holding}
use Rattle.ae_state.specs.Names.{all_terms, terms_now}
use Rattle.ae_state.specs.Fitting.{FitsStore}
use Rattle.ae_state.specs.Laws.{NamesAreAlikeTurned, NamesAreAlikeThrough, AlikeNamesHaveOneSort}

-- ---- what is known of two names
pub record AreOne (c : Contents) (p q : Option Entry) : Type 0 where
  pub first : Entry
  pub second : Entry
  pub first_is : p ≡ Some first
  pub second_is : q ≡ Some second
  pub sorts : first.sort ≡ second.sort
  pub values_are : value_in c first.pattern ≡ value_in c second.pattern

module _ (c : Contents) where
  pub one_by : (p q : Option Entry) → alike_entries c p q ≡ true → AreOne c p q
  one_by None None h = false_true h
  one_by None (Some b) h = false_true h
  one_by (Some a) None h = false_true h
  one_by (Some a) (Some b) h =
      let s = and_parts (decided (Sort_discrete a.sort b.sort)) (decided (Value_discrete (value_in c a.pattern) (value_in c b.pattern))) h in
      record { first = a; second = b; first_is = refl; second_is = refl; sorts = decided_yes (Sort_discrete a.sort b.sort) s.0; values_are = decided_yes (Value_discrete (value_in c a.pattern) (value_in c b.pattern)) s.1 }

  from_one : (a b : Entry) → a.sort ≡ b.sort → value_in c a.pattern ≡ value_in c b.pattern → alike_entries c (Some a) (Some b) ≡ true
  from_one a b e f =
      and_from (decided (Sort_discrete a.sort b.sort)) (decided (Value_discrete (value_in c a.pattern) (value_in c b.pattern))) (decided_of (Sort_discrete a.sort b.sort) e)
      (decided_of (Value_discrete (value_in c a.pattern) (value_in c b.pattern)) f)

  one_there : (p q : Option Entry) → AreOne c p q → alike_entries c p q ≡ true
  one_there p q o =
      subst (λ (x : Option Entry × Option Entry). alike_entries c x.0 x.1 ≡ true) (sym (λ i. (o.first_is i, o.second_is i))) (from_one o.first o.second o.sorts o.values_are)

  one_turned : (p q : Option Entry) → AreOne c p q → AreOne c q p
  one_turned p q o = record { first = o.second; second = o.first; first_is = o.second_is; second_is = o.first_is; sorts = sym o.sorts; values_are = sym o.values_are }

  one_through : (p q r : Option Entry) → AreOne c p q → AreOne c q r → AreOne c p r
  one_through p q r o n =
      let same : o.second ≡ n.first = same_Some o.second n.first (sym o.second_is ∙ n.first_is) in
      record {
        first = o.first;
        second = n.second;
        first_is = o.first_is;
        second_is = n.second_is;
        sorts = o.sorts ∙ ap (λ (e : Entry). e.sort) same ∙ n.sorts;
        values_are = o.values_are ∙ ap (λ (e : Entry). value_in c e.pattern) same ∙ n.values_are;
      }

  abbrev pub at : ℕ → Option Entry
  at n = slice_get (held c) n

  pub from_known : (m n : ℕ) → AreOne c (at m) (at n) → IsTrue (alike c m n)
  from_known m n o = or_right (nat_eq m n) (alike_entries c (at m) (at n)) (one_there (at m) (at n) o)

pub alike_turned : NamesAreAlikeTurned
alike_turned c m n h =
    by_either (nat_eq m n) (alike_entries c (at c m) (at c n)) h (λ e. subst (λ (k : ℕ). IsTrue (alike c k m)) (eqb-true m n e) (alike_itself c m))
    (λ f. from_known c n m (one_turned c (at c m) (at c n) (one_by c (at c m) (at c n) f)))

pub alike_through : NamesAreAlikeThrough
alike_through c l m n h k =
    by_either (nat_eq l m) (alike_entries c (at c l) (at c m)) h (λ e. subst (λ (j : ℕ). IsTrue (alike c j n)) (sym (eqb-true l m e)) k)
    (λ f. by_either (nat_eq m n) (alike_entries c (at c m) (at c n)) k (λ e. subst (λ (j : ℕ). IsTrue (alike c l j)) (eqb-true m n e) h)
    (λ g. from_known c l n (one_through c (at c l) (at c m) (at c n) (one_by c (at c l) (at c m) f) (one_by c (at c m) (at c n) g))))

-- ---- they are of one sort
pub both_none : {A : Type 0} (o q : Option A) → ((x : A) → o ≡ Some x → ⊥) → ((x : A) → q ≡ Some x → ⊥) → o ≡ q
both_none None None h k = refl
both_none None (Some x) h k = absurd (k x refl)
both_none (Some x) q h k = absurd (h x refl)

-- `bool` is no number and no record
bool_apart : (s : Sort) (l : Sort-F Sort) → out-Sort s ≡ l → (◌≡◌ {A = Sort-F Sort} layer.Bool l → ⊥) → BoolSort ≡ s → ⊥
bool_apart s l is apart e = apart (sym outs-Bool ∙ ap out-Sort e ∙ is)

bool_no_number : is_numeric BoolSort ≡ false
bool_no_number =
    or_from (same_sort BoolSort Int) (same_sort BoolSort Real) (decided_not (Sort_discrete BoolSort Int) (bool_apart Int layer.Int outs-Int (λ e. cc e)))
    (decided_not (Sort_discrete BoolSort Real) (bool_apart Real layer.Real outs-Real (λ e. cc e)))

bool_no_record : (sig : Signature) → record_fields sig BoolSort ≡ None
bool_no_record sig = ap (fields_of sig) outs-Bool

-- a name that has a value, with its term
pub record IsHad (o : Holding) (n : ℕ) (e : Entry) (t : Term) : Type 0 where
  pub sort : IsOfSort o.signature t e.sort
  pub is : slice_get (terms_now o) n ≡ Some t
  pub value : slice_get (values o.values) n ≡ Some (value_in o.values e.pattern)

module _ (o : Holding) (s : Stored) (fits : FitsStore o s) where
  pub had : (n : ℕ) (e : Entry) (t : Term) → slice_get (held o.values) n ≡ Some e → slice_get (terms_in s) n ≡ Some t → IsHad o n e t
  had n e t at_n there =
      let right = fits.right in
      let g = get_front o.values.entries o.values.taken n e at_n in
      let l : n < length (all_terms o) = omega (arith, slice_get_within o.values.entries n e g.0, (right.entries).within) in
      let named_is = named_at (all_terms o) n l in
      let w = value_at (terms_now o) n (omega (arith, g.1, length-take-le o.values.taken (all_terms o) (omega (arith, right.within, (right.entries).within)))) in
      let same : named (all_terms o) n ≡ t = same_Some (named (all_terms o) n) t (sym ((fits.terms).keeps n (named (all_terms o) n) named_is) ∙ there) in
      record {
        sort = subst (λ (u : Term). IsOfSort o.signature u e.sort) same (((right.entries).each n e g.0).sort);
        is = w.1 ∙ ap Some (same_Some w.0 t (sym (get_front (all_terms o) o.values.taken n w.0 w.1).0 ∙ named_is ∙ ap Some same));
        value = get_map (λ (d : Entry). value_in o.values d.pattern) (held o.values) n e at_n;
      }

  -- a term of sort `bool` never has the value of a predicate's application
  apart : (m n : ℕ) (d e : Entry) (a b : Term) → IsHad o m d a → IsHad o n e b → d.sort ≡ e.sort → value_in o.values d.pattern ≡ value_in o.values e.pattern → sort_of o.signature a ≡ Some d.sort
      → IsPredicateName o.signature b → e.sort ≡ BoolSort → ⊥
  apart m n d e a b p q sorts same sorted predicate bool =
      let y = system_in (terms_now o) o.values in
      let all : AreValues o.signature y = (fits.right).valued in
      let own : value_in o.values e.pattern ≡ Leaf n = same_Some _ _ (sym q.value ∙ all.predicates n b q.is predicate) in
      let over = all.others m a d.sort (value_in o.values d.pattern) p.is sorted p.value (ap is_numeric (sorts ∙ bool) ∙ bool_no_number) (ap (record_fields o.signature) (sorts ∙ bool) ∙ bool_no_record o.signature) in
      let leaf : Leaf over.leaf ≡ Leaf n = sym over.is ∙ same ∙ own in
      let name : over.leaf ≡ n = cc leaf in
      let term : (over.over).term ≡ b = same_Some (over.over).term b (sym (over.over).is ∙ ap (slice_get (terms_now o)) name ∙ q.is) in
      predicate_unsorted o.signature b d.sort predicate (ap (sort_of o.signature) (sym term) ∙ (over.over).sort)

  one_sort : (m n : ℕ) (d e : Entry) (a b : Term) → IsHad o m d a → IsHad o n e b → d.sort ≡ e.sort → value_in o.values d.pattern ≡ value_in o.values e.pattern → IsOfSort o.signature a d.sort
      → IsOfSort o.signature b e.sort → sort_of o.signature a ≡ sort_of o.signature b
  one_sort m n d e a b p q sorts same (inl x) (inl y) = x ∙ ap Some sorts ∙ sym y
  one_sort m n d e a b p q sorts same (inl x) (inr y) = absurd (apart m n d e a b p q sorts same x (predicate_of o.signature b y.0) y.1)
  one_sort m n d e a b p q sorts same (inr x) (inl y) = absurd (apart n m e d b a q p (sym sorts) (sym same) y (predicate_of o.signature a x.0) x.1)
  one_sort m n d e a b p q sorts same (inr x) (inr y) =
      both_none (sort_of o.signature a) (sort_of o.signature b) (λ r h. predicate_unsorted o.signature a r (predicate_of o.signature a x.0) h)
      (λ r h. predicate_unsorted o.signature b r (predicate_of o.signature b y.0) h)

  sorted_by : (m n : ℕ) (a b : Term) → slice_get (terms_in s) m ≡ Some a → slice_get (terms_in s) n ≡ Some b → AreOne o.values (at o.values m) (at o.values n) → sort_of o.signature a ≡ sort_of o.signature b
  sorted_by m n a b f g one =
      let p = had m one.first a one.first_is f in
      let q = had n one.second b one.second_is g in
      one_sort m n one.first one.second a b p q one.sorts one.values_are p.sort q.sort

pub alike_sorted : AlikeNamesHaveOneSort
alike_sorted o s fits m n h a b f g =
    subst (λ (sig : Signature). sort_of sig a ≡ sort_of sig b) (sym (fits.terms).signature)
    (by_either (nat_eq m n) (alike_entries o.values (at o.values m) (at o.values n)) h
    (λ e. ap (sort_of o.signature) (same_Some a b (sym f ∙ ap (slice_get (terms_in s)) (eqb-true m n e) ∙ g)))
    (λ k. sorted_by o s fits m n a b f g (one_by o.values (at o.values m) (at o.values n) k)))
