-- Names that are alike have terms that are the same in the system, and the other way round.
use Rattle.std.specs.Prelude.{ℕ, List, ◌≡◌, nat_eq, slice_get, IsTrue, Option, Some}
use Rattle.std.proofs.Common.{refl, sym, ap, ◌∙◌, subst, inl, inr}
use Rattle.std.proofs.lemmas.Bool.{eqb-true}
use Rattle.std.proofs.lemmas.Option.{same_Some}
use Rattle.ae_alike_names.specs.Alike.{AlikeNamesAreSame}
use Rattle.ae_base.proofs.Tests.{by_either}
use Rattle.ae_base.specs.Options.{◌>>=◌}
use Rattle.ae_core.specs.Sorts.{sort_of}
use Rattle.ae_core.specs.declared.problems.Signature.{Signature}
use Rattle.ae_core.specs.declared.terms.Sort.{Sort}
use Rattle.ae_core.specs.declared.terms.Term.{Term}
use Rattle.ae_exact_names.specs.Exact.{PredicatesAreThemselvesAlone}
use Rattle.ae_journal.specs.States.{AreSame}
use Rattle.ae_journal.specs.States.AreSame.{itself, by_value}
use Rattle.ae_journal.specs.Systems.{Has, IsPredicateName, ValueOf, value_at}
use Rattle.ae_journal.specs.Values.{Val, meaning}
use Rattle.ae_num.specs.declared.forms.Value.{Value}
use Rattle.ae_owed.specs.Known.{AreAlike}
use Rattle.ae_settled.proofs.Sorts.{predicate_of}
use Rattle.ae_state.proofs.Alikeness.{AreOne, one_by, had, alike_sorted}
use Rattle.ae_state.specs.Names.{system_now}
use Rattle.ae_state.specs.declared.holding.Holding.{Holding}
use Rattle.ae_store.specs.Stores.{Stored}
use Rattle.ae_store.specs.Terms.{IsOfSort}
use Rattle.ae_theory.specs.Names.{terms_in}
use Rattle.ae_turns.proofs.Representatives.{alike_by}
use Rattle.ae_turns.specs.Representing.{IsTaken}
use Rattle.ae_value_fitting.specs.Fitting.{system_in}
use Rattle.ae_value_table.proofs.Least.{alike_itself}
use Rattle.ae_value_table.specs.Alike.{alike, alike_entries}
use Rattle.ae_value_table.specs.Table.{held, value_in}
use Rattle.ae_value_table.specs.declared.patterns.Entry.{Entry}

-- ---- two names of a store that is taken
module _ (alone : PredicatesAreThemselvesAlone) (o : Holding) (s : Stored) (t : IsTaken o s) where
  abbrev sig : Signature
  sig = s.signature

  abbrev ts : List Term
  ts = terms_in s

  abbrev at : ℕ → Option Entry
  at n = slice_get (held o.values) n

  -- they are one
  pub one_term : (m n : ℕ) (u w : Term) → slice_get ts m ≡ Some u → slice_get ts n ≡ Some w → m ≡ n → u ≡ w
  one_term m n u w f g e = same_Some u w (sym f ∙ ap (slice_get ts) e ∙ g)

  -- or the terms of both have the sort of the first
  pub record HaveSort (u w : Term) (sort : Sort) : Type 0 where
    pub left : sort_of sig u ≡ Some sort
    pub right : sort_of sig w ≡ Some sort

  pub sorted_or_one : (A : Type 0) (m n : ℕ) (u w : Term) → slice_get ts m ≡ Some u → slice_get ts n ≡ Some w → IsTrue (alike o.values m n) → (sort : Sort) → IsOfSort o.signature u sort
      → (u ≡ w → A) → (HaveSort u w sort → A) → A
  sorted_or_one A m n u w f g h sort (inl x) one both =
      let left : sort_of sig u ≡ Some sort = ap (λ (z : Signature). sort_of z u) t.fits.terms.signature ∙ x in
      both (record { left = left; right = sym (alike_sorted o s t.fits m n h u w f g) ∙ left })
  sorted_or_one A m n u w f g h sort (inr x) one both =
      let predicate : IsPredicateName sig u = subst (λ (z : Signature). IsPredicateName z u) (sym t.fits.terms.signature) (predicate_of o.signature u x.0) in
      one (one_term m n u w f g (alone o s t m n u f predicate h))

  -- ---- from names to terms
  value_of : (n : ℕ) (e : Entry) (u : Term) → at n ≡ Some e → slice_get ts n ≡ Some u → ValueOf (system_now o) u (meaning (value_in o.values e.pattern))
  value_of n e u there is =
      let h = had o s t.fits n e u there is in (n, h.is, ap (λ (q : Option Value). q >>= λ v. Some (meaning v)) h.value)

  same_entries : (m n : ℕ) (u w : Term) → slice_get ts m ≡ Some u → slice_get ts n ≡ Some w → IsTrue (alike o.values m n) → AreOne o.values (at m) (at n) → AreSame sig (system_now o) u w
  same_entries m n u w f g h one =
      sorted_or_one (AreSame sig (system_now o) u w) m n u w f g h one.first.sort (had o s t.fits m one.first u one.first_is f).sort
      (λ e. subst (AreSame sig (system_now o) u) e itself)
      (λ both.
      by_value one.first.sort (meaning (value_in o.values one.first.pattern)) both.left both.right (value_of m one.first u one.first_is f)
      (subst (ValueOf (system_now o) w) (ap meaning (sym one.values_are)) (value_of n one.second w one.second_is g)))

  pub terms_same : (u w : Term) → AreAlike s (alike o.values) u w → AreSame sig (system_now o) u w
  terms_same u w a =
      by_either (nat_eq a.left a.right) (alike_entries o.values (at a.left) (at a.right)) a.alike_ones
      (λ e. subst (AreSame sig (system_now o) u) (one_term a.left a.right u w a.left_at a.right_at (eqb-true a.left a.right e)) itself)
      (λ e. same_entries a.left a.right u w a.left_at a.right_at a.alike_ones (one_by o.values (at a.left) (at a.right) e))

  -- ---- and back
  has_value : (sort : Sort) (v : Val) (m : ℕ) (u : Term) → slice_get ts m ≡ Some u → sort_of sig u ≡ Some sort → ValueOf (system_now o) u v → Has sig (system_in ts o.values) sort v m
  has_value sort v m u f sorted value =
      let there : slice_get ts value.0 ≡ Some u = ap (λ (us : List Term). slice_get us value.0) (sym t.all) ∙ value.1 in
      record {
        term = u;
        is = f;
        sort = sorted;
        value = subst (λ (k : ℕ). value_at (system_in ts o.values) k ≡ Some v) (t.store.sound.one_name value.0 m u there f) value.2;
      }

  same_name : (m n : ℕ) (u w : Term) → slice_get ts m ≡ Some u → slice_get ts n ≡ Some w → u ≡ w → m ≡ n
  same_name m n u w f g e = t.store.sound.one_name m n w (f ∙ ap Some e) g

  alike_terms : (m n : ℕ) (u w : Term) → slice_get ts m ≡ Some u → slice_get ts n ≡ Some w → AreSame sig (system_now o) u w → IsTrue (alike o.values m n)
  alike_terms m n u _ f g itself = subst (λ (k : ℕ). IsTrue (alike o.values m k)) (same_name m n u u f g refl) (alike_itself o.values m)
  alike_terms m n u w f g (by_value sort v left right a b) = alike_by o s t sort v m n (has_value sort v m u f left a) (has_value sort v n w g right b)

pub alike_names_are_same : PredicatesAreThemselvesAlone → AlikeNamesAreSame
alike_names_are_same alone o s t = record { same = terms_same alone o s t; alike_ones = alike_terms alone o s t }
