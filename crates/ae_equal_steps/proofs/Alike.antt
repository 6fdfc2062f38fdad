-- Two names that are alike, and not one: their patterns are a pair.
use Rattle.std.specs.Prelude.{ℕ, ◌≡◌, ◌≢◌, true, nat_eq, List, slice_get, IsTrue, Option, Some, None}
use Rattle.std.proofs.Common.{refl, sym, ap, ◌∙◌, subst}
use Rattle.std.proofs.lemmas.Bool.{eqb-true, and_parts}
use Rattle.ae_base.specs.Options.{known}
use Rattle.ae_base.proofs.Decided.{decided_yes}
use Rattle.ae_base.proofs.ListFacts.{value_at}
use Rattle.ae_base.proofs.Options.{known_some}
use Rattle.ae_base.proofs.Tests.{by_either, false_true}
use Rattle.ae_core.specs.Decided.{Sort_discrete}
use Rattle.ae_core.specs.Sorts.{sort_of}
use Rattle.ae_core.specs.declared.terms.Sort.{Sort}
use Rattle.ae_core.specs.declared.terms.Term.{Term}
use Rattle.ae_core.specs.declared.problems.Signature.{Signature}
use Rattle.ae_store.specs.Shapes.{shapes}
use Rattle.ae_store.specs.Stores.{IsStore}
use Rattle.ae_store.specs.Terms.{terms, named}
use Rattle.ae_store.specs.declared.nodes.Node.{Node}
use Rattle.ae_store.proofs.StoreLaws.{name_term}
use Rattle.ae_settled.specs.Valued.{AreValues}
use Rattle.ae_value_table.specs.declared.patterns.Entry.{Entry}
use Rattle.ae_value_table.specs.Alike.{Value_discrete, alike, alike_entries}
use Rattle.ae_value_table.specs.Table.{Contents, value_in, held}
use Rattle.ae_value_fitting.specs.Fitting.{system_in, ArePatterns}
use Rattle.ae_equal_steps.specs.Inner.Parts.{name_of}
use Rattle.ae_equal_steps.specs.Inner.Pairs.{IsOf, IsPair}
use Rattle.ae_equal_steps.proofs.PairLaws.{of_within, name_is}

-- what is known of two names that are alike
pub record AreKnownAlike (c : Contents) (m n : ℕ) : Type 0 where
  pub first : Entry
  pub first_there : slice_get (held c) m ≡ Some first
  pub second : Entry
  pub second_there : slice_get (held c) n ≡ Some second
  pub sorts : first.sort ≡ second.sort
  pub same : value_in c first.pattern ≡ value_in c second.pattern

pub known_alike : (c : Contents) (m n : ℕ) → m ≢ n → IsTrue (alike c m n) → AreKnownAlike c m n
known_alike c m n d t =
    by_either (nat_eq m n) (alike_entries c (slice_get (held c) m) (slice_get (held c) n)) t (λ e. absurd (d (eqb-true m n e))) (λ e. by_entries (slice_get (held c) m) (slice_get (held c) n) refl refl e)
  where
    by_entries : (o p : Option Entry) → slice_get (held c) m ≡ o → slice_get (held c) n ≡ p → alike_entries c o p ≡ true → AreKnownAlike c m n
    by_entries None p f g e = false_true e
    by_entries (Some a) None f g e = false_true e
    by_entries (Some a) (Some b) f g e =
        let both = and_parts _ _ e in
        record {
          first = a;
          first_there = f;
          second = b;
          second_there = g;
          sorts = decided_yes (Sort_discrete a.sort b.sort) both.0;
          same = decided_yes (Value_discrete (value_in c a.pattern) (value_in c b.pattern)) both.1;
        }

module _ (sig : Signature) (nodes : List Node) (c : Contents) (store : IsStore sig nodes) (patterns : ArePatterns sig (terms (shapes nodes)) (held c)) (are : AreValues sig (system_in (terms (shapes nodes)) c)) where
  abbrev ts : List Term
  ts = terms (shapes nodes)

  -- the pattern that is held of a name is of it, and the sort is the one that is held
  held_of : (n : ℕ) (e : Entry) (s : Sort) → slice_get (held c) n ≡ Some e → sort_of sig (named ts n) ≡ Some s → IsOf sig ts c s e.pattern n
  held_of n e s at sorted = record { sorted = sorted; entry = e; there = at; pattern = refl }

  held_sort : (n : ℕ) (e : Entry) (s : Sort) → slice_get (held c) n ≡ Some e → sort_of sig (named ts n) ≡ Some s → e.sort ≡ s
  held_sort n e s at sorted =
      let t = value_at ts n (of_within sig nodes c store patterns are s e.pattern n (held_of n e s at sorted)) in
      patterns.sorts n t.0 s e t.1 (sym (ap (sort_of sig) (name_term ts n t.0 t.1)) ∙ sorted) at

  pub held_name : (n : ℕ) (e : Entry) → slice_get (held c) n ≡ Some e → known (sort_of sig (named ts n)) ≡ true → name_of e.pattern ≡ n
  held_name n e at k = let s = known_some (sort_of sig (named ts n)) k in name_is sig nodes c store patterns are s.0 e.pattern n (held_of n e s.0 at s.1)

  pub held_pair : (m n : ℕ) (a : AreKnownAlike c m n) → known (sort_of sig (named ts m)) ≡ true → known (sort_of sig (named ts n)) ≡ true → IsPair sig ts c a.first.pattern a.second.pattern
  held_pair m n a k l =
      let s = known_some (sort_of sig (named ts m)) k in
      let r = known_some (sort_of sig (named ts n)) l in
      let one : r.0 ≡ s.0 = sym (held_sort n a.second r.0 a.second_there r.1) ∙ sym a.sorts ∙ held_sort m a.first s.0 a.first_there s.1 in
      let sorted : sort_of sig (named ts n) ≡ Some s.0 = r.1 ∙ ap (λ (x : Sort). Some x) one in
      record {
        sort = s.0;
        left = subst (IsOf sig ts c s.0 a.first.pattern) (sym (held_name m a.first a.first_there k)) (held_of m a.first s.0 a.first_there s.1);
        right = subst (IsOf sig ts c s.0 a.second.pattern) (sym (held_name n a.second a.second_there l)) (held_of n a.second s.0 a.second_there sorted);
        same = a.same;
      }
