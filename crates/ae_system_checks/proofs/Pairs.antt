-- Systems of the two constants: what holds of each of them.
use Rattle.std.specs.Prelude.{ℕ, zero, suc, ◌≡◌, ◌<◌, ◌≤◌, List, [], ◌∷◌, ◌⊎◌, length, Some}
use Rattle.std.specs.List.{AllByRecursion}
use Rattle.std.proofs.Common.{inl, inr}
use Rattle.std.proofs.lemmas.Option.{same_Some}
use mathlib.Core.Path.{refl, sym, ap, subst, ◌∙◌}
use native.Mathlib.Omega.{arith}
use Rattle.ae_core.specs.declared.terms.Head.{Head}
use Rattle.ae_core.specs.declared.terms.Head.TheVariants as head
use Rattle.ae_core.specs.declared.terms.Sort.{Sort}
use Rattle.ae_core.specs.declared.terms.Term.{Term, Apply, out-Term}
use Rattle.ae_multiset.specs.Multisets.{IsLess}
use Rattle.ae_num.specs.declared.forms.Value.{Leaf}
use Rattle.ae_journal.specs.Values.{Val, leaf}
use Rattle.ae_journal.specs.Systems.{Has, IsLeaf, IsName, IsNamed, IsRepresentative, IsRuleFit, value_at}
use Rattle.ae_journal.specs.declared.systems.RuleEntry.{RuleEntry}
use Rattle.ae_evaluation.proofs.ExampleSystem.{leaf_at}
use Rattle.ae_system_checks.proofs.Entries.{of_two}
use Rattle.ae_decide.specs.Clauses.{HasTerms, HasLeaves, IsCongruent, AllNamesJoin}
use Rattle.ae_system_checks.specs.Examples.{signature, T, a, b, u_entry, pair, rule}
use Rattle.ae_system_checks.proofs.Facts.{T_fields, put_T, a_sort, b_sort, args_of, args_are, head_of, head_is}
use Rattle.ae_system_checks.proofs.Symbols.{IsOfLeaves, IsSymbolTerm, terms_of, leaves_of, own_leaf, leaf_tells}

-- the number of the symbol
number_of : Head → ℕ
number_of (head.Symbol n) = n
number_of _ = 7

module _ (m n : ℕ) (rs : List RuleEntry) where
  each_pair : (P : ℕ → Term → Type 0) → P 0 a → P 1 b → (k : ℕ) (t : Term) → IsName (pair m n rs) k t → P k t
  each_pair = of_two a b

  pub of_leaves : IsOfLeaves signature (pair m n rs)
  of_leaves = record {
    lengths = refl;
    symbol =
        each_pair (λ k t. IsSymbolTerm signature t) (record { number = 0; args = []; is = refl; sort = a_sort })
        (record { number = 1; args = []; is = refl; sort = b_sort });
    leaf = of_two (Leaf m) (Leaf n) (λ k v. (j : ℕ) × (v ≡ Leaf j)) (m, refl) (n, refl);
  }

  place_is : (k : ℕ) (t : Term) → IsName (pair m n rs) k t → number_of (head_of (out-Term t)) ≡ k
  unfolding number_of
  place_is =
      each_pair (λ k t. number_of (head_of (out-Term t)) ≡ k) (ap number_of (head_is (head.Symbol 0) [] []))
      (ap number_of (head_is (head.Symbol 1) [] []))

  pub one_place : (j k : ℕ) (t : Term) → IsName (pair m n rs) j t → IsName (pair m n rs) k t → j ≡ k
  one_place j k t d e = sym (place_is j t d) ∙ place_is k t e

  no_args : (k : ℕ) (h : Head) (ss : List Sort) (us : List Term) → IsName (pair m n rs) k (Apply h ss us) → us ≡ []
  no_args k h ss us i =
      sym (args_are h ss us) ∙ each_pair (λ k t. args_of (out-Term t) ≡ []) (args_are (head.Symbol 0) [] []) (args_are (head.Symbol 1) [] []) k (Apply h ss us) i

  pub pair_terms : HasTerms signature (pair m n rs)
  pair_terms = terms_of signature T_fields (pair m n rs) of_leaves one_place (λ k h ss us i. subst (AllByRecursion (IsNamed (pair m n rs))) (sym (no_args k h ss us i)) tt)

  pub pair_congruent : IsCongruent signature (pair m n rs)
  pair_congruent j k h ss us ws vs s d e g p q =
      ap (value_at (pair m n rs)) (one_place j k (Apply h ss us) d (subst (λ ts. IsName (pair m n rs) k (Apply h ss ts)) (no_args k h ss ws e ∙ sym (no_args j h ss us d)) e))

  pub pair_joins : AllNamesJoin signature (pair m n rs)
  pair_joins k h ss s t p q r i = absurd (some_args s (t ∷ []) (no_args k h ss (s ∷ t ∷ []) i))
    where
      some_args : (t : Term) (ts : List Term) → t ∷ ts ≡ [] → ⊥
      some_args t ts e = cc

  -- ---- values
  pub first_value : value_at (pair m n rs) 0 ≡ Some (leaf m)
  first_value = ap (λ (v : Val). Some v) (leaf_at m)

  pub second_value : value_at (pair m n rs) 1 ≡ Some (leaf n)
  second_value = ap (λ (v : Val). Some v) (leaf_at n)

  no_value : (k : ℕ) (v : Val) → value_at (pair m n rs) (suc (suc k)) ≡ Some v → ⊥
  no_value k v e = cc

  which_leaf : (k w : ℕ) → value_at (pair m n rs) k ≡ Some (leaf w) → (m ≡ w) ⊎ (n ≡ w)
  which_leaf zero w e = inl (leaf_tells m w (same_Some (leaf m) (leaf w) (sym first_value ∙ e)))
  which_leaf (suc zero) w e = inr (leaf_tells n w (same_Some (leaf n) (leaf w) (sym second_value ∙ e)))
  which_leaf (suc (suc k)) w e = absurd (no_value k (leaf w) e)

  pub pair_leaves : IsLeaf signature (pair m n rs) T m → IsLeaf signature (pair m n rs) T n → HasLeaves signature (pair m n rs)
  pair_leaves p q = leaves_of signature T_fields (pair m n rs) of_leaves (λ k w e. elim (which_leaf k w e) [ inl i ↦ subst (IsLeaf signature (pair m n rs) T) i p | inr i ↦ subst (IsLeaf signature (pair m n rs) T) i q ])

  pub first_has : Has signature (pair m n rs) T (leaf m) 0
  first_has = record { term = a; is = refl; sort = a_sort; value = first_value }

  pub second_has : Has signature (pair m n rs) T (leaf n) 1
  second_has = record { term = b; is = refl; sort = b_sort; value = second_value }

-- ---- each constant its own leaf
module _ (rs : List RuleEntry) where
  pub leaf_0 : (n : ℕ) → IsLeaf signature (pair 0 n rs) T 0
  leaf_0 n = record { term = a; is = refl; sort = a_sort; value = first_value 0 n rs ∙ ap (λ (v : Val). Some v) (sym (own_leaf 0)) }

  pub leaf_1 : (m : ℕ) → IsLeaf signature (pair m 1 rs) T 1
  leaf_1 m = record { term = b; is = refl; sort = b_sort; value = second_value m 1 rs ∙ ap (λ (v : Val). Some v) (sym (own_leaf 1)) }

  pub own_leaves : HasLeaves signature (pair 0 1 rs)
  own_leaves = pair_leaves 0 1 rs (leaf_0 1) (leaf_1 0)

  at_least : (k : ℕ) → Has signature (pair 0 1 rs) T (leaf 1) k → 1 ≤ k
  at_least zero h = let z = leaf_tells 0 1 (same_Some (leaf 0) (leaf 1) (sym (first_value 0 1 rs) ∙ h.value)) in absurd (omega (arith, z))
  at_least (suc k) h = omega arith

  pub represents_0 : IsRepresentative signature (pair 0 1 rs) T 0
  represents_0 = (leaf 0, record { has = first_has 0 1 rs; least = λ k h. omega arith })

  pub represents_1 : IsRepresentative signature (pair 0 1 rs) T 1
  represents_1 = (leaf 1, record { has = second_has 0 1 rs; least = at_least })

  pub fits : (l r : List ℕ) → AllByRecursion (IsRepresentative signature (pair 0 1 rs) T) l → AllByRecursion (IsRepresentative signature (pair 0 1 rs) T) r
      → 0 < length r → 2 ≤ length l → IsLess r l → IsRuleFit signature (pair 0 1 rs) (rule l r)
  fits l r p q some two falls = record {
    sort = T;
    symbol = ap (λ (s : Sort). Some s) put_T;
    ac = (u_entry, refl, refl);
    left = p;
    right = q;
    some = some;
    two = two;
    falls = falls;
  }
