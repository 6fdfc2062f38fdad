-- As many names of a store are left to solve at most as are names of well-sorted terms.
use Rattle.std.specs.Prelude.{ℕ, zero, suc, ◌+◌, ◌≤◌, Bool, true, cond, count_by, List, [], ◌∷◌, ◌≡◌, ◌≢◌, length, slice_get, Some}
use Rattle.std.specs.List.{AllByRecursion}
use Rattle.std.proofs.Common.{refl, ap, ◌∙◌, arith}
use Rattle.std.proofs.lemmas.List.Sums.{sum_by-cons}
use Rattle.std.proofs.lemmas.Option.{none-some, same_Some}
use Rattle.ae_base.specs.Options.{known}
use Rattle.ae_base.proofs.AllOf.{all_weaker}
use Rattle.ae_core.specs.Sorts.{sort_of}
use Rattle.ae_core.specs.declared.terms.Term.{Term}
use Rattle.ae_monoid.specs.Reductions.{AreDifferent, AreAtMost}
use Rattle.ae_store.specs.Stores.{Stored}
use Rattle.ae_theory.specs.Names.{terms_in}
use Rattle.ae_value_table.specs.Table.{Contents}
use Rattle.ae_turns.specs.Budget.{HasSort, IsUnsolved}
use Rattle.ae_turns.proofs.Unsolved.{unsolved_sorted}
use Rattle.ae_turns.proofs.Budgets.{at_most_weaker}

-- ---- places of a list without the first place
abbrev lowered : List ℕ → List ℕ
lowered [] = []
lowered (zero ∷ ks) = lowered ks
lowered (suc k ∷ ks) = k ∷ lowered ks

apart_from : (n : ℕ) (ks : List ℕ) → AllByRecursion (λ k. suc n ≢ k) ks → AllByRecursion (λ k. n ≢ k) (lowered ks)
apart_from n [] h = tt
apart_from n (zero ∷ ks) h = apart_from n ks h.1
apart_from n (suc k ∷ ks) h = (λ e. h.0 (ap suc e), apart_from n ks h.1)

lowered_apart : (ks : List ℕ) → AreDifferent ks → AreDifferent (lowered ks)
lowered_apart [] h = tt
lowered_apart (zero ∷ ks) h = lowered_apart ks h.1
lowered_apart (suc k ∷ ks) h = (apart_from k ks h.0, lowered_apart ks h.1)

no_first : (ks : List ℕ) → AllByRecursion (λ k. zero ≢ k) ks → length (lowered ks) ≡ length ks
no_first [] h = refl
no_first (zero ∷ ks) h = absurd (h.0 refl)
no_first (suc k ∷ ks) h = ap suc (no_first ks h.1)

-- ---- places whose elements pass
module _ {X : Type 0} (p : X → Bool) where
  abbrev Passes : List X → ℕ → Type 0
  Passes xs k = (x : X) × (slice_get xs k ≡ Some x) × (p x ≡ true)

  lowered_pass : (x : X) (xs : List X) (ks : List ℕ) → AllByRecursion (Passes (x ∷ xs)) ks → AllByRecursion (Passes xs) (lowered ks)
  lowered_pass x xs [] h = tt
  lowered_pass x xs (zero ∷ ks) h = lowered_pass x xs ks h.1
  lowered_pass x xs (suc k ∷ ks) h = (h.0, lowered_pass x xs ks h.1)

  one_more : (x : X) (xs : List X) (ks : List ℕ) → AreDifferent ks → AllByRecursion (Passes (x ∷ xs)) ks → length ks ≤ cond (p x) 1 0 + length (lowered ks)
  one_more x xs [] apart h = omega arith
  one_more x xs (zero ∷ ks) apart h =
      let first = h.0 in
      let e : ◌≡◌ {A = ℕ} (cond (p x) 1 0) 1 = ap (λ b. cond b 1 0) (ap p (same_Some x first.0 first.1) ∙ first.2) in
      omega (arith, e, no_first ks apart.0)
  one_more x xs (suc k ∷ ks) apart h = let l = one_more x xs ks apart.1 h.1 in omega (arith, l)

  pub at_most_count : (xs : List X) (ks : List ℕ) → AreDifferent ks → AllByRecursion (Passes xs) ks → length ks ≤ count_by p xs
  at_most_count [] [] apart h = omega arith
  at_most_count [] (k ∷ ks) apart h = let first = h.0 in absurd (none-some first.0 first.1)
  at_most_count (x ∷ xs) ks apart h =
      let l = one_more x xs ks apart h in
      let m = at_most_count xs (lowered ks) (lowered_apart ks apart) (lowered_pass x xs ks h) in
      let e : count_by p (x ∷ xs) ≡ cond (p x) 1 0 + count_by p xs = sum_by-cons (λ y. cond (p y) 1 0) x xs in
      omega (arith, l, m, e)

-- ---- names of a store
pub sorted_at_most : (s : Stored) (n : ℕ) → count_by (λ t. known (sort_of s.signature t)) (terms_in s) ≤ n → AreAtMost n (HasSort s)
sorted_at_most s n most =
    record {
      bound = λ ks apart each.
          let l = at_most_count (λ (t : Term). known (sort_of s.signature t)) (terms_in s) ks apart
          (all_weaker (HasSort s) (λ k. (t : Term) × (slice_get (terms_in s) k ≡ Some t) × (known (sort_of s.signature t) ≡ true)) (λ k h. (h.term, h.is, ap known h.sorted)) ks each) in
          omega (arith, l, most);
    }

pub unsolved_at_most : (s : Stored) (c : Contents) (n : ℕ) → count_by (λ t. known (sort_of s.signature t)) (terms_in s) ≤ n → AreAtMost n (IsUnsolved s c)
unsolved_at_most s c n most = at_most_weaker (HasSort s) (IsUnsolved s c) (unsolved_sorted s c) n (sorted_at_most s n most)
