-- The least of the names that are alike.
use Rattle.std.specs.Prelude.{ℕ, ◌<◌, ◌≤◌, ◌⊎◌, ◌≡◌, ◌||◌, List, [], ◌∷◌, ◌++◌, length, slice_get, Some, IsTrue}
use Rattle.std.proofs.Common.{sym, ap, ◌∙◌, subst, arith, inl, inr}
use Rattle.std.proofs.lemmas.Bool.{cases_lt}
use Rattle.std.proofs.lemmas.List.{length-append}
use Rattle.std.proofs.lemmas.Option.{same_Some, slice_get_within}
use Rattle.ae_base.proofs.ListFacts.{get_before, get_seam}
use Rattle.ae_base.proofs.Tests.{nat_eq_itself}
use Rattle.ae_value_table.specs.Table.{Contents, held}
use Rattle.ae_value_table.specs.Alike.{alike, alike_entries, IsLeastAlike}

module _ (c : Contents) (name : ℕ) where
  pub alike_itself : IsTrue (alike c name name)
  alike_itself = ap (λ b. b || alike_entries c (slice_get (held c) name) (slice_get (held c) name)) (nat_eq_itself name)

  pub least_found : (other : ℕ) → ((m : ℕ) → m < other → IsTrue (alike c m name) → ⊥) → IsTrue (alike c other name) → IsLeastAlike c name other
  least_found other none here = record { alike_to = here; first = λ m h. by_order m h (cases_lt m other) }
    where
      by_order : (m : ℕ) → IsTrue (alike c m name) → (m < other) ⊎ (other ≤ m) → other ≤ m
      by_order m h (inl l) = absurd (none m l h)
      by_order m h (inr l) = l

-- one representative more
pub least_more : (c : Contents) (reps more : List ℕ) (name r : ℕ) → length reps ≡ name → ((n s : ℕ) → slice_get reps n ≡ Some s → IsLeastAlike c n s) → more ≡ reps ++ r ∷ [] → IsLeastAlike c name r
    → (n s : ℕ) → slice_get more n ≡ Some s → IsLeastAlike c n s
least_more c reps more name r l before is here n s e = by_order (cases_lt n (length reps))
  where
    there : slice_get (reps ++ r ∷ []) n ≡ Some s
    there = ap (λ (xs : List ℕ). slice_get xs n) (sym is) ∙ e

    by_order : (n < length reps) ⊎ (length reps ≤ n) → IsLeastAlike c n s
    by_order (inl b) = before n s (sym (get_before reps (r ∷ []) n b) ∙ there)
    by_order (inr b) =
        let w = slice_get_within (reps ++ r ∷ []) n s there in
        let k : n ≡ length reps = omega (arith, w, b, length-append reps (r ∷ [])) in
        let same : r ≡ s = same_Some r s (sym (get_seam reps [] r) ∙ ap (slice_get (reps ++ r ∷ [])) (sym k) ∙ there) in
        subst (λ (z : ℕ). IsLeastAlike c z s) (sym (k ∙ l)) (subst (IsLeastAlike c name) same here)
