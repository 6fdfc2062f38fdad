-- Rules are removed one after another.
use Rattle.std.specs.Prelude.{◌≡◌, ◌≢◌, ℕ, ◌+◌, ◌<◌, ◌≤◌, List, length, slice_index_or, Some, None}
use Rattle.std.specs.List.{Contains}
use Rattle.std.proofs.Common.{refl, sym, ap, ◌∙◌, subst, arith}
use Rattle.std.proofs.lemmas.List.{get_or_default}
use native.Mathlib.Decide.{ℕ_discrete}
use Rattle.ae_pmap.specs.Forest.{Forest, present, Lasts as MapLasts}
use Rattle.ae_pmap.specs.Pairs.{found, with_at}
use Rattle.ae_pmap.proofs.PairLemmas.{at_same, at_other}
use Rattle.ae_monoid.specs.declared.rules.Kept.{Kept}

pub record AreRemoved (old now : Forest Kept) (numbers : List ℕ) (i : ℕ) : Type 0 where
  pub gone : (j : ℕ) → j < i → found (present now) (slice_index_or numbers j 0) ≡ None
  pub others : (n : ℕ) → ((j : ℕ) → j < i → slice_index_or numbers j 0 ≢ n) → found (present now) n ≡ found (present old) n
  pub fewer : (n : ℕ) (rule : Kept) → found (present now) n ≡ Some rule → found (present old) n ≡ Some rule
  pub lasts : MapLasts old now

pub removed_none : (map : Forest Kept) (numbers : List ℕ) → AreRemoved map map numbers 0
removed_none map numbers = record { gone = λ j l. absurd (omega (arith, l)); others = λ n h. refl; fewer = λ n rule e. e; lasts = λ root ps s. s }

module _ (old now after : Forest Kept) (numbers : List ℕ) (i number : ℕ) (is : number ≡ slice_index_or numbers i 0) (at : (q : ℕ) → found (present after) q ≡ with_at (found (present now)) number None q) where
  pub fewer_more : (n : ℕ) (rule : Kept) → found (present after) n ≡ Some rule → found (present now) n ≡ Some rule
  fewer_more n rule e = by_same (ℕ_discrete n number)
    where
      by_same : Dec (n ≡ number) → found (present now) n ≡ Some rule
      by_same (yes s) = let c : None ≡ Some rule = sym (at_same (found (present now)) number None) ∙ sym (at number) ∙ sym (ap (found (present after)) s) ∙ e in cc
      by_same (no d) = sym (at_other (found (present now)) number None n d) ∙ sym (at n) ∙ e

  pub removed_more : MapLasts now after → AreRemoved old now numbers i → AreRemoved old after numbers (i + 1)
  removed_more lasts r = record {
    gone = λ j l. gone_by j l (ℕ_discrete (slice_index_or numbers j 0) number) (ℕ_discrete j i);
    others = λ n h. others_by n h (ℕ_discrete n number);
    fewer = λ n rule e. r.fewer n rule (fewer_more n rule e);
    lasts = λ root ps s. lasts root ps (r.lasts root ps s);
  }
    where
      gone_by : (j : ℕ) → j < i + 1 → Dec (slice_index_or numbers j 0 ≡ number) → Dec (j ≡ i) → found (present after) (slice_index_or numbers j 0) ≡ None
      gone_by j l (yes s) same = ap (found (present after)) s ∙ at number ∙ at_same (found (present now)) number None
      gone_by j l (no d) (yes s) = absurd (d (ap (λ (k : ℕ). slice_index_or numbers k 0) s ∙ sym is))
      gone_by j l (no d) (no m) = at (slice_index_or numbers j 0) ∙ at_other (found (present now)) number None (slice_index_or numbers j 0) d ∙ r.gone j (omega (arith, l, m))

      others_by : (n : ℕ) → ((j : ℕ) → j < i + 1 → slice_index_or numbers j 0 ≢ n) → Dec (n ≡ number) → found (present after) n ≡ found (present old) n
      others_by n h (yes s) = absurd (h i (omega arith) (sym is ∙ sym s))
      others_by n h (no d) = at n ∙ at_other (found (present now)) number None n d ∙ r.others n (λ j l. h j (omega (arith, l)))

pub removed_gone : (old now : Forest Kept) (numbers : List ℕ) (i : ℕ) → AreRemoved old now numbers i → length numbers ≤ i → (n : ℕ) → Contains numbers n → found (present now) n ≡ None
removed_gone old now numbers i r over n t = let w = t.1 in subst (λ (m : ℕ). found (present now) m ≡ None) (get_or_default numbers t.0 0 n w ∙ t.2) (r.gone t.0 (omega (arith, w, over)))

pub removed_others : (old now : Forest Kept) (numbers : List ℕ) (i : ℕ) → AreRemoved old now numbers i → i ≤ length numbers → (n : ℕ) → (Contains numbers n → ⊥) → found (present now) n ≡ found (present old) n
removed_others old now numbers i r upto n h = r.others n (λ j l e. let w : j < length numbers = omega (arith, l, upto) in h (j, w, get_or_default numbers j n 0 w ∙ e))
