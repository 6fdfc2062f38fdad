-- The rows in which a name stands, and the names that have a leaf, one name further.
use Rattle.std.specs.Prelude.{ℕ, ◌<◌, ◌+◌, ◌≡◌, ◌⊎◌, true, false, List, [], ◌∷◌, ◌++◌, length, Some}
use Rattle.std.proofs.Common.{sym, ◌∙◌, subst, arith, inl, inr}
use Rattle.std.proofs.lemmas.Bool.{cases_lt}
use Rattle.ae_base.proofs.ListFacts.{get_append, get_seam}
use Rattle.ae_base.proofs.Tests.{true_false}
use Rattle.ae_num.specs.Forms.{has_key}
use Rattle.ae_linear.specs.declared.rows.Row.{Row}
use Rattle.ae_linear.specs.Rows.{row_at}
use Rattle.ae_pmap.specs.Forest.{present}
use Rattle.ae_pmap.specs.Pairs.{found}
use Rattle.ae_value_table.specs.Table.{Contents, just_at}
use Rattle.ae_values.specs.declared.occurrences.Change.{Change}
use Rattle.ae_values.specs.declared.occurrences.Follower.{Follower}
use Rattle.ae_values.specs.Inner.Before.{IsChanged, IsFollower}

-- a number below i + 1 is i or below i
below_next : (n i : ℕ) → n < i + 1 → (n ≡ i) ⊎ (n < i)
below_next n i l = elim (cases_lt n i) [ inl b ↦ inr b | inr b ↦ inl (omega (arith, l, b)) ]

-- ---- rows
module _ (c : Contents) (put : ℕ) where
  abbrev pub AreChanged : ℕ → List Change → Type 0
  AreChanged i changes = (n k : ℕ) (row : Row) → n < i → row_at c.rows n ≡ Some row → just_at c n ≡ Some k → has_key row.value.parts put ≡ true → IsChanged changes n

  pub changed_none : AreChanged 0 []
  changed_none n k row l = absurd (omega (arith, l))

  pub changed_more : (i : ℕ) (changes more : List Change) (change : Change) → AreChanged i changes → change.name ≡ i → more ≡ changes ++ change ∷ [] → AreChanged (i + 1) more
  changed_more i changes more change before is e n k row l at step has = subst (λ (cs : List Change). IsChanged cs n) (sym e) (by_name (below_next n i l))
    where
      by_name : (n ≡ i) ⊎ (n < i) → IsChanged (changes ++ change ∷ []) n
      by_name (inl z) = record { place = length changes; change = change; there = get_seam changes [] change; is = is ∙ sym z }
      by_name (inr b) = let h = before n k row b at step has in record { place = h.place; change = h.change; there = get_append changes (change ∷ []) h.place h.change h.there; is = h.is }

  pub changed_past : (i : ℕ) (changes : List Change) → AreChanged i changes → ((row : Row) (k : ℕ) → row_at c.rows i ≡ Some row → just_at c i ≡ Some k → has_key row.value.parts put ≡ false) → AreChanged (i + 1) changes
  changed_past i changes before none n k row l at step has = by_name (below_next n i l)
    where
      by_name : (n ≡ i) ⊎ (n < i) → IsChanged changes n
      by_name (inl z) = true_false (sym has ∙ none row k (subst (λ (j : ℕ). row_at c.rows j ≡ Some row) z at) (subst (λ (j : ℕ). just_at c j ≡ Some k) z step))
      by_name (inr b) = before n k row b at step has

-- ---- leaves
module _ (c : Contents) (leaf : ℕ) where
  abbrev pub AreFollowers : ℕ → List Follower → Type 0
  AreFollowers i followers = (n k : ℕ) → n < i → found (present c.leaves) n ≡ Some leaf → just_at c n ≡ Some k → IsFollower followers n

  pub followers_none : AreFollowers 0 []
  followers_none n k l = absurd (omega (arith, l))

  pub followers_more : (i : ℕ) (followers more : List Follower) (follower : Follower) → AreFollowers i followers → follower.name ≡ i → more ≡ followers ++ follower ∷ [] → AreFollowers (i + 1) more
  followers_more i followers more follower before is e n k l at step = subst (λ (fs : List Follower). IsFollower fs n) (sym e) (by_name (below_next n i l))
    where
      by_name : (n ≡ i) ⊎ (n < i) → IsFollower (followers ++ follower ∷ []) n
      by_name (inl z) = record { place = length followers; follower = follower; there = get_seam followers [] follower; is = is ∙ sym z }
      by_name (inr b) = let h = before n k b at step in record { place = h.place; follower = h.follower; there = get_append followers (follower ∷ []) h.place h.follower h.there; is = h.is }

  pub followers_past : (i : ℕ) (followers : List Follower) → AreFollowers i followers → ((k : ℕ) → found (present c.leaves) i ≡ Some leaf → just_at c i ≡ Some k → ⊥) → AreFollowers (i + 1) followers
  followers_past i followers before none n k l at step = by_name (below_next n i l)
    where
      by_name : (n ≡ i) ⊎ (n < i) → IsFollower followers n
      by_name (inl z) = absurd (none k (subst (λ (j : ℕ). found (present c.leaves) j ≡ Some leaf) z at) (subst (λ (j : ℕ). just_at c j ≡ Some k) z step))
      by_name (inr b) = before n k b at step
