-- Equations that are left out or contradicted, by single literals; and all that can be unmet.
use Rattle.std.specs.Prelude.{ℕ, ◌+◌, ◌<◌, true, false, List, ◌≡◌, length, slice_get, Some}
use Rattle.std.proofs.Common.{refl, sym, ap, ◌∙◌, arith}
use Rattle.std.proofs.lemmas.Option.{same_Some, slice_get_within}
use native.Mathlib.Decide.{ℕ_discrete}
use Rattle.ae_core.specs.declared.problems.Signature.{Signature}
use Rattle.ae_store.specs.declared.nodes.Node.{Node}
use Rattle.ae_store.specs.Shapes.{shapes}
use Rattle.ae_store.specs.Terms.{terms}
use Rattle.ae_data.specs.Constructors.{AreDifferentConstructors}
use Rattle.ae_literals.specs.declared.said.Said.{Said}
use Rattle.ae_literals.specs.declared.said.Said.TheVariants.{Equal, Atom, Other}
use Rattle.ae_literals.specs.declared.unmet.Unmet.TheVariants as unmet
use Rattle.ae_literals.specs.Unmet.{IsLeftOut, IsContradicted, AreOpposed, AreAllMet}
use Rattle.ae_literals.specs.Inner.Parts.{LeavesOut, Contradicts}

-- ---- places of a list
-- what holds at each place below a number, and at that number, holds below the next
pub below_next : (said : List Said) (P : Said → Type 0) (at : ℕ) (x : Said) → slice_get said at ≡ Some x → P x → ((k : ℕ) (y : Said) → k < at → slice_get said k ≡ Some y → P y)
    → (k : ℕ) (y : Said) → k < at + 1 → slice_get said k ≡ Some y → P y
below_next said P at x there h all k y l e = by_place (ℕ_discrete k at)
  where
    by_place : Dec (k ≡ at) → P y
    by_place (yes f) = let z : x ≡ y = same_Some x y (sym there ∙ ap (slice_get said) (sym f) ∙ e) in rw (← z) h
    by_place (no f) = all k y (omega (arith, l, f)) e

-- what holds below the length holds everywhere
pub everywhere : (said : List Said) (P : Said → Type 0) (at : ℕ) → length said ≡ at → ((k : ℕ) (y : Said) → k < at → slice_get said k ≡ Some y → P y) → (k : ℕ) (y : Said) → slice_get said k ≡ Some y → P y
everywhere said P at n all k y e = let l : k < length said = slice_get_within said k y e in all k y (omega (arith, l, n)) e

-- ---- equations
module _ (rep : ℕ → ℕ) (said : List Said) (at : ℕ) where
  pub left_out_by : (y : Said) → slice_get said at ≡ Some y → LeavesOut rep y → IsLeftOut rep said at
  left_out_by (Equal b l r) e h = record { left = l; right = r; is = e ∙ ap (λ c. Some (Equal c l r)) h.0; differ = h.1 }
  left_out_by (Atom b n) e h = absurd h
  left_out_by Other e h = absurd h

  pub contradicted_by : (y : Said) → slice_get said at ≡ Some y → Contradicts rep y → IsContradicted rep said at
  contradicted_by (Equal b l r) e h = record { left = l; right = r; is = e ∙ ap (λ c. Some (Equal c l r)) h.0; same = h.1 }
  contradicted_by (Atom b n) e h = absurd h
  contradicted_by Other e h = absurd h

-- ---- all of it
module _ (sig : Signature) (nodes : List Node) (rep : ℕ → ℕ) (said : List Said) (no_contradicted : (k : ℕ) (y : Said) → slice_get said k ≡ Some y → ¬ Contradicts rep y)
    (no_opposed : (i j : ℕ) → ¬ AreOpposed nodes rep said i j) (no_mixed : (m n : ℕ) → AreDifferentConstructors sig (terms (shapes nodes)) m n → rep m ≡ rep n → ⊥)
    (no_left_out : (k : ℕ) (y : Said) → slice_get said k ≡ Some y → ¬ LeavesOut rep y) where
  pub all_met : AreAllMet sig nodes rep said
  all_met (unmet.LeftOut k) u = no_left_out k (Equal true u.left u.right) u.is (refl, u.differ)
  all_met (unmet.Contradicted k) u = no_contradicted k (Equal false u.left u.right) u.is (refl, u.same)
  all_met (unmet.Opposed i j) u = no_opposed i j u
  all_met (unmet.Mixed m n) u = no_mixed m n u.differ u.same
