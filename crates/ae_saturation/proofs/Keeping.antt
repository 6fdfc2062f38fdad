-- What stays where other equations are held, or more steps.
use Rattle.std.specs.Prelude.{ℕ, List, ◌≡◌, take, Option, Some}
use Rattle.std.proofs.Common.{sym, ap, ◌∙◌, subst}
use Rattle.ae_monoid.specs.Changes.{IsReducible}
use Rattle.ae_monoid.specs.declared.rules.Kept.{Kept}
use Rattle.ae_settled.specs.Swept.{AreOwn}
use Rattle.ae_store.specs.Stores.{Stored}
use Rattle.ae_store.specs.Terms.{terms}
use Rattle.ae_sweeps.specs.Given.{rep_in}
use Rattle.ae_value_table.specs.Alike.{IsLeastAlike}
use Rattle.ae_value_table.specs.Table.{Contents as Values}
use Rattle.ae_state.specs.declared.holding.Holding.{Holding}
use Rattle.ae_state.specs.Fitting.{FitsStore}
use Rattle.ae_state.specs.Names.{terms_now}
use Rattle.ae_turns.specs.Cleared.{AreCleared}
use Rattle.ae_turns.specs.Representing.{IsTaken, AreRepresentatives}

module _ (s : Stored) (o p : Holding) (valued : p.values ≡ o.values) where
  pub taken_still : p.shapes ≡ o.shapes → FitsStore p s → IsTaken o s → IsTaken p s
  taken_still shaped fits t =
      let same : terms_now p ≡ terms_now o = λ i. take (valued i).taken (terms (shaped i)) in
      record { store = t.store; fits = fits; all = same ∙ t.all }

  pub reps_still : (reps : List ℕ) → AreRepresentatives o reps → AreRepresentatives p reps
  reps_still reps r =
      record {
        one_each = r.one_each ∙ ap (λ (c : Values). c.taken) (sym valued);
        least = λ n k at. subst (λ (c : Values). IsLeastAlike c n k) (sym valued) (r.least n k at);
      }

-- rules whose left sides are own, of which those that another reduces go
pub cleared_by : (reps : List ℕ) (released cleared : ℕ → Option Kept) → ((n : ℕ) (rule : Kept) → released n ≡ Some rule → AreOwn (rep_in reps) rule.entry.left)
    → ((n : ℕ) (rule : Kept) → cleared n ≡ Some rule → released n ≡ Some rule) → ((n : ℕ) → IsReducible cleared n → ⊥) → AreCleared reps cleared
cleared_by reps released cleared own stay alone = record { own = λ n rule at. own n rule (stay n rule at); alone = alone }
