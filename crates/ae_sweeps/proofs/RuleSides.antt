-- The sides of one rule.
use Rattle.std.specs.Prelude.{ℕ, zero, suc, ◌<◌, List, [], ◌∷◌, ◌≡◌, length, get_or, Option, Some, None}
use Rattle.std.proofs.Common.{sym, ap, ◌∙◌, subst, arith, inl, inr}
use Rattle.std.proofs.lemmas.Option.{same_Some, none-some}
use Rattle.ae_multiset.specs.Rewriting.{IsReduced}
use Rattle.ae_journal.specs.declared.systems.RuleEntry.{RuleEntry}
use Rattle.ae_monoid.specs.declared.rules.Kept.{Kept}
use Rattle.ae_monoid.specs.Rules.{IsRuleOf}
use Rattle.ae_monoid.specs.Reductions.{ReducesBy}
use Rattle.ae_settled.specs.Held.{HasRule}
use Rattle.ae_settled.specs.Swept.{AreOwn}
use Rattle.ae_sweeps.specs.Given.{entry_of}
use Rattle.ae_sweeps.specs.Gaps.{IsStale, IsUncomposed}
use Rattle.ae_sweeps.specs.Inner.Parts.{AreSidesSwept}
use Rattle.ae_sweeps.proofs.Bridges.{used, reduced_by}

-- ---- names that are their own representatives
pub own_each : (rep : ℕ → ℕ) (xs : List ℕ) → ((k : ℕ) → k < length xs → rep (get_or xs k 0) ≡ get_or xs k 0) → AreOwn rep xs
own_each rep [] h = tt
own_each rep (x ∷ xs) h = (h 0 (omega arith), own_each rep xs (λ k l. h (suc k) (omega (arith, l))))

pub own_at : (rep : ℕ → ℕ) (xs : List ℕ) (k : ℕ) → k < length xs → AreOwn rep xs → rep (get_or xs k 0) ≡ get_or xs k 0
own_at rep [] k l h = absurd (omega (arith, l))
own_at rep (x ∷ xs) zero l h = h.0
own_at rep (x ∷ xs) (suc k) l h = own_at rep xs k (omega (arith, l)) h.1

-- ---- a rule
module _ (rep : ℕ → ℕ) (kept : ℕ → Option Kept) (n : ℕ) where
  abbrev entries : ℕ → Option RuleEntry
  entries k = entry_of (kept k)

  pub no_rule : kept n ≡ None → AreSidesSwept rep entries n
  no_rule h = record {
    left_own = λ e t. absurd (none-some e (sym (ap entry_of h) ∙ t));
    right_own = λ e t. absurd (none-some e (sym (ap entry_of h) ∙ t));
    right_reduced = λ e t. absurd (none-some e (sym (ap entry_of h) ∙ t));
  }

  module _ (rule : Kept) (there : kept n ≡ Some rule) where
    is_entry : (P : RuleEntry → Type 0) → P rule.entry → (e : RuleEntry) → entries n ≡ Some e → P e
    is_entry P h e t = subst P (same_Some rule.entry e (sym (ap entry_of there) ∙ t)) h

    pub stale : (AreOwn rep rule.entry.left → AreOwn rep rule.entry.right → ⊥) → IsStale rep entries n
    stale h = record { rule = rule.entry; there = ap entry_of there; stale = h }

    pub uncomposed : (js b : List ℕ) → ReducesBy kept rule.entry.symbol rule.entry.right js b → (js ≡ [] → ⊥) → IsUncomposed entries n
    uncomposed js b f some = elim (used kept rule.entry.symbol f) [ inl h ↦ absurd (some h.1) | inr h ↦ record { rule = rule.entry; there = ap entry_of there; fits = h.fits } ]

    right_is : (js b : List ℕ) → ReducesBy kept rule.entry.symbol rule.entry.right js b → IsReduced (IsRuleOf kept rule.entry.symbol) b → js ≡ [] → IsReduced (HasRule entries rule.entry.symbol) rule.entry.right
    right_is js b f r none =
        elim (used kept rule.entry.symbol f) [
          | inl h ↦ (λ l m i p. reduced_by kept rule.entry.symbol b r l m i (record { each = λ x. omega (arith, (h.0).each x, p.each x) }))
          | inr h ↦ absurd (h.some none)
        ]

    pub sides : AreOwn rep rule.entry.left → AreOwn rep rule.entry.right → (js b : List ℕ) → ReducesBy kept rule.entry.symbol rule.entry.right js b → IsReduced (IsRuleOf kept rule.entry.symbol) b → js ≡ []
        → AreSidesSwept rep entries n
    sides l r js b f s none = record {
      left_own = is_entry (λ e. AreOwn rep e.left) l;
      right_own = is_entry (λ e. AreOwn rep e.right) r;
      right_reduced = is_entry (λ e. IsReduced (HasRule entries e.symbol) e.right) (right_is js b f s none);
    }
