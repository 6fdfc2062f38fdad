-- The rules by their entries alone: what reduces by the one reduces by the other.
use Rattle.std.specs.Prelude.{ℕ, ◌⊎◌, List, [], ◌∷◌, ◌++◌, ◌≡◌, length, Option, Some, None, IfNone}
use Rattle.std.proofs.Common.{refl, ap, ◌∙◌, arith, inl, inr, length-append}
use Rattle.std.proofs.lemmas.Option.{same_Some, none-some}
use Rattle.ae_core.specs.declared.problems.AcSymbol.{AcSymbol}
use Rattle.ae_multiset.specs.Multisets.{IsSame, IsPart}
use Rattle.ae_multiset.proofs.Counts.{count-append}
use Rattle.ae_multiset.specs.Rewriting.{Step, ReducesTo, IsReduced}
use Rattle.ae_multiset.specs.Rewriting.ReducesTo.{done, more}
use Rattle.ae_multiset.proofs.Confluence.{follows_then}
use Rattle.ae_journal.specs.declared.systems.RuleEntry.{RuleEntry}
use Rattle.ae_monoid.specs.declared.rules.Kept.{Kept}
use Rattle.ae_monoid.specs.Rules.{IsRuleOf}
use Rattle.ae_monoid.specs.Reductions.{ReducesBy, IsStepBy}
use Rattle.ae_monoid.specs.Reductions.ReducesBy.{none, more as one_more}
use Rattle.ae_settled.specs.Held.{HasRule}
use Rattle.ae_sweeps.specs.Given.{entry_of}
use Rattle.ae_sweeps.specs.Gaps.{Ends}

-- ---- options
-- what follows from what holds where there is no value
pub none_then : {A : Type 0} (o : Option A) {P Q : Type 0} → IfNone o P → (P → Q) → IfNone o Q
none_then None h f = f h
none_then (Some a) h f = h

-- what holds where there is no value, where there is none
pub from_none : {A P : Type 0} (o : Option A) → ((a : A) → o ≡ Some a → ⊥) → IfNone o P → P
from_none None n h = h
from_none (Some a) n h = absurd (n a refl)

-- ---- rules and their entries
-- an entry is that of a rule
pub entry_is : (o : Option Kept) (e : RuleEntry) → entry_of o ≡ Some e → (k : Kept) × (o ≡ Some k) × (k.entry ≡ e)
entry_is None e h = absurd (none-some e h)
entry_is (Some k) e h = (k, refl, same_Some k.entry e h)

module _ (kept : ℕ → Option Kept) where
  abbrev entries : ℕ → Option RuleEntry
  entries n = entry_of (kept n)

  step_by : (u : AcSymbol) (just : ℕ) (a b : List ℕ) → IsStepBy kept u just a b → Step (HasRule entries u) a b
  step_by u just a b s = record {
    left = s.rule.entry.left;
    right = s.rule.entry.right;
    rule = record { number = s.number; there = ap entry_of s.there ∙ (λ i. Some (record { symbol = s.of i; left = s.rule.entry.left; right = s.rule.entry.right })) };
    rest = s.turned.rest;
    before = s.turned.before;
    after = s.turned.after;
  }

  pub follows : (u : AcSymbol) {a justs b : List ℕ} → ReducesBy kept u a justs b → ReducesTo (HasRule entries u) a b
  follows u (none s) = done s
  follows u (one_more {a} {b} {c} just f s) = follows_then (HasRule entries u) (follows u f) (more (step_by u just b c s) (done (record { each = λ x. refl })))

  pub reduced_by : (u : AcSymbol) (a : List ℕ) → IsReduced (IsRuleOf kept u) a → IsReduced (HasRule entries u) a
  reduced_by u a r l m h p =
      let k = entry_is (kept h.number) (record { symbol = u; left = l; right = m }) h.there in
      r l m (record { number = h.number; rule = k.0; there = k.1; of = ap (λ (e : RuleEntry). e.symbol) k.2; left = ap (λ (e : RuleEntry). e.left) k.2; right = ap (λ (e : RuleEntry). e.right) k.2 }) p

  pub ends : (u : AcSymbol) {a justs b : List ℕ} → ReducesBy kept u a justs b → IsReduced (IsRuleOf kept u) b → Ends (HasRule entries u) a b
  ends u {a} {justs} {b} f r = record { follows = follows u f; reduced = reduced_by u b r }

  -- ---- where nothing was used, nothing changed, else a rule reduces what was given
  part_of_step : (u : AcSymbol) (just : ℕ) (a b : List ℕ) (s : IsStepBy kept u just a b) → IsPart s.rule.entry.left a
  part_of_step u just a b s = record { each = λ x. omega (arith, s.turned.before.each x, count-append x s.rule.entry.left s.turned.rest) }

  same_part : (l a b : List ℕ) → IsSame a b → IsPart l b → IsPart l a
  same_part l a b e p = record { each = λ x. omega (arith, e.each x, p.each x) }

  pub fits_step : (u : AcSymbol) (just : ℕ) (a b : List ℕ) → IsStepBy kept u just a b → IsReduced (HasRule entries u) a → ⊥
  unfolding step_by
  fits_step u just a b s r = let t = step_by u just a b s in r t.left t.right t.rule (part_of_step u just a b s)

  not_empty : (xs : List ℕ) (x : ℕ) → xs ++ x ∷ [] ≡ [] → ⊥
  not_empty xs x e = let l : length (xs ++ x ∷ []) ≡ 0 = ap length e in omega (arith, l, length-append xs (x ∷ []))

  pub record IsUsed (u : AcSymbol) (a justs : List ℕ) : Type 0 where
    pub some : justs ≡ [] → ⊥
    pub fits : IsReduced (HasRule entries u) a → ⊥

  pub used : (u : AcSymbol) {a justs b : List ℕ} → ReducesBy kept u a justs b → (IsSame a b × (justs ≡ [])) ⊎ IsUsed u a justs
  used u (none s) = inl (s, refl)
  used u (one_more {a} {b} {c} {justs} just f s) =
      elim (used u f) [
        | inl h ↦ inr (record {
          some = not_empty justs just;
          fits = λ r. fits_step u just b c s (λ l m h2 p. r l m h2 (same_part l a b h.0 p));
        })
        | inr h ↦ inr (record { some = not_empty justs just; fits = h.fits })
      ]
