-- Pairs of numbers, the smaller one first, are all pairs.
use Rattle.std.specs.Prelude.{ℕ, ◌≡◌, ◌≢◌, ◌<◌, ◌≤◌, ◌⊎◌, List, [], ◌∷◌, length, Option, Some, None}
use Rattle.std.specs.List.Sorted.{IsNonDecreasing}
use Rattle.std.proofs.Common.{refl, sym, ap, ◌∙◌, subst, arith, inl, inr}
use Rattle.std.proofs.lemmas.Bool.{cases_order}
use Rattle.std.proofs.lemmas.Option.{same_Some, none-some}
use native.Mathlib.Decide.{ℕ_discrete}
use Rattle.ae_core.specs.declared.problems.AcSymbol.{AcSymbol}
use Rattle.ae_multiset.specs.Multisets.{count, IsSame, IsPart, minus, common}
use Rattle.ae_multiset.specs.Rewriting.{IsReduced, ReducesTo, Joins, OverlapsJoin, overlap_first, overlap_second}
use Rattle.ae_multiset.proofs.Counts.{count-append, count-minus, count-common, count_same, same, back}
use Rattle.ae_multiset.proofs.Rising.{one_spelling}
use Rattle.ae_multiset.proofs.Confluence.{from_same}
use Rattle.ae_journal.specs.declared.systems.RuleEntry.{RuleEntry}
use Rattle.ae_settled.specs.Held.{HasRule}
use Rattle.ae_monoid.specs.declared.rules.Kept.{Kept}
use Rattle.ae_monoid.specs.declared.pending.PendingPair.{PendingPair}
use Rattle.ae_monoid.specs.Rules.{IsRuleOf, IsWellKept}
use Rattle.ae_monoid.specs.Reductions.{ReducesBy}
use Rattle.ae_monoid.specs.Equations.{IsDeduced, IsOverlap, AreApart}
use Rattle.ae_sweeps.specs.Given.{entry_of}
use Rattle.ae_sweeps.specs.Gaps.{Ends, IsOpen}
use Rattle.ae_sweeps.specs.Inner.Parts.{IsPairSwept}
use Rattle.ae_sweeps.proofs.Bridges.{ends}

-- the overlap of two rules, seen from the other one
turned_first : (l1 l2 r2 : List ℕ) → IsSame (overlap_first l2 r2 l1) (overlap_second l1 l2 r2)
turned_first l1 l2 r2 = record {
  each = λ x. omega (arith, count-append x r2 (minus l1 (common l2 l1)), count-append x r2 (minus l1 (common l1 l2)), count-minus x l1 (common l2 l1), count-minus x l1 (common l1 l2), count-common x l2 l1, count-common x l1 l2);
}

swapped : (R : List ℕ → List ℕ → Type 0) (l1 r1 l2 r2 : List ℕ) → Joins R (overlap_first l2 r2 l1) (overlap_second l2 l1 r1) → Joins R (overlap_first l1 r1 l2) (overlap_second l1 l2 r2)
swapped R l1 r1 l2 r2 j = record { at = j.at; first = from_same R (turned_first l2 l1 r1) j.second; second = from_same R (back (turned_first l1 l2 r2)) j.first }

or_less : (m n : ℕ) → m ≢ n → (m < n) ⊎ (n < m)
or_less m n d = elim (cases_order m n) [ inl e ↦ absurd (d e) | inr o ↦ o ]

-- ---- one pair
has_name : (a : List ℕ) → 0 < length a → (x : ℕ) × (0 < count x a)
has_name [] l = absurd (omega (arith, l))
has_name (x ∷ xs) l = (x, omega (arith, count_same x xs))

module _ (kept : ℕ → Option Kept) (m n : ℕ) where
  abbrev entries : ℕ → Option RuleEntry
  entries k = entry_of (kept k)

  none_there : (k : ℕ) (e : RuleEntry) → kept k ≡ None → entries k ≡ Some e → ⊥
  none_there k e h t = none-some e (sym (ap entry_of h) ∙ t)

  pub no_first : kept m ≡ None → IsPairSwept entries m n
  no_first h = record { first = λ d e f. absurd (none_there m d h f); second = λ d e f. absurd (none_there m d h f); joins = λ d e f. absurd (none_there m d h f) }

  pub no_second : kept n ≡ None → IsPairSwept entries m n
  no_second h = record { first = λ d e f g. absurd (none_there n e h g); second = λ d e f g. absurd (none_there n e h g); joins = λ d e f g. absurd (none_there n e h g) }

  module _ (p q : Kept) (first : kept m ≡ Some p) (second : kept n ≡ Some q) where
    -- what holds of the entries of these rules
    both : (P : RuleEntry → RuleEntry → Type 0) → (p.entry.symbol ≡ q.entry.symbol → P p.entry q.entry) → (d e : RuleEntry) → entries m ≡ Some d → entries n ≡ Some e → d.symbol ≡ e.symbol → P d e
    both P h d e f g s =
        let i : p.entry ≡ d = same_Some p.entry d (sym (ap entry_of first) ∙ f) in
        let j : q.entry ≡ e = same_Some q.entry e (sym (ap entry_of second) ∙ g) in
        subst (λ c. P d c) j (subst (λ c. P c q.entry) i (h (ap (λ (r : RuleEntry). r.symbol) i ∙ s ∙ ap (λ (r : RuleEntry). r.symbol) (sym j))))

    abbrev Shares : RuleEntry → RuleEntry → Type 0
    Shares d e = (x : ℕ) → 0 < count x d.left → 0 < count x e.left → Joins (HasRule entries d.symbol) (overlap_first d.left d.right e.left) (overlap_second d.left e.left e.right)

    pub swept_by : ¬ IsPart p.entry.left q.entry.left → ¬ IsPart q.entry.left p.entry.left → Shares p.entry q.entry → IsPairSwept entries m n
    swept_by a b j = record {
      first = both (λ d e. ¬ IsPart d.left e.left) (λ s. a);
      second = both (λ d e. ¬ IsPart e.left d.left) (λ s. b);
      joins = both Shares (λ s. j);
    }

    -- an overlap of the two numbers is one of these rules
    pub deduced_of : (pair : PendingPair) → IsOverlap (kept m) (kept n) pair → (p.entry.symbol ≡ q.entry.symbol) × IsDeduced p q pair
    deduced_of pair o =
        let i : o.first ≡ p = same_Some o.first p (sym o.first_there ∙ first) in
        let j : o.second ≡ q = same_Some o.second q (sym o.second_there ∙ second) in
        subst (λ (b : Kept). (p.entry.symbol ≡ b.entry.symbol) × IsDeduced p b pair) j (subst (λ (a : Kept). (a.entry.symbol ≡ o.second.entry.symbol) × IsDeduced a o.second pair) i (o.same, o.deduced))

    part_shares : (a b : List ℕ) → 2 ≤ length a → IsPart a b → ((x : ℕ) → 0 < count x a → 0 < count x b → ⊥) → ⊥
    part_shares a b l h none = let x = has_name a (omega (arith, l)) in none x.0 x.1 (omega (arith, x.1, h.each x.0))

    pub are_apart : IsWellKept p → IsWellKept q → AreApart (kept m) (kept n) → IsPairSwept entries m n
    are_apart w v h = record {
      first = both (λ d e. ¬ IsPart d.left e.left) (λ s i. part_shares p.entry.left q.entry.left w.two i (λ x. h p q first second s x));
      second = both (λ d e. ¬ IsPart e.left d.left) (λ s i. part_shares q.entry.left p.entry.left v.two i (λ x c d. h p q first second s x d c));
      joins = both Shares (λ s x c d. absurd (h p q first second s x c d));
    }

    -- ---- the overlap
    module _ (pair : PendingPair) (deduced : IsDeduced p q pair) (a b js ks : List ℕ) (left : ReducesBy kept pair.symbol pair.left js a) (right : ReducesBy kept pair.symbol pair.right ks b)
        (left_reduced : IsReduced (IsRuleOf kept pair.symbol) a) (right_reduced : IsReduced (IsRuleOf kept pair.symbol) b) where
      left_ends : Ends (HasRule entries p.entry.symbol) (overlap_first p.entry.left p.entry.right q.entry.left) a
      left_ends =
          let e = ends kept pair.symbol left left_reduced in
          subst (λ u. Ends (HasRule entries u) (overlap_first p.entry.left p.entry.right q.entry.left) a) deduced.symbol (record { follows = from_same (HasRule entries pair.symbol) (back deduced.left) e.follows; reduced = e.reduced })

      right_ends : Ends (HasRule entries p.entry.symbol) (overlap_second p.entry.left q.entry.left q.entry.right) b
      right_ends =
          let e = ends kept pair.symbol right right_reduced in
          subst (λ u. Ends (HasRule entries u) (overlap_second p.entry.left q.entry.left q.entry.right) b) deduced.symbol (record { follows = from_same (HasRule entries pair.symbol) (back deduced.right) e.follows; reduced = e.reduced })

      pub join_at : a ≡ b → Shares p.entry q.entry
      join_at e x c d = record { at = a; first = left_ends.follows; second = subst (λ z. ReducesTo (HasRule entries p.entry.symbol) (overlap_second p.entry.left q.entry.left q.entry.right) z) (sym e) right_ends.follows }

      pub open_at : m < n → p.entry.symbol ≡ q.entry.symbol → IsNonDecreasing a → IsNonDecreasing b → (a ≡ b → ⊥) → IsOpen entries m n a b
      open_at before s ra rb differ = record {
        first = p.entry;
        second = q.entry;
        pair = record { first = ap entry_of first; second = ap entry_of second; before = before; symbols = s };
        shared = deduced.shared;
        in_first = deduced.in_first;
        in_second = deduced.in_second;
        left = left_ends;
        right = right_ends;
        differ = λ e. differ (one_spelling a b ra rb e);
      }

-- ---- all pairs
module _ (rules : ℕ → Option RuleEntry) (next : ℕ) (below : (n : ℕ) (e : RuleEntry) → rules n ≡ Some e → n < next) (pairs : (m n : ℕ) → m < n → n < next → IsPairSwept rules m n) where
  pub left_alone : (m n : ℕ) (d e : RuleEntry) → m ≢ n → rules m ≡ Some d → rules n ≡ Some e → d.symbol ≡ e.symbol → ¬ IsPart d.left e.left
  left_alone m n d e apart f g same part =
      elim (or_less m n apart) [
        | inl l ↦ (pairs m n l (below n e g)).first d e f g same part
        | inr l ↦ (pairs n m l (below m d f)).second e d g f (sym same) part
      ]

  pub all_join : (u : AcSymbol) → OverlapsJoin (HasRule rules u)
  all_join u l1 r1 l2 r2 i j apart x p q = by_order (ℕ_discrete i.number j.number)
    where
      entry : List ℕ → List ℕ → RuleEntry
      entry l r = record { symbol = u; left = l; right = r }

      by_less : (i.number < j.number) ⊎ (j.number < i.number) → Joins (HasRule rules u) (overlap_first l1 r1 l2) (overlap_second l1 l2 r2)
      by_less (inl l) = (pairs i.number j.number l (below j.number (entry l2 r2) j.there)).joins (entry l1 r1) (entry l2 r2) i.there j.there refl x p q
      by_less (inr l) = swapped (HasRule rules u) l1 r1 l2 r2 ((pairs j.number i.number l (below i.number (entry l1 r1) i.there)).joins (entry l2 r2) (entry l1 r1) j.there i.there refl x q p)

      by_order : Dec (i.number ≡ j.number) → Joins (HasRule rules u) (overlap_first l1 r1 l2) (overlap_second l1 l2 r2)
      by_order (yes e) =
          let k : entry l1 r1 ≡ entry l2 r2 = same_Some (entry l1 r1) (entry l2 r2) (sym i.there ∙ ap rules e ∙ j.there) in
          absurd (apart (subst (λ (b : List ℕ). IsSame l1 b) (ap (λ (t : RuleEntry). t.left) k) (same l1)) (subst (λ (b : List ℕ). IsSame r1 b) (ap (λ (t : RuleEntry). t.right) k) (same r1)))
      by_order (no n) = by_less (or_less i.number j.number n)
