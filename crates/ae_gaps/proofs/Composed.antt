-- Rules that are composed: nothing is left to do about their sides, and their overlaps join where both results descend to one multiset.
use Rattle.std.specs.Prelude.{ℕ, ◌<◌, ◌⊎◌, ◌≡◌, ◌≢◌, List, map, Option, Some}
use Rattle.std.proofs.Common.{sym, ap, ◌∙◌, subst, arith, inl, inr}
use Rattle.std.proofs.lemmas.Option.{same_Some}
use Rattle.ae_core.specs.declared.problems.AcSymbol.{AcSymbol}
use Rattle.ae_core.specs.declared.problems.Signature.{Signature}
use Rattle.ae_core.specs.declared.terms.Term.{Term}
use Rattle.ae_just.specs.declared.steps.Step.{Step}
use Rattle.ae_descents.specs.Descents.{Descends}
use Rattle.ae_equation_turns.specs.Turned.{AreLeast, DescendsBy}
use Rattle.ae_equations.specs.declared.queue.Waiting.{Waiting}
use Rattle.ae_journal.specs.declared.systems.RuleEntry.{RuleEntry}
use Rattle.ae_monoid.specs.Equations.{AreApart}
use Rattle.ae_monoid.specs.declared.rules.Kept.{Kept}
use Rattle.ae_multiset.specs.Multisets.{count, IsSame, IsPart, common}
use Rattle.ae_multiset.specs.Rewriting.{IsReduced, Joins, overlap_first, overlap_second}
use Rattle.ae_multiset.proofs.Counts.{back}
use Rattle.ae_descents.proofs.Descending.{from_same}
use Rattle.ae_orienting.specs.Meeting.{Meets}
use Rattle.ae_rule_changes.proofs.Turned.{kept_descend}
use Rattle.ae_settled.specs.Held.{HasRule}
use Rattle.ae_settled.specs.Swept.{AreOwn}
use Rattle.ae_store.specs.declared.nodes.Node.{Node}
use Rattle.ae_sweeps.specs.Gaps.{IsGap, IsStale, IsUncomposed, IsCollapsible}
use Rattle.ae_sweeps.specs.Given.{rep_in, entry_of}
use Rattle.ae_sweeps.specs.declared.gaps.Gap.{Gap}
use Rattle.ae_sweeps.specs.declared.gaps.Gap.TheVariants as gap
use Rattle.ae_sweeps.proofs.Bridges.{entry_is, reduced_by}
use Rattle.ae_turns.specs.Cleared.{AreComposed}
use Rattle.ae_gaps.specs.Inner.Openings.{IsOfSides}
use Rattle.ae_gaps.specs.Inner.Overlapping.{IsOverlapSaid, AreJoined}
use Rattle.ae_gaps.proofs.OwnDescents.{own_result, own_join, descents_join}

module _ (reps : List ℕ) (kept : ℕ → Option Kept) (composed : AreComposed reps kept) where
  abbrev entries : ℕ → Option RuleEntry
  entries n = entry_of (kept n)

  left_own : (n : ℕ) (e : RuleEntry) → entries n ≡ Some e → AreOwn (rep_in reps) e.left
  left_own n e t =
      let k = entry_is (kept n) e t in
      subst (λ (d : RuleEntry). AreOwn (rep_in reps) d.left) k.2 ((composed.cleared).own n k.0 k.1)

  right_own : (n : ℕ) (e : RuleEntry) → entries n ≡ Some e → AreOwn (rep_in reps) e.right
  right_own n e t =
      let k = entry_is (kept n) e t in
      subst (λ (d : RuleEntry). AreOwn (rep_in reps) d.right) k.2 ((composed.rights).each n k.0 k.1)

  rule_own : (u : AcSymbol) (l r : List ℕ) → HasRule entries u l r → AreOwn (rep_in reps) l × AreOwn (rep_in reps) r
  rule_own u l r h = let e : RuleEntry = record { symbol = u; left = l; right = r } in (left_own h.number e h.there, right_own h.number e h.there)

  -- ---- the sides of rules
  none_stale : (n : ℕ) → IsStale (rep_in reps) entries n → ⊥
  none_stale n s = s.stale (left_own n s.rule s.there) (right_own n s.rule s.there)

  right_reduced : (n : ℕ) (e : RuleEntry) → entries n ≡ Some e → IsReduced (HasRule entries e.symbol) e.right
  right_reduced n e t =
      let k = entry_is (kept n) e t in
      subst (λ (d : RuleEntry). IsReduced (HasRule entries d.symbol) d.right) k.2 (reduced_by kept (k.0).entry.symbol (k.0).entry.right (composed.reduced n k.0 k.1))

  none_uncomposed : (n : ℕ) → IsUncomposed entries n → ⊥
  none_uncomposed n s = s.fits (right_reduced n s.rule s.there)

  -- the left side of one rule is no part of that of another
  left_alone : (m n : ℕ) (d e : RuleEntry) → m ≢ n → entries m ≡ Some d → entries n ≡ Some e → d.symbol ≡ e.symbol → IsPart d.left e.left → ⊥
  left_alone m n d e apart f g s part =
      let p = entry_is (kept m) d f in
      let q = entry_is (kept n) e g in
      let symbols : (p.0).entry.symbol ≡ (q.0).entry.symbol = ap (λ (r : RuleEntry). r.symbol) p.2 ∙ s ∙ ap (λ (r : RuleEntry). r.symbol) (sym q.2) in
      let within : IsPart (p.0).entry.left (q.0).entry.left =
      subst (λ (z : RuleEntry × RuleEntry). IsPart (z.0).left (z.1).left) (λ i. (sym p.2 i, sym q.2 i)) part in
      (composed.cleared).alone n (record { rule = q.0; there = q.1; other = m; is_other = apart; fits = record { rule = p.0; there = p.1; of = symbols; part = within } })

  none_collapsible : (m n : ℕ) → IsCollapsible entries m n → ⊥
  none_collapsible m n c = by_part c.part
    where
      by_part : IsPart (c.first).left (c.second).left ⊎ IsPart (c.second).left (c.first).left → ⊥
      by_part (inl p) = left_alone m n c.first c.second (λ e. (let b = (c.pair).before in omega (arith, e, b))) (c.pair).first (c.pair).second (c.pair).symbols p
      by_part (inr p) = left_alone n m c.second c.first (λ e. (let b = (c.pair).before in omega (arith, e, b))) (c.pair).second (c.pair).first (sym (c.pair).symbols) p

  pub none_of_sides : (sig : Signature) (nodes : List Node) (g : Gap) → IsGap sig nodes (rep_in reps) entries g → IsOfSides g → ⊥
  none_of_sides sig nodes (gap.Stale n) h s = none_stale n h
  none_of_sides sig nodes (gap.Uncomposed n) h s = none_uncomposed n h
  none_of_sides sig nodes (gap.Collapsible m n) h s = none_collapsible m n h
  none_of_sides sig nodes (gap.Pair m n a b) h s = s
  none_of_sides sig nodes (gap.Unflat n a) h s = s
  none_of_sides sig nodes (gap.Unequal m n) h s = s

  -- ---- equations whose sides come down to one multiset
  module _ (least : AreLeast reps) where
    abbrev By : AcSymbol → List ℕ → List ℕ → Type 0
    By u = Descends (λ n r. rep_in reps n ≡ r) (HasRule entries u)

    by_entries : (u : AcSymbol) (a b : List ℕ) → DescendsBy reps kept u a b → By u a b
    by_entries u a b d = kept_descend (rep_in reps) kept entries u a b (record { some = λ n k e. ap entry_of e; none = λ n e. ap entry_of e }) d

    -- the representatives of its two sides join
    pub meets_join : (w : Waiting) → Meets reps kept w → Joins (HasRule entries w.symbol) (map (rep_in reps) w.left) (map (rep_in reps) w.right)
    meets_join w m =
        descents_join (rep_in reps) (HasRule entries w.symbol) least.own (rule_own w.symbol) w.left w.right m.common (by_entries w.symbol w.left m.common m.left) (by_entries w.symbol w.right m.common m.right)

    -- those of an overlap are its own
    pub overlap_joins : (m n : ℕ) (d e : RuleEntry) (w : Waiting) → entries m ≡ Some d → entries n ≡ Some e → w.symbol ≡ d.symbol → IsSame w.left (overlap_first d.left d.right e.left)
        → IsSame w.right (overlap_second d.left e.left e.right) → Meets reps kept w → Joins (HasRule entries d.symbol) (overlap_first d.left d.right e.left) (overlap_second d.left e.left e.right)
    overlap_joins m n d e w f g s l r meets =
        let u = d.symbol in
        let a = overlap_first d.left d.right e.left in
        let b = overlap_second d.left e.left e.right in
        let c = meets.common in
        let first : By u w.left c = subst (λ (v : AcSymbol). By v w.left c) s (by_entries w.symbol w.left c meets.left) in
        let second : By u w.right c = subst (λ (v : AcSymbol). By v w.right c) s (by_entries w.symbol w.right c meets.right) in
        own_join (rep_in reps) (HasRule entries u) least.own (rule_own u) a b c (own_result (rep_in reps) d.right e.left (common d.left e.left) (right_own m d f) (left_own n e g))
        (own_result (rep_in reps) e.right d.left (common d.left e.left) (right_own n e g) (left_own m d f))
        (from_same (λ n r. rep_in reps n ≡ r) (HasRule entries u) (back l) first) (from_same (λ n r. rep_in reps n ≡ r) (HasRule entries u) (back r) second)

-- ---- rules of one symbol that share no name
pub apart_joined : (kept : ℕ → Option Kept) (m n : ℕ) → AreApart (kept m) (kept n) → AreJoined (λ k. entry_of (kept k)) m n
apart_joined kept m n a = record {
  each = λ d e f g s x p q.
      let i = entry_is (kept m) d f in
      let j = entry_is (kept n) e g in
      absurd
      (a i.0 j.0 i.1 j.1 (ap (λ (r : RuleEntry). r.symbol) i.2 ∙ s ∙ ap (λ (r : RuleEntry). r.symbol) (sym j.2)) x (subst (λ (r : RuleEntry). 0 < count x r.left) (sym i.2) p)
      (subst (λ (r : RuleEntry). 0 < count x r.left) (sym j.2) q));
}

-- two rules whose overlap comes down to one multiset
pub said_joined : (reps : List ℕ) (kept : ℕ → Option Kept) → AreComposed reps kept → AreLeast reps → (m n : ℕ) (w : Waiting) (sig : Signature) (ts : List Term) (old new : List Step)
    → IsOverlapSaid sig ts old new kept m n w → Meets reps kept w → AreJoined (λ k. entry_of (kept k)) m n
said_joined reps kept composed least m n w sig ts old new o meets = record {
  each = λ d e f g s x p q.
      let i = entry_is (kept m) d f in
      let j = entry_is (kept n) e g in
      let over = o.overlap in
      let first : over.first.entry ≡ d = ap (λ (k : Kept). k.entry) (same_Some over.first i.0 (sym over.first_there ∙ i.1)) ∙ i.2 in
      let second : over.second.entry ≡ e = ap (λ (k : Kept). k.entry) (same_Some over.second j.0 (sym over.second_there ∙ j.1)) ∙ j.2 in
      let symbol : w.symbol ≡ d.symbol = o.symbol ∙ over.deduced.symbol ∙ ap (λ (r : RuleEntry). r.symbol) first in
      let left : IsSame w.left (overlap_first d.left d.right e.left) =
      subst (λ (z : List ℕ × RuleEntry × RuleEntry). IsSame z.0 (overlap_first (z.1).left (z.1).right (z.2).left)) (λ k. (sym o.left k, first k, second k)) over.deduced.left in
      let right : IsSame w.right (overlap_second d.left e.left e.right) =
      subst (λ (z : List ℕ × RuleEntry × RuleEntry). IsSame z.0 (overlap_second (z.1).left (z.2).left (z.2).right)) (λ k. (sym o.right k, first k, second k)) over.deduced.right in
      overlap_joins reps kept composed least m n d e w f g symbol left right meets;
}
