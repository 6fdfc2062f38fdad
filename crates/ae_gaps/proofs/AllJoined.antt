-- Where all rules that overlap join: two reduced multisets of one are one.
use Rattle.std.specs.Prelude.{ℕ, ◌<◌, ◌≤◌, ◌⊎◌, ◌≡◌, ◌≢◌, List, [], ◌∷◌, length, Option, Some}
use Rattle.std.proofs.Common.{refl, sym, ap, ◌∙◌, subst, arith, inl, inr}
use Rattle.std.proofs.lemmas.Bool.{cases_eq, cases_order}
use Rattle.std.proofs.lemmas.Option.{same_Some}
use native.Mathlib.Decide.{ℕ_discrete}
use Rattle.ae_core.specs.declared.problems.AcSymbol.{AcSymbol}
use Rattle.ae_journal.specs.declared.systems.RuleEntry.{RuleEntry}
use Rattle.ae_monoid.specs.Rules.{AreRules}
use Rattle.ae_monoid.specs.declared.rules.Kept.{Kept}
use Rattle.ae_multiset.specs.Multisets.{IsSame, IsPart, IsLess, minus, common}
use Rattle.ae_multiset.specs.Rewriting.{ReducesTo, Joins, IsReduced, Decreases, OverlapsJoin, overlap_first, overlap_second}
use Rattle.ae_multiset.specs.Rewriting.ReducesTo.{done, more}
use Rattle.ae_multiset.proofs.Counts.{count-append, count-minus, count-common, count_same, count_other, same, back}
use Rattle.ae_multiset.proofs.Confluence.{from_same, follows_then, confluent, only_answer}
use Rattle.ae_multiset.proofs.NormalForms.{linked_from}
use Rattle.ae_settled.specs.Held.{HasRule}
use Rattle.ae_core.specs.declared.problems.Signature.{Signature}
use Rattle.ae_store.specs.declared.nodes.Node.{Node}
use Rattle.ae_sweeps.specs.Given.{entry_of}
use Rattle.ae_sweeps.specs.Gaps.{IsOpen, IsUnflat}
use Rattle.ae_sweeps.proofs.Bridges.{entry_is}
use Rattle.ae_gaps.specs.Inner.Overlapping.{AreJoined}

-- ---- two rules, seen from the other one
turned_first : (l1 l2 r2 : List ℕ) → IsSame (overlap_first l2 r2 l1) (overlap_second l1 l2 r2)
turned_first l1 l2 r2 = record {
  each = λ x.
      omega (
        arith,
        count-append x r2 (minus l1 (common l2 l1)),
        count-append x r2 (minus l1 (common l1 l2)),
        count-minus x l1 (common l2 l1),
        count-minus x l1 (common l1 l2),
        count-common x l2 l1,
        count-common x l1 l2,
      );
}

swapped : (R : List ℕ → List ℕ → Type 0) (l1 r1 l2 r2 : List ℕ) → Joins R (overlap_first l2 r2 l1) (overlap_second l2 l1 r1) → Joins R (overlap_first l1 r1 l2) (overlap_second l1 l2 r2)
swapped R l1 r1 l2 r2 j = record { at = j.at; first = from_same R (turned_first l2 l1 r1) j.second; second = from_same R (back (turned_first l1 l2 r2)) j.first }

pub joined_turned : (rules : ℕ → Option RuleEntry) (m n : ℕ) → AreJoined rules n m → AreJoined rules m n
joined_turned rules m n j = record {
  each = λ d e f g s x a b.
      swapped (HasRule rules d.symbol) d.left d.right e.left e.right
      (subst (λ (u : AcSymbol). Joins (HasRule rules u) (overlap_first e.left e.right d.left) (overlap_second e.left d.left d.right)) (sym s) (j.each e d g f (sym s) x b a));
}

-- ---- all of them
module _ (rules : ℕ → Option RuleEntry) (next : ℕ) (below : (n : ℕ) (e : RuleEntry) → rules n ≡ Some e → n < next) (pairs : (m n : ℕ) → m < n → n < next → AreJoined rules m n) where
  pub all_join : (u : AcSymbol) → OverlapsJoin (HasRule rules u)
  all_join u l1 r1 l2 r2 i j apart x p q = by_order (ℕ_discrete i.number j.number)
    where
      entry : List ℕ → List ℕ → RuleEntry
      entry l r = record { symbol = u; left = l; right = r }

      by_less : (i.number ≡ j.number) ⊎ ((i.number < j.number) ⊎ (j.number < i.number)) → i.number ≢ j.number → Joins (HasRule rules u) (overlap_first l1 r1 l2) (overlap_second l1 l2 r2)
      by_less (inl e) d = absurd (d e)
      by_less (inr (inl l)) d = (pairs i.number j.number l (below j.number (entry l2 r2) j.there)).each (entry l1 r1) (entry l2 r2) i.there j.there refl x p q
      by_less (inr (inr l)) d = swapped (HasRule rules u) l1 r1 l2 r2 ((pairs j.number i.number l (below i.number (entry l1 r1) i.there)).each (entry l2 r2) (entry l1 r1) j.there i.there refl x q p)

      by_order : Dec (i.number ≡ j.number) → Joins (HasRule rules u) (overlap_first l1 r1 l2) (overlap_second l1 l2 r2)
      by_order (yes e) =
          let k : entry l1 r1 ≡ entry l2 r2 = same_Some (entry l1 r1) (entry l2 r2) (sym i.there ∙ ap rules e ∙ j.there) in
          absurd (apart (subst (λ (b : List ℕ). IsSame l1 b) (ap (λ (t : RuleEntry). t.left) k) (same l1)) (subst (λ (b : List ℕ). IsSame r1 b) (ap (λ (t : RuleEntry). t.right) k) (same r1)))
      by_order (no d) = by_less (cases_order i.number j.number) d

-- ---- reduced multisets of two that join
module _ (R : List ℕ → List ℕ → Type 0) (overlaps : OverlapsJoin R) (decreases : Decreases R) where
  stays : {a b : List ℕ} → IsReduced R a → ReducesTo R a b → IsSame a b
  stays r (done p) = p
  stays {a} r (more s f) = absurd (r s.left s.right s.rule (record { each = λ x. omega (arith, s.before.each x, count-append x s.left s.rest) }))

  pub one_end : (x y a b : List ℕ) → ReducesTo R x a → IsReduced R a → ReducesTo R y b → IsReduced R b → Joins R x y → IsSame a b
  one_end x y a b f ra g rb j =
      let k : Joins R a j.at = confluent R overlaps decreases f j.first in
      let h : ReducesTo R y a = follows_then R j.second (follows_then R k.second (done (back (stays ra k.first)))) in
      back (only_answer R overlaps decreases y b a h ra rb (linked_from R g))

-- ---- kept rules
module _ (kept : ℕ → Option Kept) (next : ℕ) (are : AreRules kept next) where
  abbrev entries : ℕ → Option RuleEntry
  entries n = entry_of (kept n)

  pub entries_below : (n : ℕ) (e : RuleEntry) → entries n ≡ Some e → n < next
  entries_below n e t = let k = entry_is (kept n) e t in are.below n k.0 k.1

  pub entries_fall : (u : AcSymbol) → Decreases (HasRule entries u)
  entries_fall u l r h =
      let e : RuleEntry = record { symbol = u; left = l; right = r } in
      let k = entry_is (kept h.number) e h.there in
      let w = are.well h.number k.0 k.1 in
      subst (λ (z : RuleEntry). IsLess z.right z.left) k.2 w.falls

  -- no left side is a part of one name alone
  single_part : (l : List ℕ) (x : ℕ) → 2 ≤ length l → IsPart l (x ∷ []) → ⊥
  single_part [] x two p = omega (arith, two)
  single_part (y ∷ []) x two p = omega (arith, two)
  single_part (y ∷ z ∷ l) x two p =
      elim (cases_eq y x) as (λ _. ⊥) [
        | inr d ↦ omega (arith, p.each y, count_same y (z ∷ l), count_other y x [] d)
        | inl e ↦ elim (cases_eq z x) as (λ _. ⊥) [
          | inr d ↦ omega (arith, p.each z, count-append z (y ∷ []) (z ∷ l), count_same z l, count_other z x [] d)
          | inl f ↦
              let q : IsPart (x ∷ x ∷ l) (x ∷ []) = subst (λ (s : ℕ × ℕ). IsPart (s.0 ∷ s.1 ∷ l) (x ∷ [])) (λ i. (e i, f i)) p in
              omega (arith, q.each x, count_same x (x ∷ l), count_same x l, count_same x [])
        ]
      ]

  pub single_reduced : (u : AcSymbol) (x : ℕ) → IsReduced (HasRule entries u) (x ∷ [])
  single_reduced u x l r h p =
      let e : RuleEntry = record { symbol = u; left = l; right = r } in
      let k = entry_is (kept h.number) e h.there in
      let w = are.well h.number k.0 k.1 in
      single_part l x (subst (λ (z : RuleEntry). 2 ≤ length z.left) k.2 w.two) p

  -- ---- what a sweep found isn't there
  module _ (pairs : (m n : ℕ) → m < n → n < next → AreJoined entries m n) where
    pub none_open : (m n : ℕ) (a b : List ℕ) → IsOpen entries m n a b → ⊥
    none_open m n a b o =
        let u = o.first.symbol in
        let l = o.first.left in
        let k = o.second.left in
        let j : Joins (HasRule entries u) (overlap_first l o.first.right k) (overlap_second l k o.second.right) =
        (pairs m n o.pair.before (entries_below n o.second o.pair.second)).each o.first o.second o.pair.first o.pair.second o.pair.symbols o.shared o.in_first o.in_second in
        o.differ
        (one_end (HasRule entries u) (all_join entries next entries_below pairs u) (entries_fall u) (overlap_first l o.first.right k) (overlap_second l k o.second.right) a b o.left.follows o.left.reduced o.right.follows o.right.reduced j)

    pub none_unflat : (sig : Signature) (nodes : List Node) (rep : ℕ → ℕ) (n : ℕ) (a : List ℕ) (o : IsUnflat sig nodes rep entries n a)
        → Joins (HasRule entries o.symbol) (rep o.left ∷ rep o.right ∷ []) (rep n ∷ []) → ⊥
    none_unflat sig nodes rep n a o j =
        let u = o.symbol in
        o.differ
        (one_end (HasRule entries u) (all_join entries next entries_below pairs u) (entries_fall u) (rep o.left ∷ rep o.right ∷ []) (rep n ∷ []) a (rep n ∷ []) o.ends.follows o.ends.reduced (done (same (rep n ∷ []))) (single_reduced u (rep n)) j)
