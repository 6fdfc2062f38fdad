-- Confluence: rules that decrease and whose overlaps join lead every multiset to one reduced multiset.
use Rattle.std.proofs.Common.{◌≡◌, ℕ, ◌+◌, ◌-◌, ◌<◌, min, List, [], ◌∷◌, ◌++◌, ◌⊎◌, inl, inr, sym, arith}
use mathlib.Core.WellFounded.{Acc}
use mathlib.Core.WellFounded.Acc.Acc.{intro}
use Rattle.ae_multiset.specs.Multisets.{count, IsSame, IsLess, minus, common}
use Rattle.ae_multiset.specs.Rewriting.{Step, ReducesTo, IsLinked, Joins, IsReduced, Decreases, OverlapsJoin, overlap_first, overlap_second}
use Rattle.ae_multiset.specs.Rewriting.ReducesTo.{done, more}
use Rattle.ae_multiset.specs.Rewriting.IsLinked.{alike, down, up}
use Rattle.ae_multiset.proofs.Counts.{count_same, count-append, count-minus, count-common, same, back, then, less_same, less-append}
use Rattle.ae_multiset.proofs.Comparing.{same_or_not}
use Rattle.ae_multiset.proofs.Descent.{less_ends}

module _ (R : List ℕ → List ℕ → Type 0) where
  pub from_same : {a b c : List ℕ} → IsSame a b → ReducesTo R b c → ReducesTo R a c
  from_same p (done q) = done (then p q)
  from_same p (more s f) = more (record { left = s.left; right = s.right; rule = s.rule; rest = s.rest; before = then p s.before; after = s.after }) f

  pub follows_then : {a b c : List ℕ} → ReducesTo R a b → ReducesTo R b c → ReducesTo R a c
  follows_then (done p) g = from_same p g
  follows_then (more s f) g = more s (follows_then f g)

  -- the same in a larger multiset
  wider_step : (c : List ℕ) {a b : List ℕ} → Step R a b → Step R (a ++ c) (b ++ c)
  wider_step c {a} {b} s = record {
    left = s.left;
    right = s.right;
    rule = s.rule;
    rest = s.rest ++ c;
    before = record { each = λ x. omega (arith, s.before.each x, count-append x a c, count-append x s.left s.rest, count-append x s.left (s.rest ++ c), count-append x s.rest c) };
    after = record { each = λ x. omega (arith, s.after.each x, count-append x b c, count-append x s.right s.rest, count-append x s.right (s.rest ++ c), count-append x s.rest c) };
  }

  wider_same : (c : List ℕ) {a b : List ℕ} → IsSame a b → IsSame (a ++ c) (b ++ c)
  wider_same c {a} {b} p = record { each = λ x. omega (arith, p.each x, count-append x a c, count-append x b c) }

  pub wider : (c : List ℕ) {a b : List ℕ} → ReducesTo R a b → ReducesTo R (a ++ c) (b ++ c)
  wider c (done p) = done (wider_same c p)
  wider c (more s f) = more (wider_step c s) (wider c f)

  -- a step leads down
  pub step-less : Decreases R → {a b : List ℕ} → Step R a b → IsLess b a
  step-less d s = less_same (back s.after) (back s.before) (less-append s.rest (d s.left s.right s.rule))

  -- two multisets have a name in common, or none
  share : (l1 l2 : List ℕ) → ((x : ℕ) × (0 < count x l1) × (0 < count x l2)) ⊎ ((x : ℕ) → min (count x l1) (count x l2) ≡ 0)
  share l1 l2 = by_common (common l1 l2) (λ x. count-common x l1 l2)
    where
      by_common : (g : List ℕ) → ((x : ℕ) → count x g ≡ min (count x l1) (count x l2)) → ((x : ℕ) × (0 < count x l1) × (0 < count x l2)) ⊎ ((x : ℕ) → min (count x l1) (count x l2) ≡ 0)
      by_common [] e = inr (λ x. sym (e x))
      by_common (y ∷ ys) e = inl (y, omega (arith, e y, count_same y ys), omega (arith, e y, count_same y ys))

  -- one rule twice: both results are its right side
  pub with_itself : (l1 r1 l2 r2 : List ℕ) → IsSame l1 l2 → IsSame r1 r2 → Joins R (overlap_first l1 r1 l2) (overlap_second l1 l2 r2)
  with_itself l1 r1 l2 r2 p q = record {
    at = overlap_second l1 l2 r2;
    first = done (record {
      each = λ x.
          omega (
            arith,
            p.each x,
            q.each x,
            count-append x r1 (minus l2 (common l1 l2)),
            count-append x r2 (minus l1 (common l1 l2)),
            count-minus x l2 (common l1 l2),
            count-minus x l1 (common l1 l2),
            count-common x l1 l2,
          );
    });
    second = done (same _);
  }

  -- Two steps from one multiset, by rules whose left sides overlap or not.
  -- `more_of l1 l2` is what the second left side has beyond the first.
  module _ (overlaps : OverlapsJoin R) where
    -- what both steps leave alone
    left_alone : {a b c : List ℕ} → Step R a b → Step R a c → List ℕ
    left_alone s t = minus s.rest (minus t.left (common s.left t.left))

    -- the first result is that of the overlap, beside what is left alone
    first_is : {a b c : List ℕ} (s : Step R a b) (t : Step R a c) → IsSame b (overlap_first s.left s.right t.left ++ left_alone s t)
    unfolding left_alone
    first_is {a} {b} {c} s t = record {
      each = λ x.
          let p : count x a ≡ count x s.left + count x s.rest = omega (arith, s.before.each x, count-append x s.left s.rest) in
          let q : count x a ≡ count x t.left + count x t.rest = omega (arith, t.before.each x, count-append x t.left t.rest) in
          let m : count x (minus t.left (common s.left t.left)) ≡ count x t.left - count x s.left = omega (arith, count-minus x t.left (common s.left t.left), count-common x s.left t.left) in
          let n : count x (minus s.rest (minus t.left (common s.left t.left))) ≡ count x s.rest - (count x t.left - count x s.left) = omega (arith, count-minus x s.rest (minus t.left (common s.left t.left)), m) in
          omega (
            arith,
            s.after.each x,
            count-append x s.right s.rest,
            count-append x (overlap_first s.left s.right t.left) (minus s.rest (minus t.left (common s.left t.left))),
            count-append x s.right (minus t.left (common s.left t.left)),
            m,
            n,
            p,
            q,
          );
    }

    second_is : {a b c : List ℕ} (s : Step R a b) (t : Step R a c) → IsSame c (overlap_second s.left t.left t.right ++ left_alone s t)
    unfolding left_alone
    second_is {a} {b} {c} s t = record {
      each = λ x.
          let p : count x a ≡ count x s.left + count x s.rest = omega (arith, s.before.each x, count-append x s.left s.rest) in
          let q : count x a ≡ count x t.left + count x t.rest = omega (arith, t.before.each x, count-append x t.left t.rest) in
          let m : count x (minus t.left (common s.left t.left)) ≡ count x t.left - count x s.left = omega (arith, count-minus x t.left (common s.left t.left), count-common x s.left t.left) in
          let k : count x (minus s.left (common s.left t.left)) ≡ count x s.left - count x t.left = omega (arith, count-minus x s.left (common s.left t.left), count-common x s.left t.left) in
          let n : count x (minus s.rest (minus t.left (common s.left t.left))) ≡ count x s.rest - (count x t.left - count x s.left) = omega (arith, count-minus x s.rest (minus t.left (common s.left t.left)), m) in
          omega (
            arith,
            t.after.each x,
            count-append x t.right t.rest,
            count-append x (overlap_second s.left t.left t.right) (minus s.rest (minus t.left (common s.left t.left))),
            count-append x t.right (minus s.left (common s.left t.left)),
            k,
            n,
            p,
            q,
          );
    }

    -- left sides that share nothing: each rule can follow the other
    apart : {a b c : List ℕ} (s : Step R a b) (t : Step R a c) → ((x : ℕ) → min (count x s.left) (count x t.left) ≡ 0)
        → Joins R (overlap_first s.left s.right t.left) (overlap_second s.left t.left t.right)
    apart s t none = record {
      at = s.right ++ t.right;
      first = more (record {
        left = t.left;
        right = t.right;
        rule = t.rule;
        rest = s.right;
        before = record { each = λ x. omega (arith, none x, count-append x s.right (minus t.left (common s.left t.left)), count-append x t.left s.right, count-minus x t.left (common s.left t.left), count-common x s.left t.left) };
        after = record { each = λ x. omega (arith, count-append x s.right t.right, count-append x t.right s.right) };
      }) (done (same _));
      second = more (record {
        left = s.left;
        right = s.right;
        rule = s.rule;
        rest = t.right;
        before = record { each = λ x. omega (arith, none x, count-append x t.right (minus s.left (common s.left t.left)), count-append x s.left t.right, count-minus x s.left (common s.left t.left), count-common x s.left t.left) };
        after = same _;
      }) (done (same _));
    }

    -- left sides that share a name: one rule, or two different ones
    sharing : {a b c : List ℕ} (s : Step R a b) (t : Step R a c) (x : ℕ) → 0 < count x s.left → 0 < count x t.left
        → Joins R (overlap_first s.left s.right t.left) (overlap_second s.left t.left t.right)
    sharing s t x f g = elim (same_or_not s.left t.left) as (λ _. Joins R (overlap_first s.left s.right t.left) (overlap_second s.left t.left t.right)) [
      | inl p ↦ elim (same_or_not s.right t.right) as (λ _. Joins R (overlap_first s.left s.right t.left) (overlap_second s.left t.left t.right)) [
        | inl q ↦ with_itself s.left s.right t.left t.right p q
        | inr d ↦ overlaps s.left s.right t.left t.right s.rule t.rule (λ _ q. d q) x f g
      ]
      | inr d ↦ overlaps s.left s.right t.left t.right s.rule t.rule (λ p _. d p) x f g
    ]

    pub local : {a b c : List ℕ} → Step R a b → Step R a c → Joins R b c
    local {a} {b} {c} s t =
        let j : Joins R (overlap_first s.left s.right t.left) (overlap_second s.left t.left t.right) =
        elim (share s.left t.left) as (λ _. Joins R (overlap_first s.left s.right t.left) (overlap_second s.left t.left t.right)) [
          | inl h ↦ sharing s t h.0 h.1 h.2
          | inr h ↦ apart s t h
        ] in
        record {
          at = j.at ++ left_alone s t;
          first = from_same (first_is s t) (wider (left_alone s t) j.first);
          second = from_same (second_is s t) (wider (left_alone s t) j.second);
        }

    module _ (decreases : Decreases R) where
      confluent_from : {a b c : List ℕ} → Acc IsLess a → ReducesTo R a b → ReducesTo R a c → Joins R b c
      confluent_from {a} {b} {c} e (done p) g = record { at = c; first = from_same (back p) g; second = done (same c) }
      confluent_from {a} {b} {c} e (more s f) (done q) = record { at = b; first = done (same b); second = from_same (back q) (more s f) }
      confluent_from {a} {b} {c} (intro _ h) (more {b = m} s f) (more {b = n} t g) =
          let j : Joins R m n = local s t in
          let k : Joins R b j.at = confluent_from (h m (step-less decreases s)) f j.first in
          let l : Joins R c k.at = confluent_from (h n (step-less decreases t)) g (follows_then j.second k.second) in
          record { at = l.at; first = follows_then k.first l.second; second = l.first }

      -- what one multiset reduces to, in two ways, joins
      pub confluent : {a b c : List ℕ} → ReducesTo R a b → ReducesTo R a c → Joins R b c
      confluent {a} f g = confluent_from (less_ends a) f g

      -- linked multisets join
      pub linked_join : {a b : List ℕ} → IsLinked R a b → Joins R a b
      linked_join {a} {b} (alike p) = record { at = b; first = done p; second = done (same b) }
      linked_join (down s r) = let j = linked_join r in record { at = j.at; first = more s j.first; second = j.second }
      linked_join {a} {b} (up {b = m} s r) =
          let j : Joins R m b = linked_join r in
          let k : Joins R a j.at = confluent (more s (done (same a))) j.first in
          record { at = k.at; first = k.first; second = follows_then j.second k.second }

      stays : {a b : List ℕ} → IsReduced R a → ReducesTo R a b → IsSame a b
      stays r (done p) = p
      stays {a} r (more s f) = absurd (r s.left s.right s.rule (record { each = λ x. omega (arith, s.before.each x, count-append x s.left s.rest) }))

      -- two reduced multisets that are linked are one
      pub unique : (a b : List ℕ) → IsReduced R a → IsReduced R b → IsLinked R a b → IsSame a b
      unique a b ra rb l = let j = linked_join l in then (stays ra j.first) (back (stays rb j.second))

      -- a reduced multiset that is linked to one is what follows from it and is reduced
      pub only_answer : (a b v : List ℕ) → ReducesTo R a v → IsReduced R v → IsReduced R b → IsLinked R a b → IsSame b v
      only_answer a b v f rv rb l =
          let j : Joins R a b = linked_join l in
          let k : Joins R v j.at = confluent f j.first in
          then (stays rb (follows_then j.second k.second)) (back (stays rv k.first))
