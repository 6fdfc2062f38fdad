-- Rules of u: what two rules have to meet, and multisets that no rule reduces.
use Rattle.std.specs.Prelude.{ℕ, ◌≡◌, ◌≢◌, List, [], ◌∷◌, ◌++◌, ◌⊎◌, slice_get, Some}
use Rattle.std.proofs.Common.{inl, inr}
use mathlib.Core.Path.{refl, sym, ap, subst, ◌∙◌}
use native.Mathlib.Omega.{arith}
use Rattle.ae_multiset.specs.Multisets.{count, IsSame, IsPart}
use Rattle.ae_multiset.specs.Rewriting.{ReducesTo, Joins, IsReduced, overlap_first, overlap_second}
use Rattle.ae_multiset.specs.Rewriting.ReducesTo.{done, more}
use Rattle.ae_multiset.proofs.Counts.{count-append}
use Rattle.ae_journal.specs.Systems.{IsRule}
use Rattle.ae_journal.specs.declared.systems.System.{System}
use Rattle.ae_journal.specs.declared.systems.RuleEntry.{RuleEntry}
use Rattle.ae_system_checks.proofs.Entries.{of_one, of_two}
use Rattle.ae_decide.specs.Clauses.{RulesFit, AreReduced, AllOverlapsJoin}
use Rattle.ae_system_checks.specs.Examples.{pair, rule, signature}
use Rattle.ae_core.specs.declared.problems.Signature.{Signature}

-- ---- reduction
-- what no rule reduces reduces to itself alone
pub stays : (R : List ℕ → List ℕ → Type 0) (xs ys : List ℕ) → IsReduced R xs → ReducesTo R xs ys → IsSame xs ys
stays R xs ys fixed (done s) = s
stays R xs ys fixed (more {b = zs} s g) =
    absurd (fixed s.left s.right s.rule (record { each = λ z. omega (arith, s.before.each z, count-append z s.left s.rest) }))

-- one step
pub by_rule : (R : List ℕ → List ℕ → Type 0) (l r : List ℕ) → R l r → (rest xs ys : List ℕ) → xs ≡ l ++ rest → ys ≡ r ++ rest → ReducesTo R xs ys
by_rule R l r given rest xs ys d e =
    more {b = ys} (record {
      left = l;
      right = r;
      rule = given;
      rest = rest;
      before = record { each = λ z. ap (count z) d };
      after = record { each = λ z. ap (count z) e };
    }) (done (record { each = λ z. refl }))

-- ---- overlaps
moved : (R : List ℕ → List ℕ → Type 0) (k p n w l r m q : List ℕ) → k ≡ l → p ≡ r → n ≡ m → w ≡ q → R l r → R m q
    → (R k p → R n w → Joins R (overlap_first k p n) (overlap_second k n w)) → Joins R (overlap_first l r m) (overlap_second l m q)
moved R k p n w l r m q d e g h x z joined =
    subst (λ (v : List ℕ × List ℕ × List ℕ × List ℕ). R v.0 v.1 → R v.2 v.3 → Joins R (overlap_first v.0 v.1 v.2) (overlap_second v.0 v.2 v.3))
    (λ i. (d i, e i, g i, h i)) joined x z

alike : (v w y : List ℕ) → v ≡ w → v ≡ y → IsSame w y
alike v w y i j = record { each = λ q. ap (count q) (sym i ∙ j) }

-- the overlaps of two rules join where the two that they have with each other do
abbrev Is : List ℕ → List ℕ → RuleEntry → Type 0
Is v w entry = (v ≡ entry.left) × (w ≡ entry.right)

pub of_two_rules : (m n : ℕ) (k p l r : List ℕ)
    → ((R : List ℕ → List ℕ → Type 0) → R k p → R l r → Joins R (overlap_first k p l) (overlap_second k l r))
    → ((R : List ℕ → List ℕ → Type 0) → R l r → R k p → Joins R (overlap_first l r k) (overlap_second l k p))
    → AllOverlapsJoin signature (pair m n (rule k p ∷ rule l r ∷ []))
of_two_rules m n k p l r first second h ss c d e g x z different name s t = go (which x.0 _ x.1) (which z.0 _ z.1)
  where
    which : (j : ℕ) (entry : RuleEntry) → slice_get (rule k p ∷ rule l r ∷ []) j ≡ Some entry → Is k p entry ⊎ Is l r entry
    which = of_two (rule k p) (rule l r) (λ j entry. Is k p entry ⊎ Is l r entry) (inl (refl, refl)) (inr (refl, refl))

    go : ((k ≡ c) × (p ≡ d)) ⊎ ((l ≡ c) × (r ≡ d)) → ((k ≡ e) × (p ≡ g)) ⊎ ((l ≡ e) × (r ≡ g))
        → Joins (IsRule (pair m n (rule k p ∷ rule l r ∷ [])) h ss) (overlap_first c d e) (overlap_second c e g)
    go (inl i) (inl j) = absurd (different (alike k c e i.0 j.0) (alike p d g i.1 j.1))
    go (inl i) (inr j) =
        moved (IsRule (pair m n (rule k p ∷ rule l r ∷ [])) h ss) k p l r c d e g i.0 i.1 j.0 j.1 x z
        (first (IsRule (pair m n (rule k p ∷ rule l r ∷ [])) h ss))
    go (inr i) (inl j) =
        moved (IsRule (pair m n (rule k p ∷ rule l r ∷ [])) h ss) l r k p c d e g i.0 i.1 j.0 j.1 x z
        (second (IsRule (pair m n (rule k p ∷ rule l r ∷ [])) h ss))
    go (inr i) (inr j) = absurd (different (alike l c e i.0 j.0) (alike r d g i.1 j.1))

-- two rules of which neither reduces a side of the other, or its own right side
pub two_reduced : (m n : ℕ) (k p l r : List ℕ) → ¬ IsPart k l → ¬ IsPart l k → ¬ IsPart k p → ¬ IsPart k r → ¬ IsPart l p → ¬ IsPart l r
    → AreReduced signature (pair m n (rule k p ∷ rule l r ∷ []))
two_reduced m n k p l r kl lk kp kr lp lr = record {
  left_reduced = λ i j d e other x z same part. left i j d e other (which i d x) (which j e z) part;
  right_reduced = λ i j d e x z same part. right i j d e (which i d x) (which j e z) part;
}
  where
    which : (j : ℕ) (entry : RuleEntry) → slice_get (rule k p ∷ rule l r ∷ []) j ≡ Some entry
        → ((j ≡ 0) × (k ≡ entry.left) × (p ≡ entry.right)) ⊎ ((j ≡ 1) × (l ≡ entry.left) × (r ≡ entry.right))
    which =
        of_two (rule k p) (rule l r)
        (λ j entry. ((j ≡ 0) × (k ≡ entry.left) × (p ≡ entry.right)) ⊎ ((j ≡ 1) × (l ≡ entry.left) × (r ≡ entry.right)))
        (inl (refl, refl, refl)) (inr (refl, refl, refl))

    sides : (v w x z : List ℕ) → v ≡ x → w ≡ z → ¬ IsPart v w → IsPart x z → ⊥
    sides v w x z d e misfit part = misfit (subst (λ (q : List ℕ × List ℕ). IsPart q.0 q.1) (λ i. (sym d i, sym e i)) part)

    left : (i j : ℕ) (d e : RuleEntry) → i ≢ j → ((i ≡ 0) × (k ≡ d.left) × (p ≡ d.right)) ⊎ ((i ≡ 1) × (l ≡ d.left) × (r ≡ d.right))
        → ((j ≡ 0) × (k ≡ e.left) × (p ≡ e.right)) ⊎ ((j ≡ 1) × (l ≡ e.left) × (r ≡ e.right)) → IsPart d.left e.left → ⊥
    left i j d e other (inl x) (inl z) part = other (x.0 ∙ sym z.0)
    left i j d e other (inl x) (inr z) part = sides k l d.left e.left x.1 z.1 kl part
    left i j d e other (inr x) (inl z) part = sides l k d.left e.left x.1 z.1 lk part
    left i j d e other (inr x) (inr z) part = other (x.0 ∙ sym z.0)

    right : (i j : ℕ) (d e : RuleEntry) → ((i ≡ 0) × (k ≡ d.left) × (p ≡ d.right)) ⊎ ((i ≡ 1) × (l ≡ d.left) × (r ≡ d.right))
        → ((j ≡ 0) × (k ≡ e.left) × (p ≡ e.right)) ⊎ ((j ≡ 1) × (l ≡ e.left) × (r ≡ e.right)) → IsPart d.left e.right → ⊥
    right i j d e (inl x) (inl z) part = sides k p d.left e.right x.1 z.2 kp part
    right i j d e (inl x) (inr z) part = sides k r d.left e.right x.1 z.2 kr part
    right i j d e (inr x) (inl z) part = sides l p d.left e.right x.1 z.2 lp part
    right i j d e (inr x) (inr z) part = sides l r d.left e.right x.1 z.2 lr part

-- ---- without rules
module _ (sig : Signature) (y : System) (none : (k : ℕ) (e : RuleEntry) → slice_get y.rules k ≡ Some e → ⊥) where
  pub none_fit : RulesFit sig y
  none_fit k e i = absurd (none k e i)

  pub none_reduced : AreReduced sig y
  none_reduced = record { left_reduced = λ j k d e n p q s part. none j d p; right_reduced = λ j k d e p q s part. none j d p }

  pub none_overlap : AllOverlapsJoin sig y
  none_overlap h ss l r m q x z different name s t = absurd (none x.0 (record { symbol = record { head = h; sorts = ss }; left = l; right = r }) x.1)

-- ---- one rule
pub one_reduced : (m n : ℕ) (k p : List ℕ) → ¬ IsPart k p → AreReduced signature (pair m n (rule k p ∷ []))
one_reduced m n k p misfit = record {
  left_reduced = λ i j d e other x z same part. other (sym (at i d x) ∙ at j e z);
  right_reduced = λ i j d e x z same part. misfit (subst (λ (q : List ℕ × List ℕ). IsPart q.0 q.1) (λ t. (sym (left i d x) t, sym (right j e z) t)) part);
}
  where
    at : (i : ℕ) (d : RuleEntry) → slice_get (rule k p ∷ []) i ≡ Some d → 0 ≡ i
    at = of_one (rule k p) (λ i d. 0 ≡ i) refl

    left : (i : ℕ) (d : RuleEntry) → slice_get (rule k p ∷ []) i ≡ Some d → k ≡ d.left
    left = of_one (rule k p) (λ i d. k ≡ d.left) refl

    right : (i : ℕ) (d : RuleEntry) → slice_get (rule k p ∷ []) i ≡ Some d → p ≡ d.right
    right = of_one (rule k p) (λ i d. p ≡ d.right) refl

pub one_overlap : (m n : ℕ) (k p : List ℕ) → AllOverlapsJoin signature (pair m n (rule k p ∷ []))
one_overlap m n k p h ss l r c q x z different name s t =
    absurd (different (alike k l c (left x.0 _ x.1) (left z.0 _ z.1)) (alike p r q (right x.0 _ x.1) (right z.0 _ z.1)))
  where
    left : (i : ℕ) (d : RuleEntry) → slice_get (rule k p ∷ []) i ≡ Some d → k ≡ d.left
    left = of_one (rule k p) (λ i d. k ≡ d.left) refl

    right : (i : ℕ) (d : RuleEntry) → slice_get (rule k p ∷ []) i ≡ Some d → p ≡ d.right
    right = of_one (rule k p) (λ i d. p ≡ d.right) refl
