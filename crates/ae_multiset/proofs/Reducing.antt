-- Reducing: one turn, and the normal form by a list of rules.
use Rattle.std.proofs.Common.{◌≡◌, ℕ, zero, suc, ◌+◌, ◌<◌, ◌≤◌, List, [], ◌∷◌, ◌++◌, length, ◌⊎◌, inl, inr, refl, sym, ◌∙◌, ap, subst, arith, get_or, Option, Some, None}
use mathlib.Core.WellFounded.{Acc}
use mathlib.Core.WellFounded.Acc.Acc.{intro}
use Rattle.std.specs.List.{All}
use Rattle.ae_multiset.specs.Multisets.{count, IsSame, IsPart, IsLess, minus}
use Rattle.ae_multiset.specs.Ranks.{rank}
use Rattle.ae_multiset.specs.Rewriting.{Step, ReducesTo, IsReduced, Fits, HasReduced, Decreases, IsNormalForm}
use Rattle.ae_multiset.specs.Rewriting.ReducesTo.{done, more}
use Rattle.ae_multiset.specs.Normal.{IsRule, stepped, reduced_within, top, tops, normal_form}
use Rattle.ae_multiset.proofs.Counts.{count_same, count-append, count-minus, count-above, same, back, then}
use Rattle.ae_multiset.proofs.Rising.{count-rising, rising_rises}
use Rattle.ae_multiset.proofs.Comparing.{less_then}
use Rattle.ae_multiset.proofs.Descent.{less_ends}
use Rattle.ae_multiset.proofs.Ranks.{rank_falls, none_above}
use Rattle.ae_multiset.proofs.Confluence.{follows_then, step-less}

module _ (R : List ℕ → List ℕ → Type 0) where
  -- a turn of a loop that reduces: the left side is taken out, and the right side put in
  pub turn : (l r a rest b : List ℕ) → R l r → IsPart l a → IsSame rest (minus a l) → IsSame b (r ++ rest) → Step R a b
  turn l r a rest b rule p s t = record {
    left = l;
    right = r;
    rule = rule;
    rest = rest;
    before = record { each = λ x. omega (arith, p.each x, count-append x l rest, count-minus x a l, s.each x) };
    after = t;
  }

  -- its measure: the rank for the size at the start and a bound of all names
  pub turn_falls : Decreases R → (size names : ℕ) (a b : List ℕ) → length a ≤ size → All (λ x. x < names) a → All (λ x. x < names) b → Step R a b
      → rank size names b < rank size names a
  turn_falls d size names a b s p q t = rank_falls size names b a s (none_above names b q) (none_above names a p) (step-less R d t)

  -- a rule whose left side is a part makes a step
  step_of : (l r a : List ℕ) → R l r → IsPart l a → Step R a (r ++ minus a l)
  step_of l r a rule p = turn l r a (minus a l) (r ++ minus a l) rule p (same (minus a l)) (same (r ++ minus a l))

  -- no step makes a multiset larger
  pub step_size : Decreases R → {a b : List ℕ} → Step R a b → length b ≤ length a
  step_size d {a} {b} s = elim (step-less R d s) as (λ _. length b ≤ length a) [ inl h ↦ omega arith | inr h ↦ omega (arith, h.0) ]

  -- what it reduces to is the same multiset or a smaller one
  pub follows-less : Decreases R → {a b : List ℕ} → ReducesTo R a b → IsSame a b ⊎ IsLess b a
  follows-less d {a} {b} (done p) = inl p
  follows-less d {a} {b} (more {b = m} s f) = elim (follows-less d f) as (λ _. IsSame a b ⊎ IsLess b a) [
    | inl p ↦ inr (step-less R d (record { left = s.left; right = s.right; rule = s.rule; rest = s.rest; before = s.before; after = then (back p) s.after }))
    | inr l ↦ inr (less_then l (step-less R d s))
  ]

-- where it can be told whether a rule fits, each multiset has a reduced one
module _ (R : List ℕ → List ℕ → Type 0) (decreases : Decreases R) (fits : (a : List ℕ) → Fits R a ⊎ IsReduced R a) where
  descends : (a : List ℕ) → Acc IsLess a → HasReduced R a
  descends a (intro _ h) = elim (fits a) as (λ _. HasReduced R a) [
    | inl f ↦
        let s : Step R a (f.right ++ minus a f.left) = step_of R f.left f.right a f.rule f.part in
        let n = descends (f.right ++ minus a f.left) (h (f.right ++ minus a f.left) (step-less R decreases s)) in
        record { names = n.names; follows = more s n.follows; reduced = n.reduced }
    | inr r ↦ record { names = a; follows = done (same a); reduced = r }
  ]

  pub has_reduced : (a : List ℕ) → HasReduced R a
  has_reduced a = descends a (less_ends a)

-- ---- one step by a list of rules
rules_later : (e : List ℕ × List ℕ) (es : List (List ℕ × List ℕ)) (l r : List ℕ) → IsRule es l r → IsRule (e ∷ es) l r
rules_later e es l r h = (suc h.0, omega (arith, h.1), h.2)

pub rules_split : (e : List ℕ × List ℕ) (es : List (List ℕ × List ℕ)) (l r : List ℕ) → IsRule (e ∷ es) l r → (e ≡ (l, r)) ⊎ IsRule es l r
rules_split e es l r h = by_place h.0 h.1 h.2
  where
    by_place : (k : ℕ) → k < length (e ∷ es) → get_or (e ∷ es) k (l, r) ≡ (l, r) → (e ≡ (l, r)) ⊎ IsRule es l r
    by_place zero m q = inl q
    by_place (suc k) m q = inr (k, omega arith, q)

part_by_minus : (l a : List ℕ) → minus l a ≡ [] → IsPart l a
part_by_minus l a e = record { each = λ x. omega (arith, count-minus x l a, ap (count x) e) }

not_part : (l a : List ℕ) (x : ℕ) (xs : List ℕ) → minus l a ≡ x ∷ xs → IsPart l a → ⊥
not_part l a x xs e p = omega (arith, p.each x, count-minus x l a, ap (count x) e, count_same x xs)

-- the step of the first rule that fits
record Stepped (rules : List (List ℕ × List ℕ)) (a b : List ℕ) : Type 0 where
  left : List ℕ
  right : List ℕ
  rule : IsRule rules left right
  part : IsPart left a
  is : b ≡ right ++ minus a left

abbrev Outcome : List (List ℕ × List ℕ) → List ℕ → Option (List ℕ) → Type 0
Outcome rules a None = IsReduced (IsRule rules) a
Outcome rules a (Some b) = Stepped rules a b

abbrev later : (e : List ℕ × List ℕ) (es : List (List ℕ × List ℕ)) (a : List ℕ) → (IsPart e.0 a → ⊥) → (o : Option (List ℕ)) → Outcome es a o → Outcome (e ∷ es) a o
later e es a misfit None h = λ l r rule p. elim (rules_split e es l r rule) as (λ _. ⊥) [ inl q ↦ misfit (subst (λ (w : List ℕ × List ℕ). IsPart w.0 a) (sym q) p) | inr k ↦ h l r k p ]
later e es a misfit (Some b) h = record { left = h.left; right = h.right; rule = rules_later e es h.left h.right h.rule; part = h.part; is = h.is }

outcome : (rules : List (List ℕ × List ℕ)) (a : List ℕ) → Outcome rules a (stepped rules a)
unfolding stepped
outcome [] a = λ l r rule p. omega (arith, rule.1)
outcome (e ∷ es) a = by_rest (outcome es a) (minus e.0 a) refl
  where
    by_rest : Outcome es a (stepped es a) → (m : List ℕ) → minus e.0 a ≡ m → Outcome (e ∷ es) a (elim m [ [] ↦ Some (e.1 ++ minus a e.0) | x ∷ xs ↦ stepped es a ])
    by_rest ih [] q = record { left = e.0; right = e.1; rule = (zero, omega arith, refl); part = part_by_minus e.0 a q; is = refl }
    by_rest ih (x ∷ xs) q = later e es a (not_part e.0 a x xs q) (stepped es a) ih

-- no right side has a name from `tops` on
tops-above : (rules : List (List ℕ × List ℕ)) (l r : List ℕ) (x : ℕ) → IsRule rules l r → tops rules ≤ x → count x r ≡ 0
unfolding tops
tops-above [] l r x h t = absurd (omega (arith, h.1))
tops-above (e ∷ es) l r x h t = elim (rules_split e es l r h) as (λ _. count x r ≡ 0) [
  | inl q ↦ subst (λ (w : List ℕ × List ℕ). count x w.1 ≡ 0) q (count-above e.1 x (omega arith))
  | inr later ↦ tops-above es l r x later (omega arith)
]

-- ---- the normal form
module _ (rules : List (List ℕ × List ℕ)) (decreases : Decreases (IsRule rules)) where
  record Reduced (a b : List ℕ) : Type 0 where
    follows : ReducesTo (IsRule rules) a b
    reduced : IsReduced (IsRule rules) b

  taken : {a b : List ℕ} → Stepped rules a b → Step (IsRule rules) a b
  taken {a} {b} h = subst (λ (w : List ℕ). Step (IsRule rules) a w) (sym h.is) (step_of (IsRule rules) h.left h.right a h.rule h.part)

  no_new_names : {a b : List ℕ} (x : ℕ) → Stepped rules a b → tops rules ≤ x → count x a ≡ 0 → count x b ≡ 0
  no_new_names {a} {b} x h t z =
      ap (count x) h.is ∙ omega (arith, count-append x h.right (minus a h.left), count-minus x a h.left, tops-above rules h.left h.right x h.rule t)

  lower_rank : (size names : ℕ) {a b : List ℕ} → length a ≤ size → tops rules ≤ names → ((x : ℕ) → names ≤ x → count x a ≡ 0) → Stepped rules a b → rank size names b < rank size names a
  lower_rank size names {a} {b} s t z h = rank_falls size names b a s (λ x m. no_new_names x h (omega arith) (z x m)) z (step-less (IsRule rules) decreases (taken h))

  -- as many steps as the rank are enough
  within : (size names n : ℕ) (a : List ℕ) → length a ≤ size → tops rules ≤ names → ((x : ℕ) → names ≤ x → count x a ≡ 0) → rank size names a ≤ n
      → Reduced a (reduced_within n rules a)
  unfolding reduced_within
  within size names zero a s t z h = by_outcome (stepped rules a) (outcome rules a)
    where
      by_outcome : (o : Option (List ℕ)) → Outcome rules a o → Reduced a a
      by_outcome None r = record { follows = done (same a); reduced = r }
      by_outcome (Some b) w = absurd (omega (arith, lower_rank size names s t z w))
  within size names (suc n) a s t z h = by_outcome (λ b l z. within size names n b l t z) (stepped rules a) (outcome rules a)
    where
      by_outcome : ((b : List ℕ) → length b ≤ size → ((x : ℕ) → names ≤ x → count x b ≡ 0) → rank size names b ≤ n → Reduced b (reduced_within n rules b))
          → (o : Option (List ℕ)) → Outcome rules a o → Reduced a (elim o [ None ↦ a | Some b ↦ reduced_within n rules b ])
      by_outcome ih None r = record { follows = done (same a); reduced = r }
      by_outcome ih (Some b) w =
          let r : Reduced b (reduced_within n rules b) =
          ih b (omega (arith, step_size (IsRule rules) decreases (taken w))) (λ x m. no_new_names x w (omega arith) (z x m)) (omega (arith, lower_rank size names s t z w)) in
          record { follows = more (taken w) r.follows; reduced = r.reduced }

  made : (a : List ℕ) → Reduced a (reduced_within (rank (length a) (top a + tops rules) a) rules a)
  made a = within (length a) (top a + tops rules) (rank (length a) (top a + tops rules) a) a (omega arith) (omega arith) (λ x m. count-above a x (omega arith)) (omega arith)

  pub is_normal_form : IsNormalForm (IsRule rules) (normal_form rules)
  unfolding normal_form
  is_normal_form = record {
    follows = λ a. let r = made a in follows_then (IsRule rules) r.follows (done (record { each = λ x. sym (count-rising x (reduced_within (rank (length a) (top a + tops rules) a) rules a)) }));
    reduced = λ a l r rule p.
        let m = made a in
        m.reduced l r rule (record { each = λ x. omega (arith, p.each x, count-rising x (reduced_within (rank (length a) (top a + tops rules) a) rules a)) });
    rises = λ a. rising_rises (reduced_within (rank (length a) (top a + tops rules) a) rules a);
  }
