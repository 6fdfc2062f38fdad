-- Whether the order of two numbers is left open.
use Rattle.std.specs.Prelude.{ℕ, ◌+◌, ◌<◌, ◌≡◌, Bool, true, false, List, length, Option, Some, None, MatchBool, MatchOption}
use Rattle.std.proofs.Common.{arith, sym, ap, ◌∙◌, subst, inl, inr}
use Rattle.std.proofs.lemmas.Bool.{cases_eq}
use Rattle.std.proofs.lemmas.Option.{none-some, same_Some}
use Rattle.ae_core.specs.declared.formulas.Formula.{Eq, Lt}
use Rattle.ae_core.specs.declared.formulas.Formula.TheVariants.{outs-Eq}
use Rattle.ae_core.specs.declared.formulas.Lit.{Lit}
use Rattle.ae_core.specs.declared.terms.Term.{Term}
use Rattle.ae_explain.specs.Trail.{at, IsFalse}
use Rattle.ae_explain.specs.declared.trail.Assigned.{Assigned}
use Rattle.ae_filled_trails.specs.Ordered.{AreOrdered}
use Rattle.ae_propagation.specs.Settled.{Holds}
use Rattle.ae_rules.specs.Clauses.{is_false, is_true}
use Rattle.ae_unordered.specs.Denied.{denied_equation, equation_by}
use Rattle.ae_unordered.specs.Inner.Sides.{BothSaid, IsLeftOpen, IsSaid}
use Rattle.ae_unordered.specs.Unordered.{IsOpenPair}
use Rattle.ae_unordered.specs.declared.pairs.Pair.{Pair}

-- ---- one direction
pub said : (t : List Assigned) (other : Lit) (s u : Term) → other ≡ is_true (Lt u s) → Holds t other → IsSaid t s u
said t other s u e h = λ d. subst (Holds t) e h

pub left_open : (t : List Assigned) (one : Lit) (s u : Term) (b : Bool) → one ≡ is_true (Lt s u) → MatchBool b (IsFalse t one) (¬ IsFalse t one) → MatchBool b (IsLeftOpen t s u) (IsSaid t s u)
left_open t one s u true e h = subst (IsFalse t) e h
left_open t one s u false e h = λ d. absurd (h (subst (IsFalse t) (sym e) d))

-- ---- both
pub turned_open : (t : List Assigned) (s u : Term) (b : Bool) (pair : Pair) → b ≡ true → MatchBool b (IsLeftOpen t s u) (IsSaid t s u) → (pair.left ≡ u) × (pair.right ≡ s) → IsOpenPair t pair
turned_open t s u b pair e h are =
    subst (λ (z : Term × Term). Holds t (is_false (Lt z.1 z.0))) (λ i. (sym are.0 i, sym are.1 i)) (subst (λ (z : Bool). MatchBool z (IsLeftOpen t s u) (IsSaid t s u)) e h)

pub both_said : (t : List Assigned) (s u : Term) (a b : Bool) → a ≡ false → b ≡ false → MatchBool a (IsLeftOpen t s u) (IsSaid t s u) → MatchBool b (IsLeftOpen t u s) (IsSaid t u s) → BothSaid t s u
both_said t s u a b e f g h = (
  subst (λ (z : Bool). MatchBool z (IsLeftOpen t s u) (IsSaid t s u)) e g,
  subst (λ (z : Bool). MatchBool z (IsLeftOpen t u s) (IsSaid t u s)) f h,
)

-- ---- literals that deny equations
pub denies : (l : Lit) (s u : Term) → l ≡ is_false (Eq s u) → denied_equation l ≡ Some (s, u)
denies l s u e = ap denied_equation e ∙ ap equation_by (outs-Eq s u)

pub pair_found : (t : List Assigned) (l : Lit) (s u : Term) (found : Option Pair) → denied_equation l ≡ Some (s, u) → MatchOption found (BothSaid t s u) (IsOpenPair t)
    → MatchOption found ((v w : Term) → l ≡ is_false (Eq v w) → BothSaid t v w) (IsOpenPair t)
pair_found t l s u (Some pair) e h = h
pair_found t l s u None e h = λ v w k. subst (λ (z : Term × Term). BothSaid t z.0 z.1) (same_Some (s, u) (v, w) (sym e ∙ denies l v w k)) h

pub none_at : (t : List Assigned) (l : Lit) → denied_equation l ≡ None → (v w : Term) → l ≡ is_false (Eq v w) → BothSaid t v w
none_at t l e v w k = absurd (none-some (v, w) (sym e ∙ denies l v w k))

-- ---- all places
abbrev pub SaidTo : List Assigned → ℕ → Type 0
SaidTo t n = (k : ℕ) → k < n → (v w : Term) → (at t k).lit ≡ is_false (Eq v w) → BothSaid t v w

pub one_more : (t : List Assigned) (n : ℕ) → SaidTo t n → ((v w : Term) → (at t n).lit ≡ is_false (Eq v w) → BothSaid t v w) → SaidTo t (n + 1)
one_more t n h one k l = elim (cases_eq k n) as (λ _. (v w : Term) → (at t k).lit ≡ is_false (Eq v w) → BothSaid t v w) [
  | inl e ↦ subst (λ (j : ℕ). (v w : Term) → (at t j).lit ≡ is_false (Eq v w) → BothSaid t v w) (sym e) one
  | inr d ↦ h k (omega (arith, l, d))
]

pub all_ordered : (t : List Assigned) (n : ℕ) → SaidTo t n → ¬ (n < length t) → AreOrdered t
all_ordered t n h end s u (inl d) k = (h d.0 (let l = d.1 in omega (arith, l, end)) s u d.2).0 k
all_ordered t n h end s u (inr d) k = (h d.0 (let l = d.1 in omega (arith, l, end)) u s d.2).1 k
