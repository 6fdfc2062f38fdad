-- Owners that are added.
use Rattle.std.specs.Prelude.{ℕ, zero, suc, ◌+◌, ◌<◌, Bool, true, false, MatchBool, MatchOption, List, [], ◌∷◌, ◌++◌, ◌≡◌, ◌⊎◌, length, slice_get, Option, Some, None}
use Rattle.std.specs.List.{AllByRecursion}
use Rattle.std.proofs.Common.{refl, sym, ap, ◌∙◌, subst, arith, inl, inr, append-nil, append_assoc}
use Rattle.std.proofs.lemmas.Bool.{cases_lt}
use Rattle.std.proofs.lemmas.Option.{same_Some}
use Rattle.ae_base.proofs.AllOf.{all_append}
use Rattle.ae_base.proofs.ListFacts.{get_append, get_seam}
use Rattle.ae_base.proofs.Options.{never_some}
use Rattle.ae_core.specs.declared.formulas.Lit.{Lit}
use Rattle.ae_core.specs.declared.problems.Problem.{Problem}
use Rattle.ae_explain.specs.declared.trail.Assigned.{Assigned}
use Rattle.ae_journal.specs.States as states
use Rattle.ae_owners.specs.Inner.Places.{AreAxiomsBelow, lit_of}
use Rattle.ae_owners.specs.Owners.{AreOwnersApart, HasOwner, IsOwnerAt, IsOwnerIn, MoreOwners, owner_of}
use Rattle.ae_owners.specs.declared.owners.Owner.{Owner}
use Rattle.ae_owners.proofs.OwnerPatterns.{late_none}

pub none_more : (Right : Owner → Type 0) (os : List Owner) → MoreOwners Right os os
none_more Right os = record { more = []; is = sym (append-nil os); right = tt }

pub one_more : (Right : Owner → Type 0) (os : List Owner) (o : Owner) → Right o → MoreOwners Right os (os ++ o ∷ [])
one_more Right os o r = record { more = o ∷ []; is = refl; right = (r, tt) }

pub both_more : (Right : Owner → Type 0) (os ps qs : List Owner) → MoreOwners Right os ps → MoreOwners Right ps qs → MoreOwners Right os qs
both_more Right os ps qs a b = record {
  more = a.more ++ b.more;
  is = b.is ∙ ap (λ (w : List Owner). w ++ b.more) a.is ∙ append_assoc os a.more b.more;
  right = all_append Right a.more b.more a.right b.right;
}

pub still_there : (Right : Owner → Type 0) (os ps : List Owner) (w : states.Owner) → MoreOwners Right os ps → HasOwner os w → HasOwner ps w
still_there Right os ps w m h =
    let a = h.1 in
    (h.0, record { owner = a.owner; at = ap (λ (z : List Owner). slice_get z h.0) m.is ∙ get_append os m.more h.0 a.owner a.at; is = a.is })

pub new_there : (os : List Owner) (o : Owner) (w : states.Owner) → owner_of o ≡ w → HasOwner (os ++ o ∷ []) w
new_there os o w e = (length os, record { owner = o; at = get_seam os [] o; is = e })

-- ---- no owner has two numbers
-- one of the owners that were there, or the new one behind them
pushed_cases : (os : List Owner) (o : Owner) (k : ℕ) (e : Owner) → slice_get (os ++ o ∷ []) k ≡ Some e → (slice_get os k ≡ Some e) ⊎ ((k ≡ length os) × (o ≡ e))
pushed_cases [] o zero e h = inr (refl, same_Some o e h)
pushed_cases [] o (suc k) e h = never_some e h
pushed_cases (x ∷ os) o zero e h = inl h
pushed_cases (x ∷ os) o (suc k) e h =
    elim (pushed_cases os o k e h) as (λ _. (slice_get (x ∷ os) (suc k) ≡ Some e) ⊎ ((suc k ≡ length (x ∷ os)) × (o ≡ e))) [ inl a ↦ inl a | inr b ↦ inr (ap suc b.0, b.1) ]

pub none_apart : AreOwnersApart []
none_apart k m o e a b s = never_some o a

pub apart_pushed : (os : List Owner) (n : Owner) → AreOwnersApart os → ((k : ℕ) (e : Owner) → slice_get os k ≡ Some e → ¬ (owner_of e ≡ owner_of n)) → AreOwnersApart (os ++ n ∷ [])
apart_pushed os n apart new k m o e a b s =
    elim (pushed_cases os n k o a) as (λ _. k ≡ m) [
      | inl x ↦ elim (pushed_cases os n m e b) as (λ _. k ≡ m) [ inl y ↦ apart k m o e x y s | inr y ↦ absurd (new k o x (s ∙ ap owner_of (sym y.1))) ]
      | inr x ↦ elim (pushed_cases os n m e b) as (λ _. k ≡ m) [ inl y ↦ absurd (new m e y (sym s ∙ ap owner_of (sym x.1))) | inr y ↦ x.0 ∙ sym y.0 ]
    ]

-- a literal that has no number yet
pub apart_literal : (os : List Owner) (n : Owner) (w : states.Owner) → owner_of n ≡ w → ¬ HasOwner os w → AreOwnersApart os → AreOwnersApart (os ++ n ∷ [])
apart_literal os n w own none apart = apart_pushed os n apart (λ k e a s. none (k, record { owner = e; at = a; is = s ∙ own }))

-- ---- axioms, one after another
pub none_below : AreAxiomsBelow 0 []
none_below k o a = never_some o a

pub below_later : (n : ℕ) (os : List Owner) → AreAxiomsBelow n os → AreAxiomsBelow (n + 1) os
below_later n os b k o a = let r = b k o a in let l = r.1 in (r.0, omega (arith, l), r.2)

pub below_pushed : (n : ℕ) (os : List Owner) (w : Owner) → owner_of w ≡ states.of_axiom n → AreAxiomsBelow n os → AreAxiomsBelow (n + 1) (os ++ w ∷ [])
below_pushed n os w own b k o a =
    elim (pushed_cases os w k o a) as (λ _. (m : ℕ) × (m < n + 1) × (owner_of o ≡ states.of_axiom m)) [
      | inl x ↦ below_later n os b k o x
      | inr y ↦ (n, omega arith, ap owner_of (sym y.1) ∙ own)
    ]

same_place : (k m : ℕ) → states.of_axiom k ≡ states.of_axiom m → k ≡ m
same_place k m e = cc e

pub apart_axiom : (n : ℕ) (os : List Owner) (w : Owner) → owner_of w ≡ states.of_axiom n → AreAxiomsBelow n os → AreOwnersApart os → AreOwnersApart (os ++ w ∷ [])
apart_axiom n os w own b apart =
    apart_pushed os w apart (λ k e a s.
    let r = b k e a in
    let same : r.0 ≡ n = same_place r.0 n (sym r.2 ∙ s ∙ own) in
    let l = r.1 in
    absurd (omega (arith, l, same)))

-- a pattern is there for an axiom before the goal alone
pub before_goal : (p : Problem) (g k : ℕ) (q : states.Pattern) → states.pattern_of p g (states.of_axiom k) ≡ Some q → k < g
before_goal p g k q e =
    elim (cases_lt k g) as (λ _. k < g) [ inl l ↦ l | inr ge ↦ never_some q (sym (late_none p g k (λ l. let h : ⊥ = omega (arith, l, ge) in h)) ∙ e) ]

-- each axiom with a pattern below a place is there, and one place further
pub there_further : (p : Problem) (g n : ℕ) (Right : Owner → Type 0) (os ps : List Owner)
    → ((k : ℕ) (q : states.Pattern) → k < n → states.pattern_of p g (states.of_axiom k) ≡ Some q → HasOwner os (states.of_axiom k)) → MoreOwners Right os ps
    → ((q : states.Pattern) → states.pattern_of p g (states.of_axiom n) ≡ Some q → HasOwner ps (states.of_axiom n))
    → (k : ℕ) (q : states.Pattern) → k < n + 1 → states.pattern_of p g (states.of_axiom k) ≡ Some q → HasOwner ps (states.of_axiom k)
there_further p g n Right os ps b m own k q l e =
    elim (cases_lt k n) as (λ _. HasOwner ps (states.of_axiom k)) [
      | inl lt ↦ still_there Right os ps (states.of_axiom k) m (b k q lt e)
      | inr ge ↦ (let s : n ≡ k = omega (arith, l, ge) in subst (λ (z : ℕ). HasOwner ps (states.of_axiom z)) s (own q (ap (λ (z : ℕ). states.pattern_of p g (states.of_axiom z)) s ∙ e)))
    ]

-- ---- whether an owner is a literal
pub place_of : (o : Owner) (k : ℕ) → o.place ≡ Some k → owner_of o ≡ states.of_axiom k
place_of o k e = ap (λ (z : Option ℕ). elim z as (λ _. states.Owner) [ Some m ↦ states.of_axiom m | None ↦ states.of_literal (lit_of o.positive o.formula) ]) e

pub literal_of : (o : Owner) → o.place ≡ None → owner_of o ≡ states.of_literal (lit_of o.positive o.formula)
literal_of o e = ap (λ (z : Option ℕ). elim z as (λ _. states.Owner) [ Some m ↦ states.of_axiom m | None ↦ states.of_literal (lit_of o.positive o.formula) ]) e

pub no_literal : (o : Owner) (k : ℕ) (l : Lit) → o.place ≡ Some k → ¬ (owner_of o ≡ states.of_literal l)
no_literal o k l e h = let q : states.of_axiom k ≡ states.of_literal l = sym (place_of o k e) ∙ h in cc q

same_literal : (l m : Lit) → states.of_literal l ≡ states.of_literal m → l ≡ m
same_literal l m e = cc e

pub by_literal : (o : Owner) (l : Lit) (b : Bool) → o.place ≡ None → MatchBool b (l ≡ lit_of o.positive o.formula) (¬ (l ≡ lit_of o.positive o.formula)) → MatchBool b (owner_of o ≡ states.of_literal l) (¬ (owner_of o ≡ states.of_literal l))
by_literal o l true e h = literal_of o e ∙ ap states.of_literal (sym h)
by_literal o l false e h = λ s. h (sym (same_literal (lit_of o.positive o.formula) l (sym (literal_of o e) ∙ s)))

-- ---- what is answered
pub found_owner : (p : Problem) (g k : ℕ) (o : Option Owner) (w : Owner) → o ≡ Some w
    → MatchOption o (states.pattern_of p g (states.of_axiom k) ≡ None) (λ (z : Owner). (owner_of z ≡ states.of_axiom k) × IsOwnerIn p g z) → (owner_of w ≡ states.of_axiom k) × IsOwnerIn p g w
found_owner p g k o w e h = subst (λ (y : Option Owner). MatchOption y (states.pattern_of p g (states.of_axiom k) ≡ None) (λ (z : Owner). (owner_of z ≡ states.of_axiom k) × IsOwnerIn p g z)) e h

pub all_right : (Right : Owner → Type 0) (os ps : List Owner) → MoreOwners Right os ps → AllByRecursion Right os → AllByRecursion Right ps
all_right Right os ps m a = subst (AllByRecursion Right) (sym m.is) (all_append Right os m.more a m.right)

-- the first so many of a trail, and one more
pub trail_further : (Right : Owner → Type 0) (os ps : List Owner) (t : List Assigned) (n : ℕ) → MoreOwners Right os ps
    → ((k : ℕ) (a : Assigned) → k < n → slice_get t k ≡ Some a → states.is_universal a.lit ≡ true → HasOwner os (states.of_literal a.lit))
    → ((a : Assigned) → slice_get t n ≡ Some a → states.is_universal a.lit ≡ true → HasOwner ps (states.of_literal a.lit))
    → (k : ℕ) (a : Assigned) → k < n + 1 → slice_get t k ≡ Some a → states.is_universal a.lit ≡ true → HasOwner ps (states.of_literal a.lit)
trail_further Right os ps t n m b own k a l e u =
    elim (cases_lt k n) as (λ _. HasOwner ps (states.of_literal a.lit)) [
      | inl lt ↦ still_there Right os ps (states.of_literal a.lit) m (b k a lt e u)
      | inr ge ↦ (let s : k ≡ n = omega (arith, l, ge) in own a (ap (slice_get t) (sym s) ∙ e) u)
    ]

-- no owner below a place is this one, and one place further
pub none_further : (os : List Owner) (w : states.Owner) (n : ℕ) (o : Owner) → slice_get os n ≡ Some o → ¬ (owner_of o ≡ w) → ((k : ℕ) → k < n → ¬ IsOwnerAt os k w) → (k : ℕ) → k < n + 1 → ¬ IsOwnerAt os k w
none_further os w n o at never b k l h =
    elim (cases_lt k n) as (λ _. ⊥) [
      | inl lt ↦ b k lt h
      | inr ge ↦ (let s : k ≡ n = omega (arith, l, ge) in never (ap owner_of (same_Some o h.owner (sym at ∙ ap (slice_get os) (sym s) ∙ h.at)) ∙ h.is))
    ]
