-- The level from which on all literals of a clause but one are false, and the one at which the clause fires.
use Rattle.std.proofs.Common.{◌≡◌, ◌≢◌, ℕ, ◌+◌, ◌<◌, ◌≤◌, max, min, List, length, get_or, refl, sym, ◌∙◌, ap, subst, arith, ◌⊎◌, inl, inr, Option, Some, None}
use Rattle.std.specs.List.{Contains}
use Rattle.std.specs.Prelude.{Bool, true, false, nat_le, MatchBool}
use Rattle.std.proofs.lemmas.Bool.{cases_lt, leb-true, leb-false}
use Rattle.std.proofs.lemmas.List.{get_or_default}
use Rattle.ae_core.specs.declared.formulas.Lit.{Lit}
use Rattle.ae_rules.specs.Clauses.{Clause}
use Rattle.ae_explain.specs.declared.trail.Assigned.{Assigned}
use Rattle.ae_explain.specs.Levels.{level_of}
use Rattle.ae_explain.specs.Trail.{at, nothing, Apart, IsFalse}
use Rattle.ae_explain.proofs.Places.{level_there}
use Rattle.ae_propagation.specs.Settled.{Holds}
use Rattle.ae_propagation.proofs.Members.{member_cases}
use Rattle.ae_sat.specs.Layers.{Fires, HoldsUpTo, IsFalseUpTo}
use Rattle.ae_sat.proofs.Layering.{false_up}
use Rattle.ae_searching.specs.Inner.Starts.{AreOthersFalse, HasCandidate, IsTrueUpTo, IsUnitUpTo, StartsAt, lesser}
use Rattle.ae_searching.specs.Searching.{RestsBelow}

-- ---- what starts at a number
starts_same : (P Q : ℕ → Type 0) (o : Option ℕ) → ((k : ℕ) → P k → Q k) → ((k : ℕ) → Q k → P k) → StartsAt P o → StartsAt Q o
starts_same P Q None to from h = λ k q. h k (from k q)
starts_same P Q (Some n) to from h = λ k. (λ q. (h k).0 (from k q), λ l. to k ((h k).1 l))

starts_either : (P Q : ℕ → Type 0) (a b : Option ℕ) → StartsAt P a → StartsAt Q b → StartsAt (λ k. P k ⊎ Q k) (lesser a b)
starts_either P Q None None h i = λ k e. elim e as (λ _. ⊥) [ inl p ↦ h k p | inr q ↦ i k q ]
starts_either P Q None (Some m) h i = λ k. (λ e. elim e as (λ _. m ≤ k) [ inl p ↦ absurd (h k p) | inr q ↦ (i k).0 q ], λ l. inr ((i k).1 l))
starts_either P Q (Some n) None h i = λ k. (λ e. elim e as (λ _. n ≤ k) [ inl p ↦ (h k).0 p | inr q ↦ absurd (i k q) ], λ l. inl ((h k).1 l))
starts_either P Q (Some n) (Some m) h i = λ k. (
  λ e. elim e as (λ _. min n m ≤ k) [ inl p ↦ (let x : n ≤ k = (h k).0 p in omega (arith, x)) | inr q ↦ (let x : m ≤ k = (i k).0 q in omega (arith, x)) ],
  λ l. elim (cases_lt k n) as (λ _. P k ⊎ Q k) [ inl lt ↦ inr ((i k).1 (omega (arith, l, lt))) | inr ge ↦ inl ((h k).1 ge) ],
)

starts_both : (P Q : ℕ → Type 0) (n m : ℕ) → StartsAt P (Some n) → StartsAt Q (Some m) → StartsAt (λ k. P k × Q k) (Some (max n m))
starts_both P Q n m h i k = (λ e. let x : n ≤ k = (h k).0 e.0 in let y : m ≤ k = (i k).0 e.1 in omega (arith, x, y), λ l. ((h k).1 (omega (arith, l)), (i k).1 (omega (arith, l))))

-- ---- a literal
pub false_starts : (t : List Assigned) → Apart t → (m : Lit) → IsFalse t m → StartsAt (λ k. IsFalseUpTo t k m) (Some (level_of t m))
false_starts t apart m f k = (
  λ u. let v : level_of t m ≡ (at t u.0).level = level_there t u.0 m apart u.1 (ap (λ (x : Lit). x.formula) u.2) in omega (arith, v, u.3),
  λ l. false_up t apart m k f l,
)

pub false_never : (t : List Assigned) (m : Lit) → ¬ IsFalse t m → StartsAt (λ k. IsFalseUpTo t k m) None
false_never t m n k = λ u. n (u.0, u.1, u.2)

pub true_by : (t : List Assigned) → Apart t → (m : Lit) (k : ℕ) → Holds t m → level_of t m ≤ k → HoldsUpTo t k m
true_by t apart m k h l = let v : level_of t m ≡ (at t h.0).level = level_there t h.0 m apart h.1 (ap (λ (x : Lit). x.formula) h.2) in (h.0, h.1, h.2, omega (arith, v, l))

pub not_by : (t : List Assigned) → Apart t → (m : Lit) (k : ℕ) → k < level_of t m → ¬ HoldsUpTo t k m
not_by t apart m k l h = let v : level_of t m ≡ (at t h.0).level = level_there t h.0 m apart h.1 (ap (λ (x : Lit). x.formula) h.2) in omega (arith, v, l, h.3)

pub holds_by : (t : List Assigned) → Apart t → (m : Lit) (k n : ℕ) → n ≡ level_of t m → Holds t m → MatchBool (nat_le n k) (HoldsUpTo t k m) (¬ HoldsUpTo t k m)
holds_by t apart m k n e h = by_test (nat_le n k) refl
  where
    by_test : (b : Bool) → nat_le n k ≡ b → MatchBool b (HoldsUpTo t k m) (¬ HoldsUpTo t k m)
    by_test true q = let l : n ≤ k = leb-true n k q in true_by t apart m k h (omega (arith, l, e))
    by_test false q = let l : k < n = leb-false n k q in not_by t apart m k (omega (arith, l, e))

-- ---- the literals of a clause but one
-- what stands at a place
pub stands_at : (c : Clause) (i j : ℕ) (x m : Lit) → j ≡ i → i < length c → get_or c i x ≡ x → get_or c j m ≡ m → m ≡ x
stands_at c i j x m q l ex em = sym em ∙ (ap (λ (n : ℕ). get_or c n m) q ∙ (get_or_default c i m x l ∙ ex))

module _ (t : List Assigned) (c : Clause) where
  pub others_none : (one : Lit) → StartsAt (AreOthersFalse t c 0 one) (Some 0)
  others_none one k = (λ h. omega arith, λ h j m l e d. absurd (omega (arith, l)))

  module _ (i : ℕ) (x : Lit) (within : i < length c) (is : get_or c i x ≡ x) where
    pub others_same : (one : Lit) (level : ℕ) → x ≡ one → StartsAt (AreOthersFalse t c i one) (Some level) → StartsAt (AreOthersFalse t c (i + 1) one) (Some level)
    others_same one level q h =
        starts_same (AreOthersFalse t c i one) (AreOthersFalse t c (i + 1) one) (Some level)
        (λ k h j m l e d. elim (cases_lt j i) as (λ _. IsFalseUpTo t k m) [ inl lt ↦ h j m lt e d | inr ge ↦ absurd (d (stands_at c i j x m (omega (arith, l, ge)) within is e ∙ q)) ])
        (λ k h j m l e d. h j m (omega (arith, l)) e d) h

    pub others_more : (one : Lit) (its level : ℕ) → x ≢ one → StartsAt (λ k. IsFalseUpTo t k x) (Some its) → StartsAt (AreOthersFalse t c i one) (Some level) → StartsAt (AreOthersFalse t c (i + 1) one) (Some (max its level))
    others_more one its level n f h =
        starts_same (λ k. IsFalseUpTo t k x × AreOthersFalse t c i one k) (AreOthersFalse t c (i + 1) one) (Some (max its level))
        (λ k h j m l e d. elim (cases_lt j i) as (λ _. IsFalseUpTo t k m) [ inl lt ↦ h.1 j m lt e d | inr ge ↦ subst (IsFalseUpTo t k) (sym (stands_at c i j x m (omega (arith, l, ge)) within is e)) h.0 ])
        (λ k h. (h i x (omega arith) is n, λ j m l e d. h j m (omega (arith, l)) e d))
        (starts_both (λ k. IsFalseUpTo t k x) (AreOthersFalse t c i one) its level f h)

    pub others_never : (one : Lit) → x ≢ one → StartsAt (λ k. IsFalseUpTo t k x) None → StartsAt (AreOthersFalse t c (length c) one) None
    others_never one n never k = λ h. never k (h i x within is n)

    pub candidates_more : (own least : Option ℕ) → StartsAt (AreOthersFalse t c (length c) x) own → StartsAt (HasCandidate t c i) least → StartsAt (HasCandidate t c (i + 1)) (lesser own least)
    candidates_more own least f h =
        starts_same (λ k. AreOthersFalse t c (length c) x k ⊎ HasCandidate t c i k) (HasCandidate t c (i + 1)) (lesser own least)
        (λ k e. elim e as (λ _. HasCandidate t c (i + 1) k) [ inl o ↦ (i, x, omega arith, is, o) | inr r ↦ (r.0, r.1, omega (arith, r.2), r.3, r.4) ])
        (λ k r. elim (cases_lt r.0 i) as (λ _. AreOthersFalse t c (length c) x k ⊎ HasCandidate t c i k) [
          | inl lt ↦ inr (r.0, r.1, lt, r.3, r.4)
          | inr ge ↦ inl (subst (λ (o : Lit). AreOthersFalse t c (length c) o k) (stands_at c i r.0 x r.1 (omega (arith, r.2, ge)) within is r.3) r.4)
        ])
        (starts_either (AreOthersFalse t c (length c) x) (HasCandidate t c i) own least f h)

  pub candidates_none : StartsAt (HasCandidate t c 0) None
  candidates_none k = λ h. omega (arith, h.2)

  pub unit_all : (o : Option ℕ) → 0 < length c → StartsAt (HasCandidate t c (length c)) o → StartsAt (IsUnitUpTo t c) o
  unit_all o pos h =
      starts_same (HasCandidate t c (length c)) (IsUnitUpTo t c) o
      (λ k r. (r.1, λ m i d. r.4 i.0 m i.1 i.2 d))
      (λ k u. elim (member_cases c u.0) as (λ _. HasCandidate t c (length c) k) [
        | inl i ↦ (i.0, u.0, i.1, i.2, λ j m l e d. u.1 m (j, l, e) d)
        | inr n ↦ (0, get_or c 0 u.0, pos, get_or_default c 0 (get_or c 0 u.0) u.0 pos, λ j m l e d. u.1 m (j, l, e) (λ q. n (subst (Contains c) q (j, l, e))))
      ]) h

  pub unit_empty : length c ≡ 0 → StartsAt (IsUnitUpTo t c) (Some 0)
  unit_empty z k = (λ h. omega arith, λ h. (nothing.lit, λ m i d. absurd (omega (arith, i.1, z))))

  -- ---- firing
  pub fires_never : StartsAt (IsUnitUpTo t c) None → (k : ℕ) → ¬ Fires t c k
  fires_never h k f = h k (f.one, f.others)

  pub fires_no_more : (n : ℕ) → StartsAt (IsUnitUpTo t c) (Some n) → IsTrueUpTo t c n → (k : ℕ) → ¬ Fires t c k
  fires_no_more n h y k f = let l : n ≤ k = (h k).0 (f.one, f.others) in f.untrue y.0 y.1 (y.2.0, y.2.1, y.2.2, omega (arith, y.2.3, l))

  pub fires_at : (n : ℕ) → StartsAt (IsUnitUpTo t c) (Some n) → ¬ IsTrueUpTo t c n → Fires t c n × RestsBelow t n c
  fires_at n h none =
      let u = (h n).1 (omega arith) in (
        record { one = u.0; others = u.1; untrue = λ m i y. none (m, i, y) },
        λ k l f. let x : n ≤ k = (h k).0 (f.one, f.others) in omega (arith, x, l),
      )
