-- Where formulas stand, and their levels.
use Rattle.std.proofs.Common.{◌≡◌, ◌≢◌, ℕ, zero, suc, ◌<◌, ◌≤◌, max, cond, List, [], ◌∷◌, length, refl, sym, ap, ◌∙◌, subst, arith, ◌⊎◌, inl, inr, Option, Some, None}
use Rattle.std.proofs.lemmas.Bool.{cases_eq, cases_lt}
use Rattle.std.proofs.lemmas.Option.{same_Some, none-some}
use Rattle.std.specs.List.{Contains}
use Rattle.std.specs.Option.{option_map}
use Rattle.ae_base.specs.Decided.{decided}
use Rattle.ae_core.specs.Decided.{Formula_discrete}
use Rattle.ae_rules.specs.Clauses.{Clause}
use Rattle.ae_core.specs.declared.formulas.Formula.{Formula}
use Rattle.ae_core.specs.declared.formulas.Lit.{Lit}
use Rattle.ae_explain.specs.declared.trail.Assigned.{Assigned}
use Rattle.ae_explain.specs.Trail.{Apart, at, place_in, IsLawful, Enters, level_before}
use Rattle.ae_explain.specs.Levels.{level_at, level_of, greatest_of}
use Rattle.ae_base.proofs.Decided.{decided_of, decided_not}
use Rattle.ae_base.proofs.Options.{mapped_some}

apart_tail : (a : Assigned) (t : List Assigned) → Apart (a ∷ t) → Apart t
apart_tail a t h i j l m = h (suc i) (suc j) (omega (arith, l)) (omega (arith, m))

pub there : (t : List Assigned) (p : ℕ) (f : Formula) → Apart t → p < length t → (at t p).lit.formula ≡ f → place_in t f ≡ Some p
there [] p f h l e = absurd (omega (arith, l))
there (a ∷ t) zero f h l e = ap (λ b. cond b (Some 0) (option_map suc (place_in t f))) (decided_of (Formula_discrete a.lit.formula f) e)
there (a ∷ t) (suc p) f h l e =
    ap (λ b. cond b (Some 0) (option_map suc (place_in t f))) (decided_not (Formula_discrete a.lit.formula f) (λ q. h 0 (suc p) (omega arith) l (q ∙ sym e)))
    ∙ ap (option_map suc) (there t p f (apart_tail a t h) (omega (arith, l)) e)

-- what holds of the tail, once more
abbrev IsFound : List Assigned → Formula → ℕ → Type 0
IsFound t f p = (p < length t) × ((at t p).lit.formula ≡ f)

found_at : (a : Assigned) (t : List Assigned) (f : Formula) (p : ℕ) → ((q : ℕ) → place_in t f ≡ Some q → IsFound t f q) → (d : Dec (a.lit.formula ≡ f))
    → cond (decided d) (Some 0) (option_map suc (place_in t f)) ≡ Some p → IsFound (a ∷ t) f p
found_at a t f p later (yes q) e =
    let z : 0 ≡ p = same_Some 0 p e in
    (omega (arith, z), subst (λ (w : ℕ). (at (a ∷ t) w).lit.formula ≡ f) z q)
found_at a t f p later (no n) e =
    let r = mapped_some suc (place_in t f) p e in
    let k = later r.0 r.1 in
    (omega (arith, k.0, r.2), subst (λ (w : ℕ). (at (a ∷ t) w).lit.formula ≡ f) r.2 k.1)

pub found : (t : List Assigned) (f : Formula) (p : ℕ) → place_in t f ≡ Some p → (p < length t) × ((at t p).lit.formula ≡ f)
found [] f p e = absurd (none-some p e)
found (a ∷ t) f p e = found_at a t f p (λ q. found t f q) (Formula_discrete a.lit.formula f) e

pub level_there : (t : List Assigned) (p : ℕ) (m : Lit) → Apart t → p < length t → (at t p).lit.formula ≡ m.formula → level_of t m ≡ (at t p).level
level_there t p m h l e = ap (level_at t) (there t p m.formula h l e)

-- ---- the greatest level
pub greatest_above : (t : List Assigned) (c : Clause) (m : Lit) → Contains c m → level_of t m ≤ greatest_of t c
greatest_above t [] m h = absurd (omega (arith, h.1))
greatest_above t (x ∷ c) m (zero, l, e) = subst (λ (w : Lit). level_of t w ≤ max (level_of t x) (greatest_of t c)) e (omega arith)
greatest_above t (x ∷ c) m (suc k, l, e) = omega (arith, greatest_above t c m (k, omega (arith, l), e))

pub greatest_reached : (t : List Assigned) (c : Clause) → (greatest_of t c ≡ 0) ⊎ ((m : Lit) × Contains c m × (level_of t m ≡ greatest_of t c))
greatest_reached t [] = inl refl
greatest_reached t (x ∷ c) =
    elim (cases_lt (level_of t x) (greatest_of t c)) as (λ _. (greatest_of t (x ∷ c) ≡ 0) ⊎ ((m : Lit) × Contains (x ∷ c) m × (level_of t m ≡ greatest_of t (x ∷ c)))) [
      | inl lt ↦ elim (greatest_reached t c) as (λ _. (greatest_of t (x ∷ c) ≡ 0) ⊎ ((m : Lit) × Contains (x ∷ c) m × (level_of t m ≡ greatest_of t (x ∷ c)))) [
        | inl z ↦ absurd (omega (arith, lt, z))
        | inr r ↦ inr (r.0, (suc r.1.0, omega (arith, r.1.1), r.1.2), omega (arith, lt, r.2))
      ]
      | inr ge ↦ inr (x, (zero, omega arith, refl), omega (arith, ge))
    ]

-- ---- levels along a lawful trail
module _ (t : List Assigned) (clauses : List Clause) (lawful : IsLawful t clauses) where
  enters_above : (i : ℕ) (by : Option ℕ) → Enters t clauses i by → level_before t i ≤ (at t i).level
  enters_above i None h = omega (arith, h)
  enters_above i (Some k) h = omega (arith, h.0)

  pub rises : (i j : ℕ) → i ≤ j → j < length t → (at t i).level ≤ (at t j).level
  rises i zero h l = let e : i ≡ 0 = omega (arith, h) in rw e (omega arith)
  rises i (suc j) h l = elim (cases_eq i (suc j)) as (λ _. (at t i).level ≤ (at t (suc j)).level) [
    | inl e ↦ rw e (omega arith)
    | inr d ↦ omega (arith, rises i j (omega (arith, h, d)) (omega (arith, l)), enters_above (suc j) (at t (suc j)).by (lawful.enters (suc j) l))
  ]

  decides_alone : (i p : ℕ) → p < i → i < length t → Enters t clauses i None → (at t p).level < (at t i).level
  decides_alone zero p h l n = absurd (omega (arith, h))
  decides_alone (suc i) p h l n = omega (arith, n, rises p i (omega (arith, h)) (omega (arith, l)))

  -- no decision is of level 0 or of the level of an earlier literal
  pub has_reason : (i p : ℕ) → i < length t → ((at t i).level ≡ 0) ⊎ ((p < i) × ((at t p).level ≡ (at t i).level)) → (at t i).by ≢ None
  has_reason i p l h n =
      let e : Enters t clauses i None = subst (λ (by : Option ℕ). Enters t clauses i by) n (lawful.enters i l) in
      elim h as (λ _. ⊥) [
        | inl z ↦ absurd (omega (arith, e, z))
        | inr r ↦ absurd (omega (arith, decides_alone i p r.0 l e, r.1))
      ]
