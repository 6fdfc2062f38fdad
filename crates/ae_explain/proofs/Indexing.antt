-- Where formulas stand in a trail that grows or gets shorter.
use Rattle.std.proofs.Common.{◌≡◌, ◌+◌, ◌<◌, ℕ, suc, Bool, true, false, cond, List, [], ◌∷◌, ◌++◌, length, length-append, refl, sym, ap, ◌∙◌, true≢false, Option, Some, None, arith, inl, inr}
use Rattle.std.proofs.Math.ListN.{get_or-append}
use Rattle.std.proofs.Math.Seq.{get_or-append_seam}
use Rattle.std.proofs.lemmas.Bool.{cases_lt}
use Rattle.std.specs.Option.{option_map, IfSome}
use Rattle.ae_base.specs.Decided.{decided}
use Rattle.ae_core.specs.Decided.{Formula_discrete}
use Rattle.ae_core.specs.declared.formulas.Formula.{Formula}
use Rattle.ae_explain.specs.declared.trail.Assigned.{Assigned}
use Rattle.ae_explain.specs.Trail.{Apart, at, nothing, place_in}
use Rattle.ae_explain.proofs.Places.{found, there}
use Rattle.std.proofs.lemmas.Option.{none-some}
use Rattle.ae_base.proofs.Decided.{decided_not}

no_first : (b : Bool) (o : Option ℕ) → cond b (Some 0) (option_map suc o) ≡ None → (b ≡ false) × (o ≡ None)
no_first true o e = absurd (none-some 0 (sym e))
no_first false None e = (refl, refl)
no_first false (Some p) e = absurd (none-some (suc p) (sym e))

shifted : (b : Bool) (n : ℕ) (o : Option ℕ) → option_map suc (cond b (Some n) o) ≡ cond b (Some (suc n)) (option_map suc o)
shifted true n o = refl
shifted false n o = refl

-- where a formula stands once another one is put at the end
pub at_end : (t : List Assigned) (a : Assigned) (f : Formula) → place_in t a.lit.formula ≡ None
    → place_in (t ++ a ∷ []) f ≡ cond (decided (Formula_discrete a.lit.formula f)) (Some (length t)) (place_in t f)
at_end [] a f h = refl
at_end (b ∷ t) a f h =
    let n = no_first (decided (Formula_discrete b.lit.formula a.lit.formula)) (place_in t a.lit.formula) h in
    let ih = at_end t a f n.1 in
    let other : b.lit.formula ≡ a.lit.formula → ⊥ = λ e. apart_if (Formula_discrete b.lit.formula a.lit.formula) n.0 e in
    elim (Formula_discrete b.lit.formula f) as (λ d. cond (decided d) (Some 0) (option_map suc (place_in (t ++ a ∷ []) f))
    ≡ cond (decided (Formula_discrete a.lit.formula f)) (Some (suc (length t))) (cond (decided d) (Some 0) (option_map suc (place_in t f)))) [
      | yes e ↦ sym (ap (λ c. cond c (Some (suc (length t))) (Some 0)) (decided_not (Formula_discrete a.lit.formula f) (λ q. other (e ∙ sym q))))
      | no d ↦ ap (option_map suc) ih ∙ shifted (decided (Formula_discrete a.lit.formula f)) (length t) (place_in t f)
    ]
  where
    apart_if : {P : Type 0} (d : Dec P) → decided d ≡ false → P → ⊥
    apart_if (yes p) e q = true≢false e
    apart_if (no m) e q = m q

-- a formula that stood nowhere stands apart from the others
pub still_apart : (t : List Assigned) (a : Assigned) → Apart t → place_in t a.lit.formula ≡ None → Apart (t ++ a ∷ [])
still_apart t a apart h i j l m e =
    let long : length (t ++ a ∷ []) ≡ length t + 1 = length-append t (a ∷ []) in
    let early : i < length t = omega (arith, l, m, long) in
    let first : at (t ++ a ∷ []) i ≡ at t i = get_or-append t (a ∷ []) nothing i early in
    elim (cases_lt j (length t)) as (λ _. ⊥) [
      | inl lt ↦
          let second : at (t ++ a ∷ []) j ≡ at t j = get_or-append t (a ∷ []) nothing j lt in
          apart i j l lt (ap (λ (x : Assigned). x.lit.formula) (sym first) ∙ (e ∙ ap (λ (x : Assigned). x.lit.formula) second))
      | inr ge ↦
          let here : j ≡ length t = omega (arith, m, long, ge) in
          let second : at (t ++ a ∷ []) j ≡ a = ap (at (t ++ a ∷ [])) here ∙ get_or-append_seam t a [] nothing in
          none-some i (sym h ∙ there t i a.lit.formula apart early (ap (λ (x : Assigned). x.lit.formula) (sym first) ∙ (e ∙ ap (λ (x : Assigned). x.lit.formula) second)))
    ]

pub within_of : (t : List Assigned) (f : Formula) (o : Option ℕ) → o ≡ place_in t f → IfSome o (λ p. p < length t)
within_of t f (Some p) e = (found t f p (sym e)).0
within_of t f None e = tt

-- ---- a trail with the last literal less
pub apart_front : (t : List Assigned) (a : Assigned) → Apart (t ++ a ∷ []) → Apart t
apart_front t a h i j l m e =
    let long : length (t ++ a ∷ []) ≡ length t + 1 = length-append t (a ∷ []) in
    let first : at (t ++ a ∷ []) i ≡ at t i = get_or-append t (a ∷ []) nothing i (omega (arith, l, m)) in
    let second : at (t ++ a ∷ []) j ≡ at t j = get_or-append t (a ∷ []) nothing j m in
    h i j l (omega (arith, m, long)) (ap (λ (x : Assigned). x.lit.formula) first ∙ (e ∙ ap (λ (x : Assigned). x.lit.formula) (sym second)))

-- the last formula stands nowhere else
pub last_nowhere : (t : List Assigned) (a : Assigned) → Apart (t ++ a ∷ []) → place_in t a.lit.formula ≡ None
last_nowhere t a h = by_place (place_in t a.lit.formula) refl
  where
    by_place : (o : Option ℕ) → place_in t a.lit.formula ≡ o → place_in t a.lit.formula ≡ None
    by_place None q = q
    by_place (Some p) q =
        let r = found t a.lit.formula p q in
        let long : length (t ++ a ∷ []) ≡ length t + 1 = length-append t (a ∷ []) in
        absurd (h p (length t) r.0 (omega (arith, long)) (
        ap (λ (x : Assigned). x.lit.formula) (get_or-append t (a ∷ []) nothing p r.0) ∙ (r.1 ∙ ap (λ (x : Assigned). x.lit.formula) (sym (get_or-append_seam t a [] nothing)))
        ))
