-- The numbers of a line of sums are within the limits.
use Rattle.std.specs.Prelude.{ℕ, zero, suc, ℤ, pos, neg_ℤ, ◌≡◌, ◌*ℤ◌, ◌<ℤ◌, ◌<◌, ◌*◌, ◌≤◌, ◌^◌, List, [], ◌∷◌, ◌++◌, map, Some, None, Bool, true, false, cond, nat_eq, unsigned_abs}
use Rattle.std.proofs.lemmas.Bool.{leb-false}
use Rattle.std.proofs.Common.{lt_of_le_of_lt, arith, refl, sym, ap, ◌∙◌, subst}
use Rattle.std.specs.List.{AllByRecursion}
use Rattle.std.proofs.lemmas.Int.{unsigned_abs-mul}
use Rattle.ae_num.specs.declared.forms.Part.{Part}
use Rattle.ae_num.specs.declared.forms.Lin.{Lin}
use Rattle.ae_num.specs.Forms.{scale_steps, plus_steps, multiple_of, Step, Product, is_wide, wide_of, first_wide, factor_of, IsNormal}
use Rattle.ae_base.proofs.Integers.{size_positive}
use Rattle.ae_num.specs.Limits.{FitsLimits}
use Rattle.ae_num.specs.Forms.{combine_steps}
use Rattle.ae_ineq.proofs.CombiningLaws.{steps_nested}
use Rattle.ae_ineq.proofs.LastLaws.{all_sizes}

first_fits : (s : Step) (ss : List Step) → first_wide (s ∷ ss) ≡ None → is_wide s ≡ false
first_fits s ss h = by_test (is_wide s) h
  where
    by_test : (b : Bool) → cond b (Some (wide_of s)) (first_wide ss) ≡ None → b ≡ false
    by_test true e = cc
    by_test false e = refl

times_grows : (d m : ℕ) → 0 < m → d ≤ d * m
times_grows d zero h = absurd (omega (arith, h))
times_grows d (suc m) h = omega arith

abbrev rest_steps : ℕ → Lin → Lin → List Step
rest_steps n p q =
    map (λ x. Product x.factor (neg_ℤ (factor_of q.parts n))) p.parts ++ Product p.constant (neg_ℤ (factor_of q.parts n)) ∷ []
    ++ (scale_steps (factor_of p.parts n) p.den q ++ plus_steps (multiple_of (neg_ℤ (factor_of q.parts n)) q.den p) (multiple_of (factor_of p.parts n) p.den q))

pub times_within : (n : ℕ) (p q : Lin) (d m : ℤ) → first_wide (combine_steps p n q) ≡ None → pos 0 <ℤ d → pos 0 <ℤ m → d *ℤ m ≡ p.den *ℤ q.den → FitsLimits d
times_within n p q d m h dp mp e =
    let small : unsigned_abs (p.den *ℤ q.den) < 2 ^ 127 = leb-false (2 ^ 127) (unsigned_abs (p.den *ℤ q.den)) (first_fits (Product p.den q.den) (rest_steps n p q) (sym (steps_nested n p q) ∙ h)) in
    let size : unsigned_abs d * unsigned_abs m ≡ unsigned_abs (p.den *ℤ q.den) = sym (unsigned_abs-mul d m) ∙ ap unsigned_abs e in
    lt_of_le_of_lt (times_grows (unsigned_abs d) (unsigned_abs m) (size_positive m mp)) (subst (λ k. k < 2 ^ 127) (sym size) small)

factor_small : (ps : List Part) (n : ℕ) → AllByRecursion (λ p. FitsLimits p.factor) ps → FitsLimits (factor_of ps n)
factor_small [] n a = let z : 0 ≤ 1 = omega arith in lt_of_le_of_lt z nothing_wide
  where
    nothing_wide : 1 < 2 ^ 127
    nothing_wide = leb-false (2 ^ 127) 1 refl
factor_small (p ∷ ps) n a = by_test (nat_eq p.key n) (factor_small ps n a.1)
  where
    by_test : (b : Bool) → FitsLimits (factor_of ps n) → FitsLimits (cond b p.factor (factor_of ps n))
    by_test true h = a.0
    by_test false h = h

pub factor_within : (p : Lin) (n : ℕ) → IsNormal p → FitsLimits (factor_of p.parts n)
factor_within p n normal = factor_small p.parts n (all_sizes p.parts normal.within.1.1)
