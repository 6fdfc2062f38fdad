-- The factors of the calls' steps have 127 bits beside their signs: they are denominators and factors of values, quotients of products, and signs.
use Rattle.std.specs.Prelude.{ℕ, ℤ, pos, negsuc, neg_ℤ, ◌*ℤ◌, ◌<ℤ◌, ◌<◌, ◌^◌, ◌≡◌, true, List, [], ◌∷◌, unsigned_abs}
use Rattle.std.specs.List.{AllByRecursion}
use Rattle.std.proofs.Common.{arith, sym, ap, ◌∙◌, subst}
use Rattle.std.proofs.lemmas.Bool.{lt-ltb}
use borrow.Author.Differences.{ints}
use mir.Syntax.{w128}
use mir.Val.{SFits}
use Rattle.ae_base.proofs.Integers.{size_neg}
use Rattle.ae_core.specs.Sorts.{within}
use Rattle.ae_core.specs.declared.proofs.Scaled.{Scaled}
use Rattle.ae_num.specs.Limits.{FitsLimits}
use Rattle.ae_num.proofs.ReductionLaws.{read_back}
use Rattle.ae_rules.specs.Built.{AreFactorsWithin}
use Rattle.ae_state_steps.specs.ValueSteps.{sign_of}
use Rattle.ae_value_steps.proofs.Readings.{r}

-- ---- numbers within the limits
pub one_fits : FitsLimits (pos 1)
one_fits = omega arith

pub minus_one_fits : FitsLimits (neg_ℤ (pos 1))
minus_one_fits = omega arith

-- as it is read
pub read_fits : (z : ℤ) → FitsLimits z → FitsLimits (r z)
read_fits z h = subst FitsLimits (sym (read_back z h)) h

positive_size : (z : ℤ) → pos 0 <ℤ z → SFits w128 z → FitsLimits z
positive_size (pos n) p f = f.sfits
positive_size (negsuc n) p f = absurd (omega (arith, ints))

pub positive_fits : (z : ℤ) → pos 0 <ℤ z → SFits w128 z → FitsLimits (r z)
positive_fits z p f = read_fits z (positive_size z p f)

pub negated_fits : (m z : ℤ) → m ≡ neg_ℤ (r z) → FitsLimits z → FitsLimits (r m)
negated_fits m z e h = read_fits m (subst FitsLimits (sym (e ∙ ap neg_ℤ (read_back z h))) (subst (λ n. n < 2 ^ 127) (sym (size_neg z)) h))

pub product_fits : (p x y : ℤ) → p ≡ r x *ℤ r y → FitsLimits x → FitsLimits y → FitsLimits (x *ℤ y) → FitsLimits (r p)
product_fits p x y e f g h = read_fits p (subst FitsLimits (sym (e ∙ (λ i. read_back x f i *ℤ read_back y g i))) h)

signs : (z : ℤ) → FitsLimits (sign_of z)
signs (pos n) = omega arith
signs (negsuc n) = omega arith

pub sign_fits : (s z : ℤ) → s ≡ sign_of z → FitsLimits (r s)
sign_fits s z e = read_fits s (subst FitsLimits (sym e) (signs z))

-- ---- combinations
abbrev AllWithin : List Scaled → Type 0
AllWithin ps = AllByRecursion (λ p. within p.factor ≡ true) ps

is_within : (z : ℤ) → FitsLimits z → within z ≡ true
is_within z h = lt-ltb (unsigned_abs z) (2 ^ 127) h

of_parts : (d : ℤ) (ps qs : List Scaled) → FitsLimits d → AllWithin qs → ps ≡ qs → AreFactorsWithin d ps
of_parts d ps qs h a e = subst (λ (x : List Scaled). AreFactorsWithin d x) (sym e) (is_within d h, a)

pub no_factors : (d : ℤ) (ps : List Scaled) → FitsLimits d → ps ≡ [] → AreFactorsWithin d ps
no_factors d ps h e = of_parts d ps [] h tt e

pub one_factor : (d a : ℤ) (i : ℕ) (ps : List Scaled) → FitsLimits d → FitsLimits a → ps ≡ record { factor = a; line = i } ∷ [] → AreFactorsWithin d ps
one_factor d a i ps h f e = of_parts d ps (record { factor = a; line = i } ∷ []) h (is_within a f, tt) e

pub two_factors : (d a b : ℤ) (i j : ℕ) (ps : List Scaled) → FitsLimits d → FitsLimits a → FitsLimits b → ps ≡ record { factor = a; line = i } ∷ record { factor = b; line = j } ∷ [] → AreFactorsWithin d ps
two_factors d a b i j ps h f g e = of_parts d ps (record { factor = a; line = i } ∷ record { factor = b; line = j } ∷ []) h (is_within a f, (is_within b g, tt)) e

pub three_factors : (d a b c : ℤ) (i j k : ℕ) (ps : List Scaled) → FitsLimits d → FitsLimits a → FitsLimits b → FitsLimits c
    → ps ≡ record { factor = a; line = i } ∷ record { factor = b; line = j } ∷ record { factor = c; line = k } ∷ [] → AreFactorsWithin d ps
three_factors d a b c i j k ps h f g l e =
    of_parts d ps (record { factor = a; line = i } ∷ record { factor = b; line = j } ∷ record { factor = c; line = k } ∷ []) h (is_within a f, (is_within b g, (is_within c l, tt))) e
