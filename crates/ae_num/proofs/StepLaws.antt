-- The first of some stated products and sums that leaves the limits.
use Rattle.std.specs.Prelude.{ℤ, ◌*ℤ◌, ◌+ℤ◌, ◌≡◌, ◌^◌, true, false, cond, List, [], ◌∷◌, ◌++◌, Some, None, Ok, Err, IsErrAnd, IfErr, unsigned_abs}
use Rattle.std.proofs.Common.{arith, refl, sym, ap, ◌∙◌, subst}
use Rattle.std.proofs.lemmas.Bool.Decides.{nat_tests}
use Rattle.std.proofs.lemmas.Bool.{lt-leb}
use Rattle.ae_num.specs.Limits.{FitsLimits}
use Rattle.std.specs.declared.result.Result.{Result}
use Rattle.std.specs.declared.alloc.AllocError.{AllocError}
use Rattle.ae_num.specs.declared.numbers.Wide.{Wide}
use Rattle.ae_num.specs.declared.numbers.NumFail.{NumFail}
use Rattle.ae_num.specs.declared.numbers.NumFail.TheVariants.{Wide as WideFail, Memory}
use Rattle.ae_num.specs.Forms.{Step, Product, Sum, outcome, is_wide, wide_of, first_wide, crossed, IfWide}

pub fits : (s : Step) → FitsLimits (outcome s) → is_wide s ≡ false
fits s h = lt-leb (2 ^ 127) (unsigned_abs (outcome s)) h

pub leaves : (s : Step) → ¬ (FitsLimits (outcome s)) → is_wide s ≡ true
leaves s h = grind (arith, nat_tests)

pub past : (s : Step) (ss : List Step) → is_wide s ≡ false → first_wide (s ∷ ss) ≡ first_wide ss
past s ss e = ap (λ b. cond b (Some (wide_of s)) (first_wide ss)) e

pub here : (s : Step) (ss : List Step) → is_wide s ≡ true → first_wide (s ∷ ss) ≡ Some (wide_of s)
here s ss e = ap (λ b. cond b (Some (wide_of s)) (first_wide ss)) e

pub second_wide : (a b c d : ℤ) → FitsLimits (a *ℤ b) → ¬ (FitsLimits (c *ℤ d)) → first_wide (crossed a b c d) ≡ Some (wide_of (Product c d))
second_wide a b c d p q = past (Product a b) (Product c d ∷ Sum (a *ℤ b) (c *ℤ d) ∷ []) (fits (Product a b) p) ∙ here (Product c d) (Sum (a *ℤ b) (c *ℤ d) ∷ []) (leaves (Product c d) q)

pub sum_wide : (a b c d : ℤ) → FitsLimits (a *ℤ b) → FitsLimits (c *ℤ d) → ¬ (FitsLimits (a *ℤ b +ℤ c *ℤ d)) → first_wide (crossed a b c d) ≡ Some (wide_of (Sum (a *ℤ b) (c *ℤ d)))
sum_wide a b c d p q r = past (Product a b) (Product c d ∷ Sum (a *ℤ b) (c *ℤ d) ∷ []) (fits (Product a b) p) ∙ past (Product c d) (Sum (a *ℤ b) (c *ℤ d) ∷ []) (fits (Product c d) q) ∙ here (Sum (a *ℤ b) (c *ℤ d)) [] (leaves (Sum (a *ℤ b) (c *ℤ d)) r)

pub all_fit : (a b c d : ℤ) → FitsLimits (a *ℤ b) → FitsLimits (c *ℤ d) → FitsLimits (a *ℤ b +ℤ c *ℤ d) → first_wide (crossed a b c d) ≡ None
all_fit a b c d p q r = past (Product a b) (Product c d ∷ Sum (a *ℤ b) (c *ℤ d) ∷ []) (fits (Product a b) p) ∙ past (Product c d) (Sum (a *ℤ b) (c *ℤ d) ∷ []) (fits (Product c d) q) ∙ past (Sum (a *ℤ b) (c *ℤ d)) [] (fits (Sum (a *ℤ b) (c *ℤ d)) r)

-- ---- after each other
pub first_wide-none : (xs ys : List Step) → first_wide xs ≡ None → first_wide (xs ++ ys) ≡ first_wide ys
first_wide-none [] ys e = refl
first_wide-none (x ∷ xs) ys e =
    elim (is_wide x) as (λ b. cond b (Some (wide_of x)) (first_wide xs) ≡ None → cond b (Some (wide_of x)) (first_wide (xs ++ ys)) ≡ first_wide ys) [
      | true ↦ λ h. cc
      | false ↦ λ h. first_wide-none xs ys h
    ] e

pub first_wide-some : (xs ys : List Step) (w : Wide) → first_wide xs ≡ Some w → first_wide (xs ++ ys) ≡ Some w
first_wide-some [] ys w e = cc
first_wide-some (x ∷ xs) ys w e =
    elim (is_wide x) as (λ b. cond b (Some (wide_of x)) (first_wide xs) ≡ Some w → cond b (Some (wide_of x)) (first_wide (xs ++ ys)) ≡ Some w) [
      | true ↦ λ h. h
      | false ↦ λ h. first_wide-some xs ys w h
    ] e

-- ---- a width as an error
pub wide_err : {A : Type 0} (r : Result A NumFail) (w : Wide) (P : Wide → Type 0) → IsErrAnd r (λ e. e ≡ WideFail w) → P w → IfErr r (λ e. IfWide e P)
wide_err (Ok x) w P h p = tt
wide_err (Err e) w P h p = subst (λ z. IfWide z P) (sym h) p

pub memory_err : {A : Type 0} (r : Result A NumFail) (m : AllocError) (P : Wide → Type 0) → IsErrAnd r (λ e. e ≡ Memory m) → IfErr r (λ e. IfWide e P)
memory_err (Ok x) m P h = tt
memory_err (Err e) m P h = subst (λ z. IfWide z P) (sym h) tt

-- an error that is passed on, and what is said of it
pub same_err : {A : Type 0} (r : Result A NumFail) (e : NumFail) (P Q : Wide → Type 0) → IsErrAnd r (λ x. x ≡ e) → ((w : Wide) → P w → Q w) → IfWide e P → IfErr r (λ x. IfWide x Q)
same_err (Ok a) e P Q h f p = tt
same_err (Err x) e P Q h f p = subst (λ z. IfWide z Q) (sym h) (weaker e p)
  where
    weaker : (e : NumFail) → IfWide e P → IfWide e Q
    weaker (WideFail w) p = f w p
    weaker (Memory m) p = tt

-- the same of another list of steps
pub other_steps : (xs ys : List Step) → xs ≡ ys → (e : NumFail) → IfWide e (λ w. first_wide xs ≡ Some w) → IfWide e (λ w. first_wide ys ≡ Some w)
other_steps xs ys h e p = subst (λ t. IfWide e (λ w. first_wide t ≡ Some w)) h p
