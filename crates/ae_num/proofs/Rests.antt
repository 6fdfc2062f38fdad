-- A form without a key states nothing wide, and what the difference of two forms states.
use Rattle.std.specs.Prelude.{◌≡◌, ℕ, ◌<◌, ◌^◌, ℤ, pos, ◌*ℤ◌, ◌+ℤ◌, negsuc, List, [], ◌∷◌, ◌++◌, map, cond, true, false, Bool, nat_eq, unsigned_abs, Option, Some, None, Ok, Err, IfErr}
use Rattle.std.specs.declared.result.Result.{Result}
use Rattle.ae_num.specs.declared.numbers.NumFail.{NumFail}
use Rattle.ae_num.specs.declared.numbers.NumFail.TheVariants.{Wide as WideFail, Memory}
use Rattle.std.specs.List.{AllByRecursion, flat_map}
use Rattle.std.proofs.Common.{append_assoc, arith, refl, sym, ap, ◌∙◌, subst}
use borrow.Author.Differences.{ints}
use Rattle.ae_num.specs.Limits.{FitsLimits}
use Rattle.ae_num.specs.declared.forms.Part.{Part}
use Rattle.ae_num.specs.declared.forms.Lin.{Lin}
use Rattle.ae_num.specs.declared.numbers.Wide.{Wide}
use Rattle.ae_num.specs.Forms.{IsNormal, factor_of, others, has_key, keys_of, Step, Product, crossed, first_wide, subst_steps, IfWide}
use Rattle.ae_num.proofs.StepLaws.{fits, past, all_fit, first_wide-none}
use Rattle.ae_math.specs.Fractions.{one_ℚ, neg_ℚ, ratio, frac}

abbrev Nothing : Lin
Nothing = record { den = pos 1; parts = []; constant = pos 0 }

pub small_factor : (ps : List Part) (k : ℕ) → AllByRecursion (λ n. n < 2 ^ 127) (map (λ (p : Part). unsigned_abs p.factor) ps) → unsigned_abs (factor_of ps k) < 2 ^ 127
small_factor [] k h = lit
  where
    lit : unsigned_abs (pos 0) < 2 ^ 127
    lit = omega arith
small_factor (p ∷ ps) k h = by_test (nat_eq p.key k) (small_factor ps k h.1)
  where
    by_test : (b : Bool) → unsigned_abs (factor_of ps k) < 2 ^ 127 → unsigned_abs (cond b p.factor (factor_of ps k)) < 2 ^ 127
    by_test true ih = h.0
    by_test false ih = ih

small_others : (ps : List Part) (key k : ℕ) → AllByRecursion (λ n. n < 2 ^ 127) (map (λ (p : Part). unsigned_abs p.factor) ps) → AllByRecursion (λ n. n < 2 ^ 127) (map (λ (p : Part). unsigned_abs p.factor) (others ps key))
small_others [] key k h = tt
small_others (p ∷ ps) key k h = by_test (nat_eq p.key key) (small_others ps key k h.1)
  where
    by_test : (b : Bool) → AllByRecursion (λ n. n < 2 ^ 127) (map (λ (p : Part). unsigned_abs p.factor) (others ps key))
        → AllByRecursion (λ n. n < 2 ^ 127) (map (λ (p : Part). unsigned_abs p.factor) (cond b (others ps key) (p ∷ others ps key)))
    by_test true ih = ih
    by_test false ih = (h.0, ih)

abbrev Within : ℤ → Type 0
Within z = FitsLimits z

fits_once : (a : ℤ) → Within a → Within (a *ℤ pos 1)
fits_once a h =
    let once : a *ℤ pos 1 ≡ a = omega (arith, ints) in
    subst Within (sym once) h

zero_times : (c : ℤ) → c *ℤ pos 0 ≡ pos 0
zero_times c = omega (arith, ints)

plus_zero : (a c : ℤ) → a *ℤ pos 1 +ℤ c *ℤ pos 0 ≡ a
plus_zero a c = omega (arith, ints)

crossed_fits : (a c : ℤ) → FitsLimits a → first_wide (crossed a (pos 1) c (pos 0)) ≡ None
crossed_fits a c h = all_fit a (pos 1) c (pos 0) (fits_once a h) (subst Within (sym (zero_times c)) (omega arith)) (subst Within (sym (plus_zero a c)) h)

all_crossed : (f : ℕ → List Step) (ys : List ℕ) (zs : List Step) → ((y : ℕ) → first_wide (f y) ≡ None) → first_wide (flat_map f ys ++ zs) ≡ first_wide zs
all_crossed f [] zs h = refl
all_crossed f (y ∷ ys) zs h = ap first_wide (append_assoc (f y) (flat_map f ys) zs) ∙ first_wide-none (f y) (flat_map f ys ++ zs) (h y) ∙ all_crossed f ys zs h

pub nothing_wide : (p : Lin) (key : ℕ) → IsNormal p → first_wide (subst_steps p key Nothing) ≡ None
nothing_wide p key n = by_test (has_key p.parts key)
  where
    rest_small : (y : ℕ) → FitsLimits (factor_of (others p.parts key) y)
    rest_small y = small_factor (others p.parts key) y (small_others p.parts key y n.within.1.1)

    by_test : (b : Bool) → first_wide (cond b
        (Product p.den (pos 1) ∷ flat_map (λ y. crossed (factor_of (others p.parts key) y) (pos 1) (factor_of p.parts key) (factor_of [] y)) (keys_of (others p.parts key) [])
        ++ crossed p.constant (pos 1) (factor_of p.parts key) (pos 0)) []) ≡ None
    by_test false = refl
    by_test true =
        past (Product p.den (pos 1)) (flat_map (λ y. crossed (factor_of (others p.parts key) y) (pos 1) (factor_of p.parts key) (pos 0)) (keys_of (others p.parts key) []) ++ crossed p.constant (pos 1) (factor_of p.parts key) (pos 0)) (fits (Product p.den (pos 1)) (fits_once p.den n.within.0))
        ∙ all_crossed (λ y. crossed (factor_of (others p.parts key) y) (pos 1) (factor_of p.parts key) (pos 0)) (keys_of (others p.parts key) []) (crossed p.constant (pos 1) (factor_of p.parts key) (pos 0)) (λ y. crossed_fits (factor_of (others p.parts key) y) (factor_of p.parts key) (rest_small y))
        ∙ crossed_fits p.constant (factor_of p.parts key) n.within.1.0

pub never_wide : {A : Type 0} (r : Result A NumFail) (w : Option Wide) → w ≡ None → IfErr r (λ e. IfWide e (λ x. w ≡ Some x)) → IfErr r (λ e. IfWide e (λ x. ⊥))
never_wide (Ok a) w e h = tt
never_wide (Err (WideFail x)) w e h = cc
never_wide (Err (Memory m)) w e h = tt

-- the difference's steps come after those of the negation
pub after_none : (xs ys zs : List Step) → first_wide xs ≡ None → ys ≡ zs → first_wide (xs ++ zs) ≡ first_wide ys
after_none xs ys zs h e = first_wide-none xs zs h ∙ ap first_wide (sym e)

pub minus_one_ratio : ratio (negsuc 0) (pos 1) ≡ neg_ℚ one_ℚ
unfolding neg_ℚ one_ℚ frac std.Quotient./_rec
minus_one_ratio = refl
