-- The products and sums of a form that a rule makes of two.
use Rattle.std.specs.Prelude.{ℕ, ℤ, pos, ◌≡◌, ◌<◌, ◌^◌, ◌*ℤ◌, Bool, true, false, cond, List, [], ◌∷◌, ◌++◌, map, Some, None, unsigned_abs}
use Rattle.std.specs.List.{flat_map, AllByRecursion}
use Rattle.std.proofs.Common.{refl, sym, ap, ◌∙◌, subst, ◌<ℤ◌}
use Rattle.std.proofs.lemmas.Bool.{leb-false}
use Rattle.ae_num.specs.declared.numbers.Wide.{Wide}
use Rattle.ae_num.specs.declared.forms.Lin.{Lin}
use Rattle.ae_num.specs.declared.forms.Part.{Part}
use Rattle.ae_num.specs.declared.pairs.Pair.{Pair}
use Rattle.ae_num.specs.declared.sums.Combination.{Combination}
use Rattle.ae_num.specs.declared.sums.Combination.TheVariants.{Sum as SumRule, Substitution, Multiple}
use Rattle.ae_num.specs.Limits.{FitsLimits}
use Rattle.ae_num.specs.Forms.{Step, Product, Sum, outcome, is_wide, wide_of, first_wide, crossed, factor_of, keys_of, has_key, others, IsRising, sizes, plus_steps, scale_steps, subst_steps}
use Rattle.ae_num.specs.Inner.Pairs.{pair_at, pairs_of, combined, outcome_of, steps_of, all_steps}
use Rattle.ae_num.specs.Inner.Reduction.{whole_of, whole_steps}
use Rattle.ae_num.proofs.StepLaws.{first_wide-none, first_wide-some}
use Rattle.ae_num.proofs.PairLaws.{only_left}
use Rattle.ae_num.proofs.SumLaws.{AllWithin, within_kept, NonZero, combined_rising, combined_nonzero}
use Rattle.ae_num.proofs.MeaningLaws.{product_positive}

module _ (m : Combination) (p q : Lin) (den : first_wide (Product p.den q.den ∷ []) ≡ None) where
  after_den : first_wide (whole_steps m p q) ≡ first_wide (all_steps m (pairs_of p.parts q.parts) ++ steps_of m p.constant q.constant)
  after_den = first_wide-none (Product p.den q.den ∷ []) (all_steps m (pairs_of p.parts q.parts) ++ steps_of m p.constant q.constant) den

  pub parts_wide : (xs : List Pair) (w : Wide) → xs ≡ pairs_of p.parts q.parts → first_wide (all_steps m xs) ≡ Some w → first_wide (whole_steps m p q) ≡ Some w
  parts_wide xs w e h = after_den ∙ first_wide-some (all_steps m (pairs_of p.parts q.parts)) (steps_of m p.constant q.constant) w (ap (λ t. first_wide (all_steps m t)) (sym e) ∙ h)

  after_parts : (xs : List Pair) (r : Pair) → xs ≡ pairs_of p.parts q.parts → first_wide (all_steps m xs) ≡ None → r ≡ record { key = 0; left = p.constant; right = q.constant }
      → first_wide (whole_steps m p q) ≡ first_wide (steps_of m r.left r.right)
  after_parts xs r e h f =
      after_den ∙ first_wide-none (all_steps m (pairs_of p.parts q.parts)) (steps_of m p.constant q.constant) (ap (λ t. first_wide (all_steps m t)) (sym e) ∙ h)
      ∙ ap (λ (t : Pair). first_wide (steps_of m t.left t.right)) (sym f)

  pub constant_wide : (xs : List Pair) (r : Pair) (w : Wide) → xs ≡ pairs_of p.parts q.parts → first_wide (all_steps m xs) ≡ None → r ≡ record { key = 0; left = p.constant; right = q.constant }
      → first_wide (steps_of m r.left r.right) ≡ Some w → first_wide (whole_steps m p q) ≡ Some w
  constant_wide xs r w e h f g = after_parts xs r e h f ∙ g

  pub whole_fits : (xs : List Pair) (r : Pair) → xs ≡ pairs_of p.parts q.parts → first_wide (all_steps m xs) ≡ None → r ≡ record { key = 0; left = p.constant; right = q.constant }
      → first_wide (steps_of m r.left r.right) ≡ None → first_wide (whole_steps m p q) ≡ None
  whole_fits xs r e h f g = after_parts xs r e h f ∙ g

-- ---- the stated lists are those of the rules
plus_parts : (p q : Lin) (ys : List ℕ) → flat_map (λ y. crossed (factor_of p.parts y) q.den (factor_of q.parts y) p.den) ys ≡ all_steps (SumRule q.den p.den) (map (pair_at p.parts q.parts) ys)
plus_parts p q [] = refl
plus_parts p q (y ∷ ys) = ap (λ t. crossed (factor_of p.parts y) q.den (factor_of q.parts y) p.den ++ t) (plus_parts p q ys)

pub plus_stated : (p q : Lin) → plus_steps p q ≡ whole_steps (SumRule q.den p.den) p q
plus_stated p q = ap (λ t. Product p.den q.den ∷ t ++ crossed p.constant q.den q.constant p.den) (plus_parts p q (keys_of p.parts q.parts))

subst_parts : (rest : List Part) (c : ℤ) (q : Lin) (ys : List ℕ) → flat_map (λ y. crossed (factor_of rest y) q.den c (factor_of q.parts y)) ys ≡ all_steps (Substitution q.den c) (map (pair_at rest q.parts) ys)
subst_parts rest c q [] = refl
subst_parts rest c q (y ∷ ys) = ap (λ t. crossed (factor_of rest y) q.den c (factor_of q.parts y) ++ t) (subst_parts rest c q ys)

pub subst_stated : (p q : Lin) (key : ℕ) → has_key p.parts key ≡ true → subst_steps p key q ≡ whole_steps (Substitution q.den (factor_of p.parts key)) (record p { parts = others p.parts key }) q
subst_stated p q key h =
    let c = factor_of p.parts key in
    let rest = others p.parts key in
    let steps : List Step = Product p.den q.den ∷ flat_map (λ y. crossed (factor_of rest y) q.den c (factor_of q.parts y)) (keys_of rest q.parts) ++ crossed p.constant q.den c q.constant in
    ap (λ b. cond b steps []) h ∙ ap (λ t. Product p.den q.den ∷ t ++ crossed p.constant q.den c q.constant) (subst_parts rest c q (keys_of rest q.parts))

pub subst_silent : (p q : Lin) (key : ℕ) → has_key p.parts key ≡ false → subst_steps p key q ≡ []
subst_silent p q key h =
    let c = factor_of p.parts key in
    let rest = others p.parts key in
    let steps : List Step = Product p.den q.den ∷ flat_map (λ y. crossed (factor_of rest y) q.den c (factor_of q.parts y)) (keys_of rest q.parts) ++ crossed p.constant q.den c q.constant in
    ap (λ b. cond b steps []) h

scale_parts : (top : ℤ) (ps : List Part) → IsRising ps → map (λ x. Product x.factor top) ps ≡ all_steps (Multiple top) (pairs_of ps [])
scale_parts top [] r = refl
scale_parts top (p ∷ ps) r = ap (λ t. Product p.factor top ∷ t) (scale_parts top ps r.1) ∙ ap (all_steps (Multiple top)) (sym (only_left p ps r))

pub scale_stated : (top bottom : ℤ) (p : Lin) → IsRising p.parts → scale_steps top bottom p ≡ whole_steps (Multiple top) p (record { den = bottom; parts = []; constant = pos 0 })
scale_stated top bottom p r = ap (λ t. Product p.den bottom ∷ t ++ Product p.constant top ∷ []) (scale_parts top p.parts r)

-- ---- where no step is wide the numbers are within the limits
inside : (s : Step) → is_wide s ≡ false → FitsLimits (outcome s)
inside s e = leb-false (2 ^ 127) (unsigned_abs (outcome s)) e

head_fits : (s : Step) (ss : List Step) → first_wide (s ∷ ss) ≡ None → FitsLimits (outcome s) × (first_wide ss ≡ None)
head_fits s ss = by_test (is_wide s) refl
  where
    by_test : (b : Bool) → is_wide s ≡ b → cond b (Some (wide_of s)) (first_wide ss) ≡ None → FitsLimits (outcome s) × (first_wide ss ≡ None)
    by_test true e h = cc
    by_test false e h = (inside s e, h)

both_fit : (xs ys : List Step) → first_wide (xs ++ ys) ≡ None → (first_wide xs ≡ None) × (first_wide ys ≡ None)
both_fit [] ys h = (refl, h)
both_fit (x ∷ xs) ys h =
    elim (is_wide x) as (λ b. cond b (Some (wide_of x)) (first_wide (xs ++ ys)) ≡ None → (cond b (Some (wide_of x)) (first_wide xs) ≡ None) × (first_wide ys ≡ None)) [
      | true ↦ λ e. cc
      | false ↦ λ e. both_fit xs ys e
    ] h

outcome_within : (m : Combination) (a b : ℤ) → first_wide (steps_of m a b) ≡ None → FitsLimits (outcome_of m a b)
outcome_within (SumRule by other) a b h = (head_fits (Sum (a *ℤ by) (b *ℤ other)) [] (head_fits (Product b other) (Sum (a *ℤ by) (b *ℤ other) ∷ []) (head_fits (Product a by) (Product b other ∷ Sum (a *ℤ by) (b *ℤ other) ∷ []) h).1).1).0
outcome_within (Substitution by factor) a b h = (head_fits (Sum (a *ℤ by) (factor *ℤ b)) [] (head_fits (Product factor b) (Sum (a *ℤ by) (factor *ℤ b) ∷ []) (head_fits (Product a by) (Product factor b ∷ Sum (a *ℤ by) (factor *ℤ b) ∷ []) h).1).1).0
outcome_within (Multiple by) a b h = (head_fits (Product a by) [] h).0

combined_within : (m : Combination) (rs : List Pair) → first_wide (all_steps m rs) ≡ None → AllWithin (combined (outcome_of m) rs)
combined_within m [] h = tt
combined_within m (r ∷ rs) h =
    let parts = both_fit (steps_of m r.left r.right) (all_steps m rs) h in
    within_kept (record { key = r.key; factor = outcome_of m r.left r.right }) (combined (outcome_of m) rs) (outcome_within m r.left r.right parts.0) (combined_within m rs parts.1)

pub whole_within : (m : Combination) (p q : Lin) → first_wide (whole_steps m p q) ≡ None → AllByRecursion (λ n. n < 2 ^ 127) (sizes (whole_of m p q).den (whole_of m p q).parts (whole_of m p q).constant)
whole_within m p q h =
    let d = head_fits (Product p.den q.den) (all_steps m (pairs_of p.parts q.parts) ++ steps_of m p.constant q.constant) h in
    let b = both_fit (all_steps m (pairs_of p.parts q.parts)) (steps_of m p.constant q.constant) d.1 in
    (d.0, (outcome_within m p.constant q.constant b.1, combined_within m (pairs_of p.parts q.parts) b.0))

pub whole_rising : (m : Combination) (p q : Lin) (w : Lin) → w ≡ whole_of m p q → IsRising q.parts → IsRising w.parts
whole_rising m p q w e r = subst (λ (l : Lin). IsRising l.parts) (sym e) (combined_rising (outcome_of m) p.parts q.parts r)

pub whole_nonzero : (m : Combination) (p q : Lin) (w : Lin) → w ≡ whole_of m p q → NonZero w.parts
whole_nonzero m p q w e = subst (λ (l : Lin). NonZero l.parts) (sym e) (combined_nonzero (outcome_of m) p.parts q.parts)

pub whole_small : (m : Combination) (p q : Lin) (w : Lin) → w ≡ whole_of m p q → first_wide (whole_steps m p q) ≡ None → AllByRecursion (λ n. n < 2 ^ 127) (sizes w.den w.parts w.constant)
whole_small m p q w e h = subst (λ (l : Lin). AllByRecursion (λ n. n < 2 ^ 127) (sizes l.den l.parts l.constant)) (sym e) (whole_within m p q h)

pub whole_positive : (m : Combination) (p q : Lin) (w : Lin) → w ≡ whole_of m p q → pos 0 <ℤ p.den → pos 0 <ℤ q.den → pos 0 <ℤ w.den
whole_positive m p q w e a b = subst (λ (l : Lin). pos 0 <ℤ l.den) (sym e) (product_positive p.den q.den a b)
