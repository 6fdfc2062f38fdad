-- The steps on linear forms whose products and sums a journal may state: a step outside the limits is an answer only where it is one of them.
use Rattle.std.specs.Prelude.{ℕ, ℤ, pos, ◌<◌, Bool, true, false, List, [], ◌∷◌, ◌++◌, ◌≡◌, ◌⊎◌, Option, Some, None}
use lib.IntN.{neg_ℤ}
use Rattle.ae_math.specs.Fractions.{ℚ, one_ℚ, ratio, inverse_ℚ, neg_ℚ, ◌+ℚ◌}
use Rattle.ae_math.specs.Forms.{is_zero}
use Rattle.ae_rules.specs.Linear.{form, is_number}
use Rattle.ae_core.specs.declared.terms.Sort.{Sort}
use Rattle.ae_core.specs.declared.terms.Term.{Term, Apply, Num}
use Rattle.ae_core.specs.declared.terms.Head.{Head}
use Rattle.ae_core.specs.declared.terms.Head.TheVariants as head
use Rattle.ae_core.specs.declared.terms.Op.{Op}
use Rattle.ae_core.specs.declared.terms.Op.TheVariants as op
use Rattle.ae_core.specs.declared.formulas.Lit.{Lit}
use Rattle.ae_num.specs.Forms.{IsNormal, Step, first_wide, plus_steps, scale_steps, subst_steps, combine_steps}
use Rattle.ae_num.specs.declared.forms.Lin.{Lin}
use Rattle.ae_num.specs.declared.forms.Value.{Value}
use Rattle.ae_journal.specs.Values.{Sum, leaf_factor, minus_val, scale_val, sum_in, sum_of_lin, meaning}
use Rattle.ae_journal.specs.States.{inequality}
use Rattle.ae_journal.specs.TermValues.{put_sum, IsLargest}
use Rattle.ae_journal.specs.Standing.{Setting, IsEntered, MayStand, MayFollow, value_now}
use Rattle.ae_journal.specs.Rows.{IsRow, AreCombined}
use Rattle.ae_journal.specs.Points.{constant_sum, IsPut, half, IsRemaining, IsBound, IsBest, AreConstants}
use Rattle.ae_journal.specs.declared.lines.Oriented.TheVariants as oriented
use Rattle.ae_journal.specs.declared.lines.Line.{Line}
use Rattle.ae_journal.specs.declared.lines.Line.TheVariants as line
use Rattle.ae_journal.specs.declared.answers.NumStep.{NumStep}
use Rattle.ae_journal.specs.declared.answers.NumStep.TheVariants as step
use Rattle.ae_journal.specs.declared.answers.WideAt.{WideAt}

-- ---- the products and sums of a step, in their order
-- the right form of `scale` is a constant
abbrev pub stated_steps : NumStep → Lin → Option ℕ → Lin → List Step
stated_steps step.Plus f None h = plus_steps f h
stated_steps step.Scale f None h = scale_steps h.constant h.den f
stated_steps step.Subst f (Some n) h = subst_steps f n h
stated_steps step.Combine f (Some n) h = combine_steps f n h
stated_steps s f k h = []

-- an operation on numbers of either sort
abbrev pub IsOp : Op → Head → Type 0
IsOp o h = (h ≡ head.Int o) ⊎ (h ≡ head.Real o)

abbrev pub IsEither : ℚ → ℚ → Type 0
IsEither x z = (x ≡ z) ⊎ (x ≡ neg_ℚ z)

module _ (x : Setting) (js : List Line) where
  abbrev pub sum_now : Term → Sum
  sum_now t = sum_in (value_now x js t)

  abbrev pub opposite_now : Term → Sum
  opposite_now t = sum_in (scale_val (neg_ℚ one_ℚ) (value_now x js t))

  abbrev pub difference : Term → Term → Sum
  difference s t = sum_in (minus_val (value_now x js s) (value_now x js t))

  -- a name that applies an operation
  abbrev pub HasName : Op → Term → Term → Type 0
  HasName o a b = (h : Head) × (ss : List Sort) × IsOp o h × IsEntered x js (Apply h ss (a ∷ b ∷ []))

  -- two names whose equation follows from those that may stand
  abbrev pub MayBeSolved : Term → Term → Type 0
  MayBeSolved s t = IsEntered x js s × IsEntered x js t × MayFollow x js s t

  -- `plus`: the operands of a named sum, those of a named difference, two names to be solved, the sides of an inequality literal that may stand
  pub data IsLicensedPlus : Sum → Sum → Type 0 where
    of_sum : (a b : Term) → HasName op.Add a b → IsLicensedPlus (sum_now a) (sum_now b)
    of_subtraction : (a b : Term) → HasName op.Sub a b → IsLicensedPlus (sum_now a) (opposite_now b)
    of_difference : (s t : Term) → MayBeSolved s t → IsLicensedPlus (sum_now s) (opposite_now t)
    of_inequality : (l : Lit) (s t : Term) (strict : Bool) → MayStand x js l → inequality l ≡ Some (s, t, strict) → IsLicensedPlus (sum_now s) (opposite_now t)

  -- `scale`: an operand of a named product or quotient and the constant; the difference of two names to be solved, without its largest name, and the negated inverse of that name's factor
  pub data IsLicensedScale : Sum → ℚ → Type 0 where
    of_left_factor : (a b : Term) → HasName op.Mul a b → is_number (form b) ≡ true → IsLicensedScale (sum_now a) (form b).constant
    of_right_factor : (a b : Term) → HasName op.Mul a b → is_number (form a) ≡ true → IsLicensedScale (sum_now b) (form a).constant
    of_quotient : (ss : List Sort) (a : Term) (m n : ℤ) (r : Bool) → IsEntered x js (Apply (head.Real op.Div) ss (a ∷ Num m n r ∷ [])) → is_zero (ratio m n) ≡ false
        → IsLicensedScale (sum_now a) (inverse_ℚ (ratio m n))
    of_solving : (s t : Term) (n : ℕ) → MayBeSolved s t → IsLargest x.names n (difference s t)
        → IsLicensedScale (put_sum n (constant_sum (ratio (pos 0) (pos 1))) (difference s t)) (neg_ℚ (inverse_ℚ (leaf_factor (difference s t).parts n)))

  -- `subst`: the last line is a `solve`; the left form is the value of a name or a row that stood before it
  pub data IsLicensedSubst : Sum → ℕ → Sum → Type 0 where
    of_value : (before : List Line) (n : ℕ) (v : Value) (t : Term) → js ≡ before ++ line.Orient (oriented.Named n v) ∷ [] → IsEntered x before t
        → IsLicensedSubst (sum_in (value_now x before t)) n (sum_in (meaning v))
    of_row : (before : List Line) (n : ℕ) (v : Value) (strict : Bool) (f : Sum) → js ≡ before ++ line.Orient (oriented.Named n v) ∷ [] → IsRow x before strict f
        → IsLicensedSubst f n (sum_in (meaning v))

  -- the steps, each with its two operands and its key
  pub data IsLicensedStep : NumStep → Sum → Option ℕ → Sum → Type 0 where
    a_plus : (f h : Sum) → IsLicensedPlus f h → IsLicensedStep step.Plus f None h
    a_scale : (f : Sum) (z : ℚ) → IsLicensedScale f z → IsLicensedStep step.Scale f None (constant_sum z)
    a_subst : (f h : Sum) (n : ℕ) → IsLicensedSubst f n h → IsLicensedStep step.Subst f (Some n) h
    -- `combine`: two rows that stand, on the largest name of both
    a_combine : (a b : Bool) (f h : Sum) (n : ℕ) → AreCombined x js a f b h n → IsLicensedStep step.Combine f (Some n) h
    -- the making of a point: constants put into a row, the rest of a row times its inverse factor, two bounds compared or added, a bound and 1, and the sum of two bounds times one half
    put_constant : (constants : ℕ → ℚ) (n k : ℕ) (strict : Bool) (row f : Sum) → AreConstants x js constants n → IsRow x js strict row → IsLargest x.names n row → IsPut constants row f → k < n
        → IsLicensedStep step.Subst f (Some k) (constant_sum (constants k))
    make_bound : (constants : ℕ → ℚ) (n : ℕ) (factor rest z : ℚ) → AreConstants x js constants n → IsRemaining x js constants n factor rest → IsEither z (inverse_ℚ factor)
        → IsLicensedStep step.Scale (constant_sum rest) None (constant_sum z)
    two_bounds : (constants : ℕ → ℚ) (n : ℕ) (a b : Bool) (y z w : ℚ) → AreConstants x js constants n → IsBound x js constants a n y → IsBound x js constants b n z → IsEither w z
        → IsLicensedStep step.Plus (constant_sum y) None (constant_sum w)
    beyond_bound : (constants : ℕ → ℚ) (n : ℕ) (a : Bool) (z w : ℚ) → AreConstants x js constants n → IsBound x js constants a n z → IsEither w one_ℚ
        → IsLicensedStep step.Plus (constant_sum z) None (constant_sum w)
    take_mean : (constants : ℕ → ℚ) (n : ℕ) (y z : ℚ) → AreConstants x js constants n → IsBest x js constants true n y → IsBest x js constants false n z
        → IsLicensedStep step.Scale (constant_sum (y +ℚ z)) None (constant_sum half)

-- a width is licensed where it is the first of its step's products and sums that leaves the limits, and the step is one of these at the end or before the last line
pub record IsLicensed (x : Setting) (js : List Line) (w : WideAt) : Type 0 where
  pub normal : IsNormal w.left × IsNormal w.right
  pub wide : first_wide (stated_steps w.step w.left w.key w.right) ≡ Some w.wide
  pub forms : IsLicensedStep x js w.step (sum_of_lin w.left) w.key (sum_of_lin w.right)
      ⊎ ((before : List Line) × (last : Line) × (js ≡ before ++ last ∷ []) × IsLicensedStep x before w.step (sum_of_lin w.left) w.key (sum_of_lin w.right))
