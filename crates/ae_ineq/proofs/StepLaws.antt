-- Steps that leave the limits, from one operation up to the making of a point.
use Rattle.std.specs.Prelude.{ℕ, zero, suc, ◌≡◌, ◌≢◌, ◌<◌, ◌≤◌, List, [], ◌∷◌, ◌++◌, take, length, Option, Some, None, map}
use Rattle.std.proofs.Common.{arith, refl, sym, subst, inl, inr, get_or}
use Rattle.std.specs.List.{AllByRecursion}
use native.Mathlib.Decide.{ℕ_discrete}
use Rattle.ae_math.specs.Fractions.{ℚ, zero_ℚ, inverse_ℚ, ratio}
use Rattle.ae_math.specs.Forms.{Form, number, substitute}
use Rattle.ae_num.specs.declared.forms.Part.{Part}
use Rattle.ae_num.specs.declared.forms.Lin.{Lin}
use Rattle.ae_num.specs.Forms.{meaning, SameMeaning, IsNormal, first_wide, IfWide}
use Rattle.ae_num.specs.declared.numbers.NumFail.{NumFail}
use Rattle.ae_num.specs.declared.numbers.NumFail.TheVariants.{Wide as WideFail}
use Rattle.ae_rows.specs.Rows.{factor_at, bound_at, LowerBound, UpperBound, IsGreatest, IsLeast}
use Rattle.ae_journal.specs.Licences.{stated_steps}
use Rattle.ae_journal.specs.declared.answers.NumStep.{NumStep}
use Rattle.ae_journal.specs.declared.answers.NumStep.TheVariants.{Plus, Scale, Subst}
use Rattle.ae_journal.specs.declared.answers.WideAt.{WideAt}
use Rattle.std.proofs.Common.{Result, Err, IsErrAnd}
use Rattle.std.proofs.lemmas.Result.{err_from_is_err_and}
use Rattle.ae_ineq.specs.declared.steps.PointFail.{PointFail}
use Rattle.ae_ineq.specs.declared.steps.PointFail.TheVariants.{Wide}
use Rattle.ae_ineq.specs.declared.rows.Row.{Row}
use Rattle.ae_ineq.specs.declared.elimination.Stage.{Stage}
use Rattle.ae_ineq.specs.declared.point.Valuation.{Valuation}
use Rattle.ae_ineq.specs.Widths.{IsAmount, IsPlaced, IsRowStep, IsBoundStep, IsWideAt, IsPointStep, IsPointWide}
use Rattle.ae_ineq.specs.Widths.IsPlaced.{one_more}
use Rattle.ae_ineq.specs.Widths.IsRowStep.{put_value, divide}
use Rattle.ae_ineq.specs.Widths.IsBoundStep.{compare, add, halve, above, beneath}
use Rattle.ae_ineq.specs.Widths.IsPointStep.{of_row, of_bounds}
use Rattle.ae_ineq.specs.Inner.Sets.{HasForm, HasStage, IsStage}
use Rattle.ae_ineq.specs.Inner.Points.{IsNumber, amount, value_in, Agrees, BoundOf, IsGreatestBound, IsLeastBound, AreFalling}
use Rattle.ae_ineq.specs.Inner.Steps.{IsStepOf, IsDifference, IsDivision, IsSideStep, IsChoiceStep, IsWideOf}
use Rattle.ae_ineq.specs.Inner.Steps.IsSideStep.{of_row as side_row, compare as side_compare}
use Rattle.ae_ineq.specs.Inner.Steps.IsChoiceStep.{add as choice_add, halve as choice_halve, above as choice_above, beneath as choice_beneath}
use Rattle.ae_ineq.proofs.Stages.{lower_form, upper_form}
use Rattle.ae_ineq.proofs.PointLaws.{Chosen, stage_here, stage_lowers_are, stage_lowers_all, stage_uppers_are, stage_uppers_all, stage_has_lower, stage_has_upper}

-- ---- one operation
pub step_to : (Q : NumStep → Lin → Option ℕ → Lin → Type 0) (s : NumStep) (l : Lin) (k : Option ℕ) (r : Lin) (t : NumStep) (m : Lin) (j : Option ℕ) (q : Lin) → IsStepOf s l k r t m j q → Q s l k r → Q t m j q
step_to Q s l k r t m j q (a, b, c, d) h =
    subst (λ (x : NumStep). Q x m j q) (sym a) (subst (λ (x : Lin). Q s x j q) (sym b) (subst (λ (x : Option ℕ). Q s l x q) (sym c) (subst (λ (x : Lin). Q s l k x) (sym d) h)))

pub step_wide : (s : NumStep) (l : Lin) (k : Option ℕ) (r : Lin) (w : WideAt) (fail : NumFail) → IsStepOf s l k r w.step w.left w.key w.right → fail ≡ WideFail w.wide → IsNormal l → IsNormal r
    → IfWide fail (λ wide. first_wide (stated_steps s l k r) ≡ Some wide) → IsWideAt (IsStepOf s l k r) w
step_wide s l k r w fail st e nl nr h = record {
  step = st;
  normal = (subst IsNormal (sym st.1) nl, subst IsNormal (sym st.3) nr);
  wide = step_to (λ t m j q. first_wide (stated_steps t m j q) ≡ Some w.wide) s l k r w.step w.left w.key w.right st (subst (λ (f : NumFail). IfWide f (λ wide. first_wide (stated_steps s l k r) ≡ Some wide)) e h);
}

pub wide_from : (Q : NumStep → Lin → Option ℕ → Lin → Type 0) (s : NumStep) (l : Lin) (k : Option ℕ) (r : Lin) (w : WideAt) → IsWideAt (IsStepOf s l k r) w → Q s l k r → IsWideAt Q w
wide_from Q s l k r w h q = record { step = step_to Q s l k r w.step w.left w.key w.right h.step q; normal = h.normal; wide = h.wide }

pub wide_map : (P Q : NumStep → Lin → Option ℕ → Lin → Type 0) (w : WideAt) → ((s : NumStep) (l : Lin) (k : Option ℕ) (r : Lin) → P s l k r → Q s l k r) → IsWideAt P w → IsWideAt Q w
wide_map P Q w f h = record { step = f w.step w.left w.key w.right h.step; normal = h.normal; wide = h.wide }

-- the failure of a call that a `?` hands on
pub same_fail : {S T : Type 0} (r : Result T PointFail) (x : PointFail) (w : WideAt) → IsErrAnd r (λ z. z ≡ x) → r ≡ Err (Wide w) → ◌≡◌ {A = Result S PointFail} (Err x) (Err (Wide w))
same_fail r x w h e =
    let p = err_from_is_err_and r h in
    let k : x ≡ Wide w = cc in
    λ i. Err (k i)

-- ---- numbers
pub amount_is : (l : Lin) (x : ℚ) → IsNumber l → amount l ≡ x → IsAmount l x
amount_is l x n e = record { normal = n.normal; bare = n.bare; value = e }

number_meaning : (l : Lin) (x : ℚ) → IsNumber l → amount l ≡ x → meaning l ≡ number x
number_meaning l x n e = λ i. record { parts = map (λ (p : Part). (p.key, ratio p.factor l.den)) (n.bare i); constant = e i }

-- ---- a value put for a name
pub placed_more : (e : ℕ → ℚ) (row f v h : Lin) (k : ℕ) → IsPlaced e row f → IsNumber v → amount v ≡ e k → SameMeaning (meaning h) (substitute ℕ_discrete (meaning f) k (meaning v)) → IsPlaced e row h
placed_more e row f v h k p n a s = one_more f h k p (subst (λ (g : Form ℕ). SameMeaning (meaning h) (substitute ℕ_discrete (meaning f) k g)) (number_meaning v (e k) n a) s)

pub put_wide : (e : ℕ → ℚ) (n : ℕ) (row f v : Lin) (k : ℕ) (w : WideAt) → IsPlaced e row f → k < n → IsNumber v → amount v ≡ e k → IsWideAt (IsStepOf Subst f (Some k) v) w → IsWideAt (IsRowStep e n row) w
put_wide e n row f v k w p l number a h = wide_from (IsRowStep e n row) Subst f (Some k) v w h (put_value f v k p l (amount_is v (e k) number a))

-- ---- a bound
pub divide_wide : (e : ℕ → ℚ) (n : ℕ) (row f : Lin) (c : ℚ) (w : WideAt) → IsPlaced e row f → ((k : ℕ) → k ≢ n → factor_at k (meaning f) ≡ zero_ℚ) → c ≡ factor_at n (meaning f) → IsWideAt (IsDivision f c) w → IsWideAt (IsRowStep e n row) w
divide_wide e n row f c w p others same = wide_map (IsDivision f c) (IsRowStep e n row) w step
  where
    step : (s : NumStep) (l : Lin) (k : Option ℕ) (r : Lin) → IsDivision f c s l k r → IsRowStep e n row s l k r
    step s l k r (a, b, x, y) =
        subst (λ (t : NumStep). IsRowStep e n row t l k r) (sym a) (subst (λ (j : Option ℕ). IsRowStep e n row Scale l j r) (sym b) (divide f l r p others x (subst (λ z. IsAmount r (inverse_ℚ z)) same y)))

-- ---- bounds of one side
side_difference : (rows : List Row) (e : ℕ → ℚ) (n : ℕ) (x y : Lin) (w : WideAt) → BoundOf rows e n (amount x) → BoundOf rows e n (amount y) → IsWideAt (IsDifference x y) w → IsWideAt (IsSideStep rows e n) w
side_difference rows e n x y w a b = wide_map (IsDifference x y) (IsSideStep rows e n) w step
  where
    step : (s : NumStep) (l : Lin) (k : Option ℕ) (r : Lin) → IsDifference x y s l k r → IsSideStep rows e n s l k r
    step s l k r (c, d, u, v) =
        subst (λ (t : NumStep). IsSideStep rows e n t l k r) (sym c) (subst (λ (j : Option ℕ). IsSideStep rows e n Plus l j r) (sym d) (side_compare (amount x) (amount y) l r a b u v))

take_all : (rs : List Row) (i : ℕ) (f : Form ℕ) → HasForm (take i rs) f → HasForm rs f
take_all [] i f h = absurd (none i h)
  where
    none : (i : ℕ) → HasForm (take i []) f → ⊥
    none zero h = h
    none (suc i) h = h
take_all (r ∷ rs) zero f h = absurd h
take_all (r ∷ rs) (suc i) f (inl e) = inl e
take_all (r ∷ rs) (suc i) f (inr h) = inr (take_all rs i f h)

row_has : (rs : List Row) (i : ℕ) (d : Row) → i < length rs → HasForm rs (meaning (get_or rs i d).lin)
row_has [] i d l = absurd (omega (arith, l))
row_has (r ∷ rs) zero d l = inl refl
row_has (r ∷ rs) (suc i) d l = inr (row_has rs i d (omega (arith, l)))

module _ (rows : List Row) (i : ℕ) (row : Row) (name : ℕ) (point : List Valuation) (l : i < length rows) (is : row ≡ get_or rows i row) (e : ℕ → ℚ) (agrees : Agrees name point e) (w : WideAt) where
  own_form : HasForm rows (meaning row.lin)
  own_form = subst (λ (r : Row). HasForm rows (meaning r.lin)) (sym is) (row_has rows i row l)

  pub row_wide : IsWideAt (IsRowStep e name row.lin) w → IsWideAt (IsSideStep rows e name) w
  row_wide = wide_map (IsRowStep e name row.lin) (IsSideStep rows e name) w (λ s l k r h. side_row row.lin s l k r own_form h)

  wider : (x : ℚ) → BoundOf (take i rows) e name x → BoundOf rows e name x
  wider x (f, h, b) = (f, take_all rows i f h, b)

  module _ (next : Lin) (value : (e : ℕ → ℚ) → Agrees name point e → amount next ≡ bound_at e name (meaning row.lin)) where
    new_bound : BoundOf rows e name (amount next)
    new_bound = (meaning row.lin, own_form, sym (value e agrees))

    pub greater_wide : (found : Option Lin) → IsGreatestBound (take i rows) name point found → IsWideOf (λ old. IsDifference old next) found w → IsWideAt (IsSideStep rows e name) w
    greater_wide None g h = absurd h
    greater_wide (Some b) (n, best) h = side_difference rows e name b next w (wider (amount b) (best e agrees).one) new_bound h

    pub lesser_wide : (found : Option Lin) → IsLeastBound (take i rows) name point found → IsWideOf (λ old. IsDifference next old) found w → IsWideAt (IsSideStep rows e name) w
    lesser_wide None g h = absurd h
    lesser_wide (Some b) (n, best) h = side_difference rows e name next b w new_bound (wider (amount b) (best e agrees).one) h

-- ---- the making of a point
pub from_own : (s : Stage) (ss : List Stage) → AllByRecursion (λ t. s.name < t.name) ss → AllByRecursion (λ t. s.name ≤ t.name) (ss ++ s ∷ [])
from_own s [] a = (omega arith, tt)
from_own s (t ∷ ts) a = (omega (arith, a.0), from_own s ts a.1)

module _ (start ss : List Stage) (s : Stage) (done : List Stage) (made : List Valuation) (split : start ≡ ss ++ s ∷ done) (known : AllByRecursion (IsStage 0) start) (falling : AreFalling start)
    (before : Chosen start made s.name) (w : WideAt) where
  here : (k : ℕ) → k < s.name → value_in made k ≡ value_in made k
  here k h = refl

  made_wide : IsWideAt (IsPointStep (HasStage start) (value_in made) s.name) w → IsPointWide (HasStage start) w
  made_wide h = record { values = value_in made; name = s.name; chosen = before (value_in made) here; wide = h }

  lowers_step : (t : NumStep) (l : Lin) (k : Option ℕ) (r : Lin) → IsSideStep s.lowers (value_in made) s.name t l k r → IsPointStep (HasStage start) (value_in made) s.name t l k r
  lowers_step _ _ _ _ (side_row row t l k r h st) =
      of_row row t l k r (stage_has_lower start ss s done split known falling (meaning row) h) (inl (lower_form s.name s.lowers (meaning row) (stage_here start ss s done split known falling).lower h)) st
  lowers_step _ _ _ _ (side_compare x y l r a b u v) =
      of_bounds Plus l None r
      (compare x y l r (inl (stage_lowers_are start ss s done split known falling (value_in made) x a, stage_lowers_are start ss s done split known falling (value_in made) y b)) u v)

  uppers_step : (t : NumStep) (l : Lin) (k : Option ℕ) (r : Lin) → IsSideStep s.uppers (value_in made) s.name t l k r → IsPointStep (HasStage start) (value_in made) s.name t l k r
  uppers_step _ _ _ _ (side_row row t l k r h st) =
      of_row row t l k r (stage_has_upper start ss s done split known falling (meaning row) h) (inr (upper_form s.name s.uppers (meaning row) (stage_here start ss s done split known falling).upper h)) st
  uppers_step _ _ _ _ (side_compare x y l r a b u v) =
      of_bounds Plus l None r
      (compare x y l r (inr (stage_uppers_are start ss s done split known falling (value_in made) x a, stage_uppers_are start ss s done split known falling (value_in made) y b)) u v)

  pub lowers_wide : IsWideAt (IsSideStep s.lowers (value_in made) s.name) w → IsPointWide (HasStage start) w
  lowers_wide h = made_wide (wide_map (IsSideStep s.lowers (value_in made) s.name) (IsPointStep (HasStage start) (value_in made) s.name) w lowers_step h)

  pub uppers_wide : IsWideAt (IsSideStep s.uppers (value_in made) s.name) w → IsPointWide (HasStage start) w
  uppers_wide h = made_wide (wide_map (IsSideStep s.uppers (value_in made) s.name) (IsPointStep (HasStage start) (value_in made) s.name) w uppers_step h)

  greatest_is : (b : Lin) → IsGreatestBound s.lowers s.name made (Some b) → IsGreatest (LowerBound (HasStage start) (value_in made) s.name) (amount b)
  greatest_is b (n, best) = record {
    one = stage_lowers_are start ss s done split known falling (value_in made) (amount b) (best (value_in made) here).one;
    most = λ y h. (best (value_in made) here).most y (stage_lowers_all start ss s done split known falling (value_in made) y h);
  }

  least_is : (u : Lin) → IsLeastBound s.uppers s.name made (Some u) → IsLeast (UpperBound (HasStage start) (value_in made) s.name) (amount u)
  least_is u (n, best) = record {
    one = stage_uppers_are start ss s done split known falling (value_in made) (amount u) (best (value_in made) here).one;
    least = λ y h. (best (value_in made) here).least y (stage_uppers_all start ss s done split known falling (value_in made) y h);
  }

  choice_step : (lo up : Option Lin) → IsGreatestBound s.lowers s.name made lo → IsLeastBound s.uppers s.name made up → (t : NumStep) (l : Lin) (k : Option ℕ) (r : Lin) → IsChoiceStep lo up t l k r
      → IsBoundStep (LowerBound (HasStage start) (value_in made) s.name) (UpperBound (HasStage start) (value_in made) s.name) t l k r
  choice_step _ _ g m _ _ _ _ (choice_add b u l r x y) = add (amount b) (amount u) l r (greatest_is b g).one (least_is u m).one x y
  choice_step _ _ g m _ _ _ _ (choice_halve b u l r x y) = halve (amount b) (amount u) l r (greatest_is b g) (least_is u m) x y
  choice_step _ _ g m _ _ _ _ (choice_above b l r x y) = above (amount b) l r (greatest_is b g).one x y
  choice_step _ _ g m _ _ _ _ (choice_beneath u l r x y) = beneath (amount u) l r (least_is u m).one x y

  pub choice_wide : (lo up : Option Lin) → IsGreatestBound s.lowers s.name made lo → IsLeastBound s.uppers s.name made up → IsWideAt (IsChoiceStep lo up) w → IsPointWide (HasStage start) w
  choice_wide lo up g m h =
      made_wide (wide_map (IsChoiceStep lo up) (IsPointStep (HasStage start) (value_in made) s.name) w (λ t l k r c. of_bounds t l k r (choice_step lo up g m t l k r c)) h)
