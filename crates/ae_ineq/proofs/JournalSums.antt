-- The sum that a form has in a journal, at a point, and what an answer says of the inequalities.
use Rattle.std.specs.Prelude.{ℕ, ◌≡◌, nat_lt, List, [], ◌∷◌, map, cond, nat_eq}
use Rattle.std.proofs.Common.{arith, refl, sym, ap, ◌∙◌, inl, inr}
use Rattle.std.proofs.lemmas.Bool.Decides.{nat_tests}
use Rattle.ae_base.proofs.AllOf.{all_weaker}
use Rattle.ae_base.proofs.Tests.{by_bool}
use Rattle.ae_math.specs.Fractions.{ℚ, zero_ℚ, one_ℚ, ◌+ℚ◌, ◌*ℚ◌, ratio, is_positive}
use Rattle.ae_math.specs.Forms.{is_zero, sum_of, value}
use Rattle.ae_math.proofs.FractionLaws.{field, add_mul_q, add_assoc_q, zero_add_q, zero_mul_q}
use Rattle.ae_math.proofs.FormLaws.{zero_is}
use Rattle.ae_num.specs.declared.forms.Part.{Part}
use Rattle.ae_num.specs.declared.forms.Lin.{Lin}
use Rattle.ae_num.specs.Forms.{meaning}
use Rattle.ae_journal.specs.declared.systems.PointAt.{PointAt}
use Rattle.ae_journal.specs.Values.{put_part, enter, settled, sum_of_lin}
use Rattle.ae_journal.specs.States.{at_point, HoldsAt, IsZeroSum}
use Rattle.ae_rows.specs.Rows.{IsSatisfied}
use Rattle.ae_ineq.specs.declared.solving.Inequality.{Inequality}
use Rattle.ae_ineq.specs.declared.solving.Answer.{Answer}
use Rattle.ae_ineq.specs.declared.solving.Answer.TheVariants as answer
use Rattle.ae_ineq.specs.declared.rows.Row.{Row}
use Rattle.ae_ineq.specs.declared.point.Valuation.{Valuation}
use Rattle.ae_ineq.specs.Answers.{IsAnswerTo}
use Rattle.ae_ineq.specs.Inner.Sets.{HasForm}
use Rattle.ae_ineq.specs.Inner.Points.{value_in}
use Rattle.ae_ineq.specs.Inner.Derived.{IsTaken, AreRowsOf, IfPoint, IfSum}

-- ---- the value of a settled sum
module _ (g : ℕ → ℚ) where
  sum-put : (k : ℕ) (x : ℚ) (ps : List (ℕ × ℚ)) → sum_of g (put_part k x ps) ≡ x *ℚ g k +ℚ sum_of g ps
  sum-put k x ps = by_bool (is_zero x) (λ z. ap (λ b. sum_of g (cond b ps ((k, x) ∷ ps))) z ∙ sym (ap (λ t. t *ℚ g k +ℚ sum_of g ps) (zero_is x z) ∙ ap (λ t. t +ℚ sum_of g ps) (zero_mul_q (g k)) ∙ zero_add_q (sum_of g ps)))
      (λ z. ap (λ b. sum_of g (cond b ps ((k, x) ∷ ps))) z)

  swap : (a b c : ℚ) → a +ℚ (b +ℚ c) ≡ b +ℚ (a +ℚ c)
  swap a b c = simp field

  sum-enter : (k : ℕ) (x : ℚ) (ps : List (ℕ × ℚ)) → sum_of g (enter k x ps) ≡ x *ℚ g k +ℚ sum_of g ps
  sum-enter k x [] = sum-put k x []
  sum-enter k x ((l, y) ∷ ps) =
      by_bool (nat_lt l k)
      (λ t.
      let e : enter k x ((l, y) ∷ ps) ≡ (l, y) ∷ enter k x ps = grind (arith, nat_tests, t) in
      ap (sum_of g) e ∙ ap (λ s. y *ℚ g l +ℚ s) (sum-enter k x ps) ∙ swap (y *ℚ g l) (x *ℚ g k) (sum_of g ps))
      (λ t. by_bool (nat_lt k l)
      (λ u.
      let e : enter k x ((l, y) ∷ ps) ≡ put_part k x ((l, y) ∷ ps) = grind (arith, nat_tests, t, u) in
      ap (sum_of g) e ∙ sum-put k x ((l, y) ∷ ps))
      (λ u.
      let e : enter k x ((l, y) ∷ ps) ≡ put_part k (x +ℚ y) ps = grind (arith, nat_tests, t, u) in
      let same : k ≡ l = grind (arith, nat_tests, t, u) in
      ap (sum_of g) e ∙ sum-put k (x +ℚ y) ps ∙ ap (λ s. s +ℚ sum_of g ps) (add_mul_q x y (g k)) ∙ add_assoc_q (x *ℚ g k) (y *ℚ g k) (sum_of g ps)
      ∙ ap (λ n. x *ℚ g k +ℚ (y *ℚ g n +ℚ sum_of g ps)) same))

  sum-settled : (ps : List (ℕ × ℚ)) → sum_of g (settled ps) ≡ sum_of g ps
  sum-settled [] = refl
  sum-settled ((k, x) ∷ ps) = sum-enter k x (settled ps) ∙ ap (λ s. x *ℚ g k +ℚ s) (sum-settled ps)

  pub value_settled : (l : Lin) → value g one_ℚ (sum_of_lin l) ≡ value g one_ℚ (meaning l)
  value_settled l = ap (λ s. s +ℚ one_ℚ *ℚ ratio l.constant l.den) (sum-settled (meaning l).parts)

zero_settled : (l : Lin) → l.parts ≡ [] → (meaning l).constant ≡ zero_ℚ → IsZeroSum (sum_of_lin l)
zero_settled l e z = (ap (λ (ps : List Part). settled (map (λ p. (p.key, ratio p.factor l.den)) ps)) e, z)

-- ---- the point
holds : (rows : List Row) (made : List PointAt) (i : Inequality) → IsSatisfied (HasForm rows) (at_point made) → IsTaken rows i → HoldsAt made i.strict (sum_of_lin i.lin)
holds rows made i s (inl h) = inr (ap is_positive (value_settled (at_point made) i.lin) ∙ s (meaning i.lin) h)
holds rows made i s (inr (z, e, k)) = inl (zero_settled i.lin e z.constant, k)

pub answered : (given : List Inequality) (rows : List Row) (a : Answer) → AreRowsOf given given rows → IfPoint a (λ made. IsSatisfied (HasForm rows) (at_point made)) → IfSum a given → IsAnswerTo given a
answered given rows (answer.Point made) r p s = all_weaker (IsTaken rows) (λ (i : Inequality). HoldsAt made i.strict (sum_of_lin i.lin)) (λ i t. holds rows made i p t) given r.each
answered given rows answer.Tight r p s = s
answered given rows answer.Contradiction r p s = s

-- ---- values as fractions
abbrev pub fraction_at : Valuation → PointAt
fraction_at v = record { name = v.name; top = v.value.constant; bottom = v.value.den }

pub values_at : (vs : List Valuation) (n : ℕ) → at_point (map fraction_at vs) n ≡ value_in vs n
values_at [] n = refl
values_at (v ∷ vs) n = ap (λ t. cond (nat_eq v.name n) (ratio v.value.constant v.value.den) t) (values_at vs n)
