-- Rows without a combination that is left are a closed set, and its numbers are positive.
use Rattle.std.specs.Prelude.{ℕ, Bool, true, false, ◌||◌, ◌≡◌, Some, List}
use Rattle.std.specs.List.{Contains}
use Rattle.std.proofs.Common.{arith, refl, sym, subst, inl, inr}
use native.Mathlib.Decide.{ℕ_discrete}
use Rattle.ae_math.specs.Fractions.{ℚ, one_ℚ, neg_ℚ, is_positive}
use Rattle.ae_math.specs.Forms.{Form, scale, value}
use Rattle.ae_math.proofs.FormLaws.{scale_one, same_trans}
use Rattle.ae_math.proofs.FractionOrder.{neither_positive}
use Rattle.ae_num.specs.declared.forms.Lin.{Lin}
use Rattle.ae_num.specs.Forms.{meaning}
use Rattle.ae_rows.specs.Rows.{IsOver, IsLower, IsUpper, IsCovered, IsClosed, HasPositiveNumbers, IsPoint, combination}
use Rattle.ae_rows.specs.Rows.IsCovered.{weaker}
use Rattle.ae_rows.proofs.Elimination.{elimination, covered_forms}
use Rattle.ae_rows.proofs.Choosing.{positive_one}
use Rattle.ae_ineq.specs.Sums.{IsZero}
use Rattle.ae_bounds.specs.declared.rows.Row.{Row}
use Rattle.ae_bounds.specs.declared.rows.Unrounded.{Unrounded}
use Rattle.ae_bounds.specs.Rounding.{IsRowOf, HasForm, AreRounded}
use Rattle.ae_bounds.specs.Rounding.IsRowOf.{as_it_is, rounded}
use Rattle.ae_bounds.specs.Rounding.HasForm.{own, assumed}
use Rattle.ae_bounds.specs.Combinations.{IsCombinationOf, AreClosed, HasZero, IsDone}
use Rattle.ae_bounds.proofs.Rounded.{IsWeaker, weaker as row_weaker}
use Rattle.ae_bounds.proofs.Sums.{rounded_nonzero}
use Rattle.ae_bounds.specs.Findings.{NoneIsRefuted}
use Rattle.ae_bounds.proofs.Zeros.{nothing_times}
use Rattle.ae_bounds.proofs.SameDirection.{turned}
use Rattle.ae_bound_points.specs.Points.{IsNonzeroRow}
use Rattle.ae_bound_points.proofs.Weaker.{multiple_weaker, weaker_on}

-- a combination is weaker than its row, which may be rounded
pub combination_weaker : (p q r : Row) (n : ℕ) → IsCombinationOf p q n r → IsWeaker (combination n (meaning p.lin) (meaning q.lin)) (meaning r.lin)
combination_weaker p q r n c = by_row c.of
  where
    whole : Form ℕ
    whole = combination n (meaning p.lin) (meaning q.lin)

    to_form : IsWeaker whole (meaning c.form)
    to_form =
        multiple_weaker whole (meaning c.form)
        (turned (meaning c.form) whole (record { times = one_ℚ; positive = positive_one; same = same_trans ℕ_discrete (scale one_ℚ (meaning c.form)) (meaning c.form) whole (scale_one ℕ_discrete (meaning c.form)) c.same }))

    by_row : IsRowOf c.form (p.strict || q.strict) r → IsWeaker whole (meaning r.lin)
    by_row (as_it_is e s u stays) = subst (λ (l : Lin). IsWeaker whole (meaning l)) (sym e) to_form
    by_row (rounded i m d s u) = weaker_on whole (meaning c.form) (meaning r.lin) to_form (row_weaker (p.strict || q.strict) c.form r.lin c.form_normal m c.normal d)

module _ (rows : List Row) (closed : AreClosed rows) (was : AreRounded rows) (none : NoneIsRefuted rows) (loose : ¬ HasZero rows) where
  -- a form of a row is as weak as the row
  to_row : (g : Form ℕ) (r : Row) (l : Lin) → Contains rows r → HasForm r l → IsWeaker g (meaning l) → IsWeaker g (meaning r.lin)
  to_row g r _ c (own d m) w = w
  to_row g r _ c (assumed d tag u e f) w = let h = was r u c f in weaker_on g (meaning u.lin) (meaning r.lin) w (row_weaker u.strict u.lin r.lin h.normal h.names h.row_normal h.is)

  row_some : (r : Row) (l : Lin) → Contains rows r → HasForm r l → ¬ IsZero (meaning l) → ¬ IsZero (meaning r.lin)
  row_some r _ c (own d m) n = n
  row_some r _ c (assumed d tag u e f) n = let h = was r u c f in rounded_nonzero u.strict u.lin r.lin h.row_normal h.names h.is

  covered : (p q : Row) (n : ℕ) → IsDone rows p q n → IsCovered (IsNonzeroRow rows) (combination n (meaning p.lin) (meaning q.lin))
  covered p q n d =
      let t = d.held.there in
      let f = meaning d.row.lin in
      let whole = combination n (meaning p.lin) (meaning q.lin) in
      let some : ¬ IsZero (meaning t.form) = λ z.
      (let k = nothing_times (meaning t.form) f (record { times = t.times; positive = t.positive; same = t.same }) (record { factors = λ m. z.over.absent m (omega arith); constant = z.constant }) in
      loose (d.held.zero (record { over = record { absent = λ m l. k.factors m }; constant = k.constant }))) in
      let to_form = weaker_on whole f (meaning t.form) (combination_weaker p q d.row n d.of) (multiple_weaker f (meaning t.form) (turned (meaning t.form) f (record { times = t.times; positive = t.positive; same = t.same }))) in
      let w = to_row whole t.row t.form t.among t.of to_form in
      weaker w.times w.positive w.rest w.loose (meaning t.row.lin) (record { row = t.row; among = t.among; is = refl; nonzero = row_some t.row t.form t.among t.of some }) w.same

  rows_closed : IsClosed (IsNonzeroRow rows)
  rows_closed n p q a b low up =
      subst (λ (f : Form ℕ). IsCovered (IsNonzeroRow rows) (combination n f q)) a.is
      (subst (λ (g : Form ℕ). IsCovered (IsNonzeroRow rows) (combination n (meaning a.row.lin) g)) b.is
      (covered a.row b.row n
      (closed n a.row b.row a.among b.among (subst (IsLower n) (sym a.is) low) (subst (IsUpper n) (sym b.is) up))))

  positive_number : (r : Row) → Contains rows r → ¬ IsZero (meaning r.lin) → IsOver 0 (meaning r.lin) → is_positive (meaning r.lin).constant ≡ true
  positive_number r c z o = by_sign (is_positive (meaning r.lin).constant) refl
    where
      by_neg : (b : Bool) → is_positive (neg_ℚ (meaning r.lin).constant) ≡ b → is_positive (meaning r.lin).constant ≡ false → ⊥
      by_neg true e f = none r c (record { over = o; sign = inl e })
      by_neg false e f = z (record { over = o; constant = neither_positive (meaning r.lin).constant f e })

      by_sign : (b : Bool) → is_positive (meaning r.lin).constant ≡ b → is_positive (meaning r.lin).constant ≡ true
      by_sign true e = e
      by_sign false e = absurd (by_neg (is_positive (neg_ℚ (meaning r.lin).constant)) refl e)

  positive_numbers : HasPositiveNumbers (IsNonzeroRow rows)
  positive_numbers f a o = subst (λ (g : Form ℕ). is_positive g.constant ≡ true) a.is (positive_number a.row a.among a.nonzero (subst (IsOver 0) (sym a.is) o))

  pub positive_at : (e : ℕ → ℚ) → IsPoint (IsNonzeroRow rows) e → (r : Row) → Contains rows r → ¬ IsZero (meaning r.lin) → is_positive (value e one_ℚ (meaning r.lin)) ≡ true
  positive_at e point r c z = elimination (IsNonzeroRow rows) e rows_closed positive_numbers point (meaning r.lin) (record { row = r; among = c; is = refl; nonzero = z })

  -- and so is what a row was before it was rounded
  pub positive_before : (e : ℕ → ℚ) → IsPoint (IsNonzeroRow rows) e → (r : Row) (u : Unrounded) → Contains rows r → r.unrounded ≡ Some u → is_positive (value e one_ℚ (meaning u.lin)) ≡ true
  positive_before e point r u c f =
      let h = was r u c f in
      let w = row_weaker u.strict u.lin r.lin h.normal h.names h.row_normal h.is in
      covered_forms (IsNonzeroRow rows) e rows_closed positive_numbers point (meaning u.lin)
      (weaker w.times w.positive w.rest w.loose (meaning r.lin) (record { row = r; among = c; is = refl; nonzero = rounded_nonzero u.strict u.lin r.lin h.row_normal h.names h.is }) w.same)

  -- a row that is 0 isn't strict, since no row can't be
  pub zero_loose : (r : Row) → Contains rows r → IsZero (meaning r.lin) → r.strict ≡ false
  zero_loose r c z = by_strict r.strict refl
    where
      by_strict : (b : Bool) → r.strict ≡ b → r.strict ≡ false
      by_strict false e = e
      by_strict true e = absurd (none r c (record { over = z.over; sign = inr (z.constant, e) }))
