-- The row of one inequality literal that may stand.
use Rattle.std.specs.Prelude.{◌≡◌, ◌⊎◌, Bool, true, List, length}
use Rattle.std.specs.List.{AllByRecursion}
use Rattle.std.proofs.Common.{sym, ◌∙◌, subst, inr}
use Rattle.std.proofs.lemmas.Option.{none-some}
use Rattle.ae_core.specs.declared.formulas.Lit.{Lit}
use Rattle.ae_num.specs.declared.forms.Part.{Part}
use Rattle.ae_num.specs.declared.forms.Lin.{Lin}
use Rattle.ae_num.specs.Forms.{meaning}
use Rattle.ae_rows.specs.Rows.{IsOver}
use Rattle.ae_journal.specs.Values.{sum_of_lin}
use Rattle.ae_journal.specs.Sides.{AreWhole}
use Rattle.ae_journal.specs.Standing.{Setting, MayStand, IsWholeRow}
use Rattle.ae_journal.specs.Standing.IsWholeRow.{of_inequality, of_rounding}
use Rattle.ae_journal.specs.Rows.{IsRow}
use Rattle.ae_journal.specs.Rows.IsRow.{of_literal, of_whole}
use Rattle.ae_journal.specs.declared.lines.Line.{Line}
use Rattle.ae_rounding.proofs.Whole.{divided_keys}
use Rattle.ae_bounds.specs.declared.rows.Row.{Row}
use Rattle.ae_bounds.specs.Rounding.{IsRowOf, DoesCount, HasForm}
use Rattle.ae_bounds.specs.Rounding.IsRowOf.{as_it_is, rounded}
use Rattle.ae_bounds.specs.Rounding.HasForm.{own, assumed}
use Rattle.ae_bound_rest.specs.Rest.{plain, counted, counted_of}
use Rattle.ae_bound_rest.specs.Laws.{IsStanding, IsSorted}
use Rattle.ae_agreed_rows.specs.Kept.{IsOfRow, IsKeptFor}
use Rattle.ae_agreed_rows.proofs.Forms.{named, whole_names, sorted_whole, sorted_integral}

module _ (x : Setting) (js : List Line) (l : Lit) (r : Row) (k : IsKeptFor x js l r) where
  abbrev form : Lin
  form = k.form

  -- ---- the form that counts
  counted_by : IsRowOf k.form k.strict r → counted r ≡ plain k.form k.strict k.integral r.counts
  counted_by (as_it_is e s u stays) = (λ i. counted_of ((k.kept).from i) (u i) r) ∙ (λ i. plain (e i) (s i) ((k.kept).sort i) r.counts)
  counted_by (rounded j m d s u) = (λ i. counted_of ((k.kept).from i) (u i) r) ∙ (λ i. plain k.form k.strict ((k.kept).sort i) r.counts)

  pub counted_is : counted r ≡ plain k.form k.strict k.integral r.counts
  counted_is = counted_by (k.kept).of

  has_by : DoesCount r → IsRowOf k.form k.strict r → HasForm r k.form
  has_by c (as_it_is e s u stays) = subst (HasForm r) e (own c (λ least. none-some least.earlier (sym u ∙ least.was)))
  has_by c (rounded j m d s u) = assumed c k.number (record { lin = k.form; strict = k.strict }) (k.kept).from u

  pub has_form : r.counts ≡ true → HasForm r k.form
  has_form c = has_by (λ tag e. c) (k.kept).of

  -- ---- its names
  names_by : IsRowOf k.form k.strict r → AllByRecursion (λ (p : Part). IsOfRow x k.integral p.key) r.lin.parts
  names_by (as_it_is e s u stays) = subst (λ (f : Lin). AllByRecursion (λ (p : Part). IsOfRow x k.integral p.key) f.parts) (sym e) (k.of).names
  names_by (rounded j m d s u) = divided_keys (IsOfRow x k.integral) d.divisor k.form.parts r.lin.parts d.divided (k.of).names

  row_names : AllByRecursion (λ (p : Part). IsOfRow x k.integral p.key) r.lin.parts
  row_names = names_by (k.kept).of

  pub row_named : IsOver (length x.names) (meaning r.lin)
  row_named = named x k.integral r.lin (k.kept).normal row_names

  pub row_whole : r.integral ≡ true → AreWhole x.problem.signature x.names r.lin
  row_whole i = whole_names x k.integral r.lin (k.kept).normal row_names (sym (k.kept).sort ∙ i)

  pub row_sorted : IsSorted x r
  row_sorted = record {
    whole = λ n some i. sorted_whole x k.integral r.lin (k.kept).normal row_names n some (sym (k.kept).sort ∙ i);
    integral = λ n some w. (k.kept).sort ∙ sorted_integral x k.integral r.lin (k.kept).normal row_names n some w;
  }

  -- ---- it stands
  module _ (may : MayStand x js l) where
    form_row : IsRow x js k.strict (sum_of_lin k.form)
    form_row = subst (IsRow x js k.strict) (sym (k.of).sum) (of_literal l (k.of).upper (k.of).lower may (k.of).is)

    form_whole : k.integral ≡ true → IsWholeRow x js k.strict k.form
    form_whole i = of_inequality js l (k.of).upper (k.of).lower k.strict k.form may (k.of).is ((k.of).whole i) (k.of).normal (k.of).sum

    stands_by : IsRowOf k.form k.strict r → IsRow x js r.strict (sum_of_lin r.lin)
    stands_by (as_it_is e s u stays) = subst (λ (z : Bool × Lin). IsRow x js z.0 (sum_of_lin z.1)) (λ i. (sym s i, sym e i)) form_row
    stands_by (rounded j m d s u) =
        subst (λ (b : Bool). IsRow x js b (sum_of_lin r.lin)) (sym s) (of_whole r.lin (of_rounding js k.strict k.form r.lin (form_whole (sym (k.kept).sort ∙ j)) d (k.kept).normal))

    pub row_stands : IsOver 0 (meaning r.lin) ⊎ IsRow x js r.strict (sum_of_lin r.lin)
    row_stands = inr (stands_by (k.kept).of)

    whole_by : IsRowOf k.form k.strict r → r.integral ≡ true → IsWholeRow x js r.strict r.lin
    whole_by (as_it_is e s u stays) i = subst (λ (z : Bool × Lin). IsWholeRow x js z.0 z.1) (λ j. (sym s j, sym e j)) (form_whole (sym (k.kept).sort ∙ i))
    whole_by (rounded j m d s u) i = subst (λ (b : Bool). IsWholeRow x js b r.lin) (sym s) (of_rounding js k.strict k.form r.lin (form_whole (sym (k.kept).sort ∙ i)) d (k.kept).normal)

    -- where it is over integers, it stands as a row of that sort
    pub row_whole_stands : r.integral ≡ true → IsWholeRow x js r.strict r.lin
    row_whole_stands = whole_by (k.kept).of

    pub counted_stands : IsStanding x js (counted r)
    counted_stands = subst (IsStanding x js) (sym counted_is) (record { stands = inr form_row; whole = λ i m. form_whole i })
