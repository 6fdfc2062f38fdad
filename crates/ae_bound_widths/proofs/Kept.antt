-- Kept rows with names are the rows of the journal's point.
use Rattle.std.specs.Prelude.{ℕ, Bool, ◌≢◌, ◌⊎◌, List, [], length}
use Rattle.std.specs.List.{AllByRecursion, Contains}
use Rattle.std.proofs.Common.{arith, sym, ap, subst, inl, inr}
use Rattle.ae_math.specs.Forms.{Form}
use Rattle.ae_num.specs.Forms.{meaning, IsNormal}
use Rattle.ae_rows.specs.Rows.{IsOver}
use Rattle.ae_journal.specs.Values.{sum_of_lin}
use Rattle.ae_journal.specs.Standing.{Setting}
use Rattle.ae_journal.specs.Rows.{IsRow}
use Rattle.ae_journal.specs.Points.{NoneLeft}
use Rattle.ae_journal.specs.Licences.{IsLicensed}
use Rattle.ae_journal.specs.declared.lines.Line.{Line}
use Rattle.ae_journal.specs.declared.answers.WideAt.{WideAt}
use Rattle.ae_journal.proofs.Splits.{all_contained}
use Rattle.ae_ineq.specs.Inner.Sets.{last_part}
use Rattle.ae_ineq.specs.Widths.{IsPointWide}
use Rattle.ae_ineq.proofs.LastLaws.{over_none}
use Rattle.ae_point_widths.specs.Laws.{spelled, AreRowsOf}
use Rattle.ae_point_widths.proofs.Steps.{licensed}
use Rattle.ae_bounds.specs.declared.rows.Row.{Row}
use Rattle.ae_bounds.proofs.Zeros.{bare_form, form_zero}
use Rattle.ae_bound_lines.specs.Standing.{AreStanding}
use Rattle.ae_bound_points.specs.Points.{IsNonzeroRow}
use Rattle.ae_bound_points.proofs.Same.{IsSomeOf, wide_same}
use Rattle.ae_bound_points.proofs.Points.{some_top}
use Rattle.ae_bound_widths.specs.Laws.{IsNamedRow, AreAllKept}

module _ (x : Setting) (js : List Line) (rows : List Row) (normal : AllByRecursion (λ (r : Row). IsNormal r.lin) rows) where
  normal_at : (r : Row) → Contains rows r → IsNormal r.lin
  normal_at r c = all_contained (λ (t : Row). IsNormal t.lin) rows r normal c

  -- a form with a largest name has parts
  to_named : (n : ℕ) (f : Form ℕ) → IsSomeOf n f → IsNonzeroRow rows f → IsNamedRow rows f
  to_named n f s h = record {
    row = h.row;
    among = h.among;
    is = h.is;
    names = λ e. (some_top n (meaning h.row.lin) (subst (IsSomeOf n) (sym h.is) s)).there ((over_none h.row.lin 0 (normal_at h.row h.among) (ap last_part e)).absent n (omega arith));
  }

  to_nonzero : (n : ℕ) (f : Form ℕ) → IsSomeOf n f → IsNamedRow rows f → IsNonzeroRow rows f
  to_nonzero n f s h = record { row = h.row; among = h.among; is = h.is; nonzero = λ z. h.names (form_zero h.row.lin (normal_at h.row h.among) z).0 }

  -- rows that stand, with a name
  abbrev Stand : Type 0
  Stand = (r : Row) → Contains rows r → r.lin.parts ≢ [] → IsRow x js r.strict (sum_of_lin r.lin)

  abbrev Named : Type 0
  Named = (r : Row) → Contains rows r → IsOver (length x.names) (meaning r.lin)

  rows_of : Stand → Named → AreAllKept x js rows → AreRowsOf x js (IsNamedRow rows)
  rows_of st names all = record { stand = stand; named = named; covered = all }
    where
      stand : (f : Form ℕ) → IsNamedRow rows f → (strict : Bool) × IsRow x js strict (spelled f)
      stand f h = (h.row.strict, subst (λ (g : Form ℕ). IsRow x js h.row.strict (spelled g)) h.is (st h.row h.among h.names))

      named : (f : Form ℕ) → IsNamedRow rows f → IsOver (length x.names) f
      named f h = subst (IsOver (length x.names)) h.is (names h.row h.among)

  pub kept_licensed_by : (w : WideAt) → ((r : Row) → Contains rows r → r.lin.parts ≢ [] → IsRow x js r.strict (sum_of_lin r.lin)) → ((r : Row) → Contains rows r → IsOver (length x.names) (meaning r.lin)) → AreAllKept x js rows
      → NoneLeft x js → IsPointWide (IsNonzeroRow rows) w → IsLicensed x js w
  kept_licensed_by w st names all none p = licensed x js (IsNamedRow rows) (rows_of st names all) none w (wide_same (IsNonzeroRow rows) (IsNamedRow rows) to_named to_nonzero w p)

  pub kept_licensed : (w : WideAt) → AreStanding x js rows → AreAllKept x js rows → NoneLeft x js → IsPointWide (IsNonzeroRow rows) w → IsLicensed x js w
  kept_licensed w st all none p = kept_licensed_by w stand (λ r c. all_contained (λ (t : Row). IsOver (length x.names) (meaning t.lin)) rows r st.named c) all none p
    where
      stand : (r : Row) → Contains rows r → r.lin.parts ≢ [] → IsRow x js r.strict (sum_of_lin r.lin)
      stand r c m =
          elim (all_contained (λ (t : Row). IsOver 0 (meaning t.lin) ⊎ IsRow x js t.strict (sum_of_lin t.lin)) rows r st.stand c) [ inl o ↦ absurd (m (bare_form r.lin (normal_at r c) o)) | inr s ↦ s ]
