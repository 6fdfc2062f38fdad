-- Kept rows over integers stand as rows of that sort.
use Rattle.std.specs.Prelude.{◌≡◌, ◌≢◌, true, List, []}
use Rattle.std.specs.List.{Contains}
use Rattle.std.proofs.Common.{refl}
use Rattle.ae_core.specs.declared.formulas.Lit.{Lit}
use Rattle.ae_num.specs.Forms.{IsNormal}
use Rattle.ae_journal.specs.Sides.{AreWhole}
use Rattle.ae_journal.specs.Standing.{Setting, MayStand, IsWholeRow}
use Rattle.ae_journal.specs.Standing.IsWholeRow.{of_combine}
use Rattle.ae_journal.specs.declared.lines.Line.{Line}
use Rattle.ae_journal.proofs.Splits.{all_contained}
use Rattle.ae_bounds.specs.declared.rows.Row.{Row}
use Rattle.ae_bounds.specs.declared.rows.Origin.{Origin}
use Rattle.ae_bounds.specs.declared.rows.Origin.TheVariants.{Assumed, Combined}
use Rattle.ae_bounds.proofs.Zeros.{form_zero}
use Rattle.ae_bound_rest.specs.Laws.{AreAgreed}
use Rattle.ae_agreed_rows.specs.Kept.{AreRowsOf}
use Rattle.ae_agreed_rows.specs.Laws.{WholeRowsStand}
use Rattle.ae_agreed_rows.proofs.Single.{row_whole_stands}

module _ (x : Setting) (js : List Line) (ls : List Lit) (rows : List Row) (r : Row) (of : AreRowsOf x js ls rows) (may : (l : Lit) → Contains ls l → MayStand x js l) (agreed : AreAgreed x js rows) (c : Contains rows r)
    (integral : r.integral ≡ true) (normal : IsNormal r.lin) (some : r.lin.parts ≢ []) where
  by_origin : (o : Origin) → r.from ≡ o → IsWholeRow x js r.strict r.lin
  by_origin (Assumed tag) e = let k = of.each r tag c e in row_whole_stands x js k.0 r k.2 (may k.0 k.1) integral
  by_origin (Combined lower upper) e =
      let n = agreed.noted r lower upper c e (λ z. some (form_zero r.lin normal z).0) in
      of_combine js n.0 n.1 r.strict r.lin n.2 n.3 some
      (all_contained (λ (q : Row). q.integral ≡ true → AreWhole x.problem.signature x.names q.lin) rows r (agreed.standing).whole c integral)

pub whole_rows_stand : WholeRowsStand
whole_rows_stand x js ls rows r of may agreed c integral normal some = by_origin x js ls rows r of may agreed c integral normal some r.from refl
