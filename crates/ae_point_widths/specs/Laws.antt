-- The rows of a journal as those of a point, and the licences of the steps that make it.
use Rattle.std.specs.Prelude.{ℕ, Bool, List, length}
use Rattle.ae_math.specs.Forms.{Form}
use Rattle.ae_rows.specs.Rows.{IsOver, IsCovered}
use Rattle.ae_journal.specs.Values.{Sum, settled}
use Rattle.ae_journal.specs.TermValues.{IsLargest}
use Rattle.ae_journal.specs.Standing.{Setting}
use Rattle.ae_journal.specs.Rows.{IsRow}
use Rattle.ae_journal.specs.Points.{NoneLeft}
use Rattle.ae_journal.specs.Licences.{IsLicensed}
use Rattle.ae_journal.specs.declared.lines.Line.{Line}
use Rattle.ae_journal.specs.declared.answers.WideAt.{WideAt}
use Rattle.ae_ineq.specs.declared.elimination.Stage.{Stage}
use Rattle.ae_ineq.specs.Inner.Sets.{HasStage}
use Rattle.ae_ineq.specs.Widths.{IsPointWide}

-- a form in the one spelling of sums
abbrev pub spelled : Form ℕ → Sum
spelled f = record { parts = settled f.parts; constant = f.constant }

-- each of the forms is a row that stands, over the journal's names; and each row that stands and has a name is covered by them
pub record AreRowsOf (x : Setting) (js : List Line) (R : Form ℕ → Type 0) : Type 0 where
  pub stand : (f : Form ℕ) → R f → (strict : Bool) × IsRow x js strict (spelled f)
  pub named : (f : Form ℕ) → R f → IsOver (length x.names) f
  pub covered : (n : ℕ) (strict : Bool) (g : Sum) → IsRow x js strict g → IsLargest x.names n g → IsCovered R g

-- where no combination is left, and the rows of the stages are those that stand, a step that gives a name its value and leaves the limits is licensed
abbrev pub PointWidthsAreLicensed : Type 0
PointWidthsAreLicensed = (x : Setting) (js : List Line) (stages : List Stage) (w : WideAt) → AreRowsOf x js (HasStage stages) → NoneLeft x js → IsPointWide (HasStage stages) w → IsLicensed x js w
