-- When a journal licenses the width of a row.
use Rattle.std.specs.Prelude.{Bool, List, ◌≡◌, Some}
use Rattle.ae_core.specs.declared.terms.Term.{Term}
use Rattle.ae_core.specs.declared.formulas.Lit.{Lit}
use Rattle.ae_num.specs.Forms.{IsNormal}
use Rattle.ae_num.specs.declared.forms.Lin.{Lin}
use Rattle.ae_journal.specs.States.{inequality}
use Rattle.ae_journal.specs.Standing.{Setting, MayStand}
use Rattle.ae_journal.specs.Licences.{IsLicensed}
use Rattle.ae_journal.specs.declared.lines.Line.{Line}
use Rattle.ae_journal.specs.declared.answers.WideAt.{WideAt}
use Rattle.ae_name_licences.specs.Laws.{IsNow}
use Rattle.ae_row_differences.specs.Widths.{IsDifferenceWide}

-- the width of the difference of the values of the sides is licensed, where the inequality literal may stand
abbrev pub InequalityWidthsAreLicensed : Type 0
InequalityWidthsAreLicensed = (x : Setting) (js : List Line) (l : Lit) (s t : Term) (strict : Bool) (f g : Lin) (w : WideAt) → MayStand x js l → inequality l ≡ Some (s, t, strict) → IsNow x js s f → IsNow x js t g
    → IsNormal f → IsNormal g → IsDifferenceWide f g w → IsLicensed x js w
