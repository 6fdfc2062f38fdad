-- When kept rows agree with a journal, and what a point of theirs says.
use Rattle.std.specs.Prelude.{Bool, true, List, [], ◌++◌, ◌≡◌, ◌≢◌, Some}
use Rattle.std.specs.List.{Contains}
use Rattle.ae_core.specs.declared.terms.Term.{Term}
use Rattle.ae_core.specs.declared.formulas.Lit.{Lit}
use Rattle.ae_num.specs.Forms.{IsNormal}
use Rattle.ae_journal.specs.Values.{sum_in, minus_val}
use Rattle.ae_journal.specs.States.{at_point, inequality, HoldsAt}
use Rattle.ae_journal.specs.Standing.{Setting, MayStand, IsWholeRow, value_now}
use Rattle.ae_journal.specs.declared.lines.Line.{Line}
use Rattle.ae_journal.specs.declared.systems.PointAt.{PointAt}
use Rattle.ae_bounds.specs.declared.rows.Row.{Row}
use Rattle.ae_bounds.specs.Combinations.{IsExtended}
use Rattle.ae_bound_points.specs.Points.{ArePositiveAt}
use Rattle.ae_bound_rest.specs.Laws.{AreAgreed, AreThoseAssumed}
use Rattle.ae_bound_solve.specs.Widths.{AreNotedOrNone}
use Rattle.ae_agreed_rows.specs.Kept.{AreKeptFor, AreRowsOf, AreStandingLiterals, HasAllThatMay, NoneCombined}

abbrev pub FirstRowsAgree : Type 0
FirstRowsAgree = (x : Setting) (js : List Line) (ls : List Lit) (rows : List Row) → AreKeptFor x js ls rows → AreStandingLiterals x js ls → NoneCombined js → AreAgreed x js rows

abbrev pub MoreRowsAgree : Type 0
MoreRowsAgree = (x : Setting) (js : List Line) (ls : List Lit) (rows more : List Row) → AreAgreed x js rows → AreKeptFor x js ls more → ((l : Lit) → Contains ls l → MayStand x js l) → AreAgreed x js (rows ++ more)

-- rows of more literals beside them
abbrev pub RowsAreOfMore : Type 0
RowsAreOfMore = (x : Setting) (js : List Line) (ls ms : List Lit) (rows more : List Row) → AreRowsOf x js ls rows → AreKeptFor x js ms more → AreRowsOf x js (ls ++ ms) (rows ++ more)

-- where the rows were closed by `Combine` lines and the rest of them was noted
abbrev pub CombinedRowsAreOf : Type 0
CombinedRowsAreOf = (x : Setting) (js middle ks : List Line) (ls : List Lit) (rows rs : List Row) → AreRowsOf x js ls rows → IsExtended rows js rs middle → AreNotedOrNone rs middle ks → AreRowsOf x ks ls rs

abbrev pub ThoseRowsAreAssumed : Type 0
ThoseRowsAreAssumed = (x : Setting) (js : List Line) (ls : List Lit) (rows : List Row) → AreRowsOf x js ls rows → HasAllThatMay x js ls → AreThoseAssumed x js rows

abbrev pub PointsSatisfyLiterals : Type 0
PointsSatisfyLiterals = (x : Setting) (js : List Line) (ls : List Lit) (rows : List Row) (ps : List PointAt) → AreRowsOf x js ls rows → ArePositiveAt (at_point ps) rows
    → (l : Lit) (s t : Term) (strict : Bool) → Contains ls l → inequality l ≡ Some (s, t, strict) → HoldsAt ps strict (sum_in (minus_val (value_now x js s) (value_now x js t)))

-- a row over integers, assumed or combined, stands as one of that sort
abbrev pub WholeRowsStand : Type 0
WholeRowsStand = (x : Setting) (js : List Line) (ls : List Lit) (rows : List Row) (r : Row) → AreRowsOf x js ls rows → ((l : Lit) → Contains ls l → MayStand x js l) → AreAgreed x js rows → Contains rows r
    → r.integral ≡ true → IsNormal r.lin → r.lin.parts ≢ [] → IsWholeRow x js r.strict r.lin
