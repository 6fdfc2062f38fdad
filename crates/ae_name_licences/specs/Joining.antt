-- Names whose values are in step with a journal, and two of them whose equation follows.
use Rattle.std.specs.Prelude.{ℕ, pos, negsuc, List, ◌++◌, ◌≡◌, slice_get, Some}
use Rattle.ae_core.specs.declared.terms.Term.{Term}
use Rattle.ae_math.specs.Fractions.{ratio}
use Rattle.ae_math.specs.Forms.{scale}
use Rattle.ae_num.specs.Forms.{meaning, SameMeaning, IsNormal, multiple_of}
use Rattle.ae_num.specs.declared.forms.Lin.{Lin}
use Rattle.ae_num.specs.declared.forms.Value.{Value}
use Rattle.ae_journal.specs.Systems.{IsName}
use Rattle.ae_journal.specs.Journals.{live}
use Rattle.ae_journal.specs.Standing.{Setting, IsEntered, MayFollow}
use Rattle.ae_journal.specs.declared.lines.Line.{Line}
use Rattle.ae_journal.specs.declared.systems.System.{System}
use Rattle.ae_settled.specs.Valued.{AreValues}
use Rattle.ae_name_lines.specs.Closed.{AreClosed}
use Rattle.ae_name_lines.specs.InStep.{AreLineValues}

-- the names of the system are names of the journal, which has more behind them, and their values are in step with its lines
pub record IsInStepWith (x : Setting) (js : List Line) (y : System) : Type 0 where
  pub more : List Term
  pub names : x.names ≡ y.names ++ more
  pub entered : (n : ℕ) (t : Term) → IsName y n t → IsEntered x js t
  pub closed : AreClosed x.problem.signature y.names
  pub values : AreValues x.problem.signature y
  pub step : AreLineValues x.problem.signature y.names y.values (live js)

-- two names with these values, whose equation follows from those that may stand
pub record MayJoin (x : Setting) (js : List Line) (y : System) (v w : Value) : Type 0 where
  pub first : ℕ
  pub second : ℕ
  pub left : Term
  pub right : Term
  pub first_is : IsName y first left
  pub second_is : IsName y second right
  pub first_value : slice_get y.values first ≡ Some v
  pub second_value : slice_get y.values second ≡ Some w
  pub follows : MayFollow x js left right

-- the form times -1, in the normal form
pub record IsNegation (g h : Lin) : Type 0 where
  pub normal : IsNormal h
  pub form : h ≡ multiple_of (negsuc 0) (pos 1) g
  pub means : SameMeaning (meaning h) (scale (ratio (negsuc 0) (pos 1)) (meaning g))
