-- Numbers that are their own values, in a system and in the journal that made it.
use Rattle.std.specs.Prelude.{ℕ, List, [], ◌++◌, ◌≡◌, slice_get, Some}
use Rattle.ae_core.specs.declared.problems.Signature.{Signature}
use Rattle.ae_core.specs.declared.terms.Sort.{Sort}
use Rattle.ae_core.specs.declared.terms.Term.{Term}
use Rattle.ae_journal.specs.Legal.{AreLegal}
use Rattle.ae_journal.specs.Standing.{Setting, value_now}
use Rattle.ae_journal.specs.Systems.{IsName}
use Rattle.ae_journal.specs.Values.{meaning}
use Rattle.ae_journal.specs.declared.lines.Line.{Line}
use Rattle.ae_journal.specs.declared.systems.System.{System}
use Rattle.ae_math.specs.Forms.{single}
use Rattle.ae_num.specs.declared.forms.Value.{Value}
use Rattle.ae_rules.specs.Linear.{form}
use Rattle.ae_settled.specs.Valued.{IsOwnNumber}
use Rattle.ae_store.specs.Terms.{HasOneName}

-- numbers that are their own values are opaque terms: nothing computes them of others
abbrev pub AreOpaqueNumbers : Signature → System → Type 0
AreOpaqueNumbers sig y = (sort : Sort) (n : ℕ) (t : Term) → IsOwnNumber sig y sort n → IsName y n t → form t ≡ single t

-- the values of the system's names are those of the journal
abbrev pub AreNow : Setting → List Line → System → Type 0
AreNow x js y = (n : ℕ) (t : Term) (v : Value) → IsName y n t → slice_get y.values n ≡ Some v → value_now x js t ≡ meaning v

abbrev pub OpaqueNumbersAreLeaves : Type 0
OpaqueNumbersAreLeaves = (x : Setting) (bound : ℕ) (js : List Line) (y : System) (more : List Term) → AreLegal x bound [] js → x.names ≡ y.names ++ more → HasOneName y.names → AreNow x js y
    → AreOpaqueNumbers x.problem.signature y
