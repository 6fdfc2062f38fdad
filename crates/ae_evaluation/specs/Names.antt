-- A named term evaluates to its name's value.
use Rattle.std.specs.Prelude.{Bool, ◌≡◌, Some}
use Rattle.ae_core.specs.Sorts.{sort_of}
use Rattle.ae_core.specs.Signatures.{IsLawful}
use Rattle.ae_core.specs.declared.problems.Signature.{Signature}
use Rattle.ae_core.specs.declared.terms.Sort.{Sort}
use Rattle.ae_core.specs.declared.terms.Term.{Term}
use Rattle.ae_journal.specs.Evaluate.{Assignment, KeepsNames, value}
use Rattle.ae_journal.specs.Systems.{IsCompleted, ValueOf}
use Rattle.ae_journal.specs.Values.{Val}
use Rattle.ae_journal.specs.declared.systems.System.{System}

-- a predicate's application has no sort, so nothing is said of one
abbrev pub NamesHaveTheirValues : Type 0
NamesHaveTheirValues =
    (sig : Signature) (y : System) → IsLawful sig → IsCompleted sig y → (way : Bool) (assigned : Assignment) → KeepsNames y assigned
    → (t : Term) (s : Sort) (v : Val) → sort_of sig t ≡ Some s → ValueOf y t v → value sig y way assigned t ≡ v
