-- What the values of terms look like, by their sorts. Each holds for both ways to evaluate, and for all values put for fresh constants.
use Rattle.std.specs.Prelude.{Bool, List, ◌≡◌, length, Some}
use Rattle.ae_core.specs.Sorts.{sort_of}
use Rattle.ae_core.specs.Signatures.{IsLawful}
use Rattle.ae_core.specs.declared.problems.Signature.{Signature}
use Rattle.ae_core.specs.declared.terms.Sort.{Sort}
use Rattle.ae_core.specs.declared.terms.Term.{Term}
use Rattle.ae_rules.specs.Lines.{IsNumeric}
use Rattle.ae_journal.specs.Evaluate.{Assignment, IsAssignment, value}
use Rattle.ae_journal.specs.Systems.{IsCompleted, record_fields}
use Rattle.ae_journal.specs.Values.{Val, Sum, IsSettled, number, fields, vals}
use Rattle.ae_journal.specs.declared.systems.System.{System}

-- a sum in its one spelling
abbrev pub IsNumber : Val → Type 0
IsNumber v = (f : Sum) × (v ≡ number f) × IsSettled f.parts

-- a list, one value for each field
abbrev pub IsRecordValue : List Sort → Val → Type 0
IsRecordValue ss v = (vs : List Val) × (v ≡ fields (vals vs)) × (length vs ≡ length ss)

-- a term of a numeric sort evaluates to a sum
abbrev pub NumbersAreSums : Type 0
NumbersAreSums =
    (sig : Signature) (y : System) → IsLawful sig → IsCompleted sig y → (way : Bool) (assigned : Assignment)
    → IsAssignment sig y way assigned
    → (t : Term) (s : Sort) → sort_of sig t ≡ Some s → IsNumeric s → IsNumber (value sig y way assigned t)

-- a term of a record type evaluates to as many values as there are fields
abbrev pub RecordsAreLists : Type 0
RecordsAreLists =
    (sig : Signature) (y : System) → IsLawful sig → IsCompleted sig y → (way : Bool) (assigned : Assignment)
    → IsAssignment sig y way assigned
    → (t : Term) (s : Sort) (ss : List Sort) → sort_of sig t ≡ Some s → record_fields sig s ≡ Some ss → IsRecordValue ss
    (value sig y way assigned t)
