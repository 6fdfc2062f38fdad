-- What keeps values in step with lines, and which names represent others.
use Rattle.std.specs.Prelude.{ℕ, ℤ, ◌<◌, ◌≤◌, Bool, true, false, List, [], ◌∷◌, ◌++◌, ◌≡◌, ◌≢◌, map, length, slice_get, Some, None}
use Rattle.ae_math.specs.Fractions.{ratio}
use Rattle.ae_math.specs.Forms.{single}
use Rattle.ae_core.specs.Sorts.{sort_of, is_numeric}
use Rattle.ae_core.specs.Signatures.{IsLawful}
use Rattle.ae_core.specs.declared.terms.Sort.{Sort}
use Rattle.ae_core.specs.declared.terms.Term.{Term, Num, Apply}
use Rattle.ae_core.specs.declared.terms.Head.{Head}
use Rattle.ae_core.specs.declared.terms.Head.TheVariants as head
use Rattle.ae_core.specs.declared.problems.Signature.{Signature}
use Rattle.ae_num.specs.Forms.{SameMeaning, meaning as form_of}
use Rattle.ae_num.specs.declared.forms.Lin.{Lin}
use Rattle.ae_num.specs.declared.forms.Value.{Value, Leaf, Number}
use Rattle.ae_journal.specs.Values.{Val, constant_val, meaning}
use Rattle.ae_journal.specs.Systems.{Has, Represents, own, linear, record_fields}
use Rattle.ae_journal.specs.Journals.{live}
use Rattle.ae_journal.specs.TermValues.{value_by, IsLeast}
use Rattle.ae_journal.specs.Standing.{Setting, Represents as RepresentsNow}
use Rattle.ae_journal.specs.declared.lines.Oriented.TheVariants as oriented
use Rattle.ae_journal.specs.declared.lines.Line.{Line}
use Rattle.ae_journal.specs.declared.lines.Line.TheVariants as line
use Rattle.ae_journal.specs.declared.systems.System.{System}
use Rattle.ae_store.specs.declared.nodes.Node.{Node}
use Rattle.ae_store.specs.Shapes.{shapes}
use Rattle.ae_store.specs.Terms.{terms}
use Rattle.ae_store.specs.Stores.{IsStore}
use Rattle.ae_settled.specs.Held.{Held, terms_of, system_of}
use Rattle.ae_settled.specs.Valued.{AreValues}
use Rattle.ae_value_changes.specs.Put.{IsNumberPut, IsLeafPut, with_values}
use Rattle.ae_name_lines.specs.Closed.{AreClosed, IsAmong}
use Rattle.ae_name_lines.specs.InStep.{AreLineValues, is_solve, SolvesBelow, is_opaque, HasNewNames}

-- the terms of a store hold their parts
abbrev pub StoresAreClosed : Type 0
StoresAreClosed = (sig : Signature) (nodes : List Node) → IsStore sig nodes → AreClosed sig (terms (shapes nodes))

-- ---- more names
-- a term keeps its value where names come behind it
abbrev pub TermsKeepValues : Type 0
TermsKeepValues = (sig : Signature) (ts more : List Term) (js : List Line) (t : Term) → AreClosed sig ts → IsAmong ts t → value_by sig (ts ++ more) js t ≡ value_by sig ts js t

-- and a name its representative
abbrev pub LeastNamesStay : Type 0
LeastNamesStay = (sig : Signature) (ts more : List Term) (js : List Line) (n r : ℕ) → AreClosed sig ts → IsLeast sig ts js n r → IsLeast sig (ts ++ more) js n r

abbrev pub ValuesStayInStep : Type 0
ValuesStayInStep = (sig : Signature) (ts more : List Term) (values : List Value) (js : List Line) → AreClosed sig ts → length values ≡ length ts → AreLineValues sig ts values js
    → AreLineValues sig (ts ++ more) values js

-- new names have the values of their terms, where no line has solved one of them
abbrev pub NewNamesAreInStep : Type 0
NewNamesAreInStep = (sig : Signature) (ts : List Term) (values : List Value) (y : System) (js : List Line) → IsLawful sig → AreClosed sig ts → AreClosed sig y.names → AreValues sig y
    → HasNewNames sig ts values y → SolvesBelow (length ts) js → AreLineValues sig ts values js → AreLineValues sig y.names y.values js

-- ---- lines
-- a `solve` line is in step with its number put for its name
abbrev pub PutNumbersAreInStep : Type 0
PutNumbersAreInStep = (x : Held) (s : Sort) (name : ℕ) (q : Lin) (values : List Value) (js : List Line) → AreClosed x.signature (terms_of x) → AreValues x.signature (system_of x)
    → AreValues x.signature (system_of (with_values x values)) → IsNumberPut x s name q values → AreLineValues x.signature (terms_of x) x.values js
    → AreLineValues x.signature (terms_of x) values (js ++ line.Orient (oriented.Named name (Number q)) ∷ [])

-- and with its leaf
abbrev pub PutLeavesAreInStep : Type 0
PutLeavesAreInStep = (x : Held) (s : Sort) (name m : ℕ) (values : List Value) (js : List Line) → AreClosed x.signature (terms_of x) → AreValues x.signature (system_of x)
    → AreValues x.signature (system_of (with_values x values)) → IsLeafPut x s name m values → AreLineValues x.signature (terms_of x) x.values js
    → AreLineValues x.signature (terms_of x) values (js ++ line.Orient (oriented.Named name (Leaf m)) ∷ [])

-- any other line changes no value
abbrev pub OtherLinesKeepValues : Type 0
OtherLinesKeepValues = (sig : Signature) (ts : List Term) (js : List Line) (j : Line) (t : Term) → is_solve j ≡ false → value_by sig ts (js ++ j ∷ []) t ≡ value_by sig ts js t

abbrev pub OtherLinesKeepStep : Type 0
OtherLinesKeepStep = (sig : Signature) (ts : List Term) (values : List Value) (js : List Line) (j : Line) → is_solve j ≡ false → AreLineValues sig ts values js → AreLineValues sig ts values (js ++ j ∷ [])

-- ---- which names are solved
abbrev pub MoreNamesKeepSolves : Type 0
MoreNamesKeepSolves = (k m : ℕ) (js : List Line) → k ≤ m → SolvesBelow k js → SolvesBelow m js

abbrev pub SolvesGrow : Type 0
SolvesGrow = (k n : ℕ) (v : Value) (js : List Line) → n < k → SolvesBelow k js → SolvesBelow k (js ++ line.Orient (oriented.Named n v) ∷ [])

abbrev pub OtherLinesSolveNothing : Type 0
OtherLinesSolveNothing = (k : ℕ) (js : List Line) (j : Line) → is_solve j ≡ false → SolvesBelow k js → SolvesBelow k (js ++ j ∷ [])

-- ---- values of terms by their kinds
abbrev pub NumeralsAreNumbers : Type 0
NumeralsAreNumbers = (sig : Signature) (ts : List Term) (js : List Line) (a b : ℤ) (real : Bool) → value_by sig ts js (Num a b real) ≡ constant_val (ratio a b)

-- a linear operation has the value that is stated of those of its arguments
abbrev pub OperationsAreStated : Type 0
OperationsAreStated = (sig : Signature) (ts : List Term) (js : List Line) (h : Head) (ss : List Sort) (us : List Term) (v : Val) → linear h (map (λ u. (u, value_by sig ts js u)) us) ≡ Some v
    → value_by sig ts js (Apply h ss us) ≡ v

-- a field has the value of the same field of what has its record's value
abbrev pub FieldsFollowRecords : Type 0
FieldsFollowRecords = (sig : Signature) (ts : List Term) (js : List Line) (k i : ℕ) (ss : List Sort) (a b : Term) → value_by sig ts js a ≡ value_by sig ts js b
    → value_by sig ts js (Apply (head.Field k i) ss (a ∷ [])) ≡ value_by sig ts js (Apply (head.Field k i) ss (b ∷ []))

abbrev pub WrittenFieldsAreArguments : Type 0
WrittenFieldsAreArguments = (sig : Signature) (ts : List Term) (js : List Line) (k l i : ℕ) (ss os : List Sort) (us : List Term) (u : Term) → slice_get us i ≡ Some u
    → value_by sig ts js (Apply (head.Field k i) ss (Apply (head.Build l) os us ∷ [])) ≡ value_by sig ts js u

-- what nothing computes and no line has solved is its own value, where it is of no record sort
abbrev pub UnsolvedTermsAreLeaves : Type 0
UnsolvedTermsAreLeaves = (sig : Signature) (ts : List Term) (js : List Line) (k n : ℕ) (t : Term) (s : Sort) → IsLawful sig → AreClosed sig ts → slice_get ts n ≡ Some t → sort_of sig t ≡ Some s
    → record_fields sig s ≡ None → is_opaque t ≡ true → SolvesBelow k js → k ≤ n → value_by sig ts js t ≡ own s n

-- a number that is once a name, and a name, are own values by their sorts
abbrev pub OwnNumbersAreOwn : Type 0
OwnNumbersAreOwn = (s : Sort) (n : ℕ) (f : Lin) → is_numeric s ≡ true → SameMeaning (form_of f) (single n) → meaning (Number f) ≡ own s n

abbrev pub OwnLeavesAreOwn : Type 0
OwnLeavesAreOwn = (s : Sort) (n : ℕ) → is_numeric s ≡ false → meaning (Leaf n) ≡ own s n

-- ---- representatives
-- the least name of a sort with a value represents each by the lines
abbrev pub LeastNamesRepresent : Type 0
LeastNamesRepresent = (sig : Signature) (y : System) (js : List Line) (s : Sort) (v : Val) (n r : ℕ) → length y.values ≡ length y.names → AreLineValues sig y.names y.values js → Has sig y s v n
    → Represents sig y s v r → IsLeast sig y.names js n r

-- so also in a journal that has more names
abbrev pub LeastNamesRepresentNow : Type 0
LeastNamesRepresentNow = (x : Setting) (y : System) (more : List Term) (js : List Line) (s : Sort) (v : Val) (n r : ℕ) → x.names ≡ y.names ++ more → AreClosed x.problem.signature y.names
    → length y.values ≡ length y.names → AreLineValues x.problem.signature y.names y.values (live js) → Has x.problem.signature y s v n → Represents x.problem.signature y s v r → RepresentsNow x js n r

-- and a name that isn't the least one represents nothing
abbrev pub OtherNamesRepresentNothing : Type 0
OtherNamesRepresentNothing = (x : Setting) (y : System) (more : List Term) (js : List Line) (s : Sort) (v : Val) (n r : ℕ) → x.names ≡ y.names ++ more → AreClosed x.problem.signature y.names
    → length y.values ≡ length y.names → AreLineValues x.problem.signature y.names y.values (live js) → Has x.problem.signature y s v n → Represents x.problem.signature y s v r → r ≢ n
    → (m : ℕ) → ¬ RepresentsNow x js m n
