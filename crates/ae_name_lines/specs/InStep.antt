-- Values of names in step with lines: each name's value is what the `solve` lines make of its term.
use Rattle.std.specs.Prelude.{ℕ, ◌<◌, ◌≤◌, Bool, true, false, List, [], ◌∷◌, ◌++◌, ◌≡◌, map, length, slice_get, Option, Some, None}
use Rattle.std.specs.List.{Contains}
use Rattle.ae_core.specs.Sorts.{sort_of}
use Rattle.ae_core.specs.declared.terms.Sort.{Sort}
use Rattle.ae_core.specs.declared.terms.Term.{Term, Term-F, para-Term}
use Rattle.ae_core.specs.declared.terms.Term.TheOpen as layer
use Rattle.ae_core.specs.declared.terms.Head.TheVariants as head
use Rattle.ae_core.specs.declared.problems.Signature.{Signature}
use Rattle.ae_num.specs.declared.forms.Value.{Value}
use Rattle.ae_journal.specs.Values.{Val, meaning, nothing}
use Rattle.ae_journal.specs.Systems.{IsName, linear, own, record_fields}
use Rattle.ae_journal.specs.TermValues.{value_by}
use Rattle.ae_journal.specs.declared.lines.Oriented.TheVariants as oriented
use Rattle.ae_journal.specs.declared.lines.Line.{Line}
use Rattle.ae_journal.specs.declared.lines.Line.TheVariants as line
use Rattle.ae_journal.specs.declared.systems.System.{System}

abbrev pub AreLineValues : Signature → List Term → List Value → List Line → Type 0
AreLineValues sig ts values js = (n : ℕ) (t : Term) (v : Value) → slice_get ts n ≡ Some t → slice_get values n ≡ Some v → meaning v ≡ value_by sig ts js t

-- ---- `solve` lines
-- the line gives a name a value
abbrev pub is_solve : Line → Bool
is_solve (line.Orient (oriented.Named n v)) = true
is_solve _ = false

-- only names below k get values
abbrev pub SolvesBelow : ℕ → List Line → Type 0
SolvesBelow k js = (n : ℕ) (v : Value) → Contains js (line.Orient (oriented.Named n v)) → n < k

-- ---- names that come behind others
abbrev pub is_none : Option Val → Bool
is_none (Some v) = false
is_none None = true

abbrev pub opaque_step : Term-F (Term × Bool) → Bool
opaque_step (layer.Bound n) = false
opaque_step (layer.Num a b real) = false
opaque_step (layer.Fresh n s) = true
opaque_step (layer.Apply (head.Build n) ss args) = false
opaque_step (layer.Apply (head.Field n i) ss (a ∷ [])) = a.1
opaque_step (layer.Apply h ss args) = is_none (linear h (map (λ a. (a.0, nothing)) args))

-- nothing computes the value of a term: it is no numeral, no linear operation and no written record, nor a field, or a field of a field, of one
unfoldable pub is_opaque : Term → Bool
is_opaque = para-Term Bool opaque_step

-- the system has the names of these terms with these values, and more names behind them. What nothing computes of those is its own value, or it is a record.
pub record HasNewNames (sig : Signature) (ts : List Term) (values : List Value) (y : System) : Type 0 where
  pub more : List Term
  pub names : y.names ≡ ts ++ more
  pub one_each : length values ≡ length ts
  pub kept : (n : ℕ) (v : Value) → slice_get values n ≡ Some v → slice_get y.values n ≡ Some v
  pub new : (n : ℕ) (t : Term) (s : Sort) (v : Value) → length ts ≤ n → IsName y n t → is_opaque t ≡ true → sort_of sig t ≡ Some s → record_fields sig s ≡ None → slice_get y.values n ≡ Some v
      → meaning v ≡ own s n
