-- How many fields the records of a type have.
use Rattle.std.specs.Prelude.{ℕ, length, slice_get, Option, Some, None}
use Rattle.ae_base.specs.Options.{◌>>=◌}
use Rattle.ae_core.specs.declared.problems.Signature.{Signature}
use Rattle.ae_core.specs.declared.problems.Kind.{Kind}
use Rattle.ae_core.specs.declared.problems.Kind.TheVariants.{Abstract, Choices, Fields}

abbrev pub count_of : Kind → Option ℕ
count_of Abstract = None
count_of (Choices cs) = None
count_of (Fields fs) = Some (length fs)

abbrev pub count_in : Signature → ℕ → Option ℕ
count_in sig n = slice_get sig.types n >>= λ e. count_of e.kind
