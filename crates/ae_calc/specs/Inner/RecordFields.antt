-- Records: how many fields a type has, and when lines equate the fields of two terms.
use Rattle.std.specs.Prelude.{ℕ, List, length, slice_get, ◌≡◌, Option, Some, None}
use Rattle.ae_base.specs.Options.{◌>>=◌}
use Rattle.ae_rules.specs.Lines.{Equated, fields_from}
use Rattle.ae_core.specs.declared.terms.Sort.{Sort, Named}
use Rattle.ae_core.specs.declared.terms.Term.{Term, Apply}
use Rattle.ae_core.specs.declared.terms.Head.TheVariants as head
use Rattle.ae_core.specs.declared.problems.Signature.{Signature}
use Rattle.ae_core.specs.declared.problems.Kind.{Kind}
use Rattle.ae_core.specs.declared.problems.Kind.TheVariants.{Abstract, Choices, Fields}
use Rattle.ae_core.specs.declared.proofs.EqLine.{EqLine}

abbrev pub count_in : Kind → Option ℕ
count_in Abstract = None
count_in (Choices n) = None
count_in (Fields fs) = Some (length fs)

-- the number of fields of the record type of this number
abbrev pub count_of : Signature → ℕ → Option ℕ
count_of sig n = slice_get sig.types n >>= λ e. count_in e.kind

-- a written record of the type n with these sorts, in which the term stands at this place
abbrev pub IsWritten : Term → ℕ → ℕ → List Sort → Term → Type 0
IsWritten r n place ss t = (args : List Term) × (r ≡ Apply (head.Build n) ss args) × (slice_get args place ≡ Some t)

-- the two sorts are one record sort, and the lines equate the fields of the two terms one by one
abbrev pub AreRecordsEquated : Signature → List EqLine → Option Sort → Option Sort → Term → Term → List ℕ → Type 0
AreRecordsEquated sig earlier from to s t ks =
    (n : ℕ) × (ss : List Sort) × (k : ℕ) × (from ≡ Some (Named n ss)) × (to ≡ Some (Named n ss)) × (count_of sig n ≡ Some k)
    × Equated earlier ks (fields_from n ss s 0 k) (fields_from n ss t 0 k)
