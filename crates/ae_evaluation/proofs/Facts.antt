-- What the proof that evaluation respects plain lines asks of values.
use Rattle.std.specs.Prelude.{ℕ, Bool, true, List, ◌++◌, ◌≡◌, ◌⊎◌, Option, Some}
use Rattle.ae_core.specs.Sorts.{sort_of}
use Rattle.ae_core.specs.declared.terms.Sort.{Sort, Int, Real}
use Rattle.ae_core.specs.declared.terms.Term.{Term}
use Rattle.ae_core.specs.declared.terms.Head.{Head}
use Rattle.ae_core.specs.declared.problems.Signature.{Signature}
use Rattle.ae_rules.specs.Linear.{is_plain}
use Rattle.ae_multiset.specs.Multisets.{IsSame}
use Rattle.ae_journal.specs.Values.{Val}
use Rattle.ae_journal.specs.Keys.{Numbering}
use Rattle.ae_journal.specs.Systems.{record_fields}
use Rattle.ae_journal.specs.Evaluation.{ev}
use Rattle.ae_journal.specs.declared.systems.System.{System}
use Rattle.ae_evaluation.specs.Shapes.{IsNumber, IsRecordValue}

-- what evaluation needs of reduction
pub record Reduces (nf : List ℕ → List ℕ) : Type 0 where
  pub alike : (a b : List ℕ) → IsSame a b → nf a ≡ nf b
  pub first : (a b : List ℕ) → nf (nf a ++ b) ≡ nf (a ++ b)
  pub second : (a b : List ℕ) → nf (a ++ nf b) ≡ nf (a ++ b)

module _ (sig : Signature) (y : System) (num : Numbering) (reduce : Head → List Sort → List ℕ → List ℕ) (choosing : Bool)
    (assigned : ℕ → Sort → Option Val) where
  abbrev pub IsNum : Term → Type 0
  IsNum t = IsNumber (ev sig y num reduce choosing assigned t)

  -- the values of terms have the shape that their sorts ask for
  pub record Shapes : Type 0 where
    pub numbers : (t : Term) (s : Sort) → sort_of sig t ≡ Some s → (s ≡ Int) ⊎ (s ≡ Real) → IsNum t
    pub records : (t : Term) (s : Sort) (ss : List Sort) → sort_of sig t ≡ Some s → record_fields sig s ≡ Some ss → IsRecordValue ss
        (ev sig y num reduce choosing assigned t)

-- a well-sorted plain term
pub record IsFit (sig : Signature) (t : Term) : Type 0 where
  pub plain : is_plain t ≡ true
  pub sort : Sort
  pub sorted : sort_of sig t ≡ Some sort
