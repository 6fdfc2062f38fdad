-- Names whose terms are of the ground fragment.
use Rattle.std.specs.Prelude.{ℕ, true, List, [], ◌≡◌, Some}
use Rattle.std.specs.List.{Contains}
use Rattle.ae_core.specs.Sorts.{sort_of}
use Rattle.ae_core.specs.declared.terms.Sort.{Sort}
use Rattle.ae_core.specs.declared.terms.Term.{Term, Apply}
use Rattle.ae_core.specs.declared.terms.Head.TheVariants as head
use Rattle.ae_core.specs.declared.problems.Signature.{Signature}
use Rattle.ae_rules.specs.Linear.{is_plain}
use Rattle.ae_rules.specs.Lines.{IsAc}
use Rattle.ae_journal.specs.Ground.{IsFragmentTerm}

-- the term is plain; where it is well sorted, and so no predicate's application, it is of the fragment; and where it applies a declared AC symbol it is well sorted
abbrev pub IsGroundName : Signature → Term → Type 0
IsGroundName sig t =
    (is_plain t ≡ true) × ((s : Sort) → sort_of sig t ≡ Some s → IsFragmentTerm sig [] t)
    × ((k : ℕ) (ss : List Sort) (us : List Term) → t ≡ Apply (head.Symbol k) ss us → IsAc sig (head.Symbol k) → (s : Sort) × (sort_of sig t ≡ Some s))

abbrev pub AreGroundNames : Signature → List Term → Type 0
AreGroundNames sig ts = (t : Term) → Contains ts t → IsGroundName sig t
