-- The laws of the sides of rows.
use Rattle.std.specs.Prelude.{◌≡◌, List, Some}
use Rattle.ae_core.specs.Sorts.{sort_of}
use Rattle.ae_rules.specs.Clauses.{Clause}
use Rattle.ae_core.specs.declared.terms.Sort.{Int}
use Rattle.ae_core.specs.declared.terms.Term.{Term}
use Rattle.ae_core.specs.declared.problems.Signature.{Signature}
use Rattle.ae_journal.specs.Sides.{side, other_side, AreWhole}
use Rattle.ae_num.specs.Forms.{IsNormal}
use Rattle.ae_num.specs.declared.forms.Lin.{Lin}
use Rattle.ae_rules.specs.Instances.{trichotomy}
use Rattle.ae_store.specs.Terms.{Keeps}

-- the sides of a row of integers are integers
abbrev pub SidesAreWhole : Type 0
SidesAreWhole = (sig : Signature) (names : List Term) (f : Lin) → IsNormal f → AreWhole sig names f → (sort_of sig (side Int names f) ≡ Some Int) × (sort_of sig (other_side Int names f) ≡ Some Int)

-- with more names behind, the sides of a row of names are the same
abbrev pub SidesAreKept : Type 0
SidesAreKept = (sig : Signature) (old new : List Term) (f : Lin) → Keeps old new → AreWhole sig old f → (side Int new f ≡ side Int old f) × (other_side Int new f ≡ other_side Int old f)

-- the sides of a row of integers are equal, or one is below the other
abbrev pub SidesAreOrdered : Type 0
SidesAreOrdered = (sig : Signature) (names : List Term) (f : Lin) → IsNormal f → AreWhole sig names f → (c : Clause) × (trichotomy sig (other_side Int names f) (side Int names f) ≡ Some c)
