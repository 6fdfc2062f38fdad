-- What a computation of a linear form answers: the form of a term over numbered keys, in the normal form.
use Rattle.std.specs.Prelude.{ℕ, ◌<◌, ◌≡◌, ◌≢◌, true, List, map, length, slice_get, get_or, Some, None}
use Rattle.std.specs.List.{AllByRecursion, AllPairs}
use Rattle.ae_math.specs.Fractions.{ratio}
use Rattle.ae_num.specs.Forms.{IsNormal, first_wide, IfWide}
use Rattle.ae_num.specs.declared.forms.Lin.{Lin}
use Rattle.ae_num.specs.declared.numbers.NumFail.{NumFail}
use Rattle.ae_rules.specs.Linear.{Linear, IsSame}
use Rattle.ae_core.specs.Sorts.{term_ok}
use Rattle.ae_core.specs.declared.terms.Term.{Term, Bound}
use Rattle.ae_core.specs.declared.problems.Signature.{Signature}
use Rattle.ae_numeric.specs.Stated.{Computation}

-- the terms that the keys stand for, put for them
abbrev pub named : List Term → Lin → Linear
named ks f = record { parts = map (λ p. (get_or ks p.key (Bound 0), ratio p.factor f.den)) f.parts; constant = ratio f.constant f.den }

abbrev pub AreDistinct : List Term → Type 0
AreDistinct = AllPairs (λ s t. s ≢ t)

-- each key of the form is the number of a term
abbrev pub HasKeys : List Term → Lin → Type 0
HasKeys ks f = AllByRecursion (λ p. p.key < length ks) f.parts

-- a normal form over these keys that means a linear form
pub record IsFormOf (ks : List Term) (f : Lin) (meant : Linear) : Type 0 where
  pub distinct : AreDistinct ks
  pub keys : HasKeys ks f
  pub normal : IsNormal f
  pub means : IsSame (named ks f) meant

-- the form is what the computation gives from the keys before it, which has become the keys after it, and nothing that it stated leaves the limits
pub record IsResult (c : Computation) (before after : List Term) (f : Lin) : Type 0 where
  pub form : f ≡ (c before).form
  pub keys : after ≡ (c before).keys
  pub fits : first_wide (c before).steps ≡ None

-- the first product or sum of the computation that leaves the limits
abbrev pub IsWideIn : Computation → List Term → NumFail → Type 0
IsWideIn c before fail = IfWide fail (λ w. first_wide (c before).steps ≡ Some w)

-- the term is closed and well sorted
abbrev pub IsSorted : Term → Type 0
IsSorted t = (sig : Signature) × (term_ok sig t ≡ true)

-- the first keys are those from before
abbrev pub Keeps : List Term → List Term → Type 0
Keeps before after = (k : ℕ) → k < length before → slice_get after k ≡ slice_get before k
