-- What holds of what names come down to.
use Rattle.std.specs.Prelude.{ℕ, ◌<◌, List, ◌≡◌, length}
use Rattle.ae_core.specs.Sorts.{sort_of}
use Rattle.ae_core.specs.declared.problems.Signature.{Signature}
use Rattle.ae_store.specs.declared.nodes.Node.{Node}
use Rattle.ae_store.specs.Shapes.{shapes}
use Rattle.ae_store.specs.Stores.{IsStore}
use Rattle.ae_store.specs.Terms.{terms, named}
use Rattle.ae_strips.specs.Stripping.{StripsTo}

-- each name of a store comes down to a name
abbrev pub EachComesDown : Type 0
EachComesDown = (sig : Signature) (nodes : List Node) → IsStore sig nodes → (n : ℕ) → n < length nodes → (m : ℕ) × StripsTo (terms (shapes nodes)) n m

-- to no other
abbrev pub ToOneName : Type 0
ToOneName = (sig : Signature) (nodes : List Node) → IsStore sig nodes → (n m m' : ℕ) → StripsTo (terms (shapes nodes)) n m → StripsTo (terms (shapes nodes)) n m' → m ≡ m'

-- which comes down to itself
abbrev pub EndsAreTheirOwn : Type 0
EndsAreTheirOwn = (sig : Signature) (nodes : List Node) → IsStore sig nodes → (n m : ℕ) → StripsTo (terms (shapes nodes)) n m → StripsTo (terms (shapes nodes)) m m

-- and is of the same sort
abbrev pub SortsAreKept : Type 0
SortsAreKept = (sig : Signature) (nodes : List Node) → IsStore sig nodes → (n m : ℕ) → StripsTo (terms (shapes nodes)) n m → sort_of sig (named (terms (shapes nodes)) n) ≡ sort_of sig (named (terms (shapes nodes)) m)
