-- Things as finite trees: each lawful signature has an interpretation whose things are such trees.
use Rattle.std.specs.Prelude.{ℕ, Bool, List}
use Rattle.ae_math.specs.Fractions.{ℚ}
use Rattle.ae_core.specs.declared.terms.Sort.{Sort}

-- a thing without parts, which a number tells from others of its sort; or a record of the type of this number, with these parameters and
-- its fields. The fields are a tree too: none, or one of some kind and those behind it.
pub data Tree : Type 0 where
  Atom : ℕ → Sort → Tree
  Record : ℕ → List Sort → Tree → Tree
  NoField : Tree
  ThingField : Tree → Tree → Tree
  NumberField : ℚ → Tree → Tree
  TruthField : Bool → Tree → Tree
  VoidField : Tree → Tree
