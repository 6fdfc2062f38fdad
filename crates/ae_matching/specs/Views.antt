-- What matching sees of a store: its signature, the nodes by their names, and the terms of the names.
use Rattle.std.specs.Prelude.{ℕ, Bool, List, Option}
use Rattle.ae_core.specs.declared.terms.Sort.{Sort}
use Rattle.ae_core.specs.declared.terms.Term.{Term}
use Rattle.ae_core.specs.declared.terms.Head.{Head}
use Rattle.ae_core.specs.declared.problems.Signature.{Signature}

-- what a name applies, to which names, from which generation on it is known, and whether its term is one that its linear form computes.
-- Numerals and fresh constants apply nothing.
pub record Node : Type 0 where
  pub head : Option Head
  pub sorts : List Sort
  pub args : List ℕ
  pub generation : ℕ
  pub arithmetic : Bool

pub record Store : Type 0 where
  pub signature : Signature
  pub nodes : List Node
  pub terms : List Term
