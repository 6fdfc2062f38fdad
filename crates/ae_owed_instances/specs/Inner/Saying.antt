-- What instances say: the literals of a block's body, and those of an axiom.
use Rattle.std.specs.Prelude.{Bool, true, List, [], ◌∷◌}
use Rattle.ae_core.specs.Putting.{put_formula}
use Rattle.ae_core.specs.declared.formulas.Formula.{Formula, Formula-F}
use Rattle.ae_core.specs.declared.formulas.Formula.TheOpen as layer
use Rattle.ae_core.specs.declared.formulas.Lit.{Lit}
use Rattle.ae_core.specs.declared.formulas.Quant.{Quant}
use Rattle.ae_core.specs.declared.terms.Term.{Term}
use Rattle.ae_rules.specs.Clauses.{literal}

-- the body of a block with terms put, with a sign
abbrev pub block_literals : Bool → List Term → Formula-F Formula Quant → List Lit
block_literals sign ts (layer.All q) = literal sign (put_formula ts q.body) ∷ []
block_literals sign ts (layer.Ex q) = literal sign (put_formula ts q.body) ∷ []
block_literals sign ts _ = []

-- an axiom's formula, and of an `all` block the body with terms put
abbrev pub axiom_literals : List Term → Formula → Formula-F Formula Quant → List Lit
axiom_literals ts f (layer.All q) = literal true f ∷ literal true (put_formula ts q.body) ∷ []
axiom_literals ts f _ = literal true f ∷ []
