-- What is told of the sizes of typed trees: numbers that are counted up to a ceiling, one more than the nodes that a formula may have.
use Rattle.std.specs.Prelude.{ℕ, min, true, false, List, [], Option, Some, None}
use Rattle.ae_core.specs.declared.terms.Sort.{Sort}
use Rattle.ae_syntax.specs.declared.exprs.Quantifier.{Quantifier}
use Rattle.ae_elab.specs.declared.nodes.Node.{Node}
use Rattle.ae_elab.specs.declared.nodes.Node.TheVariants as node
use Rattle.ae_elab.specs.Nodes.{Entry, a_tree, a_claim}
use Rattle.ae_elab.specs.Sizes.{Size, total, deepest}
use Rattle.ae_elab.specs.Trees.{Claim, claim_of, quantified}
use Rattle.ae_elab.specs.Weights.{Weight}
use Rattle.ae_sizes.specs.declared.weights.Size as code_size
use Rattle.ae_sizes.specs.declared.weights.Weight as code_weight
use Rattle.ae_sizes.specs.declared.measures.Measure.{Measure}
use Rattle.ae_sizes.specs.declared.measures.Measure.TheVariants.{Term, Formula}
use Rattle.ae_sizes.specs.Inner.Weights.{weight, claim_size}

abbrev pub capped : ℕ → ℕ
capped n = min n 1000001

abbrev pub counted : Size → code_size.Size
counted s = record { nodes = capped s.nodes; levels = capped s.levels }

abbrev pub counted_weight : Weight → code_weight.Weight
counted_weight w = record {
  cases = capped w.cases;
  nodes = capped w.nodes;
  added = capped w.added;
  above = capped w.above;
  reach = capped w.reach;
  conditions = capped w.conditions;
}

-- the nodes of all of these, and the levels of the deepest
abbrev pub pile : List Size → Size
pile ss = record { nodes = total ss; levels = deepest ss }

-- the sorts of a node that count: those put for type variables, and those of a block's variables
abbrev pub counted_sorts : Node → List Sort
counted_sorts (node.Apply h ss us) = ss
counted_sorts (node.Build of ss n ps us) = ss
counted_sorts (node.Update of ss n b ps us) = ss
counted_sorts (node.Predicate k ss us) = ss
counted_sorts (node.Quantified q xs ss ps f) = ss
counted_sorts n = []

-- the quantifier of the block that a formula is
abbrev pub block_of : Claim → Option Quantifier
block_of (quantified q xs ss ps f) = Some q
block_of f = None

-- how large what stands at a place is, where f puts sorts for the unknowns
abbrev pub told : (ℕ → Sort) → Entry → Measure
told f (a_tree t) = Term (counted_weight (weight false f t)) (counted_weight (weight true f t)) (counted (claim_size f (claim_of t)))
told f (a_claim c) = Formula (counted (claim_size f c)) (block_of c)
