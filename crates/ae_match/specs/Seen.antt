-- What matching sees of a store.
use Rattle.std.specs.Prelude.{List, Option, Some, None, map}
use Rattle.ae_core.specs.declared.terms.Term.{Term}
use Rattle.ae_core.specs.declared.terms.Head.{Head}
use Rattle.ae_core.specs.declared.problems.Signature.{Signature}
use Rattle.ae_rules.specs.Matches.{is_arithmetic}
use Rattle.ae_store.specs.declared.nodes.Node.{Node}
use Rattle.ae_store.specs.declared.nodes.NodeHead.{NodeHead}
use Rattle.ae_store.specs.declared.nodes.NodeHead.TheVariants as node
use Rattle.ae_store.specs.Shapes.{shapes, shape_of}
use Rattle.ae_store.specs.Terms.{terms, term_of}
use Rattle.ae_matching.specs.Views as views

-- numerals and fresh constants apply nothing
abbrev pub applied : NodeHead → Option Head
applied (node.Of h) = Some h
applied (node.Num a b) = None
applied (node.Fresh n) = None

abbrev pub seen_node : List Term → Node → views.Node
seen_node ts x =
    record { head = applied x.head; sorts = x.sorts; args = x.args; generation = x.generation; arithmetic = is_arithmetic (term_of ts (shape_of x)) }

abbrev pub seen : Signature → List Node → views.Store
seen sig ns = let ts = terms (shapes ns) in record { signature = sig; nodes = map (seen_node ts) ns; terms = ts }
