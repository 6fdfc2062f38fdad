use Rattle.std.proofs.Common.{◌≡◌, List, [], refl, sym, subst, arith}
use Rattle.ae_pmap.specs.declared.nodes.Node.{Node}
use Rattle.ae_pmap.specs.Inner.Nodes.{IsSound}
use Rattle.ae_pmap.specs.Forest.{map_at, IsRoot}
use Rattle.ae_pmap.proofs.Tables.{tree_at-zero}
use Rattle.ae_pmap.proofs.map.Pmap.new.Goals as goal

sound_none : IsSound []
sound_none = record { each = λ k d h. absurd (omega arith) }

root_none : {V : Type 0} (nodes : List Node) (values : List V) → IsRoot (record { nodes = nodes; values = values; root = 0 }) 0
root_none nodes values = record { within = omega arith; rises = rw (tree_at-zero nodes) tt; named = rw (tree_at-zero nodes) tt }

map_none : {V : Type 0} (nodes : List Node) (values : List V) → map_at (record { nodes = nodes; values = values; root = 0 }) 0 ≡ []
map_none nodes values = rw (tree_at-zero nodes) refl

pub invariant_of-result : goal.invariant_of-result
invariant_of-result g c = (subst IsSound (sym c.new.ensures.items) sound_none, root_none c.new.result.items c.new-2.result.items)

pub returns : goal.returns
returns g c = map_none c.new.result.items c.new-2.result.items
