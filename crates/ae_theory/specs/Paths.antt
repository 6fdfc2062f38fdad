-- Lists that share their beginnings: each node adds itself to the list of an earlier place.
use Rattle.std.specs.Prelude.{ℕ, List, [], ◌∷◌, ◌++◌, slice_index_or}
use Rattle.std.specs.List.{fold}
use Rattle.ae_theory.specs.declared.nodes.Node.{Node}

-- nodes, and the place of the last one that counts: 0 for none, and otherwise one above its number
pub record Paths : Type 0 where
  pub nodes : List Node
  pub last : ℕ

-- the lists of the first places, with one more
abbrev pub extended : List (List Node) → Node → List (List Node)
extended lists n = lists ++ (slice_index_or lists n.parent [] ++ n ∷ []) ∷ []

-- the empty list, and then the list of each node
abbrev pub lists_of : List Node → List (List Node)
lists_of nodes = fold extended ([] ∷ []) nodes

abbrev pub list_at : List Node → ℕ → List Node
list_at nodes place = slice_index_or (lists_of nodes) place []

-- the nodes that count
abbrev pub standing : Paths → List Node
standing o = list_at o.nodes o.last
