-- Entering sorts into a graph.
use Rattle.std.specs.Prelude.{ℕ, ◌<◌, ◌≤◌, List, [], ◌∷◌, ◌++◌, ◌≡◌, length, Option, Some}
use Rattle.std.specs.Ordering.{nat_cmp}
use Rattle.std.specs.BTreeMap.{is_at}
use Rattle.std.specs.Map.{lookup}
use Rattle.ae_core.specs.declared.terms.Sort.{Sort}
use Rattle.ae_types.specs.declared.pairs.SortPair.{SortPair}
use Rattle.ae_types.specs.declared.graph.Node.{Node}
use Rattle.ae_types.specs.declared.graph.Node.TheVariants as node
use Rattle.ae_types.specs.declared.graph.Class.{Class}
use Rattle.ae_types.specs.declared.graph.Class.TheVariants as class
use Rattle.ae_types.specs.declared.graph.Graph.{Graph}
use Rattle.ae_types.specs.declared.joins.Pair.{Pair}
use Rattle.ae_types.specs.Inner.Graphs.{node_at, class_at, GraphWell, origin}

-- a graph with the places of its variables
pub record Sheet : Type 0 where
  pub nodes : List Node
  pub classes : List Class
  pub names : List (ℕ × ℕ)

abbrev pub sheet : Graph → Sheet
sheet g = record { nodes = g.nodes; classes = g.classes; names = g.names.entries }

-- the place of a variable, if it has one
abbrev pub place_of : List (ℕ × ℕ) → ℕ → Option ℕ
place_of names n = lookup (is_at (nat_cmp n)) names

-- a variable has the place that was entered for it, and no other
pub record NamesWell (nodes : List Node) (names : List (ℕ × ℕ)) : Type 0 where
  pub stands : (n p : ℕ) → place_of names n ≡ Some p → (p < length nodes) × (node_at nodes p ≡ node.Variable n)
  pub each : (i n : ℕ) → i < length nodes → node_at nodes i ≡ node.Variable n → place_of names n ≡ Some i

pub record SheetWell (t : Sheet) : Type 0 where
  pub graph : GraphWell t.nodes t.classes
  pub named : NamesWell t.nodes t.names

-- places were added, each for itself
pub record Grows (old new : Sheet) : Type 0 where
  pub well : SheetWell new
  pub longer : length old.nodes ≤ length new.nodes
  pub nodes : (i : ℕ) → i < length old.nodes → node_at new.nodes i ≡ node_at old.nodes i
  pub classes : (i : ℕ) → i < length old.nodes → class_at new.classes i ≡ class_at old.classes i
  pub fresh : (i : ℕ) → length old.nodes ≤ i → i < length new.nodes → class_at new.classes i ≡ class.Known i

-- a place stands for a sort
pub record StandsFor (nodes : List Node) (s : Sort) (p : ℕ) : Type 0 where
  pub within : p < length nodes
  pub sort : origin nodes p ≡ s

-- places stand for sorts
abbrev pub AllStand : List Node → List Sort → List ℕ → Type 0
AllStand nodes [] [] = Unit {0}
AllStand nodes [] (p ∷ ps) = ⊥
AllStand nodes (s ∷ ss) [] = ⊥
AllStand nodes (s ∷ ss) (p ∷ ps) = StandsFor nodes s p × AllStand nodes ss ps

-- pairs of places stand for pairs of sorts
abbrev pub PairsStand : List Node → List SortPair → List Pair → Type 0
PairsStand nodes [] [] = Unit {0}
PairsStand nodes [] (p ∷ ps) = ⊥
PairsStand nodes (q ∷ qs) [] = ⊥
PairsStand nodes (q ∷ qs) (p ∷ ps) = StandsFor nodes q.left p.left × StandsFor nodes q.right p.right × PairsStand nodes qs ps

-- one more place, for itself
pub record Adds (old new : Sheet) (n : Node) (p : ℕ) : Type 0 where
  pub place : p ≡ length old.classes
  pub nodes : new.nodes ≡ old.nodes ++ n ∷ []
  pub classes : new.classes ≡ old.classes ++ class.Known p ∷ []
  pub names : new.names ≡ old.names

abbrev pub nothing : Sheet
nothing = record { nodes = []; classes = []; names = [] }
