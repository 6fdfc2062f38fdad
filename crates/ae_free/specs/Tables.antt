-- The entered names of a table, and when a table fits a store.
use Rattle.std.specs.Prelude.{ℕ, ◌<◌, List, [], ◌∷◌, ◌≡◌, length, slice_get, Some}
use Rattle.std.specs.List.{AllByRecursion, IsDistinct}
use Rattle.ae_base.specs.Options.{or_else, ◌>>=◌}
use Rattle.ae_pmap.specs.Pairs.{found}
use Rattle.ae_pmap.specs.Forest.{Forest, present, map_at, AllNamed, IsRoot}
use Rattle.ae_store.specs.Keys.{is_same}
use Rattle.ae_store.specs.declared.nodes.Node.{Node}
use Rattle.ae_store.specs.declared.nodes.Shape.{Shape}
use Rattle.ae_free.specs.declared.classes.Class.{Class}
use Rattle.ae_free.specs.declared.table.Shared.{Shared}
use Rattle.ae_free.specs.Collisions.{with_args}
use Rattle.ae_free.specs.Classes.{AreClasses}

-- what contracts see of a table: the shapes of representatives by their numbers, the number of each entered name, and the names of each number
pub record Tables : Type 0 where
  pub shapes : List Shape
  pub numbers : Forest ℕ
  pub classes : Forest Class
  pub members : Forest (Unit {0})

-- the representatives of a number
abbrev pub args_at : List Shape → ℕ → List ℕ
args_at xs k = or_else (slice_get xs k >>= λ x. Some x.args) []

abbrev pub entered_by : List Shape → List (ℕ × ℕ) → List (ℕ × List ℕ)
entered_by xs [] = []
entered_by xs (p ∷ ps) = (p.0, args_at xs p.1) ∷ entered_by xs ps

-- the entered names with the representatives of their arguments
abbrev pub entered : Tables → List (ℕ × List ℕ)
entered t = entered_by t.shapes (present t.numbers)

-- there is one for each argument of the name
pub record HasPlaces (nodes : List Node) (name : ℕ) (args : List ℕ) : Type 0 where
  pub node : Node
  pub at : slice_get nodes name ≡ Some node
  pub one_each : length args ≡ length node.args

-- a name at a number is one of the store, and the number is that of its head, sorts and representatives, which are names of the store, one for each
-- argument
pub record IsEntry (nodes : List Node) (xs : List Shape) (name number : ℕ) : Type 0 where
  pub node : Node
  pub at : slice_get nodes name ≡ Some node
  pub args : List ℕ
  pub shape : slice_get xs number ≡ Some (with_args args node)
  pub one_each : length args ≡ length node.args
  pub within : AllByRecursion (λ a. a < length nodes) args

-- a table with these numbers and classes fits a store: no shape has two numbers, each name is right over the store, and the class of a number has
-- exactly the names that stand at it
pub record FitsWith (nodes : List Node) (t : Tables) (numbers : List (ℕ × ℕ)) (classes : List (ℕ × Class)) : Type 0 where
  pub distinct : IsDistinct is_same t.shapes
  pub resting : present t.members ≡ []
  pub are_numbers : AllNamed (length t.shapes) numbers
  pub entries : (n k : ℕ) → found numbers n ≡ Some k → IsEntry nodes t.shapes n k
  pub are_classes : AreClasses t.members (found classes) (found numbers)

abbrev pub Fits : List Node → Tables → Type 0
Fits nodes t = FitsWith nodes t (present t.numbers) (present t.classes)

-- the version stands for these entered names, and fits the store
pub record Stands (nodes : List Node) (t : Tables) (v : Shared) (names : List (ℕ × List ℕ)) : Type 0 where
  pub numbers : IsRoot t.numbers v.numbers
  pub classes : IsRoot t.classes v.classes
  pub names_are : entered_by t.shapes (map_at t.numbers v.numbers) ≡ names
  pub fits : FitsWith nodes t (map_at t.numbers v.numbers) (map_at t.classes v.classes)
