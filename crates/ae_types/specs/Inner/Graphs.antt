-- Graphs of sorts: the sorts that places were entered for, what is known of places, and the solution that has all others as instances.
use Rattle.std.specs.Prelude.{ℕ, zero, suc, ◌<◌, Bool, true, false, List, [], ◌∷◌, ◌≡◌, map, length, Option, Some, None}
use Rattle.std.proofs.Common.{get_or}
use Rattle.ae_core.specs.declared.terms.Sort.{Sort, Var, Rigid, Int, Real, Bool as BoolSort, Unit as UnitSort, Named}
use Rattle.ae_types.specs.declared.pairs.SortPair.{SortPair}
use Rattle.ae_types.specs.declared.graph.Constant.{Constant}
use Rattle.ae_types.specs.declared.graph.Constant.TheVariants as constant
use Rattle.ae_types.specs.declared.graph.Node.{Node}
use Rattle.ae_types.specs.declared.graph.Node.TheVariants as node
use Rattle.ae_types.specs.declared.graph.Class.{Class}
use Rattle.ae_types.specs.declared.graph.Class.TheVariants as class
use Rattle.ae_types.specs.declared.graph.Change.{Change}
use Rattle.ae_types.specs.Clashes.{Follows, IsPair}
use Rattle.std.proofs.Math.ListN.{set}

-- ---- the sorts that places were entered for
abbrev pub constant_sort : Constant → Sort
constant_sort (constant.Rigid n) = Rigid n
constant_sort constant.Int = Int
constant_sort constant.Real = Real
constant_sort constant.Bool = BoolSort
constant_sort constant.Unit = UnitSort

-- past the end stands a constant
abbrev pub node_at : List Node → ℕ → Node
node_at nodes i = get_or nodes i (node.Constant constant.Unit)

abbrev pub node_sort : (ℕ → Sort) → Node → Sort
node_sort f (node.Variable n) = Var n
node_sort f (node.Constant c) = constant_sort c
node_sort f (node.Built h args) = Named h (map f args)

abbrev pub origin_in : ℕ → List Node → ℕ → Sort
origin_in zero nodes i = UnitSort
origin_in (suc k) nodes i = node_sort (origin_in k nodes) (node_at nodes i)

-- the sort that a place was entered for
abbrev pub origin : List Node → ℕ → Sort
origin nodes i = origin_in (suc i) nodes i

-- parts stand before what is made of them
abbrev pub IsDown : ℕ → Node → Type 0
IsDown i (node.Variable n) = Unit {0}
IsDown i (node.Constant c) = Unit {0}
IsDown i (node.Built h args) = (k : ℕ) → k < length args → get_or args k 0 < i

pub record NodesWell (nodes : List Node) : Type 0 where
  pub down : (i : ℕ) → i < length nodes → IsDown i (node_at nodes i)

abbrev pub is_variable : Node → Bool
is_variable (node.Variable n) = true
is_variable (node.Constant c) = false
is_variable (node.Built h args) = false

abbrev pub variable_of : Node → ℕ
variable_of (node.Variable n) = n
variable_of (node.Constant c) = 0
variable_of (node.Built h args) = 0

-- ---- what is known of places
pub data Slot : Type 0 where
  Free : Slot  -- nothing: an unknown
  Link : (to : ℕ) → Slot  -- it is the sort of an earlier place
  Plain : (c : Constant) → Slot  -- it is this sort
  Built : (h : ℕ) (args : List ℕ) → Slot  -- it is the type of the sorts of these places

abbrev pub known_slot : Node → Slot
known_slot (node.Variable n) = Free
known_slot (node.Constant c) = Plain c
known_slot (node.Built h args) = Built h args

abbrev pub slot_of : List Node → Class → Slot
slot_of nodes (class.Link j) = Link j
slot_of nodes (class.Known k) = known_slot (node_at nodes k)

abbrev pub slots_of : List Node → List Class → List Slot
slots_of nodes classes = map (slot_of nodes) classes

-- what stands at a place; past the end, nothing is known
abbrev pub slot_at : List Slot → ℕ → Slot
slot_at slots i = get_or slots i Free

abbrev pub class_at : List Class → ℕ → Class
class_at classes i = get_or classes i (class.Link 0)

-- links go down. A place that was entered for no variable keeps its own node while it is a root, and a root of which nothing is known does too
abbrev pub ClassWell : List Node → ℕ → Class → Type 0
ClassWell nodes i (class.Link j) = j < i
ClassWell nodes i (class.Known k) = (k < length nodes) × (is_variable (node_at nodes i) ≡ false → k ≡ i) × (is_variable (node_at nodes k) ≡ true → k ≡ i)

pub record GraphWell (nodes : List Node) (classes : List Class) : Type 0 where
  pub nodes_well : NodesWell nodes
  pub lengths : length classes ≡ length nodes
  pub each : (i : ℕ) → i < length classes → ClassWell nodes i (class_at classes i)

-- ---- agreeing with what is known: up to equality, or up to what follows from some pairs
abbrev pub Same : Option (List SortPair) → Sort → Sort → Type 0
Same None s t = s ≡ t
Same (Some pairs) s t = Follows (IsPair pairs) s t

-- a place's sort agrees with what is known of it
abbrev pub Fits : Option (List SortPair) → (ℕ → Sort) → Slot → Sort → Type 0
Fits e v Free s = Unit {0}
Fits e v (Link j) s = Same e s (v j)
Fits e v (Plain c) s = Same e s (constant_sort c)
Fits e v (Built h args) s = Same e s (Named h (map v args))

-- sorts for all places that agree with all that is known
pub record Solves (e : Option (List SortPair)) (v : ℕ → Sort) (slots : List Slot) : Type 0 where
  pub each : (i : ℕ) → i < length slots → Fits e v (slot_at slots i) (v i)

-- the same for slots alone: links go down, and parts are places
abbrev pub SlotWell : ℕ → ℕ → Slot → Type 0
SlotWell n i Free = Unit {0}
SlotWell n i (Link j) = j < i
SlotWell n i (Plain c) = Unit {0}
SlotWell n i (Built h args) = (k : ℕ) → k < length args → get_or args k 0 < n

pub record Well (slots : List Slot) : Type 0 where
  pub each : (i : ℕ) → i < length slots → SlotWell (length slots) i (slot_at slots i)

abbrev pub IsRoot : Slot → Type 0
IsRoot Free = Unit {0}
IsRoot (Link j) = ⊥
IsRoot (Plain c) = Unit {0}
IsRoot (Built h args) = Unit {0}

abbrev pub IsFree : Slot → Type 0
IsFree Free = Unit {0}
IsFree (Link j) = ⊥
IsFree (Plain c) = ⊥
IsFree (Built h args) = ⊥

-- the sort at a place, as far as some steps into the graph tell it; `e` are the sorts of places of which nothing is known
abbrev pub from_slot : (ℕ → Sort) → (ℕ → Sort) → Slot → ℕ → Sort
from_slot e f Free i = e i
from_slot e f (Link j) i = f j
from_slot e f (Plain c) i = constant_sort c
from_slot e f (Built h args) i = Named h (map f args)

abbrev pub value : (ℕ → Sort) → ℕ → List Slot → ℕ → Sort
value e zero slots i = e i
value e (suc k) slots i = from_slot e (value e k slots) (slot_at slots i) i

-- the variable that a place stands for, where nothing is known of it
abbrev pub unknown : List Node → ℕ → Sort
unknown nodes i = Var (variable_of (node_at nodes i))

-- the sort at a place
abbrev pub solution : List Node → List Class → ℕ → Sort
solution nodes classes = value (unknown nodes) (length classes) (slots_of nodes classes)

-- ---- what was written
-- the classes before some changes, the last of which is taken back first
abbrev pub rewound : List Class → List Change → List Class
rewound classes [] = classes
rewound classes (c ∷ cs) = set (rewound classes cs) c.place c.class
