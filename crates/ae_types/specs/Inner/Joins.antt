-- Joining two places of a graph: what has to be equal, and the graph afterwards.
use Rattle.std.specs.Prelude.{ℕ, ◌+◌, ◌<◌, ◌≤◌, List, [], ◌∷◌, ◌++◌, ◌≡◌, length, slice_set, Option, Some}
use Rattle.ae_core.specs.declared.terms.Sort.{Sort}
use Rattle.ae_types.specs.declared.pairs.SortPair.{SortPair}
use Rattle.ae_types.specs.declared.pairs.Clash.{Clash}
use Rattle.ae_types.specs.declared.pairs.Clash.TheVariants.{Differ, Cycle, Memory}
use Rattle.ae_types.specs.declared.graph.Constant.{Constant}
use Rattle.ae_types.specs.declared.graph.Node.{Node}
use Rattle.ae_types.specs.declared.graph.Class.{Class}
use Rattle.ae_types.specs.declared.graph.Class.TheVariants as class
use Rattle.ae_types.specs.declared.graph.Root.{Root}
use Rattle.ae_types.specs.declared.joins.Pair.{Pair}
use Rattle.ae_types.specs.Clashes.{IsClash, IsPair}
use Rattle.ae_types.specs.Inner.Graphs.{Slot, Free, Link, Plain, Built, slot_at, slots_of, class_at, known_slot, node_at, Same, Solves, GraphWell, origin}
use Rattle.ae_types.specs.Inner.Orders.{Ordered}

-- ---- the root of a place
-- links go down
abbrev pub LinksDown : List Class → Type 0
LinksDown classes = (i j : ℕ) → i < length classes → class_at classes i ≡ class.Link j → j < i

-- the number of parts that stand in a graph
abbrev pub arity : Slot → ℕ
arity Free = 0
arity (Link j) = 0
arity (Plain b) = 0
arity (Built h args) = length args

abbrev pub weight : List Slot → ℕ
weight [] = 0
weight (s ∷ ss) = arity s + weight ss

-- links were shortened: the roots and the solutions are the same
pub record Shortened (old new : List Class) : Type 0 where
  pub same_length : length new ≡ length old
  pub down : LinksDown new
  pub known : (i k : ℕ) → class_at old i ≡ class.Known k → class_at new i ≡ class.Known k
  pub well : (nodes : List Node) → GraphWell nodes old → GraphWell nodes new
  pub onward : (nodes : List Node) (e : Option (List SortPair)) (v : ℕ → Sort) → Solves e v (slots_of nodes old) → Solves e v (slots_of nodes new)
  pub back : (nodes : List Node) (e : Option (List SortPair)) (v : ℕ → Sort) → Solves e v (slots_of nodes new) → Solves e v (slots_of nodes old)
  pub same_weight : (nodes : List Node) → weight (slots_of nodes new) ≡ weight (slots_of nodes old)
  pub ordered : (nodes : List Node) (ls js : List ℕ) → Ordered ls js (slots_of nodes old) → Ordered ls js (slots_of nodes new)

-- the root that a place is linked to
pub record Finds (old new : List Class) (start : ℕ) (root : Root) : Type 0 where
  pub shortened : Shortened old new
  pub within : root.place < length old
  pub known : class_at new root.place ≡ class.Known root.known
  pub same : (nodes : List Node) (e : Option (List SortPair)) (v : ℕ → Sort) → Solves e v (slots_of nodes old) → Same e (v start) (v root.place)

-- ---- two roots
-- the pairs of two lists of places
abbrev pub pairs_of : List ℕ → List ℕ → List Pair
pairs_of [] ys = []
pairs_of (x ∷ xs) [] = []
pairs_of (x ∷ xs) (y ∷ ys) = record { left = x; right = y } ∷ pairs_of xs ys

-- the two places of each pair have one sort
abbrev pub Equates : Option (List SortPair) → (ℕ → Sort) → List Pair → Type 0
Equates e v [] = Unit {0}
Equates e v (p ∷ ps) = Same e (v p.left) (v p.right) × Equates e v ps

-- the pairs are of places
abbrev pub PairsWell : ℕ → List Pair → Type 0
PairsWell n [] = Unit {0}
PairsWell n (p ∷ ps) = (p.left < n) × (p.right < n) × PairsWell n ps

abbrev pub PlainWith : Constant → Slot → Type 0
PlainWith b Free = Unit {0}
PlainWith b (Link j) = Unit {0}
PlainWith b (Plain c) = b ≡ c
PlainWith b (Built h args) = ⊥

abbrev pub BuiltWith : ℕ → List ℕ → Slot → Type 0
BuiltWith h args Free = Unit {0}
BuiltWith h args (Link j) = Unit {0}
BuiltWith h args (Plain c) = ⊥
BuiltWith h args (Built k more) = (h ≡ k) × (length args ≡ length more)

-- what is known of two places doesn't keep them from having one sort at once
abbrev pub Compatible : Slot → Slot → Type 0
Compatible Free t = Unit {0}
Compatible (Link j) t = Unit {0}
Compatible (Plain b) t = PlainWith b t
Compatible (Built h args) t = BuiltWith h args t

abbrev pub built_demands : List ℕ → Slot → List Pair
built_demands args Free = []
built_demands args (Link j) = []
built_demands args (Plain c) = []
built_demands args (Built k more) = pairs_of args more

-- the places that have one sort where two places have one
abbrev pub demands : Slot → Slot → List Pair
demands Free t = []
demands (Link j) t = []
demands (Plain b) t = []
demands (Built h args) t = built_demands args t

-- what the lower place keeps
abbrev pub kept : Slot → Slot → Slot
kept Free t = t
kept (Link j) t = Link j
kept (Plain b) t = Plain b
kept (Built h args) t = Built h args

-- the graph where the higher of two places is a link to the lower
abbrev pub joined : List Slot → ℕ → ℕ → List Slot
joined slots low high = slice_set (slice_set slots high (Link low)) low (kept (slot_at slots low) (slot_at slots high))

-- the clash is of the sorts of two places that can't be one
abbrev pub DiffersAt : List Node → ℕ → ℕ → Clash → Type 0
DiffersAt nodes low high (Differ s t) =
    (s ≡ origin nodes low) × (t ≡ origin nodes high) × (Compatible (known_slot (node_at nodes low)) (known_slot (node_at nodes high)) → ⊥)
DiffersAt nodes low high (Cycle x s) = ⊥
DiffersAt nodes low high (Memory e) = Unit {0}

-- the equations that pairs of sorts give hold in a graph, as the sorts that its places were entered for
abbrev pub Follow : List SortPair → List Node → List Class → Type 0
Follow given nodes classes = Solves (Some given) (origin nodes) (slots_of nodes classes)

-- a clash of all pairs from which the graph and these equations follow
abbrev pub Blames : List Node → List Class → List Pair → Clash → Type 0
Blames nodes classes todo clash =
    (given : List SortPair) → Follow given nodes classes → Equates (Some given) (origin nodes) todo → IsClash (IsPair given) clash

-- two roots were made one
pub record United (nodes : List Node) (old new : List Class) (todo after : List Pair) (low high : Root) : Type 0 where
  pub well : GraphWell nodes new
  pub graph : slots_of nodes new ≡ joined (slots_of nodes old) low.place high.place
  pub pairs : after ≡ todo ++ demands (known_slot (node_at nodes low.known)) (known_slot (node_at nodes high.known))
  pub fits : Compatible (known_slot (node_at nodes low.known)) (known_slot (node_at nodes high.known))

-- a pair was taken: the same solutions, and less to do
pub record Stepped (nodes : List Node) (old new : List Class) (todo after : List Pair) (pair : Pair) : Type 0 where
  pub well : GraphWell nodes new
  pub pairs : PairsWell (length nodes) after
  pub lighter : weight (slots_of nodes new) + length after ≤ weight (slots_of nodes old) + length todo
  pub onward : (e : Option (List SortPair)) (v : ℕ → Sort) → Solves e v (slots_of nodes old) → Same e (v pair.left) (v pair.right) → Solves e v (slots_of nodes new)
  pub demanded : (e : Option (List SortPair)) (v : ℕ → Sort) → Solves e v (slots_of nodes old) → Same e (v pair.left) (v pair.right) → Equates e v todo → Equates e v after
  pub back : (e : Option (List SortPair)) (v : ℕ → Sort) → Solves e v (slots_of nodes new) → Equates e v after → Solves e v (slots_of nodes old)
  pub equal : (e : Option (List SortPair)) (v : ℕ → Sort) → Solves e v (slots_of nodes new) → Equates e v after → Same e (v pair.left) (v pair.right)
  pub kept : (e : Option (List SortPair)) (v : ℕ → Sort) → Solves e v (slots_of nodes new) → Equates e v after → Equates e v todo

-- pairs were taken, and others are left
pub record Closing (nodes : List Node) (old new : List Class) (todo after : List Pair) : Type 0 where
  pub well : GraphWell nodes new
  pub pairs : PairsWell (length nodes) after
  pub onward : (e : Option (List SortPair)) (v : ℕ → Sort) → Solves e v (slots_of nodes old) → Equates e v todo → Solves e v (slots_of nodes new)
  pub left : (e : Option (List SortPair)) (v : ℕ → Sort) → Solves e v (slots_of nodes old) → Equates e v todo → Equates e v after
  pub back : (e : Option (List SortPair)) (v : ℕ → Sort) → Solves e v (slots_of nodes new) → Equates e v after → Solves e v (slots_of nodes old)
  pub equal : (e : Option (List SortPair)) (v : ℕ → Sort) → Solves e v (slots_of nodes new) → Equates e v after → Equates e v todo

-- all pairs were taken
abbrev pub Closed : List Node → List Class → List Class → List Pair → Type 0
Closed nodes old new todo = Closing nodes old new todo []
