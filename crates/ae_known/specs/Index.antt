-- The names of a store's nodes, by what they apply.
use Rattle.std.specs.Prelude.{ℕ, Bool, true, false, ◌-◌, cond, nat_lt, nat_eq, List, [], ◌∷◌, ◌++◌, ◌≡◌, length, slice_get, Option, Some, None}
use Rattle.std.specs.List.{filter, flat_map, list_any}
use Rattle.indexmap.specs.IndexMap.{get}
use Rattle.ae_base.specs.Decided.{decide, decided}
use Rattle.ae_base.specs.Options.{or_else, ◌>>=◌}
use Rattle.ae_core.specs.Sorts.{same_sorts}
use Rattle.ae_core.specs.declared.terms.Sort.{Sort, Unit as UnitSort}
use Rattle.ae_journal.specs.Triggers.{numbers_below}
use Rattle.ae_store.specs.declared.nodes.Node.{Node}
use Rattle.ae_store.specs.declared.nodes.NodeHead.{NodeHead}
use Rattle.ae_store.specs.declared.nodes.Shape.{Shape}
use Rattle.ae_store.specs.contracts.nodes.NodeHead as node_head
use Rattle.ae_store.specs.Keys.{is_same}
use Rattle.ae_known.specs.declared.known.Known.{Known}
use Rattle.ae_known.specs.declared.rows.Line.{Line}
use Rattle.ae_known.specs.declared.rows.Group.{Group}

pub NodeHead_discrete : Discrete NodeHead
NodeHead_discrete = decide node_head.the_row.coded

-- ---- names of nodes
abbrev pub has_head : NodeHead → Node → Bool
has_head h x = decided (NodeHead_discrete x.head h)

abbrev pub passes_at : (Node → Bool) → List Node → ℕ → Bool
passes_at f ns n = or_else (slice_get ns n >>= λ x. Some (f x)) false

-- the names of the nodes that pass, rising
abbrev pub names_where : (Node → Bool) → List Node → List ℕ
names_where f ns = filter (passes_at f ns) (numbers_below (length ns))

abbrev pub is_listed : ℕ → List ℕ → Bool
is_listed n ns = list_any (nat_eq n) ns

-- ---- what is entered
-- the last of these names, if there is one, is below the name
abbrev pub is_behind : ℕ → List ℕ → Bool
is_behind n ns = or_else (slice_get ns (length ns - 1) >>= λ m. Some (nat_lt m n)) true

-- those below a name, those above it
abbrev pub below : ℕ → List ℕ → List ℕ
below n ns = flat_map (λ m. cond (nat_lt m n) (m ∷ []) []) ns

abbrev pub above : ℕ → List ℕ → List ℕ
above n ns = flat_map (λ m. cond (nat_lt n m) (m ∷ []) []) ns

-- a name in its place among rising names
abbrev pub with_name : ℕ → List ℕ → List ℕ
with_name n ns = cond (is_behind n ns) (ns ++ n ∷ []) ((below n ns ++ n ∷ []) ++ above n ns)

-- a name in the group of its sorts
abbrev pub entered_groups : List Sort → ℕ → List Group → List Group
entered_groups ss n [] = record { sorts = ss; names = n ∷ [] } ∷ []
entered_groups ss n (g ∷ gs) = cond (same_sorts g.sorts ss) (record { sorts = g.sorts; names = with_name n g.names } ∷ gs) (g ∷ entered_groups ss n gs)

-- ---- what is answered
abbrev pub group_names : List Sort → List Group → List ℕ
group_names ss [] = []
group_names ss (g ∷ gs) = cond (same_sorts g.sorts ss) g.names (group_names ss gs)

-- what a head stands under, and an argument of a head at a place
abbrev pub key : NodeHead → Shape
key h = record { head = h; sorts = []; args = []; sort = UnitSort }

abbrev pub place_key : NodeHead → ℕ → ℕ → Shape
place_key h place a = record { head = h; sorts = []; args = place ∷ a ∷ []; sort = UnitSort }

abbrev pub line_names : Option Line → List ℕ
line_names None = []
line_names (Some l) = l.names

abbrev pub line_groups : Option Line → List Group
line_groups None = []
line_groups (Some l) = l.groups.items

-- the names of a head that were entered; those of a head with these sorts
abbrev pub with_head : Known → NodeHead → List ℕ
with_head k h = line_names (get is_same k.lines (key h))

abbrev pub of : Known → NodeHead → List Sort → List ℕ
of k h ss = group_names ss (line_groups (get is_same k.lines (key h)))

abbrev pub with_node_head : Known → Option NodeHead → List ℕ
with_node_head k None = []
with_node_head k (Some h) = with_head k h

-- the names among which are those of a head with this argument at this place
abbrev pub with_argument : Known → NodeHead → ℕ → ℕ → List ℕ
with_argument k h place a = or_else (get is_same k.places (place_key h place a)) []

-- each name of the nodes was entered
pub record HasHeads (ns : List Node) (k : Known) : Type 0 where
  pub heads : (h : NodeHead) → with_head k h ≡ names_where (has_head h) ns
  pub arguments : (n : ℕ) (x : Node) → slice_get ns n ≡ Some x → (place a : ℕ) → slice_get x.args place ≡ Some a → is_listed n (with_argument k x.head place a) ≡ true
