-- Laws of graphs: the sorts that places were entered for, and what the code reads.
use Rattle.std.proofs.Common.{◌≡◌, ℕ, zero, suc, ◌-◌, ◌<◌, ◌≤◌, List, [], ◌∷◌, ◌++◌, map, take, length, get_or, refl, ap, sym, ◌∙◌, subst, arith, slice_set}
use Rattle.std.proofs.Math.ListN.{set}
use Rattle.std.proofs.lemmas.List.{take_all, length-map, get_or-map, map-set, get_or_default}
use Rattle.ae_core.specs.declared.terms.Sort.{Sort, Var, Named}
use Rattle.ae_types.specs.declared.graph.Constant.{Constant}
use Rattle.ae_types.specs.declared.graph.Node.{Node}
use Rattle.ae_types.specs.declared.graph.Node.TheVariants as node
use Rattle.ae_types.specs.declared.graph.Class.{Class}
use Rattle.ae_types.specs.declared.graph.Class.TheVariants as class
use Rattle.ae_types.specs.declared.graph.Change.{Change}
use Rattle.ae_types.specs.Inner.Graphs.{Slot, Free, slot_at, class_at, node_at, slots_of, slot_of, known_slot, value, from_slot, constant_sort, node_sort, origin_in, origin, IsDown, NodesWell, GraphWell, ClassWell, Well, SlotWell, rewound}

pub maps_same : (f g : ℕ → Sort) (xs : List ℕ) → ((k : ℕ) → k < length xs → f (get_or xs k 0) ≡ g (get_or xs k 0)) → map f xs ≡ map g xs
maps_same f g [] h = refl
maps_same f g (x ∷ xs) h = ap (λ s. s ∷ map f xs) (h 0 (omega arith)) ∙ ap (λ ss. g x ∷ ss) (maps_same f g xs (λ k w. h (suc k) (omega arith)))

-- ---- what the code read
pub read_at : {A : Type 0} (xs : List A) (i : ℕ) (d x : A) → i < length xs → x ≡ get_or xs i x → get_or xs i d ≡ x
read_at xs i d x h e = get_or_default xs i d x h ∙ sym e

pub all_mapped : (f : ℕ → Sort) (ss : List Sort) (n : ℕ) (items args : List ℕ) → ss ≡ map f (take n items) → items ≡ args → length items ≤ n → ss ≡ map f args
all_mapped f ss n items args h e k = h ∙ ap (map f) (take_all n items k ∙ e)

-- ---- origins
-- the steps that are left don't matter, where they are enough
origin_node : (nodes : List Node) → NodesWell nodes → (k m i : ℕ) (n : Node) → i ≤ k → i ≤ m → i < length nodes → IsDown i n
    → ((j : ℕ) → j < i → origin_in k nodes j ≡ origin_in m nodes j) → node_sort (origin_in k nodes) n ≡ node_sort (origin_in m nodes) n
origin_node nodes w k m i (node.Variable x) a b c d ih = refl
origin_node nodes w k m i (node.Constant x) a b c d ih = refl
origin_node nodes w k m i (node.Built h args) a b c d ih = ap (Named h) (maps_same (origin_in k nodes) (origin_in m nodes) args (λ j q. ih (get_or args j 0) (d j q)))

origin_enough : (nodes : List Node) → NodesWell nodes → (k m i : ℕ) → i < k → i < m → i < length nodes → origin_in k nodes i ≡ origin_in m nodes i
origin_enough nodes w zero m i a b c = absurd (omega arith)
origin_enough nodes w (suc k) zero i a b c = absurd (omega arith)
origin_enough nodes w (suc k) (suc m) i a b c =
    origin_node nodes w k m i (node_at nodes i) (omega arith) (omega arith) c (w.down i c) (λ j q. origin_enough nodes w k m j (omega arith) (omega arith) (omega arith))

pub origin_step : (nodes : List Node) (i : ℕ) → NodesWell nodes → i < length nodes → origin nodes i ≡ node_sort (origin nodes) (node_at nodes i)
origin_step nodes i w h = step (node_at nodes i) (w.down i h)
  where
    step : (n : Node) → IsDown i n → node_sort (origin_in i nodes) n ≡ node_sort (origin nodes) n
    step (node.Variable x) d = refl
    step (node.Constant x) d = refl
    step (node.Built k args) d = ap (Named k) (maps_same (origin_in i nodes) (origin nodes) args
        (λ j q. (let b = d j q in origin_enough nodes w i (suc (get_or args j 0)) (get_or args j 0) b (omega arith) (omega arith))))

pub origin_variable : (nodes : List Node) (i x : ℕ) → NodesWell nodes → i < length nodes → node_at nodes i ≡ node.Variable x → origin nodes i ≡ Var x
origin_variable nodes i x w h e = origin_step nodes i w h ∙ ap (node_sort (origin nodes)) e

pub origin_constant : (nodes : List Node) (i : ℕ) (c : Constant) → NodesWell nodes → i < length nodes → node_at nodes i ≡ node.Constant c → origin nodes i ≡ constant_sort c
origin_constant nodes i c w h e = origin_step nodes i w h ∙ ap (node_sort (origin nodes)) e

pub origin_built : (nodes : List Node) (i head : ℕ) (args : List ℕ) → NodesWell nodes → i < length nodes → node_at nodes i ≡ node.Built head args
    → origin nodes i ≡ Named head (map (origin nodes) args)
origin_built nodes i head args w h e = origin_step nodes i w h ∙ ap (node_sort (origin nodes)) e

pub built_down : (nodes : List Node) (i head : ℕ) (args : List ℕ) → NodesWell nodes → i < length nodes → node_at nodes i ≡ node.Built head args
    → (k : ℕ) → k < length args → get_or args k 0 < i
built_down nodes i head args w h e = subst (IsDown i) e (w.down i h)

-- ---- slots of classes
pub slots_length : (nodes : List Node) (classes : List Class) → length (slots_of nodes classes) ≡ length classes
slots_length nodes classes = length-map classes (slot_of nodes)

pub slot_at_class : (nodes : List Node) (classes : List Class) (i : ℕ) → i < length classes → slot_at (slots_of nodes classes) i ≡ slot_of nodes (class_at classes i)
slot_at_class nodes classes i h = get_or-map (slot_of nodes) classes i (class.Link 0) Free h

pub slots_set : (nodes : List Node) (classes : List Class) (i : ℕ) (c : Class) → slots_of nodes (slice_set classes i c) ≡ slice_set (slots_of nodes classes) i (slot_of nodes c)
slots_set nodes classes i c = map-set (slot_of nodes) classes i c

node_slot_well : (n i k : ℕ) (x : Node) → k ≤ n → IsDown k x → SlotWell n i (known_slot x)
node_slot_well n i k (node.Variable x) h d = tt
node_slot_well n i k (node.Constant x) h d = tt
node_slot_well n i k (node.Built y args) h d = λ j q. (let b = d j q in omega arith)

class_slot_well : (nodes : List Node) (i : ℕ) (c : Class) → NodesWell nodes → ClassWell nodes i c → SlotWell (length nodes) i (slot_of nodes c)
class_slot_well nodes i (class.Link j) w h = h
class_slot_well nodes i (class.Known k) w h = let b = h.0 in node_slot_well (length nodes) i k (node_at nodes k) (omega arith) (w.down k h.0)

pub graph_slots : (nodes : List Node) (classes : List Class) → GraphWell nodes classes → Well (slots_of nodes classes)
graph_slots nodes classes g = record {
  each = λ i a. (let m = slots_length nodes classes in let b : i < length classes = omega arith in
      subst (λ n. SlotWell n i (slot_at (slots_of nodes classes) i)) (sym (m ∙ g.lengths))
      (subst (SlotWell (length nodes) i) (sym (slot_at_class nodes classes i b)) (class_slot_well nodes i (class_at classes i) g.nodes_well (g.each i b))));
}

pub link_down : (nodes : List Node) (classes : List Class) (i j : ℕ) → GraphWell nodes classes → i < length classes → class_at classes i ≡ class.Link j → j < i
link_down nodes classes i j g h e = subst (ClassWell nodes i) e (g.each i h)

pub known_well : (nodes : List Node) (classes : List Class) (i k : ℕ) → GraphWell nodes classes → i < length classes → class_at classes i ≡ class.Known k → ClassWell nodes i (class.Known k)
known_well nodes classes i k g h e = subst (ClassWell nodes i) e (g.each i h)

-- ---- the value of a place
value_step : (e : ℕ → Sort) (n : ℕ) (slots : List Slot) (i : ℕ) → 0 < n → value e n slots i ≡ from_slot e (value e (n - 1) slots) (slot_at slots i) i
value_step e zero slots i h = absurd (omega arith)
value_step e (suc n) slots i h = let q : suc n - 1 ≡ n = omega arith in ap (λ k. from_slot e (value e k slots) (slot_at slots i) i) (sym q)

pub value_free : (e : ℕ → Sort) (n : ℕ) (slots : List Slot) (i : ℕ) → slot_at slots i ≡ Free → value e n slots i ≡ e i
value_free e zero slots i q = refl
value_free e (suc n) slots i q = ap (λ s. from_slot e (value e n slots) s i) q

pub value_of : (e : ℕ → Sort) (n : ℕ) (slots : List Slot) (i : ℕ) (s : Slot) → 0 < n → slot_at slots i ≡ s → value e n slots i ≡ from_slot e (value e (n - 1) slots) s i
value_of e n slots i s h q = value_step e n slots i h ∙ ap (λ x. from_slot e (value e (n - 1) slots) x i) q

-- ---- taking changes back
pub set_back : {A : Type 0} (xs : List A) (i : ℕ) (a b d : A) → i < length xs → b ≡ get_or xs i d → set (set xs i a) i b ≡ xs
set_back [] i a b d h e = absurd (omega arith)
set_back (x ∷ xs) zero a b d h e = ap (λ y. y ∷ xs) e
set_back (x ∷ xs) (suc i) a b d h e = ap (λ ys. x ∷ ys) (set_back xs i a b d (omega arith) e)

pub rewound_last : (classes : List Class) (cs : List Change) (c : Change) → rewound classes (cs ++ c ∷ []) ≡ rewound (set classes c.place c.class) cs
rewound_last classes [] c = refl
rewound_last classes (d ∷ cs) c = ap (λ x. set x d.place d.class) (rewound_last classes cs c)
