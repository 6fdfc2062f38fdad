-- Laws of cycles: the sort that would have to be equal to a variable in it.
use Rattle.std.proofs.Common.{◌≡◌, ◌≢◌, ℕ, zero, suc, ◌+◌, ◌<◌, ◌≤◌, List, [], ◌∷◌, map, length, get_or, refl, ap, sym, ◌∙◌, subst, arith, slice_get, slice_set, Some, Bool, true, false, nat_lt, if◌then◌else◌}
use Rattle.std.proofs.lemmas.Bool.Decides.{nat_tests}
use Rattle.std.proofs.lemmas.List.{length-map, get_or-map}
use Rattle.std.proofs.Math.Nat.{le-add_right}
use Rattle.ae_core.specs.declared.terms.Sort.{Sort, Var, Unit as UnitSort}
use Rattle.ae_types.specs.declared.pairs.SortPair.{SortPair}
use Rattle.ae_types.specs.declared.pairs.Clash.TheVariants.{Cycle}
use Rattle.ae_types.specs.declared.graph.Node.{Node}
use Rattle.ae_types.specs.declared.graph.Node.TheVariants as node
use Rattle.ae_types.specs.declared.graph.Class.{Class}
use Rattle.ae_types.specs.declared.graph.Class.TheVariants as class
use Rattle.ae_types.specs.declared.cycles.Frame.{Frame}
use Rattle.ae_types.specs.Clashes.{Follows, reflexive, transitive, IsPair, IsClash, count_of, total}
use Rattle.ae_types.specs.Inner.Graphs.{Slot, Free, Link, Plain, Built, Fits, GraphWell, ClassWell, IsDown, known_slot, node_at, class_at, slot_at, slots_of, slot_of, origin, variable_of, is_variable}
use Rattle.ae_types.specs.Inner.Joins.{Follow}
use Rattle.ae_types.specs.Inner.Walks.{refs, frame_at, Leads, wrapped, begin, HaveParts, RunsTo, Wraps, IsBuilt, IsCycle}
use Rattle.ae_types.proofs.SortLaws.{count_named, count_own, named_not_var}
use Rattle.ae_types.proofs.FollowLaws.{same_named, SameAll}
use Rattle.ae_types.proofs.GraphLaws.{origin_variable, slots_length, slot_at_class}
use Rattle.ae_types.proofs.WalkLaws.{got}

all_own : (q : List SortPair) (xs : List Sort) → SameAll (Some q) xs xs
all_own q [] = tt
all_own q (x ∷ xs) = (reflexive, all_own q xs)

all_set : (q : List SortPair) (xs : List Sort) (i : ℕ) (s d : Sort) → Follows (IsPair q) (get_or xs i d) s → SameAll (Some q) xs (slice_set xs i s)
all_set q [] i s d h = tt
all_set q (x ∷ xs) zero s d h = (h, all_own q xs)
all_set q (x ∷ xs) (suc i) s d h = (reflexive, all_set q xs i s d h)

set_length : (xs : List Sort) (i : ℕ) (s : Sort) → length xs ≡ length (slice_set xs i s)
set_length [] i s = refl
set_length (x ∷ xs) zero s = refl
set_length (x ∷ xs) (suc i) s = ap suc (set_length xs i s)

count_set : (x : ℕ) (xs : List Sort) (i : ℕ) (s : Sort) → i < length xs → count_of x s ≤ total (map (count_of x) (slice_set xs i s))
count_set x [] i s h = absurd (omega arith)
count_set x (y ∷ ys) zero s h = let a = total (map (count_of x) ys) in le-add_right (count_of x s) a
count_set x (y ∷ ys) (suc i) s h = more (count_of x y) (total (map (count_of x) (slice_set ys i s))) (count_of x s) (count_set x ys i s (omega arith))
  where
    more : (a b c : ℕ) → c ≤ b → c ≤ a + b
    more a b c h = omega arith

wrap_follows : (q : List SortPair) (nodes : List Node) (s : Slot) (next child : ℕ) (x inner : Sort) → slice_get (refs s) next ≡ Some child → Fits (Some q) (origin nodes) s x
    → Follows (IsPair q) (origin nodes child) inner → Follows (IsPair q) x (wrapped nodes s next inner)
wrap_follows q nodes Free next child x inner g f h = absurd (cc)
wrap_follows q nodes (Link j) zero child x inner g f h = let e : j ≡ child = cc in transitive f (subst (λ k. Follows (IsPair q) (origin nodes k) inner) (sym e) h)
wrap_follows q nodes (Link j) (suc n) child x inner g f h = absurd (cc)
wrap_follows q nodes (Plain c) next child x inner g f h = absurd (cc)
wrap_follows q nodes (Built k args) next child x inner g f h =
    let r = got args next child g in
    let e = get_or-map (origin nodes) args next 0 UnitSort r.0 ∙ ap (origin nodes) r.1 in
    transitive f (same_named (Some q) k (map (origin nodes) args) (slice_set (map (origin nodes) args) next inner) (set_length (map (origin nodes) args) next inner)
    (all_set q (map (origin nodes) args) next inner UnitSort (subst (λ y. Follows (IsPair q) y inner) (sym e) h)))

wrap_occurs : (nodes : List Node) (s : Slot) (next x : ℕ) (inner : Sort) → next < length (refs s) → 0 < count_of x inner → 0 < count_of x (wrapped nodes s next inner)
wrap_occurs nodes Free next x inner h c = c
wrap_occurs nodes (Link j) next x inner h c = c
wrap_occurs nodes (Plain k) next x inner h c = c
wrap_occurs nodes (Built k args) next x inner h c =
    let l = length-map args (origin nodes) in
    let e = count_named x k (slice_set (map (origin nodes) args) next inner) in
    let m = count_set x (map (origin nodes) args) next inner (omega arith) in
    omega arith

pub wrap_built : (nodes : List Node) (s : Slot) (next n : ℕ) (inner : Sort) → IsBuilt s → wrapped nodes s next inner ≢ Var n
wrap_built nodes Free next n inner b = absurd b
wrap_built nodes (Link j) next n inner b = absurd b
wrap_built nodes (Plain k) next n inner b = absurd b
wrap_built nodes (Built k args) next n inner b = named_not_var k (slice_set (map (origin nodes) args) next inner) n

-- nothing is wrapped
pub wraps_none : (nodes : List Node) (classes : List Class) (path : List Frame) (to end : ℕ) (inner : Sort) → Wraps nodes classes (begin path to to end) end inner inner
wraps_none nodes classes path to end inner =
    let e : begin path to to end ≡ end = grind (arith, nat_tests) in
    record { follows = λ given f h. subst (λ k. Follows (IsPair given) (origin nodes k) inner) (sym e) h; occurs = λ x h. h }

-- one frame more
pub wraps_more : (nodes : List Node) (classes : List Class) (path : List Frame) (from at to end : ℕ) (inner sort : Sort) → from ≤ at → at < to
    → HaveParts (slots_of nodes classes) path from to → RunsTo (slots_of nodes classes) path from to end
    → Wraps nodes classes (begin path (at + 1) to end) end inner sort
    → Wraps nodes classes (begin path at to end) end inner (wrapped nodes (slot_at (slots_of nodes classes) (frame_at path at).place) (frame_at path at).next sort)
wraps_more nodes classes path from at to end inner sort a b p r w =
    let e : begin path at to end ≡ (frame_at path at).place = grind (arith, nat_tests) in
    let s = slot_at (slots_of nodes classes) (frame_at path at).place in
    record {
      follows = λ given f h. subst (λ k. Follows (IsPair given) (origin nodes k) (wrapped nodes s (frame_at path at).next sort)) (sym e)
          (wrap_follows given nodes s (frame_at path at).next (begin path (at + 1) to end) (origin nodes (frame_at path at).place) sort (r at a b) (f.each (frame_at path at).place (p at a b).0) (w.follows given f h));
      occurs = λ x h. wrap_occurs nodes s (frame_at path at).next x sort (p at a b).1 (w.occurs x h);
    }

-- ---- the lowest place of a cycle is that of a variable, and has a type
low_class : (nodes : List Node) (classes : List Class) (i next child : ℕ) (c : Class) → GraphWell nodes classes → i < length nodes → ClassWell nodes i c
    → slice_get (refs (slot_of nodes c)) next ≡ Some child → i ≤ child → (is_variable (node_at nodes i) ≡ true) × IsBuilt (slot_of nodes c)
low_class nodes classes i zero child (class.Link j) g a w e h = absurd (let q : j ≡ child = cc in omega arith)
low_class nodes classes i (suc n) child (class.Link j) g a w e h = absurd (cc)
low_class nodes classes i next child (class.Known k) g a w e h = known (node_at nodes k) refl e
  where
    own : (b : Bool) → is_variable (node_at nodes i) ≡ b → (k ≡ i → ⊥) → is_variable (node_at nodes i) ≡ true
    own true q n = q
    own false q n = absurd (n (w.1 q))

    known : (n : Node) → node_at nodes k ≡ n → slice_get (refs (known_slot n)) next ≡ Some child → (is_variable (node_at nodes i) ≡ true) × IsBuilt (known_slot (node_at nodes k))
    known (node.Variable x) q f = absurd (cc)
    known (node.Constant x) q f = absurd (cc)
    known (node.Built x args) q f =
        let d = subst (IsDown k) q (g.nodes_well.down k w.0) in
        let r = got args next child f in
        let u = d next r.0 in
        let v = r.1 in
        (own (is_variable (node_at nodes i)) refl (λ y. omega arith), subst (λ n. IsBuilt (known_slot n)) (sym q) tt)

variable_is : (n : Node) → is_variable n ≡ true → n ≡ node.Variable (variable_of n)
variable_is (node.Variable x) e = refl
variable_is (node.Constant x) e = absurd (cc)
variable_is (node.Built x args) e = absurd (cc)

module _ (nodes : List Node) (classes : List Class) (path : List Frame) (from low : ℕ) (g : GraphWell nodes classes) (c : IsCycle (slots_of nodes classes) path from)
    (above : from ≤ low) (within : low < length path)
    (least : (k : ℕ) → from ≤ k → k < length path → (frame_at path low).place ≤ (frame_at path k).place) where
  abbrev slots : List Slot
  slots = slots_of nodes classes

  pub cycle_leads : (k : ℕ) → k < length path → Leads slots (frame_at path k) (if nat_lt (k + 1) (length path) then (frame_at path (k + 1)).place else (frame_at path from).place)
  cycle_leads k h = either (nat_lt (k + 1) (length path)) refl
    where
      either : (b : Bool) → nat_lt (k + 1) (length path) ≡ b → Leads slots (frame_at path k) (if b then (frame_at path (k + 1)).place else (frame_at path from).place)
      either true e = c.chain k (let q : k + 1 < length path = grind (arith, nat_tests) in q)
      either false e = c.last k (let q : k + 1 ≡ length path = grind (arith, nat_tests) in q)

  pub cycle_parts : (a b : ℕ) → b ≤ length path → HaveParts slots path a b
  cycle_parts a b h = λ k x y. (c.within k (omega arith), (got (refs (slot_at slots (frame_at path k).place)) (frame_at path k).next _ (cycle_leads k (omega arith))).0)

  pub runs_outer : RunsTo slots path low (length path) (frame_at path from).place
  runs_outer = λ k a b. cycle_leads k b

  pub runs_inner : RunsTo slots path from low (frame_at path low).place
  runs_inner = λ k a b. either k b (nat_lt (k + 1) low) refl
    where
      either : (k : ℕ) → k < low → (b : Bool) → nat_lt (k + 1) low ≡ b → Leads slots (frame_at path k) (if b then (frame_at path (k + 1)).place else (frame_at path low).place)
      either k h true e = c.chain k (omega arith)
      either k h false e = let q : k + 1 ≡ low = grind (arith, nat_tests) in subst (λ j. Leads slots (frame_at path k) (frame_at path j).place) q (c.chain k (omega arith))

  low_child : (frame_at path low).place ≤ (if nat_lt (low + 1) (length path) then (frame_at path (low + 1)).place else (frame_at path from).place)
  low_child = either (nat_lt (low + 1) (length path)) refl
    where
      either : (b : Bool) → nat_lt (low + 1) (length path) ≡ b → (frame_at path low).place ≤ (if b then (frame_at path (low + 1)).place else (frame_at path from).place)
      either true e = least (low + 1) (omega arith) (let q : low + 1 < length path = grind (arith, nat_tests) in q)
      either false e = least from (omega arith) c.some

  low_facts : (is_variable (node_at nodes (frame_at path low).place) ≡ true) × IsBuilt (slot_at slots (frame_at path low).place)
  low_facts =
      let a = c.within low within in
      let m = slots_length nodes classes in
      let l = g.lengths in
      let e = slot_at_class nodes classes (frame_at path low).place (omega arith) in
      let child = if nat_lt (low + 1) (length path) then (frame_at path (low + 1)).place else (frame_at path from).place in
      let r = low_class nodes classes (frame_at path low).place (frame_at path low).next child (class_at classes (frame_at path low).place) g (omega arith) (g.each (frame_at path low).place (omega arith))
      (subst (λ s. slice_get (refs s) (frame_at path low).next ≡ Some child) e (cycle_leads low within)) low_child in
      (r.0, subst IsBuilt (sym e) r.1)

  low_origin : origin nodes (frame_at path low).place ≡ Var (variable_of (node_at nodes (frame_at path low).place))
  low_origin =
      let a = c.within low within in
      let m = slots_length nodes classes in
      let l = g.lengths in
      origin_variable nodes (frame_at path low).place _ g.nodes_well (omega arith) (variable_is (node_at nodes (frame_at path low).place) low_facts.0)

  begins_inner : begin path from low (frame_at path low).place ≡ (frame_at path from).place
  begins_inner = either (nat_lt from low) refl
    where
      either : (b : Bool) → nat_lt from low ≡ b → (if b then (frame_at path from).place else (frame_at path low).place) ≡ (frame_at path from).place
      either true e = refl
      either false e = let q : low ≡ from = grind (arith, nat_tests) in ap (λ k. (frame_at path k).place) q

  begins_outer : begin path low (length path) (frame_at path from).place ≡ (frame_at path low).place
  begins_outer = grind (arith, nat_tests)

  pub cycle_clash : (var : ℕ) (inner sort : Sort) → var ≡ variable_of (node_at nodes (frame_at path low).place)
      → Wraps nodes classes (begin path from low (frame_at path low).place) (frame_at path low).place (Var var) inner
      → Wraps nodes classes (begin path low (length path) (frame_at path from).place) (frame_at path from).place inner sort
      → ((n : ℕ) → sort ≢ Var n)
      → (given : List SortPair) → Follow given nodes classes → IsClash (IsPair given) (Cycle var sort)
  cycle_clash var inner sort e u w n given f =
      let o : origin nodes (frame_at path low).place ≡ Var var = low_origin ∙ ap Var (sym e) in
      let a = subst (λ k. Follows (IsPair given) (origin nodes k) inner) begins_inner (u.follows given f (subst (λ s. Follows (IsPair given) s (Var var)) (sym o) reflexive)) in
      let b = subst (λ k. Follows (IsPair given) (origin nodes k) sort) begins_outer (w.follows given f a) in (
        subst (λ s. Follows (IsPair given) s sort) o b,
        record { occurs = w.occurs var (u.occurs var (let q = count_own var in omega arith)); within = n var },
      )

  pub low_built : IsBuilt (slot_at slots (frame_at path low).place)
  low_built = low_facts.1
