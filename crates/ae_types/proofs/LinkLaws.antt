-- Laws of writing links.
use Rattle.std.proofs.Common.{◌≡◌, ◌≢◌, ℕ, zero, suc, ◌<◌, inl, inr, List, [], ◌∷◌, ◌++◌, length, get_or, refl, ap, sym, ◌∙◌, subst, arith, slice_set, Option, length-set, get_or-set_other, get_or-set_same, true, false, ◌⊎◌, Contains}
use Rattle.ae_core.specs.declared.terms.Sort.{Sort}
use Rattle.ae_types.specs.declared.pairs.SortPair.{SortPair}
use Rattle.ae_types.specs.declared.graph.Node.{Node}
use Rattle.ae_types.specs.declared.graph.Node.TheVariants as node
use Rattle.ae_types.specs.declared.graph.Class.{Class}
use Rattle.ae_types.specs.declared.graph.Class.TheVariants as class
use Rattle.ae_types.specs.declared.graph.Root.{Root}
use Rattle.ae_types.specs.declared.graph.Change.{Change}
use Rattle.ae_types.specs.Inner.Graphs.{Slot, Free, Link, Same, Solves, Fits, slot_at, class_at, node_at, slots_of, slot_of, known_slot, GraphWell, ClassWell, is_variable, rewound}
use Rattle.ae_types.specs.Inner.Joins.{LinksDown, Shortened, joined, kept, weight, arity}
use Rattle.ae_types.specs.Inner.Orders.{Beneath, LinksAmong, Ordered}
use Rattle.ae_types.proofs.FollowLaws.{same_sym, same_trans}
use Rattle.ae_types.proofs.GraphLaws.{slots_length, slot_at_class, slots_set, known_well, set_back, rewound_last}
use Rattle.ae_types.proofs.JoinLaws.{same_or_not, weight_set, root_slot}

-- a fact of each element of a list with one element set
pub set_each : {A : Type 0} (P : ℕ → A → Type 0) (xs : List A) (at : ℕ) (a d : A) → at < length xs → P at a → ((i : ℕ) → i < length xs → P i (get_or xs i d))
    → (i : ℕ) → i < length (slice_set xs at a) → P i (get_or (slice_set xs at a) i d)
set_each P xs at a d w p h i k =
    let m = length-set xs at a in
    elim (same_or_not i at) [
      | inl e ↦ subst (λ j. P j (get_or (slice_set xs at a) j d)) (sym e) (subst (P at) (sym (get_or-set_same xs at a d w)) p)
      | inr n ↦ subst (P i) (sym (get_or-set_other xs at i a d n)) (h i (omega arith))
    ]

-- the same the other way
pub unset_each : {A : Type 0} (P : ℕ → A → Type 0) (xs : List A) (at : ℕ) (a d : A) → P at (get_or xs at d) → ((i : ℕ) → i < length (slice_set xs at a) → P i (get_or (slice_set xs at a) i d))
    → (i : ℕ) → i < length xs → P i (get_or xs i d)
unset_each P xs at a d p h i k =
    let m = length-set xs at a in
    elim (same_or_not i at) [
      | inl e ↦ subst (λ j. P j (get_or xs j d)) (sym e) p
      | inr n ↦ subst (P i) (get_or-set_other xs at i a d n) (h i (omega arith))
    ]

module _ (classes : List Class) (at next far : ℕ) (down : LinksDown classes) (within : at < length classes)
    (one : class_at classes at ≡ class.Link next) (two : class_at classes next ≡ class.Link far) where
  lower : (next < at) × (far < next)
  lower = let a = down at next within one in (a, down next far (omega arith) two)

  abbrev shorter : List Class
  shorter = slice_set classes at (class.Link far)

  shorter_down : LinksDown shorter
  shorter_down i j h e = elim (same_or_not i at) [
    | inl q ↦
        let l = lower in
        let a = l.0 in
        let b = l.1 in
        let x : class.Link far ≡ class.Link j = sym (get_or-set_same classes at (class.Link far) (class.Link 0) within) ∙ ap (class_at shorter) (sym q) ∙ e in
        let y : far ≡ j = cc in
        omega arith
    | inr n ↦ down i j (let m = length-set classes at (class.Link far) in omega arith) (sym (get_or-set_other classes at i (class.Link far) (class.Link 0) n) ∙ e)
  ]

  shorter_known : (i k : ℕ) → class_at classes i ≡ class.Known k → class_at shorter i ≡ class.Known k
  shorter_known i k e = elim (same_or_not i at) [
    | inl q ↦ absurd (let x : class.Link next ≡ class.Known k = sym one ∙ ap (class_at classes) (sym q) ∙ e in cc)
    | inr n ↦ get_or-set_other classes at i (class.Link far) (class.Link 0) n ∙ e
  ]

  module _ (nodes : List Node) where
    slot_one : slot_at (slots_of nodes classes) at ≡ Link next
    slot_one = slot_at_class nodes classes at within ∙ ap (slot_of nodes) one

    slot_two : slot_at (slots_of nodes classes) next ≡ Link far
    slot_two = let l = lower in let a = l.0 in slot_at_class nodes classes next (omega arith) ∙ ap (slot_of nodes) two

    shorter_onward : (e : Option (List SortPair)) (v : ℕ → Sort) → Solves e v (slots_of nodes classes) → Solves e v (slots_of nodes shorter)
    shorter_onward e v s =
        let m = slots_length nodes classes in
        let l = lower in
        let a = l.0 in
        let x = subst (λ t. Fits e v t (v at)) slot_one (s.each at (omega arith)) in
        let y = subst (λ t. Fits e v t (v next)) slot_two (s.each next (omega arith)) in
        subst (Solves e v) (sym (slots_set nodes classes at (class.Link far))) (record {
          each = set_each (λ i t. Fits e v t (v i)) (slots_of nodes classes) at (Link far) Free (omega arith) (same_trans e (v at) (v next) (v far) x y) s.each;
        })

    shorter_back : (e : Option (List SortPair)) (v : ℕ → Sort) → Solves e v (slots_of nodes shorter) → Solves e v (slots_of nodes classes)
    shorter_back e v s =
        let m = slots_length nodes classes in
        let l = lower in
        let a = l.0 in
        let n : next ≢ at = λ q. omega arith in
        let z = subst (Solves e v) (slots_set nodes classes at (class.Link far)) s in
        let k = length-set (slots_of nodes classes) at (Link far) in
        let x = subst (λ t. Fits e v t (v at)) (get_or-set_same (slots_of nodes classes) at (Link far) Free (omega arith)) (z.each at (omega arith)) in
        let y = subst (λ t. Fits e v t (v next)) (get_or-set_other (slots_of nodes classes) at next (Link far) Free n ∙ slot_two) (z.each next (omega arith)) in
        record {
          each = unset_each (λ i t. Fits e v t (v i)) (slots_of nodes classes) at (Link far) Free
              (subst (λ t. Fits e v t (v at)) (sym slot_one) (same_trans e (v at) (v far) (v next) x (same_sym e (v next) (v far) y))) z.each;
        }

    shorter_weight : weight (slots_of nodes shorter) ≡ weight (slots_of nodes classes)
    shorter_weight =
        let m = slots_length nodes classes in
        let x = weight_set (slots_of nodes classes) at (Link far) (omega arith) in
        let y = ap arity slot_one in
        let z = ap weight (slots_set nodes classes at (class.Link far)) in
        omega arith

    abbrev old : List Slot
    old = slots_of nodes classes

    module _ (ls js : List ℕ) (o : Ordered ls js old) where
      among_far : Contains js next → Contains js far
      among_far c = let l = lower in let a = l.0 in let m = slots_length nodes classes in o.among next (omega arith) c far slot_two

      through : Contains js next ⊎ (get_or ls next 0 < get_or ls at 0) → Contains js far ⊎ (get_or ls far 0 < get_or ls at 0)
      through (inl c) = inl (among_far c)
      through (inr h) =
          let l = lower in
          let a = l.0 in
          let m = slots_length nodes classes in
          elim (o.each next (omega arith)) [
            | inl c ↦ inl (among_far c)
            | inr b ↦ elim (subst (Beneath ls js (get_or ls next 0)) slot_two b 0 (omega arith)) [ inl c ↦ inl c | inr k ↦ inr (omega arith) ]
          ]

      only : (P : ℕ → Type 0) (j : ℕ) → P j → (k : ℕ) → k < length (j ∷ []) → P (get_or (j ∷ []) k 0)
      only P j p zero h = p
      only P j p (suc k) h = absurd (omega arith)

      far_among : Contains js at → LinksAmong js (Link far)
      far_among c j e =
          let m = slots_length nodes classes in
          let x : far ≡ j = cc in
          subst (Contains js) x (among_far (o.among at (omega arith) c next slot_one))

      far_each : Contains js at ⊎ Beneath ls js (get_or ls at 0) (Link far)
      far_each =
          let m = slots_length nodes classes in
          elim (o.each at (omega arith)) [
            | inl c ↦ inl c
            | inr b ↦ inr (only (λ x. Contains js x ⊎ (get_or ls x 0 < get_or ls at 0)) far (through (subst (Beneath ls js (get_or ls at 0)) slot_one b 0 (omega arith))))
          ]

    shorter_ordered : (ls js : List ℕ) → Ordered ls js (slots_of nodes classes) → Ordered ls js (slots_of nodes shorter)
    shorter_ordered ls js o =
        let m = slots_length nodes classes in
        subst (Ordered ls js) (sym (slots_set nodes classes at (class.Link far))) (record {
          among = set_each (λ i s. Contains js i → LinksAmong js s) (slots_of nodes classes) at (Link far) Free (omega arith) (far_among ls js o) o.among;
          each = set_each (λ i s. Contains js i ⊎ Beneath ls js (get_or ls i 0) s) (slots_of nodes classes) at (Link far) Free (omega arith) (far_each ls js o) o.each;
        })

    shorter_well : GraphWell nodes classes → GraphWell nodes shorter
    shorter_well g = record {
      nodes_well = g.nodes_well;
      lengths = length-set classes at (class.Link far) ∙ g.lengths;
      each = set_each (ClassWell nodes) classes at (class.Link far) (class.Link 0) within (let l = lower in let a = l.0 in let b = l.1 in omega arith) g.each;
    }

  pub shortened_set : Shortened classes shorter
  shortened_set = record {
    same_length = length-set classes at (class.Link far);
    down = shorter_down;
    known = shorter_known;
    well = shorter_well;
    onward = shorter_onward;
    back = shorter_back;
    same_weight = shorter_weight;
    ordered = shorter_ordered;
  }

-- ---- a root that becomes a link
set_own : {A : Type 0} (xs : List A) (i : ℕ) (a d : A) → a ≡ get_or xs i d → slice_set xs i a ≡ xs
set_own [] i a d e = refl
set_own (x ∷ xs) zero a d e = ap (λ y. y ∷ xs) e
set_own (x ∷ xs) (suc i) a d e = ap (λ ys. x ∷ ys) (set_own xs i a d e)

module _ (nodes : List Node) (classes : List Class) (low high : Root) (g : GraphWell nodes classes) (order : low.place < high.place) (within : high.place < length classes)
    (lk : class_at classes low.place ≡ class.Known low.known) (hk : class_at classes high.place ≡ class.Known high.known) where
  abbrev slots : List Slot
  slots = slots_of nodes classes

  abbrev one : List Class
  one = slice_set classes high.place (class.Link low.place)

  low_slot : slot_at slots low.place ≡ known_slot (node_at nodes low.known)
  low_slot = root_slot nodes classes low.place low.known (omega arith) lk

  high_slot : slot_at slots high.place ≡ known_slot (node_at nodes high.known)
  high_slot = root_slot nodes classes high.place high.known within hk

  one_well : GraphWell nodes one
  one_well = record {
    nodes_well = g.nodes_well;
    lengths = length-set classes high.place (class.Link low.place) ∙ g.lengths;
    each = set_each (ClassWell nodes) classes high.place (class.Link low.place) (class.Link 0) within order g.each;
  }

  low_other : {A : Type 0} (xs : List A) (a d : A) → get_or (slice_set xs high.place a) low.place d ≡ get_or xs low.place d
  low_other xs a d = let n : low.place ≢ high.place = λ q. omega arith in get_or-set_other xs high.place low.place a d n

  kept_node : (m n : Node) → (is_variable m ≡ true → is_variable n ≡ true) → kept (known_slot m) (known_slot n) ≡ known_slot m
  kept_node (node.Variable x) (node.Variable y) h = refl
  kept_node (node.Variable x) (node.Constant y) h = absurd (let q = h refl in cc)
  kept_node (node.Variable x) (node.Built y args) h = absurd (let q = h refl in cc)
  kept_node (node.Constant x) n h = refl
  kept_node (node.Built x args) n h = refl

  -- the lower keeps its node
  pub linked_kept : (is_variable (node_at nodes low.known) ≡ true → is_variable (node_at nodes high.known) ≡ true)
      → GraphWell nodes one × (slots_of nodes one ≡ joined slots low.place high.place)
  linked_kept h = (
    one_well,
    slots_set nodes classes high.place (class.Link low.place)
        ∙ sym (set_own (slice_set slots high.place (Link low.place)) low.place (kept (slot_at slots low.place) (slot_at slots high.place)) Free
        (ap (λ s. kept s (slot_at slots high.place)) low_slot ∙ ap (kept (known_slot (node_at nodes low.known))) high_slot
        ∙ kept_node (node_at nodes low.known) (node_at nodes high.known) h ∙ sym low_slot ∙ sym (low_other slots (Link low.place) Free))),
  )

  known_free : (m : Node) (t : Slot) → is_variable m ≡ true → kept (known_slot m) t ≡ t
  known_free (node.Variable x) t e = refl
  known_free (node.Constant x) t e = absurd (cc)
  known_free (node.Built x args) t e = absurd (cc)

  abbrev two : List Class
  two = slice_set one low.place (class.Known high.known)

  -- the lower gets the node of the higher
  pub linked_moved : is_variable (node_at nodes low.known) ≡ true → is_variable (node_at nodes high.known) ≡ false
      → GraphWell nodes two × (slots_of nodes two ≡ joined slots low.place high.place)
  linked_moved h k =
      let m = length-set classes high.place (class.Link low.place) in
      let w = known_well nodes classes low.place low.known g (omega arith) lk in
      let z = known_well nodes classes high.place high.known g within hk in
      let q = w.2 h in
      let own : is_variable (node_at nodes low.place) ≡ true = ap (λ i. is_variable (node_at nodes i)) (sym q) ∙ h in (
        record {
          nodes_well = g.nodes_well;
          lengths = length-set one low.place (class.Known high.known) ∙ m ∙ g.lengths;
          each = set_each (ClassWell nodes) one low.place (class.Known high.known) (class.Link 0) (omega arith)
              (z.0, λ e. absurd (let x = sym own ∙ e in cc), λ e. absurd (let x = sym k ∙ e in cc)) one_well.each;
        },
        slots_set nodes one low.place (class.Known high.known)
            ∙ ap (λ xs. slice_set xs low.place (known_slot (node_at nodes high.known))) (slots_set nodes classes high.place (class.Link low.place))
            ∙ ap (slice_set (slice_set slots high.place (Link low.place)) low.place)
            (sym high_slot ∙ sym (known_free (node_at nodes low.known) (slot_at slots high.place) h) ∙ ap (λ s. kept s (slot_at slots high.place)) (sym low_slot)),
      )

-- ---- a write with its note
pub written_back : (classes new : List Class) (log after : List Change) (place : ℕ) (c old : Class) → place < length classes → old ≡ class_at classes place
    → new ≡ slice_set classes place c → after ≡ log ++ record { place = place; class = old } ∷ [] → rewound new after ≡ rewound classes log
written_back classes new log after place c old w e n a =
    ap (λ x. rewound x after) n ∙ ap (rewound (slice_set classes place c)) a ∙ rewound_last (slice_set classes place c) log (record { place = place; class = old })
    ∙ ap (λ x. rewound x log) (set_back classes place c old (class.Link 0) w e)

pub link_same : (nodes : List Node) (classes : List Class) (e : Option (List SortPair)) (v : ℕ → Sort) (i j : ℕ) → Solves e v (slots_of nodes classes) → i < length classes
    → class_at classes i ≡ class.Link j → Same e (v i) (v j)
link_same nodes classes e v i j s h k =
    subst (λ t. Fits e v t (v i)) (slot_at_class nodes classes i h ∙ ap (slot_of nodes) k) (s.each i (let m = slots_length nodes classes in omega arith))
