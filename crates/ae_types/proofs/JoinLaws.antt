-- Laws of joining two places.
use Rattle.std.proofs.Common.{◌≡◌, ◌≢◌, ℕ, zero, suc, ◌+◌, ◌<◌, ◌≤◌, List, [], ◌∷◌, ◌++◌, map, length, get_or, refl, ap, sym, ◌⊎◌, inl, inr, slice_set, Option, Some, length-set, length-append, ◌∙◌, subst, arith, get_or-set_other, get_or-set_same, Bool, true, false}
use Rattle.std.proofs.lemmas.List.{length-map}
use Rattle.ae_core.specs.declared.terms.Sort.{Sort, Named}
use Rattle.ae_types.specs.declared.pairs.SortPair.{SortPair}
use Rattle.ae_types.specs.declared.pairs.Clash.{Clash}
use Rattle.ae_types.specs.declared.pairs.Clash.TheVariants.{Differ, Cycle, Memory}
use Rattle.ae_types.specs.declared.graph.Node.{Node}
use Rattle.ae_types.specs.declared.graph.Node.TheVariants as node
use Rattle.ae_types.specs.declared.graph.Class.{Class}
use Rattle.ae_types.specs.declared.graph.Class.TheVariants as class
use Rattle.ae_types.specs.declared.graph.Root.{Root}
use Rattle.ae_types.specs.declared.joins.Pair.{Pair}
use Rattle.ae_types.specs.Clashes.{IsClash, IsPair, AreApart}
use Rattle.ae_types.specs.Inner.Graphs.{Slot, Free, Link, Plain, Built, Same, Solves, SlotWell, IsRoot, slot_at, constant_sort, Fits, GraphWell, ClassWell, class_at, slots_of, slot_of, known_slot, node_at, origin, is_variable, node_sort}
use Rattle.ae_types.specs.Inner.Joins.{pairs_of, Equates, PairsWell, Compatible, demands, kept, joined, weight, arity, United, Stepped, Closing, Blames, DiffersAt, LinksDown, Shortened, Finds, Follow}
use Rattle.ae_types.proofs.SortLaws.{named_parts, constant_not_named, constant_parts, constant_not_var, named_not_var, head_named, head_constant}
use Rattle.ae_types.proofs.FollowLaws.{same_eq, same_sym, same_trans, same_named, same_parts, SameAll}
use Rattle.ae_types.proofs.GraphLaws.{slots_length, slot_at_class, graph_slots, link_down, known_well, origin_step}

pub equates_append : (e : Option (List SortPair)) (v : ℕ → Sort) (ps qs : List Pair) → Equates e v ps → Equates e v qs → Equates e v (ps ++ qs)
equates_append e v [] qs h k = k
equates_append e v (p ∷ ps) qs h k = (h.0, equates_append e v ps qs h.1 k)

pub equates_split : (e : Option (List SortPair)) (v : ℕ → Sort) (ps qs : List Pair) → Equates e v (ps ++ qs) → Equates e v ps × Equates e v qs
equates_split e v [] qs h = (tt, h)
equates_split e v (p ∷ ps) qs h = let r = equates_split e v ps qs h.1 in ((h.0, r.0), r.1)

pub well_append : (n : ℕ) (ps qs : List Pair) → PairsWell n ps → PairsWell n qs → PairsWell n (ps ++ qs)
well_append n [] qs h k = k
well_append n (p ∷ ps) qs h k = (h.0, h.1, well_append n ps qs h.2 k)

pub well_split : (n : ℕ) (ps qs : List Pair) → PairsWell n (ps ++ qs) → PairsWell n ps × PairsWell n qs
well_split n [] qs h = (tt, h)
well_split n (p ∷ ps) qs h = let r = well_split n ps qs h.2 in ((h.0, h.1, r.0), r.1)

-- lists of one length have the same sorts exactly where their pairs have
all_pairs : (e : Option (List SortPair)) (v : ℕ → Sort) (xs ys : List ℕ) → SameAll e (map v xs) (map v ys) → Equates e v (pairs_of xs ys)
all_pairs e v [] ys h = tt
all_pairs e v (x ∷ xs) [] h = tt
all_pairs e v (x ∷ xs) (y ∷ ys) h = (h.0, all_pairs e v xs ys h.1)

pairs_all : (e : Option (List SortPair)) (v : ℕ → Sort) (xs ys : List ℕ) → length xs ≡ length ys → Equates e v (pairs_of xs ys) → SameAll e (map v xs) (map v ys)
pairs_all e v [] ys l h = tt
pairs_all e v (x ∷ xs) [] l h = tt
pairs_all e v (x ∷ xs) (y ∷ ys) l h = (h.0, pairs_all e v xs ys (omega arith) h.1)

lengths_map : (v : ℕ → Sort) (xs ys : List ℕ) → length xs ≡ length ys → length (map v xs) ≡ length (map v ys)
lengths_map v xs ys l = length-map xs v ∙ l ∙ sym (length-map ys v)

-- where two places have one sort, what is known of them demands no more
pub demanded : (e : Option (List SortPair)) (v : ℕ → Sort) (s t : Slot) (x y : Sort) → Compatible s t → Same e x y → Fits e v s x → Fits e v t y → Equates e v (demands s t)
demanded e v Free t x y c q h k = tt
demanded e v (Link j) t x y c q h k = tt
demanded e v (Plain b) t x y c q h k = tt
demanded e v (Built n args) Free x y c q h k = tt
demanded e v (Built n args) (Link j) x y c q h k = tt
demanded e v (Built n args) (Plain b) x y c q h k = tt
demanded e v (Built n args) (Built m more) x y c q h k =
    let both = same_trans e (Named n (map v args)) x (Named m (map v more)) (same_sym e x (Named n (map v args)) h) (same_trans e x y (Named m (map v more)) q k) in
    all_pairs e v args more (same_parts e n (map v args) (map v more) (lengths_map v args more c.1)
    (subst (λ j. Same e (Named n (map v args)) (Named j (map v more))) (sym c.0) both))

fits_same : (e : Option (List SortPair)) (v : ℕ → Sort) (s : Slot) (x y : Sort) → Same e x y → Fits e v s y → Fits e v s x
fits_same e v Free x y q h = tt
fits_same e v (Link j) x y q h = same_trans e x y (v j) q h
fits_same e v (Plain b) x y q h = same_trans e x y (constant_sort b) q h
fits_same e v (Built n args) x y q h = same_trans e x y (Named n (map v args)) q h

pub kept_fits : (e : Option (List SortPair)) (v : ℕ → Sort) (s t : Slot) (x : Sort) → Fits e v s x → Fits e v t x → Fits e v (kept s t) x
kept_fits e v Free t x h k = k
kept_fits e v (Link j) t x h k = h
kept_fits e v (Plain b) t x h k = h
kept_fits e v (Built n args) t x h k = h

-- what the lower place keeps says what was known of both
pub low_fits : (e : Option (List SortPair)) (v : ℕ → Sort) (s t : Slot) (x : Sort) → Fits e v (kept s t) x → Fits e v s x
low_fits e v Free t x h = tt
low_fits e v (Link j) t x h = h
low_fits e v (Plain b) t x h = h
low_fits e v (Built n args) t x h = h

pub high_fits : (e : Option (List SortPair)) (v : ℕ → Sort) (s t : Slot) (x : Sort) → IsRoot s → IsRoot t → Compatible s t → Equates e v (demands s t) → Fits e v (kept s t) x → Fits e v t x
high_fits e v Free t x a b c d h = h
high_fits e v (Link j) t x a b c d h = absurd a
high_fits e v (Plain p) Free x a b c d h = tt
high_fits e v (Plain p) (Link j) x a b c d h = absurd b
high_fits e v (Plain p) (Plain q) x a b c d h = subst (λ k. Same e x (constant_sort k)) c h
high_fits e v (Plain p) (Built n args) x a b c d h = absurd c
high_fits e v (Built n args) Free x a b c d h = tt
high_fits e v (Built n args) (Link j) x a b c d h = absurd b
high_fits e v (Built n args) (Plain q) x a b c d h = absurd c
high_fits e v (Built n args) (Built m more) x a b c d h =
    subst (λ k. Same e x (Named k (map v more))) c.0
    (same_trans e x (Named n (map v args)) (Named n (map v more)) h
    (same_named e n (map v args) (map v more) (lengths_map v args more c.1) (pairs_all e v args more c.1 d)))

-- places of a joined graph
pub same_or_not : (i j : ℕ) → (i ≡ j) ⊎ (i ≢ j)
same_or_not zero zero = inl refl
same_or_not zero (suc j) = inr (λ h. omega arith)
same_or_not (suc i) zero = inr (λ h. omega arith)
same_or_not (suc i) (suc j) = elim (same_or_not i j) [ inl e ↦ inl (ap suc e) | inr n ↦ inr (λ h. n (omega arith)) ]

joined_other : (slots : List Slot) (low high i : ℕ) → i ≢ low → i ≢ high → slot_at (joined slots low high) i ≡ slot_at slots i
joined_other slots low high i a b = rw get_or-set_other (rw get_or-set_other refl)

joined_low : (slots : List Slot) (low high : ℕ) → low < high → high < length slots → slot_at (joined slots low high) low ≡ kept (slot_at slots low) (slot_at slots high)
joined_low slots low high a b = get_or-set_same _ low _ Free (omega (arith, length-set slots high (Link low)))

joined_high : (slots : List Slot) (low high : ℕ) → low < high → high < length slots → slot_at (joined slots low high) high ≡ Link low
joined_high slots low high a b =
    let n : high ≢ low = omega arith in
    get_or-set_other (slice_set slots high (Link low)) low high (kept (slot_at slots low) (slot_at slots high)) Free n ∙ get_or-set_same slots high (Link low) Free b

joined_length : (slots : List Slot) (low high : ℕ) → length (joined slots low high) ≡ length slots
joined_length slots low high = length-set (slice_set slots high (Link low)) low (kept (slot_at slots low) (slot_at slots high)) ∙ length-set slots high (Link low)

-- a fact of each place of a joined graph, from the places of the graph before
pub joined_each : (P : ℕ → Slot → Type 0) (slots : List Slot) (low high : ℕ) → low < high → high < length slots
    → P high (Link low) → P low (kept (slot_at slots low) (slot_at slots high))
    → ((i : ℕ) → i < length slots → P i (slot_at slots i))
    → (i : ℕ) → i < length (joined slots low high) → P i (slot_at (joined slots low high) i)
joined_each P slots low high a b h l other i w =
    let m = joined_length slots low high in
    elim (same_or_not i low) [
      | inl e ↦ subst (λ k. P k (slot_at (joined slots low high) k)) (sym e) (subst (P low) (sym (joined_low slots low high a b)) l)
      | inr n ↦ elim (same_or_not i high) [
        | inl e ↦ subst (λ k. P k (slot_at (joined slots low high) k)) (sym e) (subst (P high) (sym (joined_high slots low high a b)) h)
        | inr o ↦ subst (P i) (sym (joined_other slots low high i n o)) (other i (omega arith))
      ]
    ]

-- the same the other way
joined_back : (P : ℕ → Slot → Type 0) (slots : List Slot) (low high : ℕ) → low < high → high < length slots
    → P low (slot_at slots low) → P high (slot_at slots high)
    → ((i : ℕ) → i < length (joined slots low high) → P i (slot_at (joined slots low high) i))
    → (i : ℕ) → i < length slots → P i (slot_at slots i)
joined_back P slots low high a b l h other i w =
    let m = joined_length slots low high in
    elim (same_or_not i low) [
      | inl e ↦ subst (λ k. P k (slot_at slots k)) (sym e) l
      | inr n ↦ elim (same_or_not i high) [
        | inl e ↦ subst (λ k. P k (slot_at slots k)) (sym e) h
        | inr o ↦ subst (P i) (joined_other slots low high i n o) (other i (omega arith))
      ]
    ]

pub joined_onward : (e : Option (List SortPair)) (v : ℕ → Sort) (slots : List Slot) (low high : ℕ) → low < high → high < length slots
    → Same e (v low) (v high) → Solves e v slots → Solves e v (joined slots low high)
joined_onward e v slots low high a b q h = record {
  each = joined_each (λ i s. Fits e v s (v i)) slots low high a b (same_sym e (v low) (v high) q)
      (kept_fits e v (slot_at slots low) (slot_at slots high) (v low) (h.each low (omega arith))
      (fits_same e v (slot_at slots high) (v low) (v high) q (h.each high b)))
      h.each;
}

joined_same : (e : Option (List SortPair)) (v : ℕ → Sort) (slots : List Slot) (low high : ℕ) → low < high → high < length slots
    → Solves e v (joined slots low high) → Same e (v low) (v high)
joined_same e v slots low high a b h =
    let m = joined_length slots low high in
    same_sym e (v high) (v low) (subst (λ s. Fits e v s (v high)) (joined_high slots low high a b) (h.each high (omega arith)))

pub joined_solves : (e : Option (List SortPair)) (v : ℕ → Sort) (slots : List Slot) (low high : ℕ) → low < high → high < length slots
    → IsRoot (slot_at slots low) → IsRoot (slot_at slots high) → Compatible (slot_at slots low) (slot_at slots high)
    → Equates e v (demands (slot_at slots low) (slot_at slots high))
    → Solves e v (joined slots low high) → Solves e v slots
joined_solves e v slots low high a b r q c d h =
    let m = joined_length slots low high in
    let k = subst (λ s. Fits e v s (v low)) (joined_low slots low high a b) (h.each low (omega arith)) in
    let x = joined_same e v slots low high a b h in
    record {
      each = joined_back (λ i s. Fits e v s (v i)) slots low high a b
          (low_fits e v (slot_at slots low) (slot_at slots high) (v low) k)
          (fits_same e v (slot_at slots high) (v high) (v low) (same_sym e (v low) (v high) x)
          (high_fits e v (slot_at slots low) (slot_at slots high) (v low) r q c d k))
          h.each;
    }

-- the demands are pairs of places
pairs_well : (n : ℕ) (xs ys : List ℕ) → ((k : ℕ) → k < length xs → get_or xs k 0 < n) → ((k : ℕ) → k < length ys → get_or ys k 0 < n) → PairsWell n (pairs_of xs ys)
pairs_well n [] ys h k = tt
pairs_well n (x ∷ xs) [] h k = tt
pairs_well n (x ∷ xs) (y ∷ ys) h k =
    (h 0 (omega arith), k 0 (omega arith), pairs_well n xs ys (λ i w. h (suc i) (omega arith)) (λ i w. k (suc i) (omega arith)))

demands_well : (n i j : ℕ) (s t : Slot) → SlotWell n i s → SlotWell n j t → PairsWell n (demands s t)
demands_well n i j Free t h k = tt
demands_well n i j (Link m) t h k = tt
demands_well n i j (Plain b) t h k = tt
demands_well n i j (Built m args) Free h k = tt
demands_well n i j (Built m args) (Link l) h k = tt
demands_well n i j (Built m args) (Plain b) h k = tt
demands_well n i j (Built m args) (Built l more) h k = pairs_well n args more h k

-- weights
pub weight_set : (slots : List Slot) (i : ℕ) (s : Slot) → i < length slots → weight (slice_set slots i s) + arity (slot_at slots i) ≡ weight slots + arity s
weight_set [] i s h = absurd (omega arith)
weight_set (t ∷ ts) zero s h = omega arith
weight_set (t ∷ ts) (suc i) s h = let ih = weight_set ts i s (omega arith) in omega arith

pairs_length : (xs ys : List ℕ) → length (pairs_of xs ys) ≤ length ys
pairs_length [] ys = omega arith
pairs_length (x ∷ xs) [] = omega arith
pairs_length (x ∷ xs) (y ∷ ys) = let ih = pairs_length xs ys in omega arith

slot_weights : (s t : Slot) → arity (kept s t) + length (demands s t) ≤ arity s + arity t
slot_weights Free t = omega arith
slot_weights (Link j) t = omega arith
slot_weights (Plain b) t = omega arith
slot_weights (Built m args) Free = omega arith
slot_weights (Built m args) (Link j) = omega arith
slot_weights (Built m args) (Plain b) = omega arith
slot_weights (Built m args) (Built l more) = let p = pairs_length args more in omega arith

joined_weight : (slots : List Slot) (low high : ℕ) → low < high → high < length slots
    → weight (joined slots low high) + length (demands (slot_at slots low) (slot_at slots high)) ≤ weight slots
joined_weight slots low high a b =
    let n : low ≢ high = omega arith in
    let l = length-set slots high (Link low) in
    let p = weight_set slots high (Link low) b in
    let q = weight_set (slice_set slots high (Link low)) low (kept (slot_at slots low) (slot_at slots high)) (omega arith) in
    let e = ap arity (get_or-set_other slots high low (Link low) Free n) in
    let w = slot_weights (slot_at slots low) (slot_at slots high) in
    omega arith

pub known_root : (n : Node) → IsRoot (known_slot n)
known_root (node.Variable x) = tt
known_root (node.Constant c) = tt
known_root (node.Built h args) = tt

-- the slot of a root
pub root_slot : (nodes : List Node) (classes : List Class) (i k : ℕ) → i < length classes → class_at classes i ≡ class.Known k
    → slot_at (slots_of nodes classes) i ≡ known_slot (node_at nodes k)
root_slot nodes classes i k h e = slot_at_class nodes classes i h ∙ ap (slot_of nodes) e

-- making two roots one is a step
pub stepped : (nodes : List Node) (old new : List Class) (todo after : List Pair) (pair : Pair) (low high : Root) → GraphWell nodes old → PairsWell (length nodes) todo
    → low.place < high.place → high.place < length old → class_at old low.place ≡ class.Known low.known → class_at old high.place ≡ class.Known high.known
    → ((e : Option (List SortPair)) (v : ℕ → Sort) → Solves e v (slots_of nodes old) → Same e (v pair.left) (v pair.right) → Same e (v low.place) (v high.place))
    → ((e : Option (List SortPair)) (v : ℕ → Sort) → Solves e v (slots_of nodes old) → Same e (v low.place) (v high.place) → Same e (v pair.left) (v pair.right))
    → United nodes old new todo after low high → Stepped nodes old new todo after pair
stepped nodes old new todo after pair low high w p a0 b0 kl kh f g u =
    let slots = slots_of nodes old in
    let n = slots_length nodes old in
    let l = low.place in
    let h = high.place in
    let b : h < length slots = omega arith in
    let sl = root_slot nodes old l low.known (omega arith) kl in
    let sh = root_slot nodes old h high.known b0 kh in
    let s = slot_at slots l in
    let t = slot_at slots h in
    let rl = subst IsRoot (sym sl) (known_root (node_at nodes low.known)) in
    let rh = subst IsRoot (sym sh) (known_root (node_at nodes high.known)) in
    let fits = subst (λ x. Compatible x t) (sym sl) (subst (Compatible (known_slot (node_at nodes low.known))) (sym sh) u.fits) in
    let pairs = u.pairs ∙ ap (λ x. todo ++ demands x (known_slot (node_at nodes high.known))) (sym sl) ∙ ap (λ x. todo ++ demands s x) (sym sh) in
    let well = graph_slots nodes old w in
    let split = λ (e : Option (List SortPair)) (v : ℕ → Sort) (k : Equates e v after). equates_split e v todo (demands s t) (subst (Equates e v) pairs k) in
    let back = λ (e : Option (List SortPair)) (v : ℕ → Sort) (z : Solves e v (slots_of nodes new)) (k : Equates e v after).
    joined_solves e v slots l h a0 b rl rh fits (split e v k).1 (subst (Solves e v) u.graph z) in
    let same = λ (e : Option (List SortPair)) (v : ℕ → Sort) (z : Solves e v (slots_of nodes new)). joined_same e v slots l h a0 b (subst (Solves e v) u.graph z) in
    record {
      well = u.well;
      pairs = subst (PairsWell (length nodes)) (sym pairs) (well_append (length nodes) todo (demands s t) p
          (demands_well (length nodes) l h s t (subst (λ m. SlotWell m l s) (n ∙ w.lengths) (well.each l (omega arith))) (subst (λ m. SlotWell m h t) (n ∙ w.lengths) (well.each h b))));
      lighter =
          (let x = joined_weight slots l h a0 b in
          let y = ap weight u.graph in
          let z = ap length pairs ∙ length-append todo (demands s t) in
          omega arith);
      onward = λ e v z q. subst (Solves e v) (sym u.graph) (joined_onward e v slots l h a0 b (f e v z q) z);
      demanded = λ e v z q k. subst (Equates e v) (sym pairs) (equates_append e v todo (demands s t) k
          (demanded e v s t (v l) (v h) fits (f e v z q) (z.each l (omega arith)) (z.each h b)));
      back = back;
      equal = λ e v z k. g e v (back e v z k) (same e v z);
      kept = λ e v z k. (split e v k).0;
    }

-- ---- finding roots
pub shortened_refl : (classes : List Class) → LinksDown classes → Shortened classes classes
shortened_refl classes d = record {
  same_length = refl;
  down = d;
  known = λ i k e. e;
  well = λ nodes g. g;
  onward = λ nodes e v s. s;
  back = λ nodes e v s. s;
  same_weight = λ nodes. refl;
  ordered = λ nodes ls js o. o;
}

pub shortened_trans : (a b c : List Class) → Shortened a b → Shortened b c → Shortened a c
shortened_trans a b c p q = record {
  same_length = q.same_length ∙ p.same_length;
  down = q.down;
  known = λ i k e. q.known i k (p.known i k e);
  well = λ nodes g. q.well nodes (p.well nodes g);
  onward = λ nodes e v s. q.onward nodes e v (p.onward nodes e v s);
  back = λ nodes e v s. p.back nodes e v (q.back nodes e v s);
  same_weight = λ nodes. q.same_weight nodes ∙ p.same_weight nodes;
  ordered = λ nodes ls js o. q.ordered nodes ls js (p.ordered nodes ls js o);
}

-- a step that changes nothing but links
pub found_same : (nodes : List Node) (old mid new : List Class) (todo : List Pair) (pair : Pair) (l r : Root) → GraphWell nodes old → PairsWell (length nodes) todo
    → Finds old mid pair.left l → Finds mid new pair.right r → l.place ≡ r.place → Stepped nodes old new todo todo pair
found_same nodes old mid new todo pair l r w p a b q =
    let s = shortened_trans old mid new a.shortened b.shortened in
    let equal = λ (e : Option (List SortPair)) (v : ℕ → Sort) (z : Solves e v (slots_of nodes old)).
    same_trans e (v pair.left) (v l.place) (v pair.right) (a.same nodes e v z)
    (same_trans e (v l.place) (v r.place) (v pair.right) (same_eq e (v l.place) (v r.place) (ap v q))
    (same_sym e (v pair.right) (v r.place) (b.same nodes e v (a.shortened.onward nodes e v z)))) in
    record {
      well = s.well nodes w;
      pairs = p;
      lighter = (let m = s.same_weight nodes in omega arith);
      onward = λ e v z k. s.onward nodes e v z;
      demanded = λ e v z k x. x;
      back = λ e v z k. s.back nodes e v z;
      equal = λ e v z k. equal e v (s.back nodes e v z);
      kept = λ e v z k. k;
    }

pub links_down : (nodes : List Node) (classes : List Class) → GraphWell nodes classes → LinksDown classes
links_down nodes classes g = λ i j h e. link_down nodes classes i j g h e

-- a step after links were shortened
pub after_finds : (nodes : List Node) (old mid new : List Class) (todo after : List Pair) (pair : Pair) → Shortened old mid → Stepped nodes mid new todo after pair → Stepped nodes old new todo after pair
after_finds nodes old mid new todo after pair s t = record {
  well = t.well;
  pairs = t.pairs;
  lighter = (let m = s.same_weight nodes in let l = t.lighter in omega arith);
  onward = λ e v z q. t.onward e v (s.onward nodes e v z) q;
  demanded = λ e v z q k. t.demanded e v (s.onward nodes e v z) q k;
  back = λ e v z k. s.back nodes e v (t.back e v z k);
  equal = t.equal;
  kept = t.kept;
}

-- ---- one pair after the other
pub closing : (nodes : List Node) (old slots new : List Class) (todo rest last after : List Pair) (pair : Pair) → last ≡ rest ++ pair ∷ []
    → Closing nodes old slots todo last → Stepped nodes slots new rest after pair → Closing nodes old new todo after
closing nodes old slots new todo rest last after pair x c s =
    let split = λ (e : Option (List SortPair)) (v : ℕ → Sort) (k : Equates e v last). equates_split e v rest (pair ∷ []) (subst (Equates e v) x k) in
    let whole = λ (e : Option (List SortPair)) (v : ℕ → Sort) (k : Equates e v rest) (p : Same e (v pair.left) (v pair.right)).
    subst (Equates e v) (sym x) (equates_append e v rest (pair ∷ []) k (p, tt)) in
    record {
      well = s.well;
      pairs = s.pairs;
      onward = λ e v h k. s.onward e v (c.onward e v h k) (split e v (c.left e v h k)).1.0;
      left = λ e v h k. s.demanded e v (c.onward e v h k) (split e v (c.left e v h k)).1.0 (split e v (c.left e v h k)).0;
      back = λ e v h k. c.back e v (s.back e v h k) (whole e v (s.kept e v h k) (s.equal e v h k));
      equal = λ e v h k. c.equal e v (s.back e v h k) (whole e v (s.kept e v h k) (s.equal e v h k));
    }

pub last_pair : (n : ℕ) (rest last : List Pair) (pair : Pair) → last ≡ rest ++ pair ∷ [] → PairsWell n last → PairsWell n rest × (pair.left < n) × (pair.right < n)
last_pair n rest last pair e p =
    let r = well_split n rest (pair ∷ []) (subst (PairsWell n) e p) in
    (r.0, r.1.0, r.1.1)

pub close_start : (nodes : List Node) (classes : List Class) (todo : List Pair) → GraphWell nodes classes → PairsWell (length nodes) todo → Closing nodes classes classes todo todo
close_start nodes classes todo g p = record { well = g; pairs = p; onward = λ e v h k. h; left = λ e v h k. k; back = λ e v h k. h; equal = λ e v h k. k }

-- a clash at one pair is a clash of all
pub blamed : (nodes : List Node) (old now : List Class) (todo rest last : List Pair) (pair : Pair) (clash : Clash) → last ≡ rest ++ pair ∷ []
    → Closing nodes old now todo last → Blames nodes now (pair ∷ []) clash → Blames nodes old todo clash
blamed nodes old now todo rest last pair clash x c b = λ given f k.
    b given (c.onward (Some given) (origin nodes) f k)
    (equates_split (Some given) (origin nodes) rest (pair ∷ []) (subst (Equates (Some given) (origin nodes)) x (c.left (Some given) (origin nodes) f k))).1

-- ---- the clash of two places that can't be one
apart_nodes : (v : ℕ → Sort) (m n : Node) → (Compatible (known_slot m) (known_slot n) → ⊥) → AreApart (node_sort v m) (node_sort v n)
apart_nodes v (node.Variable x) n c = absurd (c tt)
apart_nodes v (node.Constant a) (node.Variable x) c = absurd (c tt)
apart_nodes v (node.Constant a) (node.Constant b) c = record {
  left = constant_not_var a;
  right = constant_not_var b;
  heads = λ e. c (constant_parts a b (sym (head_constant a) ∙ e ∙ head_constant b));
}
apart_nodes v (node.Constant a) (node.Built h args) c = record {
  left = constant_not_var a;
  right = named_not_var h (map v args);
  heads = λ e. constant_not_named a h _ (sym (head_constant a) ∙ e ∙ head_named h (map v args));
}
apart_nodes v (node.Built h args) (node.Variable x) c = absurd (c tt)
apart_nodes v (node.Built h args) (node.Constant b) c = record {
  left = named_not_var h (map v args);
  right = constant_not_var b;
  heads = λ e. constant_not_named b h _ (sym (head_constant b) ∙ sym e ∙ head_named h (map v args));
}
apart_nodes v (node.Built h args) (node.Built k more) c = record {
  left = named_not_var h (map v args);
  right = named_not_var k (map v more);
  heads = λ e. (let p = named_parts h k _ _ (sym (head_named h (map v args)) ∙ e ∙ head_named k (map v more)) in
      c (p.0, sym (length-map args v) ∙ sym (length-map (map v args) _) ∙ ap length p.1 ∙ length-map (map v more) _ ∙ length-map more v));
}

-- what a place was entered for is the same as what is known of its root
origin_fits : (e : Option (List SortPair)) (v : ℕ → Sort) (n : Node) (x y : Sort) → y ≡ node_sort v n → Fits e v (known_slot n) x → is_variable n ≡ false → Same e x y
origin_fits e v (node.Variable z) x y q h w = absurd (cc)
origin_fits e v (node.Constant c) x y q h w = subst (Same e x) (sym q) h
origin_fits e v (node.Built k args) x y q h w = subst (Same e x) (sym q) h

known_same : (nodes : List Node) (classes : List Class) (root : Root) (given : List SortPair) → GraphWell nodes classes
    → root.place < length classes → class_at classes root.place ≡ class.Known root.known
    → Follow given nodes classes → Same (Some given) (origin nodes root.place) (origin nodes root.known)
known_same nodes classes root given g a k f =
    let w = known_well nodes classes root.place root.known g a k in
    let h = subst (λ s. Fits (Some given) (origin nodes) s (origin nodes root.place)) (root_slot nodes classes root.place root.known a k)
    (f.each root.place (let m = slots_length nodes classes in omega arith)) in
    either (is_variable (node_at nodes root.known)) refl w h
  where
    either : (b : Bool) → is_variable (node_at nodes root.known) ≡ b → ClassWell nodes root.place (class.Known root.known)
        → Fits (Some given) (origin nodes) (known_slot (node_at nodes root.known)) (origin nodes root.place)
        → Same (Some given) (origin nodes root.place) (origin nodes root.known)
    either true e w h = same_eq (Some given) (origin nodes root.place) (origin nodes root.known) (ap (origin nodes) (sym (w.2 e)))
    either false e w h = origin_fits (Some given) (origin nodes) (node_at nodes root.known) (origin nodes root.place) (origin nodes root.known)
        (origin_step nodes root.known g.nodes_well w.0) h e

-- two roots that have the same sort by what is given
pub differs : (nodes : List Node) (classes : List Class) (low high : Root) (given : List SortPair) (clash : Clash) → GraphWell nodes classes
    → low.place < length classes → high.place < length classes → class_at classes low.place ≡ class.Known low.known → class_at classes high.place ≡ class.Known high.known
    → Follow given nodes classes → Same (Some given) (origin nodes low.place) (origin nodes high.place)
    → DiffersAt nodes low.known high.known clash → IsClash (IsPair given) clash
differs nodes classes low high given (Differ s t) g a b kl kh f q d =
    let e = Some given in
    let wl = known_well nodes classes low.place low.known g a kl in
    let wh = known_well nodes classes high.place high.known g b kh in
    let tl = known_same nodes classes low given g a kl f in
    let th = known_same nodes classes high given g b kh f in
    let l = origin nodes low.known in
    let h = origin nodes high.known in
    let both = same_trans e l (origin nodes low.place) h (same_sym e (origin nodes low.place) l tl) (same_trans e (origin nodes low.place) (origin nodes high.place) h q th) in
    let apart = apart_nodes (origin nodes) (node_at nodes low.known) (node_at nodes high.known) d.2 in (
      subst (λ x. Same e x t) (sym d.0) (subst (Same e l) (sym d.1) both),
      subst (λ x. AreApart x t) (origin_is nodes low.known s g wl.0 d.0) (subst (AreApart (node_sort (origin nodes) (node_at nodes low.known))) (origin_is nodes high.known t g wh.0 d.1) apart),
    )
  where
    origin_is : (nodes : List Node) (k : ℕ) (s : Sort) → GraphWell nodes classes → k < length nodes → s ≡ origin nodes k → node_sort (origin nodes) (node_at nodes k) ≡ s
    origin_is nodes k s g h e = sym (e ∙ origin_step nodes k g.nodes_well h)
differs nodes classes low high given (Cycle x s) g a b kl kh f q d = absurd d
differs nodes classes low high given (Memory e) g a b kl kh f q d = tt

-- ---- a step, from its parts
module _ (nodes : List Node) (old mid low new : List Class) (todo after : List Pair) (pair : Pair) (l r : Root) (g : GraphWell nodes old)
    (a : Finds old mid pair.left l) (b : Finds mid low pair.right r) where
  low_well : GraphWell nodes low
  low_well = b.shortened.well nodes (a.shortened.well nodes g)

  left_known : class_at low l.place ≡ class.Known l.known
  left_known = b.shortened.known l.place l.known a.known

  left_within : l.place < length low
  left_within = let x = a.within in let m = a.shortened.same_length in let n = b.shortened.same_length in omega arith

  right_within : r.place < length low
  right_within = let x = b.within in let n = b.shortened.same_length in omega arith

  -- the roots have one sort exactly where the places of the pair have
  to_roots : (e : Option (List SortPair)) (v : ℕ → Sort) → Solves e v (slots_of nodes low) → Same e (v pair.left) (v pair.right) → Same e (v l.place) (v r.place)
  to_roots e v s q =
      let m = b.shortened.back nodes e v s in
      let o = a.shortened.back nodes e v m in
      same_trans e (v l.place) (v pair.left) (v r.place) (same_sym e (v pair.left) (v l.place) (a.same nodes e v o))
      (same_trans e (v pair.left) (v pair.right) (v r.place) q (b.same nodes e v m))

  from_roots : (e : Option (List SortPair)) (v : ℕ → Sort) → Solves e v (slots_of nodes low) → Same e (v l.place) (v r.place) → Same e (v pair.left) (v pair.right)
  from_roots e v s q =
      let m = b.shortened.back nodes e v s in
      let o = a.shortened.back nodes e v m in
      same_trans e (v pair.left) (v l.place) (v pair.right) (a.same nodes e v o)
      (same_trans e (v l.place) (v r.place) (v pair.right) q (same_sym e (v pair.right) (v r.place) (b.same nodes e v m)))

  both : Shortened old low
  both = shortened_trans old mid low a.shortened b.shortened

  pub step_forward : PairsWell (length nodes) todo → l.place < r.place → United nodes low new todo after l r → Stepped nodes old new todo after pair
  step_forward p o u = after_finds nodes old low new todo after pair both
      (stepped nodes low new todo after pair l r low_well p o right_within left_known b.known to_roots from_roots u)

  pub step_backward : PairsWell (length nodes) todo → r.place < l.place → United nodes low new todo after r l → Stepped nodes old new todo after pair
  step_backward p o u = after_finds nodes old low new todo after pair both
      (stepped nodes low new todo after pair r l low_well p o left_within b.known left_known
      (λ e v s q. same_sym e (v l.place) (v r.place) (to_roots e v s q)) (λ e v s q. from_roots e v s (same_sym e (v r.place) (v l.place) q)) u)

  roots_same : (given : List SortPair) → Follow given nodes old → Equates (Some given) (origin nodes) (pair ∷ []) → Same (Some given) (origin nodes l.place) (origin nodes r.place)
  roots_same given f q = to_roots (Some given) (origin nodes) (both.onward nodes (Some given) (origin nodes) f) q.0

  pub blame_forward : (clash : Clash) → DiffersAt nodes l.known r.known clash → Blames nodes old (pair ∷ []) clash
  blame_forward clash d = λ given f q. differs nodes low l r given clash low_well left_within right_within left_known b.known
      (both.onward nodes (Some given) (origin nodes) f) (roots_same given f q) d

  pub blame_backward : (clash : Clash) → DiffersAt nodes r.known l.known clash → Blames nodes old (pair ∷ []) clash
  blame_backward clash d = λ given f q. differs nodes low r l given clash low_well right_within left_within b.known left_known
      (both.onward nodes (Some given) (origin nodes) f) (same_sym (Some given) (origin nodes l.place) (origin nodes r.place) (roots_same given f q)) d

-- links were shortened at the end
pub closing_shortened : (nodes : List Node) (old mid new : List Class) (todo after : List Pair) → Closing nodes old mid todo after → Shortened mid new → Closing nodes old new todo after
closing_shortened nodes old mid new todo after c s = record {
  well = s.well nodes c.well;
  pairs = c.pairs;
  onward = λ e v h k. s.onward nodes e v (c.onward e v h k);
  left = c.left;
  back = λ e v h k. c.back e v (s.back nodes e v h) k;
  equal = λ e v h k. c.equal e v (s.back nodes e v h) k;
}
