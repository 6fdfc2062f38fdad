-- Laws of entering sorts.
use Rattle.std.proofs.Common.{◌≡◌, ℕ, zero, suc, ◌+◌, ◌<◌, ◌≤◌, ◌⊎◌, inl, inr, List, [], ◌∷◌, ◌++◌, map, length, get_or, refl, ap, sym, ◌∙◌, subst, arith, length-append, Some, None, true, false, Bool, cond}
use Rattle.std.specs.Ordering.{nat_cmp}
use Rattle.std.proofs.lemmas.Bool.Decides.{nat_tests}
use Rattle.std.specs.BTreeMap.{is_at}
use Rattle.ae_core.specs.declared.terms.Sort.{Sort, Var, Named}
use Rattle.ae_types.specs.declared.pairs.SortPair.{SortPair}
use Rattle.ae_types.specs.declared.graph.Constant.{Constant}
use Rattle.ae_types.specs.declared.graph.Constant.TheVariants as constant
use Rattle.ae_types.specs.declared.graph.Node.{Node}
use Rattle.ae_types.specs.declared.graph.Node.TheVariants as node
use Rattle.ae_types.specs.declared.graph.Class.{Class}
use Rattle.ae_types.specs.declared.graph.Class.TheVariants as class
use Rattle.ae_types.specs.declared.joins.Pair.{Pair}
use Rattle.ae_types.specs.Inner.Graphs.{node_at, class_at, GraphWell, ClassWell, IsDown, is_variable, origin, node_sort, constant_sort}
use Rattle.ae_types.specs.Inner.Enters.{Sheet, Adds, Grows, SheetWell, NamesWell, StandsFor, AllStand, PairsStand, place_of}
use Rattle.ae_types.proofs.GraphLaws.{maps_same, origin_step, origin_variable, origin_constant, origin_built}
use Rattle.std.proofs.lemmas.Bool.{cases_lt}

-- elements of a longer list
pub at_before : {A : Type 0} (xs ys : List A) (i : ℕ) (d : A) → i < length xs → get_or (xs ++ ys) i d ≡ get_or xs i d
at_before [] ys i d h = absurd (omega arith)
at_before (x ∷ xs) ys zero d h = refl
at_before (x ∷ xs) ys (suc i) d h = at_before xs ys i d (omega arith)

pub at_end : {A : Type 0} (xs : List A) (y d : A) → get_or (xs ++ y ∷ []) (length xs) d ≡ y
at_end [] y d = refl
at_end (x ∷ xs) y d = at_end xs y d

pub inside : (i n : ℕ) → i < n + 1 → (i < n) ⊎ (i ≡ n)
inside zero zero h = inr refl
inside zero (suc n) h = inl (omega arith)
inside (suc i) zero h = absurd (omega arith)
inside (suc i) (suc n) h = elim (inside i n (omega arith)) [ inl a ↦ inl (omega arith) | inr e ↦ inr (ap suc e) ]

-- a fact of each element, with one element more
pub each_more : {A : Type 0} (P : ℕ → A → Type 0) (xs : List A) (y d : A) → ((i : ℕ) → i < length xs → P i (get_or xs i d)) → P (length xs) y
    → (i : ℕ) → i < length (xs ++ y ∷ []) → P i (get_or (xs ++ y ∷ []) i d)
each_more P xs y d h k i a =
    let m = length-append xs (y ∷ []) in
    elim (inside i (length xs) (omega arith)) [
      | inl b ↦ subst (P i) (sym (at_before xs (y ∷ []) i d b)) (h i b)
      | inr e ↦ subst (λ j. P j (get_or (xs ++ y ∷ []) j d)) (sym e) (subst (P (length xs)) (sym (at_end xs y d)) k)
    ]

-- ---- growing
pub grows_refl : (t : Sheet) → SheetWell t → Grows t t
grows_refl t w = record {
  well = w;
  longer = omega arith;
  nodes = λ i h. refl;
  classes = λ i h. refl;
  fresh = λ i a b. absurd (omega arith);
}

pub grows_trans : (a b c : Sheet) → Grows a b → Grows b c → Grows a c
grows_trans a b c p q = record {
  well = q.well;
  longer = (let x = p.longer in let y = q.longer in omega arith);
  nodes = λ i h. (let x = p.longer in q.nodes i (omega arith) ∙ p.nodes i h);
  classes = λ i h. (let x = p.longer in q.classes i (omega arith) ∙ p.classes i h);
  fresh = λ i h k. fresh i h k;
}
  where
    fresh : (i : ℕ) → length a.nodes ≤ i → i < length c.nodes → class_at c.classes i ≡ class.Known i
    fresh i h k = elim (cases_lt i (length b.nodes)) [ inl x ↦ q.classes i x ∙ p.fresh i h x | inr x ↦ q.fresh i x k ]

node_grows : (old new : List Node) (i : ℕ) (n : Node) → IsDown i n → ((j : ℕ) → j < i → origin new j ≡ origin old j) → node_sort (origin new) n ≡ node_sort (origin old) n
node_grows old new i (node.Variable x) d ih = refl
node_grows old new i (node.Constant c) d ih = refl
node_grows old new i (node.Built h args) d ih = ap (Named h) (maps_same (origin new) (origin old) args (λ k q. ih (get_or args k 0) (d k q)))

origin_go : (old new : Sheet) → SheetWell old → Grows old new → (m i : ℕ) → i < m → i < length old.nodes → origin new.nodes i ≡ origin old.nodes i
origin_go old new w g zero i a h = absurd (omega arith)
origin_go old new w g (suc m) i a h =
    let x = g.longer in
    origin_step new.nodes i g.well.graph.nodes_well (omega arith) ∙ ap (node_sort (origin new.nodes)) (g.nodes i h)
    ∙ node_grows old.nodes new.nodes i (node_at old.nodes i) (w.graph.nodes_well.down i h) (λ j q. origin_go old new w g m j (omega arith) (omega arith))
    ∙ sym (origin_step old.nodes i w.graph.nodes_well h)

pub origin_grows : (old new : Sheet) (i : ℕ) → SheetWell old → Grows old new → i < length old.nodes → origin new.nodes i ≡ origin old.nodes i
origin_grows old new i w g h = origin_go old new w g (suc i) i (omega arith) h

pub stands_more : (old new : Sheet) (s : Sort) (p : ℕ) → SheetWell old → Grows old new → StandsFor old.nodes s p → StandsFor new.nodes s p
stands_more old new s p w g h = record {
  within = (let x = g.longer in let y = h.within in omega arith);
  sort = origin_grows old new p w g h.within ∙ h.sort;
}

pub all_more : (old new : Sheet) (ss : List Sort) (ps : List ℕ) → SheetWell old → Grows old new → AllStand old.nodes ss ps → AllStand new.nodes ss ps
all_more old new [] [] w g h = tt
all_more old new [] (p ∷ ps) w g h = h
all_more old new (s ∷ ss) [] w g h = h
all_more old new (s ∷ ss) (p ∷ ps) w g h = (stands_more old new s p w g h.0, all_more old new ss ps w g h.1)

pub all_snoc : (nodes : List Node) (ss : List Sort) (ps : List ℕ) (s : Sort) (p : ℕ) → AllStand nodes ss ps → StandsFor nodes s p → AllStand nodes (ss ++ s ∷ []) (ps ++ p ∷ [])
all_snoc nodes [] [] s p h k = (k, tt)
all_snoc nodes [] (x ∷ ps) s p h k = absurd h
all_snoc nodes (t ∷ ss) [] s p h k = absurd h
all_snoc nodes (t ∷ ss) (x ∷ ps) s p h k = (h.0, all_snoc nodes ss ps s p h.1 k)

pub pairs_more : (old new : Sheet) (qs : List SortPair) (ps : List Pair) → SheetWell old → Grows old new → PairsStand old.nodes qs ps → PairsStand new.nodes qs ps
pairs_more old new [] [] w g h = tt
pairs_more old new [] (p ∷ ps) w g h = h
pairs_more old new (s ∷ ss) [] w g h = h
pairs_more old new (s ∷ ss) (p ∷ ps) w g h = (stands_more old new s.left p.left w g h.0, stands_more old new s.right p.right w g h.1, pairs_more old new ss ps w g h.2)

pub pairs_snoc : (nodes : List Node) (qs : List SortPair) (ps : List Pair) (q : SortPair) (l r : ℕ) → PairsStand nodes qs ps → StandsFor nodes q.left l → StandsFor nodes q.right r
    → PairsStand nodes (qs ++ q ∷ []) (ps ++ record { left = l; right = r } ∷ [])
pairs_snoc nodes [] [] q l r h a b = (a, b, tt)
pairs_snoc nodes [] (x ∷ ps) q l r h a b = absurd h
pairs_snoc nodes (t ∷ qs) [] q l r h a b = absurd h
pairs_snoc nodes (t ∷ qs) (x ∷ ps) q l r h a b = (h.0, h.1, pairs_snoc nodes qs ps q l r h.2 a b)

-- the sorts of places, one by one
pub all_maps : (nodes : List Node) (ss : List Sort) (ps : List ℕ) → AllStand nodes ss ps → map (origin nodes) ps ≡ ss
all_maps nodes [] [] h = refl
all_maps nodes [] (p ∷ ps) h = absurd h
all_maps nodes (s ∷ ss) [] h = absurd h
all_maps nodes (s ∷ ss) (p ∷ ps) h = ap (λ x. x ∷ map (origin nodes) ps) h.0.sort ∙ ap (λ xs. s ∷ xs) (all_maps nodes ss ps h.1)

pub all_within : (nodes : List Node) (ss : List Sort) (ps : List ℕ) → AllStand nodes ss ps → (k : ℕ) → k < length ps → get_or ps k 0 < length nodes
all_within nodes [] [] h k a = absurd (omega arith)
all_within nodes [] (p ∷ ps) h k a = absurd h
all_within nodes (s ∷ ss) [] h k a = absurd h
all_within nodes (s ∷ ss) (p ∷ ps) h zero a = h.0.within
all_within nodes (s ∷ ss) (p ∷ ps) h (suc k) a = all_within nodes ss ps h.1 k (omega arith)

-- ---- one place more
class_more : (nodes : List Node) (n : Node) (i : ℕ) (c : Class) → i < length nodes → ClassWell nodes i c → ClassWell (nodes ++ n ∷ []) i c
class_more nodes n i (class.Link j) a h = h
class_more nodes n i (class.Known k) a h =
    let m = length-append nodes (n ∷ []) in
    let b = h.0 in
    let d = node.Constant constant.Unit in (
      omega arith,
      λ e. h.1 (sym (ap is_variable (at_before nodes (n ∷ []) i d a)) ∙ e),
      λ e. h.2 (sym (ap is_variable (at_before nodes (n ∷ []) k d b)) ∙ e),
    )

pub adds_graph : (old new : Sheet) (n : Node) (p : ℕ) → GraphWell old.nodes old.classes → Adds old new n p → IsDown (length old.nodes) n → GraphWell new.nodes new.classes
adds_graph old new n p g a d =
    subst (λ xs. GraphWell xs new.classes) (sym a.nodes) (subst (GraphWell (old.nodes ++ n ∷ [])) (sym a.classes) (record {
      nodes_well = record { down = each_more IsDown old.nodes n (node.Constant constant.Unit) g.nodes_well.down d };
      lengths = (let x = length-append old.nodes (n ∷ []) in let y = length-append old.classes (class.Known p ∷ []) in let z = g.lengths in omega arith);
      each = each_more (ClassWell (old.nodes ++ n ∷ [])) old.classes (class.Known p) (class.Link 0)
          (λ i h. class_more old.nodes n i (class_at old.classes i) (let z = g.lengths in omega arith) (g.each i h))
          (let x = length-append old.nodes (n ∷ []) in let z = g.lengths in let q = a.place in (omega arith, λ e. q, λ e. q));
    }))

-- the new place is the last one
pub adds_last : (old new : Sheet) (n : Node) (p : ℕ) → GraphWell old.nodes old.classes → Adds old new n p → (p < length new.nodes) × (node_at new.nodes p ≡ n)
adds_last old new n p g a =
    let x = ap length a.nodes ∙ length-append old.nodes (n ∷ []) in
    let q = a.place ∙ g.lengths in
    (omega (arith, g.lengths, a.place), ap (λ xs. node_at xs p) a.nodes ∙ ap (node_at (old.nodes ++ n ∷ [])) q ∙ at_end old.nodes n (node.Constant constant.Unit))

pub adds_grows : (old new : Sheet) (n : Node) (p : ℕ) → SheetWell old → Adds old new n p → SheetWell new → Grows old new
adds_grows old new n p w a z =
    let g = w.graph in
    let x = ap length a.nodes ∙ length-append old.nodes (n ∷ []) in record {
      well = z;
      longer = omega arith;
      nodes = λ i h. ap (λ xs. node_at xs i) a.nodes ∙ at_before old.nodes (n ∷ []) i (node.Constant constant.Unit) h;
      classes = λ i h. ap (λ xs. class_at xs i) a.classes ∙ at_before old.classes (class.Known p ∷ []) i (class.Link 0) (let l = g.lengths in omega arith);
      fresh = λ i h k. (let l = g.lengths in let q : i ≡ length old.classes = omega arith in
          ap (λ xs. class_at xs i) a.classes ∙ ap (class_at (old.classes ++ class.Known p ∷ [])) q ∙ at_end old.classes (class.Known p) (class.Link 0) ∙ ap class.Known (a.place ∙ sym q));
    }

names_more : (old new : Sheet) (n : Node) (p : ℕ) → SheetWell old → Adds old new n p → is_variable n ≡ false → NamesWell new.nodes new.names
names_more old new n p w a v =
    subst (NamesWell new.nodes) (sym a.names) (subst (λ xs. NamesWell xs old.names) (sym a.nodes) (record {
      stands = λ x q e. (let s = w.named.stands x q e in let m = length-append old.nodes (n ∷ []) in let b = s.0 in
          (omega arith, at_before old.nodes (n ∷ []) q (node.Constant constant.Unit) s.0 ∙ s.1));
      each = λ i x. each_more (λ j y. y ≡ node.Variable x → place_of old.names x ≡ Some j) old.nodes n (node.Constant constant.Unit)
          (λ j h e. w.named.each j x h e) (λ e. absurd (let q = ap is_variable e in cc)) i;
    }))

pub adds_known : (old new : Sheet) (n : Node) (p : ℕ) → SheetWell old → Adds old new n p → IsDown (length old.nodes) n → is_variable n ≡ false → Grows old new
adds_known old new n p w a d v = adds_grows old new n p w a (record { graph = adds_graph old new n p w.graph a d; named = names_more old new n p w a v })

pub adds_constant : (old new : Sheet) (k : Constant) (p : ℕ) → SheetWell old → Adds old new (node.Constant k) p → Grows old new × StandsFor new.nodes (constant_sort k) p
adds_constant old new k p w a =
    let g = adds_known old new (node.Constant k) p w a tt refl in
    let l = adds_last old new (node.Constant k) p w.graph a in
    (g, record { within = l.0; sort = origin_constant new.nodes p k g.well.graph.nodes_well l.0 l.1 })

pub adds_built : (old new : Sheet) (h : ℕ) (args : List Sort) (ps : List ℕ) (p : ℕ) → SheetWell old → Adds old new (node.Built h ps) p → AllStand old.nodes args ps
    → Grows old new × StandsFor new.nodes (Named h args) p
adds_built old new h args ps p w a s =
    let g = adds_known old new (node.Built h ps) p w a (λ k q. all_within old.nodes args ps s k q) refl in
    let l = adds_last old new (node.Built h ps) p w.graph a in (
      g,
      record {
        within = l.0;
        sort = origin_built new.nodes p h ps g.well.graph.nodes_well l.0 l.1 ∙ ap (Named h) (all_maps new.nodes args ps (all_more old new args ps w g s));
      },
    )

-- ---- a variable
pub stands_known : (t : Sheet) (x p : ℕ) → SheetWell t → place_of t.names x ≡ Some p → StandsFor t.nodes (Var x) p
stands_known t x p w e =
    let s = w.named.stands x p e in
    record { within = s.0; sort = origin_variable t.nodes p x w.graph.nodes_well s.0 s.1 }

-- a variable that had no place
names_variable : (nodes : List Node) (names names' : List (ℕ × ℕ)) (x : ℕ) → NamesWell nodes names → place_of names x ≡ None
    → ((q : ℕ) → place_of names' q ≡ cond (is_at (nat_cmp x) q) (Some (length nodes)) (place_of names q)) → NamesWell (nodes ++ node.Variable x ∷ []) names'
names_variable nodes names names' x w none up = record {
  stands = λ q p e. stands q p (is_at (nat_cmp x) q) refl (sym (up q) ∙ e);
  each = λ i y. each_more (λ j n. n ≡ node.Variable y → place_of names' y ≡ Some j) nodes (node.Variable x) (node.Constant constant.Unit)
      (λ j h e. up y ∙ old y j (is_at (nat_cmp x) y) refl (w.each j y h e))
      (λ e. (let q : x ≡ y = cc in up y ∙ ap (λ b. cond b (Some (length nodes)) (place_of names y)) (at_own x y q))) i;
}
  where
    at_own : (x y : ℕ) → x ≡ y → is_at (nat_cmp x) y ≡ true
    at_own x y q = subst (λ z. is_at (nat_cmp x) z ≡ true) q (let e : is_at (nat_cmp x) x ≡ true = grind (arith, nat_tests) in e)

    at_same : (x y : ℕ) → is_at (nat_cmp x) y ≡ true → x ≡ y
    at_same x y e = grind (arith, nat_tests)

    old : (y j : ℕ) (b : Bool) → is_at (nat_cmp x) y ≡ b → place_of names y ≡ Some j → cond b (Some (length nodes)) (place_of names y) ≡ Some j
    old y j true e h = absurd (let q = ap (place_of names) (at_same x y e) in let z = sym none ∙ q ∙ h in cc)
    old y j false e h = h

    stands : (q p : ℕ) (b : Bool) → is_at (nat_cmp x) q ≡ b → cond b (Some (length nodes)) (place_of names q) ≡ Some p
        → (p < length (nodes ++ node.Variable x ∷ [])) × (node_at (nodes ++ node.Variable x ∷ []) p ≡ node.Variable q)
    stands q p true e h =
        let m = length-append nodes (node.Variable x ∷ []) in
        let z : length nodes ≡ p = cc in
        (omega arith, ap (node_at (nodes ++ node.Variable x ∷ [])) (sym z) ∙ at_end nodes (node.Variable x) (node.Constant constant.Unit) ∙ ap node.Variable (at_same x q e))
    stands q p false e h =
        let s = w.stands q p h in
        let m = length-append nodes (node.Variable x ∷ []) in
        let b = s.0 in
        (omega arith, at_before nodes (node.Variable x ∷ []) p (node.Constant constant.Unit) s.0 ∙ s.1)

pub adds_variable : (old mid : Sheet) (names : List (ℕ × ℕ)) (x p : ℕ) → SheetWell old → place_of old.names x ≡ None → Adds old mid (node.Variable x) p
    → ((q : ℕ) → place_of names q ≡ cond (is_at (nat_cmp x) q) (Some p) (place_of mid.names q))
    → Grows old (record { nodes = mid.nodes; classes = mid.classes; names = names }) × StandsFor mid.nodes (Var x) p
adds_variable old mid names x p w none a up =
    let g = w.graph in
    let new : Sheet = record { nodes = mid.nodes; classes = mid.classes; names = names } in
    let q = a.place ∙ g.lengths in
    let n = names_variable old.nodes old.names names x w.named none
    (λ k. up k ∙ ap (λ r. cond (is_at (nat_cmp x) k) (Some r) (place_of mid.names k)) q ∙ ap (λ r. cond (is_at (nat_cmp x) k) (Some (length old.nodes)) (place_of r k)) a.names) in
    let z : SheetWell new = record { graph = adds_graph old mid (node.Variable x) p g a tt; named = subst (λ xs. NamesWell xs names) (sym a.nodes) n } in
    let l = adds_last old mid (node.Variable x) p g a in
    (grown old mid names x p w a z, record { within = l.0; sort = origin_variable mid.nodes p x z.graph.nodes_well l.0 l.1 })
  where
    grown : (old mid : Sheet) (names : List (ℕ × ℕ)) (x p : ℕ) → SheetWell old → Adds old mid (node.Variable x) p
        → SheetWell (record { nodes = mid.nodes; classes = mid.classes; names = names }) → Grows old (record { nodes = mid.nodes; classes = mid.classes; names = names })
    grown old mid names x p w a z =
        let g = w.graph in
        let x = ap length a.nodes ∙ length-append old.nodes (node.Variable x ∷ []) in record {
          well = z;
          longer = omega arith;
          nodes = λ i h. ap (λ xs. node_at xs i) a.nodes ∙ at_before old.nodes _ i (node.Constant constant.Unit) h;
          classes = λ i h. ap (λ xs. class_at xs i) a.classes ∙ at_before old.classes (class.Known p ∷ []) i (class.Link 0) (let l = g.lengths in omega arith);
          fresh = λ i h k. (let l = g.lengths in let q : i ≡ length old.classes = omega arith in
              ap (λ xs. class_at xs i) a.classes ∙ ap (class_at (old.classes ++ class.Known p ∷ [])) q ∙ at_end old.classes (class.Known p) (class.Link 0) ∙ ap class.Known (a.place ∙ sym q));
        }
