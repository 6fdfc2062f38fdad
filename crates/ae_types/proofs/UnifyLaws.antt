-- From graphs to substitutions and unifiers.
use Rattle.std.proofs.Common.{◌≡◌, ◌≢◌, ℕ, zero, suc, ◌+◌, ◌-◌, ◌<◌, ◌≤◌, inl, inr, true, List, [], ◌∷◌, ◌++◌, map, length, get_or, refl, ap, sym, ◌∙◌, subst, arith, length-append, Option, Some, None, Result, Ok, Err, OnErr}
use Rattle.ae_core.specs.Inner.Induction.{by_sorts}
use Rattle.ae_core.specs.declared.terms.Sort.{Sort, Var, Unit as UnitSort, Named}
use Rattle.ae_types.specs.declared.pairs.SortPair.{SortPair}
use Rattle.ae_types.specs.declared.pairs.Clash.{Clash}
use Rattle.ae_types.specs.declared.pairs.Clash.TheVariants.{Differ, Cycle, Memory}
use Rattle.ae_types.specs.declared.graph.Node.{Node}
use Rattle.ae_types.specs.declared.graph.Node.TheVariants as node
use Rattle.ae_types.specs.declared.graph.Class.{Class}
use Rattle.ae_types.specs.declared.graph.Class.TheVariants as class
use Rattle.ae_types.specs.declared.joins.Pair.{Pair}
use Rattle.ae_types.specs.Substitutions.{put, MakesEqual, Unifies, Respects, IsIdempotent}
use Rattle.ae_types.specs.Clashes.{Follows, is_given, symmetric, transitive, IsPair, IsClash, Refutes, head_of}
use Rattle.ae_types.specs.Inner.Graphs.{Slot, Free, Link, Plain, Built, Solves, Fits, SlotWell, Well, IsFree, ClassWell, IsDown, known_slot, node_at, node_sort, class_at, slot_at, slots_of, slot_of, origin, unknown, value, variable_of, is_variable}
use Rattle.ae_types.specs.Inner.Levels.{Settled, Above}
use Rattle.ae_types.specs.Inner.Enters.{Sheet, Grows, StandsFor, PairsStand, place_of, nothing}
use Rattle.ae_types.specs.Inner.Joins.{Equates, PairsWell, Closing, Blames, Follow}
use Rattle.ae_types.specs.Bound.{reads, reading, solved_by, IsSound, bound, IsGiven}
use Rattle.ae_types.proofs.SortLaws.{put_named, put_var, put_constant, put_put, put_own, put_rigid, put_int, put_real, put_bool, put_unit, head_named, within_larger, size}
use Rattle.ae_types.proofs.GraphLaws.{maps_same, origin_step, origin_variable, slots_length, slot_at_class, graph_slots, value_free}
use Rattle.ae_types.proofs.FollowLaws.{same_eq, same_named, SameAll, follows_holds, follows_more}
use Rattle.ae_types.proofs.EnterLaws.{at_before}
use Rattle.ae_types.proofs.LevelLaws.{map_put, settled_solves, general}
use Rattle.std.proofs.lemmas.Bool.{cases_lt}

-- ---- solutions
fits_agree : (v u : ℕ → Sort) (n i : ℕ) (s : Slot) (x y : Sort) → i < n → SlotWell n i s → ((j : ℕ) → j < n → v j ≡ u j) → x ≡ y → Fits None v s x → Fits None u s y
fits_agree v u n i Free x y a w h e f = tt
fits_agree v u n i (Link j) x y a w h e f = sym e ∙ f ∙ h j (omega arith)
fits_agree v u n i (Plain c) x y a w h e f = sym e ∙ f
fits_agree v u n i (Built k args) x y a w h e f = sym e ∙ f ∙ ap (Named k) (maps_same v u args (λ j q. h (get_or args j 0) (w j q)))

solves_agree : (v u : ℕ → Sort) (slots : List Slot) → Well slots → ((j : ℕ) → j < length slots → v j ≡ u j) → Solves None v slots → Solves None u slots
solves_agree v u slots w h s = record { each = λ i a. fits_agree v u (length slots) i (slot_at slots i) (v i) (u i) a (w.each i a) h (h i a) (s.each i a) }

fits_put : (f v : ℕ → Sort) (s : Slot) (x : Sort) → Fits None v s x → Fits None (λ i. put f (v i)) s (put f x)
fits_put f v Free x h = tt
fits_put f v (Link j) x h = ap (put f) h
fits_put f v (Plain c) x h = ap (put f) h ∙ put_constant f c
fits_put f v (Built k args) x h = ap (put f) h ∙ put_named f k (map v args) ∙ ap (Named k) (map_put f v (λ i. put f (v i)) args (λ j q. refl))

solves_put : (f v : ℕ → Sort) (slots : List Slot) → Solves None v slots → Solves None (λ i. put f (v i)) slots
solves_put f v slots s = record { each = λ i a. fits_put f v (slot_at slots i) (v i) (s.each i a) }

-- what a place was entered for, with a substitution put into it
abbrev pub instance_at : (ℕ → Sort) → List Node → ℕ → Sort
instance_at f nodes i = put f (origin nodes i)

node_fits : (f : ℕ → Sort) (nodes : List Node) (n : Node) (x : Sort) → x ≡ node_sort (origin nodes) n → Fits None (instance_at f nodes) (known_slot n) (put f x)
node_fits f nodes (node.Variable y) x e = tt
node_fits f nodes (node.Constant c) x e = ap (put f) e ∙ put_constant f c
node_fits f nodes (node.Built k args) x e = ap (put f) e ∙ put_named f k (map (origin nodes) args) ∙ ap (Named k) (map_put f (origin nodes) (instance_at f nodes) args (λ j q. refl))

-- ---- a sound graph
module _ (t : Sheet) (z : IsSound t) where
  abbrev slots : List Slot
  slots = slots_of t.nodes t.classes

  count : length slots ≡ length t.nodes
  count = slots_length t.nodes t.classes ∙ z.well.graph.lengths

  slots_well : Well slots
  slots_well = graph_slots t.nodes t.classes z.well.graph

  abbrev here : ℕ → Sort
  here = solved_by t

  here_solves : Solves None here slots
  here_solves = subst (λ n. Solves None (value (unknown t.nodes) n slots) slots) (slots_length t.nodes t.classes) (settled_solves (unknown t.nodes) slots slots_well z.settled)

  -- each solution is read off from the places of variables
  back_node : (v : ℕ → Sort) (i : ℕ) (n : Node) → i < length t.nodes → node_at t.nodes i ≡ n → IsDown i n → Fits None v (known_slot n) (v i)
      → ((j : ℕ) → j < i → put (reading t v) (origin t.nodes j) ≡ v j) → put (reading t v) (node_sort (origin t.nodes) n) ≡ v i
  back_node v i (node.Variable x) a e d f ih = put_var (reading t v) x ∙ ap (reads v x) (z.well.named.each i x a e)
  back_node v i (node.Constant c) a e d f ih = put_constant (reading t v) c ∙ sym f
  back_node v i (node.Built k args) a e d f ih =
      put_named (reading t v) k (map (origin t.nodes) args) ∙ ap (Named k) (map_put (reading t v) (origin t.nodes) v args (λ j q. ih (get_or args j 0) (d j q))) ∙ sym f

  back_go : (v : ℕ → Sort) → Solves None v slots → (m i : ℕ) → i < m → i < length t.nodes → put (reading t v) (origin t.nodes i) ≡ v i
  back_go v s zero i a b = absurd (omega arith)
  back_go v s (suc m) i a b =
      ap (put (reading t v)) (origin_step t.nodes i z.well.graph.nodes_well b)
      ∙ back_node v i (node_at t.nodes i) b refl (z.well.graph.nodes_well.down i b) (z.keeps v s i b) (λ j c. back_go v s m j (omega arith) (omega arith))

  back : (v : ℕ → Sort) → Solves None v slots → (i : ℕ) → i < length t.nodes → put (reading t v) (origin t.nodes i) ≡ v i
  back v s i a = back_go v s (suc i) i (omega arith) a

  pub here_is : (i : ℕ) → i < length t.nodes → put (bound t) (origin t.nodes i) ≡ here i
  here_is i a = back here here_solves i a

  -- a substitution respects the bindings exactly where it gives a solution
  pub respects_solves : (f : ℕ → Sort) → Respects f (bound t) → Solves None (instance_at f t.nodes) slots
  respects_solves f r = solves_agree (λ i. put f (here i)) (instance_at f t.nodes) slots slots_well
      (λ j a. (let b : j < length t.nodes = omega (arith, count) in ap (put f) (sym (here_is j b)) ∙ put_put f (bound t) f r (origin t.nodes j)))
      (solves_put f here slots here_solves)

  free_node : (i : ℕ) (c : Class) → i < length t.nodes → class_at t.classes i ≡ c → IsFree (slot_of t.nodes c) → origin t.nodes i ≡ unknown t.nodes i
  free_node i (class.Link j) a e f = absurd f
  free_node i (class.Known k) a e f =
      let l = z.well.graph.lengths in
      let w = subst (ClassWell t.nodes i) e (z.well.graph.each i (omega arith)) in
      variable (node_at t.nodes k) refl f w.2
    where
      variable : (n : Node) → node_at t.nodes k ≡ n → IsFree (known_slot n) → (is_variable n ≡ true → k ≡ i) → origin t.nodes i ≡ unknown t.nodes i
      variable (node.Variable x) q g h =
          let same = h refl in
          let own : node_at t.nodes i ≡ node.Variable x = ap (node_at t.nodes) (sym same) ∙ q in
          origin_variable t.nodes i x z.well.graph.nodes_well a own ∙ ap Var (sym (ap variable_of own))
      variable (node.Constant x) q g h = absurd g
      variable (node.Built x args) q g h = absurd g

  pub free_origin : (i : ℕ) → i < length slots → IsFree (slot_at slots i) → origin t.nodes i ≡ unknown t.nodes i
  free_origin i a f =
      let b : i < length t.nodes = omega (arith, count) in
      free_node i (class_at t.classes i) b refl (subst IsFree (slot_at_class t.nodes t.classes i (let l = z.well.graph.lengths in omega arith)) f)

  -- each solution is an instance of the one read off
  pub instances : (f v : ℕ → Sort) → Solves None v slots → ((i : ℕ) → i < length slots → IsFree (slot_at slots i) → put f (unknown t.nodes i) ≡ v i)
      → (i : ℕ) → i < length t.nodes → put f (here i) ≡ v i
  instances f v s u i a =
      let c = count in
      subst (λ n. put f (value (unknown t.nodes) n slots i) ≡ v i) (slots_length t.nodes t.classes)
      (general (unknown t.nodes) f v slots slots_well z.settled s u (length slots) i (omega arith)
      (z.settled.above.each i (omega arith) (z.settled.all i (omega arith))).0)

  general_read : (f : ℕ → Sort) → ((i : ℕ) → i < length t.nodes → put f (here i) ≡ instance_at f t.nodes i)
      → (n : ℕ) (o : Option ℕ) → place_of t.names n ≡ o → put f (reads here n o) ≡ f n
  general_read f h n None e = put_var f n
  general_read f h n (Some p) e =
      let g = z.well.named.stands n p e in
      h p g.0 ∙ ap (put f) (origin_variable t.nodes p n z.well.graph.nodes_well g.0 g.1) ∙ put_var f n

  pub solves_respects : (f : ℕ → Sort) → Solves None (instance_at f t.nodes) slots → Respects f (bound t)
  solves_respects f s = λ n. general_read f (instances f (instance_at f t.nodes) s (λ i a q. ap (put f) (sym (free_origin i a q)))) n (place_of t.names n) refl

  pub idempotent : IsIdempotent (bound t)
  idempotent = solves_respects (bound t)
      (solves_agree here (instance_at (bound t) t.nodes) slots slots_well (λ j a. sym (here_is j (omega (arith, count)))) here_solves)

-- ---- growing
abbrev ups : ℕ → ℕ → List ℕ
ups a zero = []
ups a (suc k) = a ∷ ups (a + 1) k

ups_length : (a k : ℕ) → length (ups a k) ≡ k
ups_length a zero = refl
ups_length a (suc k) = let ih = ups_length (a + 1) k in omega arith

ups_at : (a k i : ℕ) → i < k → get_or (ups a k) i 0 ≡ a + i
ups_at a zero i h = absurd (omega arith)
ups_at a (suc k) zero h = omega arith
ups_at a (suc k) (suc i) h = let ih = ups_at (a + 1) k i (omega arith) in omega arith

after : (xs ys : List ℕ) (i : ℕ) → get_or (xs ++ ys) (length xs + i) 0 ≡ get_or ys i 0
after [] ys i = let e : 0 + i ≡ i = omega arith in ap (λ j. get_or ys j 0) e
after (x ∷ xs) ys i = let e : suc (length xs) + i ≡ suc (length xs + i) = omega arith in ap (λ j. get_or (x ∷ (xs ++ ys)) j 0) e ∙ after xs ys i

module _ (old new : Sheet) (z : IsSound old) (g : Grows old new) where
  old_count : length (slots_of old.nodes old.classes) ≡ length old.nodes
  old_count = slots_length old.nodes old.classes ∙ z.well.graph.lengths

  new_count : length (slots_of new.nodes new.classes) ≡ length new.nodes
  new_count = slots_length new.nodes new.classes ∙ g.well.graph.lengths

  -- what is known of the places that were there
  slot_kept : (i : ℕ) → i < length old.nodes → slot_at (slots_of new.nodes new.classes) i ≡ slot_at (slots_of old.nodes old.classes) i
  slot_kept i a =
      let l = g.longer in
      let x = z.well.graph.lengths in
      let y = g.well.graph.lengths in
      slot_at_class new.nodes new.classes i (omega arith) ∙ ap (slot_of new.nodes) (g.classes i a)
      ∙ same (class_at old.classes i) (z.well.graph.each i (omega arith)) ∙ sym (slot_at_class old.nodes old.classes i (omega arith))
    where
      same : (c : Class) → ClassWell old.nodes i c → slot_of new.nodes c ≡ slot_of old.nodes c
      same (class.Link j) w = refl
      same (class.Known k) w = ap known_slot (g.nodes k w.0)

  slot_fresh : (i : ℕ) → length old.nodes ≤ i → i < length new.nodes → slot_at (slots_of new.nodes new.classes) i ≡ known_slot (node_at new.nodes i)
  slot_fresh i a b = let y = g.well.graph.lengths in slot_at_class new.nodes new.classes i (omega arith) ∙ ap (slot_of new.nodes) (g.fresh i a b)

  abbrev grown_levels : List ℕ
  grown_levels = z.settled.levels ++ ups (length old.nodes + 1) (length new.nodes - length old.nodes)

  level_kept : (i : ℕ) → i < length old.nodes → get_or grown_levels i 0 ≡ get_or z.settled.levels i 0
  level_kept i a = let c = z.settled.count in let d = old_count in at_before z.settled.levels _ i 0 (omega arith)

  level_fresh : (i : ℕ) → length old.nodes ≤ i → i < length new.nodes → get_or grown_levels i 0 ≡ i + 1
  level_fresh i a b =
      let c = z.settled.count in
      let d = old_count in
      let e : i ≡ length z.settled.levels + (i - length old.nodes) = omega arith in
      let u = ups_at (length old.nodes + 1) (length new.nodes - length old.nodes) (i - length old.nodes) (omega arith) in
      ap (λ j. get_or grown_levels j 0) e ∙ after z.settled.levels _ (i - length old.nodes) ∙ (let q : get_or (ups (length old.nodes + 1) (length new.nodes - length old.nodes)) (i - length old.nodes) 0 ≡ i + 1 = omega arith in q)

  level_low : (i : ℕ) → i < length new.nodes → (0 < get_or grown_levels i 0) × (get_or grown_levels i 0 ≤ i + 1 + length old.nodes)
  level_low i a = elim (cases_lt i (length old.nodes)) [
    | inl b ↦
        let e = level_kept i b in
        let d = old_count in
        let p = z.settled.all i (omega arith) in
        let q = (z.settled.above.each i (omega arith) p).0 in
        (omega arith, omega arith)
    | inr b ↦ let e = level_fresh i b a in (omega arith, omega arith)
  ]

  level_under : (i j : ℕ) → length old.nodes ≤ i → j < i → i < length new.nodes → (0 < get_or grown_levels j 0) × (get_or grown_levels j 0 < i + 1)
  level_under i j a b c = elim (cases_lt j (length old.nodes)) [
    | inl y ↦
        let e = level_kept j y in
        let d = old_count in
        let p = z.settled.all j (omega arith) in
        let q = (z.settled.above.each j (omega arith) p).0 in
        (omega arith, omega arith)
    | inr y ↦ let e = level_fresh j y (omega arith) in (omega arith, omega arith)
  ]

  above_kept : (n i : ℕ) (s : Slot) → i < length old.nodes → SlotWell (length old.nodes) i s → Above z.settled.levels n s → Above grown_levels n s
  above_kept n i Free a w h = tt
  above_kept n i (Link j) a w h = let e = level_kept j (omega arith) in let x = h.0 in let y = h.1 in (omega arith, omega arith)
  above_kept n i (Plain c) a w h = tt
  above_kept n i (Built k args) a w h = λ j q. (let e = level_kept (get_or args j 0) (w j q) in let r = h j q in let x = r.0 in let y = r.1 in (omega arith, omega arith))

  above_fresh : (i : ℕ) (n : Node) → length old.nodes ≤ i → i < length new.nodes → IsDown i n → Above grown_levels (i + 1) (known_slot n)
  above_fresh i (node.Variable x) a b d = tt
  above_fresh i (node.Constant x) a b d = tt
  above_fresh i (node.Built k args) a b d = λ j q. level_under i (get_or args j 0) a (d j q) b

  pub grown_settled : Settled (slots_of new.nodes new.classes)
  grown_settled =
      let c = z.settled.count in
      let d = old_count in
      let e = new_count in
      let l = g.longer in
      let m = length-append z.settled.levels (ups (length old.nodes + 1) (length new.nodes - length old.nodes)) in
      let u = ups_length (length old.nodes + 1) (length new.nodes - length old.nodes) in
      record {
        levels = grown_levels;
        count = omega arith;
        above = record {
          each = λ i a h. elim (cases_lt i (length old.nodes)) [
            | inl b ↦
                let k = level_kept i b in
                let p = z.settled.all i (omega arith) in
                let q = z.settled.above.each i (omega arith) p in
                let x = q.0 in
                let w = graph_slots old.nodes old.classes z.well.graph in (
                  omega arith,
                  subst (Above grown_levels (get_or grown_levels i 0)) (sym (slot_kept i b))
                      (subst (λ n. Above grown_levels n (slot_at (slots_of old.nodes old.classes) i)) (sym k)
                      (above_kept (get_or z.settled.levels i 0) i (slot_at (slots_of old.nodes old.classes) i) b (subst (λ n. SlotWell n i (slot_at (slots_of old.nodes old.classes) i)) old_count (w.each i (omega arith))) q.1)),
                )
            | inr b ↦
                let y : i < length new.nodes = omega arith in
                let k = level_fresh i b y in (
                  omega arith,
                  subst (Above grown_levels (get_or grown_levels i 0)) (sym (slot_fresh i b y))
                      (subst (λ n. Above grown_levels n (known_slot (node_at new.nodes i))) (sym k) (above_fresh i (node_at new.nodes i) b y (g.well.graph.nodes_well.down i y))),
                )
          ];
        };
        all = λ i a. (level_low i (omega arith)).0;
      }

  old_solves : (v : ℕ → Sort) → Solves None v (slots_of new.nodes new.classes) → Solves None v (slots_of old.nodes old.classes)
  old_solves v s = record {
    each = λ i a. (let l = g.longer in let d = old_count in let e = new_count in let b : i < length old.nodes = omega arith in
        subst (λ x. Fits None v x (v i)) (slot_kept i b) (s.each i (omega arith)));
  }

  pub grown_sound : IsSound new
  grown_sound = record {
    well = g.well;
    settled = grown_settled;
    keeps = λ v s i a. elim (cases_lt i (length old.nodes)) [
      | inl b ↦ subst (λ n. Fits None v (known_slot n) (v i)) (sym (g.nodes i b)) (z.keeps v (old_solves v s) i b)
      | inr b ↦ subst (λ x. Fits None v x (v i)) (slot_fresh i b a) (s.each i (let e = new_count in omega arith))
    ];
  }

  -- the bindings are the same
  here_kept : (i : ℕ) → i < length old.nodes → solved_by old i ≡ solved_by new i
  here_kept i a =
      sym (put_own (solved_by old i))
      ∙ instances old z Var (solved_by new) (old_solves (solved_by new) (here_solves new grown_sound))
      (λ j b f. (let d = old_count in let c : j < length old.nodes = omega arith in
      put_own (unknown old.nodes j) ∙ ap (λ n. Var (variable_of n)) (sym (g.nodes j c)) ∙ sym (value_free (unknown new.nodes) (length new.classes) (slots_of new.nodes new.classes) j (slot_kept j c ∙ free_is (slot_at (slots_of old.nodes old.classes) j) f))))
      i a
    where
      free_is : (s : Slot) → IsFree s → s ≡ Free
      free_is Free f = refl
      free_is (Link j) f = absurd f
      free_is (Plain c) f = absurd f
      free_is (Built k args) f = absurd f

  bound_case : (n : ℕ) (o p : Option ℕ) → place_of old.names n ≡ o → place_of new.names n ≡ p → reads (solved_by new) n p ≡ reads (solved_by old) n o
  bound_case n None None a b = refl
  bound_case n None (Some p) a b =
      let s = g.well.named.stands n p b in
      elim (cases_lt p (length old.nodes)) [
        | inl y ↦ absurd (let q = z.well.named.each p n y (sym (g.nodes p y) ∙ s.1) in let x : None ≡ Some p = sym a ∙ q in cc)
        | inr y ↦ value_free (unknown new.nodes) (length new.classes) (slots_of new.nodes new.classes) p (slot_fresh p y s.0 ∙ ap known_slot s.1) ∙ ap (λ m. Var (variable_of m)) s.1
      ]
  bound_case n (Some q) p a b =
      let s = z.well.named.stands n q a in
      let l = g.longer in
      let i = s.0 in
      let e = g.well.named.each q n (omega arith) (g.nodes q s.0 ∙ s.1) in
      ap (reads (solved_by new) n) (sym b ∙ e) ∙ sym (here_kept q s.0)

  pub bound_kept : (n : ℕ) → bound new n ≡ bound old n
  bound_kept n = bound_case n (place_of old.names n) (place_of new.names n) refl refl

-- ---- joining
module _ (t : Sheet) (z : IsSound t) (classes : List Class) (todo : List Pair) (c : Closing t.nodes t.classes classes todo []) (s : Settled (slots_of t.nodes classes)) where
  abbrev joined_sheet : Sheet
  joined_sheet = record { nodes = t.nodes; classes = classes; names = t.names }

  pub joined_sound : IsSound joined_sheet
  joined_sound = record {
    well = record { graph = c.well; named = z.well.named };
    settled = s;
    keeps = λ v h i a. z.keeps v (c.back None v h tt) i a;
  }

  pub joined_respects : (f : ℕ → Sort) → Respects f (bound joined_sheet) → Respects f (bound t) × Equates None (instance_at f t.nodes) todo
  joined_respects f r =
      let h = respects_solves joined_sheet joined_sound f r in
      (solves_respects t z f (c.back None (instance_at f t.nodes) h tt), c.equal None (instance_at f t.nodes) h tt)

  pub respects_joined : (f : ℕ → Sort) → Respects f (bound t) → Equates None (instance_at f t.nodes) todo → Respects f (bound joined_sheet)
  respects_joined f r e = solves_respects joined_sheet joined_sound f (c.onward None (instance_at f t.nodes) (respects_solves t z f r) e)

-- ---- nothing
pub sound_nothing : IsSound nothing
sound_nothing = record {
  well = record {
    graph = record { nodes_well = record { down = λ i a. absurd (omega arith) }; lengths = refl; each = λ i a. absurd (omega arith) };
    named = record { stands = λ n p e. absurd (let x = sym e in cc); each = λ i n a. absurd (omega arith) };
  };
  settled = record { levels = []; count = refl; above = record { each = λ i a. absurd (omega arith) }; all = λ i a. absurd (omega arith) };
  keeps = λ v s i a. absurd (omega arith);
}

-- ---- pairs
pub pairs_within : (nodes : List Node) (qs : List SortPair) (ps : List Pair) → PairsStand nodes qs ps → PairsWell (length nodes) ps
pairs_within nodes [] [] h = tt
pairs_within nodes [] (p ∷ ps) h = absurd h
pairs_within nodes (q ∷ qs) [] h = tt
pairs_within nodes (q ∷ qs) (p ∷ ps) h = (h.0.within, h.1.within, pairs_within nodes qs ps h.2)

pub unifies_equates : (f : ℕ → Sort) (nodes : List Node) (qs : List SortPair) (ps : List Pair) → PairsStand nodes qs ps → Unifies f qs → Equates None (instance_at f nodes) ps
unifies_equates f nodes [] [] h u = tt
unifies_equates f nodes [] (p ∷ ps) h u = absurd h
unifies_equates f nodes (q ∷ qs) [] h u = tt
unifies_equates f nodes (q ∷ qs) (p ∷ ps) h u = (ap (put f) h.0.sort ∙ u.0 ∙ ap (put f) (sym h.1.sort), unifies_equates f nodes qs ps h.2 u.1)

pub equates_unifies : (f : ℕ → Sort) (nodes : List Node) (qs : List SortPair) (ps : List Pair) → PairsStand nodes qs ps → Equates None (instance_at f nodes) ps → Unifies f qs
equates_unifies f nodes [] [] h e = tt
equates_unifies f nodes [] (p ∷ ps) h e = absurd h
equates_unifies f nodes (q ∷ qs) [] h e = absurd h
equates_unifies f nodes (q ∷ qs) (p ∷ ps) h e = (ap (put f) (sym h.0.sort) ∙ e.0 ∙ ap (put f) h.1.sort, equates_unifies f nodes qs ps h.2 e.1)

-- what is given holds among places
given_equates : (given : List SortPair) (nodes : List Node) (qs : List SortPair) (ps : List Pair) → ((s t : Sort) → IsPair qs s t → IsPair given s t) → PairsStand nodes qs ps
    → Equates (Some given) (origin nodes) ps
given_equates given nodes [] [] g h = tt
given_equates given nodes [] (p ∷ ps) g h = absurd h
given_equates given nodes (q ∷ qs) [] g h = tt
given_equates given nodes (q ∷ qs) (p ∷ ps) g h =
    (is_given (g (origin nodes p.left) (origin nodes p.right) (inl (h.0.sort, h.1.sort))), given_equates given nodes qs ps (λ s t k. g s t (inr k)) h.2)

pub pairs_given : (nodes : List Node) (qs : List SortPair) (ps : List Pair) → PairsStand nodes qs ps → Equates (Some qs) (origin nodes) ps
pairs_given nodes qs ps h = given_equates qs nodes qs ps (λ s t k. k) h

own_fits : (given : List SortPair) (nodes : List Node) (n : Node) (x : Sort) → x ≡ node_sort (origin nodes) n → Fits (Some given) (origin nodes) (known_slot n) x
own_fits given nodes (node.Variable y) x e = tt
own_fits given nodes (node.Constant c) x e = same_eq (Some given) x _ e
own_fits given nodes (node.Built k args) x e = same_eq (Some given) x _ e

-- a graph of which nothing but its nodes is known follows from anything
pub fresh_follow : (t : Sheet) (given : List SortPair) → Grows nothing t → Follow given t.nodes t.classes
fresh_follow t given g = record {
  each = λ i a. (let m = slots_length t.nodes t.classes in let l = g.well.graph.lengths in
      subst (λ s. Fits (Some given) (origin t.nodes) s (origin t.nodes i)) (sym (slot_at_class t.nodes t.classes i (omega arith) ∙ ap (slot_of t.nodes) (g.fresh i (omega arith) (omega arith))))
      (own_fits given t.nodes (node_at t.nodes i) (origin t.nodes i) (origin_step t.nodes i g.well.graph.nodes_well (omega arith))));
}

-- ---- a clash has no unifier
head_put : (f : ℕ → Sort) (s : Sort) → ((n : ℕ) → s ≢ Var n) → head_of (put f s) ≡ head_of s
head_put f = by_sorts (λ s. ((n : ℕ) → s ≢ Var n) → head_of (put f s) ≡ head_of s)
    (λ i h. absurd (h i refl)) (λ i h. ap head_of (put_rigid f i)) (λ h. ap head_of (put_int f)) (λ h. ap head_of (put_real f)) (λ h. ap head_of (put_bool f)) (λ h. ap head_of (put_unit f))
    (λ k args a h. ap head_of (put_named f k args) ∙ head_named k (map (put f) args) ∙ ap (Named k) (maps_unit args) ∙ sym (head_named k args))
  where
    maps_unit : (args : List Sort) → map (λ s. UnitSort) (map (put f) args) ≡ map (λ s. UnitSort) args
    maps_unit [] = refl
    maps_unit (x ∷ xs) = ap (λ ys. UnitSort ∷ ys) (maps_unit xs)

pub clash_refutes : (given : Sort → Sort → Type 0) (clash : Clash) (P : Type 0) → ((p : P) → (f : ℕ → Sort) × ((s t : Sort) → given s t → put f s ≡ put f t)) → IsClash given clash → Refutes clash P
clash_refutes given (Differ s t) P h k = λ p. (let f = h p in
    let e = follows_holds given f.0 f.1 s t k.0 in
    k.1.heads (sym (head_put f.0 s k.1.left) ∙ ap head_of e ∙ head_put f.0 t k.1.right))
clash_refutes given (Cycle x s) P h k = λ p. (let f = h p in
    let e = follows_holds given f.0 f.1 (Var x) s k.0 in
    let q = within_larger f.0 x s k.1.occurs k.1.within in
    let m = ap size (sym (put_var f.0 x) ∙ e) in
    omega arith)
clash_refutes given (Memory e) P h k = tt

pub clash_more : (given more : Sort → Sort → Type 0) (clash : Clash) → ((s t : Sort) → given s t → Follows more s t) → IsClash given clash → IsClash more clash
clash_more given more (Differ s t) g k = (follows_more given more g s t k.0, k.1)
clash_more given more (Cycle x s) g k = (follows_more given more g (Var x) s k.0, k.1)
clash_more given more (Memory e) g k = tt

pub unified_pair : (f : ℕ → Sort) (qs : List SortPair) → Unifies f qs → (s t : Sort) → IsPair qs s t → put f s ≡ put f t
unified_pair f [] u s t h = absurd h
unified_pair f (q ∷ qs) u s t (inl h) = ap (put f) h.0 ∙ u.0 ∙ ap (put f) (sym h.1)
unified_pair f (q ∷ qs) u s t (inr h) = unified_pair f qs u.1 s t h

-- ---- what bindings give
abbrev facts : List Node → (ℕ → Sort) → List SortPair
facts [] m = []
facts (n ∷ ns) m = record { left = Var (variable_of n); right = m (variable_of n) } ∷ facts ns m

fact_at : (nodes : List Node) (m : ℕ → Sort) (i : ℕ) → i < length nodes → IsPair (facts nodes m) (Var (variable_of (node_at nodes i))) (m (variable_of (node_at nodes i)))
fact_at [] m i h = absurd (omega arith)
fact_at (n ∷ ns) m zero h = inl (refl, refl)
fact_at (n ∷ ns) m (suc i) h = inr (fact_at ns m i (omega arith))

fact_is : (nodes : List Node) (m : ℕ → Sort) (s t : Sort) → IsPair (facts nodes m) s t → (n : ℕ) × (s ≡ Var n) × (t ≡ m n)
fact_is [] m s t h = absurd h
fact_is (n ∷ ns) m s t (inl h) = (variable_of n, h.0, h.1)
fact_is (n ∷ ns) m s t (inr h) = fact_is ns m s t h

module _ (t : Sheet) (z : IsSound t) (given : List SortPair) (has : (s u : Sort) → IsPair (facts t.nodes (bound t)) s u → IsPair given s u) where
  both_length : (args : List ℕ) → length (map (origin t.nodes) args) ≡ length (map (λ j. put (bound t) (origin t.nodes j)) args)
  both_length [] = refl
  both_length (x ∷ xs) = ap suc (both_length xs)

  all_follow : (args : List ℕ) → ((j : ℕ) → j < length args → Follows (IsPair given) (origin t.nodes (get_or args j 0)) (put (bound t) (origin t.nodes (get_or args j 0))))
      → SameAll (Some given) (map (origin t.nodes) args) (map (λ j. put (bound t) (origin t.nodes j)) args)
  all_follow [] h = tt
  all_follow (x ∷ xs) h = (h 0 (omega arith), all_follow xs (λ j q. h (suc j) (omega arith)))

  put_node : (i : ℕ) (n : Node) → i < length t.nodes → node_at t.nodes i ≡ n → IsDown i n
      → ((j : ℕ) → j < i → Follows (IsPair given) (origin t.nodes j) (put (bound t) (origin t.nodes j)))
      → Follows (IsPair given) (node_sort (origin t.nodes) n) (put (bound t) (node_sort (origin t.nodes) n))
  put_node i (node.Variable x) a e d ih =
      subst (Follows (IsPair given) (Var x)) (sym (put_var (bound t) x))
      (is_given (has (Var x) (bound t x) (subst (λ n. IsPair (facts t.nodes (bound t)) (Var (variable_of n)) (bound t (variable_of n))) e (fact_at t.nodes (bound t) i a))))
  put_node i (node.Constant c) a e d ih = same_eq (Some given) _ _ (sym (put_constant (bound t) c))
  put_node i (node.Built k args) a e d ih =
      subst (Follows (IsPair given) (Named k (map (origin t.nodes) args)))
      (ap (Named k) (sym (map_put (bound t) (origin t.nodes) (λ j. put (bound t) (origin t.nodes j)) args (λ j q. refl))) ∙ sym (put_named (bound t) k (map (origin t.nodes) args)))
      (same_named (Some given) k (map (origin t.nodes) args) (map (λ j. put (bound t) (origin t.nodes j)) args) (both_length args) (all_follow args (λ j q. ih (get_or args j 0) (d j q))))

  put_go : (m i : ℕ) → i < m → i < length t.nodes → Follows (IsPair given) (origin t.nodes i) (put (bound t) (origin t.nodes i))
  put_go zero i a b = absurd (omega arith)
  put_go (suc m) i a b =
      subst (λ s. Follows (IsPair given) s (put (bound t) s)) (sym (origin_step t.nodes i z.well.graph.nodes_well b))
      (put_node i (node_at t.nodes i) b refl (z.well.graph.nodes_well.down i b) (λ j q. put_go m j (omega arith) (omega arith)))

  -- a place's sort is the one read off, by what the bindings give
  to_here : (i : ℕ) → i < length t.nodes → Follows (IsPair given) (origin t.nodes i) (solved_by t i)
  to_here i a = subst (Follows (IsPair given) (origin t.nodes i)) (here_is t z i a) (put_go (suc i) i (omega arith) a)

  all_here : (args : List ℕ) → ((j : ℕ) → j < length args → get_or args j 0 < length t.nodes) → SameAll (Some given) (map (solved_by t) args) (map (origin t.nodes) args)
  all_here [] h = tt
  all_here (x ∷ xs) h = (symmetric (to_here x (h 0 (omega arith))), all_here xs (λ j q. h (suc j) (omega arith)))

  lengths_here : (args : List ℕ) → length (map (solved_by t) args) ≡ length (map (origin t.nodes) args)
  lengths_here [] = refl
  lengths_here (x ∷ xs) = ap suc (lengths_here xs)

  follow_slot : (i : ℕ) (s : Slot) → i < length t.nodes → SlotWell (length t.nodes) i s → Fits None (solved_by t) s (solved_by t i) → Fits (Some given) (origin t.nodes) s (origin t.nodes i)
  follow_slot i Free a w h = tt
  follow_slot i (Link j) a w h = transitive (to_here i a) (subst (λ x. Follows (IsPair given) x (origin t.nodes j)) (sym h) (symmetric (to_here j (omega arith))))
  follow_slot i (Plain c) a w h = subst (Follows (IsPair given) (origin t.nodes i)) h (to_here i a)
  follow_slot i (Built k args) a w h = transitive (to_here i a)
      (subst (λ x. Follows (IsPair given) x (Named k (map (origin t.nodes) args))) (sym h)
      (same_named (Some given) k (map (solved_by t) args) (map (origin t.nodes) args) (lengths_here args) (all_here args w)))

  pub follow_bound : Follow given t.nodes t.classes
  follow_bound = record {
    each = λ i a. (let m = count t z in let w = slots_well t z in let b : i < length t.nodes = omega arith in
        follow_slot i (slot_at (slots_of t.nodes t.classes) i) b (subst (λ n. SlotWell n i (slot_at (slots_of t.nodes t.classes) i)) (count t z) (w.each i a)) ((here_solves t z).each i a));
  }

-- ---- one pair more
module _ (old new : Sheet) (z : IsSound old) (g : Grows old new) (left right : Sort) (l r : ℕ) (a : StandsFor new.nodes left l) (b : StandsFor new.nodes right r) where
  abbrev todo : List Pair
  todo = record { left = l; right = r } ∷ []

  pub equated : (classes : List Class) → Closing new.nodes new.classes classes todo [] → Settled (slots_of new.nodes classes) → (f : ℕ → Sort)
      → (Respects f (bound (record { nodes = new.nodes; classes = classes; names = new.names })) → Respects f (bound old) × MakesEqual f left right)
      × (Respects f (bound old) × MakesEqual f left right → Respects f (bound (record { nodes = new.nodes; classes = classes; names = new.names })))
  equated classes c s f =
      let y = grown_sound old new z g in (
        λ q. (let h = joined_respects new y classes todo c s f q in
            (λ n. ap (put f) (sym (bound_kept old new z g n)) ∙ h.0 n, ap (put f) (sym a.sort) ∙ h.1.0 ∙ ap (put f) b.sort)),
        λ q. respects_joined new y classes todo c s f (λ n. ap (put f) (bound_kept old new z g n) ∙ q.0 n) (ap (put f) a.sort ∙ q.1 ∙ ap (put f) (sym b.sort), tt),
      )

  pub blamed_pair : (clash : Clash) → Blames new.nodes new.classes todo clash → IsClash (IsGiven old left right) clash
  blamed_pair clash h =
      let y = grown_sound old new z g in
      let given = record { left = left; right = right } ∷ facts new.nodes (bound new) in
      clash_more (IsPair given) (IsGiven old left right) clash (λ s t q. is_given (known s t q))
      (h given (follow_bound new y given (λ s t q. inr q)) (is_given (inl (a.sort, b.sort)), tt))
    where
      known : (s t : Sort) → IsPair (record { left = left; right = right } ∷ facts new.nodes (bound new)) s t → IsGiven old left right s t
      known s t (inl q) = inr q
      known s t (inr q) = let x = fact_is new.nodes (bound new) s t q in inl (x.0, x.1, x.2 ∙ bound_kept old new z g x.0)

pub given_holds : (t : Sheet) (left right : Sort) (f : ℕ → Sort) → Respects f (bound t) → MakesEqual f left right → (x y : Sort) → IsGiven t left right x y → put f x ≡ put f y
given_holds t left right f r e x y (inl h) = ap (put f) h.1 ∙ put_var f h.0 ∙ sym (r h.0) ∙ ap (put f) (sym h.2)
given_holds t left right f r e x y (inr h) = ap (put f) h.0 ∙ e ∙ ap (put f) (sym h.1)

-- ---- all pairs of a list
module _ (t : Sheet) (g : Grows nothing t) (classes : List Class) (todo : List Pair) (c : Closing t.nodes t.classes classes todo []) (s : Settled (slots_of t.nodes classes)) where
  start : IsSound t
  start = grown_sound nothing t sound_nothing g

  pub unified_sound : IsSound (record { nodes = t.nodes; classes = classes; names = t.names })
  unified_sound = joined_sound t start classes todo c s

  pub unified_unifies : (qs : List SortPair) → PairsStand t.nodes qs todo → Unifies (bound (record { nodes = t.nodes; classes = classes; names = t.names })) qs
  unified_unifies qs h =
      let m = bound (record { nodes = t.nodes; classes = classes; names = t.names }) in
      equates_unifies m t.nodes qs todo h (joined_respects t start classes todo c s m (idempotent (record { nodes = t.nodes; classes = classes; names = t.names }) unified_sound)).1

  pub unified_general : (qs : List SortPair) → PairsStand t.nodes qs todo → (f : ℕ → Sort) → Unifies f qs → Respects f (bound (record { nodes = t.nodes; classes = classes; names = t.names }))
  unified_general qs h f u =
      respects_joined t start classes todo c s f (λ n. ap (put f) (bound_kept nothing t sound_nothing g n) ∙ put_var f n) (unifies_equates f t.nodes qs todo h u)

pub unified_blames : (t : Sheet) (g : Grows nothing t) (todo : List Pair) (qs : List SortPair) → PairsStand t.nodes qs todo → (clash : Clash) → Blames t.nodes t.classes todo clash → IsClash (IsPair qs) clash
unified_blames t g todo qs h clash b = b qs (fresh_follow t qs g) (pairs_given t.nodes qs todo h)

-- ---- answers
pub on_err : (r : Result (Unit {0}) Clash) (P : Type 0) → P → OnErr r P
on_err (Ok u) P h = tt
on_err (Err e) P h = h

pub sheets_same : (t u : Sheet) → u.nodes ≡ t.nodes → u.names ≡ t.names → (let x : Sheet = record { nodes = t.nodes; classes = u.classes; names = t.names } in x) ≡ u
sheets_same t u a b = λ i. record { nodes = (sym a) i; classes = u.classes; names = (sym b) i }
