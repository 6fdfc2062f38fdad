-- Laws of levels from before places were joined, and of the levels that a walk from the joined places gives.
use Rattle.std.proofs.Common.{◌≡◌, ◌≢◌, ℕ, zero, suc, ◌+◌, ◌<◌, ◌≤◌, ◌⊎◌, inl, inr, Bool, true, false, List, [], ◌∷◌, ◌++◌, map, length, get_or, refl, ap, sym, ◌∙◌, subst, arith, Contains, Result, Ok, Err, OnOk, slice_set, get_or-set_other, get_or-set_same, cond}
use Rattle.std.specs.Prelude.{nat_lt}
use Rattle.std.proofs.lemmas.Bool.{cases_lt}
use Rattle.std.proofs.lemmas.Bool.Decides.{nat_tests}
use Rattle.std.proofs.lemmas.List.{length-map, get_or-map}
use Rattle.std.proofs.lemmas.List.Elements.{Contains-append_left, Contains-push, Contains-push_cases}
use Rattle.ae_types.specs.declared.cycles.Mark.{Mark}
use Rattle.ae_types.specs.declared.cycles.Mark.TheVariants.{New, Open, Done}
use Rattle.ae_types.specs.declared.cycles.Walk.{Walk}
use Rattle.ae_types.specs.declared.graph.Class.{Class}
use Rattle.ae_types.specs.declared.graph.Node.{Node}
use Rattle.ae_types.specs.declared.graph.Root.{Root}
use Rattle.ae_types.specs.declared.joins.Pair.{Pair}
use Rattle.ae_types.specs.Inner.Graphs.{Slot, Free, Link, Plain, Built, GraphWell, IsRoot, node_at, slot_at, slots_of, SlotWell, Well}
use Rattle.ae_types.specs.Inner.Joins.{Finds, United, joined, kept}
use Rattle.ae_types.specs.Inner.Levels.{Above, Settled, empties}
use Rattle.ae_types.specs.Inner.Orders.{refs, Beneath, LinksAmong, Ordered, Loosened}
use Rattle.ae_types.specs.Inner.Walks.{level_of, levels, mark_at, Unmarked, Walking}
use Rattle.ae_types.proofs.JoinLaws.{joined_each, known_root, root_slot, same_or_not}
use Rattle.ae_types.proofs.GraphLaws.{slots_length}
use Rattle.ae_types.proofs.WalkLaws.{level_at}

-- ---- levels of what a slot names
above_of : (ls : List ℕ) (n : ℕ) (s : Slot)
    → ((k : ℕ) → k < length (refs s) → (0 < get_or ls (get_or (refs s) k 0) 0) × (get_or ls (get_or (refs s) k 0) 0 < n)) → Above ls n s
above_of ls n Free h = tt
above_of ls n (Link j) h = h 0 (omega arith)
above_of ls n (Plain c) h = tt
above_of ls n (Built x args) h = h

refs_above : (ls : List ℕ) (n : ℕ) (s : Slot) → Above ls n s → (k : ℕ) → k < length (refs s) → (0 < get_or ls (get_or (refs s) k 0) 0) × (get_or ls (get_or (refs s) k 0) 0 < n)
refs_above ls n Free a k h = absurd (omega arith)
refs_above ls n (Link j) a zero h = a
refs_above ls n (Link j) a (suc k) h = absurd (omega arith)
refs_above ls n (Plain c) a k h = absurd (omega arith)
refs_above ls n (Built x args) a k h = a k h

refs_within : (n i : ℕ) (s : Slot) → SlotWell n i s → i < n → (k : ℕ) → k < length (refs s) → get_or (refs s) k 0 < n
refs_within n i Free w a k h = absurd (omega arith)
refs_within n i (Link j) w a zero h = omega arith
refs_within n i (Link j) w a (suc k) h = absurd (omega arith)
refs_within n i (Plain c) w a k h = absurd (omega arith)
refs_within n i (Built x args) w a k h = w k h

-- ---- before any place is joined
settled_loosened : (slots : List Slot) → Settled slots → Loosened slots []
settled_loosened slots z = record {
  levels = z.levels;
  count = z.count;
  all = z.all;
  ordered = record {
    among = λ i a c. absurd (let b = c.1 in omega arith);
    each = λ i a. inr (λ k h. inr (refs_above z.levels (get_or z.levels i 0) (slot_at slots i) (z.above.each i a (z.all i a)).1 k h).1);
  };
}

-- places were joined in a graph that had levels
pub loosened_more : (old new : List Slot) (js : List ℕ) → length new ≡ length old → Settled old → ((ls : List ℕ) → Ordered ls [] old → Ordered ls js new) → Loosened new js
loosened_more old new js e z h =
    let l = settled_loosened old z in record {
      levels = l.levels;
      count = l.count ∙ sym e;
      all = λ i a. l.all i (omega arith);
      ordered = h l.levels l.ordered;
    }

-- ---- one place more is joined
beneath_more : (ls js : List ℕ) (low n : ℕ) (s : Slot) → Beneath ls js n s → Beneath ls (js ++ low ∷ []) n s
beneath_more ls js low n s b = λ k h. elim (b k h) [ inl c ↦ inl (Contains-append_left js (low ∷ []) (get_or (refs s) k 0) c) | inr l ↦ inr l ]

no_link : (s t : Slot) → IsRoot s → IsRoot t → (j : ℕ) → kept s t ≡ Link j → ⊥
no_link Free Free p q j e = cc
no_link Free (Link i) p q j e = q
no_link Free (Plain c) p q j e = cc
no_link Free (Built h args) p q j e = cc
no_link (Link i) t p q j e = p
no_link (Plain c) t p q j e = cc
no_link (Built h args) t p q j e = cc

only_low : (ls js : List ℕ) (low n : ℕ) → Beneath ls (js ++ low ∷ []) n (Link low)
only_low ls js low n zero h = inl (Contains-push js low)
only_low ls js low n (suc k) h = absurd (omega arith)

pub ordered_joined : (ls js : List ℕ) (slots : List Slot) (low high : ℕ) → low < high → high < length slots → IsRoot (slot_at slots low) → IsRoot (slot_at slots high)
    → Ordered ls js slots → Ordered ls (js ++ low ∷ []) (joined slots low high)
ordered_joined ls js slots low high a b p q o =
    let more = js ++ low ∷ [] in
    record {
      among = joined_each (λ i s. Contains more i → LinksAmong more s) slots low high a b
          (λ c j e. (let x : low ≡ j = cc in subst (Contains more) x (Contains-push js low)))
          (λ c j e. absurd (no_link (slot_at slots low) (slot_at slots high) p q j e))
          (λ i w c j e. elim (Contains-push_cases js low i c) [
            | inl d ↦ Contains-append_left js (low ∷ []) j (o.among i w d j e)
            | inr k ↦ absurd (let m = ap (slot_at slots) k in root_no_link (slot_at slots i) (subst IsRoot m p) j e)
          ]);
      each = joined_each (λ i s. Contains more i ⊎ Beneath ls more (get_or ls i 0) s) slots low high a b
          (inr (only_low ls js low (get_or ls high 0)))
          (inl (Contains-push js low))
          (λ i w. elim (o.each i w) [
            | inl c ↦ inl (Contains-append_left js (low ∷ []) i c)
            | inr d ↦ inr (beneath_more ls js low (get_or ls i 0) (slot_at slots i) d)
          ]);
    }
  where
    root_no_link : (s : Slot) → IsRoot s → (j : ℕ) → s ≡ Link j → ⊥
    root_no_link Free r j e = cc
    root_no_link (Link i) r j e = r
    root_no_link (Plain c) r j e = cc
    root_no_link (Built h args) r j e = cc

-- ---- levels within the number of places
abbrev counts : Bool → ℕ
counts b = cond b 1 0

-- how many numbers are below one
abbrev below : List ℕ → ℕ → ℕ
below [] x = 0
below (y ∷ ys) x = counts (nat_lt y x) + below ys x

less_more : (y a b : ℕ) → a ≤ b → counts (nat_lt y a) ≤ counts (nat_lt y b)
less_more y a b h = elim (cases_lt y a) [
  | inl l ↦ let p : nat_lt y a ≡ true = grind (arith, nat_tests) in let q : nat_lt y b ≡ true = grind (arith, nat_tests) in let u = ap counts p in let v = ap counts q in omega arith
  | inr l ↦ let p : nat_lt y a ≡ false = grind (arith, nat_tests) in let u = ap counts p in omega arith
]

below_more : (ys : List ℕ) (a b : ℕ) → a ≤ b → below ys a ≤ below ys b
below_more [] a b h = omega arith
below_more (y ∷ ys) a b h = let l = less_more y a b h in let ih = below_more ys a b h in omega arith

below_less : (ys : List ℕ) (i b : ℕ) → i < length ys → get_or ys i 0 < b → below ys (get_or ys i 0) < below ys b
below_less [] i b w h = absurd (omega arith)
below_less (y ∷ ys) zero b w h =
    let p : nat_lt y y ≡ false = grind (arith, nat_tests) in
    let q : nat_lt y b ≡ true = grind (arith, nat_tests) in
    let u = ap counts p in
    let v = ap counts q in
    let m = below_more ys y b (omega arith) in
    omega arith
below_less (y ∷ ys) (suc i) b w h =
    let l = less_more y (get_or ys i 0) b (omega arith) in
    let ih = below_less ys i b (omega arith) h in
    omega arith

counts_one : (t : Bool) → counts t ≤ 1
counts_one true = omega arith
counts_one false = omega arith

below_length : (ys : List ℕ) (x : ℕ) → below ys x ≤ length ys
below_length [] x = omega arith
below_length (y ∷ ys) x = let l = counts_one (nat_lt y x) in let ih = below_length ys x in omega arith

below_within : (ys : List ℕ) (i : ℕ) → i < length ys → below ys (get_or ys i 0) < length ys
below_within ys i w =
    let a = below_less ys i (get_or ys i 0 + 1) w (omega arith) in
    let b = below_length ys (get_or ys i 0 + 1) in
    omega arith

abbrev rank : List ℕ → ℕ → ℕ
rank ls x = suc (below ls x)

abbrev ranks : List ℕ → List ℕ
ranks ls = map (rank ls) ls

rank_at : (ls : List ℕ) (i : ℕ) → i < length ls → get_or (ranks ls) i 0 ≡ suc (below ls (get_or ls i 0))
rank_at ls i h = get_or-map (rank ls) ls i 0 0 h

-- levels that may be high give levels within the number of places
pub ranked : (slots : List Slot) (ls : List ℕ) → Well slots → length ls ≡ length slots
    → ((i : ℕ) → i < length slots → Above ls (get_or ls i 0) (slot_at slots i)) → Settled slots
ranked slots ls w m h = record {
  levels = ranks ls;
  count = length-map ls (rank ls) ∙ m;
  above = record {
    each = λ i a k. (
      let e = rank_at ls i (omega arith) in let b = below_within ls i (omega arith) in omega arith,
      above_of (ranks ls) (get_or (ranks ls) i 0) (slot_at slots i) (λ j q.
          (let x = get_or (refs (slot_at slots i)) j 0 in
          let t : x < length slots = refs_within (length slots) i (slot_at slots i) (w.each i a) a j q in
          let l = (refs_above ls (get_or ls i 0) (slot_at slots i) (h i a) j q).1 in
          let e = rank_at ls i (omega arith) in
          let f = rank_at ls x (omega arith) in
          let s = below_less ls x (get_or ls i 0) (omega arith) l in
          (omega arith, omega arith))),
    );
  };
  all = λ i a. (let e = rank_at ls i (omega arith) in omega arith);
}

-- ---- the levels after a walk: those that it gave, and above them the old ones of the places that it didn't come to
abbrev after : ℕ → Mark → ℕ → ℕ
after d New l = d + l
after d (Open n) l = d + l
after d (Done n) l = suc n

abbrev afters : ℕ → List Mark → List ℕ → List ℕ
afters d [] ls = []
afters d (m ∷ ms) [] = []
afters d (m ∷ ms) (l ∷ ls) = after d m l ∷ afters d ms ls

afters_length : (d : ℕ) (ms : List Mark) (ls : List ℕ) → length ms ≡ length ls → length (afters d ms ls) ≡ length ls
afters_length d [] [] h = refl
afters_length d [] (l ∷ ls) h = absurd (omega arith)
afters_length d (m ∷ ms) [] h = refl
afters_length d (m ∷ ms) (l ∷ ls) h = let ih = afters_length d ms ls (omega arith) in omega arith

afters_at : (d : ℕ) (ms : List Mark) (ls : List ℕ) (i : ℕ) → length ms ≡ length ls → i < length ls → get_or (afters d ms ls) i 0 ≡ after d (mark_at ms i) (get_or ls i 0)
afters_at d ms [] i h a = absurd (omega arith)
afters_at d [] (l ∷ ls) i h a = absurd (omega arith)
afters_at d (m ∷ ms) (l ∷ ls) zero h a = refl
afters_at d (m ∷ ms) (l ∷ ls) (suc i) h a = afters_at d ms ls i (omega arith) (omega arith)

module _ (slots : List Slot) (js : List ℕ) (w : Walk) (v : Well slots) (o : Loosened slots js) (z : Walking slots w) (p : w.path ≡ [])
    (seen : (j : ℕ) → j < length slots → Contains js j → mark_at w.marks j ≢ New) where
  abbrev levels_after : List ℕ
  levels_after = afters w.done w.marks o.levels

  at_after : (i : ℕ) → i < length slots → get_or levels_after i 0 ≡ after w.done (mark_at w.marks i) (get_or o.levels i 0)
  at_after i a = let m = z.marks in let n = o.count in afters_at w.done w.marks o.levels i (omega arith) (omega arith)

  not_open : (i d : ℕ) → i < length slots → mark_at w.marks i ≢ Open d
  not_open i d a e = let x = (z.on_path i d a e).0 in let l = ap length p in omega arith

  -- the level of a place that is done
  done_level : (i n : ℕ) → i < length slots → mark_at w.marks i ≡ Done n → get_or (levels w.marks) i 0 ≡ suc n
  done_level i n a e = let m = z.marks in level_at w.marks i (omega arith) ∙ ap level_of e

  done_after : (i n : ℕ) → i < length slots → mark_at w.marks i ≡ Done n → get_or levels_after i 0 ≡ suc n
  done_after i n a e = at_after i a ∙ ap (λ m. after w.done m (get_or o.levels i 0)) e

  done_low : (i n : ℕ) → i < length slots → mark_at w.marks i ≡ Done n → n < w.done
  done_low i n a e = let l = done_level i n a e in let b = (z.levelled.each i a (omega arith)).0 in omega arith

  new_after : (i : ℕ) → i < length slots → mark_at w.marks i ≡ New → get_or levels_after i 0 ≡ w.done + get_or o.levels i 0
  new_after i a e = at_after i a ∙ ap (λ m. after w.done m (get_or o.levels i 0)) e

  -- a place that the walk came to has a level that it gave
  seen_low : (j : ℕ) → j < length slots → (m : Mark) → mark_at w.marks j ≡ m → m ≢ New → (0 < get_or levels_after j 0) × (get_or levels_after j 0 ≤ w.done)
  seen_low j a New e n = absurd (n refl)
  seen_low j a (Open d) e n = absurd (not_open j d a e)
  seen_low j a (Done k) e n = let x = done_after j k a e in let y = done_low j k a e in (omega arith, omega arith)

  -- a place with a lower old level has a lower level now
  old_low : (i j : ℕ) → i < length slots → j < length slots → get_or o.levels j 0 < get_or o.levels i 0 → (m : Mark) → mark_at w.marks j ≡ m
      → (0 < get_or levels_after j 0) × (get_or levels_after j 0 < w.done + get_or o.levels i 0)
  old_low i j a b l New e = let x = new_after j b e in let y = o.all j b in (omega arith, omega arith)
  old_low i j a b l (Open d) e = absurd (not_open j d b e)
  old_low i j a b l (Done k) e = let x = done_after j k b e in let y = done_low j k b e in (omega arith, omega arith)

  -- what a done place names is done before it
  done_part : (i j n : ℕ) → i < length slots → j < length slots → get_or levels_after i 0 ≡ suc n → (0 < get_or (levels w.marks) j 0) × (get_or (levels w.marks) j 0 < suc n)
      → (m : Mark) → mark_at w.marks j ≡ m → (0 < get_or levels_after j 0) × (get_or levels_after j 0 < get_or levels_after i 0)
  done_part i j n a b x l New e = absurd (let m = z.marks in let y = level_at w.marks j (omega arith) ∙ ap level_of e in let q = l.0 in omega arith)
  done_part i j n a b x l (Open d) e = absurd (not_open j d b e)
  done_part i j n a b x l (Done k) e = let y = done_level j k b e in let u = done_after j k b e in let q = l.1 in (omega arith, omega arith)

  place_above : (i : ℕ) → i < length slots → (m : Mark) → mark_at w.marks i ≡ m → Above levels_after (get_or levels_after i 0) (slot_at slots i)
  place_above i a New e = above_of levels_after (get_or levels_after i 0) (slot_at slots i) (λ k h.
      (let j = get_or (refs (slot_at slots i)) k 0 in
      let b : j < length slots = refs_within (length slots) i (slot_at slots i) (v.each i a) a k h in
      let x = new_after i a e in
      let y = o.all i a in
      elim (o.ordered.each i a) [
        | inl c ↦ absurd (seen i a c e)
        | inr u ↦ elim (u k h) [
          | inl c ↦ let q = seen_low j b (mark_at w.marks j) refl (seen j b c) in let r = q.0 in let s = q.1 in (omega arith, omega arith)
          | inr l ↦ let q = old_low i j a b l (mark_at w.marks j) refl in let r = q.0 in let s = q.1 in (omega arith, omega arith)
        ]
      ]))
  place_above i a (Open d) e = absurd (not_open i d a e)
  place_above i a (Done n) e = above_of levels_after (get_or levels_after i 0) (slot_at slots i) (λ k h.
      (let j = get_or (refs (slot_at slots i)) k 0 in
      let b : j < length slots = refs_within (length slots) i (slot_at slots i) (v.each i a) a k h in
      let y = done_level i n a e in
      let q = subst (λ x. Above (levels w.marks) x (slot_at slots i)) y (z.levelled.each i a (omega arith)).1 in
      done_part i j n a b (done_after i n a e) (refs_above (levels w.marks) (suc n) (slot_at slots i) q k h) (mark_at w.marks j) refl))

  pub walked_settles : Settled slots
  walked_settles =
      let m = z.marks in
      let n = o.count in
      ranked slots levels_after v (afters_length w.done w.marks o.levels (omega arith) ∙ o.count) (λ i a. place_above i a (mark_at w.marks i) refl)

-- ---- marks
pub all_new : (marks : List Mark) → ((i : ℕ) → mark_at marks i ≡ New) → empties (levels marks) ≡ length marks
all_new [] h = refl
all_new (m ∷ ms) h =
    let e = ap level_of (h 0) in
    let ih = all_new ms (λ i. h (suc i)) in
    let q : empties (level_of m ∷ levels ms) ≡ empties (0 ∷ levels ms) = ap (λ n. empties (n ∷ levels ms)) e in
    omega arith

pub new_or_not : (m : Mark) → (m ≡ New) ⊎ (m ≢ New)
new_or_not New = inl refl
new_or_not (Open d) = inr (λ e. cc)
new_or_not (Done n) = inr (λ e. cc)

pub others_set : (marks : List Mark) (place i : ℕ) → place < length marks → mark_at (slice_set marks place New) i ≢ New → (mark_at marks i ≢ New) × (i ≢ place)
others_set marks place i a h = elim (same_or_not i place) [
  | inl e ↦ absurd (h (ap (mark_at (slice_set marks place New)) e ∙ get_or-set_same marks place New New a))
  | inr n ↦ ((λ e. h (get_or-set_other marks place i New New n ∙ e)), n)
]

-- past the end stands no mark
pub others_past : (marks : List Mark) (place i : ℕ) → length marks ≤ place → mark_at marks i ≢ New → (mark_at marks i ≢ New) × (i ≢ place)
others_past marks place i a h = (h, (λ e. h (ap (mark_at marks) e ∙ past marks place a)))
  where
    past : (ms : List Mark) (k : ℕ) → length ms ≤ k → mark_at ms k ≡ New
    past [] k l = refl
    past (m ∷ ms) zero l = absurd (omega arith)
    past (m ∷ ms) (suc k) l = past ms k (omega arith)

pub unmarked_more : (marks : List Mark) (m n : ℕ) → m ≤ n → Unmarked marks m → Unmarked marks n
unmarked_more marks m n h u = record { new = u.new; size = (let s = u.size in omega arith) }

-- ---- a step
pub on_ok_pair : {E : Type 0} {P Q R : Type 0} (r : Result Unit E) → OnOk r P → OnOk r Q → (P → Q → R) → OnOk r R
on_ok_pair (Ok x) p q f = f p q
on_ok_pair (Err x) p q f = tt

module _ (nodes : List Node) (old mid last new : List Class) (todo after : List Pair) (first second : ℕ) (l r : Root) (g : GraphWell nodes old)
    (one : Finds old mid first l) (two : Finds mid last second r) where
  abbrev found : List Slot
  found = slots_of nodes last

  found_ordered : (ls js : List ℕ) → Ordered ls js (slots_of nodes old) → Ordered ls js found
  found_ordered ls js o = two.shortened.ordered nodes ls js (one.shortened.ordered nodes ls js o)

  left_root : IsRoot (slot_at found l.place)
  left_root = subst IsRoot (sym (root_slot nodes last l.place l.known (let a = one.within in let b = one.shortened.same_length in let d = two.shortened.same_length in omega arith)
      (two.shortened.known l.place l.known one.known))) (known_root (node_at nodes l.known))

  right_root : IsRoot (slot_at found r.place)
  right_root = subst IsRoot (sym (root_slot nodes last r.place r.known (let a = two.within in let d = two.shortened.same_length in omega arith) two.known)) (known_root (node_at nodes r.known))

  left_within : l.place < length found
  left_within = let m = slots_length nodes last in let a = one.within in let b = one.shortened.same_length in let d = two.shortened.same_length in omega arith

  right_within : r.place < length found
  right_within = let m = slots_length nodes last in let a = two.within in let d = two.shortened.same_length in omega arith

  pub united_ordered : l.place < r.place → United nodes last new todo after l r → (js more : List ℕ) → more ≡ js ++ l.place ∷ []
      → (ls : List ℕ) → Ordered ls js (slots_of nodes old) → Ordered ls more (slots_of nodes new)
  united_ordered h u js more e ls o =
      subst (Ordered ls more) (sym u.graph) (subst (λ xs. Ordered ls xs (joined found l.place r.place)) (sym e)
      (ordered_joined ls js found l.place r.place h right_within left_root right_root (found_ordered ls js o)))

  pub united_back : r.place < l.place → United nodes last new todo after r l → (js more : List ℕ) → more ≡ js ++ r.place ∷ []
      → (ls : List ℕ) → Ordered ls js (slots_of nodes old) → Ordered ls more (slots_of nodes new)
  united_back h u js more e ls o =
      subst (Ordered ls more) (sym u.graph) (subst (λ xs. Ordered ls xs (joined found r.place l.place)) (sym e)
      (ordered_joined ls js found r.place l.place h left_within right_root left_root (found_ordered ls js o)))
