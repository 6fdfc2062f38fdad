-- Laws of a walk through a graph.
use Rattle.std.proofs.Common.{◌≡◌, ◌≢◌, ℕ, zero, suc, ◌+◌, ◌-◌, ◌<◌, ◌≤◌, ◌⊎◌, inl, inr, List, [], ◌∷◌, ◌++◌, length, get_or, refl, ap, sym, ◌∙◌, subst, arith, slice_get, slice_set, length-append, length-set, get_or-set_other, get_or-set_same, Some, None, Contains}
use Rattle.std.proofs.lemmas.List.{length-map, get_or-map, map-set}
use Rattle.std.proofs.lemmas.List.Elements.{Contains-append_left, Contains-append_right}
use Rattle.ae_types.specs.declared.cycles.Mark.{Mark}
use Rattle.ae_types.specs.declared.cycles.Mark.TheVariants.{New, Open, Done}
use Rattle.ae_types.specs.declared.cycles.Frame.{Frame}
use Rattle.ae_types.specs.declared.cycles.Walk.{Walk}
use Rattle.ae_types.specs.Inner.Graphs.{Slot, Free, Link, Plain, Built, slot_at, SlotWell, Well}
use Rattle.ae_types.specs.Inner.Levels.{Levelled, Ready, IsReady, Settled, empties}
use Rattle.ae_types.specs.Inner.Walks.{refs, level_of, levels, mark_at, frame_at, FrameWell, Leads, Noted, Notes, Walking, left_of, left_new, left_open, left, IsFresh, Opens, KeepsSeen, IsCycle}
use Rattle.ae_types.proofs.EnterLaws.{at_before, at_end, inside}
use Rattle.ae_types.proofs.JoinLaws.{same_or_not}
use Rattle.ae_types.proofs.LevelLaws.{empties_set, empties_found, keeps, levelled_set}

pub got : (xs : List ℕ) (i x : ℕ) → slice_get xs i ≡ Some x → (i < length xs) × (get_or xs i 0 ≡ x)
got [] i x e = absurd (cc)
got (y ∷ ys) zero x e = (omega arith, cc)
got (y ∷ ys) (suc i) x e = let r = got ys i x e in let a = r.0 in (omega arith, r.1)

pub not_got : (xs : List ℕ) (i : ℕ) → slice_get xs i ≡ None → length xs ≤ i
not_got [] i e = omega arith
not_got (y ∷ ys) zero e = absurd (cc)
not_got (y ∷ ys) (suc i) e = let r = not_got ys i e in omega arith

-- levels of marks
pub level_at : (marks : List Mark) (i : ℕ) → i < length marks → get_or (levels marks) i 0 ≡ level_of (mark_at marks i)
level_at marks i h = get_or-map level_of marks i New 0 h

pub levels_length : (marks : List Mark) → length (levels marks) ≡ length marks
levels_length marks = length-map marks level_of

-- the last frame of a path, and the others
snoc_place : (rest : List Frame) (f : Frame) (k : ℕ) → k < length rest + 1 → ((k < length rest) × (frame_at (rest ++ f ∷ []) k ≡ frame_at rest k)) ⊎ ((k ≡ length rest) × (frame_at (rest ++ f ∷ []) k ≡ f))
snoc_place rest f k h = elim (inside k (length rest) h) [
  | inl a ↦ inl (a, at_before rest (f ∷ []) k (record { place = 0; next = 0 }) a)
  | inr e ↦ inr (e, ap (frame_at (rest ++ f ∷ [])) e ∙ at_end rest f (record { place = 0; next = 0 }))
]

same_place : (rest : List Frame) (f g : Frame) (k : ℕ) → f.place ≡ g.place → k < length rest + 1 → (frame_at (rest ++ f ∷ []) k).place ≡ (frame_at (rest ++ g ∷ []) k).place
same_place rest f g k e h = elim (inside k (length rest) h) [
  | inl a ↦ ap (λ x. x.place) (at_before rest (f ∷ []) k (record { place = 0; next = 0 }) a ∙ sym (at_before rest (g ∷ []) k (record { place = 0; next = 0 }) a))
  | inr q ↦ ap (λ j. (frame_at (rest ++ f ∷ []) j).place) q ∙ ap (λ x. x.place) (at_end rest f (record { place = 0; next = 0 })) ∙ e
      ∙ ap (λ x. x.place) (sym (at_end rest g (record { place = 0; next = 0 }))) ∙ ap (λ j. (frame_at (rest ++ g ∷ []) j).place) (sym q)
]

-- ---- what is left to look at
pub open_append : (slots : List Slot) (xs ys : List Frame) → left_open slots (xs ++ ys) ≡ left_open slots xs + left_open slots ys
open_append slots [] ys = omega arith
open_append slots (x ∷ xs) ys = let ih = open_append slots xs ys in omega arith

pub new_set : (marks : List Mark) (slots : List Slot) (i : ℕ) (m : Mark) → i < length marks → i < length slots
    → left_new (slice_set marks i m) slots + left_of (mark_at marks i) (slot_at slots i) ≡ left_new marks slots + left_of m (slot_at slots i)
new_set [] slots i m a b = absurd (omega arith)
new_set (x ∷ xs) [] i m a b = absurd (omega arith)
new_set (x ∷ xs) (s ∷ ss) zero m a b = omega arith
new_set (x ∷ xs) (s ∷ ss) (suc i) m a b = let ih = new_set xs ss i m (omega arith) (omega arith) in omega arith

-- ---- one part more was looked at
module _ (slots : List Slot) (w : Walk) (rest : List Frame) (f : Frame) (child : ℕ) (z : Walking slots w) (p : w.path ≡ rest ++ f ∷ []) where
  last_frame : FrameWell slots w.marks (length rest) f
  last_frame =
      let m = ap length p ∙ length-append rest (f ∷ []) in
      subst (FrameWell slots w.marks (length rest)) (ap (λ x. frame_at x (length rest)) p ∙ at_end rest f (record { place = 0; next = 0 })) (z.frames (length rest) (omega arith))

  rest_frame : (k : ℕ) → k < length rest → FrameWell slots w.marks k (frame_at rest k)
  rest_frame k h =
      let m = ap length p ∙ length-append rest (f ∷ []) in
      subst (FrameWell slots w.marks k) (ap (λ x. frame_at x k) p ∙ at_before rest (f ∷ []) k (record { place = 0; next = 0 }) h) (z.frames k (omega arith))

  pub last_within : f.place < length slots
  last_within = last_frame.within

  pub last_open : mark_at w.marks f.place ≢ New
  last_open = λ e. (let m = last_frame.mark in let x : New ≡ Open (length rest) = sym e ∙ m in cc)

  abbrev further : Frame
  further = record { place = f.place; next = f.next + 1 }

  pub walk_advances : slice_get (refs (slot_at slots f.place)) f.next ≡ Some child → 0 < level_of (mark_at w.marks child) → child < length slots
      → Walking slots (record { marks = w.marks; path = rest ++ further ∷ []; done = w.done })
  walk_advances g h c =
      let m = ap length p ∙ length-append rest (f ∷ []) in
      let n = length-append rest (further ∷ []) in
      let l = last_frame in
      let q = got (refs (slot_at slots f.place)) f.next child g in
      let a = q.0 in record {
        marks = z.marks;
        count = z.count;
        levelled = z.levelled;
        frames = λ k b. elim (snoc_place rest further k (omega arith)) [
          | inl x ↦ subst (FrameWell slots w.marks k) (sym x.1) (rest_frame k x.0)
          | inr x ↦ subst (FrameWell slots w.marks k) (sym x.1) (subst (λ j. FrameWell slots w.marks j further) (sym x.0) (record {
            within = l.within;
            mark = l.mark;
            few = omega arith;
            done = λ j y. elim (inside j f.next y) [
              | inl u ↦ l.done j u
              | inr e ↦ subst (λ i. 0 < get_or (levels w.marks) i 0) (sym (ap (λ i. get_or (refs (slot_at slots f.place)) i 0) e ∙ q.1))
                  (subst (λ i. 0 < i) (sym (level_at w.marks child (let y = z.marks in omega arith))) h)
            ];
          }))
        ];
        chain = λ k b. (let old = z.chain k (omega arith) in
            let e = at_before rest (further ∷ []) k (record { place = 0; next = 0 }) (omega arith) ∙ sym (at_before rest (f ∷ []) k (record { place = 0; next = 0 }) (omega arith)) ∙ ap (λ x. frame_at x k) (sym p) in
            subst (λ x. Leads slots x (frame_at (rest ++ further ∷ []) (k + 1)).place) (sym e)
            (subst (Leads slots (frame_at w.path k)) (ap (λ x. (frame_at x (k + 1)).place) p ∙ same_place rest f further (k + 1) refl (omega arith)) old));
        on_path = λ i d a b. (let o = z.on_path i d a b in let y = o.0 in
            (omega arith, same_place rest further f d refl (omega arith) ∙ ap (λ x. (frame_at x d).place) (sym p) ∙ o.1));
      }

  -- ---- a place is done
  ready_of : (ls : List ℕ) (s : Slot) → ((j : ℕ) → j < length (refs s) → 0 < get_or ls (get_or (refs s) j 0) 0) → Ready ls s
  ready_of ls Free h = tt
  ready_of ls (Link j) h = h 0 (omega arith)
  ready_of ls (Plain c) h = tt
  ready_of ls (Built y args) h = h

  abbrev marked : List Mark
  marked = slice_set w.marks f.place (Done w.done)

  marked_levels : levels marked ≡ slice_set (levels w.marks) f.place (w.done + 1)
  marked_levels = map-set level_of w.marks f.place (Done w.done) ∙ (let e : suc w.done ≡ w.done + 1 = omega arith in ap (slice_set (levels w.marks) f.place) e)

  empty_last : get_or (levels w.marks) f.place 0 ≡ 0
  empty_last = let l = last_frame in let a = l.within in level_at w.marks f.place (let y = z.marks in omega arith) ∙ ap level_of l.mark

  other_place : (k : ℕ) → k < length rest → (frame_at rest k).place ≢ f.place
  other_place k h = λ e. (let a = (rest_frame k h).mark in let b = last_frame.mark in let x : Open k ≡ Open (length rest) = sym a ∙ ap (mark_at w.marks) e ∙ b in
      let y : k ≡ length rest = cc in omega arith)

  pub walk_leaves : Well slots → length (refs (slot_at slots f.place)) ≤ f.next → Walking slots (record { marks = marked; path = rest; done = w.done + 1 })
  walk_leaves v few =
      let m = ap length p ∙ length-append rest (f ∷ []) in
      let l = last_frame in
      let a = l.within in
      let lm = levels_length w.marks in
      let zm = z.marks in
      let ready : IsReady slots (levels w.marks) f.place = record { within = a; empty = empty_last; ready = ready_of (levels w.marks) (slot_at slots f.place) (λ j y. l.done j (omega arith)) } in
      record {
        marks = length-set w.marks f.place (Done w.done) ∙ z.marks;
        count = (let x = empties_set (levels w.marks) f.place (w.done + 1) (omega arith) empty_last (omega arith) in let y = z.count in let e = ap empties marked_levels in omega arith);
        levelled = subst (λ ls. Levelled slots ls (w.done + 1)) (sym marked_levels) (levelled_set slots (levels w.marks) w.done f.place (lm ∙ z.marks) v ready z.levelled);
        frames = λ k b. (let r = rest_frame k b in record {
          within = r.within;
          mark = get_or-set_other w.marks f.place (frame_at rest k).place (Done w.done) New (other_place k b) ∙ r.mark;
          few = r.few;
          done = λ j y. (let h = r.done j y in
              let e = ap (λ ls. get_or ls (get_or (refs (slot_at slots (frame_at rest k).place)) j 0) 0) marked_levels
              ∙ keeps (levels w.marks) f.place (get_or (refs (slot_at slots (frame_at rest k).place)) j 0) (w.done + 1) empty_last h in omega arith);
        });
        chain = λ k b. (let old = z.chain k (omega arith) in
            subst (λ x. Leads slots x (frame_at rest (k + 1)).place) (ap (λ x. frame_at x k) p ∙ at_before rest (f ∷ []) k (record { place = 0; next = 0 }) (omega arith))
            (subst (Leads slots (frame_at w.path k)) (ap (λ x. x.place) (ap (λ x. frame_at x (k + 1)) p ∙ at_before rest (f ∷ []) (k + 1) (record { place = 0; next = 0 }) (omega arith))) old));
        on_path = λ i d b e. elim (same_or_not i f.place) [
          | inl q ↦ absurd (let x : Done w.done ≡ Open d = sym (get_or-set_same w.marks f.place (Done w.done) New (omega arith)) ∙ ap (mark_at marked) (sym q) ∙ e in cc)
          | inr n ↦
              let o = z.on_path i d b (sym (get_or-set_other w.marks f.place i (Done w.done) New n) ∙ e) in
              let y = o.0 in
              elim (snoc_place rest f d (omega arith)) [
                | inl x ↦ (x.0, ap (λ g. g.place) (sym x.1 ∙ ap (λ g. frame_at g d) (sym p)) ∙ o.1)
                | inr x ↦ absurd (n (sym o.1 ∙ ap (λ g. g.place) (ap (λ g. frame_at g d) p ∙ x.1)))
              ]
        ];
      }

  -- ---- the path that a place of it leads back to
  pub done_room : w.done < length slots
  done_room = let x = empties_found (levels w.marks) f.place (let y = levels_length w.marks in let u = z.marks in let a = last_frame.within in omega arith) empty_last in let y = z.count in omega arith

  open_last : left_open slots w.path ≡ left_open slots rest + (length (refs (slot_at slots f.place)) + 1 - f.next + 0)
  open_last = ap (left_open slots) p ∙ open_append slots rest (f ∷ [])

  pub left_leaves : left slots (record { marks = marked; path = rest; done = w.done + 1 }) < left slots w
  left_leaves =
      let l = last_frame in
      let a = l.within in
      let b = l.few in
      let m = z.marks in
      let x = new_set w.marks slots f.place (Done w.done) (omega arith) a in
      let y = ap (λ k. left_of k (slot_at slots f.place)) l.mark in
      let o = open_last in
      omega arith

  pub left_advances : f.next < length (refs (slot_at slots f.place)) → left slots (record { marks = w.marks; path = rest ++ further ∷ []; done = w.done }) < left slots w
  left_advances h =
      let o = open_last in
      let q = open_append slots rest (further ∷ []) in
      omega arith

-- ---- a new place is put on the path
open_other : (marks : List Mark) (place i d : ℕ) → mark_at marks place ≡ New → mark_at marks i ≡ Open d → i ≢ place
open_other marks place i d n o = λ e. (let x : New ≡ Open d = sym n ∙ ap (mark_at marks) (sym e) ∙ o in cc)

pub walk_opens : (slots : List Slot) (w v : Walk) (place : ℕ) → Walking slots w → mark_at w.marks place ≡ New → place < length slots
    → ((k : ℕ) → k + 1 ≡ length w.path → Leads slots (frame_at w.path k) place) → Opens w v place → Walking slots v
walk_opens slots w v place z n h c o =
    let d = length w.path in
    let pl = ap length o.path ∙ length-append w.path (record { place = place; next = 0 } ∷ []) in
    let zm = z.marks in
    let e0 : get_or (levels w.marks) place 0 ≡ 0 = level_at w.marks place (omega arith) ∙ ap level_of n in
    let lv : levels v.marks ≡ levels w.marks = ap levels o.marks ∙ map-set level_of w.marks place (Open d) ∙ set_own (levels w.marks) place 0 (sym e0) in
    record {
      marks = ap length o.marks ∙ length-set w.marks place (Open d) ∙ z.marks;
      count = (let a = o.done in let b = ap empties lv in let y = z.count in omega arith);
      levelled = subst (Levelled slots (levels v.marks)) (sym o.done) (subst (λ ls. Levelled slots ls w.done) (sym lv) z.levelled);
      frames = λ k b. subst (λ x. FrameWell slots v.marks k (frame_at x k)) (sym o.path) (elim (snoc_place w.path (record { place = place; next = 0 }) k (omega arith)) [
        | inl x ↦
            let r = z.frames k x.0 in
            subst (FrameWell slots v.marks k) (sym x.1) (record {
              within = r.within;
              mark = ap (λ y. mark_at y (frame_at w.path k).place) o.marks
                  ∙ get_or-set_other w.marks place (frame_at w.path k).place (Open d) New (open_other w.marks place (frame_at w.path k).place k n r.mark) ∙ r.mark;
              few = r.few;
              done = λ j y. (let q = r.done j y in let e = ap (λ ls. get_or ls (get_or (refs (slot_at slots (frame_at w.path k).place)) j 0) 0) lv in omega arith);
            })
        | inr x ↦ subst (FrameWell slots v.marks k) (sym x.1) (record {
          within = h;
          mark = ap (λ y. mark_at y place) o.marks ∙ get_or-set_same w.marks place (Open d) New (omega arith) ∙ ap Open (sym x.0);
          few = omega arith;
          done = λ j y. absurd (omega arith);
        })
      ]);
      chain = λ k b. subst (λ x. Leads slots (frame_at x k) (frame_at x (k + 1)).place) (sym o.path)
          (let e = at_before w.path (record { place = place; next = 0 } ∷ []) k (record { place = 0; next = 0 }) (omega arith) in
          subst (λ x. Leads slots x (frame_at (w.path ++ record { place = place; next = 0 } ∷ []) (k + 1)).place) (sym e)
          (elim (snoc_place w.path (record { place = place; next = 0 }) (k + 1) (omega arith)) [
            | inl x ↦ subst (λ y. Leads slots (frame_at w.path k) y.place) (sym x.1) (z.chain k x.0)
            | inr x ↦ subst (λ y. Leads slots (frame_at w.path k) y.place) (sym x.1) (c k x.0)
          ]));
      on_path = λ i q a e. elim (same_or_not i place) [
        | inl y ↦
            let x : Open d ≡ Open q = sym (get_or-set_same w.marks place (Open d) New (omega arith)) ∙ ap (λ u. mark_at u place) (sym o.marks) ∙ ap (mark_at v.marks) (sym y) ∙ e in
            let u : d ≡ q = cc in (
              omega arith,
              ap (λ g. (frame_at g q).place) o.path ∙ ap (λ j. (frame_at (w.path ++ record { place = place; next = 0 } ∷ []) j).place) (sym u)
                  ∙ ap (λ g. g.place) (at_end w.path (record { place = place; next = 0 }) (record { place = 0; next = 0 })) ∙ sym y,
            )
        | inr y ↦
            let r = z.on_path i q a (sym (get_or-set_other w.marks place i (Open d) New y) ∙ ap (λ u. mark_at u i) (sym o.marks) ∙ e) in
            let b = r.0 in
            (omega arith, ap (λ g. (frame_at g q).place) o.path ∙ ap (λ g. g.place) (at_before w.path (record { place = place; next = 0 } ∷ []) q (record { place = 0; next = 0 }) b) ∙ r.1)
      ];
    }
  where
    set_own : (xs : List ℕ) (i a : ℕ) → a ≡ get_or xs i 0 → slice_set xs i a ≡ xs
    set_own [] i a e = refl
    set_own (x ∷ xs) zero a e = ap (λ y. y ∷ xs) e
    set_own (x ∷ xs) (suc i) a e = ap (λ ys. x ∷ ys) (set_own xs i a e)

-- ---- the beginning and the end
pub fresh_walks : (slots : List Slot) (w : Walk) → IsFresh (length slots) w → Walking slots w
fresh_walks slots w f = record {
  marks = f.marks;
  count = (let a = f.done in let b = f.empty in omega arith);
  levelled = record { each = λ i a h. absurd (let e = level_at w.marks i (let m = f.marks in omega arith) ∙ ap level_of (f.new i) in omega arith) };
  frames = λ k a. absurd (let e = ap length f.path in omega arith);
  chain = λ k a. absurd (let e = ap length f.path in omega arith);
  on_path = λ i d a e. absurd (let x : New ≡ Open d = sym (f.new i) ∙ e in cc);
}

seen_done : (m : Mark) → m ≢ New → ((d : ℕ) → m ≢ Open d) → 0 < level_of m
seen_done New a b = absurd (a refl)
seen_done (Open d) a b = absurd (b d refl)
seen_done (Done n) a b = omega arith

pub walk_settles : (slots : List Slot) (w : Walk) → Walking slots w → w.path ≡ [] → ((i : ℕ) → i < length slots → mark_at w.marks i ≢ New) → Settled slots
walk_settles slots w z p s = record {
  levels = levels w.marks;
  count = levels_length w.marks ∙ z.marks;
  above = record { each = λ i a h. (let q = z.levelled.each i a h in let b = q.0 in let c = z.count in (omega arith, q.1)) };
  all = λ i a. subst (λ n. 0 < n) (sym (level_at w.marks i (let m = z.marks in omega arith)))
      (seen_done (mark_at w.marks i) (s i a) (λ d e. (let o = (z.on_path i d a e).0 in let l = ap length p in omega arith)));
}

pub left_opens : (slots : List Slot) (w v : Walk) (place : ℕ) → length w.marks ≡ length slots → mark_at w.marks place ≡ New → place < length slots → Opens w v place → left slots v < left slots w
left_opens slots w v place m n h o =
    let x = new_set w.marks slots place (Open (length w.path)) (omega arith) h in
    let y = ap (λ k. left_of k (slot_at slots place)) n in
    let e = ap (λ ms. left_new ms slots) o.marks in
    let q = ap (left_open slots) o.path ∙ open_append slots w.path (record { place = place; next = 0 } ∷ []) in
    omega arith

pub keeps_set : (old now new : List Mark) (place : ℕ) (m : Mark) → place < length now → m ≢ New → new ≡ slice_set now place m → KeepsSeen old now → KeepsSeen old new
keeps_set old now new place m a n e k = λ i h q. elim (same_or_not i place) [
  | inl y ↦ n (sym (get_or-set_same now place m New a) ∙ ap (λ ms. mark_at ms place) (sym e) ∙ ap (mark_at new) (sym y) ∙ q)
  | inr y ↦ k i h (sym (get_or-set_other now place i m New y) ∙ ap (λ ms. mark_at ms i) (sym e) ∙ q)
]

one : (j k : ℕ) → k < 1 → get_or (j ∷ []) k 0 ≡ j
one j zero h = refl
one j (suc k) h = absurd (omega arith)

pub part_within : (slots : List Slot) (i k c : ℕ) → Well slots → i < length slots → slice_get (refs (slot_at slots i)) k ≡ Some c → c < length slots
part_within slots i k c w a g = part (slot_at slots i) (w.each i a) g
  where
    part : (s : Slot) → SlotWell (length slots) i s → slice_get (refs s) k ≡ Some c → c < length slots
    part Free h e = absurd (cc)
    part (Link j) h e = let q = got (j ∷ []) k c e in let b = q.0 in let r = sym q.1 ∙ one j k b in omega arith
    part (Plain x) h e = absurd (cc)
    part (Built x args) h e = let q = got args k c e in let b = h k q.0 in let r = q.1 in omega arith

pub last_leads : (slots : List Slot) (path rest : List Frame) (f : Frame) (child : ℕ) → path ≡ rest ++ f ∷ [] → Leads slots f child → (k : ℕ) → k + 1 ≡ length path → Leads slots (frame_at path k) child
last_leads slots path rest f child p l k e =
    let m = ap length p ∙ length-append rest (f ∷ []) in
    let q : k ≡ length rest = omega arith in
    subst (λ x. Leads slots x child) (sym (ap (λ x. frame_at x k) p ∙ ap (frame_at (rest ++ f ∷ [])) q ∙ at_end rest f (record { place = 0; next = 0 }))) l

-- ---- a cycle
pub walk_cycles : (slots : List Slot) (w : Walk) (rest : List Frame) (f : Frame) (child depth : ℕ) → Walking slots w → w.path ≡ rest ++ f ∷ [] → Leads slots f child
    → child < length slots → mark_at w.marks child ≡ Open depth → IsCycle slots w.path depth
walk_cycles slots w rest f child depth z p l h o =
    let q = z.on_path child depth h o in record {
      some = q.0;
      within = λ k b. (z.frames k b).within;
      chain = z.chain;
      last = λ k b. subst (Leads slots (frame_at w.path k)) (sym q.1) (last_leads slots w.path rest f child p l k b);
    }

pub new_more : (marks : List Mark) → ((i : ℕ) → mark_at marks i ≡ New) → (i : ℕ) → mark_at (marks ++ New ∷ []) i ≡ New
new_more [] h zero = refl
new_more [] h (suc i) = refl
new_more (m ∷ ms) h zero = h 0
new_more (m ∷ ms) h (suc i) = new_more ms (λ k. h (suc k)) i

pub empties_more : (marks : List Mark) → empties (levels (marks ++ New ∷ [])) ≡ empties (levels marks) + 1
empties_more [] = refl
empties_more (m ∷ ms) = let ih = empties_more ms in omega arith

-- ---- places that were seen are listed
pub notes_same : (marks : List Mark) (seen : List ℕ) → Notes marks marks seen seen
notes_same marks seen = record { size = refl; noted = λ n. n }

pub notes_trans : (a b c : List Mark) (xs ys zs : List ℕ) → Notes a b xs ys → Notes b c ys zs → Notes a c xs zs
notes_trans a b c xs ys zs p q = record { size = q.size ∙ p.size; noted = λ n. q.noted (p.noted n) }

pub notes_listed : (marks : List Mark) (seen more : List ℕ) (place : ℕ) → more ≡ seen ++ place ∷ [] → Notes marks marks seen more
notes_listed marks seen more place e = record {
  size = refl;
  noted = λ n i h. subst (λ xs. Contains xs i) (sym e) (Contains-append_left seen (place ∷ []) i (n i h));
}

-- a mark of a place that is listed
noted_set : (marks : List Mark) (seen : List ℕ) (place : ℕ) (m : Mark) → Contains seen place → Noted marks seen → Noted (slice_set marks place m) seen
noted_set marks seen place m c n = λ i h. elim (same_or_not i place) [
  | inl e ↦ subst (Contains seen) (sym e) c
  | inr o ↦ n i (λ k. h (get_or-set_other marks place i m New o ∙ k))
]

pub notes_set : (marks new : List Mark) (seen : List ℕ) (place : ℕ) (m : Mark) → mark_at marks place ≢ New → new ≡ slice_set marks place m → Notes marks new seen seen
notes_set marks new seen place m h e = subst (λ ms. Notes marks ms seen seen) (sym e)
    (record { size = length-set marks place m; noted = λ n. noted_set marks seen place m (n place h) n })

pub notes_opened : (marks new : List Mark) (seen more : List ℕ) (place : ℕ) (m : Mark) → more ≡ seen ++ place ∷ [] → new ≡ slice_set marks place m → Notes marks new seen more
notes_opened marks new seen more place m e k = subst (λ ms. Notes marks ms seen more) (sym k) (subst (λ xs. Notes marks (slice_set marks place m) seen xs) (sym e)
    (record {
      size = length-set marks place m;
      noted = λ n. noted_set marks (seen ++ place ∷ []) place m (Contains-append_right seen (place ∷ []) place (0, omega arith, refl))
          (λ i h. Contains-append_left seen (place ∷ []) i (n i h));
    }))
