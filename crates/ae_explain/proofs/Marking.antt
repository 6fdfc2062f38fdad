-- What a step of the analysis does to the marks.
use Rattle.std.proofs.Common.{◌≡◌, ◌≢◌, ℕ, ◌+◌, ◌<◌, ◌≤◌, ◌==◌, ◌&&◌, true, false, List, length, refl, sym, ap, ◌∙◌, subst, arith, true≢false, ◌⊎◌, inl, inr, Option, Some, None}
use Rattle.std.proofs.lemmas.Bool.{cases_eq, cases_lt, cases_Bool, and_from, and_parts, and_left, and_right}
use Rattle.std.proofs.lemmas.Bool.Decides.{nat_tests}
use Rattle.std.proofs.lemmas.Option.{same_Some, none-some}
use Rattle.std.proofs.lemmas.List.{get_or-set_same, get_or-set_other}
use Rattle.std.specs.Prelude.{slice_set}
use Rattle.ae_core.specs.Decided.{Lit_discrete}
use Rattle.ae_rules.specs.Clauses.{Clause}
use Rattle.ae_core.specs.declared.formulas.Lit.{Lit}
use Rattle.ae_explain.specs.declared.trail.Assigned.{Assigned}
use Rattle.ae_explain.specs.declared.marks.Mark.{Mark}
use Rattle.ae_explain.specs.declared.marks.Mark.TheVariants.{Blank, Kept, Resolved}
use Rattle.ae_explain.specs.Trail.{at, place_in, clause, IsLawful, IsReason, Enters, AreFalse}
use Rattle.ae_explain.specs.Levels.{greatest_of}
use Rattle.ae_explain.specs.Inner.Marks.{mark, is_marked, is_kept, is_resolved, marked, kept, resolved, is_kept_at, kept_at, IsMarked, Closes, Resolves, State, KeepsClause}
use Rattle.ae_explain.proofs.Counts.{count_same, count_more, short, count_none, count_some, count_positive, count_other}
use Rattle.ae_base.proofs.Tests.{not_both}
use Rattle.ae_explain.proofs.Places.{there, found, level_there, greatest_above, greatest_reached, rises, has_reason}

-- ---- marks
pub kept_is_marked : (m : Mark) → is_kept m ≡ true → is_marked m ≡ true
kept_is_marked Blank h = h
kept_is_marked Kept h = refl
kept_is_marked Resolved h = refl

pub resolved_is_marked : (m : Mark) → is_resolved m ≡ true → is_marked m ≡ true
resolved_is_marked Blank h = h
resolved_is_marked Kept h = refl
resolved_is_marked Resolved h = refl

pub kept_not_resolved : (m : Mark) → is_kept m ≡ true → is_resolved m ≡ false
kept_not_resolved Blank h = refl
kept_not_resolved Kept h = refl
kept_not_resolved Resolved h = absurd (true≢false (sym h))

pub resolved_not_kept : (m : Mark) → is_resolved m ≡ true → is_kept m ≡ false
resolved_not_kept Blank h = refl
resolved_not_kept Kept h = absurd (true≢false (sym h))
resolved_not_kept Resolved h = refl

pub unmarked_not_kept : (m : Mark) → is_marked m ≡ false → is_kept m ≡ false
unmarked_not_kept Blank h = refl
unmarked_not_kept Kept h = absurd (true≢false h)
unmarked_not_kept Resolved h = absurd (true≢false h)

pub unmarked_not_resolved : (m : Mark) → is_marked m ≡ false → is_resolved m ≡ false
unmarked_not_resolved Blank h = refl
unmarked_not_resolved Kept h = absurd (true≢false h)
unmarked_not_resolved Resolved h = absurd (true≢false h)

pub is_it : (m : Mark) → is_kept m ≡ true → m ≡ Kept
is_it Blank h = absurd (true≢false (sym h))
is_it Kept h = refl
is_it Resolved h = absurd (true≢false (sym h))

pub kept_or_resolved : (m : Mark) → is_marked m ≡ true → (is_kept m ≡ true) ⊎ (is_resolved m ≡ true)
kept_or_resolved Blank h = absurd (true≢false (sym h))
kept_or_resolved Kept h = inl refl
kept_or_resolved Resolved h = inr refl

-- ---- kept at a level
same_numbers : (a b : ℕ) → (a ≡ b → ⊥) → (a == b) ≡ false
same_numbers a b n = grind (arith, nat_tests)

pub equal_numbers : (a b : ℕ) → a ≡ b → (a == b) ≡ true
equal_numbers a b e = grind (arith, nat_tests)

pub numbers_equal : (a b : ℕ) → (a == b) ≡ true → a ≡ b
numbers_equal a b h = grind (arith, nat_tests)

pub at_level : (t : List Assigned) (marks : List Mark) (level p : ℕ) → kept marks p ≡ true → (at t p).level ≡ level → is_kept_at t marks level p ≡ true
at_level t marks level p k e = and_from (kept marks p) ((at t p).level == level) k (equal_numbers (at t p).level level e)

pub at_level_then : (t : List Assigned) (marks : List Mark) (level p : ℕ) → is_kept_at t marks level p ≡ true → (kept marks p ≡ true) × ((at t p).level ≡ level)
at_level_then t marks level p h =
    let both = and_parts (kept marks p) ((at t p).level == level) h in
    (both.0, numbers_equal (at t p).level level both.1)

pub other_level : (t : List Assigned) (marks : List Mark) (level p : ℕ) → ((at t p).level ≡ level → ⊥) → is_kept_at t marks level p ≡ false
other_level t marks level p n = and_right (kept marks p) ((at t p).level == level) (same_numbers (at t p).level level n)

pub not_kept_at : (t : List Assigned) (marks : List Mark) (level p : ℕ) → kept marks p ≡ false → is_kept_at t marks level p ≡ false
not_kept_at t marks level p n = and_left (kept marks p) ((at t p).level == level) n

pub same_at : (t : List Assigned) (old new : List Mark) (level p : ℕ) → mark new p ≡ mark old p → is_kept_at t new level p ≡ is_kept_at t old level p
same_at t old new level p e = ap (λ m. is_kept m && ((at t p).level == level)) e

-- ---- marks that grow
wider : (t : List Assigned) (old new : List Mark) (n : ℕ) (m : Lit) → ((p : ℕ) → marked old p ≡ true → marked new p ≡ true) → IsMarked t old n m → IsMarked t new n m
wider t old new n m g h = (h.0, h.1, h.2, g h.0 h.3)

closes_wider : (t : List Assigned) (clauses : List Clause) (old new : List Mark) (p : ℕ) → ((p : ℕ) → marked old p ≡ true → marked new p ≡ true) → Closes t clauses old p → Closes t clauses new p
closes_wider t clauses old new p g h = record { number = h.number; is = h.is; within = h.within; has = h.has; others = λ m k d. wider t old new p m g (h.others m k d) }

resolves_grows : (t : List Assigned) (clauses : List Clause) (old new : List Mark) (j : ℕ) → Resolves t clauses old new j → (p : ℕ) → marked old p ≡ true → marked new p ≡ true
resolves_grows t clauses old new j r p h = elim (cases_eq p j) as (λ _. marked new p ≡ true) [
  | inl e ↦ subst (λ (w : ℕ). marked new w ≡ true) (sym e) (resolved_is_marked (mark new j) r.itself)
  | inr d ↦ ap is_marked (r.grows p d h) ∙ h
]

-- ---- a place that is left as it is
pub left : (t : List Assigned) (clauses : List Clause) (marks : List Mark) (level j n : ℕ) → State t clauses marks level (j + 1) n
    → (kept marks j ≡ true → ((at t j).level ≡ 0 → ⊥) × ((at t j).level ≡ level → 1 < n → ⊥)) → j < length t → State t clauses marks level j n
left t clauses marks level j n s stays l = record {
  len = s.len;
  counted = s.counted;
  some = s.some;
  levels = s.levels;
  unresolved = λ p lt. s.unresolved p (omega (arith, lt));
  closed = λ p ge lt r. elim (cases_eq p j) as (λ _. Closes t clauses marks p) [
    | inl e ↦ absurd (not_both (resolved marks j) (subst (λ (w : ℕ). resolved marks w ≡ true) e r) (s.unresolved j (omega arith)))
    | inr d ↦ s.closed p (omega (arith, ge, d)) lt r
  ];
  ground = λ p ge lt k. elim (cases_eq p j) as (λ _. (at t p).level ≢ 0) [
    | inl e ↦ λ z. (stays (subst (λ (w : ℕ). kept marks w ≡ true) e k)).0 (subst (λ (w : ℕ). (at t w).level ≡ 0) e z)
    | inr d ↦ s.ground p (omega (arith, ge, d)) lt k
  ];
  last = λ p ge lt k v. elim (cases_eq p j) as (λ _. n ≡ 1) [
    | inl e ↦
        let kj : kept marks j ≡ true = subst (λ (w : ℕ). kept marks w ≡ true) e k in
        let vj : (at t j).level ≡ level = subst (λ (w : ℕ). (at t w).level ≡ level) e v in
        let pos : 0 < kept_at t marks level = count_positive (is_kept_at t marks level) (length t) j l (at_level t marks level j kj vj) in
        elim (cases_lt 1 n) as (λ _. n ≡ 1) [
          | inl more ↦ absurd ((stays kj).1 vj more)
          | inr few ↦ omega (arith, pos, few, s.counted)
        ]
    | inr d ↦ s.last p (omega (arith, ge, d)) lt k v
  ];
}

-- ---- a place that gives way
module _ (t : List Assigned) (clauses : List Clause) (lawful : IsLawful t clauses) (marks : List Mark) (level j n : ℕ) (s : State t clauses marks level (j + 1) n) (l : j < length t)
    (kj : kept marks j ≡ true) where
  -- another kept one of the level stands before it
  another : (at t j).level ≡ level → 1 < n → (q : ℕ) × (q < j) × (kept marks q ≡ true) × ((at t q).level ≡ level)
  another v more =
      let r = count_other (is_kept_at t marks level) (length t) j l (at_level t marks level j kj v) (omega (arith, more, s.counted)) in
      let k = at_level_then t marks level r.0 r.3 in
      elim (cases_lt r.0 j) as (λ _. (q : ℕ) × (q < j) × (kept marks q ≡ true) × ((at t q).level ≡ level)) [
        | inl lt ↦ (r.0, lt, k.0, k.1)
        | inr ge ↦ absurd (let one : n ≡ 1 = s.last r.0 (omega (arith, ge, r.2)) r.1 k.0 k.1 in omega (arith, one, more))
      ]

  pub reason_there : ((at t j).level ≡ 0) ⊎ (((at t j).level ≡ level) × (1 < n)) → (at t j).by ≢ None
  reason_there h = elim h as (λ _. (at t j).by ≢ None) [
    | inl z ↦ has_reason t clauses lawful j 0 l (inl z)
    | inr r ↦ let a = another r.0 r.1 in has_reason t clauses lawful j a.0 l (inr (a.1, a.3 ∙ sym r.0))
  ]

  module _ (new : List Mark) (r : Resolves t clauses marks new j) (same_length : length new ≡ length t) (m : ℕ) (counted : m ≡ kept_at t new level)
      (why : ((at t j).level ≡ 0) ⊎ (((at t j).level ≡ level) × (1 < n))) where
    grows : (p : ℕ) → marked marks p ≡ true → marked new p ≡ true
    grows = resolves_grows t clauses marks new j r

    -- what is kept behind it was kept before
    kept_before : (p : ℕ) → j ≤ p → kept new p ≡ true → (j < p) × (mark new p ≡ mark marks p)
    kept_before p ge k = elim (cases_eq p j) as (λ _. (j < p) × (mark new p ≡ mark marks p)) [
      | inl e ↦ absurd (not_both (kept new j) (subst (λ (w : ℕ). kept new w ≡ true) e k) (resolved_not_kept (mark new j) r.itself))
      | inr d ↦ elim (cases_Bool (marked marks p)) as (λ _. (j < p) × (mark new p ≡ mark marks p)) [
        | inl y ↦ (omega (arith, ge, d), r.grows p d y)
        | inr o ↦ absurd (let f = r.fresh p d o (kept_is_marked (mark new p) k) in omega (arith, f.1, ge))
      ]
    ]

    still_kept : (q : ℕ) → q ≢ j → kept marks q ≡ true → kept new q ≡ true
    still_kept q d k = ap is_kept (r.grows q d (kept_is_marked (mark marks q) k)) ∙ k

    some_left : level ≢ 0 → 0 < m
    some_left nz =
        let go : (q : ℕ) → q < length t → q ≢ j → kept marks q ≡ true → (at t q).level ≡ level → 0 < m =
        λ q lt d k v. omega (arith, counted, count_positive (is_kept_at t new level) (length t) q lt (at_level t new level q (still_kept q d k) v)) in
        elim why as (λ _. 0 < m) [
          | inl z ↦
              let p = count_some (is_kept_at t marks level) (length t) (omega (arith, s.some nz, s.counted)) in
              let k = at_level_then t marks level p.0 p.2 in
              go p.0 p.1 (λ e. nz (sym k.1 ∙ ap (λ (w : ℕ). (at t w).level) e ∙ z)) k.0 k.1
          | inr h ↦ let a = another h.0 h.1 in go a.0 (omega (arith, a.1, l)) (omega (arith, a.1)) a.2 a.3
        ]

    low : (p : ℕ) → p < j → (at t p).level ≤ (at t j).level
    low p lt = rises t clauses lawful p j (omega (arith, lt)) l

    -- below the greatest level the count stays
    same_count : (at t j).level ≡ 0 → level ≢ 0 → m ≡ n
    same_count z nz =
        let each : (p : ℕ) → p < length t → is_kept_at t new level p ≡ is_kept_at t marks level p = λ p lt.
        elim (cases_eq p j) as (λ _. is_kept_at t new level p ≡ is_kept_at t marks level p) [
          | inl e ↦
              let d : (at t p).level ≡ level → ⊥ = λ v. nz (sym v ∙ ap (λ (w : ℕ). (at t w).level) e ∙ z) in
              other_level t new level p d ∙ sym (other_level t marks level p d)
          | inr d ↦ elim (cases_Bool (marked marks p)) as (λ _. is_kept_at t new level p ≡ is_kept_at t marks level p) [
            | inl y ↦ same_at t marks new level p (r.grows p d y)
            | inr o ↦ elim (cases_Bool (marked new p)) as (λ _. is_kept_at t new level p ≡ is_kept_at t marks level p) [
              | inl x ↦
                  let f = r.fresh p d o x in
                  let v : (at t p).level ≡ level → ⊥ = λ v. nz (omega (arith, v, z, low p f.1)) in
                  other_level t new level p v ∙ sym (other_level t marks level p v)
              | inr x ↦ not_kept_at t new level p (unmarked_not_kept (mark new p) x) ∙ sym (not_kept_at t marks level p (unmarked_not_kept (mark marks p) o))
            ]
          ]
        ] in
        counted ∙ (count_same (is_kept_at t new level) (is_kept_at t marks level) (length t) each ∙ sym s.counted)

    pub gave_way : State t clauses new level j m
    gave_way = record {
      len = same_length;
      counted = counted;
      some = some_left;
      levels = λ p lt k. elim (cases_eq p j) as (λ _. (at t p).level ≤ level) [
        | inl e ↦ s.levels p lt (subst (λ (w : ℕ). marked marks w ≡ true) (sym e) (kept_is_marked (mark marks j) kj))
        | inr d ↦ elim (cases_Bool (marked marks p)) as (λ _. (at t p).level ≤ level) [
          | inl y ↦ s.levels p lt y
          | inr o ↦ let f = r.fresh p d o k in omega (arith, low p f.1, s.levels j l (kept_is_marked (mark marks j) kj))
        ]
      ];
      unresolved = λ p lt. elim (cases_Bool (marked marks p)) as (λ _. resolved new p ≡ false) [
        | inl y ↦ ap is_resolved (r.grows p (omega (arith, lt)) y) ∙ s.unresolved p (omega (arith, lt))
        | inr o ↦ elim (cases_Bool (marked new p)) as (λ _. resolved new p ≡ false) [
          | inl x ↦ kept_not_resolved (mark new p) (r.fresh p (omega (arith, lt)) o x).0
          | inr x ↦ unmarked_not_resolved (mark new p) x
        ]
      ];
      closed = λ p ge lt k. elim (cases_eq p j) as (λ _. Closes t clauses new p) [
        | inl e ↦ subst (λ (w : ℕ). Closes t clauses new w) (sym e) r.closes
        | inr d ↦ elim (cases_Bool (marked marks p)) as (λ _. Closes t clauses new p) [
          | inl y ↦ closes_wider t clauses marks new p grows (s.closed p (omega (arith, ge, d)) lt (sym (ap is_resolved (r.grows p d y)) ∙ k))
          | inr o ↦ absurd (let f = r.fresh p d o (resolved_is_marked (mark new p) k) in omega (arith, f.1, ge))
        ]
      ];
      ground = λ p ge lt k. let b = kept_before p ge k in s.ground p (omega (arith, b.0)) lt (sym (ap is_kept b.1) ∙ k);
      last = λ p ge lt k v.
          let b = kept_before p ge k in
          let old : kept marks p ≡ true = sym (ap is_kept b.1) ∙ k in
          let one : n ≡ 1 = s.last p (omega (arith, b.0)) lt old v in
          elim why as (λ _. m ≡ 1) [
            | inl z ↦ elim (cases_eq level 0) as (λ _. m ≡ 1) [
              | inl g ↦ absurd (s.ground p (omega (arith, b.0)) lt old (v ∙ g))
              | inr nz ↦ same_count z nz ∙ one
            ]
            | inr h ↦ absurd (omega (arith, one, h.1))
          ];
    }

-- ---- the start: what a false clause keeps, where nothing was marked
pub start : (t : List Assigned) (clauses : List Clause) → IsLawful t clauses → (c : Clause) → AreFalse t c → (old new : List Mark) → ((p : ℕ) → marked old p ≡ false)
    → KeepsClause t old new c → length new ≡ length t → (n : ℕ) → n ≡ kept_at t new (greatest_of t c) → State t clauses new (greatest_of t c) (length t) n
start t clauses lawful c false_ones old new blank k same n counted = record {
  len = same;
  counted = counted;
  some = λ nz. elim (greatest_reached t c) as (λ _. 0 < n) [
    | inl z ↦ absurd (nz z)
    | inr r ↦
        let f = false_ones r.0 r.1 in
        let p : place_in t r.0.formula ≡ Some f.0 = there t f.0 r.0.formula lawful.apart f.1 (ap (λ (x : Lit). x.formula) f.2) in
        let v : (at t f.0).level ≡ greatest_of t c = sym (level_there t f.0 r.0 lawful.apart f.1 (ap (λ (x : Lit). x.formula) f.2)) ∙ r.2 in
        omega (arith, counted, count_positive (is_kept_at t new (greatest_of t c)) (length t) f.0 f.1 (at_level t new (greatest_of t c) f.0 (k.fresh f.0 (blank f.0) (k.all r.0 r.1 f.0 p)).0 v))
  ];
  levels = λ p lt h.
      let f = (k.fresh p (blank p) h).1 in
      let g = found t f.0.formula p f.2 in
      omega (arith, level_there t p f.0 lawful.apart lt g.1, greatest_above t c f.0 f.1);
  unresolved = λ p lt. elim (cases_Bool (marked new p)) as (λ _. resolved new p ≡ false) [
    | inl x ↦ kept_not_resolved (mark new p) (k.fresh p (blank p) x).0
    | inr x ↦ unmarked_not_resolved (mark new p) x
  ];
  closed = λ p ge lt h. absurd (omega (arith, ge, lt));
  ground = λ p ge lt h. absurd (omega (arith, ge, lt));
  last = λ p ge lt h v. absurd (omega (arith, ge, lt));
}

-- ---- one mark that is set
mark_set : (marks : List Mark) (p : ℕ) (m : Mark) → p < length marks → mark (slice_set marks p m) p ≡ m
mark_set marks p m l = get_or-set_same marks p m Blank l

mark_other : (marks : List Mark) (p k : ℕ) (m : Mark) → k ≢ p → mark (slice_set marks p m) k ≡ mark marks k
mark_other marks p k m d = get_or-set_other marks p k m Blank d

module _ (t : List Assigned) (marks : List Mark) (level p : ℕ) (l : p < length t) (same : length marks ≡ length t) where
  others_same : (m : Mark) (k : ℕ) → k ≢ p → is_kept_at t (slice_set marks p m) level k ≡ is_kept_at t marks level k
  others_same m k d = same_at t marks (slice_set marks p m) level k (mark_other marks p k m d)

  pub one_kept_more : marked marks p ≡ false → (at t p).level ≡ level → kept_at t (slice_set marks p Kept) level ≡ kept_at t marks level + 1
  one_kept_more u v =
      count_more (is_kept_at t marks level) (is_kept_at t (slice_set marks p Kept) level) p (length t) l (not_kept_at t marks level p (unmarked_not_kept (mark marks p) u))
      (at_level t (slice_set marks p Kept) level p (ap is_kept (mark_set marks p Kept (omega (arith, l, same)))) v) (λ k m d. sym (others_same Kept k d))

  pub one_kept_less : kept marks p ≡ true → (at t p).level ≡ level → kept_at t marks level ≡ kept_at t (slice_set marks p Resolved) level + 1
  one_kept_less k v =
      count_more (is_kept_at t (slice_set marks p Resolved) level) (is_kept_at t marks level) p (length t) l
      (not_kept_at t (slice_set marks p Resolved) level p (ap is_kept (mark_set marks p Resolved (omega (arith, l, same))))) (at_level t marks level p k v) (λ j m d. others_same Resolved j d)

  pub none_changed : (m : Mark) → ((at t p).level ≡ level → ⊥) → kept_at t (slice_set marks p m) level ≡ kept_at t marks level
  none_changed m n =
      count_same (is_kept_at t (slice_set marks p m) level) (is_kept_at t marks level) (length t)
      (λ k w. elim (cases_eq k p) as (λ _. is_kept_at t (slice_set marks p m) level k ≡ is_kept_at t marks level k) [
        | inl e ↦
            let o : (at t k).level ≡ level → ⊥ = λ v. n (ap (λ (j : ℕ). (at t j).level) (sym e) ∙ v) in
            other_level t (slice_set marks p m) level k o ∙ sym (other_level t marks level k o)
        | inr d ↦ others_same m k d
      ])

  pub room_left : marked marks p ≡ false → kept_at t marks level < length t
  room_left u = short (is_kept_at t marks level) (length t) p l (not_kept_at t marks level p (unmarked_not_kept (mark marks p) u))

-- ---- what resolving a place does
pub resolves : (t : List Assigned) (clauses : List Clause) → IsLawful t clauses → (old between new : List Mark) (place number : ℕ) → place < length t → length old ≡ length t
    → between ≡ slice_set old place Resolved → kept old place ≡ true → (at t place).by ≡ Some number → KeepsClause t between new (clause clauses number) → Resolves t clauses old new place
resolves t clauses lawful old between new place number l same b k by keeps =
    let r : IsReason t clauses place number = reason_of (at t place).by by (lawful.enters place l) in
    let here : mark between place ≡ Resolved = ap (λ (w : List Mark). mark w place) b ∙ mark_set old place Resolved (omega (arith, l, same)) in
    let there_too : (p : ℕ) → p ≢ place → mark between p ≡ mark old p = λ p d. ap (λ (w : List Mark). mark w p) b ∙ mark_other old place p Resolved d in
    record {
      itself = ap is_resolved (keeps.grows place (ap is_marked here) ∙ here);
      grows = λ p d h. keeps.grows p (ap is_marked (there_too p d) ∙ h) ∙ there_too p d;
      fresh = λ p d u h.
          let f = keeps.fresh p (ap is_marked (there_too p d) ∙ u) h in (
            f.0,
            let q = f.1 in
                elim (Lit_discrete q.0 (at t place).lit) as (λ _. p < place) [
                  | yes e ↦ absurd (d (same_Some p place (sym q.2 ∙ there t place q.0.formula lawful.apart l (sym (ap (λ (x : Lit). x.formula) e)))))
                  | no n ↦
                      let o = r.others q.0 q.1 n in
                      let z : p ≡ o.0 = same_Some p o.0 (sym q.2 ∙ there t o.0 q.0.formula lawful.apart (omega (arith, o.1, l)) (ap (λ (x : Lit). x.formula) o.2)) in
                      omega (arith, z, o.1)
                ],
          );
      closes = record {
        number = number;
        is = by;
        within = r.within;
        has = r.has;
        others = λ m h n.
            let o = r.others m h n in
            (o.0, o.1, o.2, keeps.all m h o.0 (there t o.0 m.formula lawful.apart (omega (arith, o.1, l)) (ap (λ (x : Lit). x.formula) o.2)));
      };
    }
  where
    reason_of : (by : Option ℕ) → by ≡ Some number → Enters t clauses place by → IsReason t clauses place number
    reason_of None e h = absurd (none-some number e)
    reason_of (Some k) e h = subst (IsReason t clauses place) (same_Some k number e) h.1

pub nothing_kept : (t : List Assigned) (marks : List Mark) (level : ℕ) → ((p : ℕ) → marked marks p ≡ false) → kept_at t marks level ≡ 0
nothing_kept t marks level h = count_none (is_kept_at t marks level) (length t) (λ p l. not_kept_at t marks level p (unmarked_not_kept (mark marks p) (h p)))

-- why a kept place gives way
abbrev pub Why : List Assigned → ℕ → ℕ → ℕ → Type 0
Why t level p n = ((at t p).level ≡ 0) ⊎ (((at t p).level ≡ level) × (1 < n))

pub why_given : (t : List Assigned) (level p n its : ℕ) → its ≡ (at t p).level → (its ≡ 0) ⊎ ((its ≡ level) × (1 < n)) → Why t level p n
why_given t level p n its e h = subst (λ (w : ℕ). (w ≡ 0) ⊎ ((w ≡ level) × (1 < n))) e h
