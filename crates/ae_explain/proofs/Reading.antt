-- What is read off the marks: the clause and its levels, and the hints.
use Rattle.std.proofs.Common.{◌≡◌, ℕ, zero, suc, ◌+◌, ◌-◌, ◌<◌, ◌≤◌, ◌==◌, ◌++◌, true, false, cond, List, [], ◌∷◌, length, map, refl, sym, ap, ◌∙◌, subst, arith, inl, inr, if◌then◌else◌, append_assoc, append-nil}
use Rattle.std.specs.Prelude.{count_by}
use Rattle.std.specs.List.{Contains}
use Rattle.std.proofs.lemmas.Bool.{cases_Bool}
use Rattle.std.proofs.lemmas.List.Sums.{sum_by-cons}
use Rattle.ae_rules.specs.Clauses.{Clause, opposite}
use Rattle.ae_core.specs.declared.formulas.Lit.{Lit}
use Rattle.ae_explain.specs.declared.trail.Assigned.{Assigned}
use Rattle.ae_explain.specs.declared.marks.Mark.{Mark}
use Rattle.ae_explain.specs.Trail.{Apart, at, IsFalse}
use Rattle.ae_explain.specs.Levels.{level_of}
use Rattle.ae_explain.specs.Inner.Marks.{mark, kept, resolved, count, is_kept_at, lits_below, hints_from, reasons, State}
use Rattle.ae_explain.proofs.Counts.{step_no, count_some}
use Rattle.ae_explain.proofs.Places.{level_there}
use Rattle.ae_explain.proofs.Marking.{not_kept_at, at_level_then, kept_is_marked}
use Rattle.ae_rules.proofs.Standing.{opposite_twice}

pub lits_yes : (t : List Assigned) (marks : List Mark) (n : ℕ) → kept marks n ≡ true → lits_below t marks (suc n) ≡ (at t n).lit ∷ lits_below t marks n
unfolding lits_below
lits_yes t marks n h = rw h refl

pub lits_no : (t : List Assigned) (marks : List Mark) (n : ℕ) → kept marks n ≡ false → lits_below t marks (suc n) ≡ lits_below t marks n
unfolding lits_below
lits_no t marks n h = rw h refl

-- ---- the clause, read from the end of the trail on
pub clause_yes : (t : List Assigned) (marks : List Mark) (items rest : List Lit) (n j : ℕ) → n ≡ suc j → kept marks j ≡ true
    → items ++ map opposite (lits_below t marks n) ≡ rest → (items ++ opposite (at t j).lit ∷ []) ++ map opposite (lits_below t marks j) ≡ rest
clause_yes t marks items rest n j e h p = rw append_assoc (sym (ap (λ (w : List Lit). items ++ map opposite w) (ap (lits_below t marks) e ∙ lits_yes t marks j h)) ∙ p)

pub clause_no : (t : List Assigned) (marks : List Mark) (items rest : List Lit) (n j : ℕ) → n ≡ suc j → kept marks j ≡ false
    → items ++ map opposite (lits_below t marks n) ≡ rest → items ++ map opposite (lits_below t marks j) ≡ rest
clause_no t marks items rest n j e h p = sym (ap (λ (w : List Lit). items ++ map opposite w) (ap (lits_below t marks) e ∙ lits_no t marks j h)) ∙ p

pub clause_done : (t : List Assigned) (marks : List Mark) (items rest : List Lit) (n : ℕ) → n ≡ 0 → items ++ map opposite (lits_below t marks n) ≡ rest → items ≡ rest
unfolding lits_below
clause_done t marks items rest n e p = sym (append-nil items) ∙ (sym (ap (λ (w : ℕ). items ++ map opposite (lits_below t marks w)) e) ∙ p)

-- ---- the hints, read from the start of the trail on
pub hints_more : (t : List Assigned) (marks : List Mark) (last : ℕ) (items new rest : List ℕ) (n q : ℕ) → q < n
    → new ≡ items ++ (if resolved marks q then reasons (at t q).by else [])
    → items ++ hints_from t marks last q (n - q) ≡ rest → new ++ hints_from t marks last (q + 1) (n - (q + 1)) ≡ rest
unfolding hints_from
hints_more t marks last items new rest n q h e p =
    let k : n - q ≡ suc (n - suc q) = omega (arith, h) in
    let r : items ++ hints_from t marks last q (suc (n - suc q)) ≡ rest = subst (λ (w : ℕ). items ++ hints_from t marks last q w ≡ rest) k p in
    let s : suc q ≡ q + 1 = omega arith in
    subst (λ (w : ℕ). new ++ hints_from t marks last w (n - w) ≡ rest) s
    (rw (e, append_assoc) r)

pub hints_done : (t : List Assigned) (marks : List Mark) (last : ℕ) (items rest : List ℕ) (n q : ℕ) → n ≤ q
    → items ++ hints_from t marks last q (n - q) ≡ rest → items ++ last ∷ [] ≡ rest
unfolding hints_from
hints_done t marks last items rest n q h p = let k : n - q ≡ 0 = omega (arith, h) in subst (λ (w : ℕ). items ++ hints_from t marks last q w ≡ rest) k p

-- ---- the clause's literals
-- each stands, turned, at a kept place
abbrev IsOfKept : List Assigned → List Mark → ℕ → Lit → Type 0
IsOfKept t marks n m = (p : ℕ) × (p < n) × (kept marks p ≡ true) × (m ≡ opposite (at t p).lit)

of_earlier : (t : List Assigned) (marks : List Mark) (n : ℕ) (m : Lit) → IsOfKept t marks n m → IsOfKept t marks (suc n) m
of_earlier t marks n m r = (r.0, omega (arith, r.1), r.2, r.3)

of_first : (t : List Assigned) (marks : List Mark) (n : ℕ) (m : Lit) → kept marks n ≡ true → (Contains (map opposite (lits_below t marks n)) m → IsOfKept t marks n m)
    → Contains (opposite (at t n).lit ∷ map opposite (lits_below t marks n)) m → IsOfKept t marks (suc n) m
of_first t marks n m y later (zero, l, e) = (n, omega arith, y, sym e)
of_first t marks n m y later (suc k, l, e) = of_earlier t marks n m (later (k, omega (arith, l), e))

pub kept_place : (t : List Assigned) (marks : List Mark) (n : ℕ) (m : Lit) → Contains (map opposite (lits_below t marks n)) m → (p : ℕ) × (p < n) × (kept marks p ≡ true) × (m ≡ opposite (at t p).lit)
unfolding lits_below
kept_place t marks zero m h = absurd (omega (arith, h.1))
kept_place t marks (suc n) m h = elim (cases_Bool (kept marks n)) as (λ _. IsOfKept t marks (suc n) m) [
  | inl y ↦ of_first t marks n m y (kept_place t marks n m) (subst (λ (w : List Lit). Contains (map opposite w) m) (lits_yes t marks n y) h)
  | inr o ↦ of_earlier t marks n m (kept_place t marks n m (subst (λ (w : List Lit). Contains (map opposite w) m) (lits_no t marks n o) h))
]

pub is_false : (t : List Assigned) (marks : List Mark) (n : ℕ) → n ≤ length t → (m : Lit) → Contains (map opposite (lits_below t marks n)) m → IsFalse t m
is_false t marks n l m h =
    let r = kept_place t marks n m h in
    (r.0, omega (arith, r.1, l), sym (opposite_twice (at t r.0).lit) ∙ ap opposite (sym r.3))

-- how many of them have the level
pub count_is : (t : List Assigned) (marks : List Mark) (level n : ℕ) → Apart t → n ≤ length t → count_by (λ m. level_of t m == level) (map opposite (lits_below t marks n)) ≡ count (is_kept_at t marks level) n
unfolding lits_below count
count_is t marks level zero a l = refl
count_is t marks level (suc n) a l =
    let ih : count_by (λ m. level_of t m == level) (map opposite (lits_below t marks n)) ≡ count (is_kept_at t marks level) n = count_is t marks level n a (omega (arith, l)) in
    elim (cases_Bool (kept marks n)) as (λ _. count_by (λ m. level_of t m == level) (map opposite (lits_below t marks (suc n))) ≡ count (is_kept_at t marks level) (suc n)) [
      | inl y ↦
          let v : level_of t (opposite (at t n).lit) ≡ (at t n).level = level_there t n (opposite (at t n).lit) a (omega (arith, l)) refl in
          let s = sum_by-cons (λ m. cond (level_of t m == level) 1 0) (opposite (at t n).lit) (map opposite (lits_below t marks n)) in
          rw (lits_yes t marks n y) (s ∙ rw (v, ih, y) refl)
      | inr f ↦ rw (lits_no t marks n f) (ih ∙ sym (step_no (is_kept_at t marks level) n (not_kept_at t marks level n f)))
    ]

-- nothing is kept below n
none_kept : (t : List Assigned) (marks : List Mark) (n : ℕ) → ((p : ℕ) → p < n → kept marks p ≡ true → ⊥) → lits_below t marks n ≡ []
unfolding lits_below
none_kept t marks zero h = refl
none_kept t marks (suc n) h = elim (cases_Bool (kept marks n)) as (λ _. lits_below t marks (suc n) ≡ []) [
  | inl y ↦ absurd (h n (omega arith) y)
  | inr f ↦ lits_no t marks n f ∙ none_kept t marks n (λ p l k. h p (omega (arith, l)) k)
]

-- ---- at the end of the analysis
module _ (t : List Assigned) (clauses : List Clause) (marks : List Mark) (level n : ℕ) (s : State t clauses marks level 0 n) where
  pub empty_at_0 : level ≡ 0 → lits_below t marks (length t) ≡ []
  empty_at_0 z = none_kept t marks (length t) (λ p l k. s.ground p (omega arith) l k (let low : (at t p).level ≤ level = s.levels p l (kept_is_marked (mark marks p) k) in omega (arith, low, z)))

  pub one_at_top : Apart t → 0 < level → count_by (λ m. level_of t m == level) (map opposite (lits_below t marks (length t))) ≡ 1
  one_at_top a pos =
      let p = count_some (is_kept_at t marks level) (length t) (omega (arith, s.counted, s.some (omega (arith, pos)))) in
      let k = at_level_then t marks level p.0 p.2 in
      count_is t marks level (length t) a (omega arith) ∙ (sym s.counted ∙ s.last p.0 (omega arith) p.1 k.0 k.1)

  pub above_ground : Apart t → (m : Lit) → Contains (map opposite (lits_below t marks (length t))) m → 0 < level_of t m
  above_ground a m h =
      let r = kept_place t marks (length t) m h in
      let v : level_of t m ≡ (at t r.0).level = level_there t r.0 m a r.1 (sym (ap (λ (x : Lit). x.formula) r.3)) in
      omega (arith, v, s.ground r.0 (omega arith) r.1 r.2)

  pub at_most : Apart t → (m : Lit) → Contains (map opposite (lits_below t marks (length t))) m → level_of t m ≤ level
  at_most a m h =
      let r = kept_place t marks (length t) m h in
      let v : level_of t m ≡ (at t r.0).level = level_there t r.0 m a r.1 (sym (ap (λ (x : Lit). x.formula) r.3)) in
      omega (arith, v, s.levels r.0 r.1 (kept_is_marked (mark marks r.0) r.2))
