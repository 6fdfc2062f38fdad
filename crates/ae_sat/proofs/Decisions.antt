-- The decisions of a journal and of a trail.
use Rattle.std.proofs.Common.{◌≡◌, ℕ, zero, suc, ◌+◌, ◌<◌, ◌≤◌, List, [], ◌∷◌, ◌++◌, length, take, drop, refl, sym, ◌∙◌, ap, subst, arith, inl, inr, Option, Some, None, length-append}
use Rattle.std.proofs.lemmas.Bool.{cases_eq, cases_lt}
use Rattle.std.proofs.lemmas.List.{take-append-drop, take_more}
use Rattle.ae_rules.specs.Clauses.{Clause}
use Rattle.ae_core.specs.declared.formulas.Lit.{Lit}
use Rattle.ae_explain.specs.declared.trail.Assigned.{Assigned}
use Rattle.ae_explain.specs.Trail.{at, nothing, IsLawful, Enters, level_before}
use Rattle.ae_explain.proofs.Places.{rises}
use Rattle.ae_journal.specs.declared.lines.Line.{Line}
use Rattle.ae_journal.specs.declared.lines.Line.TheVariants as line
use Rattle.ae_journal.specs.Journals.{before_decision, decisions}
use Rattle.ae_explain.specs.Fronts.{IsFront}
use Rattle.ae_sat.specs.Standing.{with_decision, decided_lits}

-- ---- lines
-- what comes behind an earlier decision doesn't count
pub before_more : (n : ℕ) (xs ys : List Line) → n < length (decisions xs) → before_decision n (xs ++ ys) ≡ before_decision n xs
before_more zero [] ys h = absurd (omega (arith, h))
before_more (suc n) [] ys h = absurd (omega (arith, h))
before_more zero (line.Decide l ∷ xs) ys h = refl
before_more (suc n) (line.Decide l ∷ xs) ys h = ap (λ (w : List Line). line.Decide l ∷ w) (before_more n xs ys (omega (arith, h)))
before_more zero (line.Orient o ∷ xs) ys h = ap (λ (w : List Line). line.Orient o ∷ w) (before_more zero xs ys h)
before_more (suc n) (line.Orient o ∷ xs) ys h = ap (λ (w : List Line). line.Orient o ∷ w) (before_more (suc n) xs ys h)
before_more zero (line.Drop o ∷ xs) ys h = ap (λ (w : List Line). line.Drop o ∷ w) (before_more zero xs ys h)
before_more (suc n) (line.Drop o ∷ xs) ys h = ap (λ (w : List Line). line.Drop o ∷ w) (before_more (suc n) xs ys h)
before_more zero (line.Pair u a b ∷ xs) ys h = ap (λ (w : List Line). line.Pair u a b ∷ w) (before_more zero xs ys h)
before_more (suc n) (line.Pair u a b ∷ xs) ys h = ap (λ (w : List Line). line.Pair u a b ∷ w) (before_more (suc n) xs ys h)
before_more zero (line.Learn c ∷ xs) ys h = ap (λ (w : List Line). line.Learn c ∷ w) (before_more zero xs ys h)
before_more (suc n) (line.Learn c ∷ xs) ys h = ap (λ (w : List Line). line.Learn c ∷ w) (before_more (suc n) xs ys h)
before_more zero (line.TypeInstance q ss ∷ xs) ys h = ap (λ (w : List Line). line.TypeInstance q ss ∷ w) (before_more zero xs ys h)
before_more (suc n) (line.TypeInstance q ss ∷ xs) ys h = ap (λ (w : List Line). line.TypeInstance q ss ∷ w) (before_more (suc n) xs ys h)
before_more zero (line.TermInstance f ts ∷ xs) ys h = ap (λ (w : List Line). line.TermInstance f ts ∷ w) (before_more zero xs ys h)
before_more (suc n) (line.TermInstance f ts ∷ xs) ys h = ap (λ (w : List Line). line.TermInstance f ts ∷ w) (before_more (suc n) xs ys h)
before_more zero (line.Combine b f ∷ xs) ys h = ap (λ (w : List Line). line.Combine b f ∷ w) (before_more zero xs ys h)
before_more (suc n) (line.Combine b f ∷ xs) ys h = ap (λ (w : List Line). line.Combine b f ∷ w) (before_more (suc n) xs ys h)
before_more zero (line.Back q ∷ xs) ys h = ap (λ (w : List Line). line.Back q ∷ w) (before_more zero xs ys h)
before_more (suc n) (line.Back q ∷ xs) ys h = ap (λ (w : List Line). line.Back q ∷ w) (before_more (suc n) xs ys h)

pub decisions_before : (n : ℕ) (xs : List Line) → decisions (before_decision n xs) ≡ take n (decisions xs)
decisions_before zero [] = refl
decisions_before (suc n) [] = refl
decisions_before zero (line.Decide l ∷ xs) = refl
decisions_before (suc n) (line.Decide l ∷ xs) = ap (λ (w : List Lit). l ∷ w) (decisions_before n xs)
decisions_before zero (line.Orient o ∷ xs) = decisions_before zero xs
decisions_before (suc n) (line.Orient o ∷ xs) = decisions_before (suc n) xs
decisions_before zero (line.Drop o ∷ xs) = decisions_before zero xs
decisions_before (suc n) (line.Drop o ∷ xs) = decisions_before (suc n) xs
decisions_before zero (line.Pair u a b ∷ xs) = decisions_before zero xs
decisions_before (suc n) (line.Pair u a b ∷ xs) = decisions_before (suc n) xs
decisions_before zero (line.Learn c ∷ xs) = decisions_before zero xs
decisions_before (suc n) (line.Learn c ∷ xs) = decisions_before (suc n) xs
decisions_before zero (line.TypeInstance q ss ∷ xs) = decisions_before zero xs
decisions_before (suc n) (line.TypeInstance q ss ∷ xs) = decisions_before (suc n) xs
decisions_before zero (line.TermInstance f ts ∷ xs) = decisions_before zero xs
decisions_before (suc n) (line.TermInstance f ts ∷ xs) = decisions_before (suc n) xs
decisions_before zero (line.Combine b f ∷ xs) = decisions_before zero xs
decisions_before (suc n) (line.Combine b f ∷ xs) = decisions_before (suc n) xs
decisions_before zero (line.Back q ∷ xs) = decisions_before zero xs
decisions_before (suc n) (line.Back q ∷ xs) = decisions_before (suc n) xs

pub before_twice : (k n : ℕ) (xs : List Line) → k ≤ n → before_decision k (before_decision n xs) ≡ before_decision k xs
before_twice zero zero [] h = refl
before_twice zero (suc n) [] h = refl
before_twice (suc k) zero [] h = refl
before_twice (suc k) (suc n) [] h = refl
before_twice zero zero (line.Decide l ∷ xs) h = refl
before_twice zero (suc n) (line.Decide l ∷ xs) h = refl
before_twice (suc k) zero (line.Decide l ∷ xs) h = absurd (omega (arith, h))
before_twice (suc k) (suc n) (line.Decide l ∷ xs) h = ap (λ (w : List Line). line.Decide l ∷ w) (before_twice k n xs (omega (arith, h)))
before_twice zero zero (line.Orient o ∷ xs) h = ap (λ (w : List Line). line.Orient o ∷ w) (before_twice zero zero xs h)
before_twice zero (suc n) (line.Orient o ∷ xs) h = ap (λ (w : List Line). line.Orient o ∷ w) (before_twice zero (suc n) xs h)
before_twice (suc k) zero (line.Orient o ∷ xs) h = ap (λ (w : List Line). line.Orient o ∷ w) (before_twice (suc k) zero xs h)
before_twice (suc k) (suc n) (line.Orient o ∷ xs) h = ap (λ (w : List Line). line.Orient o ∷ w) (before_twice (suc k) (suc n) xs h)
before_twice zero zero (line.Drop o ∷ xs) h = ap (λ (w : List Line). line.Drop o ∷ w) (before_twice zero zero xs h)
before_twice zero (suc n) (line.Drop o ∷ xs) h = ap (λ (w : List Line). line.Drop o ∷ w) (before_twice zero (suc n) xs h)
before_twice (suc k) zero (line.Drop o ∷ xs) h = ap (λ (w : List Line). line.Drop o ∷ w) (before_twice (suc k) zero xs h)
before_twice (suc k) (suc n) (line.Drop o ∷ xs) h = ap (λ (w : List Line). line.Drop o ∷ w) (before_twice (suc k) (suc n) xs h)
before_twice zero zero (line.Pair u a b ∷ xs) h = ap (λ (w : List Line). line.Pair u a b ∷ w) (before_twice zero zero xs h)
before_twice zero (suc n) (line.Pair u a b ∷ xs) h = ap (λ (w : List Line). line.Pair u a b ∷ w) (before_twice zero (suc n) xs h)
before_twice (suc k) zero (line.Pair u a b ∷ xs) h = ap (λ (w : List Line). line.Pair u a b ∷ w) (before_twice (suc k) zero xs h)
before_twice (suc k) (suc n) (line.Pair u a b ∷ xs) h = ap (λ (w : List Line). line.Pair u a b ∷ w) (before_twice (suc k) (suc n) xs h)
before_twice zero zero (line.Learn c ∷ xs) h = ap (λ (w : List Line). line.Learn c ∷ w) (before_twice zero zero xs h)
before_twice zero (suc n) (line.Learn c ∷ xs) h = ap (λ (w : List Line). line.Learn c ∷ w) (before_twice zero (suc n) xs h)
before_twice (suc k) zero (line.Learn c ∷ xs) h = ap (λ (w : List Line). line.Learn c ∷ w) (before_twice (suc k) zero xs h)
before_twice (suc k) (suc n) (line.Learn c ∷ xs) h = ap (λ (w : List Line). line.Learn c ∷ w) (before_twice (suc k) (suc n) xs h)
before_twice zero zero (line.TypeInstance q ss ∷ xs) h = ap (λ (w : List Line). line.TypeInstance q ss ∷ w) (before_twice zero zero xs h)
before_twice zero (suc n) (line.TypeInstance q ss ∷ xs) h = ap (λ (w : List Line). line.TypeInstance q ss ∷ w) (before_twice zero (suc n) xs h)
before_twice (suc k) zero (line.TypeInstance q ss ∷ xs) h = ap (λ (w : List Line). line.TypeInstance q ss ∷ w) (before_twice (suc k) zero xs h)
before_twice (suc k) (suc n) (line.TypeInstance q ss ∷ xs) h = ap (λ (w : List Line). line.TypeInstance q ss ∷ w) (before_twice (suc k) (suc n) xs h)
before_twice zero zero (line.TermInstance f ts ∷ xs) h = ap (λ (w : List Line). line.TermInstance f ts ∷ w) (before_twice zero zero xs h)
before_twice zero (suc n) (line.TermInstance f ts ∷ xs) h = ap (λ (w : List Line). line.TermInstance f ts ∷ w) (before_twice zero (suc n) xs h)
before_twice (suc k) zero (line.TermInstance f ts ∷ xs) h = ap (λ (w : List Line). line.TermInstance f ts ∷ w) (before_twice (suc k) zero xs h)
before_twice (suc k) (suc n) (line.TermInstance f ts ∷ xs) h = ap (λ (w : List Line). line.TermInstance f ts ∷ w) (before_twice (suc k) (suc n) xs h)
before_twice zero zero (line.Combine b f ∷ xs) h = ap (λ (w : List Line). line.Combine b f ∷ w) (before_twice zero zero xs h)
before_twice zero (suc n) (line.Combine b f ∷ xs) h = ap (λ (w : List Line). line.Combine b f ∷ w) (before_twice zero (suc n) xs h)
before_twice (suc k) zero (line.Combine b f ∷ xs) h = ap (λ (w : List Line). line.Combine b f ∷ w) (before_twice (suc k) zero xs h)
before_twice (suc k) (suc n) (line.Combine b f ∷ xs) h = ap (λ (w : List Line). line.Combine b f ∷ w) (before_twice (suc k) (suc n) xs h)
before_twice zero zero (line.Back q ∷ xs) h = ap (λ (w : List Line). line.Back q ∷ w) (before_twice zero zero xs h)
before_twice zero (suc n) (line.Back q ∷ xs) h = ap (λ (w : List Line). line.Back q ∷ w) (before_twice zero (suc n) xs h)
before_twice (suc k) zero (line.Back q ∷ xs) h = ap (λ (w : List Line). line.Back q ∷ w) (before_twice (suc k) zero xs h)
before_twice (suc k) (suc n) (line.Back q ∷ xs) h = ap (λ (w : List Line). line.Back q ∷ w) (before_twice (suc k) (suc n) xs h)

-- ---- trails
with_append : (o : Option ℕ) (l : Lit) (xs ys zs : List Lit) → xs ≡ ys ++ zs → with_decision o l xs ≡ with_decision o l ys ++ zs
with_append None l xs ys zs e = ap (λ (w : List Lit). l ∷ w) e
with_append (Some k) l xs ys zs e = e

pub lits_append : (t s : List Assigned) → decided_lits (t ++ s) ≡ decided_lits t ++ decided_lits s
lits_append [] s = refl
lits_append (a ∷ t) s = with_append a.by a.lit (decided_lits (t ++ s)) (decided_lits t) (decided_lits s) (lits_append t s)

one_more : (u : List Clause) (t : List Assigned) (n m : ℕ) (o : Option ℕ) (l : Lit) (ls : List Lit) → Enters t u n o → length ls ≡ level_before t n → length (ls ++ with_decision o l []) ≡ (at t n).level
one_more u t n m None l ls e h = omega (arith, length-append ls (l ∷ []), e, h)
one_more u t n m (Some k) l ls e h = omega (arith, length-append ls [], e.0, h)

-- as many decisions stand before a place as its level says
pub count_lits : (t : List Assigned) (u : List Clause) → IsLawful t u → (n : ℕ) → n ≤ length t → length (decided_lits (take n t)) ≡ level_before t n
count_lits t u w zero h = refl
count_lits t u w (suc n) h =
    let l : n < length t = omega (arith, h) in
    let s : suc n ≡ n + 1 = omega arith in
    let e : take (suc n) t ≡ take n t ++ at t n ∷ [] = ap (λ (k : ℕ). take k t) s ∙ take_more t n nothing l in
    let d : decided_lits (take (suc n) t) ≡ decided_lits (take n t) ++ with_decision (at t n).by (at t n).lit [] = ap decided_lits e ∙ lits_append (take n t) (at t n ∷ []) in
    ap length d ∙ one_more u t n 0 (at t n).by (at t n).lit (decided_lits (take n t)) (w.enters n l) (count_lits t u w n (omega (arith, l)))

take_front : (xs ys : List Lit) (k : ℕ) → length xs ≡ k → take k (xs ++ ys) ≡ xs
take_front [] ys zero e = refl
take_front [] ys (suc k) e = absurd (omega (arith, e))
take_front (x ∷ xs) ys zero e = absurd (omega (arith, e))
take_front (x ∷ xs) ys (suc k) e = ap (λ (w : List Lit). x ∷ w) (take_front xs ys k (omega (arith, e)))

-- the place of decision number k, from 0
module _ (t : List Assigned) (u : List Clause) (w : IsLawful t u) (place k : ℕ) (within : place < length t) (decision : (at t place).by ≡ None) (level : (at t place).level ≡ suc k) where
  pub level_ahead : level_before t place ≡ k
  level_ahead =
      let e : Enters t u place None = subst (λ (o : Option ℕ). Enters t u place o) decision (w.enters place within) in
      omega (arith, e, level)

  pub front_lits : decided_lits (take place t) ≡ take k (decided_lits t)
  front_lits =
      let n : length (decided_lits (take place t)) ≡ k = count_lits t u w place (omega (arith, within)) ∙ level_ahead in
      let d : decided_lits t ≡ decided_lits (take place t) ++ decided_lits (drop place t) =
      ap decided_lits (sym (take-append-drop place t)) ∙ lits_append (take place t) (drop place t) in
      sym (ap (take k) d ∙ take_front (decided_lits (take place t)) (decided_lits (drop place t)) k n)

  -- the literals up to its level are those before it
  pub front_place : (front : List Assigned) → IsFront t k front → front ≡ take place t
  front_place front f = f.is ∙ ap (λ (n : ℕ). take n t) (elim (cases_lt f.count place) as (λ _. f.count ≡ place) [
    | inl l ↦
        let up : (at t f.count).level ≤ level_before t place = below f.count place l (omega (arith, within)) in
        absurd (omega (arith, up, level_ahead, f.next (omega (arith, l, within))))
    | inr g ↦ elim (cases_eq f.count place) as (λ _. f.count ≡ place) [
      | inl e ↦ e
      | inr d ↦ absurd (omega (arith, f.kept place (omega (arith, g, d)), level))
    ]
  ])
    where
      below : (i n : ℕ) → i < n → n ≤ length t → (at t i).level ≤ level_before t n
      below i zero h l = absurd (omega (arith, h))
      below i (suc n) h l = rises t u w i n (omega (arith, h)) (omega (arith, l))
