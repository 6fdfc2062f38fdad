-- What is learnt is new, and what keeps given clauses from firing below the present level.
use Rattle.std.proofs.Common.{◌≡◌, ◌≢◌, ℕ, zero, suc, ◌+◌, ◌-◌, ◌<◌, ◌≤◌, ◌==◌, List, [], ◌∷◌, ◌++◌, length, refl, sym, ap, ◌∙◌, subst, arith, inl, inr, length-append}
use Rattle.std.specs.Prelude.{count_by}
use Rattle.std.specs.List.{Contains}
use Rattle.std.proofs.lemmas.Bool.{cases_eq, cases_lt}
use Rattle.ae_rules.specs.Clauses.{Clause, opposite}
use Rattle.ae_core.specs.declared.formulas.Lit.{Lit}
use Rattle.ae_explain.specs.declared.trail.Assigned.{Assigned}
use Rattle.std.proofs.lemmas.List.{get_or-append_right}
use Rattle.ae_explain.specs.Trail.{at, nothing, clause, Apart, IsFalse, AreFalse, IsLawful, level_before}
use Rattle.ae_explain.specs.Levels.{level_of}
use Rattle.ae_explain.proofs.Places.{level_there, rises}
use Rattle.ae_explain.proofs.Marking.{equal_numbers}
use Rattle.ae_propagation.specs.Settled.{Holds, IsQuiet}
use Rattle.ae_sat.specs.Layers.{HoldsUpTo, IsFalseUpTo, Fires, IsLayered, IsCut}
use Rattle.ae_propagation.specs.Settled.{last_level}
use Rattle.ae_sat.specs.Standing.{IsOneOf}
use Rattle.ae_propagation.proofs.Trails.{consistent, at_old, at_new}
use Rattle.ae_propagation.proofs.Members.{lit_cases, member_cases}
use Rattle.ae_sat.proofs.Members.{one_passes, some_passes}

pub false_up : (t : List Assigned) → Apart t → (m : Lit) (k : ℕ) → IsFalse t m → level_of t m ≤ k → IsFalseUpTo t k m
false_up t apart m k f l =
    let v : level_of t m ≡ (at t f.0).level = level_there t f.0 m apart f.1 (ap (λ (x : Lit). x.formula) f.2) in
    (f.0, f.1, f.2, omega (arith, v, l))

held : (t : List Assigned) (k : ℕ) (m : Lit) → HoldsUpTo t k m → Holds t m
held t k m h = (h.0, h.1, h.2)

-- ---- no given clause is a part of what is learnt
pub learnt_is_new : (t : List Assigned) → Apart t → (given : Clause → Type 0) → IsLayered t given → (c : Clause) → AreFalse t c → (level : ℕ) → 0 < level → level ≤ last_level t
    → count_by (λ m. level_of t m == level) c ≡ 1 → ((m : Lit) → Contains c m → level_of t m ≤ level)
    → (d : Clause) → given d → ((m : Lit) → Contains d m → Contains c m) → ⊥
learnt_is_new t apart given layered c false_ones level pos low one high d is part =
    let o = some_passes (λ m. level_of t m == level) c one in
    layered d is (level - 1) (omega (arith, pos, low)) (record {
      one = o.0;
      others = λ m h ne. elim (cases_eq (level_of t m) level) as (λ _. IsFalseUpTo t (level - 1) m) [
        | inl e ↦ absurd (ne (one_passes (λ m. level_of t m == level) c one m o.0 (part m h) o.1 (equal_numbers (level_of t m) level e) o.2))
        | inr n ↦ false_up t apart m (level - 1) (false_ones m (part m h)) (omega (arith, high m (part m h), n, pos))
      ];
      untrue = λ m h y. consistent t apart m (held t (level - 1) m y) (false_ones m (part m h));
    })

-- ---- a trail that grows at its level
grown_holds : (t more : List Assigned) (k : ℕ) → ((i : ℕ) → i < length more → k < (at more i).level) → (m : Lit) → HoldsUpTo (t ++ more) k m → HoldsUpTo t k m
grown_holds t more k above m h = elim (cases_lt h.0 (length t)) as (λ _. HoldsUpTo t k m) [
  | inl l ↦ (h.0, l, sym (ap (λ (a : Assigned). a.lit) (at_old t more h.0 l)) ∙ h.2, subst (λ (a : Assigned). a.level ≤ k) (at_old t more h.0 l) h.3)
  | inr g ↦ absurd (omega (arith, above (h.0 - length t) (omega (arith, h.1, g, length-append t more)), later t more h.0 g h.1, h.3))
]
  where
    later : (t more : List Assigned) (j : ℕ) → length t ≤ j → j < length (t ++ more) → (at (t ++ more) j).level ≡ (at more (j - length t)).level
    later t more j g l = ap (λ (a : Assigned). a.level) (get_or-append_right t more (length t) j nothing refl g)

old_holds : (t more : List Assigned) (k : ℕ) (m : Lit) → HoldsUpTo t k m → HoldsUpTo (t ++ more) k m
old_holds t more k m h =
    (h.0, omega (arith, h.1, length-append t more), ap (λ (a : Assigned). a.lit) (at_old t more h.0 h.1) ∙ h.2, subst (λ (a : Assigned). a.level ≤ k) (sym (at_old t more h.0 h.1)) h.3)

-- a clause fires up to k exactly where it does without what stands above k
pub fires_before : (t more : List Assigned) (k : ℕ) → ((i : ℕ) → i < length more → k < (at more i).level) → (c : Clause) → Fires (t ++ more) c k → Fires t c k
fires_before t more k above c f = record {
  one = f.one;
  others = λ m h ne. grown_holds t more k above (opposite m) (f.others m h ne);
  untrue = λ m h y. f.untrue m h (old_holds t more k m y);
}

pub fires_after : (t more : List Assigned) (k : ℕ) → ((i : ℕ) → i < length more → k < (at more i).level) → (c : Clause) → Fires t c k → Fires (t ++ more) c k
fires_after t more k above c f = record {
  one = f.one;
  others = λ m h ne. old_holds t more k (opposite m) (f.others m h ne);
  untrue = λ m h y. f.untrue m h (grown_holds t more k above m y);
}

-- unit propagation
pub layered_grown : (t more : List Assigned) (given : Clause → Type 0) → last_level (t ++ more) ≡ last_level t → ((i : ℕ) → i < length more → (at more i).level ≡ last_level t)
    → IsLayered t given → IsLayered (t ++ more) given
layered_grown t more given same levels layered c is k l f =
    layered c is k (omega (arith, l, same)) (fires_before t more k (λ i r. omega (arith, levels i r, l, same)) c f)

-- the last level is the greatest
pub top : (t : List Assigned) (clauses : List Clause) → IsLawful t clauses → (n j : ℕ) → n ≡ length t → j < n → (at t j).level ≤ level_before t n
top t clauses lawful zero j e h = absurd (omega (arith, h))
top t clauses lawful (suc n) j e h = rises t clauses lawful j n (omega (arith, h)) (omega (arith, e))

pub last_push : (t : List Assigned) (a : Assigned) → last_level (t ++ a ∷ []) ≡ a.level
last_push t a =
    let q : length (t ++ a ∷ []) ≡ suc (length t) = omega (arith, length-append t (a ∷ [])) in
    ap (level_before (t ++ a ∷ [])) q ∙ ap (λ (x : Assigned). x.level) (at_new t a)

one_above : (a : Assigned) (k : ℕ) → k < a.level → (i : ℕ) → i < length (a ∷ []) → k < (at (a ∷ []) i).level
one_above a k l zero h = l
one_above a k l (suc i) h = absurd (omega (arith, h))

-- in a quiet trail no clause fires up to its level
pub quiet_fires : (t : List Assigned) (clauses : List Clause) → IsLawful t clauses → IsQuiet t clauses → (c : Clause) → IsOneOf clauses c → (k : ℕ) → last_level t ≤ k → Fires t c k → ⊥
quiet_fires t clauses lawful quiet c is k l f =
    let f2 : Fires t (clause clauses is.0) k = subst (λ (d : Clause). Fires t d k) (sym is.2) f in
    let others : (m : Lit) → Contains (clause clauses is.0) m → m ≢ f2.one → IsFalse t m = λ m h ne. let r = f2.others m h ne in (r.0, r.1, r.2) in
    elim (member_cases (clause clauses is.0) f2.one) as (λ _. ⊥) [
      | inl h ↦ let y = quiet.units is.0 f2.one is.1 h others in f2.untrue f2.one h (y.0, y.1, y.2, omega (arith, top t clauses lawful (length t) y.0 refl y.1, l))
      | inr n ↦ quiet.none_false is.0 is.1 (λ m h. others m h (λ e. n (subst (λ (w : Lit). Contains (clause clauses is.0) w) e h)))
    ]

-- a decision
pub layered_decision : (t : List Assigned) (clauses : List Clause) (a : Assigned) (given : Clause → Type 0) → IsLawful t clauses → IsQuiet t clauses → a.level ≡ last_level t + 1
    → ((c : Clause) → given c → IsOneOf clauses c) → IsLayered t given → IsLayered (t ++ a ∷ []) given
layered_decision t clauses a given lawful quiet level among layered c is k l f =
    let e : last_level (t ++ a ∷ []) ≡ a.level = last_push t a in
    let f2 : Fires t c k = fires_before t (a ∷ []) k (one_above a k (omega (arith, l, e))) c f in
    elim (cases_lt k (last_level t)) as (λ _. ⊥) [
      | inl h ↦ layered c is k h f2
      | inr g ↦ quiet_fires t clauses lawful quiet c (among c is) k g f2
    ]

-- going back
pub layered_cut : (t cut : List Assigned) (level : ℕ) (given : Clause → Type 0) → IsCut t level cut → last_level cut ≤ level → last_level cut ≤ last_level t → IsLayered t given → IsLayered cut given
layered_cut t cut level given cutting low below layered c is k l f =
    layered c is k (omega (arith, l, below)) (subst (λ (w : List Assigned). Fires w c k) (sym cutting.is)
    (fires_after cut cutting.undone k (λ i r. omega (arith, cutting.above i r, l, low)) c f))

-- a new clause that fires at no level below the one gone back to
pub layered_new : (t cut : List Assigned) (level : ℕ) (new : Clause) → IsCut t level cut → last_level cut ≤ level → ((k : ℕ) → k < level → ¬ Fires t new k)
    → (k : ℕ) → k < last_level cut → ¬ Fires cut new k
layered_new t cut level new cutting low least k l f =
    least k (omega (arith, l, low)) (subst (λ (w : List Assigned). Fires w new k) (sym cutting.is)
    (fires_after cut cutting.undone k (λ i r. omega (arith, cutting.above i r, l, low)) new f))

-- what was learnt, after going back to the greatest level of its literals below their greatest one
pub learnt_rests : (t cut : List Assigned) → Apart t → (level top : ℕ) (c : Clause) (o s : Lit) → IsCut t level cut → level < top → last_level cut ≤ level
    → Contains c o → level_of t o ≡ top → Contains c s → level_of t s ≡ level → (k : ℕ) → k < last_level cut → ¬ Fires cut c k
learnt_rests t cut apart level top c o s cutting lt low ho lo hs ls k l f =
    let not_up : (m : Lit) → k < level_of t m → IsFalseUpTo cut k m → ⊥ = λ m above r.
    let e : at t r.0 ≡ at cut r.0 = subst (λ (w : List Assigned). at w r.0 ≡ at cut r.0) (sym cutting.is) (at_old cut cutting.undone r.0 r.1) in
    let inside : r.0 < length t = subst (λ (w : List Assigned). r.0 < length w) (sym cutting.is) (omega (arith, r.1, length-append cut cutting.undone)) in
    let v : level_of t m ≡ (at t r.0).level = level_there t r.0 m apart inside (ap (λ (a : Assigned). a.lit.formula) e ∙ ap (λ (x : Lit). x.formula) r.2) in
    let w : (at t r.0).level ≡ (at cut r.0).level = ap (λ (a : Assigned). a.level) e in
    omega (arith, above, v, w, r.3) in
    elim (lit_cases o f.one) as (λ _. ⊥) [
      | inl e ↦ elim (lit_cases s f.one) as (λ _. ⊥) [
        | inl q ↦ let z : level_of t o ≡ level_of t s = ap (level_of t) (e ∙ sym q) in omega (arith, z, lo, ls, lt)
        | inr d ↦ not_up s (omega (arith, ls, l, low)) (f.others s hs d)
      ]
      | inr d ↦ not_up o (omega (arith, lo, l, low, lt)) (f.others o ho d)
    ]
