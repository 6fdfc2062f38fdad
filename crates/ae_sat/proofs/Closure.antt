-- The formulas that defining clauses lead to are finitely many, so a trail, in which no formula stands twice, has only so many literals.
use Rattle.std.proofs.Common.{◌≡◌, ◌≢◌, ℕ, zero, suc, ◌<◌, ◌≤◌, List, [], ◌∷◌, ◌++◌, length, refl, sym, ap, subst, arith, inl, inr, Some, None, length-append}
use Rattle.std.specs.List.{Contains}
use Rattle.std.proofs.lemmas.List.Elements.{Contains-append_left, Contains-append_right, Contains-append_cases}
use Rattle.ae_core.specs.Inner.Induction.{by_formulas}
use Rattle.ae_core.specs.declared.formulas.Formula.{Formula, True, False, Eq, Lt, Le, Pred, Not, And, Or, Xor, Iff, All, Ex}
use Rattle.ae_core.specs.declared.formulas.Formula.TheVariants.{outs-True, outs-False, outs-Eq, outs-Lt, outs-Le, outs-Pred, outs-Not, outs-And, outs-Or, outs-Xor, outs-Iff, outs-All, outs-Ex}
use Rattle.ae_core.specs.declared.formulas.Lit.{Lit}
use Rattle.ae_explain.specs.declared.trail.Assigned.{Assigned}
use Rattle.ae_explain.specs.Trail.{at, clause, Apart, IsLawful, AreFalse}
use Rattle.ae_journal.specs.Standing.{parts_by, parts_of}
use Rattle.ae_journal.proofs.Splits.{contains_one, contains_cases, contains_here, contains_later, cut}
use Rattle.ae_journal.proofs.RowParts.{literal_part}
use Rattle.ae_rules.specs.Clauses.{Clause, row}
use Rattle.ae_sat.specs.Standing.{IsOneOf}
use Rattle.ae_sat.specs.Search.{HasParts, AllAmong}
use Rattle.ae_sat.proofs.Learnt.{one_more}
use Rattle.ae_sat.proofs.Deriving.{in_clause}
use Rattle.ae_sat.proofs.RowLiterals.{row_literals}

-- ---- a formula with all its parts
abbrev pub HasAllParts : List Formula → Type 0
HasAllParts fs = (h a : Formula) → Contains fs h → Contains (parts_of h) a → Contains fs a

pub record Closure (f : Formula) : Type 0 where
  pub formulas : List Formula
  pub own : Contains formulas f
  pub parts : HasAllParts formulas

none : {P : Type 0} (f : Formula) → Contains [] f → P
none f k = absurd (omega (arith, k.1))

of_none : (f : Formula) → parts_of f ≡ [] → Closure f
of_none f e = record {
  formulas = f ∷ [];
  own = contains_here f [];
  parts = λ h a k p. none a (subst (λ (w : List Formula). Contains w a) e (subst (λ (w : Formula). Contains (parts_of w) a) (sym (contains_one f h k)) p));
}

of_one : (f a : Formula) → parts_of f ≡ a ∷ [] → Closure a → Closure f
of_one f a e c = record {
  formulas = f ∷ c.formulas;
  own = contains_here f c.formulas;
  parts = λ h b k p. elim (contains_cases f c.formulas h k) as (λ _. Contains (f ∷ c.formulas) b) [
    | inl q ↦
        let r : a ≡ b = contains_one a b (subst (λ (w : List Formula). Contains w b) e (subst (λ (w : Formula). Contains (parts_of w) b) (sym q) p)) in
        contains_later f c.formulas b (subst (Contains c.formulas) r c.own)
    | inr i ↦ contains_later f c.formulas b (c.parts h b i p)
  ];
}

joined : (xs ys : List Formula) → HasAllParts xs → HasAllParts ys → HasAllParts (xs ++ ys)
joined xs ys x y h a k p = elim (Contains-append_cases xs ys h k) as (λ _. Contains (xs ++ ys) a) [
  | inl i ↦ Contains-append_left xs ys a (x h a i p)
  | inr i ↦ Contains-append_right xs ys a (y h a i p)
]

of_two : (f a b : Formula) → parts_of f ≡ a ∷ b ∷ [] → Closure a → Closure b → Closure f
of_two f a b e c d = record {
  formulas = f ∷ c.formulas ++ d.formulas;
  own = contains_here f (c.formulas ++ d.formulas);
  parts = λ h g k p. elim (contains_cases f (c.formulas ++ d.formulas) h k) as (λ _. Contains (f ∷ c.formulas ++ d.formulas) g) [
    | inl q ↦ contains_later f (c.formulas ++ d.formulas) g
        (elim (contains_cases a (b ∷ []) g (subst (λ (w : List Formula). Contains w g) e (subst (λ (w : Formula). Contains (parts_of w) g) (sym q) p))) as (λ _. Contains (c.formulas ++ d.formulas) g) [
          | inl r ↦ Contains-append_left c.formulas d.formulas g (subst (Contains c.formulas) r c.own)
          | inr r ↦ Contains-append_right c.formulas d.formulas g (subst (Contains d.formulas) (contains_one b g r) d.own)
        ])
    | inr i ↦ contains_later f (c.formulas ++ d.formulas) g (joined c.formulas d.formulas c.parts d.parts h g i p)
  ];
}

pub closure : (f : Formula) → Closure f
closure =
    by_formulas Closure (λ q. Unit {0})
    (of_none True (ap parts_by outs-True))
    (of_none False (ap parts_by outs-False))
    (λ a b. of_none (Eq a b) (ap parts_by (outs-Eq a b)))
    (λ a b. of_none (Lt a b) (ap parts_by (outs-Lt a b)))
    (λ a b. of_none (Le a b) (ap parts_by (outs-Le a b)))
    (λ p ss us. of_none (Pred p ss us) (ap parts_by (outs-Pred p ss us)))
    (λ a c. of_one (Not a) a (ap parts_by (outs-Not a)) c)
    (λ a b c d. of_two (And a b) a b (ap parts_by (outs-And a b)) c d)
    (λ a b c d. of_two (Or a b) a b (ap parts_by (outs-Or a b)) c d)
    (λ a b c d. of_two (Xor a b) a b (ap parts_by (outs-Xor a b)) c d)
    (λ a b c d. of_two (Iff a b) a b (ap parts_by (outs-Iff a b)) c d)
    (λ q c. of_none (All q) (ap parts_by (outs-All q)))
    (λ q c. of_none (Ex q) (ap parts_by (outs-Ex q)))
    (λ q c. tt)

-- ---- all formulas of clauses
abbrev pub literal_formulas : Clause → List Formula
literal_formulas [] = []
literal_formulas (l ∷ c) = (closure l.formula).formulas ++ literal_formulas c

abbrev pub all_formulas : List Clause → List Formula
all_formulas [] = []
all_formulas (c ∷ u) = literal_formulas c ++ all_formulas u

literal_parts : (c : Clause) → HasAllParts (literal_formulas c)
literal_parts [] = λ h a k p. none h k
literal_parts (l ∷ c) = joined (closure l.formula).formulas (literal_formulas c) (closure l.formula).parts (literal_parts c)

literal_has : (c : Clause) (l : Lit) → Contains c l → Contains (literal_formulas c) l.formula
literal_has [] l k = absurd (omega (arith, k.1))
literal_has (m ∷ c) l k = elim (contains_cases m c l k) as (λ _. Contains (literal_formulas (m ∷ c)) l.formula) [
  | inl e ↦ Contains-append_left (closure m.formula).formulas (literal_formulas c) l.formula (subst (λ (w : Lit). Contains (closure m.formula).formulas w.formula) e (closure m.formula).own)
  | inr i ↦ Contains-append_right (closure m.formula).formulas (literal_formulas c) l.formula (literal_has c l i)
]

each_part : (u : List Clause) → HasAllParts (all_formulas u)
each_part [] = λ h a k p. none h k
each_part (c ∷ u) = joined (literal_formulas c) (all_formulas u) (literal_parts c) (each_part u)

-- what has all parts has the formulas of their literals
pub parts_said : (fs : List Formula) → ((h a : Formula) → Contains fs h → Contains (parts_of h) a → Contains fs a) → HasParts fs
parts_said fs all h a sign k p = literal_part (Contains fs) all a (all h a k p) sign

pub all_parts : (u : List Clause) → HasParts (all_formulas u)
all_parts u = parts_said (all_formulas u) (each_part u)

all_at : (u : List Clause) (k : ℕ) → k < length u → (l : Lit) → Contains (clause u k) l → Contains (all_formulas u) l.formula
all_at [] k lt l h = absurd (omega (arith, lt))
all_at (c ∷ u) zero lt l h = Contains-append_left (literal_formulas c) (all_formulas u) l.formula (literal_has c l h)
all_at (c ∷ u) (suc k) lt l h = Contains-append_right (literal_formulas c) (all_formulas u) l.formula (all_at u k (omega (arith, lt)) l h)

pub all_among : (u : List Clause) → AllAmong (all_formulas u) u
all_among u c l o h = all_at u o.0 o.1 l (subst (λ (w : Clause). Contains w l) (sym o.2) h)

-- ---- a row leads to no other formulas
pub row_among : (t : List Assigned) (u : List Clause) → IsLawful t u → ((j : ℕ) → j < length t → (at t j).by ≡ None → (c : Clause) × IsOneOf u c × Contains c (at t j).lit) → (j r : ℕ) (c : Clause) → j < length t
    → row r (at t j).lit.formula ≡ Some c → (fs : List Formula) → HasParts fs → AllAmong fs u → AllAmong fs (u ++ c ∷ [])
row_among t u lawful stands j r c l e fs parts among d m o k = elim (one_more u c d o) as (λ _. Contains fs m.formula) [
  | inl y ↦ among d m y k
  | inr q ↦
      let w = in_clause t u lawful stands j l in
      let f : Contains fs (at t j).lit.formula = among (clause u w.0) (at t j).lit (w.0, w.1, refl) w.2 in
      row_literals (Contains fs) parts (at t j).lit.formula f r c e m (subst (λ (v : Clause). Contains v m) q k)
]

-- ---- nor does what is false by the trail
pub false_among : (t : List Assigned) (u : List Clause) → IsLawful t u → ((j : ℕ) → j < length t → (at t j).by ≡ None → (c : Clause) × IsOneOf u c × Contains c (at t j).lit)
    → (c : Clause) → AreFalse t c → (fs : List Formula) → AllAmong fs u → AllAmong fs (u ++ c ∷ [])
false_among t u lawful stands c false_ones fs among d m o k = elim (one_more u c d o) as (λ _. Contains fs m.formula) [
  | inl y ↦ among d m y k
  | inr q ↦
      let h = false_ones m (subst (λ (v : Clause). Contains v m) q k) in
      let w = in_clause t u lawful stands h.0 h.1 in
      subst (λ (l : Lit). Contains fs l.formula) h.2 (among (clause u w.0) (at t h.0).lit (w.0, w.1, refl) w.2)
]

-- ---- so many different formulas
without : (x y : List Formula) (f h : Formula) → f ≢ h → Contains (x ++ f ∷ y) h → Contains (x ++ y) h
without x y f h d k = elim (Contains-append_cases x (f ∷ y) h k) as (λ _. Contains (x ++ y) h) [
  | inl i ↦ Contains-append_left x y h i
  | inr i ↦ elim (contains_cases f y h i) as (λ _. Contains (x ++ y) h) [
    | inl e ↦ absurd (d e)
    | inr r ↦ Contains-append_right x y h r
  ]
]

at_most : (fs : List Formula) (t : List Assigned) → Apart t → ((j : ℕ) → j < length t → Contains fs (at t j).lit.formula) → length t ≤ length fs
at_most fs [] apart h = omega arith
at_most fs (a ∷ t) apart h =
    let f = a.lit.formula in
    let q = cut fs f (h 0 (omega arith)) in
    let rest : (j : ℕ) → j < length t → Contains (q.0 ++ q.1) (at t j).lit.formula = λ j l.
    without q.0 q.1 f (at t j).lit.formula (apart 0 (suc j) (omega arith) (omega (arith, l))) (subst (λ (w : List Formula). Contains w (at t j).lit.formula) q.2 (h (suc j) (omega (arith, l)))) in
    omega (arith, at_most (q.0 ++ q.1) t (λ i j l r. apart (suc i) (suc j) (omega (arith, l)) (omega (arith, r))) rest, ap length q.2, length-append q.0 (f ∷ q.1), length-append q.0 q.1)

-- a trail of clauses whose formulas are among these has at most so many literals
pub trail_within : (t : List Assigned) (u : List Clause) → IsLawful t u → ((j : ℕ) → j < length t → (at t j).by ≡ None → (c : Clause) × IsOneOf u c × Contains c (at t j).lit) → (fs : List Formula) → AllAmong fs u
    → length t ≤ length fs
trail_within t u lawful stands fs among = at_most fs t lawful.apart (λ j l. let w = in_clause t u lawful stands j l in among (clause u w.0) (at t j).lit (w.0, w.1, refl) w.2)
