-- Where each clause comes apart, a quiet trail without decisions makes each clause true.
use Rattle.std.proofs.Common.{◌≡◌, ℕ, zero, suc, ◌<◌, Bool, true, false, nat_eq, List, [], ◌∷◌, length, refl, sym, ◌∙◌, ap, subst, arith, ◌⊎◌, inl, inr, Option, Some, None, true≢false}
use Rattle.std.specs.Prelude.{not}
use Rattle.std.specs.List.{AllByRecursion, Contains, list_all}
use Rattle.std.proofs.lemmas.Option.{same_Some}
use Rattle.ae_base.proofs.AllOf.{all_of_test}
use Rattle.ae_base.proofs.Options.{never_some}
use Rattle.ae_base.proofs.Tests.{nat_eq_itself}
use Rattle.ae_core.specs.Inner.Induction.{by_formulas}
use Rattle.ae_core.specs.declared.formulas.Formula.{Formula, True, False, Eq, Lt, Le, Pred, Not, And, Or, Xor, Iff, All, Ex}
use Rattle.ae_core.specs.declared.formulas.Lit.{Lit}
use Rattle.ae_explain.specs.declared.trail.Assigned.{Assigned}
use Rattle.ae_explain.specs.Trail.{at, clause, Enters, IsFalse, IsLawful, IsReason}
use Rattle.ae_journal.proofs.Splits.{contains_one, contains_cases, contains_here, contains_later}
use Rattle.ae_propagation.specs.Settled.{Holds, HasTrue, IsQuiet, last_level}
use Rattle.ae_propagation.proofs.Trails.{consistent}
use Rattle.ae_rules.specs.Clauses.{Clause, opposite, yes_of, no_of, is_true, is_false, row}
use Rattle.ae_rules.specs.Defining.{called_rows, splitting_rows, ComesApart}
use Rattle.ae_rules.specs.Defining.ComesApart.{comes_apart}
use Rattle.ae_rules.proofs.ClauseLaws.{row_true, row_false, row_eq, row_lt, row_le, row_pred, row_not, row_and, row_or, row_xor, row_iff, row_all, row_ex}
use Rattle.ae_rules.proofs.Defining.{called_true, called_false, called_and_yes, called_and_no, called_or_yes, called_or_no, called_xor_yes, called_xor_no, called_iff_yes, called_iff_no}
use Rattle.ae_rules.proofs.Standing.{opposite_twice}
use Rattle.ae_sat.specs.Apart.{AreConjunctive}
use Rattle.ae_sat.specs.Search.{IsCalled}
use Rattle.ae_sat.specs.Standing.{IsOneOf}
use Rattle.ae_sat.proofs.Layering.{top}
use Rattle.ae_sat.proofs.Surely.{gives}

-- ---- literals that come apart
splits : (l : Lit) → ComesApart l → (r : ℕ) → Contains (called_rows l.positive l.formula) r → Contains splitting_rows r
splits _ (comes_apart l rows parts) = rows

parts_of : (l : Lit) → ComesApart l → (r : ℕ) (m : Lit) → Contains (called_rows l.positive l.formula) r → row r l.formula ≡ Some (opposite l ∷ m ∷ []) → ComesApart m
parts_of _ (comes_apart l rows parts) = parts

one_not_two : (x y m : Lit) → Some (x ∷ []) ≡ Some (y ∷ m ∷ []) → ⊥
one_not_two x y m e = let q : 1 ≡ 2 = ap length (same_Some (x ∷ []) (y ∷ m ∷ []) e) in omega (arith, q)

true_apart : ComesApart (is_true True)
true_apart =
    let only : (r : ℕ) → Contains (called_rows true True) r → 15 ≡ r = λ r k. contains_one 15 r (subst (λ (w : List ℕ). Contains w r) (called_true true) k) in
    comes_apart (is_true True)
    (λ r k. subst (Contains splitting_rows) (only r k) (4, omega arith, refl))
    (λ r m k e. absurd (one_not_two (is_true True) (opposite (is_true True)) m (sym (row_true 15) ∙ (ap (λ (n : ℕ). row n True) (only r k) ∙ e))))

false_apart : ComesApart (is_false False)
false_apart =
    let only : (r : ℕ) → Contains (called_rows false False) r → 16 ≡ r = λ r k. contains_one 16 r (subst (λ (w : List ℕ). Contains w r) (called_false false) k) in
    comes_apart (is_false False)
    (λ r k. subst (Contains splitting_rows) (only r k) (5, omega arith, refl))
    (λ r m k e. absurd (one_not_two (is_false False) (opposite (is_false False)) m (sym (row_false 16) ∙ (ap (λ (n : ℕ). row n False) (only r k) ∙ e))))

-- ---- what a called row says
-- the literal leads to others, to one where the row leaves no choice; or the row is a literal that comes apart
abbrev Leads : Lit → ℕ → Clause → Type 0
Leads l r c = ((rest : Clause) × (c ≡ opposite l ∷ rest) × (Contains splitting_rows r → (m : Lit) × (rest ≡ m ∷ []))) ⊎ ((x : Lit) × (c ≡ x ∷ []) × ComesApart x)

member : (P : ℕ → Type 0) (ns : List ℕ) → AllByRecursion P ns → (r : ℕ) → Contains ns r → P r
member P [] h r k = absurd (omega (arith, k.1))
member P (n ∷ ns) h r (zero, l, e) = subst P e h.0
member P (n ∷ ns) h r (suc k, l, e) = member P ns h.1 r (k, omega (arith, l), e)

none_of : (r : ℕ) → list_all (λ n. not (nat_eq n r)) splitting_rows ≡ true → Contains splitting_rows r → ⊥
none_of r e k =
    let q : not (nat_eq r r) ≡ true = member (λ n. not (nat_eq n r) ≡ true) splitting_rows (all_of_test (λ n. not (nat_eq n r)) (λ n. not (nat_eq n r) ≡ true) (λ n h. h) splitting_rows e) r k in
    true≢false (sym q ∙ ap not (nat_eq_itself r))

module _ (f : Formula) (sign : Bool) where
  abbrev LeadsBy : ℕ → Type 0
  LeadsBy r = (c : Clause) → row r f ≡ Some c → Leads (record { positive = sign; formula = f }) r c

  among : (rows : List ℕ) → called_rows sign f ≡ rows → AllByRecursion LeadsBy rows → (r : ℕ) → Contains (called_rows sign f) r → LeadsBy r
  among rows e h r k = member LeadsBy rows h r (subst (λ (w : List ℕ). Contains w r) e k)

  one : (r : ℕ) (m : Lit) → row r f ≡ Some (opposite (record { positive = sign; formula = f }) ∷ m ∷ []) → LeadsBy r
  one r m e c q = inl (m ∷ [], same_Some c (opposite (record { positive = sign; formula = f }) ∷ m ∷ []) (sym q ∙ e), λ s. (m, refl))

  several : (r : ℕ) (rest : Clause) → row r f ≡ Some (opposite (record { positive = sign; formula = f }) ∷ rest) → list_all (λ n. not (nat_eq n r)) splitting_rows ≡ true → LeadsBy r
  several r rest e n c q = inl (rest, same_Some c (opposite (record { positive = sign; formula = f }) ∷ rest) (sym q ∙ e), λ s. absurd (none_of r n s))

  itself : (r : ℕ) (x : Lit) → row r f ≡ Some (x ∷ []) → ComesApart x → LeadsBy r
  itself r x e a c q = inr (x, same_Some c (x ∷ []) (sym q ∙ e), a)

abbrev AllLead : Formula → Type 0
AllLead f = (sign : Bool) (r : ℕ) → Contains (called_rows sign f) r → LeadsBy f sign r

of_and : (a b : Formula) → AllLead (And a b)
of_and a b true = among (And a b) true (1 ∷ 2 ∷ []) (called_and_yes a b) (one (And a b) true 1 (yes_of a) (row_and 1 a b), (one (And a b) true 2 (yes_of b) (row_and 2 a b), tt))
of_and a b false = among (And a b) false (3 ∷ []) (called_and_no a b) (several (And a b) false 3 (no_of a ∷ no_of b ∷ []) (row_and 3 a b) refl, tt)

of_or : (a b : Formula) → AllLead (Or a b)
of_or a b true = among (Or a b) true (6 ∷ []) (called_or_yes a b) (several (Or a b) true 6 (yes_of a ∷ yes_of b ∷ []) (row_or 6 a b) refl, tt)
of_or a b false = among (Or a b) false (4 ∷ 5 ∷ []) (called_or_no a b) (one (Or a b) false 4 (no_of a) (row_or 4 a b), (one (Or a b) false 5 (no_of b) (row_or 5 a b), tt))

of_iff : (a b : Formula) → AllLead (Iff a b)
of_iff a b true =
    among (Iff a b) true (7 ∷ 8 ∷ []) (called_iff_yes a b)
    (several (Iff a b) true 7 (no_of a ∷ yes_of b ∷ []) (row_iff 7 a b) refl, (several (Iff a b) true 8 (yes_of a ∷ no_of b ∷ []) (row_iff 8 a b) refl, tt))
of_iff a b false =
    among (Iff a b) false (9 ∷ 10 ∷ []) (called_iff_no a b)
    (several (Iff a b) false 9 (yes_of a ∷ yes_of b ∷ []) (row_iff 9 a b) refl, (several (Iff a b) false 10 (no_of a ∷ no_of b ∷ []) (row_iff 10 a b) refl, tt))

of_xor : (a b : Formula) → AllLead (Xor a b)
of_xor a b true =
    among (Xor a b) true (11 ∷ 12 ∷ []) (called_xor_yes a b)
    (several (Xor a b) true 11 (yes_of a ∷ yes_of b ∷ []) (row_xor 11 a b) refl, (several (Xor a b) true 12 (no_of a ∷ no_of b ∷ []) (row_xor 12 a b) refl, tt))
of_xor a b false =
    among (Xor a b) false (13 ∷ 14 ∷ []) (called_xor_no a b)
    (several (Xor a b) false 13 (no_of a ∷ yes_of b ∷ []) (row_xor 13 a b) refl, (several (Xor a b) false 14 (yes_of a ∷ no_of b ∷ []) (row_xor 14 a b) refl, tt))

no_row : (f : Formula) → ((r : ℕ) → row r f ≡ None) → AllLead f
no_row f n sign r k c e = never_some c (sym (n r) ∙ e)

leads : (f : Formula) → AllLead f
leads =
    by_formulas AllLead (λ q. Unit {0})
    (λ sign. among True sign (15 ∷ []) (called_true sign) (itself True sign 15 (is_true True) (row_true 15) true_apart, tt))
    (λ sign. among False sign (16 ∷ []) (called_false sign) (itself False sign 16 (is_false False) (row_false 16) false_apart, tt))
    (λ a b. no_row (Eq a b) (λ r. row_eq r a b))
    (λ a b. no_row (Lt a b) (λ r. row_lt r a b))
    (λ a b. no_row (Le a b) (λ r. row_le r a b))
    (λ q os us. no_row (Pred q os us) (λ r. row_pred r q os us))
    (λ a h. no_row (Not a) (λ r. row_not r a))
    (λ a b h k. of_and a b)
    (λ a b h k. of_or a b)
    (λ a b h k. of_xor a b)
    (λ a b h k. of_iff a b)
    (λ q h. no_row (All q) (λ r. row_all r q))
    (λ q h. no_row (Ex q) (λ r. row_ex r q))
    (λ q h. tt)

-- ---- the trail
false_opposite : (t : List Assigned) (m : Lit) → Holds t m → IsFalse t (opposite m)
false_opposite t m y = (y.0, y.1, y.2 ∙ sym (opposite_twice m))

-- u are the clauses at the start; each other one is a row that a true literal calls for
module _ (t : List Assigned) (u u2 : List Clause) (lawful : IsLawful t u2) (quiet : IsQuiet t u2) (base : last_level t ≡ 0) (kept : (c : Clause) → IsOneOf u c → IsOneOf u2 c)
    (from : (c : Clause) → IsOneOf u2 c → IsOneOf u c ⊎ IsCalled t c) (apart : AreConjunctive u) where
  unit_holds : (l : Lit) → IsOneOf u2 (l ∷ []) → Holds t l
  unit_holds l o = gives t u2 quiet (l ∷ []) l o (contains_here l []) (λ m h d. absurd (d (sym (contains_one l m h))))

  second_holds : (m l : Lit) → IsOneOf u2 (opposite m ∷ l ∷ []) → Holds t m → Holds t l
  second_holds m l o y = gives t u2 quiet (opposite m ∷ l ∷ []) l o (contains_later (opposite m) (l ∷ []) l (contains_here l [])) (λ n h d. elim (contains_cases (opposite m) (l ∷ []) n h) as (λ _. IsFalse t n) [
    | inl e ↦ subst (IsFalse t) e (false_opposite t m y)
    | inr i ↦ absurd (d (sym (contains_one l n i)))
  ])

  -- no literal of the trail is the opposite of another
  not_opposite : (j : ℕ) → j < length t → (m : Lit) → Holds t m → opposite m ≡ (at t j).lit → ⊥
  not_opposite j l m y e = consistent t lawful.apart m y (j, l, sym e)

  module _ (j : ℕ) (l : j < length t) (before : (i : ℕ) → i < j → ComesApart (at t i).lit) (k : ℕ) (why : IsReason t u2 j k) where
    by_old : IsOneOf u (clause u2 k) → ComesApart (at t j).lit
    by_old o =
        let s = apart (clause u2 k) o in
        elim s.2 as (λ _. ComesApart (at t j).lit) [
          | inl e ↦ subst ComesApart (contains_one s.0 (at t j).lit (subst (λ (w : Clause). Contains w (at t j).lit) e why.has)) s.1
          | inr p ↦ elim (contains_cases (opposite p.0) (s.0 ∷ []) (at t j).lit (subst (λ (w : Clause). Contains w (at t j).lit) p.3 why.has)) as (λ _. ComesApart (at t j).lit) [
            | inl q ↦ absurd (not_opposite j l p.0 (unit_holds p.0 (kept (p.0 ∷ []) p.2)) q)
            | inr i ↦ subst ComesApart (contains_one s.0 (at t j).lit i) s.1
          ]
        ]

    by_row : IsCalled t (clause u2 k) → ComesApart (at t j).lit
    by_row x = elim (leads x.0.formula x.0.positive x.1 x.3 (clause u2 k) x.4) as (λ _. ComesApart (at t j).lit) [
      | inl p ↦
          let there : Contains (opposite x.0 ∷ p.0) (at t j).lit = subst (λ (w : Clause). Contains w (at t j).lit) p.1 why.has in
          let here : Contains (clause u2 k) (opposite x.0) = subst (λ (w : Clause). Contains w (opposite x.0)) (sym p.1) (contains_here (opposite x.0) p.0) in
          let f = why.others (opposite x.0) here (not_opposite j l x.0 x.2) in
          let a : ComesApart x.0 = subst ComesApart (f.2 ∙ opposite_twice x.0) (before f.0 f.1) in
          let m = p.2 (splits x.0 a x.1 x.3) in
          let is : row x.1 x.0.formula ≡ Some (opposite x.0 ∷ m.0 ∷ []) = x.4 ∙ ap Some (p.1 ∙ ap (λ (w : Clause). opposite x.0 ∷ w) m.1) in
          elim (contains_cases (opposite x.0) p.0 (at t j).lit there) as (λ _. ComesApart (at t j).lit) [
            | inl q ↦ absurd (not_opposite j l x.0 x.2 q)
            | inr i ↦ subst ComesApart (contains_one m.0 (at t j).lit (subst (λ (w : Clause). Contains w (at t j).lit) m.1 i)) (parts_of x.0 a x.1 m.0 x.3 is)
          ]
      | inr p ↦ subst ComesApart (contains_one p.0 (at t j).lit (subst (λ (w : Clause). Contains w (at t j).lit) p.1 why.has)) p.2
    ]

    by_clause : IsOneOf u (clause u2 k) ⊎ IsCalled t (clause u2 k) → ComesApart (at t j).lit
    by_clause (inl o) = by_old o
    by_clause (inr x) = by_row x

  by_reason : (j : ℕ) → j < length t → ((i : ℕ) → i < j → ComesApart (at t i).lit) → (o : Option ℕ) → Enters t u2 j o → ComesApart (at t j).lit
  by_reason j l before None e = absurd (omega (arith, e, base, top t u2 lawful (length t) j refl l))
  by_reason j l before (Some k) e = by_clause j l before k e.1 (from (clause u2 k) (k, e.1.within, refl))

  come_fuel : (n j : ℕ) → j < n → j < length t → ComesApart (at t j).lit
  come_fuel zero j h l = absurd (omega (arith, h))
  come_fuel (suc n) j h l = by_reason j l (λ i lt. come_fuel n i (omega (arith, lt, h)) (omega (arith, lt, l))) (at t j).by (lawful.enters j l)

  -- each literal of the trail comes apart
  come : (l : Lit) → Holds t l → ComesApart l
  come l y = subst ComesApart y.2 (come_fuel (suc y.0) y.0 (omega arith) y.1)

  -- each clause has a true literal
  pub all_hold : (k : ℕ) → k < length u2 → HasTrue t (clause u2 k)
  all_hold k l = elim (from (clause u2 k) (k, l, refl)) as (λ _. HasTrue t (clause u2 k)) [
    | inl o ↦
        let s = apart (clause u2 k) o in
        elim s.2 as (λ _. HasTrue t (clause u2 k)) [
          | inl e ↦ subst (HasTrue t) (sym e) (s.0, contains_here s.0 [], unit_holds s.0 (k, l, e))
          | inr p ↦
              let y = second_holds p.0 s.0 (k, l, p.3) (unit_holds p.0 (kept (p.0 ∷ []) p.2)) in
              subst (HasTrue t) (sym p.3) (s.0, contains_later (opposite p.0) (s.0 ∷ []) s.0 (contains_here s.0 []), y)
        ]
    | inr x ↦ elim (leads x.0.formula x.0.positive x.1 x.3 (clause u2 k) x.4) as (λ _. HasTrue t (clause u2 k)) [
      | inl p ↦
          let m = p.2 (splits x.0 (come x.0 x.2) x.1 x.3) in
          let is : clause u2 k ≡ opposite x.0 ∷ m.0 ∷ [] = p.1 ∙ ap (λ (w : Clause). opposite x.0 ∷ w) m.1 in
          let y = second_holds x.0 m.0 (k, l, is) x.2 in
          subst (HasTrue t) (sym is) (m.0, contains_later (opposite x.0) (m.0 ∷ []) m.0 (contains_here m.0 []), y)
      | inr p ↦ subst (HasTrue t) (sym p.1) (p.0, contains_here p.0 [], unit_holds p.0 (k, l, p.1))
    ]
  ]
