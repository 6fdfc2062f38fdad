-- Where a run without a decision makes a literal of a new clause true, the clause has another literal that was false already.
use Rattle.std.specs.Prelude.{ℕ, zero, suc, ◌+◌, ◌-◌, ◌<◌, ◌≤◌, ◌≡◌, ◌≢◌, Bool, true, false, List, [], ◌∷◌, ◌++◌, length, Option, Some, None}
use Rattle.std.specs.List.{Contains}
use Rattle.std.proofs.Common.{refl, sym, ap, ◌∙◌, subst, arith, inl, inr}
use Rattle.std.proofs.lemmas.Bool.{cases_eq, cases_lt}
use Rattle.ae_base.proofs.Tests.{by_bool, not_both, true_false}
use Rattle.ae_core.specs.declared.formulas.Formula.{Formula, Formula-F, Eq, Lt, out-Formula}
use Rattle.ae_core.specs.declared.formulas.Formula.TheOpen as layer
use Rattle.ae_core.specs.declared.formulas.Formula.TheVariants.{outs-Eq, outs-Lt}
use Rattle.ae_core.specs.declared.formulas.Lit.{Lit}
use Rattle.ae_core.specs.declared.formulas.Quant.{Quant}
use Rattle.ae_core.specs.declared.terms.Term.{Term}
use Rattle.ae_explain.proofs.Places.{rises}
use Rattle.ae_explain.specs.Trail.{at, clause, level_before, Enters, IsFalse, IsFalseBelow, IsLawful, OthersAreFalse}
use Rattle.ae_explain.specs.declared.trail.Assigned.{Assigned}
use Rattle.ae_journal.proofs.Splits.{all_contained, contains_here, contains_later, contains_one}
use Rattle.ae_order_counts.proofs.Denying.{constant_by, denials, is_constant}
use Rattle.ae_order_counts.specs.Counts.{IsOrderOpen}
use Rattle.ae_order_counts.specs.Trails.{IsOpenTrail}
use Rattle.ae_propagation.proofs.Members.{lit_cases}
use Rattle.ae_propagation.proofs.Trails.{at_old, before_old, consistent, same_place}
use Rattle.ae_propagation.specs.Settled.{Holds, HasTrue}
use Rattle.ae_rules.proofs.Standing.{opposite_twice}
use Rattle.ae_rules.specs.Clauses.{Clause, is_true, opposite, row}
use Rattle.ae_rules.specs.Defining.{called_rows}
use Rattle.ae_sat.proofs.Learnt.{one_more}
use Rattle.ae_sat.specs.Search.{Brings, IsCalled}
use Rattle.ae_sat.specs.Standing.{IsOneOf}

-- ---- the first place from k on where a test fails
record IsFirst (test : ℕ → Bool) (k i : ℕ) : Type 0 where
  pub from : k ≤ i
  pub fails : test i ≡ false
  pub before : (j : ℕ) → k ≤ j → j < i → test j ≡ true

first_from : (test : ℕ → Bool) (k left : ℕ) → test (k + left) ≡ false → (i : ℕ) × (i ≤ k + left) × IsFirst test k i
first_from test k zero e =
    let same : k + 0 ≡ k = omega arith in
    (k, omega arith, record { from = omega arith; fails = subst (λ (m : ℕ). test m ≡ false) same e; before = λ j a b. absurd (omega (arith, a, b)) })
first_from test k (suc left) e =
    by_bool (test k)
    (λ y. let same : k + suc left ≡ suc k + left = omega arith in
    let w = first_from test (suc k) left (subst (λ (m : ℕ). test m ≡ false) same e) in
    let low = w.2.from in
    let high = w.1 in (
      w.0,
      omega (arith, high),
      record {
        from = omega (arith, low);
        fails = w.2.fails;
        before = λ j a b. elim (cases_eq j k) as (λ _. test j ≡ true) [ inl q ↦ subst (λ (m : ℕ). test m ≡ true) (sym q) y | inr d ↦ w.2.before j (omega (arith, a, d)) b ];
      },
    ))
    (λ n. (k, omega arith, record { from = omega arith; fails = n; before = λ j a b. absurd (omega (arith, a, b)) }))

-- ---- levels along a lawful trail
levels_rise : (t : List Assigned) (clauses : List Clause) → IsLawful t clauses → (m i : ℕ) → m ≤ i → i ≤ length t → level_before t m ≤ level_before t i
levels_rise t clauses lawful zero i h l = omega arith
levels_rise t clauses lawful (suc m) zero h l = absurd (omega (arith, h))
levels_rise t clauses lawful (suc m) (suc i) h l = rises t clauses lawful m i (omega (arith, h)) (omega (arith, l))

-- ---- an equation is no inequality
abbrev equation_by : Formula-F Formula Quant → Bool
equation_by (layer.Eq s u) = true
equation_by _ = false

unlike : (s u a b : Term) → Eq s u ≢ Lt a b
unlike s u a b e = true_false (sym (ap equation_by (outs-Eq s u)) ∙ ap (λ (f : Formula). equation_by (out-Formula f)) e ∙ ap equation_by (outs-Lt a b))

-- ---- the clause of the order of two terms
abbrev pub order_clause : Term → Term → Clause
order_clause s u = is_true (Eq s u) ∷ is_true (Lt s u) ∷ is_true (Lt u s) ∷ []

pub each_literal : (s u : Term) (P : Lit → Type 0) → P (is_true (Eq s u)) → P (is_true (Lt s u)) → P (is_true (Lt u s)) → (m : Lit) → Contains (order_clause s u) m → P m
each_literal s u P a b c m h = all_contained P (order_clause s u) m (a, (b, (c, tt))) h

no_constant : (s u : Term) (m : Lit) → Contains (order_clause s u) m → is_constant m.formula ≡ false
no_constant s u = each_literal s u (λ m. is_constant m.formula ≡ false) (ap constant_by (outs-Eq s u)) (ap constant_by (outs-Lt s u)) (ap constant_by (outs-Lt u s))

untrue : (t : List Assigned) (s u : Term) → IsOrderOpen t s u → (m : Lit) → Contains (order_clause s u) m → ¬ Holds t m
untrue t s u o = each_literal s u (λ m. ¬ Holds t m) o.equal o.below o.above

module _ (t more : List Assigned) (clauses clauses2 : List Clause) (s u : Term) (old : IsOpenTrail t clauses) (is_open : IsOrderOpen t s u)
    (brings : Brings t (clauses ++ order_clause s u ∷ []) (t ++ more) clauses2) (there : IsOneOf clauses2 (order_clause s u)) (new : IsOpenTrail (t ++ more) clauses2) where
  abbrev now : List Assigned
  now = t ++ more

  abbrev constant_at : ℕ → Bool
  constant_at j = is_constant (at now j).lit.formula

  pub one_true : HasTrue now (order_clause s u)
  one_true = subst (HasTrue now) there.2 (new.all_true.clauses_true there.0 there.1)

  -- the first place behind the old ones whose literal isn't of a constant
  first : (i : ℕ) × (i < length now) × IsFirst constant_at (length t) i
  first =
      let m = one_true.0 in
      let p = one_true.2.0 in
      let within = one_true.2.1 in
      let behind : length t ≤ p = elim (cases_lt p (length t)) as (λ _. length t ≤ p) [
        | inl l ↦ absurd (untrue t s u is_open m one_true.1 (p, l, ap (λ (a : Assigned). a.lit) (sym (at_old t more p l)) ∙ one_true.2.2))
        | inr g ↦ g
      ] in
      let same : p ≡ length t + (p - length t) = omega (arith, behind) in
      let none : constant_at p ≡ false = ap (λ (x : Lit). is_constant x.formula) one_true.2.2 ∙ no_constant s u m one_true.1 in
      let w = first_from constant_at (length t) (p - length t) (subst (λ (q : ℕ). constant_at q ≡ false) same none) in
      let high = w.1 in
      (w.0, omega (arith, high, behind, within), w.2)

  abbrev place : ℕ
  place = first.0

  abbrev own : Lit
  own = (at now place).lit

  -- a literal that is no constant and is false before that place was false
  early : (m : Lit) → is_constant m.formula ≡ false → IsFalseBelow now place m → IsFalse t m
  early m n f = elim (cases_lt f.0 (length t)) as (λ _. IsFalse t m) [
    | inl l ↦ (f.0, l, ap (λ (a : Assigned). a.lit) (sym (at_old t more f.0 l)) ∙ f.2)
    | inr g ↦ not_both (constant_at f.0) (first.2.before f.0 g f.1) (ap (λ (x : Lit). is_constant x.formula) f.2 ∙ n)
  ]

  -- the clause that makes it true is none of the old ones
  of_old : (d : Clause) → IsOneOf clauses d → OthersAreFalse now place own d → ⊥
  of_old d o others =
      let w : HasTrue t d = subst (HasTrue t) o.2 (old.all_true.clauses_true o.0 o.1) in
      let within = first.1 in
      let from = first.2.from in
      let l = w.2.1 in
      let h : Holds now w.0 = (w.2.0, omega (arith, within, from, l), ap (λ (a : Assigned). a.lit) (at_old t more w.2.0 l) ∙ w.2.2) in
      elim (lit_cases w.0 own) as (λ _. ⊥) [
        | inl e ↦ let q = same_place now new.lawful.apart w.2.0 place h.1 first.1 (ap (λ (x : Lit). x.formula) (h.2 ∙ e)) in absurd (omega (arith, q, from, l))
        | inr n ↦
            let f = others w.0 w.1 n in
            let k = f.1 in
            consistent now new.lawful.apart w.0 h (f.0, omega (arith, k, within), f.2)
      ]

  -- nor a row that a true literal calls for
  of_called : (d : Clause) → IsCalled now d → Contains d own → OthersAreFalse now place own d → ⊥
  of_called d (l, r, h, k, e) has others = elim (denials l.formula l.positive r k d e) as (λ _. ⊥) [
    | inl w ↦ elim (lit_cases (opposite l) own) as (λ _. ⊥) [
      | inl q ↦ consistent now new.lawful.apart l h (place, first.1, sym q)
      | inr n ↦
          let f = others (opposite l) w.1 n in
          let g : (at now f.0).lit ≡ l = f.2 ∙ opposite_twice l in
          elim (cases_lt f.0 (length t)) as (λ _. ⊥) [
            | inl b ↦
                let same : (at t f.0).lit ≡ l = ap (λ (a : Assigned). a.lit) (sym (at_old t more f.0 b)) ∙ g in
                of_old d (old.all_true.rows f.0 r d b b (subst (λ (x : Lit). Contains (called_rows x.positive x.formula) r) (sym same) k) (subst (λ (x : Lit). row r x.formula ≡ Some d) (sym same) e)) others
            | inr b ↦ not_both (is_constant l.formula) (subst (λ (x : Lit). is_constant x.formula ≡ true) g (first.2.before f.0 b f.1)) w.0
          ]
    ]
    | inr w ↦ not_both (is_constant own.formula) (subst (λ (x : Lit). is_constant x.formula ≡ true) (contains_one w.0 own (subst (λ (c : Clause). Contains c own) w.1 has)) w.2) first.2.fails
  ]

  abbrev HasFalse : Type 0
  HasFalse = (m : Lit) × Contains (order_clause s u) m × IsFalse t m

  of_new : (d : Clause) → d ≡ order_clause s u → OthersAreFalse now place own d → HasFalse
  of_new d e others =
      let other : (m : Lit) → Contains (order_clause s u) m → m ≢ own → HasFalse =
      λ m k n. (m, k, early m (no_constant s u m k) (others m (subst (λ (c : Clause). Contains c m) (sym e) k) n)) in
      elim (lit_cases (is_true (Eq s u)) own) as (λ _. HasFalse) [
        | inl q ↦ other (is_true (Lt s u)) (contains_later (is_true (Eq s u)) (is_true (Lt s u) ∷ is_true (Lt u s) ∷ []) (is_true (Lt s u)) (contains_here (is_true (Lt s u)) (is_true (Lt u s) ∷ [])))
            (λ r. unlike s u s u (ap (λ (x : Lit). x.formula) (q ∙ sym r)))
        | inr n ↦ other (is_true (Eq s u)) (contains_here (is_true (Eq s u)) (is_true (Lt s u) ∷ is_true (Lt u s) ∷ [])) n
      ]

  by_reason : (b : Option ℕ) → Enters now clauses2 place b → HasFalse
  by_reason None e =
      let within = first.1 in
      let from = first.2.from in
      let low = levels_rise now clauses2 new.lawful (length t) place from (omega (arith, within)) in
      let high = levels_rise now clauses2 new.lawful (suc place) (length now) (omega (arith, within)) (omega arith) in
      let same = before_old t more (length t) (omega arith) in
      let level = brings.level in
      absurd (omega (arith, e, low, high, same, level))
  by_reason (Some k) e = elim (brings.from (clause clauses2 k) (k, e.1.within, refl)) as (λ _. HasFalse) [
    | inl o ↦ elim (one_more clauses (order_clause s u) (clause clauses2 k) o) as (λ _. HasFalse) [
      | inl q ↦ absurd (of_old (clause clauses2 k) q e.1.others)
      | inr q ↦ of_new (clause clauses2 k) q e.1.others
    ]
    | inr c ↦ absurd (of_called (clause clauses2 k) c e.1.has e.1.others)
  ]

  pub one_false : HasFalse
  one_false = by_reason (at now place).by (new.lawful.enters place first.1)
