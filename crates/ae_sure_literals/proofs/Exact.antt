-- What is flagged is what surely stands.
use Rattle.std.specs.Prelude.{ℕ, zero, suc, ◌+◌, ◌<◌, ◌≡◌, ◌≢◌, Bool, true, List, [], ◌∷◌, ◌++◌, ◌⊎◌, length, take, get_or, map, Option, Some, None}
use Rattle.std.specs.List.{Contains}
use Rattle.std.proofs.Common.{refl, sym, ap, ◌∙◌, subst, arith, inl, inr}
use Rattle.std.proofs.lemmas.List.{length-map, map_push, take_more}
use Rattle.ae_base.proofs.AllOf.{all_from_places}
use Rattle.ae_base.proofs.Tests.{false_true}
use Rattle.ae_core.specs.declared.formulas.Lit.{Lit}
use Rattle.ae_explain.specs.Trail.{Apart, at}
use Rattle.ae_explain.specs.declared.trail.Assigned.{Assigned}
use Rattle.ae_journal.proofs.Splits.{all_contained, contains_at, contains_cases, contains_here, contains_later}
use Rattle.ae_journal.specs.Journals.{IsDecided, decisions, live}
use Rattle.ae_journal.specs.Standing.{IsGiven, Setting, SurelyStands}
use Rattle.ae_journal.specs.Standing.SurelyStands.{by_decision, by_given, by_row}
use Rattle.ae_journal.specs.declared.lines.Line.{Line}
use Rattle.ae_propagation.proofs.Members.{lit_cases}
use Rattle.ae_propagation.proofs.Trails.{consistent, same_place}
use Rattle.ae_propagation.specs.Settled.{Holds}
use Rattle.ae_rules.specs.Clauses.{Clause, opposite, row}
use Rattle.ae_rules.specs.Defining.{called_rows}
use Rattle.ae_sat.proofs.Called.{called_or_own}
use Rattle.ae_sat.specs.Standing.{decided_lits, with_decision}
use Rattle.ae_sure_literals.proofs.GivenClauses.{all_collected, all_force}
use Rattle.ae_sure_literals.specs.Inner.Closing.{AreRight, AreRowsClosed, Closes, IsClosed, IsClosedAt, IsFlagged, IsOtherFailing, IsRowClosed, ArePlacesClosed, flag, is_decision, none_by}
use Rattle.ae_sure_literals.specs.Inner.Given.{given_in}
use Rattle.ae_sure_literals.specs.Sure.{AreSure}

-- ---- decisions
pub decided_next : (t : List Assigned) (i : ℕ) (a : Assigned) → i < length t → a ≡ get_or t i a → map is_decision (take i t) ++ is_decision a ∷ [] ≡ map is_decision (take (i + 1) t)
decided_next t i a l e = sym (map_push is_decision (take i t) a) ∙ ap (map is_decision) (ap (λ (y : Assigned). take i t ++ y ∷ []) e ∙ sym (take_more t i a l))

decision_listed : (t : List Assigned) (k : ℕ) → k < length t → flag (map is_decision t) k ≡ true → Contains (decided_lits t) (at t k).lit
decision_listed [] k l f = absurd (omega (arith, l))
decision_listed (a ∷ t) zero l f = here a.by f
  where
    here : (o : Option ℕ) → none_by o ≡ true → Contains (with_decision o a.lit (decided_lits t)) a.lit
    here None e = contains_here a.lit (decided_lits t)
    here (Some n) e = false_true e
decision_listed (a ∷ t) (suc k) l f = behind a.by (decision_listed t k (omega (arith, l)) f)
  where
    behind : (o : Option ℕ) → Contains (decided_lits t) (at t k).lit → Contains (with_decision o a.lit (decided_lits t)) (at t k).lit
    behind None h = contains_later a.lit (decided_lits t) (at t k).lit h
    behind (Some n) h = h

further : (t : List Assigned) (fs : List Bool) (a : Assigned) (b : Bool) (l : Lit) → IsFlagged t fs l → IsFlagged (a ∷ t) (b ∷ fs) l
further t fs a b l y = record { place = suc y.place; within = omega (arith, y.within); is = y.is; flagged = y.flagged }

decision_flagged : (t : List Assigned) (l : Lit) → Contains (decided_lits t) l → IsFlagged t (map is_decision t) l
decision_flagged [] l h = absurd (omega (arith, h.1))
decision_flagged (a ∷ t) l h = by_reason a.by refl (decision_flagged t l) h
  where
    first : a.by ≡ None → (Contains (decided_lits t) l → IsFlagged t (map is_decision t) l) → (a.lit ≡ l) ⊎ Contains (decided_lits t) l → IsFlagged (a ∷ t) (map is_decision (a ∷ t)) l
    first e ih (inl q) = record { place = 0; within = omega arith; is = q; flagged = ap none_by e }
    first e ih (inr m) = further t (map is_decision t) a (is_decision a) l (ih m)

    by_reason : (o : Option ℕ) → a.by ≡ o → (Contains (decided_lits t) l → IsFlagged t (map is_decision t) l) → Contains (with_decision o a.lit (decided_lits t)) l
        → IsFlagged (a ∷ t) (map is_decision (a ∷ t)) l
    by_reason None e ih k = first e ih (contains_cases a.lit (decided_lits t) l k)
    by_reason (Some n) e ih k = further t (map is_decision t) a (is_decision a) l (ih k)

-- ---- all that surely stands is flagged
module _ (x : Setting) (js : List Line) (t : List Assigned) (fs : List Bool) (apart : Apart t) (decided : (l : Lit) → IsDecided js l → IsFlagged t fs l)
    (clauses : (c : Clause) → IsGiven x js c → IsClosed t fs c) (rows : ArePlacesClosed t fs (length t)) (holds : (l : Lit) → SurelyStands x js l → Holds t l) where
  by_clause : (c : Clause) (l : Lit) → IsClosed t fs c → Contains c l → ((m : Lit) → Contains c m → m ≢ l → IsFlagged t fs (opposite m)) → Holds t l → IsFlagged t fs l
  by_clause c l closed h others held =
      all_contained (IsClosedAt t fs c) c l closed h (all_from_places (IsOtherFailing t fs l) c (λ k m at_k d. others m (contains_at c k m at_k) d)) held

  closed_row : (w : Lit) (r : ℕ) (c : Clause) → IsFlagged t fs w → Contains (called_rows w.positive w.formula) r → row r w.formula ≡ Some c → Contains c (opposite w) → IsClosed t fs c
  closed_row w r c y n e o =
      let all : AreRowsClosed t fs w = subst (AreRowsClosed t fs) y.is (rows y.place y.within y.flagged) in
      all_contained (IsRowClosed t fs w) (called_rows w.positive w.formula) r all n c e o

  complete : (l : Lit) → SurelyStands x js l → IsFlagged t fs l
  complete l (by_decision _ d) = decided l d
  complete l (by_given c _ b h others) = by_clause c l (clauses c b) h (λ m k d. complete (opposite m) (others m k d)) (holds l (by_given c l b h others))
  complete l (by_row w _ r c s e o h others) =
      let y = complete w s in
      elim (called_or_own w.formula w.positive r c e) as (λ _. IsFlagged t fs l) [
        | inl n ↦ by_clause c l (closed_row w r c y n e o) h (λ m k d. complete (opposite m) (others m k d)) (holds l (by_row w l r c s e o h others))
        | inr own ↦ elim (lit_cases w l) as (λ _. IsFlagged t fs l) [
          | inl q ↦ subst (IsFlagged t fs) q y
          | inr d ↦ absurd (consistent t apart w (y.place, y.within, y.is) (holds (opposite w) (others w own d)))
        ]
      ]

  pub is_flagged : (k : ℕ) → k < length t → SurelyStands x js (at t k).lit → flag fs k ≡ true
  is_flagged k w s =
      let y = complete (at t k).lit s in
      ap (flag fs) (sym (same_place t apart y.place k y.within w (ap (λ (l : Lit). l.formula) y.is))) ∙ y.flagged

-- ---- both together
module _ (x : Setting) (js : List Line) (t : List Assigned) (fs : List Bool) (apart : Apart t) (stood : decisions (live js) ≡ decided_lits t) (holds : (l : Lit) → SurelyStands x js l → Holds t l)
    (closes : Closes t (given_in x.problem x.goal js) (map is_decision t) fs) where
  right_first : AreRight x js t (map is_decision t)
  right_first k w f = by_decision (at t k).lit (subst (λ (ls : List Lit). Contains ls (at t k).lit) (sym stood) (decision_listed t k w f))

  flagged_still : (l : Lit) → IsDecided js l → IsFlagged t fs l
  flagged_still l d =
      let y = decision_flagged t l (subst (λ (ls : List Lit). Contains ls l) stood d) in
      record { place = y.place; within = y.within; is = y.is; flagged = closes.kept y.place y.flagged }

  given_closed : (c : Clause) → IsGiven x js c → IsClosed t fs c
  given_closed c b = all_contained (IsClosed t fs) (given_in x.problem x.goal js) c closes.clauses (all_collected x js c b)

  pub are_sure : AreSure x js t fs
  are_sure = record {
    one_each = closes.long ∙ length-map t is_decision;
    exact = λ k w. (λ f. closes.right x js (all_force x js) right_first k w f, λ s. is_flagged x js t fs apart flagged_still given_closed closes.rows holds k w s);
  }
