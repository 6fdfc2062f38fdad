-- What surely stands is in a settled trail.
use Rattle.std.proofs.Common.{◌≡◌, ◌≢◌, List, sym, ap, subst, Some, None, inl, inr}
use Rattle.std.specs.List.{Contains}
use Rattle.ae_rules.specs.Clauses.{Clause, opposite, row}
use Rattle.ae_core.specs.declared.formulas.Lit.{Lit}
use Rattle.ae_rules.specs.Defining.{called_rows}
use Rattle.ae_explain.specs.declared.trail.Assigned.{Assigned}
use Rattle.ae_explain.specs.Trail.{place_in, Apart, IsFalse}
use Rattle.ae_journal.specs.declared.lines.Line.{Line}
use Rattle.ae_journal.specs.Standing.SurelyStands.{by_decision, by_given, by_row}
use Rattle.ae_propagation.specs.Settled.{Holds, IsQuiet, HasTrue}
use Rattle.ae_sat.specs.Standing.{IsOneOf}
use Rattle.ae_sat.specs.Laws.{IsSettled}
use Rattle.ae_propagation.proofs.Trails.{consistent, no_place}
use Rattle.ae_sat.proofs.Called.{called_or_own}
use Rattle.ae_propagation.proofs.Members.{lit_cases}
use Rattle.ae_journal.specs.Standing.{IsPossible, Setting, SurelyStands}
use Rattle.ae_journal.specs.SolverLines.{MayDecide}

open_not_held : (t : List Assigned) → Apart t → (m : Lit) → place_in t m.formula ≡ None → Holds t m → ⊥
open_not_held t apart m e h = no_place t apart m.formula e h.0 h.1 (ap (λ (x : Lit). x.formula) h.2)

-- a clause of the trail's clauses gives its one literal that isn't false
pub gives : (t : List Assigned) (clauses : List Clause) → IsQuiet t clauses → (c : Clause) (l : Lit) → IsOneOf clauses c → Contains c l → ((m : Lit) → Contains c m → m ≢ l → IsFalse t m) → Holds t l
gives t clauses quiet c l o h others =
    quiet.units o.0 l o.1 (subst (λ (w : Clause). Contains w l) (sym o.2) h) (λ m k d. others m (subst (λ (w : Clause). Contains w m) o.2 k) d)

module _ (setting : Setting) (js : List Line) (t : List Assigned) (clauses : List Clause) (settled : IsSettled setting js t clauses) where
  pub surely_holds : (l : Lit) → SurelyStands setting js l → Holds t l
  surely_holds l (by_decision _ d) = settled.decided l d
  surely_holds l (by_given c _ b h others) = gives t clauses settled.quiet c l (settled.given c b) h (λ m k d. surely_holds (opposite m) (others m k d))
  surely_holds l (by_row w _ r c s e o h others) =
      let y = surely_holds w s in
      elim (called_or_own w.formula w.positive r c e) as (λ _. Holds t l) [
        | inl n ↦
            gives t clauses settled.quiet c l
            (settled.rows y.0 r c y.1 y.1
            (subst (λ (x : Lit). Contains (called_rows x.positive x.formula) r) (sym y.2) n)
            (subst (λ (x : Lit). row r x.formula ≡ Some c) (sym y.2) e))
            h (λ m k d. surely_holds (opposite m) (others m k d))
        | inr own ↦ elim (lit_cases w l) as (λ _. Holds t l) [
          | inl q ↦ subst (Holds t) q y
          | inr d ↦ absurd (consistent t settled.lawful.apart w y (surely_holds (opposite w) (others w own d)))
        ]
      ]

  pub open_may_be_decided : (c : Clause) (l : Lit) → IsPossible setting js c → Contains c l → place_in t l.formula ≡ None → (HasTrue t c → ⊥) → MayDecide setting js l
  open_may_be_decided c l possible h e untrue = record {
    open_still = λ s. open_not_held t settled.lawful.apart l e (surely_holds l s);
    open_other = λ s. open_not_held t settled.lawful.apart (opposite l) e (surely_holds (opposite l) s);
    clause = c;
    possible = possible;
    of_it = h;
    unmet = λ m k s. untrue (m, k, surely_holds m s);
  }
