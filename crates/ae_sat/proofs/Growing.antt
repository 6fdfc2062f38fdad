-- A trail that grows by unit clauses keeps a solver in line with its journal.
use Rattle.std.proofs.Common.{◌≡◌, ◌≢◌, ℕ, suc, ◌-◌, ◌<◌, ◌≤◌, List, [], ◌∷◌, ◌++◌, length, refl, sym, ◌∙◌, ap, subst, arith, inl, inr, Option, Some, None, length-append, append-nil}
use Rattle.std.specs.List.{Contains}
use Rattle.std.proofs.lemmas.Bool.{cases_lt}
use Rattle.std.proofs.lemmas.List.{take-append-le, get_or-append_right}
use Rattle.ae_rules.specs.Clauses.{Clause, row}
use Rattle.ae_core.specs.declared.formulas.Lit.{Lit}
use Rattle.ae_core.specs.declared.proofs.ClauseLine.{ClauseLine}
use Rattle.ae_rules.specs.Defining.{called_rows}
use Rattle.ae_explain.specs.declared.trail.Assigned.{Assigned}
use Rattle.ae_explain.specs.Trail.{at, nothing, IsLawful}
use Rattle.ae_journal.specs.declared.lines.Line.{Line}
use Rattle.ae_theory.specs.Tagged.{Tagged}
use Rattle.ae_propagation.specs.Settled.{Grown}
use Rattle.ae_sat.specs.Standing.{IsOneOf, HasRows, with_decision, decided_lits}
use Rattle.ae_sat.specs.Marked.{atoms, IsRunning}
use Rattle.ae_sat.specs.Search.{IsLawfulState}
use Rattle.ae_propagation.proofs.Trails.{at_old}
use Rattle.ae_propagation.proofs.Settling.{last_stays}
use Rattle.ae_sat.proofs.Decisions.{lits_append}
use Rattle.ae_sat.proofs.Layering.{layered_grown}
use Rattle.ae_journal.specs.Standing.{IsGiven, Setting}

none_decided : (more : List Assigned) → ((i : ℕ) → i < length more → (at more i).by ≢ None) → decided_lits more ≡ []
none_decided [] h = refl
none_decided (a ∷ more) h = by_reason a.by refl (none_decided more (λ i l. h (suc i) (omega (arith, l))))
  where
    by_reason : (o : Option ℕ) → a.by ≡ o → decided_lits more ≡ [] → with_decision o a.lit (decided_lits more) ≡ []
    by_reason None e ih = absurd (h 0 (omega arith) e)
    by_reason (Some k) e ih = ih

at_more : (t more : List Assigned) (j : ℕ) → length t ≤ j → at (t ++ more) j ≡ at more (j - length t)
at_more t more j h = get_or-append_right t more (length t) j nothing refl h

pub rows_grown : (t more : List Assigned) (n : ℕ) (u : List Clause) → n ≤ length t → HasRows t n u → HasRows (t ++ more) n u
rows_grown t more n u h rows j r c l k i e =
    let q : at (t ++ more) j ≡ at t j = at_old t more j (omega (arith, l, h)) in
    rows j r c l (omega (arith, l, h)) (subst (λ (x : Assigned). Contains (called_rows x.lit.positive x.lit.formula) r) q i) (subst (λ (x : Assigned). row r x.lit.formula ≡ Some c) q e)

pub grown_state : (setting : Setting) (t new : List Assigned) (u : List Clause) (n : ℕ) (ks : List ClauseLine) (js : List Line) → Grown t new → n ≤ length t
    → IsLawfulState setting t u n ks js → IsLawfulState setting new u n ks js
grown_state setting t new u n ks js grown small s =
    subst (λ (w : List Assigned). IsLawfulState setting w u n ks js) (sym grown.is) (record {
      possible = s.possible;
      formulas = s.formulas;
      given = s.given;
      rows = rows_grown t grown.more n u small s.rows;
      layered = layered_grown t grown.more (IsGiven setting js) (last_stays t grown.more grown.levels) grown.levels s.layered;
      sources = s.sources;
      again = s.again;
    })

module _ {T M : Type 0} (assumed : T → List Tagged) (fits_mark : T → M → T → Type 0) (in_step : T → List Line → Type 0) where
  pub grown_runs : (theory : T) (marks : List M) (t new : List Assigned) (u : List Clause) (told : ℕ) (standing : List Line) → Grown t new → IsLawful new u → told ≤ length t
      → IsRunning assumed fits_mark in_step theory marks t u told standing → IsRunning assumed fits_mark in_step theory marks new u told standing
  grown_runs theory marks t new u told standing grown lawful small r =
      let more = grown.more in
      subst (λ (w : List Assigned). IsRunning assumed fits_mark in_step theory marks w u told standing) (sym grown.is) (record {
        lawful = subst (λ (w : List Assigned). IsLawful w u) grown.is lawful;
        count = r.count ∙ sym (last_stays t more grown.levels);
        marked = λ k d h.
            let m = r.marked k d h in
            let q : at (t ++ more) m.place ≡ at t m.place = at_old t more m.place m.within in
            record {
              then = m.then;
              fits = m.fits;
              place = m.place;
              within = omega (arith, m.within, length-append t more);
              decision = ap (λ (a : Assigned). a.by) q ∙ m.decision;
              level = ap (λ (a : Assigned). a.level) q ∙ m.level;
              assumed_then = m.assumed_then ∙ ap atoms (sym (take-append-le m.place t more (omega (arith, m.within))));
              step = m.step;
            };
        step = r.step;
        decided = r.decided ∙ sym (lits_append t more ∙ (ap (λ (w : List Lit). decided_lits t ++ w) (none_decided more grown.by_clauses) ∙ append-nil (decided_lits t)));
        told_all = r.told_all ∙ ap atoms (sym (take-append-le told t more small));
        stands = λ j l b. elim (cases_lt j (length t)) as (λ _. (c : Clause) × IsOneOf u c × Contains c (at (t ++ more) j).lit) [
          | inl lt ↦
              let q : at (t ++ more) j ≡ at t j = at_old t more j lt in
              subst (λ (a : Assigned). (c : Clause) × IsOneOf u c × Contains c a.lit) (sym q) (r.stands j lt (ap (λ (a : Assigned). a.by) (sym q) ∙ b))
          | inr ge ↦ absurd (grown.by_clauses (j - length t) (omega (arith, ge, l, length-append t more)) (ap (λ (a : Assigned). a.by) (sym (at_more t more j ge)) ∙ b))
        ];
      })
