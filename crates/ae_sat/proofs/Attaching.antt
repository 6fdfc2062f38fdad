-- A line `Learn`, and a clause more.
use Rattle.std.proofs.Common.{◌≡◌, ℕ, ◌<◌, List, [], ◌∷◌, ◌++◌, length, refl, sym, ◌∙◌, ap, subst, arith, inl, inr, Option, Some, None, length-append, append-nil}
use Rattle.std.specs.List.{Contains}
use Rattle.std.proofs.Math.ListN.{get_or-append}
use Rattle.ae_rules.specs.Clauses.{Clause}
use Rattle.ae_core.specs.declared.formulas.Lit.{Lit}
use Rattle.ae_explain.specs.declared.trail.Assigned.{Assigned}
use Rattle.ae_explain.specs.Trail.{at, clause, AreFalse, IsLawful, Enters}
use Rattle.ae_journal.specs.declared.lines.Line.{Line}
use Rattle.ae_journal.specs.declared.lines.Line.TheVariants as line
use Rattle.ae_journal.specs.Journals.{live, decisions}
use Rattle.ae_journal.proofs.Living.{live_push, decisions-append}
use Rattle.ae_store.specs.Stores.{Stored}
use Rattle.ae_theory.specs.Tagged.{Tagged}
use Rattle.ae_theory.specs.Names.{AreNamed}
use Rattle.ae_sat.specs.Standing.{IsOneOf}
use Rattle.ae_sat.specs.Marked.{IsRunning}
use Rattle.ae_sat.specs.Search.{AllNamed}
use Rattle.ae_sat.proofs.Decisions.{before_more}
use Rattle.ae_sat.proofs.Running.{all_lits}
use Rattle.ae_sat.proofs.Learnt.{one_more, still_one}
use Rattle.ae_sat.proofs.Deriving.{in_clause}

enters_more : (t : List Assigned) (u : List Clause) (c : Clause) (i : ℕ) (o : Option ℕ) → Enters t u i o → Enters t (u ++ c ∷ []) i o
enters_more t u c i None h = h
enters_more t u c i (Some k) h =
    let e : clause (u ++ c ∷ []) k ≡ clause u k = get_or-append u (c ∷ []) [] k h.1.within in (
      h.0,
      record {
        within = omega (arith, h.1.within, length-append u (c ∷ []));
        has = subst (λ (d : Clause). Contains d (at t i).lit) (sym e) h.1.has;
        others = λ m k2 d. h.1.others m (subst (λ (w : Clause). Contains w m) e k2) d;
      },
    )

pub lawful_clause : (t : List Assigned) (u : List Clause) (c : Clause) → IsLawful t u → IsLawful t (u ++ c ∷ [])
lawful_clause t u c w = record { apart = w.apart; enters = λ i l. enters_more t u c i (at t i).by (w.enters i l) }

-- the terms of what is false by the trail have names
pub named_more : (store : Stored) (t : List Assigned) (u : List Clause) (c : Clause) → IsLawful t u → ((j : ℕ) → j < length t → (at t j).by ≡ None → (d : Clause) × IsOneOf u d × Contains d (at t j).lit)
    → AreFalse t c → AllNamed store u → AllNamed store (u ++ c ∷ [])
named_more store t u c w stands false_ones named d l h k = elim (one_more u c d h) as (λ _. AreNamed store l.formula) [
  | inl r ↦ named d l r k
  | inr q ↦
      let f = false_ones l (subst (λ (x : Clause). Contains x l) q k) in
      let r = in_clause t u w stands f.0 f.1 in
      subst (λ (x : Lit). AreNamed store x.formula) f.2 (named (clause u r.0) (at t f.0).lit (r.0, r.1, refl) r.2)
]

-- the terms of a clause that comes in have names
pub named_add : (store : Stored) (u u2 : List Clause) (c : Clause) → u2 ≡ u ++ c ∷ [] → AllNamed store u → ((l : Lit) → Contains c l → AreNamed store l.formula) → AllNamed store u2
named_add store u u2 c e named own = subst (AllNamed store) (sym e) (λ d l h k. elim (one_more u c d h) as (λ _. AreNamed store l.formula) [
  | inl r ↦ named d l r k
  | inr q ↦ own l (subst (λ (x : Clause). Contains x l) q k)
])

module _ {T M : Type 0} (assumed : T → List Tagged) (fits_mark : T → M → T → Type 0) (in_step : T → List Line → Type 0) where
  pub learn_runs : (theory : T) (marks : List M) (t : List Assigned) (u : List Clause) (told : ℕ) (lines new_lines : List Line) (c : Clause)
      → IsRunning assumed fits_mark in_step theory marks t u told (live lines) → ((js : List Line) → in_step theory js → in_step theory (js ++ line.Learn c ∷ [])) → new_lines ≡ lines ++ line.Learn c ∷ []
      → IsRunning assumed fits_mark in_step theory marks t u told (live new_lines)
  learn_runs theory marks t u told lines new_lines c r silent en =
      let q : live new_lines ≡ live lines ++ line.Learn c ∷ [] = ap live en ∙ live_push lines (line.Learn c) in
      let stood : length (decisions (live lines)) ≡ length marks = ap length r.decided ∙ (all_lits t u r.lawful ∙ sym r.count) in
      subst (λ (w : List Line). IsRunning assumed fits_mark in_step theory marks t u told w) (sym q) (record {
        lawful = r.lawful;
        count = r.count;
        marked = λ k d h.
            let old = r.marked k d h in
            record {
              then = old.then;
              fits = old.fits;
              place = old.place;
              within = old.within;
              decision = old.decision;
              level = old.level;
              assumed_then = old.assumed_then;
              step = subst (in_step old.then) (sym (before_more k (live lines) (line.Learn c ∷ []) (omega (arith, h, stood)))) old.step;
            };
        step = silent (live lines) r.step;
        decided = decisions-append (live lines) (line.Learn c ∷ []) ∙ (append-nil (decisions (live lines)) ∙ r.decided);
        told_all = r.told_all;
        stands = r.stands;
      })

  pub clause_runs : (theory : T) (marks : List M) (t : List Assigned) (u : List Clause) (told : ℕ) (standing : List Line) (c : Clause)
      → IsRunning assumed fits_mark in_step theory marks t u told standing → IsRunning assumed fits_mark in_step theory marks t (u ++ c ∷ []) told standing
  clause_runs theory marks t u told standing c r = record {
    lawful = lawful_clause t u c r.lawful;
    count = r.count;
    marked = r.marked;
    step = r.step;
    decided = r.decided;
    told_all = r.told_all;
    stands = λ j l b. let s = r.stands j l b in (s.0, still_one u c s.0 s.1, s.2);
  }

  pub attach_runs : (theory theory2 : T) (marks marks2 : List M) (t t2 : List Assigned) (u u2 : List Clause) (told told2 : ℕ) (standing : List Line) (c : Clause)
      → IsRunning assumed fits_mark in_step theory marks t u told standing → theory2 ≡ theory → marks2 ≡ marks → t2 ≡ t → u2 ≡ u ++ c ∷ [] → told2 ≡ told → IsRunning assumed fits_mark in_step theory2 marks2 t2 u2 told2 standing
  attach_runs theory theory2 marks marks2 t t2 u u2 told told2 standing c r e1 e2 e3 e4 e5 =
      subst (λ (x : T). IsRunning assumed fits_mark in_step x marks2 t2 u2 told2 standing) (sym e1)
      (subst (λ (x : List M). IsRunning assumed fits_mark in_step theory x t2 u2 told2 standing) (sym e2)
      (subst (λ (x : List Assigned). IsRunning assumed fits_mark in_step theory marks x u2 told2 standing) (sym e3)
      (subst (λ (x : List Clause). IsRunning assumed fits_mark in_step theory marks t x told2 standing) (sym e4)
      (subst (λ (x : ℕ). IsRunning assumed fits_mark in_step theory marks t (u ++ c ∷ []) x standing) (sym e5)
      (clause_runs theory marks t u told standing c r)))))
