-- What is learnt is legal, and so is going back after it.
use Rattle.std.proofs.Common.{◌≡◌, ◌≢◌, ℕ, zero, suc, ◌<◌, ◌≤◌, ◌==◌, List, [], ◌∷◌, ◌++◌, length, refl, sym, ◌∙◌, ap, subst, arith, inl, inr, Option, Some, None, append-nil}
use Rattle.std.specs.Prelude.{count_by}
use Rattle.std.specs.List.{Contains}
use Rattle.std.proofs.lemmas.Bool.{cases_eq}
use Rattle.ae_rules.specs.Clauses.{Clause}
use Rattle.ae_rules.specs.Derivations.{AreAllowed, conclusion}
use Rattle.ae_core.specs.declared.formulas.Lit.{Lit}
use Rattle.ae_core.specs.declared.problems.Problem.{Problem}
use Rattle.ae_core.specs.declared.proofs.ClauseLine.{ClauseLine}
use Rattle.ae_core.specs.declared.proofs.ClauseLine.TheVariants as clause_line
use Rattle.ae_explain.specs.declared.trail.Assigned.{Assigned}
use Rattle.ae_explain.specs.Trail.{at, clause, AreFalse, IsLawful, Enters}
use Rattle.ae_explain.specs.Levels.{level_of}
use Rattle.ae_explain.proofs.Places.{level_there}
use Rattle.ae_explain.proofs.Marking.{numbers_equal}
use Rattle.ae_base.proofs.AllOf.{all_push}
use Rattle.ae_journal.specs.declared.lines.Line.{Line}
use Rattle.ae_journal.specs.declared.lines.Line.TheVariants as line
use Rattle.ae_journal.specs.Journals.{live, decisions}
use Rattle.ae_journal.specs.Standing.MayStand.{decided, reached}
use Rattle.ae_rules.proofs.SortedLines.{clause_stated, states_clause}
use Rattle.ae_journal.proofs.Living.{live_push, decisions-append, back_after}
use Rattle.ae_propagation.specs.Settled.{last_level}
use Rattle.ae_sat.specs.Standing.{IsOneOf, with_decision, decided_lits}
use Rattle.ae_sat.specs.Search.{IsLawfulState}
use Rattle.ae_sat.proofs.Layering.{learnt_is_new, top}
use Rattle.ae_sat.proofs.Members.{some_passes}
use Rattle.ae_sat.proofs.Running.{all_lits}
use Rattle.ae_journal.specs.Journals.{MayGoBack}
use Rattle.ae_journal.specs.SolverLines.{IsSourceLine, MayLearn}
use Rattle.ae_journal.specs.Standing.{IsGiven, IsPossible, MayStand, Setting}

-- a decision of the trail is one of its decided literals
lit_decided : (t : List Assigned) (j : ℕ) → j < length t → (at t j).by ≡ None → Contains (decided_lits t) (at t j).lit
lit_decided [] j h b = absurd (omega (arith, h))
lit_decided (a ∷ t) zero h b = subst (λ (o : Option ℕ). Contains (with_decision o a.lit (decided_lits t)) a.lit) (sym b) (zero, omega arith, refl)
lit_decided (a ∷ t) (suc j) h b = behind a.by (lit_decided t j (omega (arith, h)) b)
  where
    behind : (o : Option ℕ) → Contains (decided_lits t) (at t j).lit → Contains (with_decision o a.lit (decided_lits t)) (at t j).lit
    behind None r = (suc r.0, omega (arith, r.1), r.2)
    behind (Some k) r = r

module _ (setting : Setting) (t : List Assigned) (u : List Clause) (js : List Line) (lawful : IsLawful t u) (stood : decisions (live js) ≡ decided_lits t) (possible : (c : Clause) → IsOneOf u c → IsPossible setting js c) where
  may_by : (j : ℕ) → j < length t → ((i : ℕ) → i < j → MayStand setting js (at t i).lit) → (o : Option ℕ) → (at t j).by ≡ o → Enters t u j o → MayStand setting js (at t j).lit
  may_by j l ih None e n = decided js (at t j).lit (subst (λ (w : List Lit). Contains w (at t j).lit) (sym stood) (lit_decided t j l e))
  may_by j l ih (Some k) e n = reached js (clause u k) (at t j).lit (possible (clause u k) (k, n.1.within, refl)) n.1.has
      (λ m c d. let f = n.1.others m c d in subst (MayStand setting js) f.2 (ih f.0 f.1))

  may_fuel : (n j : ℕ) → j < n → j < length t → MayStand setting js (at t j).lit
  may_fuel zero j h l = absurd (omega (arith, h))
  may_fuel (suc n) j h l = may_by j l (λ i lt. may_fuel n i (omega (arith, lt, h)) (omega (arith, lt, l))) (at t j).by refl (lawful.enters j l)

  -- each literal of the trail may stand
  pub trail_may_stand : (j : ℕ) → j < length t → MayStand setting js (at t j).lit
  trail_may_stand j l = may_fuel (suc j) j (omega arith) l

-- an allowed line by propagation states its clause
pub last_states : (p : Problem) (g : ℕ) (before ks : List ClauseLine) (c : Clause) (hints : List ℕ) → AreAllowed p g before (ks ++ clause_line.Rup c hints ∷ []) → conclusion p g (clause_line.Rup c hints) ≡ Some c
last_states p g before [] c hints a = clause_stated p g (clause_line.Rup c hints) c (states_clause p g (clause_line.Rup c hints) a.0.0.0 a.0.0.1).0 refl
last_states p g before (x ∷ ks) c hints a = last_states p g (before ++ x ∷ []) ks c hints a.1

-- what is learnt from a conflict
pub learn_is_legal : (setting : Setting) (t : List Assigned) (u : List Clause) (n : ℕ) (ks : List ClauseLine) (js : List Line) → IsLawful t u → decisions (live js) ≡ decided_lits t
    → IsLawfulState setting t u n ks js → (c : Clause) (hints : List ℕ) (level : ℕ) → c ≢ [] → AreFalse t c → (level ≡ 0 → c ≡ []) → (0 < level → count_by (λ m. level_of t m == level) c ≡ 1)
    → ((m : Lit) → Contains c m → level_of t m ≤ level) → AreAllowed setting.problem setting.goal [] (ks ++ clause_line.Rup c hints ∷ []) → MayLearn setting js c
learn_is_legal setting t u n ks js lawful stood s c hints level some false_ones empty one high allowed =
    let pos : 0 < level = elim (cases_eq level 0) as (λ _. 0 < level) [ inl z ↦ absurd (some (empty z)) | inr d ↦ omega (arith, d) ] in
    let o = some_passes (λ m. level_of t m == level) c (one pos) in
    let f = false_ones o.0 o.1 in
    let v : level_of t o.0 ≡ (at t f.0).level = level_there t f.0 o.0 lawful.apart f.1 (ap (λ (x : Lit). x.formula) f.2) in
    let low : level ≤ last_level t = omega (arith, numbers_equal (level_of t o.0) level o.2, v, top t u lawful (length t) f.0 refl f.1) in
    record {
      some = some;
      before = ks;
      last = clause_line.Rup c hints;
      allowed = allowed;
      from = all_push (IsSourceLine setting js) ks (clause_line.Rup c hints) s.sources tt;
      states = last_states setting.problem setting.goal [] ks c hints allowed;
      fails = λ l h. let r = false_ones l h in subst (MayStand setting js) r.2 (trail_may_stand setting t u js lawful stood s.possible r.0 r.1);
      new = λ d is part. learnt_is_new t lawful.apart (IsGiven setting js) s.layered c false_ones level pos low (one pos) high d is part;
      again = s.again;
    }

-- going back after it
pub back_is_legal : (t : List Assigned) (u : List Clause) (js : List Line) (c : Clause) (n : ℕ) → IsLawful t u → decisions (live js) ≡ decided_lits t → n < last_level t → MayGoBack (js ++ line.Learn c ∷ []) n
back_is_legal t u js c n lawful stood h =
    let e : decisions (live (js ++ line.Learn c ∷ [])) ≡ decisions (live js) =
    ap decisions (live_push js (line.Learn c)) ∙ (decisions-append (live js) (line.Learn c ∷ []) ∙ append-nil (decisions (live js))) in
    back_after js (line.Learn c) n tt (λ b. b) (omega (arith, ap length e, ap length stood, all_lits t u lawful, h))
