-- A row of a true literal's formula is allowed, possible, and named.
use Rattle.std.proofs.Common.{◌≡◌, ℕ, ◌<◌, true, List, [], ◌∷◌, ◌++◌, length, get_or, refl, sym, ◌∙◌, ap, subst, arith, inl, inr, Option, Some, None, length-append}
use Rattle.std.specs.Prelude.{slice_get}
use Rattle.std.specs.List.{Contains}
use Rattle.std.proofs.lemmas.Bool.{cases_lt}
use Rattle.std.proofs.Math.ListN.{get_or-append}
use Rattle.std.proofs.Math.Seq.{get_or-append_seam}
use Rattle.ae_base.specs.Options.{◌>>=◌}
use Rattle.ae_core.specs.Sorts.{formula_ok}
use Rattle.ae_rules.specs.Clauses.{Clause, row}
use Rattle.ae_rules.specs.Derivations.{conclusion, IsAllowed}
use Rattle.ae_core.specs.declared.problems.Problem.{Problem}
use Rattle.ae_core.specs.declared.proofs.ClauseLine.{ClauseLine}
use Rattle.ae_core.specs.declared.proofs.ClauseLine.TheVariants as clause_line
use Rattle.ae_explain.specs.declared.trail.Assigned.{Assigned}
use Rattle.ae_explain.specs.Trail.{at, clause, IsLawful}
use Rattle.ae_journal.specs.declared.lines.Line.{Line}
use Rattle.ae_journal.specs.Standing.IsFormula.{of_part}
use Rattle.ae_journal.specs.Standing.IsPossible.{row_of}
use Rattle.ae_store.specs.Stores.{Stored}
use Rattle.ae_theory.specs.Names.{AreNamed}
use Rattle.ae_rules.proofs.SortedLines.{clause_stated}
use Rattle.ae_sat.proofs.Outside.{row_outside}
use Rattle.ae_journal.proofs.RowParts.{row_part}
use Rattle.ae_sat.specs.Standing.{IsOneOf}
use Rattle.ae_sat.specs.Search.{AllNamed, IsStated, IsLawfulState}
use Rattle.ae_base.proofs.AllOf.{all_push}
use Rattle.ae_sat.proofs.Learnt.{one_more, still_one}
use Rattle.ae_sat.proofs.Deriving.{allowed_join, clause_sorted, sorted_one, stated_clause, get_more, get_last, in_clause}
use Rattle.ae_journal.specs.SolverLines.{IsSourceLine}
use Rattle.ae_journal.specs.Standing.{IsFormula, IsPossible, Setting}

-- a line more, with the clause that it states
pub stated_line : (p : Problem) (g : ℕ) (ks : List ClauseLine) (u : List Clause) (places : List ℕ) (x : ClauseLine) (c : Clause) → IsStated p g ks u places → IsAllowed p g ks x → conclusion p g x ≡ Some c
    → IsStated p g (ks ++ x ∷ []) (u ++ c ∷ []) (places ++ length ks ∷ [])
stated_line p g ks u places x c s a e = record {
  allowed = allowed_join p g [] ks x s.allowed a;
  size = omega (arith, s.size, length-append u (c ∷ []), length-append places (length ks ∷ []));
  states = λ k l. elim (cases_lt k (length u)) as (λ _. (slice_get (ks ++ x ∷ []) (get_or (places ++ length ks ∷ []) k 0) >>= conclusion p g) ≡ Some (clause (u ++ c ∷ []) k)) [
    | inl lt ↦
        let q : get_or (places ++ length ks ∷ []) k 0 ≡ get_or places k 0 = get_or-append places (length ks ∷ []) 0 k (omega (arith, lt, s.size)) in
        let r = stated_clause p g ks u places s k lt in
        ap (λ (n : ℕ). slice_get (ks ++ x ∷ []) n >>= conclusion p g) q
        ∙ (ap (λ (o : Option ClauseLine). o >>= conclusion p g) (get_more ks x (get_or places k 0) r.0 r.1) ∙ (r.2 ∙ ap Some (sym (get_or-append u (c ∷ []) [] k lt))))
    | inr ge ↦
        let i : length u ≡ k = omega (arith, ge, l, length-append u (c ∷ [])) in
        let f : length places ≡ k = s.size ∙ i in
        let q : get_or (places ++ length ks ∷ []) k 0 ≡ length ks = subst (λ (n : ℕ). get_or (places ++ length ks ∷ []) n 0 ≡ length ks) f (get_or-append_seam places (length ks) [] 0) in
        ap (λ (n : ℕ). slice_get (ks ++ x ∷ []) n >>= conclusion p g) q ∙ (ap (λ (o : Option ClauseLine). o >>= conclusion p g) (get_last ks x)
        ∙ (e ∙ ap Some (sym (subst (λ (n : ℕ). clause (u ++ c ∷ []) n ≡ c) i (get_or-append_seam u c [] [])))))
  ];
}

module _ (t : List Assigned) (u : List Clause) (lawful : IsLawful t u) (stands : (j : ℕ) → j < length t → (at t j).by ≡ None → (c : Clause) × IsOneOf u c × Contains c (at t j).lit)
    (j r : ℕ) (c : Clause) (l : j < length t) (e : row r (at t j).lit.formula ≡ Some c) where
  pub row_named : (store : Stored) → AllNamed store u → AllNamed store (u ++ c ∷ [])
  row_named store named d m h k = elim (one_more u c d h) as (λ _. AreNamed store m.formula) [
    | inl y ↦ named d m y k
    | inr q ↦
        let w = in_clause t u lawful stands j l in
        let f : AreNamed store (at t j).lit.formula = named (clause u w.0) (at t j).lit (w.0, w.1, refl) w.2 in
        λ x there. f x (row_outside (at t j).lit.formula r c m e (subst (λ (v : Clause). Contains v m) q k) x there)
  ]

  pub row_stated : (p : Problem) (g : ℕ) (ks : List ClauseLine) (places : List ℕ) → IsStated p g ks u places
      → IsStated p g (ks ++ clause_line.Def r (at t j).lit.formula ∷ []) (u ++ c ∷ []) (places ++ length ks ∷ [])
  row_stated p g ks places s =
      let w = in_clause t u lawful stands j l in
      let ok : formula_ok p.signature (at t j).lit.formula ≡ true = sorted_one (λ m. formula_ok p.signature m.formula) (clause u w.0) (at t j).lit (clause_sorted p g ks u places s w.0 w.1) w.2 in
      let ce = clause_stated p g (clause_line.Def r (at t j).lit.formula) c ok e in
      stated_line p g ks u places (clause_line.Def r (at t j).lit.formula) c s ((c, ce), tt) ce

  pub row_state : (setting : Setting) (n : ℕ) (ks : List ClauseLine) (places : List ℕ) (js : List Line) → IsStated setting.problem setting.goal ks u places → IsLawfulState setting t u n ks js
      → IsLawfulState setting t (u ++ c ∷ []) n (ks ++ clause_line.Def r (at t j).lit.formula ∷ []) js
  row_state setting n ks places js st s =
      let w = in_clause t u lawful stands j l in
      let f : IsFormula setting js (at t j).lit.formula = s.formulas (clause u w.0) (at t j).lit (w.0, w.1, refl) w.2 in
      let new : IsPossible setting js c = row_of js (at t j).lit.formula r c f e in
      let sig = setting.problem.signature in
      let ok : formula_ok sig (at t j).lit.formula ≡ true =
      sorted_one (λ m. formula_ok sig m.formula) (clause u w.0) (at t j).lit (clause_sorted setting.problem setting.goal ks u places st w.0 w.1) w.2 in
      record {
        possible = λ d h. elim (one_more u c d h) as (λ _. IsPossible setting js d) [ inl y ↦ s.possible d y | inr q ↦ subst (IsPossible setting js) (sym q) new ];
        formulas = λ d m h k. elim (one_more u c d h) as (λ _. IsFormula setting js m.formula) [
          | inl y ↦ s.formulas d m y k
          | inr q ↦ row_part (IsFormula setting js) (λ h a y i. of_part js h a y i) (at t j).lit.formula f r c e m (subst (λ (v : Clause). Contains v m) q k)
        ];
        given = λ d h. still_one u c d (s.given d h);
        rows = λ i k d x y z v. still_one u c d (s.rows i k d x y z v);
        layered = s.layered;
        sources = all_push (IsSourceLine setting js) ks (clause_line.Def r (at t j).lit.formula) s.sources (c, clause_stated setting.problem setting.goal (clause_line.Def r (at t j).lit.formula) c ok e, new);
        again = s.again;
      }
