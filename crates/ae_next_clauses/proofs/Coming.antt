-- What may come next.
use Rattle.std.specs.Prelude.{List, [], ◌∷◌, ◌++◌, ◌≡◌, ℕ, Some}
use Rattle.std.specs.List.{Contains}
use Rattle.std.proofs.Common.{sym, subst}
use Rattle.ae_base.proofs.Options.{only_some}
use Rattle.ae_block_constants.specs.declared.opened.Opened.{Opened}
use Rattle.ae_core.specs.declared.formulas.Formula.{Formula, out-Formula}
use Rattle.ae_core.specs.declared.formulas.Lit.{Lit}
use Rattle.ae_core.specs.declared.problems.Problem.{Problem}
use Rattle.ae_core.specs.declared.proofs.ClauseLine.{ClauseLine}
use Rattle.ae_core.specs.declared.proofs.ClauseLine.TheVariants as clause_line
use Rattle.ae_core.specs.declared.terms.Term.{Term}
use Rattle.ae_goal_names.specs.Named.{HasNamed, clause_terms}
use Rattle.ae_journal.specs.Legal.{IsLegalLine}
use Rattle.ae_journal.specs.Standing.{Setting, IsEntered, IsFormula}
use Rattle.ae_journal.specs.Standing.IsFormula.{of_choice, of_clause, of_fresh, of_order}
use Rattle.ae_journal.specs.Standing.IsPossible.{choice_of, fresh_of, order_of}
use Rattle.ae_journal.specs.declared.lines.Line.{Line}
use Rattle.ae_rules.specs.Clauses.{Clause}
use Rattle.ae_rules.specs.Derivations.{clause_of, conclusion, line_ok, IsAllowed}
use Rattle.ae_rules.specs.Instances.{exhaustion, fresh_clause, trichotomy}
use Rattle.ae_next_clauses.proofs.Naming.{terms_grow, terms_named}
use Rattle.ae_searching.proofs.Lawful.{brought_by}
use Rattle.ae_searching.proofs.Settings.{for_setting}
use Rattle.ae_searching.specs.Steps.{IsStatedBy, MayBring, MayCome}
use Rattle.ae_searching.specs.Told.{IsToldIn}
use Rattle.ae_store.specs.Stores.{Stored}
use Rattle.ae_theory.specs.Names.{AreNamed}

states : (p : Problem) (g : ℕ) (l : ClauseLine) (c : Clause) → conclusion p g l ≡ Some c → clause_of p g l ≡ Some c
states p g l c e = (only_some (line_ok p g l) (clause_of p g l) c e).1

module _ (p : Problem) (g : ℕ) (s : Stored) (opened : List Opened) (lines : List ClauseLine) (js : List Line) (c : Clause) (named : (m : Lit) → Contains c m → AreNamed s m.formula) where
  pub fresh_comes : (f : Formula) (first : ℕ) → Contains opened (record { formula = f; first = first }) → ((x : Setting) → IsToldIn p g s opened x → IsFormula x js f) → IsAllowed p g lines (clause_line.Fresh f first)
      → conclusion p g (clause_line.Fresh f first) ≡ Some c → MayCome p g s opened lines js (clause_line.Fresh f first) c
  fresh_comes f first there formula allowed e =
      let here : (x : Setting) → IsToldIn p g s opened x → fresh_clause f (x.fresh f) (out-Formula f) ≡ Some c = λ x told.
      subst (λ (k : ℕ). fresh_clause f k (out-Formula f) ≡ Some c) (sym (told.fresh (record { formula = f; first = first }) there)) (states p g (clause_line.Fresh f first) c e) in
      record {
        allowed = allowed;
        states = e;
        named = named;
        possible = λ x told. fresh_of js f c (formula x told) (here x told);
        formulas = λ x told m i. of_fresh js f c m (formula x told) (here x told) i;
      }

  pub order_comes : (l r : Term) → ((x : Setting) → IsToldIn p g s opened x → IsEntered x js l × IsEntered x js r) → conclusion p g (clause_line.Tri l r) ≡ Some c → MayCome p g s opened lines js (clause_line.Tri l r) c
  order_comes l r entered e =
      let here : (x : Setting) → IsToldIn p g s opened x → trichotomy x.problem.signature l r ≡ Some c = λ x told.
      for_setting (λ q k. trichotomy q.signature l r ≡ Some c) p g s opened x told (states p g (clause_line.Tri l r) c e) in
      record {
        allowed = ((c, e), tt);
        states = e;
        named = named;
        possible = λ x told. order_of js l r c (entered x told).0 (entered x told).1 (here x told);
        formulas = λ x told m i. of_order js l r c m (entered x told).0 (entered x told).1 (here x told) i;
      }

  pub choice_comes : (t : Term) → ((x : Setting) → IsToldIn p g s opened x → IsEntered x js t) → conclusion p g (clause_line.Exh t) ≡ Some c → MayCome p g s opened lines js (clause_line.Exh t) c
  choice_comes t entered e =
      let here : (x : Setting) → IsToldIn p g s opened x → exhaustion x.problem.signature t ≡ Some c = λ x told.
      for_setting (λ q k. exhaustion q.signature t ≡ Some c) p g s opened x told (states p g (clause_line.Exh t) c e) in
      record {
        allowed = ((c, e), tt);
        states = e;
        named = named;
        possible = λ x told. choice_of js t c (entered x told) (here x told);
        formulas = λ x told m i. of_choice js t c m (entered x told) (here x told) i;
      }

pub instance_comes : (p : Problem) (g bound : ℕ) (old new : Stored) (opened : List Opened) (js : List Line) (j : Line) (l : ClauseLine) (c : Clause) → p.signature ≡ old.signature → HasNamed old new (clause_terms c)
    → IsStatedBy j l → conclusion p g l ≡ Some c → ((x : Setting) → IsToldIn p g new opened x → IsLegalLine x bound js j) → MayBring p g bound old new opened js j l c
instance_comes p g bound old new opened js j l c same h by e legal = record {
  legal = legal;
  stated_by = by;
  states = e;
  named = terms_named old new c h;
  grows = terms_grow p g old new opened opened (js ++ j ∷ []) c same h (λ o i. i)
      (λ x told m i. of_clause (js ++ j ∷ []) c m (brought_by x js j l c by (for_setting (λ q k. conclusion q k l ≡ Some c) p g new opened x told e)) i);
}
