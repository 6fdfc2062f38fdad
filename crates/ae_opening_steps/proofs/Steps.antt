-- A block that is opened, once the terms of its clause have names.
use Rattle.std.specs.Prelude.{ℕ, ◌≡◌, ◌⊎◌, true, List, [], ◌∷◌}
use Rattle.std.specs.List.{Contains}
use Rattle.std.proofs.Common.{sym, ap, ◌∙◌, subst}
use Rattle.std.proofs.lemmas.List.Elements.{Contains-append_left, Contains-push}
use Rattle.ae_block_constants.specs.declared.opened.Opened.{Opened}
use Rattle.ae_block_counts.proofs.Blocks.{in_flat}
use Rattle.ae_core.specs.Sorts.{formula_ok}
use Rattle.ae_core.specs.declared.formulas.Formula.{Formula}
use Rattle.ae_core.specs.declared.formulas.Lit.{Lit}
use Rattle.ae_core.specs.declared.problems.Problem.{Problem}
use Rattle.ae_core.specs.declared.proofs.ClauseLine.{ClauseLine}
use Rattle.ae_core.specs.declared.terms.Term.{Term}
use Rattle.ae_goal_names.specs.Named.{all_terms, clause_terms, HasNamed}
use Rattle.ae_journal.proofs.Splits.{contains_here, contains_one}
use Rattle.ae_journal.specs.Standing.{IsEntered, IsFormula, IsPossible, Setting}
use Rattle.ae_journal.specs.States.{outside}
use Rattle.ae_journal.specs.declared.lines.Line.{Line}
use Rattle.ae_kept_blocks.proofs.Names.{new_names}
use Rattle.ae_new_constants.specs.Below.{IsFormulaBelow, AreLinesBelow}
use Rattle.ae_opening.proofs.Opened.{stated, comes}
use Rattle.ae_opening.specs.Opens.{Opens}
use Rattle.ae_rules.specs.Clauses.{Clause}
use Rattle.ae_searching.proofs.Settings.{told_before}
use Rattle.ae_searching.specs.Steps.{Grows, MayCome}
use Rattle.ae_searching.specs.Told.{IsToldIn}
use Rattle.ae_store.specs.Stores.{Stored}
use Rattle.ae_theory.specs.Names.{AreNamed, Extends, terms_in}

module _ (p : Problem) (g n m : ℕ) (s s2 : Stored) (old new : List Opened) (f : Formula) (l : ClauseLine) (c : Clause) (lines : List ClauseLine) (js : List Line) (signature : p.signature ≡ s.signature)
    (o : Opens f n m old new l c) (below : AreLinesBelow p g n lines) (own : IsFormulaBelow n f) (ok : formula_ok p.signature f ≡ true) (named : HasNamed s s2 (all_terms (c ∷ [])))
    (formula : (x : Setting) → IsToldIn p g s old x → IsFormula x js f) where
  abbrev block : Opened
  block = record { formula = f; first = n }

  extends : Extends s s2
  extends = record { signature = named.signature; keeps = named.keeps }

  opened_still : (e : Opened) → Contains old e → Contains new e
  opened_still e h = subst (λ (w : List Opened). Contains w e) (sym o.more) (Contains-append_left old (block ∷ []) e h)

  opened_now : Contains new block
  opened_now = subst (λ (w : List Opened). Contains w block) (sym o.more) (Contains-push old block)

  comes_for : (x : Setting) → IsToldIn p g s2 new x → IsPossible x js c × ((k : Lit) → Contains c k → IsFormula x js k.formula)
  comes_for x h = comes f n m old new l c o x js (formula x (told_before p g s s2 old new x extends opened_still h)) (h.fresh block opened_now)

  entered : (x : Setting) → IsToldIn p g s2 new x → (t : Term) → Contains (terms_in s2) t → Contains (terms_in s) t ⊎ IsEntered x js t
  entered x h t i =
      new_names x js s s2 (c ∷ []) (ap (λ (q : Problem). q.signature) h.problem ∙ signature) named
      (λ d k a b. (comes_for x h).1 k (subst (λ (w : Clause). Contains w k) (sym (contains_one c d a)) b)) t i

  all_named : (k : Lit) → Contains c k → AreNamed s2 k.formula
  all_named k h t i = named.named t (in_flat clause_terms (c ∷ []) c t (contains_here c []) (in_flat (λ (a : Lit). outside a.formula) c k t h i))

  pub step : Grows p g s s2 old new js × MayCome p g s2 new lines js l c
  step =
      let w = stated f n m old new l c o p g lines below own ok in (
        record { extends = extends; opened_still = opened_still; entered = entered },
        record { allowed = w.0; states = w.1; named = all_named; possible = λ x h. (comes_for x h).0; formulas = λ x h k i. (comes_for x h).1 k i },
      )
