-- The constants of blocks, once one more is opened.
use Rattle.std.specs.Prelude.{ℕ, ◌≤◌, ◌≡◌, true, List, [], ◌∷◌, ◌++◌, Some}
use Rattle.std.specs.List.{Contains}
use Rattle.std.proofs.Common.{sym, subst, arith, inl, inr}
use Rattle.std.proofs.lemmas.List.Elements.{Contains-push_cases}
use Rattle.ae_base.proofs.AllOf.{all_push, all_weaker}
use Rattle.ae_between_rounds.specs.Held.{HaveConstants}
use Rattle.ae_block_constants.specs.declared.opened.Opened.{Opened}
use Rattle.ae_core.specs.Constants.{constants, formula_constants}
use Rattle.ae_core.specs.Sorts.{formula_ok}
use Rattle.ae_core.specs.declared.formulas.Formula.{Formula, out-Formula}
use Rattle.ae_core.specs.declared.formulas.Lit.{Lit}
use Rattle.ae_core.specs.declared.problems.Problem.{Problem}
use Rattle.ae_core.specs.declared.proofs.ClauseLine.{ClauseLine}
use Rattle.ae_core.specs.declared.terms.Term.{Term}
use Rattle.ae_goal_names.specs.Named.{all_terms, HasNamed}
use Rattle.ae_journal.proofs.Splits.{all_contained, contains_one}
use Rattle.ae_kept_blocks.proofs.Members.{contained}
use Rattle.ae_kept_blocks.proofs.Names.{names_below}
use Rattle.ae_kept_blocks.specs.Kept.{AreClausesBelow}
use Rattle.ae_new_constants.proofs.Lists.{rising}
use Rattle.ae_new_constants.specs.Below.{AreLinesBelow, IsClauseBelow, IsFormulaBelow, IsTermBelow}
use Rattle.ae_opening.proofs.Opened.{stated, still_apart}
use Rattle.ae_opening.specs.Asking.{IsOpened}
use Rattle.ae_opening.specs.Opens.{Opens}
use Rattle.ae_rules.specs.Clauses.{Clause}
use Rattle.ae_rules.specs.Derivations.{conclusion, IsAllowed}
use Rattle.ae_rules.specs.Instances.{fresh_clause}
use Rattle.ae_sat.proofs.Learnt.{new_one, still_one}
use Rattle.ae_sat.specs.Standing.{IsOneOf}
use Rattle.ae_store.specs.Stores.{Stored}
use Rattle.ae_theory.specs.Names.{terms_in}

module _ (n m : ℕ) (f : Formula) (old new : List Opened) (l : ClauseLine) (c : Clause) (o : Opens f n m old new l c) where
  abbrev pub own : Opened
  own = record { formula = f; first = n }

  -- what holds of each block that was opened and of this one holds of each that is opened
  pub each_opened : (P : Opened → Type 0) → ((e : Opened) → Contains old e → P e) → P own → (e : Opened) → Contains new e → P e
  each_opened P a b e i = elim (Contains-push_cases old own e (subst (λ (w : List Opened). Contains w e) o.more i)) as (λ _. P e) [ inl k ↦ a e k | inr k ↦ subst P k b ]

  rises : n ≤ m
  rises = let e = o.next in omega (arith, e)

  clause_rises : (d : Clause) → IsClauseBelow n d → IsClauseBelow m d
  clause_rises d a =
      all_weaker (λ (k : Lit). IsFormulaBelow n k.formula) (λ (k : Lit). IsFormulaBelow m k.formula) (λ k b. rising n m (formula_constants k.formula) b rises) d a

  term_rises : (t : Term) → IsTermBelow n t → IsTermBelow m t
  term_rises t b = rising n m (constants t) b rises

  module _ (p : Problem) (g : ℕ) (s s2 : Stored) (ls : List ClauseLine) (cs : List Clause) (h : HaveConstants p g n old s ls cs) (unopened : ¬ IsOpened old f) (below : IsFormulaBelow n f)
      (ok : formula_ok p.signature f ≡ true) (named : HasNamed s s2 (all_terms (c ∷ []))) where
    said : IsAllowed p g ls l × (conclusion p g l ≡ Some c) × AreLinesBelow p g m (ls ++ l ∷ []) × IsClauseBelow m c
    said = stated f n m old new l c o p g ls h.lines below ok

    own_below : AreClausesBelow m (c ∷ [])
    own_below d k i j =
        all_contained (λ (x : Lit). IsFormulaBelow m x.formula) c k said.3 (subst (λ (x : Clause). Contains x k) (sym (contains_one c d (contained (c ∷ []) d i))) j)

    pub constants_opened : HaveConstants p g m new s2 (ls ++ l ∷ []) (cs ++ c ∷ [])
    constants_opened = record {
      apart = still_apart f n m old new l c o h.apart unopened;
      sorted = each_opened (λ e. formula_ok p.signature e.formula ≡ true) h.sorted ok;
      added = each_opened (λ e. (d : Clause) × (fresh_clause e.formula e.first (out-Formula e.formula) ≡ Some d) × IsOneOf (cs ++ c ∷ []) d)
          (λ e i. let a = h.added e i in (a.0, a.1, still_one cs c a.0 a.2)) (c, o.clause, new_one cs c);
      lines = said.2;
      clauses = all_push (IsClauseBelow m) cs c (all_weaker (IsClauseBelow n) (IsClauseBelow m) clause_rises cs h.clauses) said.3;
      names = names_below m s s2 (c ∷ []) named own_below (all_weaker (IsTermBelow n) (IsTermBelow m) term_rises (terms_in s) h.names);
    }
