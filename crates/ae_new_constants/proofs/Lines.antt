-- Lines whose constants are below a number.
use Rattle.std.specs.Prelude.{ℕ, suc, ◌+◌, ◌<◌, ◌≤◌, ◌≡◌, Bool, true, List, [], ◌∷◌, ◌++◌, length, map, Option, Some, None}
use Rattle.std.specs.List.{AllByRecursion, flat_map}
use Rattle.std.proofs.Common.{refl, ap, ◌∙◌, subst, arith, inl, inr}
use Rattle.std.proofs.lemmas.Option.{same_Some}
use Rattle.ae_base.specs.Options.{or_else, only}
use Rattle.ae_base.proofs.AllOf.{all_weaker}
use Rattle.ae_base.proofs.Options.{bind_some, only_some}
use Rattle.ae_block_constants.specs.Blocks.{variables}
use Rattle.ae_core.specs.Constants.{constants, formula_constants, clause_constants}
use Rattle.ae_core.specs.Signatures.{IsLawfulProblem}
use Rattle.ae_core.specs.Sorts.{formula_ok}
use Rattle.ae_core.specs.declared.formulas.Formula.{Formula, out-Formula}
use Rattle.ae_core.specs.declared.formulas.Lit.{Lit}
use Rattle.ae_core.specs.declared.problems.Problem.{Problem}
use Rattle.ae_core.specs.declared.proofs.Block.{Block as BlockOf}
use Rattle.ae_core.specs.declared.proofs.ClauseLine.{ClauseLine}
use Rattle.ae_core.specs.declared.proofs.ClauseLine.TheVariants.{Hyp, Goal, Def, Inst, Fresh as FreshLine, Exh, Tri, Block, Rup}
use Rattle.ae_core.specs.declared.proofs.EqLine.{EqLine}
use Rattle.ae_core.specs.declared.terms.Sort.{Sort}
use Rattle.ae_core.specs.declared.terms.Term.{Term, Fresh}
use Rattle.ae_journal.proofs.Splits.{contains_cases}
use Rattle.ae_rules.specs.Clauses.{Clause, opposite, yes_of, no_of}
use Rattle.ae_rules.specs.Derivations.{conclusion, clause_of, line_ok, own_constants, line_constants, goal_body, IsAllowed}
use Rattle.ae_rules.specs.Instances.{hypothesis, fresh_clause, fresh_terms, count_from, block_sorts}
use Rattle.ae_rules.specs.Lines.{states}
use Rattle.ae_new_constants.specs.Below.{AreBelow, IsTermBelow, IsFormulaBelow, IsClauseBelow, IsLineBelow, AreLinesBelow}
use Rattle.ae_new_constants.proofs.Lists.{none_below, both_below, right_below, each_below, all_below, rising}
use Rattle.ae_new_constants.proofs.Terms.{all_new}
use Rattle.ae_new_constants.proofs.Clauses.{literal_below, row_clause, opposites, instance_below, fresh_below, choice_below, order_below, hypothesis_below, goal_below}

module _ (n : ℕ) where
  clause_below : (c : Clause) → IsClauseBelow n c → AreBelow n (clause_constants c)
  clause_below c a = each_below n (λ (l : Lit). formula_constants l.formula) c a

  module _ (p : Problem) (g : ℕ) where
    -- a line by what it is given and by the clause that it is written to state
    line_by : (l : ClauseLine) → AreBelow n (own_constants l) → ((c : Clause) → clause_of p g l ≡ Some c → IsClauseBelow n c) → IsLineBelow p g n l
    line_by l a k = both_below n (own_constants l) (clause_constants (or_else (conclusion p g l) [])) a (from (conclusion p g l) refl)
      where
        from : (o : Option Clause) → conclusion p g l ≡ o → AreBelow n (clause_constants (or_else o []))
        from None e = none_below n
        from (Some c) e = clause_below c (k c (only_some (line_ok p g l) (clause_of p g l) c e).1)

    pub stated_below : (l : ClauseLine) (c : Clause) → IsLineBelow p g n l → conclusion p g l ≡ Some c → IsClauseBelow n c
    stated_below l c a e =
        all_below n (λ (m : Lit). formula_constants m.formula) c
        (subst (λ (o : Option Clause). AreBelow n (clause_constants (or_else o []))) e (right_below n (own_constants l) (clause_constants (or_else (conclusion p g l) [])) a))

    pub hypothesis_line : (k : ℕ) (ss : List Sort) → IsLawfulProblem p → IsLineBelow p g n (Hyp k ss)
    hypothesis_line k ss lawful =
        line_by (Hyp k ss) (none_below n)
        (λ c e. let b = bind_some (hypothesis p g k ss) (λ f. Some (yes_of f ∷ [])) c e in
        subst (IsClauseBelow n) (same_Some (yes_of b.0 ∷ []) c b.2) (literal_below n true b.0 (hypothesis_below n p g lawful k ss b.0 b.1), tt))

    pub goal_line : IsLawfulProblem p → IsLineBelow p g n Goal
    goal_line lawful =
        line_by Goal (none_below n)
        (λ c e. let b = bind_some (goal_body p g) (λ f. Some (no_of f ∷ [])) c e in
        subst (IsClauseBelow n) (same_Some (no_of b.0 ∷ []) c b.2) (literal_below n _ b.0 (goal_below n p g lawful b.0 b.1), tt))

    pub row_line : (r : ℕ) (f : Formula) → IsFormulaBelow n f → IsLineBelow p g n (Def r f)
    row_line r f a = line_by (Def r f) a (λ c e. row_clause n r f c a e)

    pub instance_line : (f : Formula) (ts : List Term) → IsFormulaBelow n f → AllByRecursion (IsTermBelow n) ts → IsLineBelow p g n (Inst f ts)
    instance_line f ts a all = line_by (Inst f ts) (both_below n (formula_constants f) (flat_map constants ts) a (each_below n constants ts all)) (λ c e. instance_below n p.signature f ts c a all e)

    pub choice_line : (t : Term) → IsTermBelow n t → IsLineBelow p g n (Exh t)
    choice_line t a = line_by (Exh t) a (λ c e. choice_below n p.signature t c a e)

    pub order_line : (s t : Term) → IsTermBelow n s → IsTermBelow n t → IsLineBelow p g n (Tri s t)
    order_line s t a b = line_by (Tri s t) (both_below n (constants s) (constants t) a b) (λ c e. order_below n p.signature s t c a b e)

    abbrev sides : EqLine → List Term
    sides l = constants (states l).left ++ constants (states l).right

    pub block_line : (b : BlockOf) → IsClauseBelow n b.deriv.hyps → AllByRecursion (λ (l : EqLine). IsTermBelow n (states l).left × IsTermBelow n (states l).right) b.deriv.lines → IsLineBelow p g n (Block b)
    block_line b a all =
        line_by (Block b)
        (both_below n (clause_constants b.deriv.hyps) (flat_map sides b.deriv.lines) (clause_below b.deriv.hyps a)
        (each_below n sides b.deriv.lines
        (all_weaker (λ (l : EqLine). IsTermBelow n (states l).left × IsTermBelow n (states l).right) (λ l. AreBelow n (sides l)) (λ l h. both_below n (constants (states l).left) (constants (states l).right) h.0 h.1) b.deriv.lines all)))
        (λ c e. subst (IsClauseBelow n) (same_Some (map opposite b.deriv.hyps) c e) (opposites n b.deriv.hyps a))

    pub derived_line : (c : Clause) (hints : List ℕ) → IsClauseBelow n c → IsLineBelow p g n (Rup c hints)
    derived_line c hints a = line_by (Rup c hints) (clause_below c a) (λ d e. subst (IsClauseBelow n) (same_Some c d e) a)

-- ---- the `fresh` line of a block
module _ (p : Problem) (g n : ℕ) (f : Formula) (a : IsFormulaBelow n f) where
  own_end : AreBelow (n + variables f) (fresh_terms n f)
  own_end = counted n (block_sorts (out-Formula f)) (omega arith)
    where
      counted : (m : ℕ) (ss : List Sort) → m + length ss ≤ n + variables f → AreBelow (n + variables f) (count_from m ss)
      counted m [] le = none_below (n + variables f)
      counted m (s ∷ ss) le = λ k r h. elim (contains_cases (Fresh m s) (count_from (suc m) ss) (Fresh k r) h) as (λ _. k < n + variables f) [
        | inl e ↦ let q : m ≡ k = cc e in omega (arith, le, q)
        | inr c ↦ counted (suc m) ss (omega (arith, le)) k r c
      ]

  pub fresh_line : IsLineBelow p g (n + variables f) (FreshLine f n)
  fresh_line =
      let m = n + variables f in
      let b : IsFormulaBelow m f = rising n m (formula_constants f) a (omega arith) in
      line_by m p g (FreshLine f n) (both_below m (formula_constants f) (fresh_terms n f) b own_end) (λ c e. fresh_below m f n c b (omega arith) e)

  pub fresh_allowed : (lines : List ClauseLine) (c : Clause) → AreLinesBelow p g n lines → formula_ok p.signature f ≡ true → fresh_clause f n (out-Formula f) ≡ Some c
      → IsAllowed p g lines (FreshLine f n) × (conclusion p g (FreshLine f n) ≡ Some c)
  fresh_allowed lines c all ok e =
      let is : conclusion p g (FreshLine f n) ≡ Some c = ap (λ (b : Bool). only b (fresh_clause f n (out-Formula f))) ok ∙ e in (
        ((c, is), all_new (formula_constants f ++ flat_map (line_constants p g) lines) n n (block_sorts (out-Formula f)) (both_below n (formula_constants f) (flat_map (line_constants p g) lines) a (each_below n (line_constants p g) lines all)) (omega arith)),
        is,
      )
