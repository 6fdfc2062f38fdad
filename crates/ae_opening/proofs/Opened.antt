-- What opening a block keeps.
use Rattle.std.specs.Prelude.{ℕ, ◌<◌, ◌≤◌, ◌≡◌, ◌≢◌, true, List, [], ◌∷◌, ◌++◌, Some}
use Rattle.std.specs.List.{Contains}
use Rattle.std.proofs.Common.{refl, sym, ap, ◌∙◌, subst, arith}
use Rattle.ae_base.proofs.AllOf.{all_push, all_weaker}
use Rattle.ae_block_constants.proofs.Another.{another_apart}
use Rattle.ae_block_constants.specs.Blocks.{AreApart}
use Rattle.ae_block_constants.specs.declared.opened.Opened.{Opened}
use Rattle.ae_block_counts.proofs.Opening.{opening_less}
use Rattle.ae_block_counts.specs.Counts.{blocks_in, quantifiers_left}
use Rattle.ae_core.specs.Sorts.{formula_ok}
use Rattle.ae_core.specs.declared.formulas.Formula.{Formula, out-Formula}
use Rattle.ae_core.specs.declared.formulas.Lit.{Lit}
use Rattle.ae_core.specs.declared.problems.Problem.{Problem}
use Rattle.ae_core.specs.declared.proofs.ClauseLine.{ClauseLine}
use Rattle.ae_core.specs.declared.proofs.ClauseLine.TheVariants.{Fresh}
use Rattle.ae_journal.specs.Standing.{Setting, IsFormula, IsPossible}
use Rattle.ae_journal.specs.Standing.IsFormula.{of_fresh}
use Rattle.ae_journal.specs.Standing.IsPossible.{fresh_of}
use Rattle.ae_journal.specs.declared.lines.Line.{Line}
use Rattle.ae_new_constants.proofs.Lines.{fresh_allowed, fresh_line, stated_below}
use Rattle.ae_new_constants.proofs.Lists.{rising}
use Rattle.ae_new_constants.specs.Below.{IsClauseBelow, IsFormulaBelow, IsLineBelow, AreLinesBelow}
use Rattle.ae_opening.specs.Asking.{IsOpened}
use Rattle.ae_opening.specs.Opens.{Opens}
use Rattle.ae_rules.specs.Clauses.{Clause}
use Rattle.ae_rules.specs.Derivations.{conclusion, line_constants, IsAllowed}
use Rattle.ae_rules.specs.Instances.{fresh_clause}

module _ (f : Formula) (n m : ℕ) (old new : List Opened) (l : ClauseLine) (c : Clause) (o : Opens f n m old new l c) where
  own : Opened
  own = record { formula = f; first = n }

  others : ¬ IsOpened old f → (e : Opened) → Contains old e → e.formula ≢ f
  others n e h q = n (e, h, q)

  pub still_apart : AreApart n old → ¬ IsOpened old f → AreApart m new
  unfolding own
  still_apart a k = subst (λ (w : ℕ × List Opened). AreApart w.0 w.1) (λ i. (sym o.next i, sym o.more i)) (another_apart n old own a refl (others k))

  pub fewer : (clauses : List Clause) → Contains (blocks_in clauses) f → ¬ IsOpened old f → quantifiers_left new (clauses ++ c ∷ []) < quantifiers_left old clauses
  unfolding own
  fewer clauses h k = subst (λ (w : List Opened). quantifiers_left w (clauses ++ c ∷ []) < quantifiers_left old clauses) (sym o.more) (opening_less old clauses own c h (others k) o.clause)

  module _ (p : Problem) (g : ℕ) (lines : List ClauseLine) (below : AreLinesBelow p g n lines) (own_below : IsFormulaBelow n f) (ok : formula_ok p.signature f ≡ true) where
    states : IsAllowed p g lines (Fresh f n) × (conclusion p g (Fresh f n) ≡ Some c)
    states = fresh_allowed p g n f own_below lines c below ok o.clause

    line_below : IsLineBelow p g m (Fresh f n)
    line_below = subst (λ k. IsLineBelow p g k (Fresh f n)) (sym o.next) (fresh_line p g n f own_below)

    rises : n ≤ m
    rises = let e = o.next in omega (arith, e)

    pub stated : IsAllowed p g lines l × (conclusion p g l ≡ Some c) × AreLinesBelow p g m (lines ++ l ∷ []) × IsClauseBelow m c
    stated =
        subst (λ (k : ClauseLine). IsAllowed p g lines k × (conclusion p g k ≡ Some c) × AreLinesBelow p g m (lines ++ k ∷ []) × IsClauseBelow m c) (sym o.line) (
          states.0,
          states.1,
          all_push (IsLineBelow p g m) lines (Fresh f n) (all_weaker (IsLineBelow p g n) (IsLineBelow p g m) (λ k h. rising n m (line_constants p g k) h rises) lines below) line_below,
          stated_below m p g (Fresh f n) c line_below states.1,
        )

  module _ (x : Setting) (js : List Line) (of : IsFormula x js f) (numbered : x.fresh f ≡ n) where
    its_clause : fresh_clause f (x.fresh f) (out-Formula f) ≡ Some c
    its_clause = ap (λ k. fresh_clause f k (out-Formula f)) numbered ∙ o.clause

    pub comes : IsPossible x js c × ((k : Lit) → Contains c k → IsFormula x js k.formula)
    comes = (fresh_of js f c of its_clause, λ k h. of_fresh js f c k of its_clause h)
