-- What formulas and their parts keep, clauses and lines over them keep.
use Rattle.std.specs.Prelude.{ℕ, ◌≤◌, List, slice_get, slice_index_or}
use Rattle.std.specs.List.{AllByRecursion, Contains}
use Rattle.std.proofs.Common.{refl, sym, subst}
use Rattle.ae_base.proofs.AllOf.{all_append, all_at, all_weaker}
use Rattle.ae_base.proofs.Options.{bind_some}
use Rattle.ae_block_constants.specs.declared.opened.Opened.{Opened}
use Rattle.ae_block_counts.proofs.Blocks.{clause_blocks, in_flat, part_blocks}
use Rattle.ae_block_counts.proofs.Opening.{no_more}
use Rattle.ae_block_counts.specs.Counts.{blocks_of, blocks_in, quantifiers_left}
use Rattle.ae_core.specs.declared.formulas.Formula.{Formula}
use Rattle.ae_core.specs.declared.formulas.Lit.{Lit}
use Rattle.ae_core.specs.declared.problems.Problem.{Problem}
use Rattle.ae_core.specs.declared.proofs.ClauseLine.{ClauseLine}
use Rattle.ae_core.specs.declared.proofs.ClauseLine.TheVariants as clause_line
use Rattle.ae_core.specs.declared.proofs.EqLine.{EqLine}
use Rattle.ae_explain.specs.Trail.{clause}
use Rattle.ae_first_clauses.proofs.Subformulas.{all_covered, keeps_to}
use Rattle.ae_journal.proofs.Splits.{all_contained}
use Rattle.ae_journal.specs.Standing.{parts_of}
use Rattle.ae_kept_blocks.specs.Kept.{AreClausesBelow, GoesOnOver}
use Rattle.ae_kept_blocks.proofs.Members.{one_of, contained, from_flat}
use Rattle.ae_new_constants.proofs.Formulas.{part_below}
use Rattle.ae_new_constants.proofs.Lines.{stated_below, row_line, block_line, derived_line}
use Rattle.ae_new_constants.proofs.Terms.{built}
use Rattle.ae_new_constants.specs.Below.{IsTermBelow, IsFormulaBelow, IsLineBelow, AreLinesBelow}
use Rattle.ae_rules.specs.Clauses.{Clause}
use Rattle.ae_rules.specs.Derivations.{conclusion}
use Rattle.ae_rules.specs.Lines.{states}
use Rattle.ae_sat.proofs.Closure.{parts_said}
use Rattle.ae_sat.specs.Lines.{AddsLinesOver, IsBuiltLine, IsLineOver}
use Rattle.ae_sat.specs.Search.{AllAmong, HasParts, IsStated}
use Rattle.ae_sat.specs.Standing.{IsOneOf}
use Rattle.ae_store.specs.Stores.{Stored}
use Rattle.ae_theory.specs.Names.{terms_in}

-- ---- clauses
pub clauses_below : (p : Problem) (g n : ℕ) (lines : List ClauseLine) (clauses : List Clause) (places : List ℕ) → IsStated p g lines clauses places → AreLinesBelow p g n lines → AreClausesBelow n clauses
clauses_below p g n lines clauses places s below c l o i =
    let at = slice_index_or places o.0 0 in
    let w = bind_some (slice_get lines at) (conclusion p g) (clause clauses o.0) (s.states o.0 o.1) in
    all_contained (λ (m : Lit). IsFormulaBelow n m.formula) (clause clauses o.0) l
    (stated_below n p g w.0 (clause clauses o.0) (all_at (IsLineBelow p g n) lines at w.0 below w.1) w.2) (subst (λ (x : Clause). Contains x l) (sym o.2) i)

-- ---- lines
module _ (p : Problem) (g n : ℕ) (s : Stored) (names : AllByRecursion (IsTermBelow n) (terms_in s)) where
  module _ (fs : List Formula) (all : AllByRecursion (IsFormulaBelow n) fs) where
    of_them : (c : Clause) → AllByRecursion (λ (l : Lit). Contains fs l.formula) c → AllByRecursion (λ (l : Lit). IsFormulaBelow n l.formula) c
    of_them c h = all_weaker (λ (l : Lit). Contains fs l.formula) (λ l. IsFormulaBelow n l.formula) (λ l k. all_contained (IsFormulaBelow n) fs l.formula all k) c h

    line_over : (k : ClauseLine) → IsLineOver s fs k → IsLineBelow p g n k
    line_over (clause_line.Def r f) h = row_line n p g r f (all_contained (IsFormulaBelow n) fs f all h)
    line_over (clause_line.Block b) h =
        block_line n p g b (of_them b.deriv.hyps h.hyps)
        (all_weaker (IsBuiltLine s.signature (terms_in s)) (λ (l : EqLine). IsTermBelow n (states l).left × IsTermBelow n (states l).right)
        (λ l e. (built n s.signature (terms_in s) names (states l).left e.left, built n s.signature (terms_in s) names (states l).right e.right)) b.deriv.lines h.lines)
    line_over (clause_line.Rup c hints) h = derived_line n p g c hints (of_them c h)
    line_over (clause_line.Hyp k ss) h = absurd h
    line_over clause_line.Goal h = absurd h
    line_over (clause_line.Inst f ts) h = absurd h
    line_over (clause_line.Fresh f m) h = absurd h
    line_over (clause_line.Exh t) h = absurd h
    line_over (clause_line.Tri t u) h = absurd h

  pub lines_below : (clauses : List Clause) (lines lines2 : List ClauseLine) → AreLinesBelow p g n lines → AreClausesBelow n clauses → ((fs : List Formula) → HasParts fs → AllAmong fs clauses → AddsLinesOver s fs lines lines2)
      → AreLinesBelow p g n lines2
  lines_below clauses lines lines2 below h adds =
      let w = all_covered (IsFormulaBelow n) (part_below n) clauses (λ l i. h (clause clauses i.0) l (i.0, i.1, refl) i.2) in
      let a = adds w.formulas (parts_said w.formulas w.parts) (λ d m i j. w.own m (i.0, i.1, subst (λ (x : Clause). Contains x m) (sym i.2) j)) in
      subst (AreLinesBelow p g n) (sym a.1)
      (all_append (IsLineBelow p g n) lines a.0 below (all_weaker (IsLineOver s w.formulas) (IsLineBelow p g n) (line_over w.formulas w.all) a.0 a.2))

-- ---- blocks
module _ (old new : List Clause) (among : GoesOnOver old new) where
  -- each block of the formula is one of the old clauses
  abbrev IsOld : Formula → Type 0
  IsOld k = (b : Formula) → Contains (blocks_of k) b → Contains (blocks_in old) b

  old_part : (k a : Formula) → IsOld k → Contains (parts_of k) a → IsOld a
  old_part k a h i b j = h b (part_blocks a b k i j)

  old_first : (c : Clause) (l : Lit) → IsOneOf old c → Contains c l → IsOld l.formula
  old_first c l o i b j = in_flat clause_blocks old c b (contained old c o) (in_flat (λ (m : Lit). blocks_of m.formula) c l b i j)

  old_blocks : (b : Formula) → Contains (blocks_in new) b → Contains (blocks_in old) b
  old_blocks b h =
      let c = from_flat clause_blocks new b h in
      let l = from_flat (λ (m : Lit). blocks_of m.formula) c.0 b c.2 in
      keeps_to IsOld old_part old new old_first among c.0 l.0 (one_of new c.0 c.1) l.1 b l.2

  pub quantifiers_kept : (opened : List Opened) → quantifiers_left opened new ≤ quantifiers_left opened old
  quantifiers_kept opened = no_more opened old new old_blocks
