-- After a run numerals are in lowest terms, and literals are written without negations: what comes in is over parts of the formulas that are there.
use Rattle.std.specs.Prelude.{List, filter}
use Rattle.std.specs.List.{AllByRecursion, Contains}
use Rattle.std.proofs.Common.{refl, sym, subst}
use Rattle.ae_base.proofs.AllOf.{all_append, all_weaker}
use Rattle.ae_between_rounds.specs.Fine.{AreFine, IsFineFormula, IsFineLine}
use Rattle.ae_core.specs.declared.formulas.Formula.{Formula}
use Rattle.ae_core.specs.declared.formulas.Lit.{Lit}
use Rattle.ae_core.specs.declared.proofs.ClauseLine.{ClauseLine}
use Rattle.ae_explain.specs.Trail.{clause}
use Rattle.ae_first_clauses.proofs.Subformulas.{Covers, InSome, all_covered}
use Rattle.ae_journal.proofs.Splits.{all_contained}
use Rattle.ae_kept_blocks.specs.Kept.{GoesOnOver}
use Rattle.ae_numerals_kept.proofs.Lowest.{part_lowest}
use Rattle.ae_numerals_kept.specs.Lowest.{IsLowest}
use Rattle.ae_rules.specs.Clauses.{Clause, literal}
use Rattle.ae_sat.proofs.Closure.{parts_said}
use Rattle.ae_sat.specs.Lines.{IsLineOver}
use Rattle.ae_sat.specs.Search.{AllAmong, HasParts}
use Rattle.ae_sat.specs.Standing.{IsOneOf}
use Rattle.ae_store.specs.Stores.{Stored}
use Rattle.ae_written_lines.proofs.Derived.{over_fine}
use Rattle.ae_written_lines.proofs.Filtered.{kept, passed, was_there}
use Rattle.ae_written_lines.proofs.Fine.{direct_literal, is_direct}
use Rattle.ae_kept_runs.specs.Runs.{ComesOver}

module _ (cs : List Clause) (fine : (c : Clause) (l : Lit) → IsOneOf cs c → Contains c l → IsFineFormula l.formula) where
  literal_fine : (l : Lit) → InSome IsLowest part_lowest cs l → IsFineFormula l.formula
  literal_fine l i = fine (clause cs i.0) l (i.0, i.1, refl) i.2

  covered : Covers IsLowest part_lowest (InSome IsLowest part_lowest cs)
  covered = all_covered IsLowest part_lowest cs (λ l i. (literal_fine l i).0)

  abbrev direct_ones : List Formula
  direct_ones = filter is_direct covered.formulas

  direct_parts : HasParts direct_ones
  direct_parts h a sign k i =
      kept is_direct covered.formulas (literal sign a).formula (parts_said covered.formulas covered.parts h a sign (was_there is_direct covered.formulas h k) i) (direct_literal sign a)

  all_direct : AllAmong direct_ones cs
  all_direct c l o k =
      let i : InSome IsLowest part_lowest cs l = (o.0, o.1, subst (λ (x : Clause). Contains x l) (sym o.2) k) in
      kept is_direct covered.formulas l.formula (covered.own l i) (literal_fine l i).1

  direct_fine : AllByRecursion IsFineFormula direct_ones
  direct_fine = passed is_direct IsLowest covered.formulas covered.all

pub fine_run : (s : Stored) (old new : List ClauseLine) (cs ds : List Clause) → GoesOnOver cs ds → ComesOver s cs old new → AreFine s old cs → AreFine s new ds
fine_run s old new cs ds among adds h =
    let fs = direct_ones cs h.formulas in
    let parts = direct_parts cs h.formulas in
    let own = all_direct cs h.formulas in
    let fine = direct_fine cs h.formulas in
    let a = adds fs parts own in
    record {
      names = h.names;
      formulas = λ c l o k. all_contained IsFineFormula fs l.formula fine (among fs parts own c l o k);
      lines = subst (AllByRecursion IsFineLine) (sym a.1)
          (all_append IsFineLine old a.0 h.lines (all_weaker (IsLineOver s fs) IsFineLine (over_fine s h.names fs fine) a.0 a.2));
    }
