-- Rounded rows in a journal, and as derived lines.
use Rattle.std.specs.Prelude.{ℕ, pos, Bool, false, cond, ◌||◌, List, [], ◌≡◌, ◌≢◌}
use Rattle.std.specs.List.{AllByRecursion}
use Rattle.ae_core.specs.declared.terms.Term.{Term}
use Rattle.ae_core.specs.declared.terms.Sort.{Int}
use Rattle.ae_core.specs.declared.problems.Signature.{Signature}
use Rattle.ae_core.specs.declared.proofs.EqLine.{EqLine}
use Rattle.ae_core.specs.declared.proofs.Relation.TheVariants.{AtMost, Below}
use Rattle.ae_num.specs.declared.forms.Lin.{Lin}
use Rattle.ae_num.specs.Forms.{meaning, SameMeaning, IsNormal}
use Rattle.ae_rules.specs.Linear.{form}
use Rattle.ae_math.specs.Forms.{single}
use Rattle.ae_rules.specs.Lines.{Fact, at_most, HaveSort, Stated, AllowedRound}
use Rattle.ae_rows.specs.Rows.{combination}
use Rattle.ae_row_lines.specs.Says.{Says}
use Rattle.ae_journal.specs.Values.{Sum, sum_of_lin}
use Rattle.ae_journal.specs.Sides.{AreWhole, IsRounded}
use Rattle.ae_journal.specs.Standing.{Setting, IsWholeRow}
use Rattle.ae_journal.specs.Rows.{IsRow, IsMultiple, MayCombine}
use Rattle.ae_journal.specs.declared.lines.Line.{Line}
use Rattle.ae_combine_lines.specs.Laws.{AreOpposed, IsSure}

-- ---- in a journal
-- a rounded row stands where the row stands
abbrev pub RoundedRowsStand : Type 0
RoundedRowsStand = (x : Setting) (js : List Line) (strict : Bool) (f r : Lin) → IsWholeRow x js strict f → IsRounded strict f r → IsNormal r
    → IsWholeRow x js false r × IsRow x js false (sum_of_lin r)

-- names of sort `int` alone are in the combination of two rows with such names, and in a rounded row
abbrev pub CombinationsAreWhole : Type 0
CombinationsAreWhole = (sig : Signature) (names : List Term) (n : ℕ) (p q h : Lin) → IsNormal h → SameMeaning (meaning h) (combination n (meaning p) (meaning q))
    → AreWhole sig names p → AreWhole sig names q → AreWhole sig names h

abbrev pub RoundedRowsAreWhole : Type 0
RoundedRowsAreWhole = (sig : Signature) (names : List Term) (strict : Bool) (f r : Lin) → IsRounded strict f r → AreWhole sig names f → AreWhole sig names r

-- the combination of two rows that stand, rounded, is a legal line, where it is no positive multiple of a row that is surely there
abbrev pub RoundedCombinationsAreLegal : Type 0
RoundedCombinationsAreLegal = (x : Setting) (js : List Line) (n : ℕ) (s t : Bool) (p q h r : Lin) → AreOpposed x js n s p t q
    → IsNormal h → SameMeaning (meaning h) (combination n (meaning p) (meaning q))
    → AreWhole x.problem.signature x.names h → IsNormal r → IsRounded (s || t) h r → ((g : Sum) → IsSure x js g → ¬ IsMultiple (sum_of_lin r) g) → MayCombine x js false r

-- ---- as derived lines
-- each name of the row stands for an opaque term, different names for different terms
pub record AreOpaque (names : ℕ → Term) (f : Lin) : Type 0 where
  pub opaque : AllByRecursion (λ p. form (names p.key) ≡ single (names p.key)) f.parts
  pub apart : AllByRecursion (λ p. AllByRecursion (λ q. names p.key ≡ names q.key → p.key ≡ q.key) f.parts) f.parts

-- a line that says a row of integers without its denominator, and the rounded row as an inequality that allows equality: rounding is an allowed line
abbrev pub RoundingIsALine : Type 0
RoundingIsALine = (sig : Signature) (names : ℕ → Term) (strict : Bool) (f r : Lin) (from : Fact) (s t : Term) (earlier : List EqLine) (k : ℕ) → IsNormal f → IsNormal r
    → f.parts ≢ [] → IsRounded strict f r → AreOpaque names f
    → from.relation ≡ cond strict Below AtMost → Says names f.den (meaning f) from → Says names (pos 1) (meaning r) (at_most s t) → HaveSort sig Int from → HaveSort sig Int (at_most s t) → Stated earlier k from
    → AllowedRound sig earlier s t k
