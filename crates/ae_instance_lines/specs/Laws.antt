-- The laws, as statements.
use Rattle.std.specs.Prelude.{ℕ, true, List, [], ◌≡◌, Some}
use Rattle.std.specs.List.{Contains}
use Rattle.ae_core.specs.declared.formulas.Formula.{Formula, out-Formula}
use Rattle.ae_core.specs.declared.formulas.Formula.TheOpen as layer
use Rattle.ae_core.specs.declared.formulas.Lit.{Lit}
use Rattle.ae_core.specs.declared.formulas.Quant.{Quant}
use Rattle.ae_core.specs.declared.proofs.ClauseLine.TheVariants as clause_line
use Rattle.ae_rules.specs.Clauses.{Clause}
use Rattle.ae_rules.specs.Derivations.{conclusion}
use Rattle.ae_rules.specs.Instances.{hypothesis}
use Rattle.ae_journal.specs.Standing.{Setting}
use Rattle.ae_journal.specs.States.{of_literal, of_axiom, is_universal}
use Rattle.ae_journal.specs.declared.lines.Line.{Line}
use Rattle.ae_journal.specs.declared.lines.Line.TheVariants as line
use Rattle.ae_owed.specs.Instances.{Instance}
use Rattle.ae_owed.specs.Recorded.{HasLines}

-- the line of a universal literal's instance brings what the instance brings
abbrev pub LiteralHasLines : Type 0
LiteralHasLines =
    (x : Setting) (js : List Line) (i : Instance) (l : Lit) (c : Clause) → i.owner ≡ of_literal l → i.sorts ≡ [] → is_universal l ≡ true
    → conclusion x.problem x.goal (clause_line.Inst l.formula i.terms) ≡ Some c → Contains js (line.TermInstance l.formula i.terms) → HasLines x js i

-- and so do, of an axiom, the line with its sorts, and where its formula is an `all` block the line of this with its terms
abbrev pub AxiomHasLines : Type 0
AxiomHasLines =
    (x : Setting) (js : List Line) (i : Instance) (k : ℕ) (f : Formula) (c : Clause) → i.owner ≡ of_axiom k → hypothesis x.problem x.goal k i.sorts ≡ Some f
    → conclusion x.problem x.goal (clause_line.Hyp k i.sorts) ≡ Some c → Contains js (line.TypeInstance k i.sorts)
    → ((q : Quant) → out-Formula f ≡ layer.All q → (d : Clause) × (conclusion x.problem x.goal (clause_line.Inst f i.terms) ≡ Some d) × Contains js (line.TermInstance f i.terms))
    → HasLines x js i
