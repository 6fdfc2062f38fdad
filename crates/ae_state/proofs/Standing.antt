-- Larger stores, and lines that change nothing.
use Rattle.std.specs.Prelude.{true, false, ◌≡◌}
use Rattle.std.proofs.Common.{refl, ◌∙◌}
use Rattle.ae_base.proofs.Tests.{false_true}
use Rattle.ae_journal.specs.declared.lines.Line.{Line}
use Rattle.ae_journal.specs.declared.lines.Line.TheVariants as line
use Rattle.ae_journal.specs.declared.lines.Oriented.TheVariants as oriented
use Rattle.ae_name_lines.specs.InStep.{is_solve}
use Rattle.ae_name_lines.proofs.Solving.{other_lines_keep_step, other_lines_solve_nothing}
use Rattle.ae_rule_lines.specs.Changes.{leaves_rules}
use Rattle.ae_rule_lines.proofs.OtherLines.{other_lines_keep}
use Rattle.ae_theory.specs.Names.{terms_in}
use Rattle.ae_theory.specs.Noting.{is_silent}
use Rattle.ae_value_table.specs.Table.{values}
use Rattle.ae_state.specs.Names.{all_terms, terms_now, rules_now}
use Rattle.ae_state.specs.Stepping.{paired_now, equations_now}
use Rattle.ae_state.specs.Laws.{LargerStoresFit, SilentLinesKeepStep}
use Rattle.ae_state.proofs.Growing.{keeps_then}

pub larger_fit : LargerStoresFit
larger_fit o a b e f =
    record {
      right = f.right;
      terms = record { signature = e.signature ∙ (f.terms).signature; keeps = keeps_then (all_terms o) (terms_in a) (terms_in b) (f.terms).keeps e.keeps };
    }

-- a line that is none of a theory
silent_line : (j : Line) → is_silent j ≡ true → (is_solve j ≡ false) × (leaves_rules j ≡ true)
silent_line (line.Orient (oriented.Named n v)) e = false_true e
silent_line (line.Orient (oriented.Rule u l r)) e = false_true e
silent_line (line.Decide l) e = (refl, e)
silent_line (line.Learn c) e = (refl, e)
silent_line (line.TypeInstance k ss) e = (refl, e)
silent_line (line.TermInstance f ts) e = (refl, e)
silent_line (line.Combine strict f) e = (refl, e)
silent_line (line.Drop o) e = false_true e
silent_line (line.Pair u l m) e = false_true e
silent_line (line.Back n) e = false_true e

pub silent_keeps : SilentLinesKeepStep
silent_keeps o js j e s =
    let a = silent_line j e in
    record {
      valued = other_lines_keep_step o.signature (terms_now o) (values o.values) js j a.0 s.valued;
      solved = other_lines_solve_nothing o.values.taken js j a.0 s.solved;
      ruled = other_lines_keep o.signature (terms_now o) js j (rules_now o) (paired_now o) (equations_now o) a.1 s.ruled;
    }
