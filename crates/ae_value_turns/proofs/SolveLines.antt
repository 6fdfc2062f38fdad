-- `solve` lines: one is noted, and the values that it gives are in step with it.
use Rattle.std.specs.Prelude.{ℕ, ◌<◌, ◌+◌, List, [], ◌∷◌, ◌++◌, ◌≡◌}
use Rattle.std.proofs.Common.{refl, sym, ap, ◌∙◌, subst, arith}
use Rattle.std.proofs.lemmas.List.{append_cancel_left}
use Rattle.ae_core.specs.declared.terms.Term.{Term}
use Rattle.ae_core.specs.declared.problems.Signature.{Signature}
use Rattle.ae_journal.specs.Journals.{live, counted_in}
use Rattle.ae_journal.specs.Legal.{AreLegal}
use Rattle.ae_journal.specs.Noted.{Noted}
use Rattle.ae_journal.specs.SolverLines.{MayOrientName}
use Rattle.ae_journal.specs.Standing.{Setting}
use Rattle.ae_journal.specs.declared.lines.Line.{Line}
use Rattle.ae_journal.specs.declared.lines.Line.TheVariants as line
use Rattle.ae_journal.specs.declared.lines.Oriented.TheVariants as oriented
use Rattle.ae_journal.proofs.Counting.{counted_push}
use Rattle.ae_journal.proofs.Living.{live_push}
use Rattle.ae_just.specs.declared.steps.Step.{Step}
use Rattle.ae_name_lines.specs.InStep.{AreLineValues, SolvesBelow}
use Rattle.ae_name_lines.proofs.Solving.{solves_grow}
use Rattle.ae_num.specs.declared.forms.Value.{Value}
use Rattle.ae_rule_lines.specs.InStep.{AreRulesInStep}
use Rattle.ae_rule_lines.proofs.OtherLines.{other_lines_keep}
use Rattle.ae_state.specs.Names.{terms_now, rules_now}
use Rattle.ae_state.specs.Stepping.{paired_now, equations_now, IsInStep}
use Rattle.ae_state.specs.declared.holding.Holding.{Holding}
use Rattle.ae_store.specs.Stores.{Stored}
use Rattle.ae_theory.specs.Names.{terms_in}
use Rattle.ae_theory.specs.Noting.{HasNoted, NotesLegal}
use Rattle.ae_turns.specs.Representing.{IsTaken}
use Rattle.ae_value_table.specs.Table.{Contents, values}
use Rattle.ae_value_turns.specs.Renewed.{AreRenewed}
use Rattle.ae_value_turns.proofs.RenewedValues.{after, taken_same, terms_same, back}

-- the line that gives a name a value
abbrev pub solve_line : ℕ → Value → Line
solve_line name v = line.Orient (oriented.Named name v)

-- ---- one that is noted
module _ (j k : Noted) (name : ℕ) (v : Value) (is : k ≡ record j { lines = j.lines ++ solve_line name v ∷ [] }) where
  lines_are : k.lines ≡ j.lines ++ solve_line name v ∷ []
  lines_are = ap (λ (z : Noted). z.lines) is

  pub solve_noted : HasNoted j k
  solve_noted = record { added = solve_line name v ∷ []; is = lines_are; limit = ap (λ (z : Noted). z.limit) is; theory = (refl, tt) }

  pub solve_one : counted_in k.lines ≡ counted_in j.lines + 1
  solve_one = ap counted_in lines_are ∙ counted_push j.lines (solve_line name v)

  pub solve_counted : counted_in j.lines < counted_in k.lines
  solve_counted = omega (arith, solve_one)

  pub solve_live : live k.lines ≡ live j.lines ++ solve_line name v ∷ []
  solve_live = ap live lines_are ∙ live_push j.lines (solve_line name v)

  pub solve_legal : (x : Setting) (bound : ℕ) → MayOrientName x j.lines name v → NotesLegal x bound j.lines k.lines
  solve_legal x bound may added e =
      subst (AreLegal x bound j.lines) (append_cancel_left j.lines (solve_line name v ∷ []) added (sym lines_are ∙ e)) (may, tt)

-- ---- values in step with it
module _ (o : Holding) (s : Stored) (t : IsTaken o s) (c : Contents) (steps : List Step) (n : AreRenewed s o c steps) (js : List Line) (name : ℕ) (v : Value) where
  abbrev ls : List Line
  ls = js ++ solve_line name v ∷ []

  pub step_after : name < o.values.taken → AreLineValues s.signature (terms_in s) (values c) ls → IsInStep o js → IsInStep (after o s t c steps n) ls
  step_after l lines step =
      record {
        valued = subst (λ (z : Signature × List Term). AreLineValues z.0 z.1 (values c) ls) (back o s t c steps n) lines;
        solved = subst (λ (k : ℕ). SolvesBelow k ls) (sym (taken_same o s t c steps n)) (solves_grow o.values.taken name v js l step.solved);
        ruled =
            subst (λ (ts : List Term). AreRulesInStep o.signature ts ls (rules_now o) (paired_now o) (equations_now o)) (sym (terms_same o s t c steps n))
            (other_lines_keep o.signature (terms_now o) js (solve_line name v) (rules_now o) (paired_now o) (equations_now o) refl step.ruled);
      }

-- ---- and values that are as they were are in step with the lines of before
module _ (o : Holding) (s : Stored) (t : IsTaken o s) (steps : List Step) (n : AreRenewed s o o.values steps) where
  pub step_same : (js : List Line) → IsInStep o js → IsInStep (after o s t o.values steps n) js
  step_same js step = record { valued = step.valued; solved = step.solved; ruled = step.ruled }
