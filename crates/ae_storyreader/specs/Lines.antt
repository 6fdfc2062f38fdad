-- How a line of a journal is read: by its first word, and then what stands behind it.
use Rattle.std.specs.Prelude.{ℕ, true, false, List, [], ◌∷◌, Option, Some, None}
use Rattle.ae_choices.specs.Choices.{Arms, picked}
use Rattle.ae_codes.specs.Closers.{by_blank, by_line, sizes}
use Rattle.ae_codes.specs.Codes.{Read, got}
use Rattle.ae_codes.specs.Numbers.{number}
use Rattle.ae_core.specs.declared.formulas.Formula.{Formula}
use Rattle.ae_core.specs.declared.formulas.Lit.{Lit}
use Rattle.ae_core.specs.declared.problems.Signature.{Signature}
use Rattle.ae_core.specs.declared.terms.Sort.{Sort}
use Rattle.ae_core.specs.declared.terms.Term.{Term}
use Rattle.ae_formulareader.specs.Formulas.{square_terms}
use Rattle.ae_formulareader.specs.Literals.{literal_code}
use Rattle.ae_journal.specs.declared.lines.Line.{Line}
use Rattle.ae_journal.specs.declared.lines.Line.TheVariants as line
use Rattle.ae_journal.specs.declared.lines.Oriented.TheVariants as oriented
use Rattle.ae_num.specs.declared.forms.Lin.{Lin}
use Rattle.ae_num.specs.declared.forms.Value.{Value}
use Rattle.ae_prooftext.specs.Grammar.{clause_code, formula_code}
use Rattle.ae_readers.specs.Readers.{after_read, fixed_read, list_read}
use Rattle.ae_stategrammar.specs.Journals.{decide_word, solve_word, rule_word, drop_solve_word, drop_rule_word, pair_word, learn_word, types_word, terms_word, least_word, above_word, back_word, end_word, more_words}
use Rattle.ae_stategrammar.specs.Sides.{sides}
use Rattle.ae_termreader.specs.Sorts.{sorts_read}
use Rattle.ae_valuetext.specs.Lins.{linear_form}
use Rattle.ae_valuetext.specs.Values.{value}

-- a line, or none at the end
abbrev pub Step : Type 0
Step = Option Line

abbrev pub line_words : List (List ℕ)
line_words = decide_word ∷ more_words

abbrev pub end_of_line : List ℕ → Read (Unit {0})
end_of_line bytes = fixed_read (10 ∷ []) bytes

-- a name and its value
abbrev pub solved_read : List ℕ → Read ((n : ℕ) × Value)
solved_read bytes =
    after_read ((number (sizes by_blank)).read bytes) (λ n r.
    after_read ((value by_line).read r) (λ v rest. got (n.0, v.0) rest))

-- a linear form and the end of the line
abbrev pub form_read : List ℕ → Read Lin
form_read bytes = after_read (linear_form.read bytes) (λ l r. after_read (end_of_line r) (λ u rest. got l rest))

module _ (sig : Signature) where
  abbrev pub learnt_read : List ℕ → Read (List Lit)
  learnt_read bytes = after_read ((clause_code sig).read bytes) (λ c r. after_read (end_of_line r) (λ u rest. got c rest))

  -- an axiom and sorts
  abbrev pub typed_read : List ℕ → Read ((n : ℕ) × List Sort)
  typed_read bytes =
      after_read ((number (sizes by_blank)).read bytes) (λ n r.
      after_read (fixed_read (91 ∷ []) r) (λ u q.
      after_read (sorts_read sig q) (λ ss p.
      after_read (end_of_line p) (λ v rest. got (n.0, ss) rest))))

  -- a quantified formula and terms
  abbrev pub applied_read : List ℕ → Read ((f : Formula) × List Term)
  applied_read bytes =
      after_read ((formula_code sig [] by_blank).read bytes) (λ f r.
      after_read (fixed_read (91 ∷ []) r) (λ u q.
      after_read (list_read 93 (square_terms sig []) q) (λ ts p.
      after_read (end_of_line p) (λ v rest. got (f.0, ts) rest))))

  -- ---- what stands behind each word
  abbrev pub last_arms : Arms Step
  last_arms =
      (least_word, λ bytes. after_read (form_read bytes) (λ l rest. got (Some (line.Combine false l)) rest))
      ∷ (above_word, λ bytes. after_read (form_read bytes) (λ l rest. got (Some (line.Combine true l)) rest))
      ∷ (back_word, λ bytes. after_read ((number (sizes by_line)).read bytes) (λ n rest. got (Some (line.Back n.0)) rest))
      ∷ (end_word, λ bytes. got None bytes)
      ∷ []

  abbrev pub late_arms : Arms Step
  late_arms =
      (learn_word, λ bytes. after_read (learnt_read bytes) (λ c rest. got (Some (line.Learn c)) rest))
      ∷ (types_word, λ bytes. after_read (typed_read bytes) (λ v rest. got (Some (line.TypeInstance v.0 v.1)) rest))
      ∷ (terms_word, λ bytes. after_read (applied_read bytes) (λ v rest. got (Some (line.TermInstance v.0 v.1)) rest))
      ∷ last_arms

  abbrev pub middle_arms : Arms Step
  middle_arms =
      (drop_solve_word, λ bytes. after_read (solved_read bytes) (λ v rest. got (Some (line.Drop (oriented.Named v.0 v.1))) rest))
      ∷ (drop_rule_word, λ bytes. after_read ((sides sig).read bytes) (λ v rest. got (Some (line.Drop (oriented.Rule v.0 v.1.0 v.1.1))) rest))
      ∷ (pair_word, λ bytes. after_read ((sides sig).read bytes) (λ v rest. got (Some (line.Pair v.0 v.1.0 v.1.1)) rest))
      ∷ late_arms

  abbrev pub line_arms : Arms Step
  line_arms =
      (decide_word, λ bytes. after_read ((literal_code sig by_line).read bytes) (λ v rest. got (Some (line.Decide v.0)) rest))
      ∷ (solve_word, λ bytes. after_read (solved_read bytes) (λ v rest. got (Some (line.Orient (oriented.Named v.0 v.1))) rest))
      ∷ (rule_word, λ bytes. after_read ((sides sig).read bytes) (λ v rest. got (Some (line.Orient (oriented.Rule v.0 v.1.0 v.1.1))) rest))
      ∷ middle_arms

  abbrev pub line_read : List ℕ → Read Step
  line_read bytes = picked line_words line_arms bytes
