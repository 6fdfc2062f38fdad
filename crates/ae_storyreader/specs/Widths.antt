-- How a width with its journal is read, word by word, and what its reader answers.
use Rattle.std.specs.Prelude.{ℕ, List, [], ◌∷◌, Option, Some, None, Result, Ok, Err, codes}
use Rattle.ae_choices.specs.Choices.{Arms, picked}
use Rattle.ae_codes.specs.Closers.{by_blank, by_line, sizes}
use Rattle.ae_codes.specs.Codes.{Read, got}
use Rattle.ae_codes.specs.Numbers.{number}
use Rattle.ae_core.specs.declared.problems.Signature.{Signature}
use Rattle.ae_journal.specs.declared.answers.NumStep.{NumStep}
use Rattle.ae_journal.specs.declared.answers.NumStep.TheVariants as step
use Rattle.ae_journal.specs.declared.answers.WideAt.{WideAt}
use Rattle.ae_journal.specs.declared.lines.Story.{Story}
use Rattle.ae_num.specs.declared.forms.Lin.{Lin}
use Rattle.ae_num.specs.declared.numbers.NumOp.{NumOp}
use Rattle.ae_num.specs.declared.numbers.NumOp.TheVariants as op
use Rattle.ae_num.specs.declared.numbers.Wide.{Wide}
use Rattle.ae_readers.specs.Readers.{after_read, fixed_read, integer_at}
use Rattle.ae_readers.specs.declared.fault.Fault.{Fault}
use Rattle.ae_stategrammar.specs.Journals.{story}
use Rattle.ae_stategrammar.specs.Widths.{plus_word, scale_word, subst_word, combine_word, step_words, mul_word, add_word}
use Rattle.ae_storyreader.specs.Lines.{form_read}
use Rattle.ae_storyreader.specs.declared.widths.NumberText.{NumberText}

-- the journal and the width that were read
abbrev pub pair_of : Result NumberText Fault → Result ((s : Story) × WideAt) Fault
pair_of (Ok v) = Ok (v.story, v.at)
pair_of (Err f) = Err f

abbrev pub step_arms : Arms NumStep
step_arms =
    (plus_word, λ bytes. got step.Plus bytes)
    ∷ (scale_word, λ bytes. got step.Scale bytes)
    ∷ (subst_word, λ bytes. got step.Subst bytes)
    ∷ (combine_word, λ bytes. got step.Combine bytes)
    ∷ []

abbrev pub all_steps : List (List ℕ)
all_steps = plus_word ∷ step_words

abbrev pub op_arms : Arms NumOp
op_arms = (mul_word, λ bytes. got op.Mul bytes) ∷ (add_word, λ bytes. got op.Add bytes) ∷ []

abbrev pub all_ops : List (List ℕ)
all_ops = mul_word ∷ add_word ∷ []

abbrev pub Start : Type 0
Start = (s : NumStep) × Wide

-- the two numbers behind the word of a product or a sum
abbrev pub numbers_read : NumOp → List ℕ → Read Wide
numbers_read o bytes =
    after_read ((integer_at by_blank).read bytes) (λ a r.
    after_read ((integer_at by_line).read r) (λ b rest. got (record { op = o; left = a.0; right = b.0 }) rest))

abbrev pub start_read : List ℕ → Read Start
start_read bytes =
    after_read (fixed_read (119 ∷ 105 ∷ 100 ∷ 101 ∷ 32 ∷ []) bytes) (λ u r.
    after_read (picked all_steps step_arms r) (λ s q.
    after_read (picked all_ops op_arms q) (λ o p.
    after_read (numbers_read o p) (λ w rest. got (s, w) rest))))

-- a line with a form
abbrev pub named_form_read : List ℕ → List ℕ → Read Lin
named_form_read word bytes = after_read (fixed_read word bytes) (λ u r. after_read (form_read r) (λ l rest. got l rest))

abbrev pub some_key_read : List ℕ → Read (Option ℕ)
some_key_read bytes =
    after_read (fixed_read (107 ∷ 101 ∷ 121 ∷ 32 ∷ []) bytes) (λ u r.
    after_read ((number (sizes by_line)).read r) (λ n rest. got (Some n.0) rest))

-- a key stands where the step has one
abbrev pub key_read : NumStep → List ℕ → Read (Option ℕ)
key_read step.Plus bytes = got None bytes
key_read step.Scale bytes = got None bytes
key_read step.Subst bytes = some_key_read bytes
key_read step.Combine bytes = some_key_read bytes

module _ (sig : Signature) where
  abbrev pub width_read : List ℕ → Read ((s : Story) × WideAt)
  width_read bytes =
      after_read (start_read bytes) (λ w r.
      after_read (named_form_read (codes "left ") r) (λ l q.
      after_read (key_read w.0 q) (λ k p.
      after_read (named_form_read (codes "right ") p) (λ m n.
      after_read ((story sig).read n) (λ s rest. got (s, record { step = w.0; left = l; key = k; right = m; wide = w.1 }) rest)))))
