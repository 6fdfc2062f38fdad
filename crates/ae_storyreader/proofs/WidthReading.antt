-- Widths with their journals as the grammar reads them.
use Rattle.std.proofs.Common.{ℕ, List, [], ◌∷◌, ◌≡◌, refl, sym, ap, ◌∙◌}
use Rattle.std.specs.Prelude.{Option, Some, None}
use Rattle.ae_choices.specs.Choices.{picked}
use Rattle.ae_choices.proofs.ChoiceForms.{tagged_picked}
use Rattle.ae_codes.specs.Closers.{by_blank, by_line, sizes}
use Rattle.ae_codes.specs.Codes.{Read, got, Code, both}
use Rattle.ae_codes.specs.Integers.{IntegerEnd}
use Rattle.ae_codes.specs.Numbers.{number}
use Rattle.ae_codes.specs.Rows.{alone, empty}
use Rattle.ae_core.specs.declared.problems.Signature.{Signature}
use Rattle.ae_journal.specs.declared.answers.NumStep.{NumStep}
use Rattle.ae_journal.specs.declared.answers.NumStep.TheVariants as step
use Rattle.ae_journal.specs.declared.answers.WideAt.{WideAt}
use Rattle.ae_journal.specs.declared.lines.Story.{Story}
use Rattle.ae_num.specs.declared.forms.Lin.{Lin}
use Rattle.ae_num.specs.declared.numbers.NumOp.{NumOp}
use Rattle.ae_num.specs.declared.numbers.NumOp.TheVariants as op
use Rattle.ae_num.specs.declared.numbers.Wide.{Wide}
use Rattle.ae_readers.specs.Readers.{after_read, fixed_read, integer_at}
use Rattle.ae_readers.proofs.Combinators.{after_after, after_same, mapped_is}
use Rattle.ae_stategrammar.specs.Journals as journals
use Rattle.ae_stategrammar.specs.Journals.{story}
use Rattle.ae_stategrammar.specs.Widths.{plus_word, step_words, step_words_apart, step_arms, step_tag, step_law, step_code, mul_word, add_word, op_words_apart, op_arms, op_tag, op_law, op_code}
use Rattle.ae_stategrammar.specs.Widths.{raw_start, start_to, start_from, start_back, start, raw_form, form_line, raw_key, key_from, key_back, some_key, key_code, raw_number, number_to, number_from, number_code, left_word, right_word}
use Rattle.ae_statereader.proofs.NumberedReading.{word_then}
use Rattle.ae_storyreader.specs.Lines.{form_read}
use Rattle.ae_storyreader.specs.Widths as reading
use Rattle.ae_storyreader.specs.Widths.{all_steps, all_ops, numbers_read, start_read, named_form_read, some_key_read, key_read, width_read}
use Rattle.ae_storyreader.proofs.LineReading.{form_is}
use Rattle.ae_termreader.proofs.SortReading.{both_then, mapped_then}

module _ {C : Type 0} where
  nothing_then : {A : Type 0} (a : A) (bytes : List ℕ) (F : A → List ℕ → Read C) → after_read ((empty a).read bytes) F ≡ F a bytes
  unfolding empty
  nothing_then a bytes F = refl

steps_are : (bytes : List ℕ) → after_read (step_code.read bytes) (λ s rest. got s rest) ≡ picked all_steps reading.step_arms bytes
unfolding step_code
steps_are bytes = tagged_picked plus_word step_words step_words_apart step_arms step_tag step_law (λ s rest. got s rest) reading.step_arms (
  refl,
  (λ rest. nothing_then step.Plus rest (λ s rest. got s rest)),
  (
    refl,
    (λ rest. nothing_then step.Scale rest (λ s rest. got s rest)),
    (
      refl,
      (λ rest. nothing_then step.Subst rest (λ s rest. got s rest)),
      (refl, (λ rest. nothing_then step.Combine rest (λ s rest. got s rest)), tt),
    ),
  ),
) bytes

ops_are : (bytes : List ℕ) → after_read (op_code.read bytes) (λ o rest. got o rest) ≡ picked all_ops reading.op_arms bytes
unfolding op_code
ops_are bytes = tagged_picked mul_word (add_word ∷ []) op_words_apart op_arms op_tag op_law (λ o rest. got o rest) reading.op_arms
    (refl, (λ rest. nothing_then op.Mul rest (λ o rest. got o rest)), (refl, (λ rest. nothing_then op.Add rest (λ o rest. got o rest)), tt)) bytes

abbrev last_two : Code ((a : IntegerEnd) × IntegerEnd)
last_two = both (integer_at by_blank) (λ a. integer_at by_line)

abbrev behind_step : Code ((o : NumOp) × ((a : IntegerEnd) × IntegerEnd))
behind_step = both op_code (λ o. last_two)

module _ {C : Type 0} where
  step_then : (bytes : List ℕ) (F : NumStep → List ℕ → Read C) → after_read (step_code.read bytes) F ≡ after_read (picked all_steps reading.step_arms bytes) F
  step_then bytes F = sym (after_after (step_code.read bytes) (λ s rest. got s rest) F) ∙ ap (λ r. after_read r F) (steps_are bytes)

  op_then : (bytes : List ℕ) (F : NumOp → List ℕ → Read C) → after_read (op_code.read bytes) F ≡ after_read (picked all_ops reading.op_arms bytes) F
  op_then bytes F = sym (after_after (op_code.read bytes) (λ o rest. got o rest) F) ∙ ap (λ r. after_read r F) (ops_are bytes)

  two_are : (o : NumOp) (bytes : List ℕ) (F : Wide → List ℕ → Read C) → after_read (last_two.read bytes) (λ v rest. F (record { op = o; left = v.0.0; right = v.1.0 }) rest) ≡ after_read (numbers_read o bytes) F
  two_are o bytes F =
      both_then (integer_at by_blank) (λ a. integer_at by_line) bytes (λ v rest. F (record { op = o; left = v.0.0; right = v.1.0 }) rest)
      ∙ after_same ((integer_at by_blank).read bytes) _ _ (λ a r. sym (after_after ((integer_at by_line).read r) (λ b rest. got (record { op = o; left = a.0; right = b.0 }) rest) F))
      ∙ sym (after_after ((integer_at by_blank).read bytes) _ F)

  start_then : (bytes : List ℕ) (F : reading.Start → List ℕ → Read C) → after_read (start.read bytes) (λ v rest. F (v.0, record { op = v.1.0; left = v.1.1.0; right = v.1.1.1 }) rest) ≡ after_read (start_read bytes) F
  unfolding start
  start_then bytes F =
      mapped_then start_to start_from raw_start start_back bytes (λ v rest. F (v.0, record { op = v.1.0; left = v.1.1.0; right = v.1.1.1 }) rest)
      ∙ both_then (alone {A = Unit {0}} tt (119 ∷ 105 ∷ 100 ∷ 101 ∷ 32 ∷ [])) (λ u. both step_code (λ s. behind_step)) bytes (λ v rest. F (v.1.0, record { op = v.1.1.0; left = v.1.1.1.0.0; right = v.1.1.1.1.0 }) rest)
      ∙ word_then (119 ∷ 105 ∷ 100 ∷ 101 ∷ 32 ∷ []) bytes (λ u r. after_read ((both step_code (λ s. behind_step)).read r) (λ v rest. F (v.0, record { op = v.1.0; left = v.1.1.0.0; right = v.1.1.1.0 }) rest))
      ∙ after_same (fixed_read (119 ∷ 105 ∷ 100 ∷ 101 ∷ 32 ∷ []) bytes) _ _ (λ u r.
      both_then step_code (λ s. behind_step) r (λ v rest. F (v.0, record { op = v.1.0; left = v.1.1.0.0; right = v.1.1.1.0 }) rest)
      ∙ step_then r (λ s q. after_read (behind_step.read q) (λ v rest. F (s, record { op = v.0; left = v.1.0.0; right = v.1.1.0 }) rest))
      ∙ after_same (picked all_steps reading.step_arms r) _ _ (λ s q.
      both_then op_code (λ o. last_two) q (λ v rest. F (s, record { op = v.0; left = v.1.0.0; right = v.1.1.0 }) rest)
      ∙ op_then q (λ o p. after_read (last_two.read p) (λ v rest. F (s, record { op = o; left = v.0.0; right = v.1.0 }) rest))
      ∙ after_same (picked all_ops reading.op_arms q) _ _ (λ o p. two_are o p (λ w rest. F (s, w) rest) ∙ sym (after_after (numbers_read o p) (λ w rest. got (s, w) rest) F))
      ∙ sym (after_after (picked all_ops reading.op_arms q) _ F))
      ∙ sym (after_after (picked all_steps reading.step_arms r) _ F))
      ∙ sym (after_after (fixed_read (119 ∷ 105 ∷ 100 ∷ 101 ∷ 32 ∷ []) bytes) _ F)

  form_then : (word bytes : List ℕ) (F : Lin → List ℕ → Read C) → after_read ((form_line word).read bytes) F ≡ after_read (named_form_read word bytes) F
  unfolding form_line
  form_then word bytes F =
      mapped_then (λ v. v.1.0) (λ l. (tt, (l, tt))) (raw_form word) (λ v f. refl) bytes F
      ∙ both_then (alone {A = Unit {0}} tt word) (λ u. journals.form_line) bytes (λ v rest. F v.1.0 rest)
      ∙ word_then word bytes (λ u r. after_read (journals.form_line.read r) (λ v rest. F v.0 rest))
      ∙ after_same (fixed_read word bytes) _ _ (λ u r. form_is F r ∙ sym (after_after (form_read r) (λ l rest. got l rest) F))
      ∙ sym (after_after (fixed_read word bytes) _ F)

  -- ---- the key
  some_then : (bytes : List ℕ) (F : Option ℕ → List ℕ → Read C) → after_read (some_key.read bytes) F ≡ after_read (some_key_read bytes) F
  unfolding some_key
  some_then bytes F =
      mapped_then (λ v. Some v.1.0) key_from raw_key key_back bytes F
      ∙ both_then (alone {A = Unit {0}} tt (107 ∷ 101 ∷ 121 ∷ 32 ∷ [])) (λ u. number (sizes by_line)) bytes (λ v rest. F (Some v.1.0) rest)
      ∙ word_then (107 ∷ 101 ∷ 121 ∷ 32 ∷ []) bytes (λ u r. after_read ((number (sizes by_line)).read r) (λ n rest. F (Some n.0) rest))
      ∙ after_same (fixed_read (107 ∷ 101 ∷ 121 ∷ 32 ∷ []) bytes) _ _ (λ u r. sym (after_after ((number (sizes by_line)).read r) (λ n rest. got (Some n.0) rest) F))
      ∙ sym (after_after (fixed_read (107 ∷ 101 ∷ 121 ∷ 32 ∷ []) bytes) _ F)

  key_then : (s : NumStep) (bytes : List ℕ) (F : Option ℕ → List ℕ → Read C) → after_read ((key_code s).read bytes) F ≡ after_read (key_read s bytes) F
  key_then step.Plus bytes F = nothing_then None bytes F
  key_then step.Scale bytes F = nothing_then None bytes F
  key_then step.Subst bytes F = some_then bytes F
  key_then step.Combine bytes F = some_then bytes F

-- ---- the whole
module _ (sig : Signature) where
  abbrev right_part : Code ((r : Lin) × Story)
  right_part = both (form_line (right_word sig)) (λ r. story sig)

  abbrev keyed_part : NumStep → Code ((k : Option ℕ) × ((r : Lin) × Story))
  keyed_part s = both (key_code s) (λ k. right_part)

  abbrev left_part : NumStep → Code ((l : Lin) × ((k : Option ℕ) × ((r : Lin) × Story)))
  left_part s = both (form_line (left_word sig)) (λ l. keyed_part s)

  abbrev whole_of : reading.Start → Lin → Option ℕ → Lin → Story → List ℕ → Read ((s : Story) × WideAt)
  whole_of w l k r s rest = got (s, record { step = w.0; left = l; key = k; right = r; wide = w.1 }) rest

  pub width_is : (bytes : List ℕ) → (number_code sig).read bytes ≡ width_read sig bytes
  unfolding number_code
  width_is bytes =
      mapped_is (number_to sig) (number_from sig) (raw_number sig) (λ v f. refl) bytes
      ∙ both_then start (λ w. left_part w.0) bytes (λ v rest. got (number_to sig v) rest)
      ∙ start_then bytes (λ w r. after_read ((left_part w.0).read r) (λ v rest. whole_of w v.0 v.1.0 v.1.1.0 v.1.1.1 rest))
      ∙ after_same (start_read bytes) _ _ (λ w r.
      both_then (form_line (left_word sig)) (λ l. keyed_part w.0) r (λ v rest. whole_of w v.0 v.1.0 v.1.1.0 v.1.1.1 rest)
      ∙ form_then (left_word sig) r (λ l q. after_read ((keyed_part w.0).read q) (λ v rest. whole_of w l v.0 v.1.0 v.1.1 rest))
      ∙ after_same (named_form_read (left_word sig) r) _ _ (λ l q.
      both_then (key_code w.0) (λ k. right_part) q (λ v rest. whole_of w l v.0 v.1.0 v.1.1 rest)
      ∙ key_then w.0 q (λ k p. after_read (right_part.read p) (λ v rest. whole_of w l k v.0 v.1 rest))
      ∙ after_same (key_read w.0 q) _ _ (λ k p.
      both_then (form_line (right_word sig)) (λ r. story sig) p (λ v rest. whole_of w l k v.0 v.1 rest)
      ∙ form_then (right_word sig) p (λ m n. after_read ((story sig).read n) (λ s rest. whole_of w l k m s rest)))))
