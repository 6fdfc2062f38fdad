-- Lines of journals as the grammar reads them.
use Rattle.std.proofs.Common.{ℕ, ◌⊎◌, List, [], ◌∷◌, ◌≡◌, refl, sym, ap, ◌∙◌}
use Rattle.std.specs.Prelude.{Some, None}
use mathlib.Core.Logic.{inl, inr}
use Rattle.ae_choices.proofs.ChoiceForms.{tagged_picked}
use Rattle.ae_codes.specs.Closers.{by_blank, by_line, sizes}
use Rattle.ae_codes.specs.Codes.{Read, got, Code, both, mapped}
use Rattle.ae_codes.specs.Numbers.{number}
use Rattle.ae_codes.specs.Rows.{empty}
use Rattle.ae_core.specs.declared.formulas.Formula.{Formula}
use Rattle.ae_core.specs.declared.formulas.Lit.{Lit}
use Rattle.ae_core.specs.declared.problems.Signature.{Signature}
use Rattle.ae_core.specs.declared.terms.Sort.{Sort, Int}
use Rattle.ae_core.specs.declared.terms.Term.{Term, Bound}
use Rattle.ae_formulareader.specs.Formulas.{square_terms}
use Rattle.ae_formulareader.proofs.ListForms.{listed_is}
use Rattle.ae_journal.specs.declared.lines.Line.{Line}
use Rattle.ae_num.specs.declared.forms.Lin.{Lin}
use Rattle.ae_num.specs.declared.forms.Value.{Value}
use Rattle.ae_prooftext.specs.Clauses as clauses
use Rattle.ae_prooftext.specs.Clauses.{literals, sorts}
use Rattle.ae_prooftext.specs.FormulaTexts.{term_in_square}
use Rattle.ae_prooftext.specs.Grammar.{is_real, formula_code}
use Rattle.ae_prooftext.specs.Parts.{terms, closed_term, closed_in_square, closed_begins}
use Rattle.ae_prooftext.specs.SortTexts.{some_type, sort_is_spelled}
use Rattle.ae_prooftext.specs.Texts.{sort_text, term_text}
use Rattle.ae_prooftext.specs.TermTexts.{above_square, sort_in, sorts_begin, sorts_shaped, term_is_spelled}
use Rattle.ae_prooftext.specs.Words.{type_names}
use Rattle.ae_codes.specs.Closers.{square}
use Rattle.ae_readers.specs.Readers.{after_read, fixed_read, list_read}
use Rattle.ae_readers.proofs.Combinators.{after_after, after_same}
use Rattle.ae_stategrammar.specs.Journals.{decide_word, more_words, words_apart, tag, arms, arm_law, line_code, line_end, open_square, solved, form_line, learnt, types_of, terms_of}
use Rattle.ae_stategrammar.specs.Journals.{decide_to, decide_from, decide_back, solve_to, solve_from, solve_back, rule_to, rule_from, rule_back, drop_solve_to, drop_solve_from, drop_solve_back, drop_rule_to, drop_rule_from, drop_rule_back}
use Rattle.ae_stategrammar.specs.Journals.{pair_to, pair_from, pair_back, learn_to, learn_from, learn_back, types_to, types_from, types_back, terms_to}
use Rattle.ae_stategrammar.specs.Journals.{terms_from, terms_back, least_to, least_from, least_back, above_to, above_from, above_back, back_to, back_from, back_back}
use Rattle.ae_stategrammar.specs.Sides.{sides}
use Rattle.ae_stategrammar.specs.States.{value_in_line, lit_in_line}
use Rattle.ae_statereader.proofs.NumberedReading.{word_then}
use Rattle.ae_statereader.proofs.StateReading.{lit_in_line_is, value_in_line_is}
use Rattle.ae_storyreader.specs.Lines.{Step, line_arms, line_read, solved_read, form_read, learnt_read, typed_read, applied_read}
use Rattle.ae_termreader.proofs.SortReading.{both_then, mapped_then}
use Rattle.ae_termreader.proofs.TermReading.{same_list}
use Rattle.ae_termreader.specs.Sorts.{sorts_read, square_sorts}
use Rattle.ae_valuetext.specs.Lins.{linear_form}
use Rattle.ae_valuetext.specs.Values as texts

-- the line, or none at the end
abbrev as_step : Line ⊎ Unit {0} → Step
as_step (inl a) = Some a
as_step (inr u) = None

abbrev pub step_made : Line ⊎ Unit {0} → List ℕ → Read Step
step_made z rest = got (as_step z) rest

-- ---- what stands behind a word, with what is made of it
module _ {C : Type 0} where
  pub solved_is : (F : ((n : ℕ) × Value) → List ℕ → Read C) (bytes : List ℕ) → after_read (solved.read bytes) (λ v rest. F (v.0.0, v.1) rest) ≡ after_read (solved_read bytes) F
  solved_is F bytes =
      both_then (number (sizes by_blank)) (λ n. value_in_line) bytes (λ v rest. F (v.0.0, v.1) rest)
      ∙ after_same ((number (sizes by_blank)).read bytes) _ _ (λ n r.
      ap (λ z. after_read z (λ v rest. F (n.0, v) rest)) (value_in_line_is r)
      ∙ after_after ((texts.value by_line).read r) (λ v rest. got v.0 rest) (λ v rest. F (n.0, v) rest)
      ∙ sym (after_after ((texts.value by_line).read r) (λ v rest. got (n.0, v.0) rest) F))
      ∙ sym (after_after ((number (sizes by_blank)).read bytes) _ F)

  pub form_is : (F : Lin → List ℕ → Read C) (bytes : List ℕ) → after_read (form_line.read bytes) (λ v rest. F v.0 rest) ≡ after_read (form_read bytes) F
  form_is F bytes =
      both_then linear_form (λ l. line_end) bytes (λ v rest. F v.0 rest)
      ∙ after_same (linear_form.read bytes) _ _ (λ l r. word_then (10 ∷ []) r (λ u rest. F l rest) ∙ sym (after_after (fixed_read (10 ∷ []) r) (λ u rest. got l rest) F))
      ∙ sym (after_after (linear_form.read bytes) _ F)

module _ (sig : Signature) where
  sorts_are : (bytes : List ℕ) → (sorts sig).read bytes ≡ sorts_read sig bytes
  unfolding sorts square_sorts
  sorts_are bytes = listed_is 93 above_square (sort_in sig square) Int (sorts_shaped sig) (sort_text (type_names sig)) (λ v f. sort_is_spelled (type_names sig) (some_type (type_names sig)) square v f) (sorts_begin sig) bytes

  terms_are : (bytes : List ℕ) → (terms sig (is_real sig)).read bytes ≡ list_read 93 (square_terms sig []) bytes
  unfolding terms square_terms
  terms_are bytes =
      listed_is 93 above_square (closed_term sig (is_real sig) square) (Bound 0) (closed_in_square sig (is_real sig)) (term_text sig) (λ v f. term_is_spelled sig (is_real sig []) square v) (closed_begins sig (is_real sig)) bytes
      ∙ same_list 93 above_square (closed_term sig (is_real sig) square) (Bound 0) (closed_in_square sig (is_real sig)) (term_in_square sig (is_real sig) []) bytes

  abbrev listed_sorts : Code ((ss : List Sort) × Unit {0})
  listed_sorts = both (sorts sig) (λ ss. line_end)

  abbrev listed_terms : Code ((ts : List Term) × Unit {0})
  listed_terms = both (terms sig (is_real sig)) (λ ts. line_end)

  module _ {C : Type 0} where
    learnt_is : (F : List Lit → List ℕ → Read C) (bytes : List ℕ) → after_read ((learnt sig).read bytes) (λ v rest. F v.0 rest) ≡ after_read (learnt_read sig bytes) F
    learnt_is F bytes =
        both_then (literals sig (is_real sig)) (λ c. line_end) bytes (λ v rest. F v.0 rest)
        ∙ after_same ((literals sig (is_real sig)).read bytes) _ _ (λ c r. word_then (10 ∷ []) r (λ u rest. F c rest) ∙ sym (after_after (fixed_read (10 ∷ []) r) (λ u rest. got c rest) F))
        ∙ sym (after_after ((literals sig (is_real sig)).read bytes) _ F)

    typed_is : (F : ((n : ℕ) × List Sort) → List ℕ → Read C) (bytes : List ℕ) → after_read ((types_of sig).read bytes) (λ v rest. F (v.0.0, v.1.1.0) rest) ≡ after_read (typed_read sig bytes) F
    typed_is F bytes =
        both_then (number (sizes by_blank)) (λ n. both open_square (λ u. listed_sorts)) bytes (λ v rest. F (v.0.0, v.1.1.0) rest)
        ∙ after_same ((number (sizes by_blank)).read bytes) _ _ (λ n r.
        both_then open_square (λ u. listed_sorts) r (λ v rest. F (n.0, v.1.0) rest)
        ∙ word_then (91 ∷ []) r (λ u q. after_read (listed_sorts.read q) (λ v rest. F (n.0, v.0) rest))
        ∙ after_same (fixed_read (91 ∷ []) r) _ _ (λ u q.
        both_then (sorts sig) (λ ss. line_end) q (λ v rest. F (n.0, v.0) rest)
        ∙ ap (λ z. after_read z (λ ss p. after_read (line_end.read p) (λ v rest. F (n.0, ss) rest))) (sorts_are q)
        ∙ after_same (sorts_read sig q) _ _ (λ ss p. word_then (10 ∷ []) p (λ v rest. F (n.0, ss) rest) ∙ sym (after_after (fixed_read (10 ∷ []) p) (λ v rest. got (n.0, ss) rest) F))
        ∙ sym (after_after (sorts_read sig q) _ F))
        ∙ sym (after_after (fixed_read (91 ∷ []) r) _ F))
        ∙ sym (after_after ((number (sizes by_blank)).read bytes) _ F)

    applied_is : (F : ((f : Formula) × List Term) → List ℕ → Read C) (bytes : List ℕ) → after_read ((terms_of sig).read bytes) (λ v rest. F (v.0.0, v.1.1.0) rest) ≡ after_read (applied_read sig bytes) F
    applied_is F bytes =
        both_then (formula_code sig [] by_blank) (λ g. both open_square (λ u. listed_terms)) bytes (λ v rest. F (v.0.0, v.1.1.0) rest)
        ∙ after_same ((formula_code sig [] by_blank).read bytes) _ _ (λ g r.
        both_then open_square (λ u. listed_terms) r (λ v rest. F (g.0, v.1.0) rest)
        ∙ word_then (91 ∷ []) r (λ u q. after_read (listed_terms.read q) (λ v rest. F (g.0, v.0) rest))
        ∙ after_same (fixed_read (91 ∷ []) r) _ _ (λ u q.
        both_then (terms sig (is_real sig)) (λ ts. line_end) q (λ v rest. F (g.0, v.0) rest)
        ∙ ap (λ z. after_read z (λ ts p. after_read (line_end.read p) (λ v rest. F (g.0, ts) rest))) (terms_are q)
        ∙ after_same (list_read 93 (square_terms sig []) q) _ _ (λ ts p. word_then (10 ∷ []) p (λ v rest. F (g.0, ts) rest) ∙ sym (after_after (fixed_read (10 ∷ []) p) (λ v rest. got (g.0, ts) rest) F))
        ∙ sym (after_after (list_read 93 (square_terms sig []) q) _ F))
        ∙ sym (after_after (fixed_read (91 ∷ []) r) _ F))
        ∙ sym (after_after ((formula_code sig [] by_blank).read bytes) _ F)

  -- ---- the arms by word
  decided : (rest : List ℕ) → after_read ((mapped (decide_to sig) (decide_from sig) (lit_in_line sig) (decide_back sig)).read rest) step_made
      ≡ after_read ((clauses.literal sig (is_real sig) by_line).read rest) (λ v r. step_made (decide_to sig v.0) r)
  decided rest =
      mapped_then (decide_to sig) (decide_from sig) (lit_in_line sig) (decide_back sig) rest step_made
      ∙ ap (λ z. after_read z (λ v r. step_made (decide_to sig v) r)) (lit_in_line_is sig rest)
      ∙ after_after ((clauses.literal sig (is_real sig) by_line).read rest) (λ v r. got v.0 r) (λ v r. step_made (decide_to sig v) r)

  end_then : (rest : List ℕ) → after_read ((empty {A = Line ⊎ Unit {0}} (inr tt)).read rest) step_made ≡ got None rest
  unfolding empty
  end_then rest = refl

  pub line_is : (bytes : List ℕ) → after_read ((line_code sig).read bytes) step_made ≡ line_read sig bytes
  unfolding line_code
  line_is bytes = tagged_picked decide_word more_words words_apart (arms sig) tag (arm_law sig) step_made (line_arms sig) (
    refl,
    decided,
    (
      refl,
      (λ rest. mapped_then (solve_to sig) (solve_from sig) solved (solve_back sig) rest step_made ∙ solved_is (λ v r. step_made (solve_to sig ((v.0, 32), v.1)) r) rest),
      (
        refl,
        (λ rest. mapped_then (rule_to sig) (rule_from sig) (sides sig) (rule_back sig) rest step_made),
        (
          refl,
          (λ rest. mapped_then (drop_solve_to sig) (drop_solve_from sig) solved (drop_solve_back sig) rest step_made ∙ solved_is (λ v r. step_made (drop_solve_to sig ((v.0, 32), v.1)) r) rest),
          (
            refl,
            (λ rest. mapped_then (drop_rule_to sig) (drop_rule_from sig) (sides sig) (drop_rule_back sig) rest step_made),
            (
              refl,
              (λ rest. mapped_then (pair_to sig) (pair_from sig) (sides sig) (pair_back sig) rest step_made),
              (
                refl,
                (λ rest. mapped_then (learn_to sig) (learn_from sig) (learnt sig) (learn_back sig) rest step_made ∙ learnt_is (λ c r. step_made (learn_to sig (c, tt)) r) rest),
                (
                  refl,
                  (λ rest. mapped_then (types_to sig) (types_from sig) (types_of sig) (types_back sig) rest step_made ∙ typed_is (λ v r. step_made (types_to sig ((v.0, 32), (tt, (v.1, tt)))) r) rest),
                  (
                    refl,
                    (λ rest. mapped_then (terms_to sig) (terms_from sig) (terms_of sig) (terms_back sig) rest step_made ∙ applied_is (λ v r. step_made (terms_to sig ((v.0, 32), (tt, (v.1, tt)))) r) rest),
                    (
                      refl,
                      (λ rest. mapped_then (least_to sig) (least_from sig) form_line (least_back sig) rest step_made ∙ form_is (λ l r. step_made (least_to sig (l, tt)) r) rest),
                      (
                        refl,
                        (λ rest. mapped_then (above_to sig) (above_from sig) form_line (above_back sig) rest step_made ∙ form_is (λ l r. step_made (above_to sig (l, tt)) r) rest),
                        (
                          refl,
                          (λ rest. mapped_then (back_to sig) (back_from sig) (number (sizes by_line)) (back_back sig) rest step_made),
                          (refl, end_then, tt),
                        ),
                      ),
                    ),
                  ),
                ),
              ),
            ),
          ),
        ),
      ),
    ),
  ) bytes
