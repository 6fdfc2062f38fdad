-- Lines of blocks and proofs as the grammar reads them.
use Rattle.std.proofs.Common.{ℕ, ◌⊎◌, Bool, true, false, nat_eq, List, [], ◌∷◌, ◌++◌, ◌≡◌, drop, refl, sym, ap, ◌∙◌}
use mathlib.Core.Logic.{inl, inr}
use Rattle.ae_codes.specs.Codes.{Code, Read, got, both}
use Rattle.ae_codes.specs.Closers.{by_blank, by_line, sizes}
use Rattle.ae_codes.specs.Numbers.{number}
use Rattle.ae_codes.specs.Rows.{alone, empty}
use Rattle.ae_core.specs.declared.problems.Signature.{Signature}
use Rattle.ae_core.specs.declared.proofs.ClauseLine.{ClauseLine}
use Rattle.ae_core.specs.declared.proofs.ClauseLine.TheVariants.{Hyp, Inst}
use Rattle.ae_core.specs.declared.proofs.EqLine.{EqLine}
use Rattle.ae_core.specs.declared.terms.Sort.{Int}
use Rattle.ae_core.specs.declared.terms.Term.{Term}
use Rattle.ae_core.specs.declared.terms.Term.TheVariants.{Bound}
use Rattle.ae_codes.specs.Closers.{square}
use Rattle.ae_core.specs.declared.terms.Sort.{Sort}
use Rattle.ae_prooftext.specs.Clauses.{literals, numbers_to_end, sorts}
use Rattle.ae_prooftext.specs.Grammar.{is_real, block_code, term_code}
use Rattle.ae_prooftext.specs.Parts.{closed_term, closed_formula, closed_in_square, closed_begins, terms}
use Rattle.ae_prooftext.specs.Proofs as proofs
use Rattle.ae_prooftext.specs.Rules.{hyp_word, eq_code, le_code, lt_code, ending_code}
use Rattle.ae_prooftext.specs.SortTexts.{some_type, sort_is_spelled}
use Rattle.ae_prooftext.specs.TermTexts.{above_square, sort_in, sorts_shaped, sorts_begin, term_is_spelled}
use Rattle.ae_prooftext.specs.FormulaTexts.{term_in_square}
use Rattle.ae_prooftext.specs.Texts.{sort_text, term_text}
use Rattle.ae_prooftext.specs.Words.{type_names}
use Rattle.ae_readers.specs.Readers.{after_read, fixed_read, list_read, step_read, steps_before, FaultIs}
use Rattle.ae_readers.specs.declared.fault.Fault.{Fault}
use Rattle.ae_readers.specs.declared.fault.Fault.TheVariants.{At, WideNumber, Memory}
use Rattle.ae_readers.proofs.Combinators.{after_after, after_same, mapped_is, one_is, one_none, on_side}
use Rattle.ae_readers.proofs.RowReading.{steps_turn, steps_none, steps_go_on, steps_end, steps_faulty}
use Rattle.ae_termreader.specs.Sorts.{sorts_read, square_sorts}
use Rattle.ae_termreader.proofs.SortReading.{both_then, mapped_then}
use Rattle.ae_termreader.proofs.TermReading.{same_list}
use Rattle.ae_formulareader.specs.Formulas.{square_terms}
use Rattle.ae_formulareader.specs.Literals.{literal_code}
use Rattle.ae_formulareader.proofs.FormulaReading.{both_step, word_is}
use Rattle.ae_formulareader.proofs.ListForms.{listed_is}
use Rattle.ae_choices.specs.Choices.{picked}
use Rattle.ae_linereader.specs.Rules.{eq_arms, le_arms, lt_arms, eq_all, le_all, lt_all, numbers_read}
use Rattle.ae_linereader.specs.Lines.{derived_part, block_part, proof_part, sides_read, derived_arms, derived_all, derived_code, derivation_code, derived_by, derived_step_read}
use Rattle.ae_linereader.specs.Lines.{hypothesis_read, block_by, block_step_read, block_lines_code, block_read, line_arms, line_all, bracketed_read, proof_lines_code, lines_code, lines_read}
use Rattle.ae_linereader.specs.declared.steps.DerivedStep.TheVariants as derived
use Rattle.ae_linereader.specs.declared.steps.BlockStep.TheVariants as blocks
use Rattle.ae_linereader.specs.declared.steps.ProofStep.{ProofStep}
use Rattle.ae_linereader.specs.declared.steps.ProofStep.TheVariants as clausal
use Rattle.ae_choices.proofs.ChoiceForms.{tagged_picked}
use Rattle.ae_linereader.proofs.OwnReading.{same_after}
use Rattle.ae_linereader.proofs.RuleReading.{eq_rule_is, le_rule_is, lt_rule_is, numbers_is}

module _ (sig : Signature) where
  abbrev real : List Sort → Term → Bool
  real = is_real sig

  -- ---- derived lines
  abbrev line_made : EqLine → List ℕ → Read EqLine
  line_made a rest = got a rest

  -- two terms, and what is made of them and their rule
  sides_are : {R : Type 0} (r : Code R) (make : Term → Term → R → EqLine) (rule : Term → Term → List ℕ → Read EqLine) (bytes : List ℕ)
      → ((s t : Term) (rest : List ℕ) → after_read (r.read rest) (λ x e. got (make s t x) e) ≡ rule s t rest)
      → after_read ((proofs.sides_code sig real r).read bytes) (λ v rest. got (make v.0.0 v.1.0.0 v.1.1) rest) ≡ after_read (sides_read sig bytes) (λ p rest. rule p.0 p.1 rest)
  sides_are r make rule bytes e =
      both_then (closed_term sig real by_blank) (λ s. both (closed_term sig real by_blank) (λ t. r)) bytes (λ v rest. got (make v.0.0 v.1.0.0 v.1.1) rest)
      ∙ after_same ((term_code sig [] by_blank).read bytes) _ _ (λ s q.
      both_then (closed_term sig real by_blank) (λ t. r) q (λ v rest. got (make s.0 v.0.0 v.1) rest)
      ∙ after_same ((term_code sig [] by_blank).read q) _ _ (λ t rest. e s.0 t.0 rest)
      ∙ sym (after_after ((term_code sig [] by_blank).read q) (λ t rest. got (s.0, t.0) rest) (λ p rest. rule p.0 p.1 rest)))
      ∙ sym (after_after ((term_code sig [] by_blank).read bytes) _ (λ p rest. rule p.0 p.1 rest))

  pub derived_is : (bytes : List ℕ) → (derived_code sig).read bytes ≡ picked derived_all (derived_arms sig) bytes
  unfolding proofs.derived_line
  derived_is bytes = same_after ((derived_code sig).read bytes) ∙
      tagged_picked (101 ∷ 113 ∷ 32 ∷ []) proofs.relation_words proofs.relation_words_apart (proofs.derived_arms sig real) proofs.line_relation (proofs.derived_law sig real) line_made (derived_arms sig) (
        refl,
        (λ r. mapped_then (λ v. proofs.eq_of v.0.0 v.1.0.0 v.1.1) proofs.eq_from (proofs.sides_code sig real eq_code) (λ v f. proofs.eq_comes v.0.0 v.1.0.0 v.1.1 ∙ proofs.sides_back sig real eq_code v f) r line_made
            ∙ sides_are eq_code proofs.eq_of (λ s t. picked eq_all (eq_arms s t)) r (λ s t rest. eq_rule_is s t rest)),
        (
          refl,
          (λ r. mapped_then (λ v. proofs.le_of v.0.0 v.1.0.0 v.1.1) proofs.le_from (proofs.sides_code sig real le_code) (λ v f. proofs.le_comes v.0.0 v.1.0.0 v.1.1 ∙ proofs.sides_back sig real le_code v f) r line_made
              ∙ sides_are le_code proofs.le_of (λ s t. picked le_all (le_arms s t)) r (λ s t rest. le_rule_is s t rest)),
          (
            refl,
            (λ r. mapped_then (λ v. proofs.lt_of v.0.0 v.1.0.0 v.1.1) proofs.lt_from (proofs.sides_code sig real lt_code) (λ v f. proofs.lt_comes v.0.0 v.1.0.0 v.1.1 ∙ proofs.sides_back sig real lt_code v f) r line_made
                ∙ sides_are lt_code proofs.lt_of (λ s t. picked lt_all (lt_arms s t)) r (λ s t rest. lt_rule_is s t rest)),
            tt,
          ),
        ),
      ) bytes

  derived_side : (b : Bool) (bytes : List ℕ) → on_side b ((derived_code sig).read bytes) (ending_code.read bytes) ≡ after_read (derived_by sig b bytes) (λ x rest. got (derived_part x) rest)
  derived_side true bytes = sym (after_after ((derived_code sig).read bytes) (λ a rest. got (derived.Line a) rest) (λ x rest. got (derived_part x) rest))
  derived_side false bytes = sym (after_after (ending_code.read bytes) (λ b rest. got (derived.End b) rest) (λ x rest. got (derived_part x) rest))

  pub derived_step_is : (bytes : List ℕ) → (proofs.derived_or_end sig real).read bytes ≡ after_read (derived_step_read sig bytes) (λ x rest. got (derived_part x) rest)
  derived_step_is [] =
      one_none proofs.is_derived (derived_code sig) ending_code (proofs.derived_begins sig real (λ x. proofs.is_derived x ≡ true) refl refl) (proofs.ending_begins sig real (λ x. proofs.is_derived x ≡ false) refl refl refl refl refl)
  derived_step_is (x ∷ xs) =
      one_is proofs.is_derived (derived_code sig) ending_code (proofs.derived_begins sig real (λ x. proofs.is_derived x ≡ true) refl refl)
      (proofs.ending_begins sig real (λ x. proofs.is_derived x ≡ false) refl refl refl refl refl) x xs
      ∙ derived_side (proofs.is_derived x) (x ∷ xs)

  pub derivation_turn : (bytes : List ℕ) → (derivation_code sig).read bytes ≡ after_read ((proofs.derived_or_end sig real).read bytes) (λ x rest. step_read x ((derivation_code sig).read rest) rest)
  unfolding proofs.derivation
  derivation_turn bytes = steps_turn (proofs.derived_or_end sig real) (ending_code.some.0) (proofs.end_fits sig real) (λ y. proofs.is_h y ≡ false) (proofs.step_first sig real) bytes

  -- ---- blocks
  pub hypothesis_is : (bytes : List ℕ) → (proofs.hypothesis sig real).read bytes ≡ hypothesis_read sig bytes
  hypothesis_is bytes =
      mapped_is (λ v. v.1.0) (λ x. (tt, (x, 10))) (proofs.hyp_raw sig real) (proofs.hyp_back sig real) bytes
      ∙ both_step (alone {A = Unit {0}} tt (104 ∷ 32 ∷ [])) (λ u. literal_code sig by_line) bytes (λ v rest. got v.1.0 rest) (fixed_read (104 ∷ 32 ∷ []) bytes)
      (λ u r. after_read ((literal_code sig by_line).read r) (λ v rest. got v.0 rest)) (word_is (104 ∷ 32 ∷ []) bytes) (λ u r. refl)

  block_side : (b : Bool) (bytes : List ℕ) → on_side b ((proofs.hypothesis sig real).read bytes) ((derivation_code sig).read bytes) ≡ after_read (block_by sig b bytes) (λ x rest. got (block_part x) rest)
  block_side true bytes =
      ap (λ z. after_read z (λ a rest. got (inl a) rest)) (hypothesis_is bytes)
      ∙ sym (after_after (hypothesis_read sig bytes) (λ a rest. got (blocks.Hypothesis a) rest) (λ x rest. got (block_part x) rest))
  block_side false bytes = sym (after_after ((derivation_code sig).read bytes) (λ d rest. got (blocks.Derivation d.0 d.1) rest) (λ x rest. got (block_part x) rest))

  pub block_step_is : (bytes : List ℕ) → (proofs.block_step sig real).read bytes ≡ after_read (block_step_read sig bytes) (λ x rest. got (block_part x) rest)
  block_step_is [] = one_none proofs.is_h (proofs.hypothesis sig real) (derivation_code sig) (proofs.hypothesis_begins sig real) (proofs.derivation_begins sig real)
  block_step_is (x ∷ xs) = one_is proofs.is_h (proofs.hypothesis sig real) (derivation_code sig) (proofs.hypothesis_begins sig real) (proofs.derivation_begins sig real) x xs ∙ block_side (nat_eq x 104) (x ∷ xs)

  pub block_turn : (bytes : List ℕ) → (block_lines_code sig).read bytes ≡ after_read ((proofs.block_step sig real).read bytes) (λ x rest. step_read x ((block_lines_code sig).read rest) rest)
  block_turn bytes = steps_turn (proofs.block_step sig real) ((derivation_code sig).some.0) (proofs.derivation_fits sig real) (λ y. Unit {0}) (proofs.block_first sig real) bytes

  pub block_is : (bytes : List ℕ) → (block_code sig).read bytes ≡ block_read sig bytes
  unfolding proofs.block
  block_is bytes =
      mapped_is (λ v. record { deriv = record { hyps = v.0; lines = v.1.0 }; ending = v.1.1 }) (λ b. (b.deriv.hyps, (b.deriv.lines, b.ending))) (block_lines_code sig) (λ v f. refl) bytes

  -- ---- lists in lines
  terms_are : (bytes : List ℕ) → (terms sig real).read bytes ≡ list_read 93 (square_terms sig []) bytes
  unfolding terms square_terms
  terms_are bytes =
      listed_is 93 above_square (closed_term sig real square) (Bound 0) (closed_in_square sig real) (term_text sig) (λ v f. term_is_spelled sig (real []) square v) (closed_begins sig real) bytes
      ∙ same_list 93 above_square (closed_term sig real square) (Bound 0) (closed_in_square sig real) (term_in_square sig real []) bytes

  sorts_are : (bytes : List ℕ) → (sorts sig).read bytes ≡ sorts_read sig bytes
  unfolding sorts square_sorts
  sorts_are bytes = listed_is 93 above_square (sort_in sig square) Int (sorts_shaped sig) (sort_text (type_names sig)) (λ v f. sort_is_spelled (type_names sig) (some_type (type_names sig)) square v f) (sorts_begin sig) bytes

  -- ---- clause lines
  abbrev as_step : ClauseLine ⊎ Unit {0} → ProofStep
  as_step (inl a) = clausal.Line a
  as_step (inr u) = clausal.End

  abbrev step_made : ClauseLine ⊎ Unit {0} → List ℕ → Read ProofStep
  step_made x rest = got (as_step x) rest

  abbrev byte_code : ℕ → Code (Unit {0})
  byte_code b = alone {A = Unit {0}} tt (b ∷ [])

  word_then : {C : Type 0} (w bytes : List ℕ) (F : Unit {0} → List ℕ → Read C) → after_read ((alone {A = Unit {0}} tt w).read bytes) F ≡ after_read (fixed_read w bytes) F
  word_then w bytes F = ap (λ z. after_read z F) (word_is w bytes)

  abbrev bracketed : {X : Type 0} → Code X → Code ((u : Unit {0}) × ((x : X) × Unit {0}))
  bracketed row = both (byte_code 91) (λ u. both row (λ x. byte_code 10))

  bracketed_is : {X C : Type 0} (row : Code X) (inside : List ℕ → Read X) (same : (bytes : List ℕ) → row.read bytes ≡ inside bytes) (bytes : List ℕ) (G : X → List ℕ → Read C)
      → after_read ((bracketed row).read bytes) (λ v rest. G v.1.0 rest) ≡ after_read (bracketed_read inside bytes) G
  bracketed_is row inside same bytes G =
      both_step (byte_code 91) (λ u. both row (λ x. byte_code 10)) bytes (λ v rest. G v.1.0 rest) (fixed_read (91 ∷ []) bytes)
      (λ u q. after_read (inside q) (λ x e. after_read (fixed_read (10 ∷ []) e) (λ w rest. G x rest))) (word_is (91 ∷ []) bytes)
      (λ u q. both_step row (λ x. byte_code 10) q (λ v rest. G v.0 rest) (inside q) (λ x e. after_read (fixed_read (10 ∷ []) e) (λ w rest. G x rest)) (same q)
      (λ x e. word_then (10 ∷ []) e (λ w rest. G x rest)))
      ∙ sym (after_after (fixed_read (91 ∷ []) bytes) (λ u q. after_read (inside q) (λ x e. after_read (fixed_read (10 ∷ []) e) (λ w rest. got x rest))) G
      ∙ after_same (fixed_read (91 ∷ []) bytes) _ _ (λ u q. after_after (inside q) (λ x e. after_read (fixed_read (10 ∷ []) e) (λ w rest. got x rest)) G
      ∙ after_same (inside q) _ _ (λ x e. after_after (fixed_read (10 ∷ []) e) (λ w rest. got x rest) G)))

  numbers_then : {C : Type 0} (bytes : List ℕ) (F : List ℕ → List ℕ → Read C) → after_read (numbers_to_end.read bytes) F ≡ after_read (numbers_read bytes) F
  numbers_then bytes F = ap (λ z. after_read z F) (numbers_is bytes)

  pub line_is : (bytes : List ℕ) → after_read ((proofs.line_code sig real).read bytes) step_made ≡ picked line_all (line_arms sig) bytes
  unfolding proofs.line_code empty
  line_is = tagged_picked hyp_word (proofs.line_words sig real) (proofs.line_words_apart sig real) (proofs.line_arms sig real) (proofs.line_tag sig real) (proofs.line_law sig real) step_made (line_arms sig) (
    refl,
    (λ r. mapped_then (proofs.line_hyp_to sig real) (proofs.line_hyp_from sig real) (proofs.line_hyp_raw sig real) (proofs.line_hyp_back sig real) r step_made
        ∙ both_step (number (sizes by_blank)) (λ n. bracketed (sorts sig)) r _ _ _ refl
        (λ n q. bracketed_is (sorts sig) (sorts_read sig) sorts_are q (λ ss rest. got (clausal.Line (Hyp n.0 ss)) rest))),
    (
      refl,
      (λ r. refl),
      (
        refl,
        (λ r. mapped_then (proofs.line_def_to sig real) (proofs.line_def_from sig real) (proofs.line_def_raw sig real) (proofs.line_def_back sig real) r step_made
            ∙ both_then (number (sizes by_blank)) (λ n. closed_formula sig real by_line) r _),
        (
          refl,
          (λ r. mapped_then (proofs.line_inst_to sig real) (proofs.line_inst_from sig real) (proofs.line_inst_raw sig real) (proofs.line_inst_back sig real) r step_made
              ∙ both_step (closed_formula sig real by_blank) (λ f. bracketed (terms sig real)) r _ _ _ refl
              (λ f q. bracketed_is (terms sig real) (list_read 93 (square_terms sig [])) terms_are q (λ ts rest. got (clausal.Line (Inst f.0 ts)) rest))),
          (
            refl,
            (λ r. mapped_then (proofs.line_fresh_to sig real) (proofs.line_fresh_from sig real) (proofs.line_fresh_raw sig real) (proofs.line_fresh_back sig real) r step_made
                ∙ both_then (closed_formula sig real by_blank) (λ f. number (sizes by_line)) r _),
            (
              refl,
              (λ r. mapped_then (proofs.line_exh_to sig real) (proofs.line_exh_from sig real) (proofs.line_exh_raw sig real) (proofs.line_exh_back sig real) r step_made),
              (
                refl,
                (λ r. mapped_then (proofs.line_tri_to sig real) (proofs.line_tri_from sig real) (proofs.line_tri_raw sig real) (proofs.line_tri_back sig real) r step_made
                    ∙ both_then (closed_term sig real by_blank) (λ s. closed_term sig real by_line) r _),
                (
                  refl,
                  (λ r. mapped_then (proofs.line_block_to sig real) (proofs.line_block_from sig real) (proofs.line_block_raw sig real) (proofs.line_block_back sig real) r step_made),
                  (
                    refl,
                    (λ r. mapped_then (proofs.line_rup_to sig real) (proofs.line_rup_from sig real) (proofs.line_rup_raw sig real) (proofs.line_rup_back sig real) r step_made
                        ∙ both_step (literals sig real) (λ c. numbers_to_end) r _ _ _ refl (λ c q. numbers_then q _)),
                    (
                      refl,
                      (λ r. refl),
                      tt,
                    ),
                  ),
                ),
              ),
            ),
          ),
        ),
      ),
    ),
  )

  as_part : (x : ClauseLine ⊎ Unit {0}) → proof_part (as_step x) ≡ x
  as_part (inl a) = refl
  as_part (inr u) = refl

  pub line_step_is : (bytes : List ℕ) → (proofs.line_code sig real).read bytes ≡ after_read (picked line_all (line_arms sig) bytes) (λ x rest. got (proof_part x) rest)
  line_step_is bytes =
      same_after ((proofs.line_code sig real).read bytes)
      ∙ after_same ((proofs.line_code sig real).read bytes) _ _ (λ x rest. ap (λ z. got z rest) (sym (as_part x)))
      ∙ sym (after_after ((proofs.line_code sig real).read bytes) step_made (λ x rest. got (proof_part x) rest))
      ∙ ap (λ r. after_read r (λ x rest. got (proof_part x) rest)) (line_is bytes)

  pub lines_turn : (bytes : List ℕ) → (proof_lines_code sig).read bytes ≡ after_read ((proofs.line_code sig real).read bytes) (λ x rest. step_read x ((proof_lines_code sig).read rest) rest)
  lines_turn bytes = steps_turn (proofs.line_code sig real) tt (proofs.end_line_fits sig real) (λ y. Unit {0}) (proofs.line_first sig real) bytes

  pub lines_are : (bytes : List ℕ) → (lines_code sig).read bytes ≡ lines_read sig bytes
  unfolding lines_code
  lines_are bytes = mapped_is (λ v. v.0) (λ ls. (ls, tt)) (proof_lines_code sig) (λ v f. refl) bytes

-- ---- as far as a loop over lines has come
module _ {S A B : Type 0} (part : S → A ⊎ B) (lines : List ℕ → Read ((xs : List A) × B)) (step : List ℕ → Read (A ⊎ B)) (read : List ℕ → Read S)
    (same : (bytes : List ℕ) → step bytes ≡ after_read (read bytes) (λ x rest. got (part x) rest))
    (turn : (bytes : List ℕ) → lines bytes ≡ after_read (step bytes) (λ x rest. step_read x (lines rest) rest)) (text : List ℕ) (from : ℕ) where
  pub lines_begin : (xs : List A) → xs ≡ [] → lines (drop from text) ≡ steps_before xs (lines (drop from text))
  lines_begin xs e = steps_none (lines (drop from text)) ∙ ap (λ z. steps_before z (lines (drop from text))) (sym e)

  part_read : (bytes rest : List ℕ) (s : S) (x : A ⊎ B) → read bytes ≡ got s rest → part s ≡ x → step bytes ≡ got x rest
  part_read bytes rest s x e q = same bytes ∙ ap (λ r. after_read r (λ x rest. got (part x) rest)) e ∙ ap (λ z. got z rest) q

  part_fails : (bytes : List ℕ) (f : Fault) → FaultIs text f (read bytes) → FaultIs text f (step bytes)
  part_fails bytes (At p) e = same bytes ∙ ap (λ r. after_read r (λ x rest. got (part x) rest)) e
  part_fails bytes (WideNumber p) e = same bytes ∙ ap (λ r. after_read r (λ x rest. got (part x) rest)) e
  part_fails bytes Memory e = tt

  module _ (at : ℕ) (xs : List A) (so_far : lines (drop from text) ≡ steps_before xs (lines (drop at text))) where
    pub lines_on : (s : S) (a : A) (next : ℕ) (ys : List A) → read (drop at text) ≡ got s (drop next text) → part s ≡ inl a → ys ≡ xs ++ a ∷ [] → lines (drop from text) ≡ steps_before ys (lines (drop next text))
    lines_on s a next ys e q p =
        steps_go_on lines step turn text from at xs so_far a next (part_read (drop at text) (drop next text) s (inl a) e q)
        ∙ ap (λ z. steps_before z (lines (drop next text))) (sym p)

    pub lines_end : (s : S) (b : B) (next : ℕ) → read (drop at text) ≡ got s (drop next text) → part s ≡ inr b → lines (drop from text) ≡ got (xs, b) (drop next text)
    lines_end s b next e q = steps_end lines step turn text from at xs so_far b next (part_read (drop at text) (drop next text) s (inr b) e q)

    pub lines_fail : (f : Fault) → FaultIs text f (read (drop at text)) → FaultIs text f (lines (drop from text))
    lines_fail f e = steps_faulty lines step turn text from at xs so_far f (part_fails (drop at text) f e)

-- the clause lines alone
pub lists_fail : {A : Type 0} (text : List ℕ) (f : Fault) (r : Read ((xs : List A) × Unit {0})) → FaultIs text f r → FaultIs text f (after_read r (λ v rest. got v.0 rest))
lists_fail text (At p) r e = ap (λ z. after_read z (λ v rest. got v.0 rest)) e
lists_fail text (WideNumber p) r e = ap (λ z. after_read z (λ v rest. got v.0 rest)) e
lists_fail text Memory r e = tt
