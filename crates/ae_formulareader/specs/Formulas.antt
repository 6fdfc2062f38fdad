-- How a formula is read, byte by byte. What stands inside is read by the grammar's own code.
use Rattle.std.specs.Prelude.{ℕ, zero, suc, Bool, true, false, nat_eq, List, [], ◌∷◌, ◌++◌, map, get_or}
use Rattle.ae_codes.specs.Codes.{Read, got, stops, Code}
use Rattle.ae_codes.specs.Closers.{Close, closers, by_blank, by_bracket, square}
use Rattle.ae_codes.specs.Plans.{coded, coded_shaped}
use Rattle.ae_codes.specs.Rows.{Row, rows}
use Rattle.ae_core.specs.declared.formulas.Formula.{Formula}
use Rattle.ae_core.specs.declared.formulas.Formula.TheVariants as formula
use Rattle.ae_core.specs.declared.formulas.Quant.{Quant}
use Rattle.ae_core.specs.declared.problems.Signature.{Signature}
use Rattle.ae_core.specs.declared.terms.Sort.{Sort}
use Rattle.ae_core.specs.declared.terms.Term.{Term}
use Rattle.ae_core.specs.declared.terms.Term.TheVariants.{Bound}
use Rattle.ae_prooftext.specs.FormulaTexts.{FormulaCodes, FormulaInner, FormulaEnd, bracket_words, leaf_words, word_fine, leaf_fine, kind_of, formula_shape, formula_sure, term_in_square, trigger, trigger_shaped}
use Rattle.ae_prooftext.specs.Formulas.{formula_layers, positive_formula}
use Rattle.ae_prooftext.specs.Grammar.{is_real, term_code, formula_code}
use Rattle.ae_prooftext.specs.Texts.{Kind, is_eq, is_lt, is_le, is_not, is_and, is_or, is_xor, is_iff, is_all, is_ex, is_pred}
use Rattle.ae_prooftext.specs.TermTexts.{above_square}
use Rattle.ae_prooftext.specs.TermTexts as terms
use Rattle.ae_prooftext.specs.Words.{has_variables, symbol_name, symbol_of, symbols, lone_symbols}
use Rattle.ae_readers.specs.Readers.{after_read, closing_read, fixed_read, named_read, list_read}
use Rattle.ae_formulareader.specs.declared.words.Opening.{Opening}
use Rattle.ae_formulareader.specs.declared.words.Opening.TheVariants as opening
use Rattle.ae_termreader.specs.Sorts.{sorts_read}
use Rattle.ae_termreader.specs.Terms.{arguments_read}

-- the words that may stand first in a formula's brackets, and those that may stand alone
abbrev pub words_at : Signature → Bool → List (List ℕ)
words_at sig b = bracket_words b (map (symbol_name sig) (symbols sig))

abbrev pub leaves_at : Signature → List (List ℕ)
leaves_at sig = leaf_words (map (symbol_name sig) (lone_symbols sig))

-- what a word behind a bracket says
abbrev pub kind_is : Opening → Kind
kind_is opening.Eq = is_eq
kind_is opening.Lt = is_lt
kind_is opening.Le = is_le
kind_is opening.Not = is_not
kind_is opening.And = is_and
kind_is opening.Or = is_or
kind_is opening.Xor = is_xor
kind_is opening.Iff = is_iff
kind_is opening.All = is_all
kind_is opening.Ex = is_ex
kind_is opening.Symbol = is_pred

-- what stands alone, by its place among the words
abbrev pub leaf_at : Signature → ℕ → Formula
leaf_at sig zero = formula.True
leaf_at sig (suc zero) = formula.False
leaf_at sig (suc (suc n)) = formula.Pred (get_or (lone_symbols sig) n 0) [] []

module _ (sig : Signature) where
  -- a closed formula that is no negation
  abbrev pub positive_code : Close → Code FormulaEnd
  positive_code = positive_formula sig (is_real sig)

  -- ---- what stands between a bracket's first word and its end
  abbrev pub two_terms_read : List Sort → List ℕ → Read ((s : Term) × Term)
  two_terms_read env bytes =
      after_read ((term_code sig env by_blank).read bytes) (λ s r.
      after_read ((term_code sig env by_bracket).read r) (λ t rest. got (s.0, t.0) rest))

  abbrev pub two_formulas_read : List Sort → List ℕ → Read ((f : Formula) × Formula)
  two_formulas_read env bytes =
      after_read ((formula_code sig env by_blank).read bytes) (λ f r.
      after_read ((formula_code sig env by_bracket).read r) (λ g rest. got (f.0, g.0) rest))

  abbrev pub negation_read : List Sort → List ℕ → Read Formula
  negation_read env bytes = after_read ((formula_code sig env by_bracket).read bytes) (λ f rest. got (formula.Not f.0) rest)

  -- the terms of a trigger
  unfoldable pub square_terms : List Sort → Code (Row Term)
  square_terms env = rows 93 above_square (terms.term sig (is_real sig env) square) (Bound 0) (term_in_square sig (is_real sig) env)

  abbrev codes_of : FormulaCodes
  codes_of = coded {T = λ i. FormulaEnd} formula_shape formula_sure (formula_layers sig (is_real sig))

  abbrev inner_of : FormulaInner codes_of
  inner_of = coded_shaped {T = λ i. FormulaEnd} formula_shape formula_sure (formula_layers sig (is_real sig))

  -- a trigger and what closes it
  unfoldable pub trigger_code : List Sort → Code ((ts : List Term) × ℕ)
  trigger_code env = (trigger sig (is_real sig) env).make codes_of inner_of

  unfoldable pub trigger_rows : List Sort → Code (Row (List Term))
  unfolding trigger_code
  trigger_rows env = rows 93 above_square (trigger_code env) [] (trigger_shaped sig (is_real sig) env codes_of inner_of)

  abbrev pub trigger_read : List Sort → List ℕ → Read ((ts : List Term) × ℕ)
  trigger_read env bytes =
      after_read (fixed_read (91 ∷ []) bytes) (λ u r.
      after_read (list_read 93 (square_terms env) r) (λ ts q.
      after_read (closing_read square q) (λ e rest. got (ts, e) rest)))

  -- a block of variables and the formula under it
  abbrev pub quant_read : List Sort → List ℕ → Read Quant
  quant_read env bytes =
      after_read (fixed_read (91 ∷ []) bytes) (λ u r.
      after_read (sorts_read sig r) (λ ss r1.
      after_read (fixed_read (32 ∷ 91 ∷ []) r1) (λ u1 r2.
      after_read (list_read 93 (trigger_rows (env ++ ss)) r2) (λ ts r3.
      after_read (fixed_read (32 ∷ []) r3) (λ u2 r4.
      after_read ((formula_code sig (env ++ ss) by_bracket).read r4) (λ f rest. got (record { sorts = ss; triggers = ts; body = f.0 }) rest))))))

  -- by the word, and the number of the symbol that it names
  abbrev pub arm_read : Kind → ℕ → List Sort → List ℕ → Read Formula
  arm_read is_eq n env bytes = after_read (two_terms_read env bytes) (λ p rest. got (formula.Eq p.0 p.1) rest)
  arm_read is_lt n env bytes = after_read (two_terms_read env bytes) (λ p rest. got (formula.Lt p.0 p.1) rest)
  arm_read is_le n env bytes = after_read (two_terms_read env bytes) (λ p rest. got (formula.Le p.0 p.1) rest)
  arm_read is_not n env bytes = negation_read env bytes
  arm_read is_and n env bytes = after_read (two_formulas_read env bytes) (λ p rest. got (formula.And p.0 p.1) rest)
  arm_read is_or n env bytes = after_read (two_formulas_read env bytes) (λ p rest. got (formula.Or p.0 p.1) rest)
  arm_read is_xor n env bytes = after_read (two_formulas_read env bytes) (λ p rest. got (formula.Xor p.0 p.1) rest)
  arm_read is_iff n env bytes = after_read (two_formulas_read env bytes) (λ p rest. got (formula.Iff p.0 p.1) rest)
  arm_read is_all n env bytes = after_read (quant_read env bytes) (λ q rest. got (formula.All q) rest)
  arm_read is_ex n env bytes = after_read (quant_read env bytes) (λ q rest. got (formula.Ex q) rest)
  arm_read is_pred n env bytes = after_read (arguments_read sig env (has_variables sig n) bytes) (λ a rest. got (formula.Pred n a.0 a.1) rest)

  abbrev pub worded_read : List Sort → List ℕ → List ℕ → Read Formula
  worded_read env w bytes = arm_read (kind_of w) (symbol_of sig w) env bytes

  -- ---- formulas: a negation may stand where it is said
  abbrev pub bracket_read : List Sort → Close → Bool → List ℕ → Read FormulaEnd
  bracket_read env k b bytes =
      after_read (named_read word_fine (closers by_blank.one by_blank.two) (words_at sig b) bytes) (λ v r.
      after_read (worded_read env (get_or (words_at sig b) v.0 []) r) (λ f q.
      after_read (closing_read k q) (λ e rest. got (f, e) rest)))

  abbrev pub leaf_read : Close → List ℕ → Read FormulaEnd
  leaf_read k bytes = after_read (named_read leaf_fine (closers k.one k.two) (leaves_at sig) bytes) (λ v rest. got (leaf_at sig v.0, v.1) rest)

  abbrev pub formula_by : Bool → List Sort → Close → Bool → ℕ → List ℕ → Read FormulaEnd
  formula_by true env k b x xs = bracket_read env k b xs
  formula_by false env k b x xs = leaf_read k (x ∷ xs)

  abbrev pub formula_turn : List Sort → Close → Bool → List ℕ → Read FormulaEnd
  formula_turn env k b [] = stops []
  formula_turn env k b (x ∷ xs) = formula_by (nat_eq x 40) env k b x xs
