-- Formulas as the grammar reads them.
use Rattle.std.proofs.Common.{ℕ, suc, Bool, true, false, cond, nat_eq, IsTrue, List, [], ◌∷◌, ◌++◌, ◌≡◌, map, get_or, refl, sym, ap, ◌∙◌}
use mathlib.Core.Logic.{inl, inr}
use Rattle.std.proofs.lemmas.Bool.{eqb-true}
use Rattle.std.specs.Str.{bytes_eq}
use Rattle.ae_codes.specs.Codes.{Read, got, stops, wide, Code, both, words, takes, is_bracket}
use Rattle.ae_codes.specs.Closers.{Close, closers, close_end, by_blank, by_bracket, round, square}
use Rattle.ae_codes.specs.Names.{WordEnd, In, Proper, names, closing}
use Rattle.ae_codes.specs.Plans.{fixed, known, inside, sequence, choice, sends, coded, coded_shaped, coded_reads}
use Rattle.ae_codes.specs.Rows.{alone}
use Rattle.ae_core.specs.declared.formulas.Formula.{Formula, roll-Formula}
use Rattle.ae_core.specs.declared.formulas.Formula.TheVariants as formula
use Rattle.ae_core.specs.declared.formulas.Formula.TheVariants.{rolls-True, rolls-False, rolls-Eq, rolls-Lt, rolls-Le, rolls-Pred, rolls-Not, rolls-And, rolls-Or, rolls-Xor, rolls-Iff, rolls-All, rolls-Ex}
use Rattle.ae_core.specs.declared.formulas.Quant.{Quant}
use Rattle.ae_core.specs.declared.problems.Signature.{Signature}
use Rattle.ae_core.specs.declared.terms.Sort.{Sort}
use Rattle.ae_core.specs.declared.terms.Term.{Term}
use Rattle.ae_core.specs.declared.terms.Term.TheVariants.{Bound}
use Rattle.ae_prooftext.specs.FormulaTexts as texts
use Rattle.ae_prooftext.specs.FormulaTexts.{FormulaEnd, FormulaValue, FormulaCodes, FormulaInner, Body, two_terms, one_formula, two_formulas, in_block, applied_to, formula_shape, formula_sure, kind_of, same, word_fine, leaf_fine}
use Rattle.ae_prooftext.specs.Formulas as formulas
use Rattle.ae_prooftext.specs.Formulas.{body_layer, leaf_pick, formula_layers, positive_formula}
use Rattle.ae_prooftext.specs.Grammar.{is_real, formula_code}
use Rattle.ae_prooftext.specs.SortTexts.{above_round, blank, blank_end}
use Rattle.ae_prooftext.specs.Texts.{Kind, is_eq, is_lt, is_le, is_not, is_and, is_or, is_xor, is_iff, is_all, is_ex, is_pred, true_word, false_word}
use Rattle.ae_prooftext.specs.TermTexts.{TermEnd, Arguments, above_square}
use Rattle.ae_prooftext.specs.TermTexts as terms
use Rattle.ae_prooftext.specs.Words.{has_variables, symbol_name, symbol_of, lone_symbols, lone_symbol_of}
use Rattle.ae_readers.specs.Readers.{after_read, closing_read, fixed_read, named_read, name_read, place_of, row_read, more_read, list_read}
use Rattle.ae_readers.proofs.Combinators.{after_after, after_same, mapped_is, one_is, one_none, on_side}
use Rattle.ae_readers.proofs.Exactness.{word_back}
use Rattle.ae_readers.proofs.NameReading.{name_is, closing_is}
use Rattle.ae_readers.proofs.RowReading.{row_turn, listing_is}
use Rattle.ae_readers.proofs.WordReading.{alone_is}
use Rattle.ae_termreader.specs.Sorts.{sorts_read}
use Rattle.ae_termreader.specs.Terms.{arguments_read, round_terms}
use Rattle.ae_termreader.proofs.SortReading.{both_then, mapped_then, byte_then, blank_is}
use Rattle.ae_termreader.proofs.TermReading.{same_rows, same_list, same_behind, named_at, arguments_by, arguments_are, sort_list_is}
use Rattle.ae_formulareader.specs.Formulas.{words_at, leaves_at, leaf_at, two_terms_read, two_formulas_read, negation_read, square_terms, trigger_code}
use Rattle.ae_formulareader.specs.Formulas.{trigger_rows, trigger_read, quant_read, arm_read, worded_read, bracket_read, leaf_read, formula_by, formula_turn}
use Rattle.ae_formulareader.proofs.WordForms.{same_turned}

-- ---- steps
unit_got : (r : Read (Unit {0})) → after_read r (λ u rest. got tt rest) ≡ r
unit_got (got u rest) = refl
unit_got (stops r) = refl
unit_got (wide r) = refl

pub word_is : (w bytes : List ℕ) → (alone {A = Unit {0}} tt w).read bytes ≡ fixed_read w bytes
word_is w bytes = alone_is tt w bytes ∙ unit_got (fixed_read w bytes)

pub both_step : {A C : Type 0} {B : A → Type 0} (p : Code A) (q : (a : A) → Code (B a)) (bytes : List ℕ) (F : ((a : A) × B a) → List ℕ → Read C) (r0 : Read A) (G : A → List ℕ → Read C)
    → p.read bytes ≡ r0 → ((a : A) (rest : List ℕ) → after_read ((q a).read rest) (λ b e. F (a, b) e) ≡ G a rest) → after_read ((both p q).read bytes) F ≡ after_read r0 G
both_step p q bytes F r0 G e h = both_then p q bytes F ∙ after_same (p.read bytes) _ _ h ∙ ap (λ r. after_read r G) e

pub wrapped : {V X C : Type 0} (c : Code V) (to : V → X) (bytes : List ℕ) (r : Read X) (G : X → List ℕ → Read C) → after_read (c.read bytes) (λ v rest. got (to v) rest) ≡ r
    → after_read (c.read bytes) (λ v rest. G (to v) rest) ≡ after_read r G
wrapped c to bytes r G e = sym (after_after (c.read bytes) (λ v rest. got (to v) rest) G) ∙ ap (λ z. after_read z G) e

-- the word that was read, by its place
pub word_then : {C : Type 0} (fine : List ℕ → Bool) (table : List (List ℕ)) (ends : ℕ → Bool) (end : (e : ℕ) × IsTrue (ends e)) (first : (w : List ℕ) × In fine table ends table w × Proper fine table ends w) (bytes : List ℕ)
    (G : List ℕ → List ℕ → Read C)
    → after_read ((names fine table ends end first).read bytes) (λ v rest. G v.0 rest) ≡ after_read (named_read fine ends table bytes) (λ u rest. G (get_or table u.0 []) rest)
unfolding names words
word_then {C} fine table ends end first bytes G =
    go ((names fine table ends end first).read bytes) refl ∙ ap (λ r. after_read r (λ u rest. G (get_or table u.0 []) rest)) (name_is fine table ends end first bytes)
  where
    go : (r : Read WordEnd) → (names fine table ends end first).read bytes ≡ r → after_read r (λ v rest. G v.0 rest) ≡ after_read (name_read table r) (λ u rest. G (get_or table u.0 []) rest)
    go (got v rest) e = ap (λ w. G w rest) (sym (word_back table v.0 (takes (names fine table ends end first) bytes v rest e).1.listed))
    go (stops r) e = refl
    go (wide r) e = refl

module _ (sig : Signature) where
  abbrev real : List Sort → Term → Bool
  real = is_real sig

  abbrev codes : FormulaCodes
  codes = coded {T = λ i. FormulaEnd} formula_shape formula_sure (formula_layers sig real)

  abbrev inner : FormulaInner codes
  inner = coded_shaped {T = λ i. FormulaEnd} formula_shape formula_sure (formula_layers sig real)

  -- ---- lists inside
  sorts_are : (bytes : List ℕ) → ((terms.sort_list sig {T = λ i. FormulaEnd} formula_shape formula_sure).make codes inner).read bytes ≡ sorts_read sig bytes
  sorts_are bytes = sort_list_is sig {T = λ i. FormulaEnd} formula_shape formula_sure (texts.term_as sig real [] round) (Bound 0) (texts.round_shaped sig real []) codes inner bytes

  terms_are : (env : List Sort) (bytes : List ℕ) → ((texts.term_list sig real env).make codes inner).read bytes ≡ list_read 93 (square_terms sig env) bytes
  unfolding known square_terms
  terms_are env bytes =
      listing_is {T = λ i. FormulaEnd} formula_shape formula_sure 93 above_square (texts.term_as sig real env square) (Bound 0) (texts.square_shaped sig real env) codes inner (texts.square_begins sig real env) bytes
      ∙ same_list 93 above_square (terms.term sig (real env) square) (Bound 0) (texts.square_shaped sig real env codes inner) (texts.term_in_square sig real env) bytes

  triggers_are : (env : List Sort) (bytes : List ℕ) → ((texts.trigger_list sig real env).make codes inner).read bytes ≡ list_read 93 (trigger_rows sig env) bytes
  unfolding trigger_rows trigger_code
  triggers_are env bytes = listing_is {T = λ i. FormulaEnd} formula_shape formula_sure 93 above_square (texts.trigger sig real env) [] (texts.trigger_shaped sig real env) codes inner (texts.trigger_begins sig real env) bytes

  close_is : (q : List ℕ) → (closing (closers 32 93) (texts.square_end sig real)).read q ≡ closing_read square q
  unfolding square
  close_is q = closing_is square (texts.square_end sig real) q

  pub trigger_is : (env : List Sort) (bytes : List ℕ) → (trigger_code sig env).read bytes ≡ trigger_read sig env bytes
  unfolding trigger_code sends sequence fixed
  trigger_is env bytes =
      let list = (texts.term_list sig real env).make codes inner in
      mapped_is (λ v. v.1) (λ v. (tt, v)) (both (alone {A = Unit {0}} tt (91 ∷ [])) (λ u. both list (λ ts. closing (closers 32 93) (texts.square_end sig real)))) (λ a f. refl) bytes
      ∙ both_step (alone {A = Unit {0}} tt (91 ∷ [])) (λ u. both list (λ ts. closing (closers 32 93) (texts.square_end sig real))) bytes (λ v rest. got v.1 rest) (fixed_read (91 ∷ []) bytes)
      (λ u r. after_read (list_read 93 (square_terms sig env) r) (λ ts q. after_read (closing_read square q) (λ e rest. got (ts, e) rest))) (word_is (91 ∷ []) bytes)
      (λ u r. both_step list (λ ts. closing (closers 32 93) (texts.square_end sig real)) r (λ v rest. got v rest) (list_read 93 (square_terms sig env) r)
      (λ ts q. after_read (closing_read square q) (λ e rest. got (ts, e) rest)) (terms_are env r)
      (λ ts q. ap (λ z. after_read z (λ e rest. got (ts, e) rest)) (close_is q)))

  pub square_turn : (env : List Sort) (bytes : List ℕ) → row_read (square_terms sig env) bytes
      ≡ after_read ((terms.term sig (real env) square).read bytes) (λ v rest. more_read (nat_eq v.1 32) v.0 (row_read (square_terms sig env) rest) rest)
  unfolding square_terms
  square_turn env bytes = row_turn 93 above_square (terms.term sig (real env) square) (Bound 0) (texts.term_in_square sig real env) bytes

  pub trigger_turn : (env : List Sort) (bytes : List ℕ) → row_read (trigger_rows sig env) bytes ≡ after_read ((trigger_code sig env).read bytes) (λ v rest. more_read (nat_eq v.1 32) v.0 (row_read (trigger_rows sig env) rest) rest)
  unfolding trigger_rows trigger_code
  trigger_turn env bytes = row_turn 93 above_square (trigger_code sig env) [] (texts.trigger_shaped sig real env codes inner) bytes

  -- ---- a block
  abbrev quant_of : texts.BlockValue sig real → Quant
  quant_of v = record { sorts = v.1.0; triggers = v.1.1.1.0; body = v.1.1.1.1.1.0 }

  abbrev word_code : List ℕ → Code (Unit {0})
  word_code w = alone {A = Unit {0}} tt w

  abbrev sorts_code : Code (List Sort)
  sorts_code = (terms.sort_list sig {T = λ i. FormulaEnd} formula_shape formula_sure).make codes inner

  abbrev triggers_code : List Sort → Code (List (List Term))
  triggers_code env = (texts.trigger_list sig real env).make codes inner

  abbrev Behind : Type 0
  Behind = (u : Unit {0}) × FormulaEnd

  abbrev body_code : List Sort → Code Behind
  body_code env = both (word_code (32 ∷ [])) (λ u. codes (env, by_bracket))

  abbrev under_code : List Sort → Code ((ts : List (List Term)) × Behind)
  under_code env = both (triggers_code env) (λ ts. body_code env)

  abbrev gap_code : List Sort → Code ((u : Unit {0}) × ((ts : List (List Term)) × Behind))
  gap_code env = both (word_code (32 ∷ 91 ∷ [])) (λ u. under_code env)

  abbrev sorted_code : List Sort → Code ((ss : List Sort) × ((u : Unit {0}) × ((ts : List (List Term)) × Behind)))
  sorted_code env = both sorts_code (λ ss. gap_code (env ++ ss))

  quant_is : (env : List Sort) (bytes : List ℕ) → after_read (((texts.block_raw sig real env).make codes inner).read bytes) (λ v rest. got (quant_of v) rest) ≡ quant_read sig env bytes
  unfolding sequence fixed inside formulas.formula
  quant_is env bytes =
      both_step (word_code (91 ∷ [])) (λ u. sorted_code env) bytes _ _ _ (word_is (91 ∷ []) bytes)
      (λ u r. both_step sorts_code (λ ss. gap_code (env ++ ss)) r _ _ _ (sorts_are r)
      (λ ss r1. both_step (word_code (32 ∷ 91 ∷ [])) (λ u1. under_code (env ++ ss)) r1 _ _ _ (word_is (32 ∷ 91 ∷ []) r1)
      (λ u1 r2. both_step (triggers_code (env ++ ss)) (λ ts. body_code (env ++ ss)) r2 _ _ _ (triggers_are (env ++ ss) r2)
      (λ ts r3. both_step (word_code (32 ∷ [])) (λ u2. codes (env ++ ss, by_bracket)) r3 _ _ _ (word_is (32 ∷ []) r3)
      (λ u2 r4. refl)))))

  -- ---- a predicate's arguments
  same_args : (env : List Sort) (b : Bool) (bytes : List ℕ) → arguments_by sig {T = λ i. FormulaEnd} formula_shape formula_sure (texts.term_as sig real env round) (Bound 0)
      (texts.round_shaped sig real env) codes inner b bytes ≡ arguments_read sig env b bytes
  unfolding round_terms known
  same_args env true bytes = after_same (fixed_read (91 ∷ []) bytes) _ _ (λ u r. after_same (sorts_read sig r) _ _ (λ ss q. ap (λ z. after_read z (λ ts rest. got (ss, ts) rest))
      (same_behind 41 above_round (terms.term sig (real env) round) (Bound 0) (texts.round_shaped sig real env codes inner) (terms.terms_shaped sig (real env) (terms.term sig (real env)) (terms.term_is_shaped sig (real env))) q)))
  same_args env false bytes = ap (λ z. after_read z (λ ts rest. got ([], ts) rest))
      (same_rows 41 above_round (terms.term sig (real env) round) (Bound 0) (texts.round_shaped sig real env codes inner) (terms.terms_shaped sig (real env) (terms.term sig (real env)) (terms.term_is_shaped sig (real env))) bytes)

  args_are : (env : List Sort) (b : Bool) (bytes : List ℕ) → ((texts.pred_arguments sig real env b).make codes inner).read bytes ≡ arguments_read sig env b bytes
  args_are env b bytes = arguments_are sig {T = λ i. FormulaEnd} formula_shape formula_sure (texts.term_as sig real env round) (Bound 0) (texts.round_shaped sig real env) codes inner b bytes ∙ same_args env b bytes

  -- ---- what stands behind a word
  module _ (F : Formula → List ℕ → Read FormulaEnd) (w : List ℕ) (env : List Sort) where
    abbrev made : Kind → Body → List ℕ → Read FormulaEnd
    made k x r = F (roll-Formula (body_layer sig real k w x)) r

    abbrev Arm : Kind → List ℕ → Type 0
    Arm k bytes = after_read (((texts.arm sig real env k w).make codes inner).read bytes) (made k) ≡ after_read (arm_read sig k (symbol_of sig w) env bytes) F

    relation_is : (k : Kind) (make : Term → Term → Formula) (bytes : List ℕ) → ((a b : Term) → roll-Formula (body_layer sig real k w (two_terms a b)) ≡ make a b)
        → after_read (((texts.relation sig real env).make codes inner).read bytes) (made k) ≡ after_read (after_read (two_terms_read sig env bytes) (λ p rest. got (make p.0 p.1) rest)) F
    unfolding sends sequence known
    relation_is k make bytes e =
        let raw = both (terms.term sig (real env) by_blank) (λ a. terms.term sig (real env) by_bracket) in
        mapped_then (texts.terms_to sig real) (texts.terms_from sig real) raw (texts.terms_back sig real env codes inner) bytes (made k)
        ∙ after_same (raw.read bytes) _ (λ v r. F (make v.0.0 v.1.0) r) (λ v r. ap (λ z. F z r) (e v.0.0 v.1.0))
        ∙ wrapped raw (λ v. (v.0.0, v.1.0)) bytes (two_terms_read sig env bytes) (λ p r. F (make p.0 p.1) r)
        (both_then (terms.term sig (real env) by_blank) (λ a. terms.term sig (real env) by_bracket) bytes (λ v rest. got (v.0.0, v.1.0) rest))
        ∙ sym (after_after (two_terms_read sig env bytes) (λ p rest. got (make p.0 p.1) rest) F)

    pair_is : (k : Kind) (make : Formula → Formula → Formula) (bytes : List ℕ) → ((a b : Formula) → roll-Formula (body_layer sig real k w (two_formulas a b)) ≡ make a b)
        → after_read (((texts.pair sig real env).make codes inner).read bytes) (made k) ≡ after_read (after_read (two_formulas_read sig env bytes) (λ p rest. got (make p.0 p.1) rest)) F
    unfolding sends sequence inside formulas.formula
    pair_is k make bytes e =
        let raw = both (codes (env, by_blank)) (λ a. codes (env, by_bracket)) in
        mapped_then (texts.pair_to sig real) (texts.pair_from sig real) raw (texts.pair_back sig real env codes inner) bytes (made k)
        ∙ after_same (raw.read bytes) _ (λ v r. F (make v.0.0 v.1.0) r) (λ v r. ap (λ z. F z r) (e v.0.0 v.1.0))
        ∙ wrapped raw (λ v. (v.0.0, v.1.0)) bytes (two_formulas_read sig env bytes) (λ p r. F (make p.0 p.1) r) (both_then (codes (env, by_blank)) (λ a. codes (env, by_bracket)) bytes (λ v rest. got (v.0.0, v.1.0) rest))
        ∙ sym (after_after (two_formulas_read sig env bytes) (λ p rest. got (make p.0 p.1) rest) F)

    negation_is : (bytes : List ℕ) → after_read (((texts.negation sig real env).make codes inner).read bytes) (made is_not) ≡ after_read (negation_read sig env bytes) F
    unfolding sends inside formulas.formula
    negation_is bytes =
        mapped_then (texts.one_to sig real) (texts.one_from sig real) (codes (env, by_bracket)) (texts.one_back sig real env codes inner) bytes (made is_not)
        ∙ after_same ((codes (env, by_bracket)).read bytes) _ _ (λ f rest. ap (λ z. F z rest) (rolls-Not f.0))
        ∙ sym (after_after ((codes (env, by_bracket)).read bytes) (λ f rest. got (formula.Not f.0) rest) F)

    block_is : (k : Kind) (make : Quant → Formula) (bytes : List ℕ) → ((q : Quant) → roll-Formula (body_layer sig real k w (in_block q)) ≡ make q)
        → after_read (((texts.block sig real env).make codes inner).read bytes) (made k) ≡ after_read (after_read (quant_read sig env bytes) (λ q rest. got (make q) rest)) F
    unfolding sends
    block_is k make bytes e =
        let raw = (texts.block_raw sig real env).make codes inner in
        mapped_then (texts.block_to sig real) (texts.block_from sig real) raw (texts.block_back sig real env codes inner) bytes (made k)
        ∙ after_same (raw.read bytes) _ (λ v r. F (make (quant_of v)) r) (λ v r. ap (λ z. F z r) (e (quant_of v)))
        ∙ wrapped raw quant_of bytes (quant_read sig env bytes) (λ q r. F (make q) r) (quant_is env bytes)
        ∙ sym (after_after (quant_read sig env bytes) (λ q rest. got (make q) rest) F)

    predicate_is : (bytes : List ℕ) → Arm is_pred bytes
    unfolding sends
    predicate_is bytes =
        let b = has_variables sig (symbol_of sig w) in
        let args = (texts.pred_arguments sig real env b).make codes inner in
        mapped_then applied_to (texts.args_from sig real) args (λ a f. refl) bytes (made is_pred)
        ∙ after_same (args.read bytes) _ (λ a r. F (formula.Pred (symbol_of sig w) a.0 a.1) r) (λ a r. ap (λ z. F z r) (rolls-Pred (symbol_of sig w) a.0 a.1))
        ∙ ap (λ z. after_read z (λ a r. F (formula.Pred (symbol_of sig w) a.0 a.1) r)) (args_are env b bytes)
        ∙ sym (after_after (arguments_read sig env b bytes) (λ a rest. got (formula.Pred (symbol_of sig w) a.0 a.1) rest) F)

    arm_is : (k : Kind) (bytes : List ℕ) → Arm k bytes
    arm_is is_eq bytes = relation_is is_eq formula.Eq bytes rolls-Eq
    arm_is is_lt bytes = relation_is is_lt formula.Lt bytes rolls-Lt
    arm_is is_le bytes = relation_is is_le formula.Le bytes rolls-Le
    arm_is is_not bytes = negation_is bytes
    arm_is is_and bytes = pair_is is_and formula.And bytes rolls-And
    arm_is is_or bytes = pair_is is_or formula.Or bytes rolls-Or
    arm_is is_xor bytes = pair_is is_xor formula.Xor bytes rolls-Xor
    arm_is is_iff bytes = pair_is is_iff formula.Iff bytes rolls-Iff
    arm_is is_all bytes = block_is is_all formula.All bytes rolls-All
    arm_is is_ex bytes = block_is is_ex formula.Ex bytes rolls-Ex
    arm_is is_pred bytes = predicate_is bytes

  -- ---- a formula, by its first byte
  module _ (env : List Sort) (k : Close) (b : Bool) where
    abbrev formula_made : FormulaValue → List ℕ → Read FormulaEnd
    formula_made v rest = got (formulas.formula_to sig real v) rest

    abbrev F_closed : Formula → List ℕ → Read FormulaEnd
    F_closed f r = after_read (closing_read k r) (λ e rest. got (f, e) rest)

    abbrev close_code : Code ℕ
    close_code = closing (closers k.one k.two) (close_end k)

    abbrev arm_code : WordEnd → Code Body
    arm_code w = (texts.arm sig real env (kind_of w.0) w.0).make codes inner

    abbrev headed_code : Code ((w : WordEnd) × Body)
    headed_code = both (formulas.bracket_names sig real b) arm_code

    abbrev bracket_code : Code ((u : Unit {0}) × ((x : ((w : WordEnd) × Body)) × ℕ))
    bracket_code = both (alone {A = Unit {0}} tt (40 ∷ [])) (λ u. both headed_code (λ x. close_code))

    abbrev closed_as : ((w : WordEnd) × Body) → List ℕ → Read FormulaEnd
    closed_as x r = F_closed (roll-Formula (body_layer sig real (kind_of x.0.0) x.0.0 x.1)) r

    headed_is : (xs : List ℕ) → after_read (headed_code.read xs) closed_as
        ≡ after_read (named_read word_fine (closers by_blank.one by_blank.two) (words_at sig b) xs) (λ v r. after_read (worded_read sig env (get_or (words_at sig b) v.0 []) r) F_closed)
    headed_is xs =
        both_then (formulas.bracket_names sig real b) arm_code xs closed_as
        ∙ after_same ((formulas.bracket_names sig real b).read xs) _ _ (λ w r. arm_is F_closed w.0 env (kind_of w.0) r)
        ∙ word_then word_fine (words_at sig b) blank blank_end (formulas.eq_first sig real b) xs (λ w r. after_read (worded_read sig env w r) F_closed)
        ∙ ap (λ f. after_read (named_read word_fine f (words_at sig b) xs) (λ v r. after_read (worded_read sig env (get_or (words_at sig b) v.0 []) r) F_closed)) blank_is

    bracket_is : (xs : List ℕ) → after_read (bracket_code.read (40 ∷ xs)) (λ v rest. formula_made (inl v) rest) ≡ bracket_read sig env k b xs
    bracket_is xs =
        both_then (alone {A = Unit {0}} tt (40 ∷ [])) (λ u. both headed_code (λ x. close_code)) (40 ∷ xs) (λ v rest. formula_made (inl v) rest)
        ∙ byte_then 40 xs (λ u r. after_read ((both headed_code (λ x. close_code)).read r) (λ v rest. formula_made (inl (u, v)) rest))
        ∙ both_then headed_code (λ x. close_code) xs (λ v rest. formula_made (inl (tt, v)) rest)
        ∙ after_same (headed_code.read xs) _ _ (λ x r. ap (λ z. after_read z (λ e rest. formula_made (inl (tt, (x, e))) rest)) (closing_is k (close_end k) r))
        ∙ headed_is xs

    lone_is : (w : List ℕ) → lone_symbol_of sig w ≡ get_or (lone_symbols sig) (place_of (map (symbol_name sig) (lone_symbols sig)) w) 0
    unfolding lone_symbol_of
    lone_is w = named_at (symbol_name sig) 0 (lone_symbols sig) w

    leaf_by : (x y : Bool) (w : List ℕ) → roll-Formula (leaf_pick sig real x y w) ≡ leaf_at sig (cond x 0 (suc (cond y 0 (suc (place_of (map (symbol_name sig) (lone_symbols sig)) w)))))
    leaf_by true y w = rolls-True
    leaf_by false true w = rolls-False
    leaf_by false false w = rolls-Pred (lone_symbol_of sig w) [] [] ∙ ap (λ n. formula.Pred n [] []) (lone_is w)

    leaf_rolls : (w : List ℕ) → roll-Formula (leaf_pick sig real (same w true_word) (same w false_word) w) ≡ leaf_at sig (place_of (leaves_at sig) w)
    leaf_rolls w =
        ap (λ x. roll-Formula (leaf_pick sig real x (same w false_word) w)) (same_turned w true_word)
        ∙ ap (λ y. roll-Formula (leaf_pick sig real (bytes_eq true_word w) y w)) (same_turned w false_word)
        ∙ leaf_by (bytes_eq true_word w) (bytes_eq false_word w) w

    leaf_is : (bytes : List ℕ) → after_read ((formulas.leaf_names sig real k).read bytes) (λ v rest. formula_made (inr v) rest) ≡ leaf_read sig k bytes
    leaf_is bytes =
        after_same ((formulas.leaf_names sig real k).read bytes) _ _ (λ v rest. λ i. got (leaf_rolls v.0 i, v.1) rest)
        ∙ sym (after_after ((formulas.leaf_names sig real k).read bytes) (λ v rest. got (place_of (leaves_at sig) v.0, v.1) rest) (λ v rest. got (leaf_at sig v.0, v.1) rest))
        ∙ ap (λ r. after_read r (λ v rest. got (leaf_at sig v.0, v.1) rest)) (name_is leaf_fine (leaves_at sig) (closers k.one k.two) (close_end k) (formulas.true_first sig real k) bytes)

    side_is : (s : Bool) (x : ℕ) (xs : List ℕ) → nat_eq x 40 ≡ s → after_read (on_side s (bracket_code.read (x ∷ xs)) ((formulas.leaf_names sig real k).read (x ∷ xs))) formula_made ≡ formula_by sig s env k b x xs
    side_is true x xs e = let z = eqb-true x 40 e in
        after_after (bracket_code.read (x ∷ xs)) _ _ ∙ ap (λ y. after_read (bracket_code.read (y ∷ xs)) (λ v rest. formula_made (inl v) rest)) z ∙ bracket_is xs
    side_is false x xs e = after_after ((formulas.leaf_names sig real k).read (x ∷ xs)) _ _ ∙ leaf_is (x ∷ xs)

    raw_is : (bytes : List ℕ) → after_read (((formulas.raw_formula sig real env k b).make codes inner).read bytes) formula_made ≡ formula_turn sig env k b bytes
    unfolding choice sequence fixed
    raw_is [] = ap (λ r. after_read r formula_made) (one_none is_bracket bracket_code (formulas.leaf_names sig real k) (formulas.formula_bracket_begins sig real env k b codes inner) (formulas.formula_leaf_begins sig real k codes inner))
    raw_is (x ∷ xs) = ap (λ r. after_read r formula_made) (one_is is_bracket bracket_code (formulas.leaf_names sig real k) (formulas.formula_bracket_begins sig real env k b codes inner)
        (formulas.formula_leaf_begins sig real k codes inner) x xs)
        ∙ side_is (nat_eq x 40) x xs refl

    plan_is : (bytes : List ℕ) → ((formulas.formula_plan sig real env k b).make codes inner).read bytes ≡ formula_turn sig env k b bytes
    unfolding sends
    plan_is bytes = mapped_is (formulas.formula_to sig real) (formulas.formula_from sig real) ((formulas.raw_formula sig real env k b).make codes inner) (formulas.formula_back sig real env k b codes inner) bytes ∙ raw_is bytes

  pub formula_is : (env : List Sort) (k : Close) (bytes : List ℕ) → (formula_code sig env k).read bytes ≡ formula_turn sig env k true bytes
  unfolding formulas.formula
  formula_is env k bytes = coded_reads {T = λ i. FormulaEnd} formula_shape formula_sure (formula_layers sig real) (env, k) bytes ∙ plan_is env k true bytes

  pub positive_is : (k : Close) (bytes : List ℕ) → (positive_formula sig real k).read bytes ≡ formula_turn sig [] k false bytes
  unfolding positive_formula
  positive_is k bytes = plan_is [] k false bytes
