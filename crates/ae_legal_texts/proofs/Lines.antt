-- Literals, lines, blocks and whole proofs have texts.
use Rattle.std.specs.Prelude.{ℕ, suc, ◌≡◌, Bool, true, false, not, IsTrue, nat_eq, List, [], ◌∷◌, ◌++◌, Option, Some, None}
use Rattle.std.specs.List.{AllByRecursion, flat_map, list_all}
use Rattle.std.proofs.Common.{refl, sym, subst, inl, inr}
use Rattle.std.proofs.lemmas.Bool.{and_parts}
use Rattle.ae_base.specs.Options.{or_else}
use Rattle.ae_base.proofs.AllOf.{all_front, all_back}
use Rattle.ae_codes.specs.Closers.{Close, closers, by_blank, by_line, square}
use Rattle.ae_codes.specs.Codes.{Code, both, one, mapped, words}
use Rattle.ae_codes.specs.Names.{closing}
use Rattle.ae_codes.specs.Repeats.{EachStep}
use Rattle.ae_codes.specs.Rising.{rising}
use Rattle.ae_codes.specs.Rows.{alone, empty}
use Rattle.ae_codes.specs.Tables.{table, tagged}
use Rattle.ae_core.specs.Signatures.{IsLawful}
use Rattle.ae_core.specs.Sorts.{is_closed_sort, term_ok, formula_ok}
use Rattle.ae_rules.specs.Derivations.{clause_ok}
use Rattle.ae_core.specs.declared.problems.Signature.{Signature}
use Rattle.ae_core.specs.declared.terms.Sort.{Sort, Int}
use Rattle.ae_core.specs.declared.terms.Term.{Term, Bound}
use Rattle.ae_core.specs.declared.formulas.Formula.{Formula, out-Formula}
use Rattle.ae_core.specs.declared.formulas.Lit.{Lit}
use Rattle.ae_core.specs.declared.proofs.EqLine.{EqLine}
use Rattle.ae_core.specs.declared.proofs.EqLine.TheVariants.{EqHyp, EqRefl, EqSym, EqTrans, EqCong, EqAc, EqLin, EqField, EqFields, LeHyp, LtHyp, LeSum, LtSum, LeRound}
use Rattle.ae_core.specs.declared.proofs.Ending.{Ending}
use Rattle.ae_core.specs.declared.proofs.Block.{Block as BlockOf}
use Rattle.ae_core.specs.declared.proofs.ClauseLine.{ClauseLine}
use Rattle.ae_core.specs.declared.proofs.ClauseLine.TheVariants.{Hyp, Goal, Def, Inst, Fresh, Exh, Tri, Block, Rup}
use Rattle.ae_prooftext.specs.declared.proofs.ProofText.{ProofText}
use Rattle.ae_prooftext.specs.Grammar.{is_real, term_code, formula_code, clause_code, block_code, proof_code}
use Rattle.ae_prooftext.specs.Texts.{literal_text, sort_text, term_text, sign}
use Rattle.ae_prooftext.specs.Words.{type_names}
use Rattle.ae_prooftext.specs.SortTexts.{some_type, sort_is_spelled}
use Rattle.ae_prooftext.specs.TermTexts.{above_square, sort_in, sorts_shaped, sorts_begin, term_is_spelled}
use Rattle.ae_prooftext.specs.Clauses.{LitEnd, literal, literals, literal_shaped, literal_is_spelled, literal_begins, sure_lit, sorts}
use Rattle.ae_prooftext.specs.Parts.{closed_term, terms, closed_in_square, closed_begins}
use Rattle.ae_prooftext.specs.Rules.{EqRule, e_hyp, e_refl, e_sym, e_trans, e_cong, e_ac, e_lin, e_field, e_fields, LeRule, le_hyp, le_sum, le_round, LtRule, lt_hyp, lt_sum, eq_code, le_code, lt_code, ending_code}
use Rattle.ae_prooftext.specs.Proofs.{sides, sides_code, derived_line, derived_or_end, step_first, end_fits, is_h, derivation, block_step, block_first, derivation_fits, block, line_code, line_first, end_line_fits, proof_lines}
use Rattle.ae_prooftext.specs.ProofTexts as whole
use Rattle.ae_legal_texts.specs.Numbers.{count, IsWithin, AreWithin, counts, sort_numbers, term_numbers, formula_numbers, literal_numbers, sides_numbers, derived_numbers, ending_numbers, block_numbers, line_numbers}
use Rattle.ae_legal_texts.specs.Writable.{ClosesParts, is_negation, no_negations, derived_sorted, line_sorted, no_negations_in, IsWritable, HasText}
use Rattle.ae_legal_texts.proofs.Places.{all_parts}
use Rattle.ae_legal_texts.proofs.Closing.{square_parts, blank_parts, line_parts}
use Rattle.ae_legal_texts.proofs.Lists.{Item, listing_fits}
use Rattle.ae_legal_texts.proofs.Terms.{sort_items, terms_have}
use Rattle.ae_legal_texts.proofs.Formulas.{formula_fits, positive_fits, formulas_have}
use Rattle.ae_legal_texts.proofs.Rules.{all_small, blank_count, line_count, numbers_has, eq_rule_numbers, le_rule_numbers, lt_rule_numbers, eq_rule_has, le_rule_has, lt_rule_has, ending_has}
use Rattle.ae_legal_texts.proofs.Repeated.{repeated_has}
use Rattle.ae_legal_texts.proofs.Rising.{rising_has}

abbrev real : Signature → List Sort → Term → Bool
real sig = is_real sig

module _ (sig : Signature) (lawful : IsLawful sig) where
  -- ---- closed terms and formulas
  term_blank : (t : Term) → term_ok sig t ≡ true → AreWithin (term_numbers t) → (term_code sig [] by_blank).Fits (t, 32)
  unfolding by_blank
  term_blank t o w = terms_have sig lawful [] t o w by_blank blank_parts 32 refl

  term_line : (t : Term) → term_ok sig t ≡ true → AreWithin (term_numbers t) → (term_code sig [] by_line).Fits (t, 10)
  unfolding by_line
  term_line t o w = terms_have sig lawful [] t o w by_line line_parts 10 refl

  formula_at : (f : Formula) → formula_ok sig f ≡ true → AreWithin (formula_numbers f) → (k : Close) → ClosesParts k → (e : ℕ) → IsTrue (closers k.one k.two e) → (formula_code sig [] k).Fits (f, e)
  formula_at f o w k p e c = formula_fits sig [] k (f, e) (formulas_have sig lawful f [] o w true refl k p e c)

  formula_blank : (f : Formula) → formula_ok sig f ≡ true → AreWithin (formula_numbers f) → (formula_code sig [] by_blank).Fits (f, 32)
  unfolding by_blank
  formula_blank f o w = formula_at f o w by_blank blank_parts 32 refl

  formula_line : (f : Formula) → formula_ok sig f ≡ true → AreWithin (formula_numbers f) → (formula_code sig [] by_line).Fits (f, 10)
  unfolding by_line
  formula_line f o w = formula_at f o w by_line line_parts 10 refl

  -- ---- lists of terms and of sorts
  term_items : (ts : List Term) → list_all (term_ok sig) ts ≡ true → AllByRecursion (λ t. AreWithin (term_numbers t)) ts
      → AllByRecursion (Item 93 above_square (closed_term sig (real sig) square) (Bound 0) (closed_in_square sig (real sig))) ts
  unfolding square
  term_items [] o w = tt
  term_items (t ∷ ts) o w =
      let p = and_parts (term_ok sig t) (list_all (term_ok sig) ts) o in
      ((terms_have sig lawful [] t p.0 w.0 square square_parts 32 refl, terms_have sig lawful [] t p.0 w.0 square square_parts 93 refl), term_items ts p.1 w.1)

  terms_has : (ts : List Term) → list_all (term_ok sig) ts ≡ true → AreWithin (flat_map term_numbers ts) → (terms sig (real sig)).Fits ts
  unfolding terms
  terms_has ts o w =
      listing_fits 93 above_square (closed_term sig (real sig) square) (Bound 0) (closed_in_square sig (real sig)) (term_text sig) (λ v f. term_is_spelled sig (real sig []) square v) (closed_begins sig (real sig)) ts
      (term_items ts o (all_parts IsWithin term_numbers ts w))

  pub sorts_has : (ss : List Sort) → list_all (is_closed_sort sig) ss ≡ true → AreWithin (flat_map sort_numbers ss) → (sorts sig).Fits ss
  unfolding sorts
  sorts_has ss o w =
      listing_fits 93 above_square (sort_in sig square) Int (sorts_shaped sig) (sort_text (type_names sig)) (λ v f. sort_is_spelled (type_names sig) (some_type (type_names sig)) square v f) (sorts_begin sig) ss
      (sort_items sig lawful ss o w)

  -- ---- literals and clauses
  abbrev IsPlain : Lit → Type 0
  IsPlain x = not (is_negation (out-Formula x.formula)) ≡ true

  sign_back : (x : Lit) (e : ℕ) → ◌≡◌ {A = LitEnd} (record { positive = nat_eq (sign x.positive) 43; formula = x.formula }, e) (x, e)
  sign_back x e = go x.positive
    where
      go : (b : Bool) → ◌≡◌ {A = LitEnd} (record { positive = nat_eq (sign b) 43; formula = x.formula }, e) (record { positive = b; formula = x.formula }, e)
      go true = refl
      go false = refl

  sign_closes : (b : Bool) → IsTrue (closers 43 45 (sign b))
  sign_closes true = refl
  sign_closes false = refl

  pub literal_has : (x : Lit) → formula_ok sig x.formula ≡ true → IsPlain x → AreWithin (literal_numbers x) → HasText (literal sig (real sig)) x
  unfolding literal mapped both closing words
  literal_has x o n w k p e c = ((sign_closes x.positive, positive_fits sig k (x.formula, e) (formulas_have sig lawful x.formula [] o w false n k p e c)), sign_back x e)

  literal_items : (xs : List Lit) → clause_ok sig xs ≡ true → no_negations xs ≡ true → AllByRecursion (λ x. AreWithin (literal_numbers x)) xs
      → AllByRecursion (Item 93 above_square (literal sig (real sig) square) (sure_lit sig (real sig)) (literal_shaped sig (real sig))) xs
  unfolding square
  literal_items [] o n w = tt
  literal_items (x ∷ xs) o n w =
      let p = and_parts (formula_ok sig x.formula) (clause_ok sig xs) o in
      let q = and_parts (not (is_negation (out-Formula x.formula))) (no_negations xs) n in
      ((literal_has x p.0 q.0 w.0 square square_parts 32 refl, literal_has x p.0 q.0 w.0 square square_parts 93 refl), literal_items xs p.1 q.1 w.1)

  pub clause_has : (c : List Lit) → clause_ok sig c ≡ true → no_negations c ≡ true → AreWithin (flat_map literal_numbers c) → (clause_code sig).Fits c
  unfolding literals
  clause_has c o n w =
      listing_fits 93 above_square (literal sig (real sig) square) (sure_lit sig (real sig)) (literal_shaped sig (real sig)) (literal_text sig) (literal_is_spelled sig (real sig) square) (literal_begins sig (real sig) square) c
      (literal_items c o n (all_parts IsWithin literal_numbers c w))

  -- ---- derived lines
  sides_has : {R : Type 0} (r : Code R) (s t : Term) (x : R) → term_ok sig s ≡ true → term_ok sig t ≡ true → AreWithin (sides_numbers s t) → r.Fits x → (sides_code sig (real sig) r).Fits (sides s t x)
  unfolding both
  sides_has r s t x o q w f = (term_blank s o (all_front IsWithin (term_numbers s) (term_numbers t) w), (term_blank t q (all_back IsWithin (term_numbers s) (term_numbers t) w), f))

  module _ (s t : Term) (o : derived_sorted sig (EqRefl s t) ≡ true) where
    both_sorted : (term_ok sig s ≡ true) × (term_ok sig t ≡ true)
    both_sorted = and_parts (term_ok sig s) (term_ok sig t) o

    eq_has : (r : EqRule) → AreWithin (sides_numbers s t ++ eq_rule_numbers r) → (sides_code sig (real sig) eq_code).Fits (sides s t r)
    eq_has r w = sides_has eq_code s t r both_sorted.0 both_sorted.1 (all_front IsWithin (sides_numbers s t) (eq_rule_numbers r) w) (eq_rule_has r (all_back IsWithin (sides_numbers s t) (eq_rule_numbers r) w))

    plain_has : (r : EqRule) → eq_rule_numbers r ≡ [] → AreWithin (sides_numbers s t) → (sides_code sig (real sig) eq_code).Fits (sides s t r)
    plain_has r q w = sides_has eq_code s t r both_sorted.0 both_sorted.1 w (eq_rule_has r (subst AreWithin (sym q) tt))

    le_has : (r : LeRule) → AreWithin (sides_numbers s t ++ le_rule_numbers r) → (sides_code sig (real sig) le_code).Fits (sides s t r)
    le_has r w = sides_has le_code s t r both_sorted.0 both_sorted.1 (all_front IsWithin (sides_numbers s t) (le_rule_numbers r) w) (le_rule_has r (all_back IsWithin (sides_numbers s t) (le_rule_numbers r) w))

    lt_has : (r : LtRule) → AreWithin (sides_numbers s t ++ lt_rule_numbers r) → (sides_code sig (real sig) lt_code).Fits (sides s t r)
    lt_has r w = sides_has lt_code s t r both_sorted.0 both_sorted.1 (all_front IsWithin (sides_numbers s t) (lt_rule_numbers r) w) (lt_rule_has r (all_back IsWithin (sides_numbers s t) (lt_rule_numbers r) w))

  pub derived_has : (l : EqLine) → derived_sorted sig l ≡ true → AreWithin (derived_numbers l) → (derived_line sig (real sig)).Fits l
  unfolding derived_line tagged mapped both table words
  derived_has (EqHyp s t i) o w = ((inl refl, (eq_has s t o (e_hyp i) w, refl)), refl)
  derived_has (EqRefl s t) o w = ((inl refl, (plain_has s t o e_refl refl w, refl)), refl)
  derived_has (EqSym s t k) o w = ((inl refl, (eq_has s t o (e_sym k) w, refl)), refl)
  derived_has (EqTrans s t j k) o w = ((inl refl, (eq_has s t o (e_trans j k) w, refl)), refl)
  derived_has (EqCong s t ks) o w = ((inl refl, (eq_has s t o (e_cong ks) w, refl)), refl)
  derived_has (EqAc s t) o w = ((inl refl, (plain_has s t o e_ac refl w, refl)), refl)
  derived_has (EqLin s t d xs) o w = ((inl refl, (eq_has s t o (e_lin d xs) w, refl)), refl)
  derived_has (EqField s t) o w = ((inl refl, (plain_has s t o e_field refl w, refl)), refl)
  derived_has (EqFields s t ks) o w = ((inl refl, (eq_has s t o (e_fields ks) w, refl)), refl)
  derived_has (LeHyp s t i) o w = ((inr (inl refl), (le_has s t o (le_hyp i) w, refl)), refl)
  derived_has (LtHyp s t i) o w = ((inr (inr (inl refl)), (lt_has s t o (lt_hyp i) w, refl)), refl)
  derived_has (LeSum s t d xs) o w = ((inr (inl refl), (le_has s t o (le_sum d xs) w, refl)), refl)
  derived_has (LtSum s t d xs) o w = ((inr (inr (inl refl)), (lt_has s t o (lt_sum d xs) w, refl)), refl)
  derived_has (LeRound s t k) o w = ((inr (inl refl), (le_has s t o (le_round k) w, refl)), refl)

  -- ---- blocks
  derived_step : (l : EqLine) → (derived_line sig (real sig)).Fits l → (derived_or_end sig (real sig)).Fits (inl l)
  unfolding one
  derived_step l f = f

  ending_step : (e : Ending) → ending_code.Fits e → (derived_or_end sig (real sig)).Fits (inr e)
  unfolding one
  ending_step e f = f

  derivation_each : (ls : List EqLine) (e : Ending) → list_all (derived_sorted sig) ls ≡ true → AllByRecursion (λ l. AreWithin (derived_numbers l)) ls → AreWithin (ending_numbers e)
      → EachStep (derived_or_end sig (real sig)) (ending_code.some.0) (end_fits sig (real sig)) (λ y. is_h y ≡ false) (step_first sig (real sig)) ls e
  derivation_each [] e o w v = ending_step e (ending_has e v)
  derivation_each (l ∷ ls) e o w v =
      let p = and_parts (derived_sorted sig l) (list_all (derived_sorted sig) ls) o in
      (derived_step l (derived_has l p.0 w.0), derivation_each ls e p.1 w.1 v)

  derivation_has : (ls : List EqLine) (e : Ending) → list_all (derived_sorted sig) ls ≡ true → AreWithin (flat_map derived_numbers ls) → AreWithin (ending_numbers e) → (derivation sig (real sig)).Fits (ls, e)
  unfolding derivation
  derivation_has ls e o w v =
      repeated_has (derived_or_end sig (real sig)) (ending_code.some.0) (end_fits sig (real sig)) (λ y. is_h y ≡ false) (step_first sig (real sig)) ls e (derivation_each ls e o (all_parts IsWithin derived_numbers ls w) v)

  hypothesis_step : (x : Lit) → (literal sig (real sig) by_line).Fits (x, 10) → (block_step sig (real sig)).Fits (inl x)
  unfolding one mapped both alone words
  hypothesis_step x f = ((refl, f), refl)

  hypothesis_has : (x : Lit) → formula_ok sig x.formula ≡ true → IsPlain x → AreWithin (literal_numbers x) → (literal sig (real sig) by_line).Fits (x, 10)
  unfolding by_line
  hypothesis_has x o n w = literal_has x o n w by_line line_parts 10 refl

  last_step : (d : (ls : List EqLine) × Ending) → (derivation sig (real sig)).Fits d → (block_step sig (real sig)).Fits (inr d)
  unfolding one
  last_step d f = f

  block_each : (hs : List Lit) (d : (ls : List EqLine) × Ending) → clause_ok sig hs ≡ true → no_negations hs ≡ true → AllByRecursion (λ x. AreWithin (literal_numbers x)) hs → (derivation sig (real sig)).Fits d
      → EachStep (block_step sig (real sig)) ((derivation sig (real sig)).some.0) (derivation_fits sig (real sig)) (λ y. Unit {0}) (block_first sig (real sig)) hs d
  block_each [] d o n w f = last_step d f
  block_each (x ∷ hs) d o n w f =
      let p = and_parts (formula_ok sig x.formula) (clause_ok sig hs) o in
      let q = and_parts (not (is_negation (out-Formula x.formula))) (no_negations hs) n in
      (hypothesis_step x (hypothesis_has x p.0 q.0 w.0), block_each hs d p.1 q.1 w.1 f)

  pub block_has : (b : BlockOf) → line_sorted sig (Block b) ≡ true → no_negations_in (Block b) ≡ true → AreWithin (block_numbers b) → (block_code sig).Fits b
  unfolding block mapped
  block_has b o n w =
      let p = and_parts (clause_ok sig b.deriv.hyps) (list_all (derived_sorted sig) b.deriv.lines) o in
      let hs = flat_map literal_numbers b.deriv.hyps in
      let ls = flat_map derived_numbers b.deriv.lines in
      let u = all_back IsWithin hs (ls ++ ending_numbers b.ending) w in
      let d = derivation_has b.deriv.lines b.ending p.1 (all_front IsWithin ls (ending_numbers b.ending) u) (all_back IsWithin ls (ending_numbers b.ending) u) in (
        repeated_has (block_step sig (real sig)) ((derivation sig (real sig)).some.0) (derivation_fits sig (real sig)) (λ y. Unit {0}) (block_first sig (real sig)) b.deriv.hyps (b.deriv.lines, b.ending)
            (block_each b.deriv.hyps (b.deriv.lines, b.ending) p.0 n (all_parts IsWithin literal_numbers b.deriv.hyps (all_front IsWithin hs (ls ++ ending_numbers b.ending) w)) d),
        refl,
      )

  -- ---- clause lines
  pub line_has : (l : ClauseLine) → line_sorted sig l ≡ true → no_negations_in l ≡ true → AreWithin (line_numbers l) → (line_code sig (real sig)).Fits (inl l)
  unfolding line_code tagged mapped both table words alone empty
  line_has (Hyp k ss) o n w = ((inl refl, ((blank_count k w.0, (refl, (sorts_has ss o w.1, refl))), refl)), refl)
  line_has Goal o n w = ((inr (inl refl), refl), refl)
  line_has (Def r f) o n w = ((inr (inr (inl refl)), ((blank_count r w.0, formula_line f o w.1), refl)), refl)
  line_has (Inst f ts) o n w =
      let p = and_parts (formula_ok sig f) (list_all (term_ok sig) ts) o in (
        (
          inr (inr (inr (inl refl))),
          (
            (
              formula_blank f p.0 (all_front IsWithin (formula_numbers f) (flat_map term_numbers ts) w),
              (refl, (terms_has ts p.1 (all_back IsWithin (formula_numbers f) (flat_map term_numbers ts) w), refl)),
            ),
            refl,
          ),
        ),
        refl,
      )
  line_has (Fresh f m) o n w =
      ((inr (inr (inr (inr (inl refl)))), ((formula_blank f o (all_front IsWithin (formula_numbers f) (count m ∷ []) w), line_count m (all_back IsWithin (formula_numbers f) (count m ∷ []) w).0), refl)), refl)
  line_has (Exh t) o n w = ((inr (inr (inr (inr (inr (inl refl))))), (term_line t o w, refl)), refl)
  line_has (Tri s t) o n w =
      let p = and_parts (term_ok sig s) (term_ok sig t) o in
      ((inr (inr (inr (inr (inr (inr (inl refl)))))), ((term_blank s p.0 (all_front IsWithin (term_numbers s) (term_numbers t) w), term_line t p.1 (all_back IsWithin (term_numbers s) (term_numbers t) w)), refl)), refl)
  line_has (Block b) o n w = ((inr (inr (inr (inr (inr (inr (inr (inl refl))))))), (block_has b o n w, refl)), refl)
  line_has (Rup c ks) o n w = (
    (
      inr (inr (inr (inr (inr (inr (inr (inr (inl refl)))))))),
      (
        (
          clause_has c o n (all_front IsWithin (flat_map literal_numbers c) (counts ks) w),
          numbers_has ks
              (all_back IsWithin (flat_map literal_numbers c) (counts ks) w),
        ),
        refl,
      ),
    ),
    refl,
  )

  lines_each : (ls : List ClauseLine) → list_all (line_sorted sig) ls ≡ true → list_all no_negations_in ls ≡ true → AllByRecursion (λ l. AreWithin (line_numbers l)) ls
      → EachStep (line_code sig (real sig)) tt (end_line_fits sig (real sig)) (λ y. Unit {0}) (line_first sig (real sig)) ls tt
  lines_each [] o n w = end_line_fits sig (real sig)
  lines_each (l ∷ ls) o n w =
      let p = and_parts (line_sorted sig l) (list_all (line_sorted sig) ls) o in
      let q = and_parts (no_negations_in l) (list_all no_negations_in ls) n in
      (line_has l p.0 q.0 w.0, lines_each ls p.1 q.1 w.1)

  lines_have : (ls : List ClauseLine) → list_all (line_sorted sig) ls ≡ true → list_all no_negations_in ls ≡ true → AreWithin (flat_map line_numbers ls) → (proof_lines sig (real sig)).Fits (ls, tt)
  lines_have ls o n w = repeated_has (line_code sig (real sig)) tt (end_line_fits sig (real sig)) (λ y. Unit {0}) (line_first sig (real sig)) ls tt (lines_each ls o n (all_parts IsWithin line_numbers ls w))

  -- ---- proof texts
  with_heading : (a : Option (List ℕ)) (ls : List ClauseLine) → (proof_lines sig (real sig)).Fits (ls, tt) → (rising suc).Fits (or_else a []) → (proof_code sig).Fits (whole.text_of a ls)
  unfolding whole.proof_code tagged mapped both table words alone
  with_heading None ls f r = ((inl refl, (f, refl)), refl)
  with_heading (Some ns) ls f r = ((inr (inl refl), ((r, (refl, f)), refl)), refl)

  pub proof_has : (p : ProofText) → IsWritable sig p → (proof_code sig).Fits p
  proof_has p h =
      let hs = counts (or_else p.axioms []) in
      let ls = flat_map line_numbers p.proof.lines in
      let w = h.limits.numbers in
      let lines = lines_have p.proof.lines h.sorted h.limits.literals (all_back IsWithin hs ls w) in
      let places = rising_has (or_else p.axioms []) h.limits.rising (all_small (or_else p.axioms []) (all_front IsWithin hs ls w)) in
      with_heading p.axioms p.proof.lines lines places
