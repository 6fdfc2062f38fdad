-- Each well sorted formula has a text; one that is no negation has one behind a sign.
use Rattle.std.specs.Prelude.{ℕ, ◌<◌, ◌≡◌, Bool, true, false, cond, ◌&&◌, ◌||◌, not, IsTrue, nat_eq, List, [], ◌∷◌, ◌++◌, map, length, slice_get, Option, Some}
use Rattle.std.specs.List.{AllByRecursion, flat_map, list_all}
use Rattle.std.proofs.Common.{refl, sym, ap, ◌∙◌, subst, arith, inl, inr}
use Rattle.std.proofs.lemmas.Bool.{and_parts, le-leb, ne_eqb}
use Rattle.ae_base.specs.Options.{or_else, ◌>>=◌, known}
use Rattle.ae_base.proofs.AllOf.{all_front, all_back}
use Rattle.ae_base.proofs.Tests.{false_true, three_parts}
use Rattle.ae_codes.specs.Closers.{Close, closers, by_blank, by_bracket, round, square}
use Rattle.ae_codes.specs.Codes.{Code, both, one, mapped, words}
use Rattle.ae_codes.specs.Names.{Listed, Proper, names, closing}
use Rattle.ae_codes.specs.Plans.{fixed, known as known_plan, inside, sequence, choice, sends, coded, coded_shaped, coded_fits}
use Rattle.ae_codes.specs.Rows.{alone}
use Rattle.ae_core.specs.Inner.Induction.{by_formulas}
use Rattle.ae_core.specs.Signatures.{IsLawful, continues_name}
use Rattle.ae_core.specs.Sorts.{same_known, sort_in, is_closed_sort, trigger_ok, formula_in, quant_in}
use Rattle.ae_core.proofs.Recursion.{fold_eq, fold_lt, fold_le, fold_pred, fold_not, fold_and, fold_or, fold_xor, fold_iff, fold_all, fold_ex, fold_block}
use Rattle.ae_core.proofs.SortFacts.{same_known_is, numeric_known}
use Rattle.ae_core.proofs.SortLaws.{formula_in_eq, formula_in_lt, formula_in_le, formula_in_pred, formula_in_not, formula_in_all, formula_in_ex, formula_in_and, formula_in_or, formula_in_xor, formula_in_iff, quant_in_block}
use Rattle.ae_core.specs.declared.problems.Signature.{Signature}
use Rattle.ae_core.specs.declared.problems.SymbolEntry.{SymbolEntry}
use Rattle.ae_core.specs.declared.terms.Sort.{Sort, Int}
use Rattle.ae_core.specs.declared.terms.Term.{Term, Bound}
use Rattle.ae_core.specs.declared.formulas.Formula.{Formula, Formula-F, True, False, Eq, Lt, Le, Pred, Not, And, Or, Xor, Iff, All, Ex, roll-Formula, out-Formula, roll-out-Formula}
use Rattle.ae_core.specs.declared.formulas.Formula.TheOpen as layer
use Rattle.ae_core.specs.declared.formulas.Formula.TheVariants.{outs-True, outs-False, outs-Eq, outs-Lt, outs-Le, outs-Pred, outs-Not, outs-And, outs-Or, outs-Xor, outs-Iff, outs-All, outs-Ex}
use Rattle.ae_core.specs.declared.formulas.Quant.{Quant}
use Rattle.ae_prooftext.specs.Grammar.{is_real, term_code, formula_code}
use Rattle.ae_prooftext.specs.Texts.{Kind, is_eq, is_lt, is_le, is_not, is_and, is_or, is_xor, is_iff, is_all, is_ex, is_pred, kind_word, true_word, false_word}
use Rattle.ae_prooftext.specs.Words.{symbol_name, has_variables, symbols, lone_symbols, symbol_of}
use Rattle.ae_prooftext.specs.SortTexts.{above_round, blank}
use Rattle.ae_prooftext.specs.TermTexts.{Arguments, above_square, arguments, sort_list, sort_plan, sort_plan_shaped, sort_plan_begins}
use Rattle.ae_prooftext.specs.FormulaTexts.{Body, two_terms, one_formula, two_formulas, in_block, applied_to, FormulaEnd, FormulaValue, FormulaCodes, FormulaInner, formula_shape, formula_sure, same}
use Rattle.ae_prooftext.specs.FormulaTexts.{find, kinds, kind_of, word_fine, bracket_words, leaf_fine, leaf_words, term_as, relation, negation, pair, block, trigger, trigger_list, trigger_shaped}
use Rattle.ae_prooftext.specs.FormulaTexts.{trigger_begins, square_shaped, square_begins, pred_arguments, predicate, round_shaped, arm}
use Rattle.ae_prooftext.specs.Formulas.{body_layer, leaf_pick, formula_layer_of, formula_end_of, bracket_from, pred_from, formula_from_layer, formula_to, raw_formula, formula_plan, formula_layers, formula, positive_formula}
use Rattle.ae_legal_texts.specs.Numbers.{Number, IsWithin, AreWithin, sort_numbers, term_numbers, formula_numbers, quant_numbers, formula_numbers_step, quant_numbers_step}
use Rattle.ae_legal_texts.specs.Writable.{ClosesParts, is_negation}
use Rattle.ae_legal_texts.proofs.Places.{all_parts}
use Rattle.ae_legal_texts.proofs.Named.{IsNamed, symbol_named, first_range, clean_bytes}
use Rattle.ae_legal_texts.proofs.Closing.{ClosesNoName, names_apart, blank_apart, square_parts, blank_parts, bracket_parts}
use Rattle.ae_legal_texts.proofs.Worded.{symbol_name_is, symbol_back, symbol_listed, lone_symbol_back, lone_symbol_listed}
use Rattle.ae_legal_texts.proofs.Lists.{some_has, following_has, listing_has}
use Rattle.ae_legal_texts.proofs.Applications.{no_sorts}
use Rattle.ae_legal_texts.proofs.Terms.{SquareItem, RoundItem, sort_items, terms_have, term_items, trigger_terms_have, is_predicate}

-- ---- numbers
pub numbers_eq : (a b : Term) → formula_numbers (Eq a b) ≡ term_numbers a ++ term_numbers b
unfolding formula_numbers
numbers_eq a b = fold_eq (List Number) (List Number) formula_numbers_step quant_numbers_step a b

pub numbers_lt : (a b : Term) → formula_numbers (Lt a b) ≡ term_numbers a ++ term_numbers b
unfolding formula_numbers
numbers_lt a b = fold_lt (List Number) (List Number) formula_numbers_step quant_numbers_step a b

pub numbers_le : (a b : Term) → formula_numbers (Le a b) ≡ term_numbers a ++ term_numbers b
unfolding formula_numbers
numbers_le a b = fold_le (List Number) (List Number) formula_numbers_step quant_numbers_step a b

numbers_pred : (p : ℕ) (ss : List Sort) (us : List Term) → formula_numbers (Pred p ss us) ≡ flat_map sort_numbers ss ++ flat_map term_numbers us
unfolding formula_numbers
numbers_pred p ss us = fold_pred (List Number) (List Number) formula_numbers_step quant_numbers_step p ss us

numbers_not : (a : Formula) → formula_numbers (Not a) ≡ formula_numbers a
unfolding formula_numbers
numbers_not a = fold_not (List Number) (List Number) formula_numbers_step quant_numbers_step a

numbers_and : (a b : Formula) → formula_numbers (And a b) ≡ formula_numbers a ++ formula_numbers b
unfolding formula_numbers
numbers_and a b = fold_and (List Number) (List Number) formula_numbers_step quant_numbers_step a b

numbers_or : (a b : Formula) → formula_numbers (Or a b) ≡ formula_numbers a ++ formula_numbers b
unfolding formula_numbers
numbers_or a b = fold_or (List Number) (List Number) formula_numbers_step quant_numbers_step a b

numbers_xor : (a b : Formula) → formula_numbers (Xor a b) ≡ formula_numbers a ++ formula_numbers b
unfolding formula_numbers
numbers_xor a b = fold_xor (List Number) (List Number) formula_numbers_step quant_numbers_step a b

numbers_iff : (a b : Formula) → formula_numbers (Iff a b) ≡ formula_numbers a ++ formula_numbers b
unfolding formula_numbers
numbers_iff a b = fold_iff (List Number) (List Number) formula_numbers_step quant_numbers_step a b

numbers_all : (q : Quant) → formula_numbers (All q) ≡ quant_numbers q
unfolding formula_numbers quant_numbers
numbers_all q = fold_all (List Number) (List Number) formula_numbers_step quant_numbers_step q

numbers_ex : (q : Quant) → formula_numbers (Ex q) ≡ quant_numbers q
unfolding formula_numbers quant_numbers
numbers_ex q = fold_ex (List Number) (List Number) formula_numbers_step quant_numbers_step q

numbers_block : (q : Quant) → quant_numbers q ≡ flat_map sort_numbers q.sorts ++ (flat_map (flat_map term_numbers) q.triggers ++ formula_numbers q.body)
unfolding formula_numbers quant_numbers
numbers_block q = fold_block (List Number) (List Number) formula_numbers_step quant_numbers_step q

-- ---- a name is no word of formulas
same_not : (w : List ℕ) (x : ℕ) (xs : List ℕ) (y : ℕ) (ys : List ℕ) → w ≡ x ∷ xs → nat_eq x y ≡ false → same w (y ∷ ys) ≡ false
same_not w x xs y ys q n = ap (λ z. same z (y ∷ ys)) q ∙ ap (λ b. b && same xs ys) n

find_none : (w : List ℕ) (ks : List Kind) → AllByRecursion (λ k. same w (kind_word k) ≡ false) ks → find ks w ≡ is_pred
find_none w [] h = refl
find_none w (k ∷ ks) h = ap (λ b. cond b k (find ks w)) h.0 ∙ find_none w ks h.1

module _ (w : List ℕ) (n : IsNamed w) where
  no_byte : (y : ℕ) (ys : List ℕ) → y < 65 → same w (y ∷ ys) ≡ false
  no_byte y ys l = let r = first_range n.first n.begins in let m = r.0 in same_not w n.first n.rest y ys n.is (ne_eqb n.first y (λ e. omega (arith, l, m, e)))

  pub name_kind : kind_of w ≡ is_pred
  name_kind = find_none w kinds (
    no_byte 61 _ (omega arith),
    (
      no_byte 60 _ (omega arith),
      (
        no_byte 60 _ (omega arith),
        (no_byte 64 _ (omega arith), (no_byte 64 _ (omega arith), (no_byte 64 _ (omega arith), (no_byte 64 _ (omega arith), (no_byte 64 _ (omega arith), (no_byte 64 _ (omega arith), (no_byte 64 _ (omega arith), tt))))))),
      ),
    ),
  )

  pub not_true_word : same w true_word ≡ false
  not_true_word = no_byte 64 _ (omega arith)

  pub not_false_word : same w false_word ≡ false
  not_false_word = no_byte 64 _ (omega arith)

  pub word_proper : (table : List (List ℕ)) → Proper word_fine table blank w
  word_proper table = (clean_bytes word_fine table blank blank_apart w n.goes_on, subst (λ z. IsTrue (word_fine z)) (sym n.is) refl)

  pub leaf_proper : (table : List (List ℕ)) (ends : ℕ → Bool) → ((x : ℕ) → continues_name x ≡ true → ends x ≡ false) → Proper leaf_fine table ends w
  leaf_proper table ends apart = let r = first_range n.first n.begins in let m = r.0 in (clean_bytes leaf_fine table ends apart w n.goes_on, subst (λ z. IsTrue (leaf_fine z)) (sym n.is) (le-leb 64 n.first (omega (arith, m))))

module _ (sig : Signature) where
  abbrev pub real_in : List Sort → Term → Bool
  real_in = is_real sig

  abbrev pub inner : FormulaCodes
  inner = coded {T = λ i. FormulaEnd} formula_shape formula_sure (formula_layers sig real_in)

  abbrev pub inner_shaped : FormulaInner inner
  inner_shaped = coded_shaped {T = λ i. FormulaEnd} formula_shape formula_sure (formula_layers sig real_in)

  abbrev pub plan_code : List Sort → Close → Bool → Code FormulaEnd
  plan_code env k b = (formula_plan sig real_in env k b).make inner inner_shaped

  -- what the layer over these spells, they spell
  pub inner_fits : (env : List Sort) (k : Close) (v : FormulaEnd) → (plan_code env k true).Fits v → (inner (env, k)).Fits v
  inner_fits env k v f = coded_fits {T = λ i. FormulaEnd} formula_shape formula_sure (formula_layers sig real_in) (env, k) v f

  pub formula_fits : (env : List Sort) (k : Close) (v : FormulaEnd) → (plan_code env k true).Fits v → (formula_code sig env k).Fits v
  unfolding formula
  formula_fits env k v f = inner_fits env k v f

  pub positive_fits : (k : Close) (v : FormulaEnd) → (plan_code [] k false).Fits v → (positive_formula sig real_in k).Fits v
  unfolding positive_formula
  positive_fits k v f = f

  module _ (env : List Sort) (k : Close) (b : Bool) where
    abbrev raw : Code FormulaValue
    raw = (raw_formula sig real_in env k b).make inner inner_shaped

    layer_fits : (f : Formula) (l : Formula-F Formula Quant) (e : ℕ) → out-Formula f ≡ l → raw.Fits (formula_from_layer sig real_in l e) → formula_layer_of sig real_in (formula_from_layer sig real_in l e) ≡ l
        → formula_end_of sig real_in (formula_from_layer sig real_in l e) ≡ e → (plan_code env k b).Fits (f, e)
    unfolding sends mapped
    layer_fits f l e o h r g = (
      subst (λ y. raw.Fits (formula_from_layer sig real_in y e)) (sym o) h,
      ap (λ y. formula_to sig real_in (formula_from_layer sig real_in y e)) o ∙ (λ i. (roll-Formula (r i), g i)) ∙ ap (λ y. (roll-Formula y, e)) (sym o) ∙ ap (λ z. (z, e)) (roll-out-Formula f),
    )

    abbrev Table : List (List ℕ)
    Table = bracket_words b (map (symbol_name sig) (symbols sig))

    -- a word and its arm, in brackets
    bracket_has : (w : List ℕ) (x : Body) (e : ℕ) → Listed Table w → Proper word_fine Table blank w → ((arm sig real_in env (kind_of w) w).make inner inner_shaped).Fits x
        → IsTrue (closers k.one k.two e) → raw.Fits (bracket_from sig real_in w x e)
    unfolding choice sequence fixed one both alone words names closing
    bracket_has w x e i p f c = (refl, ((record { listed = i; clean = p; closed = refl }, f), c))

    abbrev Leaves : List (List ℕ)
    Leaves = leaf_words (map (symbol_name sig) (lone_symbols sig))

    leaf_has : (w : List ℕ) (e : ℕ) → Listed Leaves w → Proper leaf_fine Leaves (closers k.one k.two) w → IsTrue (closers k.one k.two e) → raw.Fits (inr (w, e))
    unfolding choice fixed one names words
    leaf_has w e i p c = record { listed = i; clean = p; closed = c }

-- ---- the arms
module _ (sig : Signature) (env : List Sort) where
  relation_has : (a b : Term) → (term_code sig env by_blank).Fits (a, 32) → (term_code sig env by_bracket).Fits (b, 41) → ((relation sig (real_in sig) env).make (inner sig) (inner_shaped sig)).Fits (two_terms a b)
  unfolding sends mapped sequence both known_plan
  relation_has a b f g = ((f, g), refl)

  negation_has : (a : Formula) → (inner sig (env, by_bracket)).Fits (a, 41) → ((negation sig (real_in sig) env).make (inner sig) (inner_shaped sig)).Fits (one_formula a)
  unfolding sends mapped inside
  negation_has a f = (f, refl)

  pair_has : (a b : Formula) → (inner sig (env, by_blank)).Fits (a, 32) → (inner sig (env, by_bracket)).Fits (b, 41) → ((pair sig (real_in sig) env).make (inner sig) (inner_shaped sig)).Fits (two_formulas a b)
  unfolding sends mapped sequence both inside
  pair_has a b f g = ((f, g), refl)

  -- a trigger, and the triggers of a block
  abbrev TriggerItem : Term → Type 0
  TriggerItem t = (term_code sig env square).Fits (t, 32) × (term_code sig env square).Fits (t, 93)

  trigger_has : (ts : List Term) (e : ℕ) → AllByRecursion TriggerItem ts → IsTrue (closers 32 93 e) → ((trigger sig (real_in sig) env).make (inner sig) (inner_shaped sig)).Fits (ts, e)
  unfolding sends mapped sequence both fixed alone words known_plan closing
  trigger_has ts e a c = (
    (
      refl,
      (
        listing_has formula_shape formula_sure 93 above_square (term_as sig (real_in sig) env square) (Bound 0) (square_shaped sig (real_in sig) env) (inner sig) (inner_shaped sig)
            (square_begins sig (real_in sig) env) ts a,
        c,
      ),
    ),
    refl,
  )

  trigger_items : (ts : List (List Term)) → AllByRecursion (AllByRecursion TriggerItem) ts
      → AllByRecursion (λ ts. ((trigger sig (real_in sig) env).make (inner sig) (inner_shaped sig)).Fits (ts, 32) × ((trigger sig (real_in sig) env).make (inner sig) (inner_shaped sig)).Fits (ts, 93)) ts
  trigger_items [] h = tt
  trigger_items (t ∷ ts) h = ((trigger_has t 32 h.0 refl, trigger_has t 93 h.0 refl), trigger_items ts h.1)

  pub triggers_has : (ts : List (List Term)) → AllByRecursion (AllByRecursion TriggerItem) ts → ((trigger_list sig (real_in sig) env).make (inner sig) (inner_shaped sig)).Fits ts
  triggers_has ts h = listing_has formula_shape formula_sure 93 above_square (trigger sig (real_in sig) env) [] (trigger_shaped sig (real_in sig) env) (inner sig) (inner_shaped sig)
      (trigger_begins sig (real_in sig) env) ts (trigger_items ts h)

  sort_list_has : (ss : List Sort) → AllByRecursion (SquareItem sig) ss → ((sort_list sig formula_shape formula_sure).make (inner sig) (inner_shaped sig)).Fits ss
  unfolding known_plan
  sort_list_has ss a = listing_has formula_shape formula_sure 93 above_square (sort_plan sig formula_shape formula_sure) Int (sort_plan_shaped sig formula_shape formula_sure) (inner sig) (inner_shaped sig)
      (sort_plan_begins sig formula_shape formula_sure) ss a

  -- a predicate's arguments
  sorted_has : (ss : List Sort) (us : List Term) → AllByRecursion (SquareItem sig) ss → AllByRecursion (RoundItem sig env) us → ((pred_arguments sig (real_in sig) env true).make (inner sig) (inner_shaped sig)).Fits (ss, us)
  unfolding arguments sends mapped sequence both fixed alone words known_plan
  sorted_has ss us a b = (
    (
      refl,
      (
        sort_list_has ss a,
        following_has formula_shape formula_sure 41 above_round (term_as sig (real_in sig) env round) (Bound 0) (round_shaped sig (real_in sig) env) (inner sig) (inner_shaped sig) us b,
      ),
    ),
    refl,
  )

  unsorted_has : (u : Term) (us : List Term) → AllByRecursion (RoundItem sig env) (u ∷ us) → ((pred_arguments sig (real_in sig) env false).make (inner sig) (inner_shaped sig)).Fits ([], u ∷ us)
  unfolding arguments sends mapped known_plan
  unsorted_has u us b = (some_has formula_shape formula_sure 41 above_round (term_as sig (real_in sig) env round) (Bound 0) (round_shaped sig (real_in sig) env) (inner sig) (inner_shaped sig) u us b, refl)

  predicate_has : (b : Bool) (v : Arguments) → ((pred_arguments sig (real_in sig) env b).make (inner sig) (inner_shaped sig)).Fits v → ((predicate sig (real_in sig) env b).make (inner sig) (inner_shaped sig)).Fits (applied_to v)
  unfolding sends mapped
  predicate_has b v f = (f, refl)

block_has : (sig : Signature) (env : List Sort) (q : Quant) → ((sort_list sig formula_shape formula_sure).make (inner sig) (inner_shaped sig)).Fits q.sorts
    → ((trigger_list sig (real_in sig) (env ++ q.sorts)).make (inner sig) (inner_shaped sig)).Fits q.triggers
    → (inner sig (env ++ q.sorts, by_bracket)).Fits (q.body, 41) → ((block sig (real_in sig) env).make (inner sig) (inner_shaped sig)).Fits (in_block q)
unfolding sends mapped sequence both fixed alone words inside
block_has sig env q a b f = ((refl, (a, (refl, (b, (refl, f))))), refl)

-- ---- predicates
module _ (sig : Signature) (lawful : IsLawful sig) (env : List Sort) (k : Close) (apart : ClosesNoName k) (b : Bool) where
  abbrev Puts : Bool → ℕ → List Sort → List Term → ℕ → Type 0
  Puts t n ss us e =
      (raw sig env k b).Fits (pred_from sig (real_in sig) t n ss us e) × (formula_layer_of sig (real_in sig) (pred_from sig (real_in sig) t n ss us e) ≡ layer.Pred n ss us)
      × (formula_end_of sig (real_in sig) (pred_from sig (real_in sig) t n ss us e) ≡ e)

  module _ (n : ℕ) (d : SymbolEntry) (at : slice_get sig.symbols n ≡ Some d) where
    named_so : IsNamed (symbol_name sig n)
    named_so = subst IsNamed (sym (symbol_name_is sig n d at)) (symbol_named sig lawful n d at)

    is_so : kind_of (symbol_name sig n) ≡ is_pred
    is_so = name_kind (symbol_name sig n) named_so

    found_so : symbol_of sig (symbol_name sig n) ≡ n
    found_so = symbol_back sig lawful n (d, at)

    listed_so : Listed (bracket_words b (map (symbol_name sig) (symbols sig))) (symbol_name sig n)
    listed_so = inr (inr (inr (inr (inr (inr (inr (inr (inr (inr (symbol_listed sig lawful n (d, at)))))))))))

    layer_so : (ss : List Sort) (us : List Term) → body_layer sig (real_in sig) (kind_of (symbol_name sig n)) (symbol_name sig n) (applied_to (ss, us)) ≡ layer.Pred n ss us
    layer_so ss us = ap (λ z. body_layer sig (real_in sig) z (symbol_name sig n) (applied_to (ss, us))) is_so ∙ ap (λ z. layer.Pred z ss us) found_so

    arm_so : (t : Bool) (ss : List Sort) (us : List Term) → has_variables sig n ≡ t → ((pred_arguments sig (real_in sig) env t).make (inner sig) (inner_shaped sig)).Fits (ss, us)
        → ((arm sig (real_in sig) env (kind_of (symbol_name sig n)) (symbol_name sig n)).make (inner sig) (inner_shaped sig)).Fits (applied_to (ss, us))
    arm_so t ss us q f =
        subst (λ z. ((arm sig (real_in sig) env z (symbol_name sig n)).make (inner sig) (inner_shaped sig)).Fits (applied_to (ss, us))) (sym is_so)
        (subst (λ z. ((predicate sig (real_in sig) env z).make (inner sig) (inner_shaped sig)).Fits (applied_to (ss, us))) (sym (ap (has_variables sig) found_so ∙ q)) (predicate_has sig env t (ss, us) f))

    in_brackets : (t : Bool) (ss : List Sort) (us : List Term) (e : ℕ) → has_variables sig n ≡ t → ((pred_arguments sig (real_in sig) env t).make (inner sig) (inner_shaped sig)).Fits (ss, us) → IsTrue (closers k.one k.two e)
        → (raw sig env k b).Fits (bracket_from sig (real_in sig) (symbol_name sig n) (applied_to (ss, us)) e)
    in_brackets t ss us e q f c =
        bracket_has sig env k b (symbol_name sig n) (applied_to (ss, us)) e listed_so (word_proper (symbol_name sig n) named_so (bracket_words b (map (symbol_name sig) (symbols sig)))) (arm_so t ss us q f) c

    leaf_is : has_variables sig n ≡ false → leaf_pick sig (real_in sig) (same (symbol_name sig n) true_word) (same (symbol_name sig n) false_word) (symbol_name sig n) ≡ layer.Pred n [] []
    leaf_is q =
        ap (λ z. leaf_pick sig (real_in sig) z (same (symbol_name sig n) false_word) (symbol_name sig n)) (not_true_word (symbol_name sig n) named_so)
        ∙ ap (λ z. leaf_pick sig (real_in sig) false z (symbol_name sig n)) (not_false_word (symbol_name sig n) named_so)
        ∙ ap (λ z. layer.Pred z [] []) (lone_symbol_back sig lawful n (d, at) q)

    puts : (t : Bool) (ss : List Sort) (us : List Term) (e : ℕ) → has_variables sig n ≡ t → (t ≡ false → ss ≡ []) → AllByRecursion (SquareItem sig) ss → AllByRecursion (RoundItem sig env) us
        → IsTrue (closers k.one k.two e) → Puts t n ss us e
    puts true ss us e q p x y c = (in_brackets true ss us e q (sorted_has sig env ss us x y) c, layer_so ss us, refl)
    puts false ss (u ∷ us) e q p x y c = (
      in_brackets false ss (u ∷ us) e q (subst (λ z. ((pred_arguments sig (real_in sig) env false).make (inner sig) (inner_shaped sig)).Fits (z, u ∷ us)) (sym (p refl)) (unsorted_has sig env u us y)) c,
      layer_so ss (u ∷ us),
      refl,
    )
    puts false ss [] e q p x y c = (
      leaf_has sig env k b (symbol_name sig n) e (inr (inr (lone_symbol_listed sig lawful n (d, at) q))) (leaf_proper (symbol_name sig n) named_so (leaf_words (map (symbol_name sig) (lone_symbols sig))) (closers k.one k.two) apart) c,
      leaf_is q ∙ ap (λ z. layer.Pred n z []) (sym (p refl)),
      refl,
    )

    variables_so : has_variables sig n ≡ not (nat_eq d.vars 0)
    variables_so = ap (λ (o : Option SymbolEntry). or_else (o >>= λ e. Some (not (nat_eq e.vars 0))) false) at

    pub predicate_fits_so : (ss : List Sort) (us : List Term) (e : ℕ) → length ss ≡ d.vars → AllByRecursion (SquareItem sig) ss → AllByRecursion (RoundItem sig env) us
        → IsTrue (closers k.one k.two e) → (plan_code sig env k b).Fits (Pred n ss us, e)
    predicate_fits_so ss us e l x y c =
        let w = puts (has_variables sig n) ss us e refl (λ z. no_sorts ss d.vars l (sym variables_so ∙ z)) x y c in
        layer_fits sig env k b (Pred n ss us) (layer.Pred n ss us) e (outs-Pred n ss us) w.0 w.1 w.2

-- ---- all formulas
module _ (sig : Signature) (lawful : IsLawful sig) where
  abbrev pub HasFormula : Formula → Type 0
  HasFormula f = (env : List Sort) → formula_in sig (is_closed_sort sig) env f ≡ true → AreWithin (formula_numbers f) → (b : Bool) → b || not (is_negation (out-Formula f)) ≡ true → (k : Close) → ClosesParts k →
      (e : ℕ) → IsTrue (closers k.one k.two e)
      → (plan_code sig env k b).Fits (f, e)

  abbrev pub HasBlock : Quant → Type 0
  HasBlock q = (env : List Sort) → quant_in sig (is_closed_sort sig) env q ≡ true → AreWithin (quant_numbers q) → ((block sig (real_in sig) env).make (inner sig) (inner_shaped sig)).Fits (in_block q)

  -- inside brackets
  in_blank : (a : Formula) → HasFormula a → (env : List Sort) → formula_in sig (is_closed_sort sig) env a ≡ true → AreWithin (formula_numbers a) → (inner sig (env, by_blank)).Fits (a, 32)
  unfolding by_blank
  in_blank a h env o w = inner_fits sig env by_blank (a, 32) (h env o w true refl by_blank blank_parts 32 refl)

  in_bracket : (a : Formula) → HasFormula a → (env : List Sort) → formula_in sig (is_closed_sort sig) env a ≡ true → AreWithin (formula_numbers a) → (inner sig (env, by_bracket)).Fits (a, 41)
  unfolding by_bracket
  in_bracket a h env o w = inner_fits sig env by_bracket (a, 41) (h env o w true refl by_bracket bracket_parts 41 refl)

  first_term : (env : List Sort) (t : Term) → known (sort_in sig (is_closed_sort sig) env t) ≡ true → AreWithin (term_numbers t) → (term_code sig env by_blank).Fits (t, 32)
  unfolding by_blank
  first_term env t o w = terms_have sig lawful env t o w by_blank blank_parts 32 refl

  second_term : (env : List Sort) (t : Term) → known (sort_in sig (is_closed_sort sig) env t) ≡ true → AreWithin (term_numbers t) → (term_code sig env by_bracket).Fits (t, 41)
  unfolding by_bracket
  second_term env t o w = terms_have sig lawful env t o w by_bracket bracket_parts 41 refl

  relation_of : (env : List Sort) (a b : Term) → same_known (sort_in sig (is_closed_sort sig) env a) (sort_in sig (is_closed_sort sig) env b) ≡ true
      → AreWithin (term_numbers a ++ term_numbers b) → ((relation sig (real_in sig) env).make (inner sig) (inner_shaped sig)).Fits (two_terms a b)
  relation_of env a b o w =
      let s = same_known_is (sort_in sig (is_closed_sort sig) env a) (sort_in sig (is_closed_sort sig) env b) o in
      relation_has sig env a b (first_term env a s.0 (all_front IsWithin (term_numbers a) (term_numbers b) w)) (second_term env b (ap known (sym s.1) ∙ s.0) (all_back IsWithin (term_numbers a) (term_numbers b) w))

  pair_of : (env : List Sort) (a b : Formula) → HasFormula a → HasFormula b → formula_in sig (is_closed_sort sig) env a && formula_in sig (is_closed_sort sig) env b ≡ true → AreWithin (formula_numbers a ++ formula_numbers b)
      → ((pair sig (real_in sig) env).make (inner sig) (inner_shaped sig)).Fits (two_formulas a b)
  pair_of env a b f g o w =
      let p = and_parts (formula_in sig (is_closed_sort sig) env a) (formula_in sig (is_closed_sort sig) env b) o in
      pair_has sig env a b (in_blank a f env p.0 (all_front IsWithin (formula_numbers a) (formula_numbers b) w)) (in_bracket b g env p.1 (all_back IsWithin (formula_numbers a) (formula_numbers b) w))

  has_true : HasFormula True
  has_true env o w b n k c e d = layer_fits sig env k b True layer.True e outs-True (leaf_has sig env k b true_word e (inl refl) ((k.at_sign, (k.letters 116 (omega arith), tt)), refl) d) refl refl

  has_false : HasFormula False
  has_false env o w b n k c e d = layer_fits sig env k b False layer.False e outs-False (leaf_has sig env k b false_word e (inr (inl refl)) ((k.at_sign, (k.letters 102 (omega arith), tt)), refl) d) refl refl

  has_eq : (x y : Term) → HasFormula (Eq x y)
  has_eq x y env o w b n k c e d =
      layer_fits sig env k b (Eq x y) (layer.Eq x y) e (outs-Eq x y)
      (bracket_has sig env k b (kind_word is_eq) (two_terms x y) e (inl refl) ((refl, tt), refl) (relation_of env x y (sym (formula_in_eq sig (is_closed_sort sig) env x y) ∙ o) (subst AreWithin (numbers_eq x y) w)) d) refl refl

  has_lt : (x y : Term) → HasFormula (Lt x y)
  has_lt x y env o w b n k c e d =
      layer_fits sig env k b (Lt x y) (layer.Lt x y) e (outs-Lt x y)
      (bracket_has sig env k b (kind_word is_lt) (two_terms x y) e (inr (inl refl)) ((refl, tt), refl)
      (relation_of env x y (numeric_known _ _ (sym (formula_in_lt sig (is_closed_sort sig) env x y) ∙ o)) (subst AreWithin (numbers_lt x y) w)) d) refl refl

  has_le : (x y : Term) → HasFormula (Le x y)
  has_le x y env o w b n k c e d =
      layer_fits sig env k b (Le x y) (layer.Le x y) e (outs-Le x y)
      (bracket_has sig env k b (kind_word is_le) (two_terms x y) e (inr (inr (inl refl))) ((refl, (refl, tt)), refl)
      (relation_of env x y (numeric_known _ _ (sym (formula_in_le sig (is_closed_sort sig) env x y) ∙ o)) (subst AreWithin (numbers_le x y) w)) d) refl refl

  has_pred : (p : ℕ) (ss : List Sort) (us : List Term) → HasFormula (Pred p ss us)
  has_pred p ss us env o w b n k c e d =
      let i = is_predicate sig lawful env p ss us (sym (formula_in_pred sig (is_closed_sort sig) env p ss us) ∙ o) in
      let v = subst AreWithin (numbers_pred p ss us) w in
      predicate_fits_so sig lawful env k (names_apart k c) b p i.entry i.at ss us e i.count
      (sort_items sig lawful ss i.closed (all_front IsWithin (flat_map sort_numbers ss) (flat_map term_numbers us) v))
      (term_items sig lawful env us i.sorted (all_back IsWithin (flat_map sort_numbers ss) (flat_map term_numbers us) v)) d

  has_not : (a : Formula) → HasFormula a → HasFormula (Not a)
  has_not a h env o w b n k c e d = go b (ap (λ y. b || not (is_negation y)) (sym (outs-Not a)) ∙ n)
    where
      go : (b : Bool) → b || false ≡ true → (plan_code sig env k b).Fits (Not a, e)
      go true n =
          layer_fits sig env k true (Not a) (layer.Not a) e (outs-Not a)
          (bracket_has sig env k true (kind_word is_not) (one_formula a) e (inr (inr (inr (inr (inr (inr (inr (inr (inr (inl refl)))))))))) ((refl, (refl, (refl, (refl, tt)))), refl)
          (negation_has sig env a (in_bracket a h env (sym (formula_in_not sig (is_closed_sort sig) env a) ∙ o) (subst AreWithin (numbers_not a) w))) d) refl refl
      go false n = false_true n

  has_and : (x y : Formula) → HasFormula x → HasFormula y → HasFormula (And x y)
  has_and x y f g env o w b n k c e d =
      layer_fits sig env k b (And x y) (layer.And x y) e (outs-And x y)
      (bracket_has sig env k b (kind_word is_and) (two_formulas x y) e (inr (inr (inr (inl refl)))) ((refl, (refl, (refl, (refl, tt)))), refl)
      (pair_of env x y f g (sym (formula_in_and sig (is_closed_sort sig) env x y) ∙ o) (subst AreWithin (numbers_and x y) w)) d) refl refl

  has_or : (x y : Formula) → HasFormula x → HasFormula y → HasFormula (Or x y)
  has_or x y f g env o w b n k c e d =
      layer_fits sig env k b (Or x y) (layer.Or x y) e (outs-Or x y)
      (bracket_has sig env k b (kind_word is_or) (two_formulas x y) e (inr (inr (inr (inr (inl refl))))) ((refl, (refl, (refl, tt))), refl)
      (pair_of env x y f g (sym (formula_in_or sig (is_closed_sort sig) env x y) ∙ o) (subst AreWithin (numbers_or x y) w)) d) refl refl

  has_xor : (x y : Formula) → HasFormula x → HasFormula y → HasFormula (Xor x y)
  has_xor x y f g env o w b n k c e d =
      layer_fits sig env k b (Xor x y) (layer.Xor x y) e (outs-Xor x y)
      (bracket_has sig env k b (kind_word is_xor) (two_formulas x y) e (inr (inr (inr (inr (inr (inl refl)))))) ((refl, (refl, (refl, (refl, tt)))), refl)
      (pair_of env x y f g (sym (formula_in_xor sig (is_closed_sort sig) env x y) ∙ o) (subst AreWithin (numbers_xor x y) w)) d) refl refl

  has_iff : (x y : Formula) → HasFormula x → HasFormula y → HasFormula (Iff x y)
  has_iff x y f g env o w b n k c e d =
      layer_fits sig env k b (Iff x y) (layer.Iff x y) e (outs-Iff x y)
      (bracket_has sig env k b (kind_word is_iff) (two_formulas x y) e (inr (inr (inr (inr (inr (inr (inl refl))))))) ((refl, (refl, (refl, (refl, tt)))), refl)
      (pair_of env x y f g (sym (formula_in_iff sig (is_closed_sort sig) env x y) ∙ o) (subst AreWithin (numbers_iff x y) w)) d) refl refl

  has_all : (q : Quant) → HasBlock q → HasFormula (All q)
  has_all q h env o w b n k c e d =
      layer_fits sig env k b (All q) (layer.All q) e (outs-All q)
      (bracket_has sig env k b (kind_word is_all) (in_block q) e (inr (inr (inr (inr (inr (inr (inr (inl refl)))))))) ((refl, (refl, (refl, (refl, tt)))), refl)
      (h env (sym (formula_in_all sig (is_closed_sort sig) env q) ∙ o) (subst AreWithin (numbers_all q) w)) d) refl refl

  has_ex : (q : Quant) → HasBlock q → HasFormula (Ex q)
  has_ex q h env o w b n k c e d =
      layer_fits sig env k b (Ex q) (layer.Ex q) e (outs-Ex q)
      (bracket_has sig env k b (kind_word is_ex) (in_block q) e (inr (inr (inr (inr (inr (inr (inr (inr (inl refl))))))))) ((refl, (refl, (refl, tt))), refl)
      (h env (sym (formula_in_ex sig (is_closed_sort sig) env q) ∙ o) (subst AreWithin (numbers_ex q) w)) d) refl refl

  trigger_terms : (env : List Sort) (ts : List Term) → list_all (trigger_ok sig (is_closed_sort sig) env) ts ≡ true → AllByRecursion (λ t. AreWithin (term_numbers t)) ts → AllByRecursion (TriggerItem sig env) ts
  unfolding square
  trigger_terms env [] o w = tt
  trigger_terms env (t ∷ ts) o w =
      let p = and_parts (trigger_ok sig (is_closed_sort sig) env t) (list_all (trigger_ok sig (is_closed_sort sig) env) ts) o in
      ((trigger_terms_have sig lawful env t p.0 w.0 square square_parts 32 refl, trigger_terms_have sig lawful env t p.0 w.0 square square_parts 93 refl), trigger_terms env ts p.1 w.1)

  all_triggers : (env : List Sort) (ts : List (List Term)) → list_all (list_all (trigger_ok sig (is_closed_sort sig) env)) ts ≡ true
      → AllByRecursion (λ t. AreWithin (flat_map term_numbers t)) ts → AllByRecursion (AllByRecursion (TriggerItem sig env)) ts
  all_triggers env [] o w = tt
  all_triggers env (t ∷ ts) o w =
      let p = and_parts (list_all (trigger_ok sig (is_closed_sort sig) env) t) (list_all (list_all (trigger_ok sig (is_closed_sort sig) env)) ts) o in
      (trigger_terms env t p.0 (all_parts IsWithin term_numbers t w.0), all_triggers env ts p.1 w.1)

  has_block : (q : Quant) → HasFormula q.body → HasBlock q
  has_block q h env o w =
      let inside = env ++ q.sorts in
      let p = three_parts (list_all (is_closed_sort sig) q.sorts) (list_all (list_all (trigger_ok sig (is_closed_sort sig) inside)) q.triggers) (formula_in sig (is_closed_sort sig) inside q.body)
      (sym (quant_in_block sig (is_closed_sort sig) env q) ∙ o) in
      let v = subst AreWithin (numbers_block q) w in
      let ts = flat_map (flat_map term_numbers) q.triggers in
      let u = all_back IsWithin (flat_map sort_numbers q.sorts) (ts ++ formula_numbers q.body) v in
      block_has sig env q (sort_list_has sig env q.sorts (sort_items sig lawful q.sorts p.0 (all_front IsWithin (flat_map sort_numbers q.sorts) (ts ++ formula_numbers q.body) v)))
      (triggers_has sig inside q.triggers (all_triggers inside q.triggers p.1 (all_parts IsWithin (flat_map term_numbers) q.triggers (all_front IsWithin ts (formula_numbers q.body) u))))
      (in_bracket q.body h inside p.2 (all_back IsWithin ts (formula_numbers q.body) u))

  pub formulas_have : (f : Formula) → HasFormula f
  formulas_have = by_formulas HasFormula HasBlock has_true has_false has_eq has_lt has_le has_pred has_not has_and has_or has_xor has_iff has_all has_ex has_block
