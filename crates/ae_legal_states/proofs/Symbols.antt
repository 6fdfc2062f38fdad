-- An associative and commutative symbol of a lawful signature has a text.
use Rattle.std.specs.Prelude.{ℕ, Bool, true, false, not, nat_eq, List, [], ◌≡◌, length, slice_get, Option, Some}
use Rattle.std.specs.List.{AllByRecursion, flat_map, list_all}
use Rattle.std.proofs.Common.{refl, sym, ap, ◌∙◌, subst, inl, inr}
use Rattle.std.proofs.lemmas.Bool.{eqb-true, not-false}
use Rattle.std.proofs.lemmas.List.{nil_from_length}
use Rattle.ae_base.specs.Options.{or_else, ◌>>=◌}
use Rattle.ae_base.proofs.AllOf.{all_weaker}
use Rattle.ae_codes.specs.Codes.{both, one, mapped, words, is_bracket}
use Rattle.ae_codes.specs.Names.{Listed, Proper, names}
use Rattle.ae_codes.specs.Rows.{alone}
use Rattle.ae_core.specs.Signatures.{IsLawful}
use Rattle.ae_core.specs.Sorts.{is_closed_sort}
use Rattle.ae_core.specs.declared.problems.AcSymbol.{AcSymbol}
use Rattle.ae_core.specs.declared.problems.Nature.TheVariants.{Ac}
use Rattle.ae_core.specs.declared.problems.Signature.{Signature}
use Rattle.ae_core.specs.declared.problems.SymbolEntry.{SymbolEntry}
use Rattle.ae_core.specs.declared.terms.Head.{Head}
use Rattle.ae_core.specs.declared.terms.Head.TheVariants as head
use Rattle.ae_core.specs.declared.terms.Op.TheVariants as op
use Rattle.ae_core.specs.declared.terms.Sort.{Sort}
use Rattle.ae_legal_texts.specs.Numbers.{AreWithin, sort_numbers}
use Rattle.ae_legal_texts.proofs.Closing.{blank_apart}
use Rattle.ae_legal_texts.proofs.Heads.{Stands, named_is, word_listed, kept, all_kept, each_place, own_place}
use Rattle.ae_legal_texts.proofs.Lines.{sorts_has}
use Rattle.ae_legal_texts.proofs.Named.{IsNamed, symbol_named}
use Rattle.ae_legal_texts.proofs.Sorts.{proper_name}
use Rattle.ae_legal_texts.proofs.Worded.{one_symbol, symbol_name_is}
use Rattle.ae_prooftext.specs.SortTexts.{fine, blank, some_type}
use Rattle.ae_prooftext.specs.Words.{symbol_name, symbols, has_variables}
use Rattle.ae_rules.specs.Lines.{IsAc}
use Rattle.ae_stategrammar.specs.Choices.{fits_left, fits_right}
use Rattle.ae_stategrammar.specs.Sides.{is_ac_nature, is_ac, ac_symbols, plain_symbols, sorted_symbols, plain_table, sorted_table, plain_of, sorted_of, is_letter, star}
use Rattle.ae_stategrammar.specs.Sides.{star_begins, Plain, Sorted, plain, with_sorts, plain_begins, sorted_begins, others, others_begin, raw_symbol, symbol_to, named_from, symbol}
use Rattle.ae_legal_states.specs.Writable.{SortsFor, HasSorts}

module _ (sig : Signature) (lawful : IsLawful sig) where
  module _ (n : ℕ) (e : SymbolEntry) (at : slice_get sig.symbols n ≡ Some e) (nature : e.nature ≡ Ac) where
    abbrev Alone : ℕ → Type 0
    Alone a = symbol_name sig a ≡ symbol_name sig n → a ≡ n

    abbrev IsSymbol : ℕ → Type 0
    IsSymbol k = (d : SymbolEntry) × (slice_get sig.symbols k ≡ Some d)

    named_so : IsNamed (symbol_name sig n)
    named_so = subst IsNamed (sym (symbol_name_is sig n e at)) (symbol_named sig lawful n e at)

    proper_so : (table : List (List ℕ)) → Proper fine table blank (symbol_name sig n)
    proper_so table = proper_name (symbol_name sig n) named_so table blank blank_apart

    ac_so : is_ac sig n ≡ true
    ac_so = ap (λ (o : Option SymbolEntry). or_else (o >>= λ d. Some (is_ac_nature d.nature)) false) at ∙ ap is_ac_nature nature

    only_so : (a : ℕ) → IsSymbol a → Alone a
    only_so a d q = one_symbol sig lawful a n d.0 e d.1 at (sym (symbol_name_is sig a d.0 d.1) ∙ q ∙ symbol_name_is sig n e at)

    alone_so : AllByRecursion Alone (ac_symbols sig)
    alone_so = all_kept Alone (is_ac sig) (symbols sig) (all_weaker IsSymbol Alone only_so (symbols sig) (each_place sig.symbols))

    among_so : Stands (ac_symbols sig) n
    among_so = kept (is_ac sig) (symbols sig) n n (own_place sig.symbols n e at) ac_so

    -- ---- without type variables
    module _ (v : has_variables sig n ≡ false) where
      plain_so : Stands (plain_symbols sig) n
      plain_so = kept (λ n. not (has_variables sig n)) (ac_symbols sig) n among_so.0 among_so.1 (ap not v)

      plain_listed : Listed (plain_table sig) (symbol_name sig n)
      plain_listed = word_listed (symbol_name sig) 0 (plain_symbols sig) n plain_so.0 plain_so.1

      plain_back : plain_of sig (symbol_name sig n) ≡ n
      unfolding plain_of
      plain_back = named_is (symbol_name sig) 0 (plain_symbols sig) n plain_so.0 plain_so.1 (all_kept Alone (λ n. not (has_variables sig n)) (ac_symbols sig) alone_so)

      plain_fits : (s : Plain sig) → (plain sig s).Fits (symbol_name sig n, 32)
      unfolding names words
      plain_fits s = record { listed = plain_listed; clean = proper_so (plain_table sig); closed = refl }

      pub plain_has : (symbol sig).Fits (record { head = head.Symbol n; sorts = [] })
      unfolding symbol mapped
      plain_has = (
        subst (λ b. (raw_symbol sig).Fits (named_from sig b n [])) (sym v)
            (fits_left is_letter (plain sig) (others sig) (plain_begins sig) (others_begin sig) (some_type (plain_table sig)) (symbol_name sig n, 32) (symbol_name sig n, plain_listed, proper_so (plain_table sig)) plain_fits),
        ap (λ b. symbol_to sig (named_from sig b n [])) v ∙ ap (λ k. record { head = head.Symbol k; sorts = [] }) plain_back,
      )

    -- ---- with them
    module _ (v : has_variables sig n ≡ true) (ss : List Sort) (closed : list_all (is_closed_sort sig) ss ≡ true) (within : AreWithin (flat_map sort_numbers ss)) where
      sorted_so : Stands (sorted_symbols sig) n
      sorted_so = kept (has_variables sig) (ac_symbols sig) n among_so.0 among_so.1 v

      sorted_listed : Listed (sorted_table sig) (symbol_name sig n)
      sorted_listed = word_listed (symbol_name sig) 0 (sorted_symbols sig) n sorted_so.0 sorted_so.1

      sorted_back : sorted_of sig (symbol_name sig n) ≡ n
      unfolding sorted_of
      sorted_back = named_is (symbol_name sig) 0 (sorted_symbols sig) n sorted_so.0 sorted_so.1 (all_kept Alone (has_variables sig) (ac_symbols sig) alone_so)

      sorted_fits : (s : Sorted sig) → (with_sorts sig s).Fits (tt, ((symbol_name sig n, 32), (tt, (ss, tt))))
      unfolding both alone names words
      sorted_fits s = (refl, (record { listed = sorted_listed; clean = proper_so (sorted_table sig); closed = refl }, (refl, (sorts_has sig lawful ss closed within, refl))))

      pub sorted_has : (symbol sig).Fits (record { head = head.Symbol n; sorts = ss })
      unfolding symbol mapped
      sorted_has = (
        subst (λ b. (raw_symbol sig).Fits (named_from sig b n ss)) (sym v)
            (fits_right is_letter (plain sig) (others sig) (plain_begins sig) (others_begin sig) (some_type (plain_table sig)) (inl (tt, ((symbol_name sig n, 32), (tt, (ss, tt)))))
            (fits_left is_bracket (with_sorts sig) star (sorted_begins sig) star_begins (some_type (sorted_table sig)) (tt, ((symbol_name sig n, 32), (tt, (ss, tt))))
            (symbol_name sig n, sorted_listed, proper_so (sorted_table sig)) sorted_fits)),
        ap (λ b. symbol_to sig (named_from sig b n ss)) v ∙ ap (λ k. record { head = head.Symbol k; sorts = ss }) sorted_back,
      )

  -- ---- a product of numbers
  int_has : (symbol sig).Fits (record { head = head.Int op.Mul; sorts = [] })
  unfolding symbol mapped both one alone words
  int_has = (
    fits_right is_letter (plain sig) (others sig) (plain_begins sig) (others_begin sig) (some_type (plain_table sig)) (inr (tt, inl tt))
        (fits_right is_bracket (with_sorts sig) star (sorted_begins sig) star_begins (some_type (sorted_table sig)) (tt, inl tt) (refl, refl)),
    refl,
  )

  real_has : (symbol sig).Fits (record { head = head.Real op.Mul; sorts = [] })
  unfolding symbol mapped both one alone words
  real_has = (
    fits_right is_letter (plain sig) (others sig) (plain_begins sig) (others_begin sig) (some_type (plain_table sig)) (inr (tt, inr tt))
        (fits_right is_bracket (with_sorts sig) star (sorted_begins sig) star_begins (some_type (sorted_table sig)) (tt, inr tt) (refl, refl)),
    refl,
  )

  -- ---- any of them
  abbrev SymbolHas : Head → List Sort → Type 0
  SymbolHas h ss = (symbol sig).Fits (record { head = h; sorts = ss })

  variables_of : (n : ℕ) (e : SymbolEntry) → slice_get sig.symbols n ≡ Some e → has_variables sig n ≡ not (nat_eq e.vars 0)
  variables_of n e g = ap (λ (o : Option SymbolEntry). or_else (o >>= λ e. Some (not (nat_eq e.vars 0))) false) g

  none_for : (vars : ℕ) (ss : List Sort) → not (nat_eq vars 0) ≡ false → length ss ≡ vars → ss ≡ []
  none_for vars ss q l = nil_from_length ss (l ∙ eqb-true vars 0 (not-false (nat_eq vars 0) q))

  by_variables : (b : Bool) (n : ℕ) (ss : List Sort) (e d : SymbolEntry) → has_variables sig n ≡ b → slice_get sig.symbols n ≡ Some e → e.nature ≡ Ac → slice_get sig.symbols n ≡ Some d → length ss ≡ d.vars
      → list_all (is_closed_sort sig) ss ≡ true → AreWithin (flat_map sort_numbers ss) → SymbolHas (head.Symbol n) ss
  by_variables true n ss e d v g a h l c w = sorted_has n e g a v ss c w
  by_variables false n ss e d v g a h l c w = subst (SymbolHas (head.Symbol n)) (sym (none_for d.vars ss (sym (variables_of n d h) ∙ v) l)) (plain_has n e g a v)

  by_head : (h : Head) (ss : List Sort) → IsAc sig h → SortsFor sig h ss → list_all (is_closed_sort sig) ss ≡ true → AreWithin (flat_map sort_numbers ss) → SymbolHas h ss
  by_head (head.Symbol n) ss a f c w = by_variables (has_variables sig n) n ss a.0 f.0 refl a.1 a.2 f.1 f.2 c w
  by_head (head.Int op.Mul) ss a f c w = subst (SymbolHas (head.Int op.Mul)) (sym f) int_has
  by_head (head.Real op.Mul) ss a f c w = subst (SymbolHas (head.Real op.Mul)) (sym f) real_has
  by_head (head.Int op.Add) ss a f c w = absurd a
  by_head (head.Int op.Sub) ss a f c w = absurd a
  by_head (head.Int op.Neg) ss a f c w = absurd a
  by_head (head.Int op.Div) ss a f c w = absurd a
  by_head (head.Int op.Mod) ss a f c w = absurd a
  by_head (head.Real op.Add) ss a f c w = absurd a
  by_head (head.Real op.Sub) ss a f c w = absurd a
  by_head (head.Real op.Neg) ss a f c w = absurd a
  by_head (head.Real op.Div) ss a f c w = absurd a
  by_head (head.Real op.Mod) ss a f c w = absurd a
  by_head (head.Build k) ss a f c w = absurd a
  by_head (head.Field k p) ss a f c w = absurd a
  by_head head.True ss a f c w = absurd a
  by_head head.False ss a f c w = absurd a
  by_head head.Void ss a f c w = absurd a

  pub symbols_fit : (s : AcSymbol) → IsAc sig s.head → HasSorts sig s → (symbol sig).Fits s
  symbols_fit s a h = by_head s.head s.sorts a h.each h.closed h.numbers
