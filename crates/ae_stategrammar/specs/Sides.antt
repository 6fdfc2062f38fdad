-- Rules and pairs: an associative and commutative symbol, `u`, `(u [sorts])`, `*int` or `*real`, and two multisets of names, each written rising.
use Rattle.std.specs.Prelude.{ℕ, ◌⊎◌, not, Bool, true, false, nat_eq, nat_lt, List, [], ◌∷◌, ◌++◌, ◌≡◌, map, decimal, slice_get, Some}
use Rattle.std.specs.List.{filter}
use mathlib.Core.Path.{refl, sym, ap, ◌∙◌}
use mathlib.Core.Logic.{inl, inr}
use mathlib.Core.List.{append_assoc}
use Rattle.std.proofs.lemmas.Bool.{eqb-true, not-true, lt-ltb}
use Rattle.ae_base.specs.Options.{or_else, ◌>>=◌}
use Rattle.ae_codes.specs.Codes.{Code, Begins, both, one, mapped, words, is_bracket}
use Rattle.ae_codes.specs.Listings.{listed_text}
use Rattle.ae_codes.specs.Names.{WordEnd, names}
use Rattle.ae_codes.specs.Rising.{rising_spelled}
use Rattle.ae_codes.specs.Rows.{alone}
use Rattle.ae_core.specs.declared.problems.AcSymbol.{AcSymbol}
use Rattle.ae_core.specs.declared.problems.Nature.{Nature}
use Rattle.ae_core.specs.declared.problems.Nature.TheVariants as nature
use Rattle.ae_core.specs.declared.problems.Signature.{Signature}
use Rattle.ae_core.specs.declared.terms.Head.{Head}
use Rattle.ae_core.specs.declared.terms.Head.TheVariants as head
use Rattle.ae_core.specs.declared.terms.Op.TheVariants as op
use Rattle.ae_core.specs.declared.terms.Sort.{Sort}
use Rattle.ae_prooftext.specs.Clauses.{sorts, sorts_spelled}
use Rattle.ae_prooftext.specs.SortTexts.{fine, fine_word, blank, blank_end, some_type, SomeType}
use Rattle.ae_prooftext.specs.Texts.{sort_text}
use Rattle.ae_prooftext.specs.Words.{type_names, head_word, takes_sorts, symbol_name, has_variables, symbols, named}
use Rattle.ae_prooftext.specs.WordLaws.{named_back, named_passes, filtered_pass}
use Rattle.ae_stategrammar.specs.Choices.{if_some, left_fits, right_fits}
use Rattle.ae_stategrammar.specs.Multisets.{same_number, multiset}
use Rattle.ae_stategrammar.specs.StateTexts.{symbol_text, sides_text, sorted_symbol}

-- ---- which symbols there are
abbrev pub is_ac_nature : Nature → Bool
is_ac_nature nature.Ac = true
is_ac_nature _ = false

abbrev pub is_ac : Signature → ℕ → Bool
is_ac sig n = or_else (slice_get sig.symbols n >>= λ e. Some (is_ac_nature e.nature)) false

abbrev pub ac_symbols : Signature → List ℕ
ac_symbols sig = filter (is_ac sig) (symbols sig)

-- those that stand alone, and those with sorts
abbrev pub plain_symbols : Signature → List ℕ
plain_symbols sig = filter (λ n. not (has_variables sig n)) (ac_symbols sig)

abbrev pub sorted_symbols : Signature → List ℕ
sorted_symbols sig = filter (has_variables sig) (ac_symbols sig)

abbrev pub plain_table : Signature → List (List ℕ)
plain_table sig = map (symbol_name sig) (plain_symbols sig)

abbrev pub sorted_table : Signature → List (List ℕ)
sorted_table sig = map (symbol_name sig) (sorted_symbols sig)

-- which symbol a word names: the first that has it
unfoldable pub plain_of : Signature → List ℕ → ℕ
plain_of sig w = named (symbol_name sig) 0 (plain_symbols sig) w

unfoldable pub sorted_of : Signature → List ℕ → ℕ
sorted_of sig w = named (symbol_name sig) 0 (sorted_symbols sig) w

-- ---- the code of a symbol, with the blank behind it
abbrev pub is_letter : ℕ → Bool
is_letter x = nat_lt 64 x

abbrev pub is_i : ℕ → Bool
is_i x = nat_eq x 105

abbrev pub Star : Type 0
Star = (u : Unit {0}) × (Unit {0} ⊎ Unit {0})

pub int_begins : Begins (alone {A = Unit {0}} tt (105 ∷ 110 ∷ 116 ∷ 32 ∷ [])) is_i true
unfolding alone words
int_begins a f = (105, _, refl, refl)

pub real_begins : Begins (alone {A = Unit {0}} tt (114 ∷ 101 ∷ 97 ∷ 108 ∷ 32 ∷ [])) is_i false
unfolding alone words
real_begins a f = (114, _, refl, refl)

abbrev pub star : Code Star
star = both (alone {A = Unit {0}} tt (42 ∷ [])) (λ u. one is_i (alone tt (105 ∷ 110 ∷ 116 ∷ 32 ∷ [])) (alone tt (114 ∷ 101 ∷ 97 ∷ 108 ∷ 32 ∷ [])) int_begins real_begins)

pub star_begins : Begins star is_bracket false
unfolding both alone words
star_begins a f = (42, _, refl, refl)

module _ (sig : Signature) where
  abbrev pub Plain : Type 0
  Plain = SomeType (plain_table sig)

  abbrev pub Sorted : Type 0
  Sorted = SomeType (sorted_table sig)

  abbrev pub plain : Plain → Code WordEnd
  plain s = names fine (plain_table sig) blank blank_end s

  abbrev pub WithSorts : Type 0
  WithSorts = (u : Unit {0}) × ((w : WordEnd) × ((v : Unit {0}) × ((ss : List Sort) × Unit {0})))

  abbrev pub with_sorts : Sorted → Code WithSorts
  with_sorts s = both (alone {A = Unit {0}} tt (40 ∷ [])) (λ u. both (names fine (sorted_table sig) blank blank_end s) (λ w. both (alone {A = Unit {0}} tt (91 ∷ [])) (λ v. both (sorts sig) (λ ss. alone {A = Unit {0}} tt (41 ∷ 32 ∷ [])))))

  pub plain_begins : (s : Plain) → Begins (plain s) is_letter true
  unfolding names words
  plain_begins s v f = let w = fine_word v.0 v.1 f.clean.1 in (w.0, w.1, w.2, lt-ltb 64 w.0 w.3)

  pub sorted_begins : (s : Sorted) → Begins (with_sorts s) is_bracket true
  unfolding both alone words
  sorted_begins s v f = (40, _, refl, refl)

  abbrev pub others : Code (WithSorts ⊎ Star)
  others = if_some is_bracket with_sorts star sorted_begins star_begins (some_type (sorted_table sig))

  pub others_begin : Begins others is_letter false
  unfolding both alone words
  others_begin (inl a) f = let l = left_fits is_bracket with_sorts star sorted_begins star_begins (some_type (sorted_table sig)) a f in (40, _, l.2, refl)
  others_begin (inr a) f = let r = right_fits is_bracket with_sorts star sorted_begins star_begins (some_type (sorted_table sig)) a f in (42, _, r.1, refl)

  abbrev pub RawSymbol : Type 0
  RawSymbol = WordEnd ⊎ (WithSorts ⊎ Star)

  abbrev pub raw_symbol : Code RawSymbol
  raw_symbol = if_some is_letter plain others plain_begins others_begin (some_type (plain_table sig))

  abbrev pub symbol_to : RawSymbol → AcSymbol
  symbol_to (inl w) = record { head = head.Symbol (plain_of sig w.0); sorts = [] }
  symbol_to (inr (inl v)) = record { head = head.Symbol (sorted_of sig v.1.0.0); sorts = v.1.1.1.0 }
  symbol_to (inr (inr (u, inl v))) = record { head = head.Int op.Mul; sorts = [] }
  symbol_to (inr (inr (u, inr v))) = record { head = head.Real op.Mul; sorts = [] }

  abbrev pub named_from : Bool → ℕ → List Sort → RawSymbol
  named_from false n ss = inl (symbol_name sig n, 32)
  named_from true n ss = inr (inl (tt, ((symbol_name sig n, 32), (tt, (ss, tt)))))

  abbrev pub symbol_from : Head → List Sort → RawSymbol
  symbol_from (head.Symbol n) ss = named_from (has_variables sig n) n ss
  symbol_from (head.Real o) ss = inr (inr (tt, inr tt))
  symbol_from _ ss = inr (inr (tt, inl tt))

  abbrev pub from_symbol : AcSymbol → RawSymbol
  from_symbol s = symbol_from s.head s.sorts

  plain_back : (s : Plain) (w : WordEnd) → (plain s).Fits w → (symbol_name sig (plain_of sig w.0) ≡ w.0) × (has_variables sig (plain_of sig w.0) ≡ false) × (w.1 ≡ 32)
  unfolding names words plain_of
  plain_back s w f = (
    named_back fine (plain_table sig) blank (symbol_name sig) 0 (plain_symbols sig) w.0 f.listed,
    not-true _ (named_passes fine (plain_table sig) blank (symbol_name sig) 0 (λ n. not (has_variables sig n)) (plain_symbols sig) w.0
        (filtered_pass fine (plain_table sig) blank (symbol_name sig) 0 (λ n. not (has_variables sig n)) (ac_symbols sig)) f.listed),
    eqb-true w.1 32 f.closed,
  )

  sorted_back : (s : Sorted) (v : WithSorts) → (with_sorts s).Fits v → (symbol_name sig (sorted_of sig v.1.0.0) ≡ v.1.0.0) × (has_variables sig (sorted_of sig v.1.0.0) ≡ true) × (v.1.0.1 ≡ 32) × (sorts sig).Fits v.1.1.1.0
  unfolding both names words alone sorted_of
  sorted_back s v f = (
    named_back fine (sorted_table sig) blank (symbol_name sig) 0 (sorted_symbols sig) v.1.0.0 f.1.0.listed,
    named_passes fine (sorted_table sig) blank (symbol_name sig) 0 (has_variables sig) (sorted_symbols sig) v.1.0.0
        (filtered_pass fine (sorted_table sig) blank (symbol_name sig) 0 (has_variables sig) (ac_symbols sig)) f.1.0.listed,
    eqb-true v.1.0.1 32 f.1.0.closed,
    f.1.1.1.0,
  )

  -- what fits, by its kind
  plain_fact : (w : WordEnd) → raw_symbol.Fits (inl w) → (s : Plain) × (plain s).Fits w × (raw_symbol.text (inl w) ≡ (plain s).text w)
  plain_fact w f = left_fits is_letter plain others plain_begins others_begin (some_type (plain_table sig)) w f

  other_fact : (v : WithSorts ⊎ Star) → raw_symbol.Fits (inr v) → others.Fits v × (raw_symbol.text (inr v) ≡ others.text v)
  other_fact v f = right_fits is_letter plain others plain_begins others_begin (some_type (plain_table sig)) v f

  sorted_fact : (v : WithSorts) → raw_symbol.Fits (inr (inl v)) → (s : Sorted) × (with_sorts s).Fits v × (raw_symbol.text (inr (inl v)) ≡ (with_sorts s).text v)
  sorted_fact v f =
      let o = other_fact (inl v) f in
      let l = left_fits is_bracket with_sorts star sorted_begins star_begins (some_type (sorted_table sig)) v o.0 in (l.0, l.1, o.1 ∙ l.2)

  star_fact : (v : Star) → raw_symbol.Fits (inr (inr v)) → star.Fits v × (raw_symbol.text (inr (inr v)) ≡ star.text v)
  star_fact v f =
      let o = other_fact (inr v) f in
      let r = right_fits is_bracket with_sorts star sorted_begins star_begins (some_type (sorted_table sig)) v o.0 in (r.0, o.1 ∙ r.1)

  pub symbol_back : (v : RawSymbol) → raw_symbol.Fits v → from_symbol (symbol_to v) ≡ v
  symbol_back (inl w) f =
      let s = plain_fact w f in
      let b = plain_back s.0 w s.1 in
      ap (λ t. named_from t (plain_of sig w.0) []) b.1 ∙ (λ i. inl (b.0 i, sym b.2 i))
  symbol_back (inr (inl v)) f =
      let s = sorted_fact v f in
      let b = sorted_back s.0 v s.1 in
      ap (λ t. named_from t (sorted_of sig v.1.0.0) v.1.1.1.0) b.1 ∙ (λ i. inr (inl (tt, ((b.0 i, sym b.2 i), (tt, (v.1.1.1.0, tt))))))
  symbol_back (inr (inr (u, inl v))) f = refl
  symbol_back (inr (inr (u, inr v))) f = refl

  unfoldable pub symbol : Code AcSymbol
  symbol = mapped symbol_to from_symbol raw_symbol symbol_back

  -- ---- its text
  abbrev sorted_text : List Sort → List ℕ
  sorted_text ss = listed_text 93 (map (sort_text (type_names sig)) ss)

  named_text : (n : ℕ) (ss : List Sort) (b : Bool) → has_variables sig n ≡ b → symbol_text sig (record { head = head.Symbol n; sorts = ss }) ≡ sorted_symbol sig b (head.Symbol n) ss
  unfolding symbol_text takes_sorts
  named_text n ss b e = ap (λ t. sorted_symbol sig t (head.Symbol n) ss) e

  plain_spelled : (s : Plain) (w : WordEnd) → (plain s).Fits w → (plain s).text w ≡ symbol_text sig (symbol_to (inl w)) ++ 32 ∷ []
  unfolding names words head_word
  plain_spelled s w f =
      let b = plain_back s w f in
      ap (λ e. w.0 ++ e ∷ []) b.2 ∙ ap (λ z. z ++ 32 ∷ []) (sym b.0 ∙ sym (named_text (plain_of sig w.0) [] false b.1))

  regroup : (w l : List ℕ) → 40 ∷ ((w ++ 32 ∷ []) ++ (91 ∷ (l ++ 41 ∷ 32 ∷ []))) ≡ (40 ∷ w ++ 32 ∷ 91 ∷ []) ++ l ++ 41 ∷ [] ++ 32 ∷ []
  regroup w l =
      ap (λ z. 40 ∷ z) (append_assoc w (32 ∷ []) (91 ∷ (l ++ 41 ∷ 32 ∷ [])) ∙ sym (append_assoc w (32 ∷ 91 ∷ []) (l ++ 41 ∷ 32 ∷ [])))
      ∙ ap (λ z. (40 ∷ w ++ 32 ∷ 91 ∷ []) ++ z) (sym (append_assoc l (41 ∷ []) (32 ∷ [])))
      ∙ sym (append_assoc (40 ∷ w ++ 32 ∷ 91 ∷ []) (l ++ 41 ∷ []) (32 ∷ []))
      ∙ ap (λ z. z ++ 32 ∷ []) (sym (append_assoc (40 ∷ w ++ 32 ∷ 91 ∷ []) l (41 ∷ [])))

  sorted_spelled : (s : Sorted) (v : WithSorts) → (with_sorts s).Fits v → (with_sorts s).text v ≡ symbol_text sig (symbol_to (inr (inl v))) ++ 32 ∷ []
  unfolding both names words alone head_word
  sorted_spelled s v f =
      let b = sorted_back s v f in
      ap (λ e. 40 ∷ ((v.1.0.0 ++ e ∷ []) ++ (91 ∷ ((sorts sig).text v.1.1.1.0 ++ 41 ∷ 32 ∷ [])))) b.2
      ∙ ap (λ z. 40 ∷ ((v.1.0.0 ++ 32 ∷ []) ++ (91 ∷ (z ++ 41 ∷ 32 ∷ [])))) (sorts_spelled sig v.1.1.1.0 b.3)
      ∙ ap (λ z. 40 ∷ ((z ++ 32 ∷ []) ++ (91 ∷ (sorted_text v.1.1.1.0 ++ 41 ∷ 32 ∷ [])))) (sym b.0)
      ∙ regroup (symbol_name sig (sorted_of sig v.1.0.0)) (sorted_text v.1.1.1.0)
      ∙ ap (λ z. z ++ 32 ∷ []) (sym (named_text (sorted_of sig v.1.0.0) v.1.1.1.0 true b.1))

  star_spelled : (v : Star) → star.text v ≡ symbol_text sig (symbol_to (inr (inr v))) ++ 32 ∷ []
  unfolding both one alone words symbol_text
  star_spelled (u, inl v) = refl
  star_spelled (u, inr v) = refl

  raw_spelled : (v : RawSymbol) → raw_symbol.Fits v → raw_symbol.text v ≡ symbol_text sig (symbol_to v) ++ 32 ∷ []
  raw_spelled (inl w) f = let s = plain_fact w f in s.2 ∙ plain_spelled s.0 w s.1
  raw_spelled (inr (inl v)) f = let s = sorted_fact v f in s.2 ∙ sorted_spelled s.0 v s.1
  raw_spelled (inr (inr v)) f = let s = star_fact v f in s.1 ∙ star_spelled v

  pub symbol_spelled : (s : AcSymbol) → symbol.Fits s → symbol.text s ≡ symbol_text sig s ++ 32 ∷ []
  unfolding symbol mapped
  symbol_spelled s f = raw_spelled (from_symbol s) f.0 ∙ ap (λ z. symbol_text sig z ++ 32 ∷ []) f.1

  -- ---- both sides and the end of the line
  abbrev pub SidesOf : Type 0
  SidesOf = (s : AcSymbol) × ((left : List ℕ) × List ℕ)

  abbrev pub RawSides : Type 0
  RawSides = (s : AcSymbol) × ((u : Unit {0}) × ((left : List ℕ) × ((v : Unit {0}) × ((right : List ℕ) × Unit {0}))))

  abbrev pub raw_sides : Code RawSides
  raw_sides =
      both symbol (λ s. both (alone {A = Unit {0}} tt (91 ∷ [])) (λ u. both multiset (λ left. both (alone {A = Unit {0}} tt (32 ∷ 91 ∷ [])) (λ v. both multiset (λ right. alone {A = Unit {0}} tt (10 ∷ []))))))

  abbrev pub sides_to : RawSides → SidesOf
  sides_to v = (v.0, (v.1.1.0, v.1.1.1.1.0))

  abbrev pub sides_from : SidesOf → RawSides
  sides_from v = (v.0, (tt, (v.1.0, (tt, (v.1.1, tt)))))

  unfoldable pub sides : Code SidesOf
  sides = mapped sides_to sides_from raw_sides (λ v f. refl)

  abbrev listed_names : List ℕ → List ℕ
  listed_names ns = listed_text 93 (map decimal ns)

  regroup_sides : (s l r : List ℕ) → (s ++ 32 ∷ []) ++ (91 ∷ (l ++ (32 ∷ 91 ∷ (r ++ 10 ∷ [])))) ≡ s ++ 32 ∷ [] ++ (91 ∷ l) ++ 32 ∷ [] ++ (91 ∷ r) ++ 10 ∷ []
  regroup_sides s l r =
      sym (append_assoc (s ++ 32 ∷ []) (91 ∷ l) (32 ∷ 91 ∷ (r ++ 10 ∷ [])))
      ∙ sym (append_assoc (s ++ 32 ∷ [] ++ (91 ∷ l)) (32 ∷ []) (91 ∷ (r ++ 10 ∷ [])))
      ∙ sym (append_assoc (s ++ 32 ∷ [] ++ (91 ∷ l) ++ 32 ∷ []) (91 ∷ r) (10 ∷ []))

  pub sides_spelled : (v : SidesOf) → sides.Fits v → sides.text v ≡ sides_text sig v.0 v.1.0 v.1.1
  unfolding sides mapped both alone words sides_text
  sides_spelled v f =
      ap (λ z. z ++ (91 ∷ (multiset.text v.1.0 ++ (32 ∷ 91 ∷ (multiset.text v.1.1 ++ 10 ∷ []))))) (symbol_spelled v.0 f.0.0)
      ∙ ap (λ z. (symbol_text sig v.0 ++ 32 ∷ []) ++ (91 ∷ (z ++ (32 ∷ 91 ∷ (multiset.text v.1.1 ++ 10 ∷ []))))) (rising_spelled same_number v.1.0 f.0.1.1.0)
      ∙ ap (λ z. (symbol_text sig v.0 ++ 32 ∷ []) ++ (91 ∷ (listed_names v.1.0 ++ (32 ∷ 91 ∷ (z ++ 10 ∷ []))))) (rising_spelled same_number v.1.1 f.0.1.1.1.1.0)
      ∙ regroup_sides (symbol_text sig v.0) (listed_names v.1.0) (listed_names v.1.1)
