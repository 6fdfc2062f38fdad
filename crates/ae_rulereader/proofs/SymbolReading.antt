-- Symbols, sides and rules as the grammar reads them.
use Rattle.std.proofs.Common.{ℕ, ◌⊎◌, Bool, true, false, ◌&&◌, cond, nat_eq, nat_lt, List, [], ◌∷◌, ◌≡◌, get_or, refl, sym, ap, ◌∙◌}
use mathlib.Core.Logic.{inl, inr}
use Rattle.std.proofs.lemmas.Bool.{eqb-true}
use Rattle.ae_base.specs.Decided.{decided}
use Rattle.ae_codes.specs.Closers.{by_blank, closers, square}
use Rattle.ae_codes.specs.Codes.{Read, got, stops, wide, Code, Begins, both, one, is_bracket}
use Rattle.ae_codes.specs.Listings.{listing_code, no_shape, no_sure, no_codes, no_inner, one_item, one_shaped, one_begins}
use Rattle.ae_codes.specs.Names.{names}
use Rattle.ae_codes.specs.Plans.{known}
use Rattle.ae_codes.specs.Rows.{alone}
use Rattle.ae_core.specs.declared.problems.AcSymbol.{AcSymbol}
use Rattle.ae_core.specs.declared.problems.Signature.{Signature}
use Rattle.ae_core.specs.declared.terms.Head.TheVariants as head
use Rattle.ae_core.specs.declared.terms.Op.TheVariants as op
use Rattle.ae_core.specs.declared.terms.Sort.{Sort, Int}
use Rattle.ae_prooftext.specs.Clauses.{sorts}
use Rattle.ae_prooftext.specs.SortTexts.{SomeType, some_type, sort_is_spelled, fine, blank, blank_end}
use Rattle.ae_prooftext.specs.TermTexts.{above_square, sort_in, sorts_begin, sorts_shaped}
use Rattle.ae_prooftext.specs.Texts.{sort_text}
use Rattle.ae_prooftext.specs.Words.{symbol_name, type_names}
use Rattle.ae_readers.specs.Readers.{after_read, fixed_read, named_read, place_of}
use Rattle.ae_readers.proofs.RowReading.{listing_is}
use Rattle.ae_readers.proofs.Combinators.{after_after, after_same, both_is, mapped_is, one_is, one_none, on_side}
use Rattle.ae_readers.proofs.NameReading.{name_is}
use Rattle.ae_readers.proofs.WordReading.{alone_is}
use Rattle.ae_rulereader.specs.Symbols.{product_by, product_read, star_read, plain_read, sorted_read, symbol_by, symbol_read, sides_read, rule_read}
use Rattle.ae_stategrammar.specs.Choices.{if_some, right_of}
use Rattle.ae_stategrammar.specs.Multisets.{multiset}
use Rattle.ae_stategrammar.specs.Sides as sides
use Rattle.ae_stategrammar.specs.Sides.{plain_symbols, plain_table, sorted_symbols, sorted_table, plain_of, sorted_of, is_letter, is_i, Star, star, int_begins, real_begins, star_begins, Plain, Sorted}
use Rattle.ae_stategrammar.specs.Sides.{WithSorts, with_sorts, plain_begins, sorted_begins, others, others_begin, RawSymbol, raw_symbol, symbol_to, from_symbol, symbol_back, symbol, SidesOf, raw_sides, sides_to, sides_from}
use Rattle.ae_stategrammar.specs.States.{raw_rule, rule_to, rule_from, rule}
use Rattle.ae_termreader.proofs.SortReading.{both_then, mapped_then, byte_then, blank_is, some_has, none_has}
use Rattle.ae_termreader.proofs.TermReading.{named_at, same_list}
use Rattle.ae_termreader.specs.Sorts.{has_name, sorts_read, square_sorts}

-- a word that stands there
word_then : {C : Type 0} (w bytes : List ℕ) (F : Unit {0} → List ℕ → Read C) → after_read ((alone {A = Unit {0}} tt w).read bytes) F ≡ after_read (fixed_read w bytes) (λ u r. F tt r)
word_then w bytes F = ap (λ r. after_read r F) (alone_is tt w bytes) ∙ after_after (fixed_read w bytes) (λ u rest. got tt rest) F

-- ---- one of two codes, where the first may be missing
module _ {S A B C : Type 0} (test : ℕ → Bool) (p : S → Code A) (q : Code B) (ps : (s : S) → Begins (p s) test true) (qs : Begins q test false) (F : A ⊎ B → List ℕ → Read C) where
  some_side : (d : Dec S) (x : ℕ) (xs : List ℕ) (r : Read C) → ((s : S) → test x ≡ true → after_read ((p s).read (x ∷ xs)) (λ a rest. F (inl a) rest) ≡ r)
      → after_read ((if_some test p q ps qs d).read (x ∷ xs)) F ≡ cond (decided d && test x) r (after_read (q.read (x ∷ xs)) (λ b rest. F (inr b) rest))
  unfolding if_some
  some_side (yes s) x xs r h = ap (λ z. after_read z F) (one_is test (p s) q (ps s) qs x xs) ∙ go (test x) refl
    where
      go : (b : Bool) → test x ≡ b → after_read (on_side b ((p s).read (x ∷ xs)) (q.read (x ∷ xs))) F ≡ cond b r (after_read (q.read (x ∷ xs)) (λ b rest. F (inr b) rest))
      go true e = after_after ((p s).read (x ∷ xs)) (λ a rest. got (inl a) rest) F ∙ h s e
      go false e = after_after (q.read (x ∷ xs)) (λ b rest. got (inr b) rest) F
  some_side (no n) x xs r h = mapped_then inr (right_of test p q ps qs) q (λ b f. refl) (x ∷ xs) F

  some_none : (d : Dec S) → q.read [] ≡ stops [] → after_read ((if_some test p q ps qs d).read []) F ≡ stops []
  unfolding if_some
  some_none (yes s) e = ap (λ z. after_read z F) (one_none test (p s) q (ps s) qs)
  some_none (no n) e = mapped_then inr (right_of test p q ps qs) q (λ b f. refl) [] F ∙ ap (λ z. after_read z (λ b rest. F (inr b) rest)) e

module _ {S A B : Type 0} (test : ℕ → Bool) (p : S → Code A) (q : Code B) (ps : (s : S) → Begins (p s) test true) (qs : Begins q test false) where
  nothing_read : (d : Dec S) → q.read [] ≡ stops [] → (if_some test p q ps qs d).read [] ≡ stops []
  unfolding if_some
  nothing_read (yes s) e = one_none test (p s) q (ps s) qs
  nothing_read (no n) e = mapped_is inr (right_of test p q ps qs) q (λ b f. refl) [] ∙ ap (λ z. after_read z (λ b rest. got (inr b) rest)) e

-- ---- products
abbrev star_made : {C : Type 0} (F : AcSymbol → List ℕ → Read C) → Star → List ℕ → Read C
star_made F (u, inl v) rest = F (record { head = head.Int op.Mul; sorts = [] }) rest
star_made F (u, inr v) rest = F (record { head = head.Real op.Mul; sorts = [] }) rest

module _ {C : Type 0} (F : AcSymbol → List ℕ → Read C) where
  abbrev int_word : Code (Unit {0})
  int_word = alone tt (105 ∷ 110 ∷ 116 ∷ 32 ∷ [])

  abbrev real_word : Code (Unit {0})
  real_word = alone tt (114 ∷ 101 ∷ 97 ∷ 108 ∷ 32 ∷ [])

  abbrev star_to : Star → List ℕ → Read C
  star_to v rest = star_made F v rest

  abbrev either : Code (Unit {0} ⊎ Unit {0})
  either = one is_i (alone tt (105 ∷ 110 ∷ 116 ∷ 32 ∷ [])) (alone tt (114 ∷ 101 ∷ 97 ∷ 108 ∷ 32 ∷ [])) int_begins real_begins

  product_side : (b : Bool) (bytes : List ℕ) → after_read (on_side b (int_word.read bytes) (real_word.read bytes)) (λ v rest. star_to (tt, v) rest)
      ≡ after_read (product_by b bytes) F
  product_side true bytes =
      after_after ((alone {A = Unit {0}} tt (105 ∷ 110 ∷ 116 ∷ 32 ∷ [])).read bytes) _ _
      ∙ word_then (105 ∷ 110 ∷ 116 ∷ 32 ∷ []) bytes (λ u rest. F (record { head = head.Int op.Mul; sorts = [] }) rest)
      ∙ sym (after_after (fixed_read (105 ∷ 110 ∷ 116 ∷ 32 ∷ []) bytes) _ F)
  product_side false bytes =
      after_after ((alone {A = Unit {0}} tt (114 ∷ 101 ∷ 97 ∷ 108 ∷ 32 ∷ [])).read bytes) _ _
      ∙ word_then (114 ∷ 101 ∷ 97 ∷ 108 ∷ 32 ∷ []) bytes (λ u rest. F (record { head = head.Real op.Mul; sorts = [] }) rest)
      ∙ sym (after_after (fixed_read (114 ∷ 101 ∷ 97 ∷ 108 ∷ 32 ∷ []) bytes) _ F)

  product_is : (bytes : List ℕ) → after_read (either.read bytes) (λ v rest. star_to (tt, v) rest) ≡ after_read (product_read bytes) F
  product_is [] = ap (λ r. after_read r (λ v rest. star_to (tt, v) rest)) (one_none is_i (alone tt (105 ∷ 110 ∷ 116 ∷ 32 ∷ [])) (alone tt (114 ∷ 101 ∷ 97 ∷ 108 ∷ 32 ∷ [])) int_begins real_begins)
  product_is (x ∷ xs) = ap (λ r. after_read r (λ v rest. star_to (tt, v) rest)) (one_is is_i int_word real_word int_begins real_begins x xs) ∙ product_side (nat_eq x 105) (x ∷ xs)

  star_is : (bytes : List ℕ) → after_read (star.read bytes) star_to ≡ after_read (star_read bytes) F
  star_is bytes =
      both_then (alone {A = Unit {0}} tt (42 ∷ [])) (λ u. either) bytes star_to
      ∙ word_then (42 ∷ []) bytes (λ u r. after_read (either.read r) (λ v rest. star_to (u, v) rest))
      ∙ after_same (fixed_read (42 ∷ []) bytes) _ _ (λ u r. product_is r)
      ∙ sym (after_after (fixed_read (42 ∷ []) bytes) _ F)

none_star : star.read [] ≡ stops []
none_star =
    both_is (alone {A = Unit {0}} tt (42 ∷ [])) (λ u. one is_i (alone tt (105 ∷ 110 ∷ 116 ∷ 32 ∷ [])) (alone tt (114 ∷ 101 ∷ 97 ∷ 108 ∷ 32 ∷ [])) int_begins real_begins) []
    ∙ ap (λ r. after_read r (λ u rest. after_read ((one is_i (alone tt (105 ∷ 110 ∷ 116 ∷ 32 ∷ [])) (alone tt (114 ∷ 101 ∷ 97 ∷ 108 ∷ 32 ∷ [])) int_begins real_begins).read rest) (λ b end. got (u, b) end))) (alone_is tt (42 ∷ []) [])

-- ---- sorts behind `[`
sorts_are : (sig : Signature) (bytes : List ℕ) → (sorts sig).read bytes ≡ sorts_read sig bytes
unfolding sorts listing_code known square_sorts
sorts_are sig bytes =
    listing_is {T = λ i. Unit {0}} no_shape no_sure 93 above_square (one_item 93 above_square (sort_in sig square) Int (sorts_shaped sig) (sort_text (type_names sig)) (λ v f. sort_is_spelled (type_names sig) (some_type (type_names sig)) square v f))
    Int
    (one_shaped 93 above_square (sort_in sig square) Int (sorts_shaped sig) (sort_text (type_names sig)) (λ v f. sort_is_spelled (type_names sig) (some_type (type_names sig)) square v f)) no_codes no_inner
    (one_begins 93 above_square (sort_in sig square) Int (sorts_shaped sig) (sort_text (type_names sig)) (λ v f. sort_is_spelled (type_names sig) (some_type (type_names sig)) square v f) (sorts_begin sig)) bytes
    ∙ same_list 93 above_square (sort_in sig square) Int
    (one_shaped 93 above_square (sort_in sig square) Int (sorts_shaped sig) (sort_text (type_names sig)) (λ v f. sort_is_spelled (type_names sig) (some_type (type_names sig)) square v f) no_codes no_inner) (sorts_shaped sig) bytes

-- ---- declared symbols
module _ (sig : Signature) where
  plain_at : (w : List ℕ) → plain_of sig w ≡ get_or (plain_symbols sig) (place_of (plain_table sig) w) 0
  unfolding plain_of
  plain_at w = named_at (symbol_name sig) 0 (plain_symbols sig) w

  sorted_at : (w : List ℕ) → sorted_of sig w ≡ get_or (sorted_symbols sig) (place_of (sorted_table sig) w) 0
  unfolding sorted_of
  sorted_at w = named_at (symbol_name sig) 0 (sorted_symbols sig) w

  -- a name by its place in a table
  named_then : {C : Type 0} (table : List (List ℕ)) (s : SomeType table) (bytes : List ℕ) (G : ℕ → List ℕ → Read C)
      → after_read ((names fine table blank blank_end s).read bytes) (λ w rest. G (place_of table w.0) rest) ≡ after_read (named_read fine (closers by_blank.one by_blank.two) table bytes) (λ v rest. G v.0 rest)
  named_then table s bytes G =
      sym (after_after ((names fine table blank blank_end s).read bytes) (λ v rest. got (place_of table v.0, v.1) rest) (λ v rest. G v.0 rest))
      ∙ ap (λ r. after_read r (λ v rest. G v.0 rest)) (name_is fine table blank blank_end s bytes ∙ ap (λ f. named_read fine f table bytes) blank_is)

  module _ {C : Type 0} (F : AcSymbol → List ℕ → Read C) where
    abbrev with_none : ℕ → List ℕ → Read C
    with_none n rest = F (record { head = head.Symbol n; sorts = [] }) rest

    plain_is : (s : Plain sig) (bytes : List ℕ) → after_read ((sides.plain sig s).read bytes) (λ w rest. with_none (plain_of sig w.0) rest) ≡ after_read (plain_read sig bytes) F
    plain_is s bytes =
        after_same ((sides.plain sig s).read bytes) _ _ (λ w rest. ap (λ n. with_none n rest) (plain_at w.0))
        ∙ named_then (plain_table sig) s bytes (λ n rest. with_none (get_or (plain_symbols sig) n 0) rest)
        ∙ sym (after_after (named_read fine (closers by_blank.one by_blank.two) (plain_table sig) bytes) _ F)

    abbrev with_all : ℕ → List Sort → List ℕ → Read C
    with_all n ss rest = F (record { head = head.Symbol n; sorts = ss }) rest

    -- what stands behind the name
    abbrev behind_name : ℕ → List ℕ → Read C
    behind_name n r = after_read (fixed_read (91 ∷ []) r) (λ u q. after_read (sorts_read sig q) (λ ss m. after_read (fixed_read (41 ∷ 32 ∷ []) m) (λ v rest. with_all n ss rest)))

    abbrev last_words : Code ((ss : List Sort) × Unit {0})
    last_words = both (sorts sig) (λ ss. alone {A = Unit {0}} tt (41 ∷ 32 ∷ []))

    behind_is : (n : ℕ) (r : List ℕ) → after_read ((both (alone {A = Unit {0}} tt (91 ∷ [])) (λ v. last_words)).read r) (λ v rest. with_all n v.1.0 rest) ≡ behind_name n r
    behind_is n r =
        both_then (alone {A = Unit {0}} tt (91 ∷ [])) (λ v. last_words) r (λ v rest. with_all n v.1.0 rest)
        ∙ word_then (91 ∷ []) r (λ u q. after_read (last_words.read q) (λ v rest. with_all n v.0 rest))
        ∙ after_same (fixed_read (91 ∷ []) r) _ _ (λ u q.
        both_then (sorts sig) (λ ss. alone {A = Unit {0}} tt (41 ∷ 32 ∷ [])) q (λ v rest. with_all n v.0 rest)
        ∙ ap (λ z. after_read z (λ ss m. after_read ((alone {A = Unit {0}} tt (41 ∷ 32 ∷ [])).read m) (λ v rest. with_all n ss rest))) (sorts_are sig q)
        ∙ after_same (sorts_read sig q) _ _ (λ ss m. word_then (41 ∷ 32 ∷ []) m (λ v rest. with_all n ss rest)))

    sorted_is : (s : Sorted sig) (xs : List ℕ) → after_read ((with_sorts sig s).read (40 ∷ xs)) (λ v rest. with_all (sorted_of sig v.1.0.0) v.1.1.1.0 rest) ≡ after_read (sorted_read sig xs) F
    sorted_is s xs =
        both_then (alone {A = Unit {0}} tt (40 ∷ [])) (λ u. both (names fine (sorted_table sig) blank blank_end s) (λ w. both (alone {A = Unit {0}} tt (91 ∷ [])) (λ v. last_words))) (40 ∷ xs)
        (λ v rest. with_all (sorted_of sig v.1.0.0) v.1.1.1.0 rest)
        ∙ byte_then 40 xs (λ u r. after_read ((both (names fine (sorted_table sig) blank blank_end s) (λ w. both (alone {A = Unit {0}} tt (91 ∷ [])) (λ v. last_words))).read r) (λ v rest. with_all (sorted_of sig v.0.0) v.1.1.0 rest))
        ∙ both_then (names fine (sorted_table sig) blank blank_end s) (λ w. both (alone {A = Unit {0}} tt (91 ∷ [])) (λ v. last_words)) xs (λ v rest. with_all (sorted_of sig v.0.0) v.1.1.0 rest)
        ∙ after_same ((names fine (sorted_table sig) blank blank_end s).read xs) _ _ (λ w r. behind_is (sorted_of sig w.0) r ∙ ap (λ n. behind_name n r) (sorted_at w.0))
        ∙ named_then (sorted_table sig) s xs (λ n r. behind_name (get_or (sorted_symbols sig) n 0) r)
        ∙ after_same (named_read fine (closers by_blank.one by_blank.two) (sorted_table sig) xs) _ _ (λ w r.
        after_same (fixed_read (91 ∷ []) r) _ _ (λ u q.
        after_same (sorts_read sig q) _ _ (λ ss m. sym (after_after (fixed_read (41 ∷ 32 ∷ []) m) _ F))
        ∙ sym (after_after (sorts_read sig q) _ F))
        ∙ sym (after_after (fixed_read (91 ∷ []) r) _ F))
        ∙ sym (after_after (named_read fine (closers by_blank.one by_blank.two) (sorted_table sig) xs) _ F)

    -- ---- one of them by the first byte
    abbrev other_made : WithSorts sig ⊎ Star → List ℕ → Read C
    other_made (inl v) rest = with_all (sorted_of sig v.1.0.0) v.1.1.1.0 rest
    other_made (inr v) rest = star_made F v rest

    same_some : (table : List (List ℕ)) (d : Dec (SomeType table)) → decided d ≡ has_name table
    same_some table (yes s) = sym (some_has table s)
    same_some table (no n) = sym (none_has table n)

    bracket_of : (s : Sorted sig) (x : ℕ) (xs : List ℕ) → is_bracket x ≡ true → after_read ((with_sorts sig s).read (x ∷ xs)) (λ v rest. other_made (inl v) rest) ≡ after_read (sorted_read sig xs) F
    bracket_of s x xs e = let q = eqb-true x 40 e in ap (λ z. after_read ((with_sorts sig s).read (z ∷ xs)) (λ v rest. with_all (sorted_of sig v.1.0.0) v.1.1.1.0 rest)) q ∙ sorted_is s xs

    others_are : (x : ℕ) (xs : List ℕ) → after_read ((others sig).read (x ∷ xs)) other_made ≡ cond (has_name (sorted_table sig) && nat_eq x 40) (after_read (sorted_read sig xs) F) (after_read (star_read (x ∷ xs)) F)
    others_are x xs =
        some_side is_bracket (with_sorts sig) star (sorted_begins sig) star_begins other_made (some_type (sorted_table sig)) x xs (after_read (sorted_read sig xs) F) (λ s e. bracket_of s x xs e)
        ∙ ap (λ b. cond (b && nat_eq x 40) (after_read (sorted_read sig xs) F) (after_read (star.read (x ∷ xs)) (star_made F))) (same_some (sorted_table sig) (some_type (sorted_table sig)))
        ∙ ap (λ r. cond (has_name (sorted_table sig) && nat_eq x 40) (after_read (sorted_read sig xs) F) r) (star_is F (x ∷ xs))

  abbrev symbol_got : AcSymbol → List ℕ → Read AcSymbol
  symbol_got s rest = got s rest

  abbrev made : RawSymbol sig → List ℕ → Read AcSymbol
  made v rest = got (symbol_to sig v) rest

  -- what is read of the kinds is one symbol
  made_is : (v : WithSorts sig ⊎ Star) (rest : List ℕ) → made (inr v) rest ≡ other_made symbol_got v rest
  made_is (inl v) rest = refl
  made_is (inr (u, inl v)) rest = refl
  made_is (inr (u, inr v)) rest = refl

  same_read : (r : Read AcSymbol) → after_read r symbol_got ≡ r
  same_read (got s rest) = refl
  same_read (stops r) = refl
  same_read (wide r) = refl

  by_cond : (a b : Bool) (x : ℕ) (xs : List ℕ) → cond a (plain_read sig (x ∷ xs)) (cond b (sorted_read sig xs) (star_read (x ∷ xs))) ≡ symbol_by sig a b x xs
  by_cond true b x xs = refl
  by_cond false true x xs = refl
  by_cond false false x xs = refl

  others_read : (x : ℕ) (xs : List ℕ) → after_read ((others sig).read (x ∷ xs)) (λ v rest. made (inr v) rest) ≡ cond (has_name (sorted_table sig) && nat_eq x 40) (sorted_read sig xs) (star_read (x ∷ xs))
  others_read x xs =
      after_same ((others sig).read (x ∷ xs)) _ _ (λ v rest. made_is v rest)
      ∙ others_are symbol_got x xs
      ∙ ap (λ r. cond (has_name (sorted_table sig) && nat_eq x 40) r (after_read (star_read (x ∷ xs)) symbol_got)) (same_read (sorted_read sig xs))
      ∙ ap (λ r. cond (has_name (sorted_table sig) && nat_eq x 40) (sorted_read sig xs) r) (same_read (star_read (x ∷ xs)))

  others_none : (others sig).read [] ≡ stops []
  others_none = nothing_read is_bracket (with_sorts sig) star (sorted_begins sig) star_begins (some_type (sorted_table sig)) none_star

  pub symbol_is : (bytes : List ℕ) → (symbol sig).read bytes ≡ symbol_read sig bytes
  unfolding symbol
  symbol_is [] = mapped_is (symbol_to sig) (from_symbol sig) (raw_symbol sig) (symbol_back sig) [] ∙ some_none is_letter (sides.plain sig) (others sig) (plain_begins sig) (others_begin sig) made (some_type (plain_table sig)) others_none
  symbol_is (x ∷ xs) =
      mapped_is (symbol_to sig) (from_symbol sig) (raw_symbol sig) (symbol_back sig) (x ∷ xs)
      ∙ some_side is_letter (sides.plain sig) (others sig) (plain_begins sig) (others_begin sig) made (some_type (plain_table sig)) x xs (plain_read sig (x ∷ xs)) (λ s e. plain_is symbol_got s (x ∷ xs) ∙ same_read (plain_read sig (x ∷ xs)))
      ∙ ap (λ b. cond (b && nat_lt 64 x) (plain_read sig (x ∷ xs)) (after_read ((others sig).read (x ∷ xs)) (λ v rest. made (inr v) rest))) (same_some symbol_got (plain_table sig) (some_type (plain_table sig)))
      ∙ ap (λ r. cond (has_name (plain_table sig) && nat_lt 64 x) (plain_read sig (x ∷ xs)) r) (others_read x xs)
      ∙ by_cond (has_name (plain_table sig) && nat_lt 64 x) (has_name (sorted_table sig) && nat_eq x 40) x xs

  -- ---- both sides
  abbrev line_end : Code (Unit {0})
  line_end = alone {A = Unit {0}} tt (10 ∷ [])

  abbrev right_side : Code ((right : List ℕ) × Unit {0})
  right_side = both multiset (λ right. line_end)

  abbrev second : Code ((v : Unit {0}) × ((right : List ℕ) × Unit {0}))
  second = both (alone {A = Unit {0}} tt (32 ∷ 91 ∷ [])) (λ v. right_side)

  abbrev left_side : Code ((left : List ℕ) × ((v : Unit {0}) × ((right : List ℕ) × Unit {0})))
  left_side = both multiset (λ left. second)

  abbrev both_sides : Code ((u : Unit {0}) × ((left : List ℕ) × ((v : Unit {0}) × ((right : List ℕ) × Unit {0}))))
  both_sides = both (alone {A = Unit {0}} tt (91 ∷ [])) (λ u. left_side)

  abbrev sides_got : AcSymbol → List ℕ → List ℕ → List ℕ → Read (SidesOf sig)
  sides_got s left right rest = got (s, (left, right)) rest

  right_is : (s : AcSymbol) (left m : List ℕ) → after_read (right_side.read m) (λ w rest. sides_got s left w.0 rest) ≡ after_read (multiset.read m) (λ right n. after_read (fixed_read (10 ∷ []) n) (λ w rest. sides_got s left right rest))
  right_is s left m =
      both_then multiset (λ right. line_end) m (λ w rest. sides_got s left w.0 rest)
      ∙ after_same (multiset.read m) _ _ (λ right n. word_then (10 ∷ []) n (λ w rest. sides_got s left right rest))

  abbrev right_read : AcSymbol → List ℕ → List ℕ → Read (SidesOf sig)
  right_read s left m = after_read (multiset.read m) (λ right n. after_read (fixed_read (10 ∷ []) n) (λ w rest. sides_got s left right rest))

  left_is : (s : AcSymbol) (q : List ℕ) → after_read (left_side.read q) (λ w rest. sides_got s w.0 w.1.1.0 rest) ≡ after_read (multiset.read q) (λ left p. after_read (fixed_read (32 ∷ 91 ∷ []) p) (λ v m. right_read s left m))
  left_is s q =
      both_then multiset (λ left. second) q (λ w rest. sides_got s w.0 w.1.1.0 rest)
      ∙ after_same (multiset.read q) _ _ (λ left p.
      both_then (alone {A = Unit {0}} tt (32 ∷ 91 ∷ [])) (λ v. right_side) p (λ w rest. sides_got s left w.1.0 rest)
      ∙ word_then (32 ∷ 91 ∷ []) p (λ v m. after_read (right_side.read m) (λ w rest. sides_got s left w.0 rest))
      ∙ after_same (fixed_read (32 ∷ 91 ∷ []) p) _ _ (λ v m. right_is s left m))

  pub sides_are : (bytes : List ℕ) → (sides.sides sig).read bytes ≡ sides_read sig bytes
  unfolding sides.sides
  sides_are bytes =
      mapped_is (sides_to sig) (sides_from sig) (raw_sides sig) (λ v f. refl) bytes
      ∙ both_then (symbol sig) (λ s. both_sides) bytes (λ v rest. got (sides_to sig v) rest)
      ∙ after_same ((symbol sig).read bytes) _ _ (λ s r.
      both_then (alone {A = Unit {0}} tt (91 ∷ [])) (λ u. left_side) r (λ v rest. sides_got s v.1.0 v.1.1.1.0 rest)
      ∙ word_then (91 ∷ []) r (λ u q. after_read (left_side.read q) (λ w rest. sides_got s w.0 w.1.1.0 rest))
      ∙ after_same (fixed_read (91 ∷ []) r) _ _ (λ u q. left_is s q))

  pub rule_is : (bytes : List ℕ) → (rule sig).read bytes ≡ rule_read sig bytes
  unfolding rule
  rule_is bytes =
      mapped_is (rule_to sig) (rule_from sig) (raw_rule sig) (λ v f. refl) bytes
      ∙ both_then (alone {A = Unit {0}} tt (114 ∷ 117 ∷ 108 ∷ 101 ∷ 32 ∷ [])) (λ u. sides.sides sig) bytes (λ v rest. got (rule_to sig v) rest)
      ∙ word_then (114 ∷ 117 ∷ 108 ∷ 101 ∷ 32 ∷ []) bytes (λ u r. after_read ((sides.sides sig).read r) (λ v rest. got (record { symbol = v.0; left = v.1.0; right = v.1.1 }) rest))
