-- Sorts as the grammar reads them.
use Rattle.std.proofs.Common.{ℕ, zero, suc, Bool, true, false, ◌&&◌, ◌||◌, IsTrue, cond, nat_eq, List, [], ◌∷◌, ◌++◌, ◌≡◌, ◌≢◌, drop, refl, sym, ap, ◌∙◌, subst, arith}
use mathlib.Core.Logic.{inl, inr}
use Rattle.std.specs.List.{list_any}
use Rattle.std.specs.Str.{bytes_eq}
use Rattle.std.proofs.lemmas.Bool.{eqb-true, eq-eqb, ne_eqb, false_from_ne_true}
use Rattle.std.proofs.lemmas.Slice.Eq.{bytes_eq-Decides}
use Rattle.ae_codes.specs.Codes.{Read, got, stops, Code, both, one, mapped, words, is_bracket}
use Rattle.ae_codes.specs.Closers.{Close, by_blank, closers, close_end, sizes, square}
use Rattle.ae_codes.specs.Fractions.{or_two}
use Rattle.ae_codes.specs.Names.{WordEnd, In, Proper, names, closing}
use Rattle.ae_codes.specs.Numbers.{number, and_both, and_one, and_two}
use Rattle.ae_codes.specs.Nested.{Shaped}
use Rattle.ae_codes.specs.Rows.{Row, rows, row_list, alone, ItemShape}
use Rattle.ae_core.specs.declared.problems.Signature.{Signature}
use Rattle.ae_core.specs.declared.terms.Sort.{Sort, Int, roll-Sort}
use Rattle.ae_core.specs.declared.terms.Sort.TheOpen as layer
use Rattle.ae_core.specs.declared.terms.Sort.TheVariants as sort
use Rattle.ae_core.specs.declared.terms.Sort.TheVariants.{rolls-Int, rolls-Real, rolls-Bool, rolls-Unit, rolls-Named, rolls-Rigid}
use Rattle.ae_prooftext.specs.SortTexts.{SortEnd, SomeType, some_type, some_of, RawSort, Compound, Leaf, fine, blank, blank_end, atoms, atom, place, here_or, list_dec, above_round, is_quote, quoted, atom_names, leaves, leaf_of, compound, compound_begins, leaves_other, quoted_begins, atom_other, int_first, raw_by, raw_back, to_layer, end_of, sort_to, sort_from, sort_layer, inner_sort, inner_is_shaped, inner_reads}
use Rattle.ae_prooftext.specs.SortTexts as sorts
use Rattle.ae_prooftext.specs.TermTexts.{above_square, sort_in, sorts_shaped}
use Rattle.ae_prooftext.specs.Words.{type_names}
use Rattle.ae_readers.specs.Readers.{after_read, place_of, no_end, named_read, name_read, closing_read, row_read, more_read, before, close_of, FaultIs}
use Rattle.ae_readers.proofs.Combinators.{after_after, after_same, mapped_is, both_is, one_is, one_none, on_side}
use Rattle.ae_readers.proofs.NameReading.{name_is, closing_is, clean_of, of_clean}
use Rattle.ae_readers.proofs.RowReading.{row_turn, goes_on, ends_here, faulty}
use Rattle.ae_readers.specs.declared.closing.Closing.{Closing}
use Rattle.ae_readers.specs.declared.closing.Closing.TheVariants as closings
use Rattle.ae_readers.specs.declared.fault.Fault.{Fault}
use Rattle.ae_termreader.specs.Sorts.{has_name, side, round_sorts, square_sorts, sort_rows, atom_of, rigid_read, atom_read, compound_read, sort_by, sort_turn}

-- ---- one after another, with what is made of it
pub both_then : {A C : Type 0} {B : A → Type 0} (p : Code A) (q : (a : A) → Code (B a)) (bytes : List ℕ) (F : ((a : A) × B a) → List ℕ → Read C)
    → after_read ((both p q).read bytes) F ≡ after_read (p.read bytes) (λ a r. after_read ((q a).read r) (λ b e. F (a, b) e))
both_then {A} {C} {B} p q bytes F =
    ap (λ r. after_read r F) (both_is p q bytes)
    ∙ after_after (p.read bytes) _ F
    ∙ after_same (p.read bytes) _ _ (λ a rest. after_after ((q a).read rest) _ F)

pub mapped_then : {A B C : Type 0} (to : A → B) (from : B → A) (c : Code A) (back : (a : A) → c.Fits a → from (to a) ≡ a) (bytes : List ℕ) (F : B → List ℕ → Read C)
    → after_read ((mapped to from c back).read bytes) F ≡ after_read (c.read bytes) (λ a r. F (to a) r)
mapped_then to from c back bytes F = ap (λ r. after_read r F) (mapped_is to from c back bytes) ∙ after_after (c.read bytes) _ F

-- a byte that stands there
pub byte_then : {C : Type 0} (b : ℕ) (xs : List ℕ) (F : Unit {0} → List ℕ → Read C) → after_read ((alone {A = Unit {0}} tt (b ∷ [])).read (b ∷ xs)) F ≡ F tt xs
unfolding alone words
byte_then b xs F = ap (λ r. after_read r F) ((alone {A = Unit {0}} tt (b ∷ [])).again tt xs refl)

-- a blank is one closing byte twice
or_self : (b : Bool) → b ≡ b || b
or_self true = refl
or_self false = refl

pub blank_is : blank ≡ closers by_blank.one by_blank.two
unfolding by_blank
blank_is i x = or_self (nat_eq x 32) i

-- ---- places
place_step : (b : Bool) (t w : List ℕ) (d : Dec (w ≡ t)) (n m : ℕ) → bytes_eq t w ≡ b → n ≡ m → here_or d n ≡ cond b 0 (suc m)
place_step true t w (yes e) n m q h = refl
place_step true t w (no k) n m q h = absurd (k (sym ((bytes_eq-Decides t w).0 q)))
place_step false t w (yes e) n m q h = let z : bytes_eq t w ≡ true = (bytes_eq-Decides t w).1 (sym e) in absurd cc
place_step false t w (no k) n m q h = ap suc h

pub place_is : (ts : List (List ℕ)) (w : List ℕ) → place ts w ≡ place_of ts w
place_is [] w = refl
place_is (t ∷ ts) w = place_step (bytes_eq t w) t w (list_dec w t) (place ts w) (place_of ts w) refl (place_is ts w)

-- ---- whether a type has a name
module _ (types : List (List ℕ)) where
  abbrev may : List ℕ → Bool
  may w = fine w && no_end (closers by_blank.one by_blank.two) w

  any_cons : (b : Bool) (w : List ℕ) (ts : List (List ℕ)) → may w ≡ b → list_any may (w ∷ ts) ≡ b || list_any may ts
  any_cons b w ts e = ap (λ z. z || list_any may ts) e

  proper_may : (w : List ℕ) → Proper fine types (closers by_blank.one by_blank.two) w → IsTrue (may w)
  proper_may w p = and_both (fine w) (no_end (closers by_blank.one by_blank.two) w) p.1 (of_clean fine types (closers by_blank.one by_blank.two) w p.0)

  may_proper : (w : List ℕ) → IsTrue (may w) → Proper fine types (closers by_blank.one by_blank.two) w
  may_proper w h = (clean_of fine types (closers by_blank.one by_blank.two) w (and_two (fine w) (no_end (closers by_blank.one by_blank.two) w) h), and_one (fine w) (no_end (closers by_blank.one by_blank.two) w) h)

  any_of : (ts : List (List ℕ)) (w : List ℕ) → In fine types (closers by_blank.one by_blank.two) ts w → IsTrue (may w) → IsTrue (list_any may ts)
  any_of [] w i h = absurd i
  any_of (t ∷ ts) w (inl e) h = ap (λ b. b || list_any may ts) (subst (λ z. IsTrue (may z)) e h)
  any_of (t ∷ ts) w (inr i) h = or_two (may t) (list_any may ts) (any_of ts w i h)

  some_any : (b : Bool) (t : List ℕ) (ts : List (List ℕ)) → may t ≡ b → IsTrue (b || list_any may ts) → (IsTrue (list_any may ts) → (w : List ℕ) × In fine types (closers by_blank.one by_blank.two) ts w × IsTrue (may w)) → (w : List ℕ) × In fine types (closers by_blank.one by_blank.two) (t ∷ ts) w × IsTrue (may w)
  some_any true t ts e h ih = (t, inl refl, e)
  some_any false t ts e h ih = let k = ih h in (k.0, inr k.1, k.2)

  of_any : (ts : List (List ℕ)) → IsTrue (list_any may ts) → (w : List ℕ) × In fine types (closers by_blank.one by_blank.two) ts w × IsTrue (may w)
  of_any [] h = absurd cc
  of_any (t ∷ ts) h = some_any (may t) t ts refl h (of_any ts)

  abbrev Named : (ℕ → Bool) → Type 0
  Named ends = (w : List ℕ) × In fine types ends types w × Proper fine types ends w

  pub named_has : Named (closers by_blank.one by_blank.two) → has_name types ≡ true
  named_has s = any_of types s.0 s.1 (proper_may s.0 s.2)

  pub has_named : has_name types ≡ true → Named (closers by_blank.one by_blank.two)
  has_named h = let k = of_any types h in (k.0, k.1, may_proper k.0 k.2)

  pub some_has : SomeType types → has_name types ≡ true
  some_has s = named_has (subst Named blank_is s)

  pub has_some : has_name types ≡ true → SomeType types
  has_some h = subst Named (sym blank_is) (has_named h)

  pub none_has : (SomeType types → ⊥) → has_name types ≡ false
  none_has n = false_from_ne_true (has_name types) (λ h. n (has_some h))

-- ---- a sort, by its first byte
module _ (sig : Signature) (k : Close) where
  abbrev types : List (List ℕ)
  types = type_names sig

  abbrev c : Code SortEnd
  c = inner_sort types (some_type types)

  abbrev h : Shaped (ItemShape 41) (Int, 41) c
  h = inner_is_shaped types (some_type types)

  abbrev made : RawSort → List ℕ → Read SortEnd
  made v rest = got (sort_to types v) rest

  abbrev item_rows : Code (Row Sort)
  item_rows = rows 41 above_round c Int h

  -- behind an opening bracket
  abbrev bracket_read : List ℕ → Read SortEnd
  bracket_read bytes =
      after_read (named_read fine (closers by_blank.one by_blank.two) types bytes) (λ w r.
      after_read (row_read item_rows r) (λ ss q.
      after_read (closing_read k q) (λ e rest. got (sort.Named w.0 ss, e) rest)))

  rolled : (w : List ℕ) (r : Row Sort) (e : ℕ) (rest : List ℕ) → made (inl (tt, ((w, 32), (r, e)))) rest ≡ got (sort.Named (place_of types w) (row_list r), e) rest
  rolled w r e rest = λ i. got ((rolls-Named (place types w) (row_list r) ∙ ap (λ n. sort.Named n (row_list r)) (place_is types w)) i, e) rest

  named_types : (s : SomeType types) (bytes : List ℕ) → name_read types ((names fine types blank blank_end s).read bytes) ≡ named_read fine (closers by_blank.one by_blank.two) types bytes
  named_types s bytes = name_is fine types blank blank_end s bytes ∙ ap (λ f. named_read fine f types bytes) blank_is

  bracket_is : (s : SomeType types) (xs : List ℕ) → after_read ((compound types s k c h).read (40 ∷ xs)) (λ v rest. made (inl v) rest) ≡ bracket_read xs
  bracket_is s xs =
      both_then (alone {A = Unit {0}} tt (40 ∷ [])) (λ u. both (names fine types blank blank_end s) (λ w. both item_rows (λ r. closing (closers k.one k.two) (close_end k)))) (40 ∷ xs) (λ v rest. made (inl v) rest)
      ∙ byte_then 40 xs (λ u r. after_read ((both (names fine types blank blank_end s) (λ w. both item_rows (λ r. closing (closers k.one k.two) (close_end k)))).read r) (λ v e. made (inl (u, v)) e))
      ∙ both_then (names fine types blank blank_end s) (λ w. both item_rows (λ r. closing (closers k.one k.two) (close_end k))) xs (λ v e. made (inl (tt, v)) e)
      ∙ after_same ((names fine types blank blank_end s).read xs) _ _ (λ w q. arguments_is w q)
      ∙ sym (after_after ((names fine types blank blank_end s).read xs) (λ v rest. got (place_of types v.0, v.1) rest) (λ w r. after_read (row_read item_rows r) (λ ss q. after_read (closing_read k q) (λ e rest. got (sort.Named w.0 ss, e) rest))))
      ∙ ap (λ r. after_read r (λ w r. after_read (row_read item_rows r) (λ ss q. after_read (closing_read k q) (λ e rest. got (sort.Named w.0 ss, e) rest)))) (named_types s xs)
    where
      arguments_is : (w : WordEnd) (q : List ℕ) → after_read ((both item_rows (λ r. closing (closers k.one k.two) (close_end k))).read q) (λ v e. made (inl (tt, (w, v))) e)
          ≡ after_read (row_read item_rows q) (λ ss q. after_read (closing_read k q) (λ e rest. got (sort.Named (place_of types w.0) ss, e) rest))
      arguments_is w q =
          both_then item_rows (λ r. closing (closers k.one k.two) (close_end k)) q (λ v e. made (inl (tt, (w, v))) e)
          ∙ after_same (item_rows.read q) _ _ (λ r m. ap (λ z. after_read z (λ e rest. made (inl (tt, (w, (r, e)))) rest)) (closing_is k (close_end k) m) ∙ after_same (closing_read k m) _ _ (λ e rest. rolled w.0 r e rest))
          ∙ sym (after_after (item_rows.read q) (λ r rest. got (row_list r) rest) (λ ss m. after_read (closing_read k m) (λ e rest. got (sort.Named (place_of types w.0) ss, e) rest)))

  quote_is : (xs : List ℕ) → after_read ((quoted k).read (39 ∷ xs)) (λ v rest. made (inr (inl v)) rest) ≡ rigid_read k xs
  quote_is xs =
      both_then (alone {A = Unit {0}} tt (39 ∷ [])) (λ u. number (sizes k)) (39 ∷ xs) (λ v rest. made (inr (inl v)) rest)
      ∙ byte_then 39 xs (λ u r. after_read ((number (sizes k)).read r) (λ v e. made (inr (inl (u, v))) e))
      ∙ after_same ((number (sizes k)).read xs) _ _ (λ v rest. λ i. got (rolls-Rigid v.0 i, v.1) rest)

  atom_rolls : (n : ℕ) → roll-Sort (atom n) ≡ atom_of n
  atom_rolls zero = rolls-Int
  atom_rolls (suc zero) = rolls-Real
  atom_rolls (suc (suc zero)) = rolls-Bool
  atom_rolls (suc (suc (suc zero))) = rolls-Unit
  atom_rolls (suc (suc (suc (suc n)))) = rolls-Named n []

  name_alone : (bytes : List ℕ) → after_read ((atom_names types k).read bytes) (λ v rest. made (inr (inr v)) rest)
      ≡ after_read (named_read fine (closers k.one k.two) (atoms types) bytes) (λ v rest. got (atom_of v.0, v.1) rest)
  name_alone bytes =
      after_same ((atom_names types k).read bytes) _ _ (λ v rest. λ i. got ((atom_rolls (place (atoms types) v.0) ∙ ap atom_of (place_is (atoms types) v.0)) i, v.1) rest)
      ∙ sym (after_after ((atom_names types k).read bytes) (λ v rest. got (place_of (atoms types) v.0, v.1) rest) (λ v rest. got (atom_of v.0, v.1) rest))
      ∙ ap (λ r. after_read r (λ v rest. got (atom_of v.0, v.1) rest)) (name_is fine (atoms types) (closers k.one k.two) (close_end k) (int_first types k) bytes)

  leaf_side : (b : Bool) (x : ℕ) (xs : List ℕ) → nat_eq x 39 ≡ b → after_read (on_side b ((quoted k).read (x ∷ xs)) ((atom_names types k).read (x ∷ xs))) (λ v rest. made (inr v) rest)
      ≡ cond b (rigid_read k xs) (after_read (named_read fine (closers k.one k.two) (atoms types) (x ∷ xs)) (λ v rest. got (atom_of v.0, v.1) rest))
  leaf_side true x xs e = let s = eqb-true x 39 e in
      after_after ((quoted k).read (x ∷ xs)) _ _ ∙ ap (λ z. after_read ((quoted k).read (z ∷ xs)) (λ v rest. made (inr (inl v)) rest)) s ∙ quote_is xs
  leaf_side false x xs e = after_after ((atom_names types k).read (x ∷ xs)) _ _ ∙ name_alone (x ∷ xs)

  leaf_is : (x : ℕ) (xs : List ℕ) → after_read ((leaves types k).read (x ∷ xs)) (λ v rest. made (inr v) rest)
      ≡ cond (nat_eq x 39) (rigid_read k xs) (after_read (named_read fine (closers k.one k.two) (atoms types) (x ∷ xs)) (λ v rest. got (atom_of v.0, v.1) rest))
  leaf_is x xs = ap (λ r. after_read r (λ v rest. made (inr v) rest)) (one_is is_quote (quoted k) (atom_names types k) (quoted_begins k) (atom_other types k 39 (omega arith)) x xs) ∙ leaf_side (nat_eq x 39) x xs refl

  leaf_none : after_read ((leaves types k).read []) (λ v rest. made (inr v) rest) ≡ stops []
  leaf_none = ap (λ r. after_read r (λ v rest. made (inr v) rest)) (one_none is_quote (quoted k) (atom_names types k) (quoted_begins k) (atom_other types k 39 (omega arith)))

  abbrev leaf_turn : ℕ → List ℕ → Read SortEnd
  leaf_turn x xs = cond (nat_eq x 39) (rigid_read k xs) (after_read (named_read fine (closers k.one k.two) (atoms types) (x ∷ xs)) (λ v rest. got (atom_of v.0, v.1) rest))

  side_is : (s : SomeType types) (b : Bool) (x : ℕ) (xs : List ℕ) → nat_eq x 40 ≡ b
      → after_read (on_side b ((compound types s k c h).read (x ∷ xs)) ((leaves types k).read (x ∷ xs))) made ≡ cond b (bracket_read xs) (leaf_turn x xs)
  side_is s true x xs e = let z = eqb-true x 40 e in
      after_after ((compound types s k c h).read (x ∷ xs)) _ _ ∙ ap (λ y. after_read ((compound types s k c h).read (y ∷ xs)) (λ v rest. made (inl v) rest)) z ∙ bracket_is s xs
  side_is s false x xs e = after_after ((leaves types k).read (x ∷ xs)) _ _ ∙ leaf_is x xs

  abbrev is_some : Dec (SomeType types) → Bool
  is_some (yes s) = true
  is_some (no n) = false

  raw_turn : (d : Dec (SomeType types)) (x : ℕ) (xs : List ℕ) → after_read ((raw_by types d k c h).read (x ∷ xs)) made ≡ cond (is_some d && nat_eq x 40) (bracket_read xs) (leaf_turn x xs)
  unfolding raw_by
  raw_turn (yes s) x xs = ap (λ r. after_read r made) (one_is is_bracket (compound types s k c h) (leaves types k) (compound_begins types s k c h) (leaves_other types k) x xs) ∙ side_is s (nat_eq x 40) x xs refl
  raw_turn (no n) x xs = mapped_then inr leaf_of (leaves types k) (λ a f. refl) (x ∷ xs) made ∙ leaf_is x xs

  raw_none : (d : Dec (SomeType types)) → after_read ((raw_by types d k c h).read []) made ≡ stops []
  unfolding raw_by
  raw_none (yes s) = ap (λ r. after_read r made) (one_none is_bracket (compound types s k c h) (leaves types k) (compound_begins types s k c h) (leaves_other types k))
  raw_none (no n) = mapped_then inr leaf_of (leaves types k) (λ a f. refl) [] made ∙ leaf_none

  same_some : (d : Dec (SomeType types)) → is_some d ≡ has_name types
  same_some (yes s) = sym (some_has types s)
  same_some (no n) = sym (none_has types n)

  by_cond : (a b : Bool) (x : ℕ) (xs : List ℕ) → cond a (compound_read sig k xs) (cond b (rigid_read k xs) (atom_read sig k (x ∷ xs))) ≡ sort_by a b sig k x xs
  by_cond true b x xs = refl
  by_cond false true x xs = refl
  by_cond false false x xs = refl

  sort_whole : (bytes : List ℕ) → (sorts.sort types (some_type types) k).read bytes ≡ after_read ((raw_by types (some_type types) k c h).read bytes) made
  sort_whole bytes = mapped_is (sort_to types) (sort_from types) (raw_by types (some_type types) k c h) (raw_back types (some_type types) k c h) bytes

  pub sort_is : (bytes : List ℕ) → (sorts.sort types (some_type types) k).read bytes ≡ sort_turn sig k bytes
  unfolding round_sorts
  sort_is [] = sort_whole [] ∙ raw_none (some_type types)
  sort_is (x ∷ xs) =
      sort_whole (x ∷ xs) ∙ raw_turn (some_type types) x xs
      ∙ ap (λ b. cond (b && nat_eq x 40) (bracket_read xs) (leaf_turn x xs)) (same_some (some_type types))
      ∙ by_cond (has_name types && nat_eq x 40) (nat_eq x 39) x xs

-- ---- rows of sorts
pub sort_row_turn : (sig : Signature) (b : Bool) (bytes : List ℕ)
    → row_read (sort_rows sig b) bytes ≡ after_read ((sort_in sig (close_of (side b))).read bytes) (λ v rest. more_read (nat_eq v.1 32) v.0 (row_read (sort_rows sig b) rest) rest)
unfolding round_sorts square_sorts
sort_row_turn sig true bytes = row_turn 93 above_square (sort_in sig square) Int (sorts_shaped sig) bytes
sort_row_turn sig false bytes =
    row_turn 41 above_round (inner_sort (type_names sig) (some_type (type_names sig))) Int (inner_is_shaped (type_names sig) (some_type (type_names sig))) bytes
    ∙ ap (λ r. after_read r (λ v rest. more_read (nat_eq v.1 32) v.0 (row_read (sort_rows sig false) rest) rest)) (inner_reads (type_names sig) (some_type (type_names sig)) bytes)

-- as far as a loop over sorts has come
module _ (sig : Signature) (square : Bool) (k : Closing) (same : k ≡ side square) (text : List ℕ) (from at : ℕ) (xs : List Sort)
    (so_far : row_read (sort_rows sig square) (drop from text) ≡ before xs (row_read (sort_rows sig square) (drop at text))) where
  abbrev item_read : Read SortEnd
  item_read = (sort_in sig (close_of k)).read (drop at text)

  same_item : item_read ≡ (sort_in sig (close_of (side square))).read (drop at text)
  same_item = ap (λ k. (sort_in sig (close_of k)).read (drop at text)) same

  pub sorts_go_on : (v : SortEnd) (next : ℕ) (ys : List Sort) → item_read ≡ got v (drop next text) → v.1 ≡ 32 → ys ≡ xs ++ v.0 ∷ []
      → row_read (sort_rows sig square) (drop from text) ≡ before ys (row_read (sort_rows sig square) (drop next text))
  sorts_go_on v next ys e q p =
      goes_on (sort_rows sig square) (sort_in sig (close_of (side square))) (sort_row_turn sig square) text from at xs so_far v next (sym same_item ∙ e) (eq-eqb v.1 32 q)
      ∙ ap (λ z. before z (row_read (sort_rows sig square) (drop next text))) (sym p)

  pub sorts_end : (v : SortEnd) (next : ℕ) (ys : List Sort) → item_read ≡ got v (drop next text) → v.1 ≢ 32 → ys ≡ xs ++ v.0 ∷ []
      → row_read (sort_rows sig square) (drop from text) ≡ got ys (drop next text)
  sorts_end v next ys e q p =
      ends_here (sort_rows sig square) (sort_in sig (close_of (side square))) (sort_row_turn sig square) text from at xs so_far v next (sym same_item ∙ e) (ne_eqb v.1 32 q)
      ∙ ap (λ z. got z (drop next text)) (sym p)

  pub sorts_faulty : (f : Fault) → FaultIs text f item_read → FaultIs text f (row_read (sort_rows sig square) (drop from text))
  sorts_faulty f e = faulty (sort_rows sig square) (sort_in sig (close_of (side square))) (sort_row_turn sig square) text from at xs so_far f (subst (FaultIs text f) same_item e)
