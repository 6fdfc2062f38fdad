-- Names of a table as codes read them.
use Rattle.std.proofs.Common.{ℕ, suc, ◌+◌, ◌≤◌, ◌<◌, ◌⊎◌, Bool, true, false, not, ◌&&◌, cond, IsTrue, nat_eq, nat_lt, max, List, [], ◌∷◌, ◌++◌, ◌≡◌, length, drop, take, get_or, refl, sym, ap, ◌∙◌, append_assoc, arith, subst}
use mathlib.Core.Logic.{inl, inr}
use Rattle.std.specs.Str.{bytes_eq}
use Rattle.std.proofs.Math.Nat.{le-max_left, le-max_right}
use Rattle.std.proofs.lemmas.List.{drop-drop, drop_more, length-drop}
use Rattle.std.proofs.lemmas.Bool.{ne_eqb, eqb-true, ltb-true, lt-ltb, not-true, not_from_false}
use Rattle.std.proofs.lemmas.Slice.Eq.{bytes_eq-Decides}
use Rattle.ae_codes.specs.Codes.{Read, got, stops, wide, Code, words, words_narrow}
use Rattle.ae_codes.specs.Names.{WordEnd, In, Clean, Proper, names, closing}
use Rattle.ae_codes.specs.Numbers.{and_one, and_two, and_both}
use Rattle.ae_codes.specs.Closers.{Close, closers}
use Rattle.ae_readers.specs.Readers.{common, place_of, no_end, most_of, closing_read, closing_or, word_part, found_or, named_by, named_read, name_read, name_wrong}
use Rattle.ae_readers.proofs.Commons.{common_le, max_is}
use Rattle.ae_readers.proofs.Stopping.{stops_behind}

-- ---- words in lists
module _ (fine : List ℕ → Bool) (table : List (List ℕ)) (ends : ℕ → Bool) where
  pub clean_of : (w : List ℕ) → IsTrue (no_end ends w) → Clean fine table ends w
  clean_of [] h = tt
  clean_of (x ∷ w) h = (not-true (ends x) (and_one (not (ends x)) (no_end ends w) h), clean_of w (and_two (not (ends x)) (no_end ends w) h))

  pub of_clean : (w : List ℕ) → Clean fine table ends w → IsTrue (no_end ends w)
  of_clean [] h = refl
  of_clean (x ∷ w) h = and_both (not (ends x)) (no_end ends w) (not_from_false (ends x) h.0) (of_clean w h.1)

  place_step : (b : Bool) (t : List ℕ) (ts : List (List ℕ)) (w : List ℕ) → bytes_eq t w ≡ b → (place_of ts w < length ts → In fine table ends ts w) → cond b 0 (suc (place_of ts w)) < suc (length ts) → In fine table ends (t ∷ ts) w
  place_step true t ts w e ih h = inl (sym ((bytes_eq-Decides t w).0 e))
  place_step false t ts w e ih h = inr (ih (omega arith))

  pub place_in : (ts : List (List ℕ)) (w : List ℕ) → place_of ts w < length ts → In fine table ends ts w
  place_in [] w h = absurd (omega arith)
  place_in (t ∷ ts) w h = place_step (bytes_eq t w) t ts w refl (place_in ts w) h

  no_step : (b : Bool) (t : List ℕ) (ts : List (List ℕ)) (w : List ℕ) → bytes_eq t w ≡ b → (w ≡ t) ⊎ In fine table ends ts w → (In fine table ends ts w → place_of ts w < length ts) → cond b 0 (suc (place_of ts w)) < suc (length ts)
  no_step true t ts w e i ih = omega arith
  no_step false t ts w e (inl q) ih = let z : bytes_eq t w ≡ true = (bytes_eq-Decides t w).1 (sym q) in absurd cc
  no_step false t ts w e (inr i) ih = let h = ih i in omega arith

  pub in_place : (ts : List (List ℕ)) (w : List ℕ) → In fine table ends ts w → place_of ts w < length ts
  in_place [] w i = absurd i
  in_place (t ∷ ts) w i = no_step (bytes_eq t w) t ts w refl i (in_place ts w)

  -- ---- the most that a word has in common with the bytes
  abbrev pub may : List ℕ → Bool
  may w = fine w && no_end ends w

  may_is : (w : List ℕ) → Proper fine table ends w → IsTrue (may w)
  may_is w p = and_both (fine w) (no_end ends w) p.1 (of_clean w p.0)

  is_may : (w : List ℕ) → IsTrue (may w) → Proper fine table ends w
  is_may w h = (clean_of w (and_two (fine w) (no_end ends w) h), and_one (fine w) (no_end ends w) h)

  least_step : (b : Bool) (far : ℕ) (w bytes : List ℕ) (n : ℕ) → cond b (max far (common w bytes)) far ≤ n → far ≤ n
  least_step true far w bytes n h = let l = le-max_left far (common w bytes) in omega arith
  least_step false far w bytes n h = h

  most_least : (far : ℕ) (ts : List (List ℕ)) (bytes : List ℕ) → far ≤ most_of far may ts bytes
  most_least far [] bytes = omega arith
  most_least far (t ∷ ts) bytes = least_step (may t) far t bytes _ (most_least (cond (may t) (max far (common t bytes)) far) ts bytes)

  taken : (b : Bool) (far : ℕ) (w bytes : List ℕ) (n : ℕ) → IsTrue b → cond b (max far (common w bytes)) far ≤ n → common w bytes ≤ n
  taken true far w bytes n e h = let l = le-max_right far (common w bytes) in omega arith
  taken false far w bytes n e h = absurd cc

  pub most_above : (far : ℕ) (ts : List (List ℕ)) (bytes w : List ℕ) → In fine table ends ts w → Proper fine table ends w → common w bytes ≤ most_of far may ts bytes
  most_above far [] bytes w i p = absurd i
  most_above far (t ∷ ts) bytes w (inl e) p =
      taken (may w) far w bytes _ (may_is w p) (subst (λ z. cond (may z) (max far (common z bytes)) far ≤ most_of far may (t ∷ ts) bytes) (sym e) (most_least (cond (may t) (max far (common t bytes)) far) ts bytes))
  most_above far (t ∷ ts) bytes w (inr i) p = most_above (cond (may t) (max far (common t bytes)) far) ts bytes w i p

  abbrev Some : List (List ℕ) → List ℕ → ℕ → Type 0
  Some ts bytes n = (w : List ℕ) × In fine table ends ts w × Proper fine table ends w × (common w bytes ≡ n)

  some_step : (b : Bool) (far : ℕ) (t : List ℕ) (ts : List (List ℕ)) (bytes : List ℕ) (n : ℕ) → may t ≡ b → (max far (common t bytes) ≡ far) ⊎ (max far (common t bytes) ≡ common t bytes)
      → (n ≡ cond b (max far (common t bytes)) far) ⊎ Some ts bytes n → (n ≡ far) ⊎ Some (t ∷ ts) bytes n
  some_step b far t ts bytes n e d (inr k) = inr (k.0, inr k.1, k.2, k.3)
  some_step true far t ts bytes n e (inl a) (inl q) = inl (q ∙ a)
  some_step true far t ts bytes n e (inr a) (inl q) = inr (t, inl refl, is_may t e, sym (q ∙ a))
  some_step false far t ts bytes n e d (inl q) = inl q

  pub most_found : (far : ℕ) (ts : List (List ℕ)) (bytes : List ℕ) → (most_of far may ts bytes ≡ far) ⊎ Some ts bytes (most_of far may ts bytes)
  most_found far [] bytes = inl refl
  most_found far (t ∷ ts) bytes = some_step (may t) far t ts bytes _ refl (max_is far (common t bytes)) (most_found (cond (may t) (max far (common t bytes)) far) ts bytes)

-- a byte behind a word has nothing in common with other bytes than it
more_step : (b : Bool) (n m : ℕ) → (b ≡ true → n ≡ m) → cond b (suc n) 0 ≡ cond b (suc m) 0
more_step true n m h = ap suc (h refl)
more_step false n m h = refl

pub common_more : (w : List ℕ) (e : ℕ) (bytes : List ℕ) → ((y : ℕ) (r : List ℕ) → bytes ≡ w ++ y ∷ r → nat_eq y e ≡ false) → common (w ++ e ∷ []) bytes ≡ common w bytes
common_more [] e [] h = refl
common_more [] e (y ∷ ys) h = ap (λ b. cond b (suc (common [] ys)) 0) (h y ys refl)
common_more (x ∷ w) e [] h = refl
common_more (x ∷ w) e (y ∷ ys) h = more_step (nat_eq y x) (common (w ++ e ∷ []) ys) (common w ys)
    (λ t. common_more w e ys (λ z r q. h z r (let s = eqb-true y x t in λ i. s i ∷ q i)))

length_more : (w : List ℕ) (e : ℕ) → length w < length (w ++ e ∷ [])
length_more [] e = omega arith
length_more (x ∷ w) e = let ih = length_more w e in omega arith

module _ (fine : List ℕ → Bool) (table : List (List ℕ)) (ends : ℕ → Bool) (end : (e : ℕ) × IsTrue (ends e)) (first : (w : List ℕ) × In fine table ends table w × Proper fine table ends w) where
  pub name_found : (w : List ℕ) (x : ℕ) (bytes rest : List ℕ) → bytes ≡ w ++ x ∷ rest → place_of table w < length table → IsTrue (fine w) → IsTrue (no_end ends w) → IsTrue (ends x)
      → (names fine table ends end first).read bytes ≡ got (w, x) rest
  unfolding names words
  name_found w x bytes rest e i f c k =
      ap ((names fine table ends end first).read) (e ∙ sym (append_assoc w (x ∷ []) rest))
      ∙ (names fine table ends end first).again (w, x) rest (record { listed = place_in fine table ends table w i; clean = (clean_of fine table ends w c, f); closed = k })

  -- nothing that stands there is a name and its closing byte
  abbrev pub Lost : List ℕ → Type 0
  Lost bytes = (w : List ℕ) (x : ℕ) (rest : List ℕ) → bytes ≡ w ++ x ∷ rest → IsTrue (fine w) → IsTrue (no_end ends w) → IsTrue (ends x) → place_of table w < length table → ⊥

  name_narrow : (bytes q : List ℕ) → (names fine table ends end first).read bytes ≡ wide q → ⊥
  unfolding names
  name_narrow bytes q e = words_narrow _ bytes q e

  -- the byte behind a name that stands there closes nothing
  apart_from : (bytes w : List ℕ) (e : ℕ) → Lost bytes → In fine table ends table w → Proper fine table ends w → IsTrue (ends e) → common (w ++ e ∷ []) bytes ≡ common w bytes
  apart_from bytes w e lost i p k = common_more w e bytes (λ y r q. ne_eqb y e (λ s. lost w y r q p.1 (of_clean fine table ends w p.0) (subst (λ z. IsTrue (ends z)) (sym s) k) (in_place fine table ends table w i)))

  some_name : (bytes : List ℕ) (n : ℕ) → common first.0 bytes ≤ n → (n ≡ 0) ⊎ Some fine table ends table bytes n → Some fine table ends table bytes n
  some_name bytes n l (inl e) = (first.0, first.1, first.2, omega arith)
  some_name bytes n l (inr k) = k

  pub name_lost : (bytes : List ℕ) → Lost bytes → (names fine table ends end first).read bytes ≡ stops (drop (most_of 0 (may fine table ends) table bytes) bytes)
  unfolding names words
  name_lost bytes lost =
      let n = most_of 0 (may fine table ends) table bytes in
      let k = some_name bytes n (most_above fine table ends 0 table bytes first.0 first.1 first.2) (most_found fine table ends 0 table bytes) in
      let same = apart_from bytes k.0 end.0 lost k.1 k.2 end.1 ∙ k.3 in
      stops_behind (names fine table ends end first) bytes (k.0, end.0) (record { listed = k.1; clean = k.2; closed = end.1 })
      (λ a f. subst (λ z. common (a.0 ++ a.1 ∷ []) bytes ≤ z) (sym same)
      (subst (λ z. z ≤ n) (sym (apart_from bytes a.0 a.1 lost f.listed f.clean f.closed)) (most_above fine table ends 0 table bytes a.0 f.listed f.clean)))
      (let l = common_le k.0 bytes in let m = length_more k.0 end.0 in let s = apart_from bytes k.0 end.0 lost k.1 k.2 end.1 in omega (arith, l, m, s))
      (name_narrow bytes)
      ∙ ap (λ z. stops (drop z bytes)) same

  -- ---- the word that stands there
  part_step : (b : Bool) (x : ℕ) (xs : List ℕ) → (xs ≡ word_part ends xs ++ drop (length (word_part ends xs)) xs)
      → x ∷ xs ≡ cond b [] (x ∷ word_part ends xs) ++ drop (length (cond b [] (x ∷ word_part ends xs))) (x ∷ xs)
  part_step true x xs h = refl
  part_step false x xs h = ap (λ z. x ∷ z) h

  part_cut : (bytes : List ℕ) → bytes ≡ word_part ends bytes ++ drop (length (word_part ends bytes)) bytes
  part_cut [] = refl
  part_cut (x ∷ xs) = part_step (ends x) x xs (part_cut xs)

  part_clean_step : (b : Bool) (x : ℕ) (xs : List ℕ) → ends x ≡ b → IsTrue (no_end ends (word_part ends xs)) → IsTrue (no_end ends (cond b [] (x ∷ word_part ends xs)))
  part_clean_step true x xs e h = refl
  part_clean_step false x xs e h = and_both (not (ends x)) (no_end ends (word_part ends xs)) (not_from_false (ends x) e) h

  part_clean : (bytes : List ℕ) → IsTrue (no_end ends (word_part ends bytes))
  part_clean [] = refl
  part_clean (x ∷ xs) = part_clean_step (ends x) x xs refl (part_clean xs)

  -- the byte behind it closes
  part_end_step : (b : Bool) (x : ℕ) (xs : List ℕ) (y : ℕ) (r : List ℕ) → ends x ≡ b → (drop (length (word_part ends xs)) xs ≡ y ∷ r → IsTrue (ends y)) → drop (length (cond b [] (x ∷ word_part ends xs))) (x ∷ xs) ≡ y ∷ r → IsTrue (ends y)
  part_end_step true x xs y r e h q = let s : x ≡ y = cc in subst (λ z. IsTrue (ends z)) s e
  part_end_step false x xs y r e h q = h q

  part_end : (bytes : List ℕ) (y : ℕ) (r : List ℕ) → drop (length (word_part ends bytes)) bytes ≡ y ∷ r → IsTrue (ends y)
  part_end [] y r q = absurd cc
  part_end (x ∷ xs) y r q = part_end_step (ends x) x xs y r refl (part_end xs y r) q

  -- and no other word stands there
  only_step : (b : Bool) (x : ℕ) (xs w : List ℕ) → ends x ≡ b → IsTrue (not (ends x)) → word_part ends xs ≡ w → cond b [] (x ∷ word_part ends xs) ≡ x ∷ w
  only_step true x xs w e n h = let z = not-true (ends x) n in absurd cc
  only_step false x xs w e n h = ap (λ z. x ∷ z) h

  only_part : (w : List ℕ) (x : ℕ) (rest : List ℕ) → IsTrue (no_end ends w) → IsTrue (ends x) → word_part ends (w ++ x ∷ rest) ≡ w
  only_part [] x rest n k = ap (λ b. cond b [] (x ∷ word_part ends rest)) k
  only_part (y ∷ w) x rest n k = only_step (ends y) y (w ++ x ∷ rest) w refl (and_one (not (ends y)) (no_end ends w) n) (only_part w x rest (and_two (not (ends y)) (no_end ends w) n) k)

  behind : (w r : List ℕ) → drop (length w) (w ++ r) ≡ r
  behind [] r = refl
  behind (x ∷ w) r = behind w r

  abbrev code_of : Code WordEnd
  code_of = names fine table ends end first

  abbrev by_place : WordEnd → List ℕ → Read (ℕ × ℕ)
  by_place v rest = got (place_of table v.0, v.1) rest

  lost_when : (bytes : List ℕ) → ((x : ℕ) (rest : List ℕ) → drop (length (word_part ends bytes)) bytes ≡ x ∷ rest → IsTrue (fine (word_part ends bytes)) → place_of table (word_part ends bytes) < length table → ⊥) → Lost bytes
  lost_when bytes none_there w x rest e f c k i =
      let same : word_part ends bytes ≡ w = ap (word_part ends) e ∙ only_part w x rest c k in
      none_there x rest ((λ i. drop (length (same i)) (e i)) ∙ behind w (x ∷ rest)) (subst (λ z. IsTrue (fine z)) (sym same) f) (subst (λ z. place_of table z < length table) (sym same) i)

  false_is : (b : Bool) → b ≡ false → IsTrue b → ⊥
  false_is b p q = cc

  at_end : (bytes rest : List ℕ) → drop (length (word_part ends bytes)) bytes ≡ rest → name_read table (code_of.read bytes) ≡ named_by fine table (word_part ends bytes) rest (name_wrong fine ends table bytes)
  at_end bytes [] e = ap (name_read table) (name_lost bytes (lost_when bytes (λ x rest q. absurd (let z : [] ≡ x ∷ rest = sym e ∙ q in cc))))
  at_end bytes (x ∷ rest) e = by_test (fine (word_part ends bytes) && nat_lt (place_of table (word_part ends bytes)) (length table)) refl
    where
      by_test : (b : Bool) → (fine (word_part ends bytes) && nat_lt (place_of table (word_part ends bytes)) (length table)) ≡ b
          → name_read table (code_of.read bytes) ≡ found_or b (place_of table (word_part ends bytes)) x rest (name_wrong fine ends table bytes)
      by_test true t = ap (name_read table) (name_found (word_part ends bytes) x bytes rest (part_cut bytes ∙ ap (λ z. word_part ends bytes ++ z) e)
          (ltb-true _ _ (and_two (fine (word_part ends bytes)) (nat_lt (place_of table (word_part ends bytes)) (length table)) t))
          (and_one (fine (word_part ends bytes)) (nat_lt (place_of table (word_part ends bytes)) (length table)) t) (part_clean bytes) (part_end bytes x rest e))
      by_test false t = ap (name_read table) (name_lost bytes (lost_when bytes (λ y r q f i. false_is _ t (and_both (fine (word_part ends bytes)) (nat_lt (place_of table (word_part ends bytes)) (length table)) f (lt-ltb _ _ i)))))

  pub name_is : (bytes : List ℕ) → name_read table ((names fine table ends end first).read bytes) ≡ named_read fine ends table bytes
  name_is bytes = at_end bytes (drop (length (word_part ends bytes)) bytes) refl

-- ---- where the word ends
module _ (ends : ℕ → Bool) where
  part_fits : (bytes : List ℕ) → length (word_part ends bytes) ≤ length bytes
  part_fits [] = omega arith
  part_fits (x ∷ xs) = go (ends x) (part_fits xs)
    where
      go : (b : Bool) → length (word_part ends xs) ≤ length xs → length (cond b [] (x ∷ word_part ends xs)) ≤ suc (length xs)
      go true h = omega arith
      go false h = omega arith

  pub part_within : (text : List ℕ) (at : ℕ) → at < length text → at + length (word_part ends (drop at text)) ≤ length text
  part_within text at h = let f = part_fits (drop at text) in let d = length-drop at text in omega (arith, f, d)

  part_taken : (bytes : List ℕ) → take (length (word_part ends bytes)) bytes ≡ word_part ends bytes
  part_taken [] = refl
  part_taken (x ∷ xs) = go (ends x) (part_taken xs)
    where
      go : (b : Bool) → take (length (word_part ends xs)) xs ≡ word_part ends xs → take (length (cond b [] (x ∷ word_part ends xs))) (x ∷ xs) ≡ cond b [] (x ∷ word_part ends xs)
      go true h = refl
      go false h = ap (λ z. x ∷ z) h

  module _ (fine : List ℕ → Bool) (table : List (List ℕ)) where
    abbrev by_word : List ℕ → ℕ → List ℕ → List ℕ → Read (ℕ × ℕ)
    by_word w x rest bytes = found_or (fine w && nat_lt (place_of table w) (length table)) (place_of table w) x rest (name_wrong fine ends table bytes)

    -- the word is cut out of the text
    part_stands : (text : List ℕ) (at count m : ℕ) → count ≡ length (word_part ends (drop at text)) → m ≡ count → at + count < length text
        → named_read fine ends table (drop at text) ≡ by_word (take m (drop at text)) (get_or text (at + count) 0) (drop (at + count + 1) text) (drop at text)
    part_stands text at count m e q h =
        let bytes = drop at text in
        let word : take m bytes ≡ word_part ends bytes = ap (λ n. take n bytes) (q ∙ e) ∙ part_taken bytes in
        let rest : drop (length (word_part ends bytes)) bytes ≡ get_or text (at + count) 0 ∷ drop (at + count + 1) text =
        ap (λ n. drop n bytes) (sym e) ∙ drop-drop count at text ∙ drop_more text (at + count) 0 h in
        ap (λ r. named_by fine table (word_part ends bytes) r (name_wrong fine ends table bytes)) rest
        ∙ ap (λ w. by_word w (get_or text (at + count) 0) (drop (at + count + 1) text) bytes) (sym word)

    pub part_found : (text : List ℕ) (at count m n : ℕ) → count ≡ length (word_part ends (drop at text)) → m ≡ count → at + count < length text
        → (fine (take m (drop at text)) && nat_lt (place_of table (take m (drop at text))) (length table)) ≡ true → n ≡ place_of table (take m (drop at text))
        → named_read fine ends table (drop at text) ≡ got (n, get_or text (at + count) 0) (drop (at + count + 1) text)
    part_found text at count m n e q h named p =
        part_stands text at count m e q h
        ∙ ap (λ b. found_or b (place_of table (take m (drop at text))) (get_or text (at + count) 0) (drop (at + count + 1) text) (name_wrong fine ends table (drop at text))) named
        ∙ ap (λ n. got (n, get_or text (at + count) 0) (drop (at + count + 1) text)) (sym p)

    pub part_lost : (text : List ℕ) (at count m : ℕ) → count ≡ length (word_part ends (drop at text)) → m ≡ count → at + count < length text
        → (fine (take m (drop at text)) && nat_lt (place_of table (take m (drop at text))) (length table)) ≡ false
        → named_read fine ends table (drop at text) ≡ stops (name_wrong fine ends table (drop at text))
    part_lost text at count m e q h named =
        part_stands text at count m e q h
        ∙ ap (λ b. found_or b (place_of table (take m (drop at text))) (get_or text (at + count) 0) (drop (at + count + 1) text) (name_wrong fine ends table (drop at text))) named

-- ---- the closing byte alone
module _ (k : Close) (end : (e : ℕ) × IsTrue (closers k.one k.two e)) where
  abbrev code : Code ℕ
  code = closing (closers k.one k.two) end

  closing_narrow : (bytes q : List ℕ) → code.read bytes ≡ wide q → ⊥
  unfolding closing
  closing_narrow bytes q e = words_narrow _ bytes q e

  closing_goes : (x : ℕ) (xs : List ℕ) → IsTrue (closers k.one k.two x) → code.read (x ∷ xs) ≡ got x xs
  unfolding closing words
  closing_goes x xs h = code.again x xs h

  same_zero : (b : Bool) → b ≡ false → cond b (suc 0) 0 ≡ 0
  same_zero true e = absurd cc
  same_zero false e = refl

  closing_halts : (x : ℕ) (xs : List ℕ) → closers k.one k.two x ≡ false → code.read (x ∷ xs) ≡ stops (x ∷ xs)
  unfolding closing words
  closing_halts x xs h =
      let other : (e : ℕ) → IsTrue (closers k.one k.two e) → ¬ (x ≡ e) = λ e f q. let z : closers k.one k.two x ≡ true = subst (λ y. IsTrue (closers k.one k.two y)) (sym q) f in absurd cc in
      let none : (e : ℕ) → IsTrue (closers k.one k.two e) → common (e ∷ []) (x ∷ xs) ≡ 0 = λ e f. same_zero (nat_eq x e) (ne_eqb x e (other e f)) in
      let zero_end = none end.0 end.1 in
      stops_behind code (x ∷ xs) end.0 end.1 (λ a f. let y = none a f in omega (arith, y, zero_end)) (omega (arith, zero_end)) (closing_narrow (x ∷ xs))
      ∙ ap (λ n. stops (drop n (x ∷ xs))) zero_end

  closing_none : code.read [] ≡ stops []
  unfolding closing words
  closing_none = stops_behind code [] end.0 end.1 (λ a f. omega arith) (omega arith) (closing_narrow [])

  closing_by : (b : Bool) (x : ℕ) (xs : List ℕ) → closers k.one k.two x ≡ b → code.read (x ∷ xs) ≡ closing_or b x xs
  closing_by true x xs e = closing_goes x xs e
  closing_by false x xs e = closing_halts x xs e

  pub closing_is : (bytes : List ℕ) → (closing (closers k.one k.two) end).read bytes ≡ closing_read k bytes
  closing_is [] = closing_none
  closing_is (x ∷ xs) = closing_by (closers k.one k.two x) x xs refl
