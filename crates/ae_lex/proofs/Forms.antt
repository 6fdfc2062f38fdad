-- The forms of tokens: what they begin with, and that a piece is the longest one.
use Rattle.std.proofs.Common.{ℕ, ◌+◌, ◌≤◌, ◌<◌, ◌≢◌, Bool, true, ◌&&◌, ◌||◌, List, [], ◌∷◌, ◌++◌, ◌≡◌, ◌⊎◌, inl, inr, length, refl, sym, ap, ◌∙◌, subst, arith, append_assoc, length-append, nat_eq, nat_lt, eq-eqb}
use Rattle.std.specs.List.{list_all}
use Rattle.std.proofs.lemmas.Bool.{ltb-true, eqb-true, or_cases, both_ways}
use Rattle.ae_lex.specs.declared.kinds.Sign.{Sign}
use Rattle.ae_lex.specs.Spellings.{sign_bytes}
use Rattle.ae_lex.specs.Lexis.{is_blank, is_digit, is_letter, is_inner, is_point, Begins, IsWord, IsTypeVar, IsWhole, IsPointed, IsNumeral, whole, pointed, IsToken, word, type_var, numeral, sign, IsLongest, IsOutsideMark, power, mapsto, quote, caret, at_sign, IsOutside, mark, suffix, IsWide, wide_whole, wide_digits, wide_power}
use Rattle.ae_lex.specs.Inner.Pieces.{StopsAt, IsMark}
use Rattle.std.proofs.lemmas.Bool.{and_parts}
use Rattle.std.proofs.lemmas.List.{append-nil}
use Rattle.ae_lex.proofs.Parts.{all_back}
use Rattle.ae_lex.proofs.Tables.{sign_mark}

-- ---- bytes
pub digit_range : (b : ℕ) → is_digit b ≡ true → (48 ≤ b) × (b ≤ 57)
digit_range b e = let t = and_parts (nat_lt 47 b) (nat_lt b 58) e in let l = ltb-true _ _ t.0 in let m = ltb-true _ _ t.1 in (omega (arith, l), omega (arith, m))

letter_range : (b : ℕ) → is_letter b ≡ true → ((65 ≤ b) × (b ≤ 90)) ⊎ (((97 ≤ b) × (b ≤ 122)) ⊎ (b ≡ 95))
letter_range b e = elim (or_cases ((nat_lt 64 b && nat_lt b 91) || (nat_lt 96 b && nat_lt b 123)) (nat_eq b 95) e) [
  | inl f ↦ elim (or_cases (nat_lt 64 b && nat_lt b 91) (nat_lt 96 b && nat_lt b 123) f) [
    | inl g ↦ let t = and_parts (nat_lt 64 b) (nat_lt b 91) g in let l = ltb-true _ _ t.0 in let m = ltb-true _ _ t.1 in inl (omega (arith, l), omega (arith, m))
    | inr g ↦ let t = and_parts (nat_lt 96 b) (nat_lt b 123) g in let l = ltb-true _ _ t.0 in let m = ltb-true _ _ t.1 in inr (inl (omega (arith, l), omega (arith, m)))
  ]
  | inr f ↦ inr (inr (eqb-true b 95 f))
]

pub letter_not_digit : (b : ℕ) → is_letter b ≡ true → is_digit b ≡ true → ⊥
letter_not_digit b e f = let d = digit_range b f in elim (letter_range b e) [ inl l ↦ omega (arith, d.0, d.1, l.0, l.1) | inr r ↦ elim r [ inl l ↦ omega (arith, d.0, d.1, l.0, l.1) | inr l ↦ omega (arith, d.0, d.1, l) ] ]

pub letter_not : (b n : ℕ) → is_letter b ≡ true → n ≤ 57 → b ≡ n → ⊥
letter_not b n e m h = elim (letter_range b e) [ inl l ↦ omega (arith, l.0, l.1) | inr r ↦ elim r [ inl l ↦ omega (arith, l.0, l.1) | inr l ↦ omega (arith, l) ] ]

pub digit_not : (b n : ℕ) → is_digit b ≡ true → (n < 48) ⊎ (57 < n) → b ≡ n → ⊥
digit_not b n e (inl m) h = let d = digit_range b e in omega (arith, d.0, d.1)
digit_not b n e (inr m) h = let d = digit_range b e in omega (arith, d.0, d.1)

pub blank_small : (b : ℕ) → is_blank b ≡ true → b ≤ 32
blank_small b e = elim (or_cases (nat_eq b 9 || nat_eq b 10 || nat_eq b 12 || nat_eq b 13) (nat_eq b 32) e) [
  | inl f ↦ elim (or_cases (nat_eq b 9 || nat_eq b 10 || nat_eq b 12) (nat_eq b 13) f) [
    | inl g ↦ elim (or_cases (nat_eq b 9 || nat_eq b 10) (nat_eq b 12) g) [
      | inl h ↦ elim (or_cases (nat_eq b 9) (nat_eq b 10) h) [ inl k ↦ let q = eqb-true b 9 k in omega (arith, q) | inr k ↦ let q = eqb-true b 10 k in omega (arith, q) ]
      | inr h ↦ let q = eqb-true b 12 h in omega (arith, q)
    ]
    | inr g ↦ let q = eqb-true b 13 g in omega (arith, q)
  ]
  | inr f ↦ let q = eqb-true b 32 f in omega (arith, q)
]

pub letter_not_blank : (b : ℕ) → is_letter b ≡ true → is_blank b ≡ true → ⊥
letter_not_blank b e f = let s = blank_small b f in letter_not b b e (omega (arith, s)) refl

pub digit_not_blank : (b : ℕ) → is_digit b ≡ true → is_blank b ≡ true → ⊥
digit_not_blank b e f = let s = blank_small b f in let d = digit_range b e in omega (arith, s, d.0)

-- ---- what tokens begin with
pub numeral_head : (b : ℕ) (u : List ℕ) → IsNumeral (b ∷ u) → is_digit b ≡ true
numeral_head b u (whole p) = (and_parts (is_digit b) (list_all is_digit u) p.1).0
numeral_head b u (pointed before after p) = go before after p.written p.front
  where
    go : (before after : List ℕ) → b ∷ u ≡ before ++ 46 ∷ after → IsWhole before → is_digit b ≡ true
    go [] after e f = absurd (f.0 refl)
    go (c ∷ before) after e f = let h : c ≡ b = cc in subst (λ z. is_digit z ≡ true) h (and_parts (is_digit c) (list_all is_digit before) f.1).0

pub sign_head : (b : ℕ) (u : List ℕ) (s : Sign) → b ∷ u ≡ sign_bytes s → IsMark b
sign_head b u s e = let m = sign_mark s in let f : b ∷ u ≡ m.head ∷ m.tail = e ∙ m.is in let h : m.head ≡ b = cc in subst (λ z. IsMark z) h m.mark

pub no_empty_token : IsToken [] → ⊥
no_empty_token (word p) = p
no_empty_token (type_var p) = p
no_empty_token (numeral (whole p)) = p.0 refl
no_empty_token (numeral (pointed before after p)) = go before after p.written
  where
    go : (before after : List ℕ) → [] ≡ before ++ 46 ∷ after → ⊥
    go [] after e = cc
    go (c ∷ before) after e = cc
no_empty_token (sign s e) = let m = sign_mark s in let f : [] ≡ m.head ∷ m.tail = e ∙ m.is in cc

-- the longer token, at a byte of each class
at_letter : (b : ℕ) (u : List ℕ) → is_letter b ≡ true → IsToken (b ∷ u) → list_all is_inner u ≡ true
at_letter b u e (word p) = p.1
at_letter b u e (type_var p) = absurd (letter_not b 39 e (omega arith) p.0)
at_letter b u e (numeral p) = absurd (letter_not_digit b e (numeral_head b u p))
at_letter b u e (sign s q) = absurd (both_ways (is_letter b) (sign_head b u s q).not_letter e)

pub at_quote : (b : ℕ) (u : List ℕ) → b ≡ 39 → IsToken (b ∷ u) → IsWord u
at_quote b u e (word p) = absurd (letter_not b 39 p.0 (omega arith) e)
at_quote b u e (type_var p) = p.1
at_quote b u e (numeral p) = absurd (digit_not b 39 (numeral_head b u p) (inl (omega arith)) e)
at_quote b u e (sign s q) = absurd ((sign_head b u s q).not_quote e)

at_digit : (b : ℕ) (u : List ℕ) → is_digit b ≡ true → IsToken (b ∷ u) → IsNumeral (b ∷ u)
at_digit b u e (word p) = absurd (letter_not_digit b p.0 e)
at_digit b u e (type_var p) = absurd (digit_not b 39 e (inl (omega arith)) p.0)
at_digit b u e (numeral p) = p
at_digit b u e (sign s q) = absurd (both_ways (is_digit b) (sign_head b u s q).not_digit e)

pub at_mark : (b : ℕ) (u : List ℕ) → IsMark b → IsToken (b ∷ u) → (s : Sign) × (b ∷ u ≡ sign_bytes s)
at_mark b u m (word p) = absurd (both_ways (is_letter b) m.not_letter p.0)
at_mark b u m (type_var p) = absurd (m.not_quote p.0)
at_mark b u m (numeral p) = absurd (both_ways (is_digit b) m.not_digit (numeral_head b u p))
at_mark b u m (sign s q) = (s, q)

-- ---- the longest
stop_false : (p : ℕ → Bool) (m : ℕ) (x rest : List ℕ) → StopsAt p rest → rest ≡ m ∷ x → p m ≡ true → ⊥
stop_false p m x rest s e h = both_ways (p m) (subst (λ z. StopsAt p z) e s) h

pub word_longest : (w rest : List ℕ) → IsWord w → StopsAt is_inner rest → IsLongest w rest
word_longest [] rest i s more after e t = absurd i
word_longest (b ∷ u) rest i s [] after e t = refl
word_longest (b ∷ u) rest i s (m ∷ more) after e t =
    let all = all_back is_inner u (m ∷ more) (at_letter b (u ++ m ∷ more) i.0 t) in
    absurd (stop_false is_inner m (more ++ after) rest s e (and_parts (is_inner m) (list_all is_inner more) all).0)

pub type_var_longest : (w rest : List ℕ) → IsTypeVar w → StopsAt is_inner rest → IsLongest w rest
type_var_longest [] rest i s more after e t = absurd i
type_var_longest (b ∷ []) rest i s more after e t = absurd i.1
type_var_longest (b ∷ c ∷ u) rest i s [] after e t = refl
type_var_longest (b ∷ c ∷ u) rest i s (m ∷ more) after e t =
    let all = all_back is_inner u (m ∷ more) (at_quote b (c ∷ u ++ m ∷ more) i.0 t).1 in
    absurd (stop_false is_inner m (more ++ after) rest s e (and_parts (is_inner m) (list_all is_inner more) all).0)

-- after digits, a longer numeral goes on with a digit or a point
split_digits : (w before more after : List ℕ) (m : ℕ) → list_all is_digit w ≡ true → list_all is_digit before ≡ true → w ++ m ∷ more ≡ before ++ 46 ∷ after → (is_digit m ≡ true) ⊎ (m ≡ 46)
split_digits [] [] more after m d f e = inr (let h : m ≡ 46 = cc in h)
split_digits [] (c ∷ before) more after m d f e = let h : c ≡ m = cc in inl (subst (λ z. is_digit z ≡ true) h (and_parts (is_digit c) (list_all is_digit before) f).0)
split_digits (b ∷ w) [] more after m d f e = let h : b ≡ 46 = cc in absurd (digit_not b 46 (and_parts (is_digit b) (list_all is_digit w) d).0 (inl (omega arith)) h)
split_digits (b ∷ w) (c ∷ before) more after m d f e = let h : w ++ m ∷ more ≡ before ++ 46 ∷ after = cc in split_digits w before more after m (and_parts (is_digit b) (list_all is_digit w) d).1 (and_parts (is_digit c) (list_all is_digit before) f).1 h

-- where the digits of a numeral end, and its point stands
pub same_point : (before before' after after' : List ℕ) → list_all is_digit before ≡ true → list_all is_digit before' ≡ true → before ++ 46 ∷ after ≡ before' ++ 46 ∷ after' → (before ≡ before') × (after ≡ after')
same_point [] [] after after' d f e = (refl, let h : after ≡ after' = cc in h)
same_point [] (c ∷ before') after after' d f e = let h : c ≡ 46 = cc in absurd (digit_not c 46 (and_parts (is_digit c) (list_all is_digit before') f).0 (inl (omega arith)) h)
same_point (b ∷ before) [] after after' d f e = let h : b ≡ 46 = cc in absurd (digit_not b 46 (and_parts (is_digit b) (list_all is_digit before) d).0 (inl (omega arith)) h)
same_point (b ∷ before) (c ∷ before') after after' d f e =
    let h : b ≡ c = cc in
    let t : before ++ 46 ∷ after ≡ before' ++ 46 ∷ after' = cc in
    let s = same_point before before' after after' (and_parts (is_digit b) (list_all is_digit before) d).1 (and_parts (is_digit c) (list_all is_digit before') f).1 t in
    (λ i. h i ∷ s.0 i, s.1)

-- digits alone have no point
pub no_point : (w before after : List ℕ) → list_all is_digit w ≡ true → w ≡ before ++ 46 ∷ after → ⊥
no_point w before after d e =
    let all = all_back is_digit before (46 ∷ after) (subst (λ z. list_all is_digit z ≡ true) e d) in
    digit_not 46 46 (and_parts (is_digit 46) (list_all is_digit after) all).0 (inl (omega arith)) refl

pub whole_longest : (w rest : List ℕ) → IsWhole w → StopsAt is_digit rest → StopsAt is_point rest → IsLongest w rest
whole_longest [] rest i s p more after e t = absurd (i.0 refl)
whole_longest (b ∷ u) rest i s p [] after e t = refl
whole_longest (b ∷ u) rest i s p (m ∷ more) after e t = go (at_digit b (u ++ m ∷ more) (and_parts (is_digit b) (list_all is_digit u) i.1).0 t)
  where
    go : IsNumeral (b ∷ u ++ m ∷ more) → m ∷ more ≡ []
    go (whole n) = absurd (stop_false is_digit m (more ++ after) rest s e (and_parts (is_digit m) (list_all is_digit more) (all_back is_digit (b ∷ u) (m ∷ more) n.1)).0)
    go (pointed before back n) = elim (split_digits (b ∷ u) before more back m i.1 n.front.1 n.written) [
      | inl d ↦ absurd (stop_false is_digit m (more ++ after) rest s e d)
      | inr q ↦ absurd (stop_false is_point m (more ++ after) rest p e (eq-eqb m 46 q))
    ]

pub pointed_longest : (w before back rest : List ℕ) → IsPointed w before back → StopsAt is_digit rest → IsLongest w rest
pointed_longest w before back rest i s [] after e t = refl
pointed_longest [] before back rest i s (m ∷ more) after e t = absurd (no_empty_token (numeral (pointed before back i)))
pointed_longest (b ∷ u) before back rest i s (m ∷ more) after e t = go (at_digit b (u ++ m ∷ more) (numeral_head b u (pointed before back i)) t)
  where
    joined : b ∷ u ++ m ∷ more ≡ before ++ 46 ∷ (back ++ m ∷ more)
    joined = ap (λ z. z ++ m ∷ more) i.written ∙ append_assoc before (46 ∷ back) (m ∷ more)

    go : IsNumeral (b ∷ u ++ m ∷ more) → m ∷ more ≡ []
    go (whole n) = absurd (no_point (b ∷ u ++ m ∷ more) before (back ++ m ∷ more) n.1 joined)
    go (pointed before' back' n) =
        let q = same_point before before' (back ++ m ∷ more) back' i.front.1 n.front.1 (sym joined ∙ n.written) in
        let all = all_back is_digit back (m ∷ more) (subst (λ z. list_all is_digit z ≡ true) (sym q.1) n.back) in
        absurd (stop_false is_digit m (more ++ after) rest s e (and_parts (is_digit m) (list_all is_digit more) all).0)

pub sign_longest : (s : Sign) (rest : List ℕ) → ((t : Sign) → Begins (sign_bytes t) (sign_bytes s ++ rest) → length (sign_bytes t) ≤ length (sign_bytes s)) → IsLongest (sign_bytes s) rest
sign_longest s rest l [] after e t = refl
sign_longest s rest l (m ∷ more) after e t =
    let h = sign_mark s in
    let f : sign_bytes s ++ m ∷ more ≡ h.head ∷ (h.tail ++ m ∷ more) = ap (λ z. z ++ m ∷ more) h.is in
    let q = at_mark h.head (h.tail ++ m ∷ more) h.mark (subst IsToken f t) in
    let j : sign_bytes s ++ rest ≡ sign_bytes q.0 ++ after = ap (λ z. sign_bytes s ++ z) e ∙ sym (append_assoc (sign_bytes s) (m ∷ more) after) ∙ ap (λ z. z ++ after) (f ∙ q.1) in
    let k = l q.0 (after, j) in
    let n : length (sign_bytes s) + length (m ∷ more) ≡ length (sign_bytes q.0) = sym (length-append (sign_bytes s) (m ∷ more)) ∙ ap length (f ∙ q.1) in
    absurd (omega (arith, k, n))

-- ---- two longest tokens at one place
prefix_cases : (w w' r r' : List ℕ) → w ++ r ≡ w' ++ r' → ((m : List ℕ) × (w' ≡ w ++ m) × (r ≡ m ++ r')) ⊎ ((m : List ℕ) × (w ≡ w' ++ m) × (r' ≡ m ++ r))
prefix_cases [] w' r r' e = inl (w', refl, e)
prefix_cases (b ∷ w) [] r r' e = inr (b ∷ w, refl, sym e)
prefix_cases (b ∷ w) (c ∷ w') r r' e =
    let h : b ≡ c = cc in
    let t : w ++ r ≡ w' ++ r' = cc in
    elim (prefix_cases w w' r r' t) [
      | inl p ↦ inl (p.0, (λ i. (sym h) i ∷ p.1 i), p.2)
      | inr p ↦ inr (p.0, (λ i. h i ∷ p.1 i), p.2)
    ]

pub same_longest : (w w' r r' : List ℕ) → w ++ r ≡ w' ++ r' → IsToken w → IsToken w' → IsLongest w r → IsLongest w' r' → w ≡ w'
same_longest w w' r r' e t t' l l' = elim (prefix_cases w w' r r' e) [
  | inl p ↦ let n = l p.0 r' p.2 (subst IsToken p.1 t') in sym (p.1 ∙ ap (λ z. w ++ z) n ∙ append-nil w)
  | inr p ↦ let n = l' p.0 r p.2 (subst IsToken p.1 t) in p.1 ∙ ap (λ z. w' ++ z) n ∙ append-nil w'
]

-- ---- what the profile leaves out
mark_42 : IsMark 42
mark_42 = record { not_blank = refl; not_letter = refl; not_digit = refl; not_quote = λ e. omega arith }

head_is : (p b : ℕ) (u y rest : List ℕ) → b ∷ y ≡ p ∷ rest → b ≡ p
head_is p b u y rest e = cc

pub outside_mark : (b : ℕ) (y : List ℕ) → IsOutsideMark (b ∷ y) → IsMark b × (b ≢ 40)
outside_mark b y (power p) = let h : 42 ≡ b = cc in (subst IsMark h mark_42, λ e. omega (arith, h))
outside_mark b y (mapsto p) = let h : 124 ≡ b = cc in (subst IsMark h (record { not_blank = refl; not_letter = refl; not_digit = refl; not_quote = λ e. omega arith }), λ e. omega (arith, h))
outside_mark b y (quote p) = let h : 34 ≡ b = cc in (subst IsMark h (record { not_blank = refl; not_letter = refl; not_digit = refl; not_quote = λ e. omega arith }), λ e. omega (arith, h))
outside_mark b y (caret p) = let h : 94 ≡ b = cc in (subst IsMark h (record { not_blank = refl; not_letter = refl; not_digit = refl; not_quote = λ e. omega arith }), λ e. omega (arith, h))
outside_mark b y (at_sign p) = let h : 64 ≡ b = cc in (subst IsMark h (record { not_blank = refl; not_letter = refl; not_digit = refl; not_quote = λ e. omega arith }), λ e. omega (arith, h))

-- the numeral of a suffix
pub suffix_digit : (b : ℕ) (y w rest : List ℕ) → b ∷ y ≡ w ++ rest → IsNumeral w → is_digit b ≡ true
suffix_digit b y [] rest e n = absurd (no_empty_token (numeral n))
suffix_digit b y (c ∷ w) rest e n = let h : c ≡ b = cc in subst (λ z. is_digit z ≡ true) h (numeral_head c w n)

pub not_outside : (b : ℕ) (y : List ℕ) → (IsOutsideMark (b ∷ y) → ⊥) → (is_digit b ≡ true → ⊥) → IsOutside (b ∷ y) → ⊥
not_outside b y m d (mark o) = m o
not_outside b y m d (suffix w rest e n l k) = d (suffix_digit b y w rest e n)

pub wide_numeral : (w : List ℕ) → IsWide w → IsNumeral w
wide_numeral w (wide_whole p h) = whole p
wide_numeral w (wide_digits before after p h) = pointed before after p
wide_numeral w (wide_power before after p h) = pointed before after p

pub not_wide : (b : ℕ) (y : List ℕ) → (is_digit b ≡ true → ⊥) → IsWide (b ∷ y) → ⊥
not_wide b y d w = d (numeral_head b y (wide_numeral (b ∷ y) w))

pub no_opening : (b : ℕ) (y : List ℕ) → b ≢ 40 → Begins (40 ∷ 42 ∷ []) (b ∷ y) → ⊥
no_opening b y n p = n (let h : b ≡ 40 = (let e = p.1 in cc) in h)
