-- Words, signs and numerals before what follows them.
use Rattle.std.proofs.Common.{ℕ, ◌+◌, ◌*◌, ◌^◌, ◌≤◌, ◌<◌, ◌≢◌, Bool, true, false, not, ◌&&◌, ◌||◌, nat_eq, ◌%◌, List, [], ◌∷◌, ◌++◌, ◌≡◌, length, refl, sym, ap, ◌∙◌, subst, arith, nat_lt}
use Rattle.std.specs.Prelude.{decimal, IsTrue, pos}
use Rattle.std.specs.List.{list_all}
use Rattle.std.specs.Int.{IsGcd}
use Rattle.std.proofs.Math.Nat.{dvd_refl, dvd-mul_left}
use Rattle.std.proofs.lemmas.Bool.{and_parts, both_ways, ltb-true}
use Rattle.std.proofs.lemmas.Fmt.{decimal_by_steps}
use Rattle.ae_base.proofs.Tests.{true_false}
use Rattle.ae_lex.specs.contracts.kinds.Reserved.{the_type as the_words}
use Rattle.ae_lex.specs.declared.kinds.TokenKind.{TokenKind}
use Rattle.ae_lex.specs.declared.kinds.TokenKind.TheVariants as kind
use Rattle.ae_lex.specs.declared.kinds.Reserved.{Reserved}
use Rattle.ae_lex.specs.declared.kinds.Sign.{Sign}
use Rattle.ae_lex.specs.declared.kinds.Sign.TheVariants as sign
use Rattle.ae_lex.specs.Spellings.{word_bytes, sign_bytes}
use Rattle.ae_lex.specs.Lexis.{is_blank, is_digit, is_letter, is_inner, Begins, BeginsWithLetter, IsWord, IsPointed, IsNumeral, pointed, numeral, number, IsLowest, IsWide, wide_whole, wide_digits, wide_power, HasKind, IsLongest, IsOutsideMark, power, mapsto, quote, caret, at_sign, IsOutside, mark, suffix, IsTokenBefore}
use Rattle.ae_lex.specs.Inner.Pieces.{StopsAt}
use Rattle.ae_lex.proofs.Enumerations.{AreAll, each_passes}
use Rattle.ae_lex.proofs.Forms.{letter_not, letter_not_digit, word_longest, pointed_longest, sign_longest, same_longest, same_point, no_point, outside_mark, not_outside, not_wide, no_opening}
use Rattle.ae_lex.proofs.Parts.{all-append, all_one, append_cancel}
use Rattle.ae_lex.proofs.Tables.{words, reserved_is_word}
use denote.Enum.Declared.{rowss}
use denote.Enum.Enum.{tag_below}

-- ---- words
pub word_before : (k : TokenKind) (w rest : List ℕ) → IsWord w → HasKind k w → StopsAt is_inner rest → IsTokenBefore k w rest
word_before k [] rest w h s = absurd w
word_before k (b ∷ u) rest w h s = record {
  has_kind = h;
  longest = word_longest (b ∷ u) rest w s;
  no_comment = no_opening b (u ++ rest) (λ e. letter_not b 40 w.0 (omega arith) e);
  not_outside = not_outside b (u ++ rest) (λ o. both_ways (is_letter b) (outside_mark b (u ++ rest) o).0.not_letter w.0) (letter_not_digit b w.0);
  not_wide = not_wide b u (letter_not_digit b w.0);
}

pub reserved_before : (r : Reserved) (rest : List ℕ) → StopsAt is_inner rest → IsTokenBefore (kind.Reserved r) (word_bytes r) rest
reserved_before r rest s = word_before (kind.Reserved r) (word_bytes r) rest (reserved_is_word r) refl s

-- no reserved word is one letter, and each is made of letters
all_words : AreAll the_words words
all_words = record { bare = tt; order = refl; whole = λ r. tag_below (rowss the_words.parts) (the_words.to r) }

letters_alone : (r : Reserved) → nat_lt 1 (length (word_bytes r)) && list_all is_letter (word_bytes r) ≡ true
letters_alone r = each_passes the_words words all_words (λ r. nat_lt 1 (length (word_bytes r)) && list_all is_letter (word_bytes r)) refl r

-- an identifier: a word that isn't reserved
pub record IsIdentifier (w : List ℕ) : Type 0 where
  pub word : IsWord w
  pub free : (r : Reserved) → w ≢ word_bytes r

pub ident_before : (w rest : List ℕ) → IsIdentifier w → StopsAt is_inner rest → IsTokenBefore kind.Ident w rest
ident_before w rest i s = word_before kind.Ident w rest i.word (i.word, i.free) s

pub one_letter : (b : ℕ) → is_letter b ≡ true → IsIdentifier (b ∷ [])
one_letter b e = record {
  word = (e, refl);
  free = λ r q.
      let long = ltb-true _ _ (and_parts (nat_lt 1 (length (word_bytes r))) (list_all is_letter (word_bytes r)) (letters_alone r)).0 in
      omega (arith, long, ap length q);
}

-- digits, one or more
pub record AreDigits (ds : List ℕ) : Type 0 where
  pub first : ℕ
  pub others : List ℕ
  pub is : ds ≡ first ∷ others
  pub digit : is_digit first ≡ true
  pub inner : list_all is_inner ds ≡ true

digit_test : (n : ℕ) → n < 10 → is_digit (48 + n) ≡ true
digit_test n lt = search (arith, lt)

inner_test : (n : ℕ) → n < 10 → is_inner (48 + n) ≡ true
inner_test n lt = ap (λ z. is_letter (48 + n) || z || nat_eq (48 + n) 63) (digit_test n lt) ∙ either (is_letter (48 + n)) (nat_eq (48 + n) 63)
  where
    either : (a b : Bool) → a || true || b ≡ true
    either true b = refl
    either false b = refl

pub decimal_digits : (n : ℕ) → n < 2 ^ 64 → AreDigits (decimal n)
decimal_digits n lt = decimal_by_steps (λ k ds. AreDigits ds) one more n lt
  where
    one : (k : ℕ) → k < 10 → AreDigits ((48 + k) ∷ [])
    one k h = record { first = 48 + k; others = []; is = refl; digit = digit_test k h; inner = all_one is_inner (48 + k) (inner_test k h) }

    more : (k : ℕ) (ds : List ℕ) → 10 ≤ k → AreDigits ds → AreDigits (ds ++ ((48 + k % 10) ∷ []))
    more k ds h d = record {
      first = d.first;
      others = d.others ++ ((48 + k % 10) ∷ []);
      is = ap (λ z. z ++ ((48 + k % 10) ∷ [])) d.is;
      digit = d.digit;
      inner = all-append is_inner ds ((48 + k % 10) ∷ []) d.inner (all_one is_inner (48 + k % 10) (inner_test (k % 10) (omega arith)));
    }

-- digits behind a letter
pub numbered_name : (b n : ℕ) → is_letter b ≡ true → n < 2 ^ 64 → IsIdentifier (b ∷ decimal n)
numbered_name b n e lt =
    let d = decimal_digits n lt in
    record {
      word = (e, d.inner);
      free = λ r q.
          let letters = (and_parts (nat_lt 1 (length (word_bytes r))) (list_all is_letter (word_bytes r)) (letters_alone r)).1 in
          let here : list_all is_letter (b ∷ d.first ∷ d.others) ≡ true = subst (λ z. list_all is_letter (b ∷ z) ≡ true) d.is (subst (λ z. list_all is_letter z ≡ true) (sym q) letters) in
          let tail = (and_parts (is_letter b) (list_all is_letter (d.first ∷ d.others)) here).1 in
          letter_not_digit d.first (and_parts (is_letter d.first) (list_all is_letter d.others) tail).0 d.digit;
    }

-- ---- signs
-- a sign is followed by nothing, a blank or a letter
abbrev pub FollowsSign : List ℕ → Type 0
FollowsSign [] = Unit {0}
FollowsSign (b ∷ x) = IsTrue (is_blank b || is_letter b)

-- the signs of the demo
abbrev pub is_used : Sign → Bool
is_used sign.Arrow = true
is_used sign.Equal = true
is_used sign.Plus = true
is_used sign.OpenParen = true
is_used sign.CloseParen = true
is_used sign.Comma = true
is_used sign.Colon = true
is_used _ = false

-- no byte of a sign is a blank or a letter
abbrev is_sign_byte : ℕ → Bool
is_sign_byte b = not (is_blank b || is_letter b)

bytes_of_signs : (s : Sign) → list_all is_sign_byte (sign_bytes s) ≡ true
bytes_of_signs sign.Arrow = refl
bytes_of_signs sign.Iff = refl
bytes_of_signs sign.NotEqual = refl
bytes_of_signs sign.AtMost = refl
bytes_of_signs sign.AtLeast = refl
bytes_of_signs sign.Less = refl
bytes_of_signs sign.Greater = refl
bytes_of_signs sign.Equal = refl
bytes_of_signs sign.Plus = refl
bytes_of_signs sign.Minus = refl
bytes_of_signs sign.Star = refl
bytes_of_signs sign.Slash = refl
bytes_of_signs sign.Percent = refl
bytes_of_signs sign.OpenParen = refl
bytes_of_signs sign.CloseParen = refl
bytes_of_signs sign.OpenBrace = refl
bytes_of_signs sign.CloseBrace = refl
bytes_of_signs sign.OpenBracket = refl
bytes_of_signs sign.CloseBracket = refl
bytes_of_signs sign.Comma = refl
bytes_of_signs sign.Colon = refl
bytes_of_signs sign.Semicolon = refl
bytes_of_signs sign.Dot = refl
bytes_of_signs sign.Bar = refl

-- bytes of a class that begin others, which go on with a byte of another class, are no longer than those
no_longer : (p : ℕ → Bool) (w u rest after : List ℕ) → list_all p u ≡ true → StopsAt p rest → w ++ rest ≡ u ++ after → length u ≤ length w
no_longer p [] [] rest after a s e = omega arith
no_longer p [] (c ∷ u) [] after a s e = absurd (let h : ⊥ = cc in h)
no_longer p [] (c ∷ u) (b ∷ rest) after a s e =
    let h : c ≡ b = cc in
    absurd (both_ways (p b) s (subst (λ z. p z ≡ true) h (and_parts (p c) (list_all p u) a).0))
no_longer p (b ∷ w) [] rest after a s e = omega arith
no_longer p (b ∷ w) (c ∷ u) rest after a s e =
    let t : w ++ rest ≡ u ++ after = cc in
    let n = no_longer p w u rest after (and_parts (p c) (list_all p u) a).1 s t in
    omega (arith, n)

stops_sign : (rest : List ℕ) → FollowsSign rest → StopsAt is_sign_byte rest
stops_sign [] f = tt
stops_sign (b ∷ rest) f = ap not f

no_mark : (b : ℕ) (y : List ℕ) → b ≢ 42 → b ≢ 124 → b ≢ 34 → b ≢ 94 → b ≢ 64 → IsOutsideMark (b ∷ y) → ⊥
no_mark b y p q r s t (power k) = p (let e = k.1 in let h : b ≡ 42 = cc in h)
no_mark b y p q r s t (mapsto k) = q (let e = k.1 in let h : b ≡ 124 = cc in h)
no_mark b y p q r s t (quote k) = r (let e = k.1 in let h : b ≡ 34 = cc in h)
no_mark b y p q r s t (caret k) = s (let e = k.1 in let h : b ≡ 94 = cc in h)
no_mark b y p q r s t (at_sign k) = t (let e = k.1 in let h : b ≡ 64 = cc in h)

sign_as : (s : Sign) (b : ℕ) (u rest : List ℕ) → sign_bytes s ≡ b ∷ u → b ≢ 42 → b ≢ 124 → b ≢ 34 → b ≢ 94 → b ≢ 64 → (is_digit b ≡ true → ⊥) → (Begins (40 ∷ 42 ∷ []) (b ∷ u ++ rest) → ⊥) → FollowsSign rest
    → IsTokenBefore (kind.Sign s) (sign_bytes s) rest
sign_as s b u rest e p q r x t d c f = record {
  has_kind = refl;
  longest = sign_longest s rest (λ v k. no_longer is_sign_byte (sign_bytes s) (sign_bytes v) rest k.0 (bytes_of_signs v) (stops_sign rest f) k.1);
  no_comment = subst (λ z. Begins (40 ∷ 42 ∷ []) (z ++ rest) → ⊥) (sym e) c;
  not_outside = subst (λ z. IsOutside (z ++ rest) → ⊥) (sym e) (not_outside b (u ++ rest) (no_mark b (u ++ rest) p q r x t) d);
  not_wide = subst (λ z. IsWide z → ⊥) (sym e) (not_wide b u d);
}

no_star : (rest : List ℕ) → FollowsSign rest → Begins (40 ∷ 42 ∷ []) (40 ∷ rest) → ⊥
no_star [] f k = (let e = k.1 in let h : ⊥ = cc in h)
no_star (b ∷ rest) f k = (let e = k.1 in let h : b ≡ 42 = cc in true_false (sym (subst (λ z. is_blank z || is_letter z ≡ true) h f)))

pub sign_before : (s : Sign) (rest : List ℕ) → is_used s ≡ true → FollowsSign rest → IsTokenBefore (kind.Sign s) (sign_bytes s) rest
sign_before sign.Arrow rest u f = sign_as sign.Arrow 45 (62 ∷ []) rest refl (λ e. omega arith) (λ e. omega arith) (λ e. omega arith) (λ e. omega arith) (λ e. omega arith) (λ d. true_false (sym d)) (no_opening 45 (62 ∷ rest) (λ e. omega arith)) f
sign_before sign.Equal rest u f = sign_as sign.Equal 61 [] rest refl (λ e. omega arith) (λ e. omega arith) (λ e. omega arith) (λ e. omega arith) (λ e. omega arith) (λ d. true_false (sym d)) (no_opening 61 rest (λ e. omega arith)) f
sign_before sign.Plus rest u f = sign_as sign.Plus 43 [] rest refl (λ e. omega arith) (λ e. omega arith) (λ e. omega arith) (λ e. omega arith) (λ e. omega arith) (λ d. true_false (sym d)) (no_opening 43 rest (λ e. omega arith)) f
sign_before sign.OpenParen rest u f = sign_as sign.OpenParen 40 [] rest refl (λ e. omega arith) (λ e. omega arith) (λ e. omega arith) (λ e. omega arith) (λ e. omega arith) (λ d. true_false (sym d)) (no_star rest f) f
sign_before sign.CloseParen rest u f = sign_as sign.CloseParen 41 [] rest refl (λ e. omega arith) (λ e. omega arith) (λ e. omega arith) (λ e. omega arith) (λ e. omega arith) (λ d. true_false (sym d)) (no_opening 41 rest (λ e. omega arith)) f
sign_before sign.Comma rest u f = sign_as sign.Comma 44 [] rest refl (λ e. omega arith) (λ e. omega arith) (λ e. omega arith) (λ e. omega arith) (λ e. omega arith) (λ d. true_false (sym d)) (no_opening 44 rest (λ e. omega arith)) f
sign_before sign.Colon rest u f = sign_as sign.Colon 58 [] rest refl (λ e. omega arith) (λ e. omega arith) (λ e. omega arith) (λ e. omega arith) (λ e. omega arith) (λ d. true_false (sym d)) (no_opening 58 rest (λ e. omega arith)) f
sign_before sign.Iff rest u f = true_false (sym u)
sign_before sign.NotEqual rest u f = true_false (sym u)
sign_before sign.AtMost rest u f = true_false (sym u)
sign_before sign.AtLeast rest u f = true_false (sym u)
sign_before sign.Less rest u f = true_false (sym u)
sign_before sign.Greater rest u f = true_false (sym u)
sign_before sign.Minus rest u f = true_false (sym u)
sign_before sign.Star rest u f = true_false (sym u)
sign_before sign.Slash rest u f = true_false (sym u)
sign_before sign.Percent rest u f = true_false (sym u)
sign_before sign.OpenBrace rest u f = true_false (sym u)
sign_before sign.CloseBrace rest u f = true_false (sym u)
sign_before sign.OpenBracket rest u f = true_false (sym u)
sign_before sign.CloseBracket rest u f = true_false (sym u)
sign_before sign.Semicolon rest u f = true_false (sym u)
sign_before sign.Dot rest u f = true_false (sym u)
sign_before sign.Bar rest u f = true_false (sym u)

-- ---- numerals: one digit, a point and a zero
abbrev pub tenths : ℕ → List ℕ
tenths m = (48 + m) ∷ 46 ∷ 48 ∷ []

tenths_pointed : (m : ℕ) → m < 10 → IsPointed (tenths m) ((48 + m) ∷ []) (48 ∷ [])
tenths_pointed m lt = record { written = refl; front = ((λ e. let h : ⊥ = cc in h), all_one is_digit (48 + m) (digit_test m lt)); back = refl }

tenths_number : (m : ℕ) → number ((48 + m) ∷ 48 ∷ []) ≡ m * 10
tenths_number m = omega arith

gcd_ten : (m : ℕ) → IsGcd (m * 10) 10 10
gcd_ten m = (dvd-mul_left 10 m, dvd_refl 10, λ d p q. q)

tenths_lowest : (m : ℕ) → IsLowest (pos m) (pos 1) (number ((48 + m) ∷ 48 ∷ [])) (10 ^ length {A = ℕ} (48 ∷ []))
tenths_lowest m = record {
  up = m;
  down = 1;
  common = 10;
  greatest = subst (λ n. IsGcd n 10 10) (sym (tenths_number m)) (gcd_ten m);
  up_is = tenths_number m;
  down_is = refl;
  top_is = refl;
  bottom_is = refl;
}

-- after a numeral comes nothing, or a byte that is no letter and no digit
no_digit : (rest : List ℕ) → StopsAt is_inner rest → StopsAt is_digit rest
no_digit [] s = tt
no_digit (b ∷ rest) s = other (is_letter b) (is_digit b) (nat_eq b 63) s
  where
    other : (a c e : Bool) → a || c || e ≡ false → c ≡ false
    other true c e h = true_false h
    other false true e h = true_false h
    other false false e h = refl

no_letter : (rest : List ℕ) → StopsAt is_inner rest → BeginsWithLetter rest → ⊥
no_letter [] s l = l
no_letter (b ∷ rest) s l = true_false (sym (ap (λ z. z || is_digit b || nat_eq b 63) l) ∙ s)

tenths_not_wide : (m : ℕ) → m < 10 → IsWide (tenths m) → ⊥
tenths_not_wide m lt (wide_whole p h) = no_point (tenths m) ((48 + m) ∷ []) (48 ∷ []) p.1 refl
tenths_not_wide m lt (wide_digits before after p h) =
    let s = same_point ((48 + m) ∷ []) before (48 ∷ []) after (tenths_pointed m lt).front.1 p.front.1 p.written in
    let n : number (before ++ after) ≡ m * 10 = (let a = sym s.0 in let b = sym s.1 in λ i. number (a i ++ b i)) ∙ tenths_number m in
    omega (arith, h, n, lt)
tenths_not_wide m lt (wide_power before after p h) =
    let s = same_point ((48 + m) ∷ []) before (48 ∷ []) after (tenths_pointed m lt).front.1 p.front.1 p.written in
    let n : length after ≡ 1 = ap length (sym s.1) in
    omega (arith, subst (λ k. 2 ^ 127 ≤ 10 ^ k) n h)

pub tenths_before : (m : ℕ) (rest : List ℕ) → m < 10 → StopsAt is_inner rest → IsTokenBefore (kind.Decimal (pos m) (pos 1)) (tenths m) rest
tenths_before m rest lt s = record {
  has_kind = record { before = (48 + m) ∷ []; after = 48 ∷ []; form = tenths_pointed m lt; lowest = tenths_lowest m };
  longest = long;
  no_comment = no_opening (48 + m) (46 ∷ 48 ∷ rest) (λ e. omega (arith, e));
  not_outside = out;
  not_wide = tenths_not_wide m lt;
}
  where
    long : IsLongest (tenths m) rest
    long = pointed_longest (tenths m) ((48 + m) ∷ []) (48 ∷ []) rest (tenths_pointed m lt) (no_digit rest s)

    numeral_here : IsNumeral (tenths m)
    numeral_here = pointed ((48 + m) ∷ []) (48 ∷ []) (tenths_pointed m lt)

    out : IsOutside (tenths m ++ rest) → ⊥
    out (mark o) = both_ways (is_digit (48 + m)) (outside_mark (48 + m) (46 ∷ 48 ∷ rest) o).0.not_digit (digit_test m lt)
    out (suffix w more e n l k) =
        let same : tenths m ≡ w = same_longest (tenths m) w rest more e (numeral numeral_here) (numeral n) long l in
        let left : rest ≡ more = append_cancel (tenths m) rest more (e ∙ ap (λ z. z ++ more) (sym same)) in
        no_letter rest s (subst (λ z. BeginsWithLetter z) (sym left) k)
