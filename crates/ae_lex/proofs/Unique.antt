-- A text is cut in one way.
use Rattle.std.proofs.Common.{ℕ, zero, suc, ◌+◌, ◌*◌, ◌^◌, ◌≤◌, ◌<◌, true, false, List, [], ◌∷◌, ◌++◌, ◌≡◌, inl, inr, length, refl, sym, ap, ◌∙◌, subst, arith, Option, Some, None, ℤ, pos}
use Rattle.std.proofs.Math.Nat.{pos_of_dvd_of_pos, eq_of_mul-eq-mul_right}
use Rattle.std.proofs.lemmas.Bool.{both_ways, cases_Bool}
use Rattle.std.proofs.lemmas.Nat.Gcd.{same_from_IsGcd}
use Rattle.ae_lex.specs.declared.kinds.TokenKind.{TokenKind}
use Rattle.ae_lex.specs.declared.kinds.TokenKind.TheVariants as kind
use Rattle.ae_lex.specs.declared.kinds.Token.{Token}
use Rattle.ae_lex.specs.declared.kinds.LexFault.{LexFault}
use Rattle.ae_lex.specs.declared.kinds.LexFault.TheVariants as fault
use Rattle.ae_lex.specs.declared.kinds.Reserved.{Reserved}
use Rattle.ae_lex.specs.declared.kinds.Sign.{Sign}
use Rattle.ae_lex.specs.declared.kinds.Sign.TheVariants as glyph
use Rattle.ae_lex.specs.Spellings.{word_bytes, sign_bytes}
use Rattle.ae_lex.specs.Lexis.{is_blank, is_digit, is_letter, is_opening, is_closing, Begins, BeginsWithLetter, Closes, IsComment, IsWord, IsTypeVar, IsNumeral, whole, pointed, IsToken, word, type_var, numeral, sign, number, HasKind, IsLongest, IsGap, blank, comment, IsLowest, IsDecimal, IsWide, IsOutsideMark, power, mapsto, quote, caret, at_sign, IsOutside, mark, suffix, IsOpen, IsWideFirst, IsBad, IsFaultAt, IsTokenBefore, IsCut, ends, fails, passes, gives, IsTokenized, IsFault}
use Rattle.ae_lex.proofs.Parts.{append_cancel}
use Rattle.ae_lex.proofs.Comments.{opened, closed, passed, to_along}
use Rattle.ae_lex.proofs.Forms.{no_empty_token, numeral_head, sign_head, letter_not, letter_not_digit, digit_not, same_point, no_point, same_longest, outside_mark, suffix_digit, wide_numeral, blank_small, letter_not_blank, digit_not_blank}
use Rattle.ae_lex.proofs.Tables.{same_word, same_sign, reserved_is_word}
use Rattle.ae_lex.proofs.KindLaws.{has_form, gap_some, token_some}
use Rattle.ae_lex.proofs.NumeralFacts.{ten_positive}
use Rattle.std.proofs.lemmas.Option.{same_Some}

-- ---- the kind of a token

word_numeral : (w : List ℕ) → IsWord w → IsNumeral w → ⊥
word_numeral [] i n = i
word_numeral (b ∷ u) i n = letter_not_digit b i.0 (numeral_head b u n)

word_sign : (w : List ℕ) (s : Sign) → IsWord w → w ≡ sign_bytes s → ⊥
word_sign [] s i e = i
word_sign (b ∷ u) s i e = both_ways (is_letter b) (sign_head b u s e).not_letter i.0

word_type_var : (w : List ℕ) → IsWord w → IsTypeVar w → ⊥
word_type_var [] i v = i
word_type_var (b ∷ u) i v = letter_not b 39 i.0 (omega arith) v.0

type_var_numeral : (w : List ℕ) → IsTypeVar w → IsNumeral w → ⊥
type_var_numeral [] v n = v
type_var_numeral (b ∷ u) v n = digit_not b 39 (numeral_head b u n) (inl (omega arith)) v.0

type_var_sign : (w : List ℕ) (s : Sign) → IsTypeVar w → w ≡ sign_bytes s → ⊥
type_var_sign [] s v e = v
type_var_sign (b ∷ u) s v e = (sign_head b u s e).not_quote v.0

numeral_sign : (w : List ℕ) (s : Sign) → IsNumeral w → w ≡ sign_bytes s → ⊥
numeral_sign [] s n e = no_empty_token (numeral n)
numeral_sign (b ∷ u) s n e = both_ways (is_digit b) (sign_head b u s e).not_digit (numeral_head b u n)

reserved_word : (r : Reserved) (w : List ℕ) → w ≡ word_bytes r → IsWord w
reserved_word r w e = subst IsWord (sym e) (reserved_is_word r)

decimal_numeral : (top bottom : ℤ) (w : List ℕ) → IsDecimal top bottom w → IsNumeral w
decimal_numeral top bottom w d = pointed d.before d.after d.form

-- lowest terms are unique
lowest_same : (t b t' b' : ℤ) (n m : ℕ) → 0 < m → IsLowest t b n m → IsLowest t' b' n m → (t ≡ t') × (b ≡ b')
lowest_same t b t' b' n m p x y =
    let g : x.common ≡ y.common = same_from_IsGcd n m x.common y.common x.greatest y.greatest in
    let some : 0 < y.common = pos_of_dvd_of_pos y.greatest.1 p in
    let up : x.up ≡ y.up = eq_of_mul-eq-mul_right y.common some x.up y.up (ap (λ z. x.up * z) (sym g) ∙ sym x.up_is ∙ y.up_is) in
    let down : x.down ≡ y.down = eq_of_mul-eq-mul_right y.common some x.down y.down (ap (λ z. x.down * z) (sym g) ∙ sym x.down_is ∙ y.down_is) in
    (x.top_is ∙ ap pos up ∙ sym y.top_is, x.bottom_is ∙ ap pos down ∙ sym y.bottom_is)

pub same_kind : (j k : TokenKind) (w : List ℕ) → HasKind j w → HasKind k w → j ≡ k
same_kind kind.Ident kind.Ident w h l = refl
same_kind kind.Ident kind.TypeVar w h l = absurd (word_type_var w h.0 l)
same_kind kind.Ident (kind.Whole n) w h l = absurd (word_numeral w h.0 (whole l.0))
same_kind kind.Ident (kind.Decimal t b) w h l = absurd (word_numeral w h.0 (decimal_numeral t b w l))
same_kind kind.Ident (kind.Reserved r) w h l = absurd (h.1 r l)
same_kind kind.Ident (kind.Sign s) w h l = absurd (word_sign w s h.0 l)
same_kind kind.TypeVar kind.Ident w h l = absurd (word_type_var w l.0 h)
same_kind kind.TypeVar kind.TypeVar w h l = refl
same_kind kind.TypeVar (kind.Whole n) w h l = absurd (type_var_numeral w h (whole l.0))
same_kind kind.TypeVar (kind.Decimal t b) w h l = absurd (type_var_numeral w h (decimal_numeral t b w l))
same_kind kind.TypeVar (kind.Reserved r) w h l = absurd (word_type_var w (reserved_word r w l) h)
same_kind kind.TypeVar (kind.Sign s) w h l = absurd (type_var_sign w s h l)
same_kind (kind.Whole n) kind.Ident w h l = absurd (word_numeral w l.0 (whole h.0))
same_kind (kind.Whole n) kind.TypeVar w h l = absurd (type_var_numeral w l (whole h.0))
same_kind (kind.Whole n) (kind.Whole m) w h l = ap kind.Whole (h.1 ∙ sym l.1)
same_kind (kind.Whole n) (kind.Decimal t b) w h l = absurd (no_point w l.before l.after h.0.1 l.form.written)
same_kind (kind.Whole n) (kind.Reserved r) w h l = absurd (word_numeral w (reserved_word r w l) (whole h.0))
same_kind (kind.Whole n) (kind.Sign s) w h l = absurd (numeral_sign w s (whole h.0) l)
same_kind (kind.Decimal t b) kind.Ident w h l = absurd (word_numeral w l.0 (decimal_numeral t b w h))
same_kind (kind.Decimal t b) kind.TypeVar w h l = absurd (type_var_numeral w l (decimal_numeral t b w h))
same_kind (kind.Decimal t b) (kind.Whole n) w h l = absurd (no_point w h.before h.after l.0.1 h.form.written)
same_kind (kind.Decimal t b) (kind.Decimal t' b') w h l =
    let s = same_point h.before l.before h.after l.after h.form.front.1 l.form.front.1 (sym h.form.written ∙ l.form.written) in
    let n : number (l.before ++ l.after) ≡ number (h.before ++ h.after) = sym (ap (λ z. number (z ++ h.after)) s.0 ∙ ap (λ z. number (l.before ++ z)) s.1) in
    let m : 10 ^ length l.after ≡ 10 ^ length h.after = sym (ap (λ z. 10 ^ length z) s.1) in
    let q : IsLowest t' b' (number (h.before ++ h.after)) (10 ^ length h.after) = subst (λ z. IsLowest t' b' (number (h.before ++ h.after)) z) m (subst (λ z. IsLowest t' b' z (10 ^ length l.after)) n l.lowest) in
    let r = lowest_same t b t' b' (number (h.before ++ h.after)) (10 ^ length h.after) (ten_positive (length h.after)) h.lowest q in
    (λ i. kind.Decimal (r.0 i) (r.1 i))
same_kind (kind.Decimal t b) (kind.Reserved r) w h l = absurd (word_numeral w (reserved_word r w l) (decimal_numeral t b w h))
same_kind (kind.Decimal t b) (kind.Sign s) w h l = absurd (numeral_sign w s (decimal_numeral t b w h) l)
same_kind (kind.Reserved r) kind.Ident w h l = absurd (l.1 r h)
same_kind (kind.Reserved r) kind.TypeVar w h l = absurd (word_type_var w (reserved_word r w h) l)
same_kind (kind.Reserved r) (kind.Whole n) w h l = absurd (word_numeral w (reserved_word r w h) (whole l.0))
same_kind (kind.Reserved r) (kind.Decimal t b) w h l = absurd (word_numeral w (reserved_word r w h) (decimal_numeral t b w l))
same_kind (kind.Reserved r) (kind.Reserved q) w h l = ap kind.Reserved (same_word r q (sym h ∙ l))
same_kind (kind.Reserved r) (kind.Sign s) w h l = absurd (word_sign w s (reserved_word r w h) l)
same_kind (kind.Sign s) kind.Ident w h l = absurd (word_sign w s l.0 h)
same_kind (kind.Sign s) kind.TypeVar w h l = absurd (type_var_sign w s l h)
same_kind (kind.Sign s) (kind.Whole n) w h l = absurd (numeral_sign w s (whole l.0) h)
same_kind (kind.Sign s) (kind.Decimal t b) w h l = absurd (numeral_sign w s (decimal_numeral t b w l) h)
same_kind (kind.Sign s) (kind.Reserved r) w h l = absurd (word_sign w s (reserved_word r w l) h)
same_kind (kind.Sign s) (kind.Sign t) w h l = ap kind.Sign (same_sign s t (sym h ∙ l))

-- ---- comments end in one place
same_close : (d : ℕ) (v v' r r' : List ℕ) → v ++ r ≡ v' ++ r' → Closes d v → Closes d v' → v ≡ v'
same_close zero [] [] r r' e h k = refl
same_close zero [] (b ∷ w) r r' e h k = absurd k
same_close zero (b ∷ w) v' r r' e h k = absurd h
same_close (suc d) [] v' r r' e h k = absurd h
same_close (suc d) (b ∷ []) v' r r' e h k = absurd h
same_close (suc d) (b ∷ c ∷ u) [] r r' e h k = absurd k
same_close (suc d) (b ∷ c ∷ u) (b' ∷ []) r r' e h k = absurd k
same_close (suc d) (b ∷ c ∷ u) (b' ∷ c' ∷ u') r r' e h k =
    let p : b' ≡ b = cc in
    let q : c' ≡ c = cc in
    let t : u ++ r ≡ u' ++ r' = cc in
    let m : Closes (suc d) (b ∷ c ∷ u') = subst (λ z. Closes (suc d) (b ∷ z ∷ u')) q (subst (λ z. Closes (suc d) (z ∷ c' ∷ u')) p k) in
    elim (cases_Bool (is_opening b c)) [
      | inl o ↦ let s = same_close (suc (suc d)) u u' r r' t (to_along (opened d b c u o) h) (to_along (opened d b c u' o) m) in (λ i. (sym p) i ∷ (sym q) i ∷ s i)
      | inr o ↦ elim (cases_Bool (is_closing b c)) [
        | inl l ↦ let s = same_close d u u' r r' t (to_along (closed d b c u o l) h) (to_along (closed d b c u' o l) m) in (λ i. (sym p) i ∷ (sym q) i ∷ s i)
        | inr l ↦ let s = same_close (suc d) (c ∷ u) (c ∷ u') r r' (ap (λ z. c ∷ z) t) (to_along (passed d b c u o l) h) (to_along (passed d b c u' o l) m) in (λ i. (sym p) i ∷ s i) ∙ ap (λ z. b' ∷ z ∷ u') (sym q)
      ]
    ]

same_comment : (w w' r r' : List ℕ) → w ++ r ≡ w' ++ r' → IsComment w → IsComment w' → w ≡ w'
same_comment w w' r r' e c k =
    let f : 40 ∷ 42 ∷ (c.0 ++ r) ≡ 40 ∷ 42 ∷ (k.0 ++ r') = ap (λ z. z ++ r) (sym c.1) ∙ e ∙ ap (λ z. z ++ r') k.1 in
    let t : c.0 ++ r ≡ k.0 ++ r' = append_cancel (40 ∷ 42 ∷ []) (c.0 ++ r) (k.0 ++ r') f in
    c.1 ∙ ap (λ z. 40 ∷ 42 ∷ z) (same_close 1 c.0 k.0 r r' t c.2 k.2) ∙ sym k.1

-- ---- at one place
comment_begins : (x w r : List ℕ) → x ≡ w ++ r → (c : IsComment w) → x ≡ 40 ∷ 42 ∷ (c.0 ++ r)
comment_begins x w r e c = e ∙ ap (λ z. z ++ r) c.1

not_blank_40 : (b : ℕ) → b ≡ 40 → is_blank b ≡ true → ⊥
not_blank_40 b e i = let s = blank_small b i in omega (arith, s)

token_not_blank : (b : ℕ) (u : List ℕ) → IsToken (b ∷ u) → is_blank b ≡ true → ⊥
token_not_blank b u (word i) h = letter_not_blank b i.0 h
token_not_blank b u (type_var i) h = let s = blank_small b h in let e = i.0 in omega (arith, s, e)
token_not_blank b u (numeral n) h = digit_not_blank b (numeral_head b u n) h
token_not_blank b u (sign s e) h = both_ways (is_blank b) (sign_head b u s e).not_blank h

same_gap : (w w' r r' : List ℕ) → w ++ r ≡ w' ++ r' → IsGap w → IsGap w' → w ≡ w'
same_gap w w' r r' e (blank b p i) (blank b' p' i') =
    let f : b ∷ r ≡ b' ∷ r' = ap (λ z. z ++ r) (sym p) ∙ e ∙ ap (λ z. z ++ r') p' in
    let h : b ≡ b' = cc in
    p ∙ ap (λ z. z ∷ []) h ∙ sym p'
same_gap w w' r r' e (blank b p i) (comment c) =
    let f : b ∷ r ≡ 40 ∷ 42 ∷ (c.0 ++ r') = ap (λ z. z ++ r) (sym p) ∙ comment_begins (w ++ r) w' r' e c in
    let h : b ≡ 40 = cc in
    absurd (not_blank_40 b h i)
same_gap w w' r r' e (comment c) (blank b p i) =
    let f : b ∷ r' ≡ 40 ∷ 42 ∷ (c.0 ++ r) = ap (λ z. z ++ r') (sym p) ∙ comment_begins (w' ++ r') w r (sym e) c in
    let h : b ≡ 40 = cc in
    absurd (not_blank_40 b h i)
same_gap w w' r r' e (comment c) (comment c') = same_comment w w' r r' e c c'

gap_token : (k : TokenKind) (w w' r r' : List ℕ) → w ++ r ≡ w' ++ r' → IsGap w → IsTokenBefore k w' r' → ⊥
gap_token k w [] r r' e g t = no_empty_token (has_form k [] t.has_kind)
gap_token k w (b' ∷ u) r r' e (blank b p i) t =
    let f : b ∷ r ≡ b' ∷ (u ++ r') = ap (λ z. z ++ r) (sym p) ∙ e in
    let h : b ≡ b' = cc in
    token_not_blank b' u (has_form k (b' ∷ u) t.has_kind) (subst (λ z. is_blank z ≡ true) h i)
gap_token k w (b' ∷ u) r r' e (comment c) t = t.no_comment (c.0 ++ r, sym e ∙ ap (λ z. z ++ r) c.1)

same_token : (j k : TokenKind) (w w' r r' : List ℕ) → w ++ r ≡ w' ++ r' → IsTokenBefore j w r → IsTokenBefore k w' r' → (w ≡ w') × (j ≡ k)
same_token j k w w' r r' e t t' =
    let s = same_longest w w' r r' e (has_form j w t.has_kind) (has_form k w' t'.has_kind) t.longest t'.longest in
    (s, same_kind j k w t.has_kind (subst (λ z. HasKind k z) (sym s) t'.has_kind))

-- a numeral stands first
numeral_first : (b : ℕ) (y w r : List ℕ) → b ∷ y ≡ w ++ r → IsNumeral w → is_digit b ≡ true
numeral_first b y w r e n = suffix_digit b y w r e n

outside_first : (b : ℕ) (y : List ℕ) → IsOutside (b ∷ y) → (is_blank b ≡ true → ⊥) × (b ≡ 40 → ⊥)
outside_first b y (mark o) = let m = outside_mark b y o in ((λ i. both_ways (is_blank b) m.0.not_blank i), m.1)
outside_first b y (suffix w r e n l k) = let d = suffix_digit b y w r e n in ((λ i. digit_not_blank b d i), λ e. digit_not b 40 d (inl (omega arith)) e)

paren : IsToken (40 ∷ [])
paren = sign glyph.OpenParen refl

gap_fault : (f : LexFault) (at : ℕ) (x w r : List ℕ) → x ≡ w ++ r → IsGap w → IsFaultAt f at x → ⊥
gap_fault (fault.BadByte p) at x w r e (blank b q i) h =
    let n = h.1 in
    let f : b ∷ r ≡ n.byte ∷ n.rest = ap (λ z. z ++ r) (sym q) ∙ sym e ∙ n.cut in
    let s : n.byte ≡ b = cc in
    both_ways (is_blank b) (subst (λ z. is_blank z ≡ false) s n.not_blank) i
gap_fault (fault.BadByte p) at x w r e (comment c) h = h.1.no_token (40 ∷ []) (42 ∷ (c.0 ++ r)) (comment_begins x w r e c) paren
gap_fault (fault.OpenComment p) at x w r e (blank b q i) h =
    let o = h.1.opens in
    let f : b ∷ r ≡ 40 ∷ 42 ∷ o.0 = ap (λ z. z ++ r) (sym q) ∙ sym e ∙ o.1 in
    let s : b ≡ 40 = cc in
    not_blank_40 b s i
gap_fault (fault.OpenComment p) at x w r e (comment c) h = h.1.unclosed w r e c
gap_fault (fault.WideLiteral p) at x w r e (blank b q i) h =
    let n = h.1 in
    digit_not_blank b (numeral_first b r n.numeral n.rest (ap (λ z. z ++ r) (sym q) ∙ sym e ∙ n.cut) (wide_numeral n.numeral n.wide)) i
gap_fault (fault.WideLiteral p) at x w r e (comment c) h =
    let n = h.1 in
    digit_not 40 40 (numeral_first 40 (42 ∷ (c.0 ++ r)) n.numeral n.rest (sym (comment_begins x w r e c) ∙ n.cut) (wide_numeral n.numeral n.wide)) (inl (omega arith)) refl
gap_fault (fault.OutsideProfile p) at x w r e (blank b q i) h = (outside_first b r (subst IsOutside (e ∙ ap (λ z. z ++ r) q) h.1)).0 i
gap_fault (fault.OutsideProfile p) at x w r e (comment c) h = (outside_first 40 (42 ∷ (c.0 ++ r)) (subst IsOutside (comment_begins x w r e c) h.1)).1 refl
gap_fault fault.Memory at x w r e g h = h

token_fault : (f : LexFault) (at : ℕ) (k : TokenKind) (x w r : List ℕ) → x ≡ w ++ r → IsTokenBefore k w r → IsFaultAt f at x → ⊥
token_fault (fault.BadByte p) at k x w r e t h = h.1.no_token w r e (has_form k w t.has_kind)
token_fault (fault.OpenComment p) at k x w r e t h = t.no_comment (subst (λ z. Begins (40 ∷ 42 ∷ []) z) e h.1.opens)
token_fault (fault.WideLiteral p) at k x w r e t h =
    let n = h.1 in
    let s = same_longest w n.numeral r n.rest (sym e ∙ n.cut) (has_form k w t.has_kind) (numeral (wide_numeral n.numeral n.wide)) t.longest n.longest in
    t.not_wide (subst IsWide (sym s) n.wide)
token_fault (fault.OutsideProfile p) at k x w r e t h = t.not_outside (subst IsOutside e h.1)
token_fault fault.Memory at k x w r e t h = h

open_bad : (x : List ℕ) → IsOpen x → IsBad x → ⊥
open_bad x o b = b.no_token (40 ∷ []) (42 ∷ o.opens.0) o.opens.1 paren

open_wide : (x : List ℕ) → IsOpen x → IsWideFirst x → ⊥
open_wide x o n = digit_not 40 40 (numeral_first 40 (42 ∷ o.opens.0) n.numeral n.rest (sym o.opens.1 ∙ n.cut) (wide_numeral n.numeral n.wide)) (inl (omega arith)) refl

open_outside : (x : List ℕ) → IsOpen x → IsOutside x → ⊥
open_outside x o s = (outside_first 40 (42 ∷ o.opens.0) (subst IsOutside o.opens.1 s)).1 refl

wide_bad : (x : List ℕ) → IsWideFirst x → IsBad x → ⊥
wide_bad x n b = b.no_token n.numeral n.rest n.cut (numeral (wide_numeral n.numeral n.wide))

wide_suffix : (x w r : List ℕ) (n : IsWideFirst x) → x ≡ w ++ r → IsNumeral w → IsLongest w r → BeginsWithLetter r → ⊥
wide_suffix x w r n e m l k =
    let s = same_longest n.numeral w n.rest r (sym n.cut ∙ e) (numeral (wide_numeral n.numeral n.wide)) (numeral m) n.longest l in
    let q : n.rest ≡ r = append_cancel n.numeral n.rest r (sym n.cut ∙ e ∙ ap (λ z. z ++ r) (sym s)) in
    n.ends (subst BeginsWithLetter (sym q) k)

no_empty_mark : IsOutsideMark [] → ⊥
no_empty_mark (power p) = let e = p.1 in cc
no_empty_mark (mapsto p) = let e = p.1 in cc
no_empty_mark (quote p) = let e = p.1 in cc
no_empty_mark (caret p) = let e = p.1 in cc
no_empty_mark (at_sign p) = let e = p.1 in cc

wide_outside : (x : List ℕ) → IsWideFirst x → IsOutside x → ⊥
wide_outside [] n (mark o) = no_empty_mark o
wide_outside (b ∷ y) n (mark o) = both_ways (is_digit b) (outside_mark b y o).0.not_digit (numeral_first b y n.numeral n.rest n.cut (wide_numeral n.numeral n.wide))
wide_outside [] n (suffix w r e m l k) = wide_suffix [] w r n e m l k
wide_outside (b ∷ y) n (suffix w r e m l k) = wide_suffix (b ∷ y) w r n e m l k

same_place : (p q at : ℕ) → p ≡ at → q ≡ at → p ≡ q
same_place p q at e f = e ∙ sym f

same_fault : (f g : LexFault) (at : ℕ) (x : List ℕ) → IsFaultAt f at x → IsFaultAt g at x → f ≡ g
same_fault (fault.BadByte p) (fault.BadByte q) at x h k = ap (λ z. fault.BadByte z) (h.0 ∙ sym k.0)
same_fault (fault.BadByte p) (fault.OpenComment q) at x h k = absurd (open_bad x k.1 h.1)
same_fault (fault.BadByte p) (fault.WideLiteral q) at x h k = absurd (wide_bad x k.1 h.1)
same_fault (fault.BadByte p) (fault.OutsideProfile q) at x h k = absurd (h.1.not_outside k.1)
same_fault (fault.BadByte p) fault.Memory at x h k = absurd k
same_fault (fault.OpenComment p) (fault.BadByte q) at x h k = absurd (open_bad x h.1 k.1)
same_fault (fault.OpenComment p) (fault.OpenComment q) at x h k = ap (λ z. fault.OpenComment z) (h.0 ∙ sym k.0)
same_fault (fault.OpenComment p) (fault.WideLiteral q) at x h k = absurd (open_wide x h.1 k.1)
same_fault (fault.OpenComment p) (fault.OutsideProfile q) at x h k = absurd (open_outside x h.1 k.1)
same_fault (fault.OpenComment p) fault.Memory at x h k = absurd k
same_fault (fault.WideLiteral p) (fault.BadByte q) at x h k = absurd (wide_bad x h.1 k.1)
same_fault (fault.WideLiteral p) (fault.OpenComment q) at x h k = absurd (open_wide x k.1 h.1)
same_fault (fault.WideLiteral p) (fault.WideLiteral q) at x h k = ap (λ z. fault.WideLiteral z) (h.0 ∙ sym k.0)
same_fault (fault.WideLiteral p) (fault.OutsideProfile q) at x h k = absurd (wide_outside x h.1 k.1)
same_fault (fault.WideLiteral p) fault.Memory at x h k = absurd k
same_fault (fault.OutsideProfile p) (fault.BadByte q) at x h k = absurd (k.1.not_outside h.1)
same_fault (fault.OutsideProfile p) (fault.OpenComment q) at x h k = absurd (open_outside x k.1 h.1)
same_fault (fault.OutsideProfile p) (fault.WideLiteral q) at x h k = absurd (wide_outside x k.1 h.1)
same_fault (fault.OutsideProfile p) (fault.OutsideProfile q) at x h k = ap (λ z. fault.OutsideProfile z) (h.0 ∙ sym k.0)
same_fault (fault.OutsideProfile p) fault.Memory at x h k = absurd k
same_fault fault.Memory g at x h k = absurd h

-- ---- nothing stands at the end
none_empty : (w r : List ℕ) → [] ≡ w ++ r → 1 ≤ length w → ⊥
none_empty [] r e l = omega arith
none_empty (b ∷ w) r e l = cc

fault_empty : (f : LexFault) (at : ℕ) → IsFaultAt f at [] → ⊥
fault_empty (fault.BadByte p) at h = let e = h.1.cut in cc
fault_empty (fault.OpenComment p) at h = let e = h.1.opens.1 in cc
fault_empty (fault.WideLiteral p) at h = numeral_empty h.1.numeral h.1.rest h.1.cut (wide_numeral h.1.numeral h.1.wide)
  where
    numeral_empty : (w r : List ℕ) → [] ≡ w ++ r → IsNumeral w → ⊥
    numeral_empty [] r e n = no_empty_token (numeral n)
    numeral_empty (b ∷ w) r e n = cc
fault_empty (fault.OutsideProfile p) at h = outside_empty h.1
  where
    numeral_empty : (w r : List ℕ) → [] ≡ w ++ r → IsNumeral w → ⊥
    numeral_empty [] r e n = no_empty_token (numeral n)
    numeral_empty (b ∷ w) r e n = cc

    outside_empty : IsOutside [] → ⊥
    outside_empty (mark o) = no_empty_mark o
    outside_empty (suffix w r e n l k) = numeral_empty w r e n
fault_empty fault.Memory at h = h

-- ---- the whole text
-- a text has at most one list of tokens or one fault, and never both
pub same_cut : (i : ℕ) (x : List ℕ) (ts us : List Token) (f g : Option LexFault) → IsCut i x ts f → IsCut i x us g → (ts ≡ us) × (f ≡ g)
same_cut i x ts us f g (ends at) (ends at') = (refl, refl)
same_cut i x ts us f g (ends at) (fails at' x' f' h) = absurd (fault_empty f' at' h)
same_cut i x ts us f g (ends at) (passes at' x' w r ts' f' e p c) = absurd (none_empty w r e (gap_some w p))
same_cut i x ts us f g (ends at) (gives at' x' w r k ts' f' e t c) = absurd (none_empty w r e (token_some k w t.has_kind))
same_cut i x ts us f g (fails at x' f' h) (ends at') = absurd (fault_empty f' at h)
same_cut i x ts us f g (fails at x' f' h) (fails at' y f'' h') = (refl, ap (λ z. Some z) (same_fault f' f'' at x' h h'))
same_cut i x ts us f g (fails at x' f' h) (passes at' y w r ts' g' e p c) = absurd (gap_fault f' at x' w r e p h)
same_cut i x ts us f g (fails at x' f' h) (gives at' y w r k ts' g' e t c) = absurd (token_fault f' at k x' w r e t h)
same_cut i x ts us f g (passes at x' w r ts' f' e p c) (ends at') = absurd (none_empty w r e (gap_some w p))
same_cut i x ts us f g (passes at x' w r ts' f' e p c) (fails at' y f'' h) = absurd (gap_fault f'' at' x' w r e p h)
same_cut i x ts us f g (passes at x' w r ts' f' e p c) (passes at' y w' r' us' g' e' p' c') =
    let s : w ≡ w' = same_gap w w' r r' (sym e ∙ e') p p' in
    let q : r ≡ r' = append_cancel w r r' (sym e ∙ e' ∙ ap (λ z. z ++ r') (sym s)) in
    same_cut (at + length w) r ts' us' f' g' c (subst (λ z. IsCut (at + length w) z us' g') (sym q) (subst (λ z. IsCut (at + length z) r' us' g') (sym s) c'))
same_cut i x ts us f g (passes at x' w r ts' f' e p c) (gives at' y w' r' k us' g' e' t c') = absurd (gap_token k w w' r r' (sym e ∙ e') p t)
same_cut i x ts us f g (gives at x' w r k ts' f' e t c) (ends at') = absurd (none_empty w r e (token_some k w t.has_kind))
same_cut i x ts us f g (gives at x' w r k ts' f' e t c) (fails at' y f'' h) = absurd (token_fault f'' at' k x' w r e t h)
same_cut i x ts us f g (gives at x' w r k ts' f' e t c) (passes at' y w' r' us' g' e' p c') = absurd (gap_token k w' w r' r (sym e' ∙ e) p t)
same_cut i x ts us f g (gives at x' w r k ts' f' e t c) (gives at' y w' r' k' us' g' e' t' c') =
    let s = same_token k k' w w' r r' (sym e ∙ e') t t' in
    let q : r ≡ r' = append_cancel w r r' (sym e ∙ e' ∙ ap (λ z. z ++ r') (sym s.0)) in
    let d = same_cut (at + length w) r ts' us' f' g' c (subst (λ z. IsCut (at + length w) z us' g') (sym q) (subst (λ z. IsCut (at + length z) r' us' g') (sym s.0) c')) in
    ((λ i. record { kind = s.1 i; from = at; to = at + length (s.0 i) } ∷ d.0 i), d.1)

pub one_list : (text : List ℕ) (ts us : List Token) → IsTokenized text ts → IsTokenized text us → ts ≡ us
one_list text ts us c d = (same_cut 0 text ts us None None c d).0

pub one_fault : (text : List ℕ) (f g : LexFault) → IsFault text f → IsFault text g → f ≡ g
one_fault text f g c d = same_Some f g (same_cut 0 text c.0 d.0 (Some f) (Some g) c.1 d.1).1

pub never_both : (text : List ℕ) (ts : List Token) (f : LexFault) → IsTokenized text ts → IsFault text f → ⊥
never_both text ts f c d = let e = (same_cut 0 text ts d.0 None (Some f) c d.1).1 in cc
