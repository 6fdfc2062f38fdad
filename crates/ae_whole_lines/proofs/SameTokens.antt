-- A line break behind a text gives it no other tokens.
use Rattle.std.proofs.Common.{ℕ, ◌+◌, Bool, true, true≢false, not, nat_eq, List, [], ◌∷◌, ◌++◌, ◌≡◌, length, inl, inr, refl, sym, ap, ◌∙◌, subst, arith, append_assoc, Option, None, codes}
use Rattle.std.specs.List.{list_all}
use Rattle.std.proofs.lemmas.Bool.{and_parts}
use Rattle.ae_base.proofs.Options.{never_some}
use Rattle.ae_codes.specs.Codes.{no_cons}
use Rattle.ae_lex.proofs.Parts.{all_back}
use Rattle.ae_lex.specs.Lexis.{is_inner, is_digit, Begins, BeginsWithLetter, IsWord, IsTypeVar, IsNumeral, whole, pointed, IsToken, word, type_var, numeral, sign, IsLongest}
use Rattle.ae_lex.specs.Lexis.{IsOutsideMark, power, mapsto, quote, caret, at_sign, IsOutside, mark, suffix, blank, IsTokenBefore, IsCut, ends, fails, passes, gives, IsTokenized}
use Rattle.ae_lex.specs.Spellings.{sign_bytes}
use Rattle.ae_lex.specs.declared.kinds.LexFault.{LexFault}
use Rattle.ae_lex.specs.declared.kinds.Sign.{Sign}
use Rattle.ae_lex.specs.declared.kinds.Sign.TheVariants as sign_of
use Rattle.ae_lex.specs.declared.kinds.Token.{Token}
use Rattle.ae_lex.specs.declared.kinds.TokenKind.{TokenKind}
use Rattle.ae_whole_lines.proofs.LastBytes.{break_cut}

-- ---- no token ends with a line break
at_end : (p : ℕ → Bool) (v : List ℕ) → list_all p (v ++ 10 ∷ []) ≡ true → p 10 ≡ true
at_end p v e = (and_parts (p 10) true (all_back p v (10 ∷ []) e)).0

word_end : (v : List ℕ) → IsWord (v ++ 10 ∷ []) → ⊥
word_end [] i = true≢false (sym i.0)
word_end (b ∷ v) i = true≢false (sym (at_end is_inner v i.1))

type_var_end : (v : List ℕ) → IsTypeVar (v ++ 10 ∷ []) → ⊥
type_var_end [] i = let e : ◌≡◌ {A = ℕ} 10 39 = i.0 in omega (arith, e)
type_var_end (b ∷ v) i = word_end v i.1

digits_end : (v : List ℕ) → list_all is_digit (v ++ 10 ∷ []) ≡ true → ⊥
digits_end v e = true≢false (sym (at_end is_digit v e))

pointed_end : (v before after : List ℕ) → v ++ 10 ∷ [] ≡ before ++ 46 ∷ after → list_all is_digit after ≡ true → ⊥
pointed_end [] [] after e d = let h : ◌≡◌ {A = ℕ} 10 46 = cc in omega (arith, h)
pointed_end [] (c ∷ before) after e d = let t : [] ≡ before ++ 46 ∷ after = cc in absurd (no_cons before 46 after (sym t))
pointed_end (b ∷ v) [] after e d = let t : v ++ 10 ∷ [] ≡ after = cc in digits_end v (subst (λ z. list_all is_digit z ≡ true) (sym t) d)
pointed_end (b ∷ v) (c ∷ before) after e d = let t : v ++ 10 ∷ [] ≡ before ++ 46 ∷ after = cc in pointed_end v before after t d

is_no_break : ℕ → Bool
is_no_break b = not (nat_eq b 10)

NoBreak : List ℕ → Type 0
NoBreak w = list_all is_no_break w ≡ true

no_break_end : (v w : List ℕ) → w ≡ v ++ 10 ∷ [] → NoBreak w → ⊥
unfolding NoBreak is_no_break
no_break_end v w e n = true≢false (sym (at_end is_no_break v (subst (λ z. list_all is_no_break z ≡ true) e n)))

sign_has_none : (s : Sign) → NoBreak (sign_bytes s)
unfolding NoBreak is_no_break
sign_has_none sign_of.Arrow = refl
sign_has_none sign_of.Iff = refl
sign_has_none sign_of.NotEqual = refl
sign_has_none sign_of.AtMost = refl
sign_has_none sign_of.AtLeast = refl
sign_has_none sign_of.Less = refl
sign_has_none sign_of.Greater = refl
sign_has_none sign_of.Equal = refl
sign_has_none sign_of.Plus = refl
sign_has_none sign_of.Minus = refl
sign_has_none sign_of.Star = refl
sign_has_none sign_of.Slash = refl
sign_has_none sign_of.Percent = refl
sign_has_none sign_of.OpenParen = refl
sign_has_none sign_of.CloseParen = refl
sign_has_none sign_of.OpenBrace = refl
sign_has_none sign_of.CloseBrace = refl
sign_has_none sign_of.OpenBracket = refl
sign_has_none sign_of.CloseBracket = refl
sign_has_none sign_of.Comma = refl
sign_has_none sign_of.Colon = refl
sign_has_none sign_of.Semicolon = refl
sign_has_none sign_of.Dot = refl
sign_has_none sign_of.Bar = refl

token_end : (v : List ℕ) → IsToken (v ++ 10 ∷ []) → ⊥
token_end v (word p) = word_end v p
token_end v (type_var p) = type_var_end v p
token_end v (numeral (whole p)) = digits_end v p.1
token_end v (numeral (pointed before after p)) = pointed_end v before after p.written p.back
token_end v (sign s e) = no_break_end v (sign_bytes s) (sym e) (sign_has_none s)

-- ---- what is said of a token before a line break
longest_stays : (w rest : List ℕ) → IsLongest w rest → IsLongest w (rest ++ 10 ∷ [])
longest_stays w rest l more after e t = elim (break_cut rest more after e) [
  | inl s ↦ absurd (token_end (w ++ rest) (subst IsToken (ap (λ z. w ++ z) s ∙ sym (append_assoc w rest (10 ∷ []))) t))
  | inr m ↦ l more m.0 m.1 t
]

longest_before : (w rest : List ℕ) → IsLongest w (rest ++ 10 ∷ []) → IsLongest w rest
longest_before w rest l more after e t = l more (after ++ 10 ∷ []) (ap (λ z. z ++ 10 ∷ []) e ∙ append_assoc more after (10 ∷ [])) t

begins_before : (p x : List ℕ) → NoBreak p → Begins p (x ++ 10 ∷ []) → Begins p x
begins_before p x n b = elim (break_cut x p b.0 b.1) [
  | inl s ↦ absurd (no_break_end x p s n)
  | inr m ↦ (m.0, m.1)
]

letter_before : (y : List ℕ) → BeginsWithLetter (y ++ 10 ∷ []) → BeginsWithLetter y
letter_before [] h = absurd (true≢false (sym h))
letter_before (b ∷ y) h = h

mark_before : (x : List ℕ) → IsOutsideMark (x ++ 10 ∷ []) → IsOutsideMark x
unfolding NoBreak is_no_break
mark_before x (power b) = power (begins_before (codes "**") x refl b)
mark_before x (mapsto b) = mapsto (begins_before (codes "|->") x refl b)
mark_before x (quote b) = quote (begins_before (codes "\"") x refl b)
mark_before x (caret b) = caret (begins_before (codes "^") x refl b)
mark_before x (at_sign b) = at_sign (begins_before (codes "@") x refl b)

outside_before : (x : List ℕ) → IsOutside (x ++ 10 ∷ []) → IsOutside x
outside_before x (mark m) = mark (mark_before x m)
outside_before x (suffix w rest e n l k) = elim (break_cut x w rest e) [
  | inl s ↦ absurd (token_end x (numeral (subst IsNumeral s n)))
  | inr m ↦ suffix w m.0 m.1 n (longest_before w m.0 (subst (IsLongest w) m.2 l)) (letter_before m.0 (subst BeginsWithLetter m.2 k))
]

token_stays : (k : TokenKind) (w rest : List ℕ) → IsTokenBefore k w rest → IsTokenBefore k w (rest ++ 10 ∷ [])
unfolding NoBreak is_no_break
token_stays k w rest t = record {
  has_kind = t.has_kind;
  longest = longest_stays w rest t.longest;
  no_comment = λ b. t.no_comment (begins_before (codes "(*") (w ++ rest) refl (subst (Begins (codes "(*")) (sym (append_assoc w rest (10 ∷ []))) b));
  not_outside = λ o. t.not_outside (outside_before (w ++ rest) (subst IsOutside (sym (append_assoc w rest (10 ∷ []))) o));
  not_wide = t.not_wide;
}

-- ---- the whole text
cut_stays : (at : ℕ) (x : List ℕ) (ts : List Token) (f : Option LexFault) → IsCut at x ts f → f ≡ None → IsCut at (x ++ 10 ∷ []) ts f
cut_stays at x ts f (ends a) n = passes a (10 ∷ []) (10 ∷ []) [] [] None refl (blank 10 refl refl) (ends (a + 1))
cut_stays at x ts f (fails a y g h) n = absurd (never_some g (sym n))
cut_stays at x ts f (passes a y w rest us g e gap c) n =
    passes a (y ++ 10 ∷ []) w (rest ++ 10 ∷ []) us g (ap (λ z. z ++ 10 ∷ []) e ∙ append_assoc w rest (10 ∷ [])) gap (cut_stays (a + length w) rest us g c n)
cut_stays at x ts f (gives a y w rest k us g e b c) n =
    gives a (y ++ 10 ∷ []) w (rest ++ 10 ∷ []) k us g (ap (λ z. z ++ 10 ∷ []) e ∙ append_assoc w rest (10 ∷ [])) (token_stays k w rest b) (cut_stays (a + length w) rest us g c n)

pub tokens_stay : (text : List ℕ) (ts : List Token) → IsTokenized text ts → IsTokenized (text ++ 10 ∷ []) ts
tokens_stay text ts c = cut_stays 0 text ts None c refl
