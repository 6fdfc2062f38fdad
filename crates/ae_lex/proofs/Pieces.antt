-- What stands at a place of the text.
use Rattle.std.proofs.Common.{ℕ, ◌+◌, ◌-◌, ◌^◌, ◌≤◌, ◌<◌, true, List, [], ◌∷◌, ◌++◌, ◌≡◌, inl, inr, length, drop, take, refl, sym, ap, ◌∙◌, subst, arith, length-append, Option, Some, None}
use Rattle.std.proofs.lemmas.Bool.{both_ways}
use Rattle.std.proofs.Math.Seq.{take-append_seam, drop-append_seam}
use Rattle.std.proofs.lemmas.List.{length-drop, drop-drop}
use Rattle.ae_lex.specs.declared.kinds.TokenKind.{TokenKind}
use Rattle.ae_lex.specs.declared.kinds.TokenKind.TheVariants as kind
use Rattle.ae_lex.specs.declared.kinds.LexFault.TheVariants as fault
use Rattle.ae_lex.specs.declared.kinds.Sign.{Sign}
use Rattle.ae_lex.specs.declared.lexer.Piece.{Piece}
use Rattle.ae_lex.specs.declared.lexer.Piece.TheVariants as piece
use Rattle.ae_lex.specs.Spellings.{sign_bytes}
use Rattle.ae_lex.specs.Lexis.{is_blank, is_digit, is_letter, is_inner, is_point, Begins, BeginsWithLetter, Closes, IsComment, IsWord, IsWhole, IsPointed, IsNumeral, whole, pointed, IsToken, numeral, number, IsLongest, IsOutsideMark, IsOutside, mark, suffix, IsWide, wide_whole, wide_digits, wide_power, HasKind, IsTokenBefore, blank, comment, IsFaultAt}
use Rattle.ae_lex.specs.Inner.Pieces.{IsPart, IsRun, HasRun, HasDigits, StopsAt, IsValue, IsWholeKind, IsDecimalKind, IsEnded, IsMark, Stands}
use Rattle.ae_lex.proofs.Parts.{part_none, part_step, part_join, append_cancel, value-append}
use Rattle.ae_lex.proofs.Forms.{letter_not, letter_not_digit, digit_not, numeral_head, no_empty_token, at_mark, at_quote, word_longest, type_var_longest, whole_longest, pointed_longest, sign_longest, same_longest, same_point, no_point, outside_mark, not_outside, not_wide, no_opening}
use Rattle.ae_lex.proofs.Tables.{sign_mark}

pub front_part : (text u : List ℕ) (at b to : ℕ) → at < length text → drop at text ≡ b ∷ drop (at + 1) text → IsPart text (at + 1) to u → IsPart text at to (b ∷ u)
front_part text u at b to l e p = part_join text (b ∷ []) u at (at + 1) to (part_step text [] at at b (part_none text at (omega arith)) l e) p

pub slice_of : (text w : List ℕ) (from to : ℕ) → IsPart text from to w → take (to - from) (drop from text) ≡ w
slice_of text w from to p =
    let f = p.far in
    let n : to - from ≡ length w = omega arith in
    ap (λ z. take z (drop from text)) n ∙ ap (λ z. take (length w) z) p.cut ∙ take-append_seam w (drop to text)

-- ---- words
letter_token : (k : TokenKind) (b : ℕ) (u rest : List ℕ) → IsWord (b ∷ u) → StopsAt is_inner rest → HasKind k (b ∷ u) → IsTokenBefore k (b ∷ u) rest
letter_token k b u rest w s h = record {
  has_kind = h;
  longest = word_longest (b ∷ u) rest w s;
  no_comment = no_opening b (u ++ rest) (λ e. letter_not b 40 w.0 (omega arith) e);
  not_outside = not_outside b (u ++ rest) (λ o. both_ways (is_letter b) (outside_mark b (u ++ rest) o).0.not_letter w.0) (letter_not_digit b w.0);
  not_wide = not_wide b u (letter_not_digit b w.0);
}

pub word_stands : (text : List ℕ) (at b to : ℕ) (k : TokenKind) → at < length text → drop at text ≡ b ∷ drop (at + 1) text → is_letter b ≡ true → (r : HasRun is_inner text (at + 1) to)
    → (IsWord (b ∷ r.0) → HasKind k (b ∷ r.0)) → Stands (piece.Token k to) at text
word_stands text at b to k l e i r h =
    let w : IsWord (b ∷ r.0) = (i, r.1.all) in
    (b ∷ r.0, front_part text r.0 at b to l e r.1.part, letter_token k b r.0 (drop to text) w r.1.stops (h w))

-- the bytes of the word
pub word_slice : (text : List ℕ) (at b to : ℕ) → at < length text → drop at text ≡ b ∷ drop (at + 1) text → (r : HasRun is_inner text (at + 1) to) → take (to - at) (drop at text) ≡ b ∷ r.0
word_slice text at b to l e r = slice_of text (b ∷ r.0) at to (front_part text r.0 at b to l e r.1.part)

-- ---- type variables
pub type_var_stands : (text : List ℕ) (at c to : ℕ) → at + 1 < length text → drop at text ≡ 39 ∷ drop (at + 1) text → drop (at + 1) text ≡ c ∷ drop (at + 1 + 1) text → is_letter c ≡ true → HasRun is_inner text (at + 1 + 1) to → Stands (piece.Token kind.TypeVar to) at text
type_var_stands text at c to l e f i r =
    let w : IsWord (c ∷ r.0) = (i, r.1.all) in
    let p = front_part text (c ∷ r.0) at 39 to (omega arith) e (front_part text r.0 (at + 1) c to l f r.1.part) in (
      39 ∷ c ∷ r.0,
      p,
      record {
        has_kind = (refl, w);
        longest = type_var_longest (39 ∷ c ∷ r.0) (drop to text) (refl, w) r.1.stops;
        no_comment = no_opening 39 (c ∷ r.0 ++ drop to text) (λ e. omega arith);
        not_outside = not_outside 39 (c ∷ r.0 ++ drop to text) (λ o. (outside_mark 39 (c ∷ r.0 ++ drop to text) o).0.not_quote refl) (λ d. digit_not 39 39 d (inl (omega arith)) refl);
        not_wide = not_wide 39 (c ∷ r.0) (λ d. digit_not 39 39 d (inl (omega arith)) refl);
      },
    )

-- a `'` alone
pub quote_stands : (text : List ℕ) (at : ℕ) → drop at text ≡ 39 ∷ drop (at + 1) text → StopsAt is_letter (drop (at + 1) text) → IsFaultAt (fault.BadByte at) at (drop at text)
quote_stands text at e s = (
  refl,
  record {
    byte = 39;
    rest = drop (at + 1) text;
    cut = e;
    not_blank = refl;
    no_token = λ w after c t. none w after (sym e ∙ c) t;
    not_outside = subst (λ z. IsOutside z → ⊥) (sym e) (not_outside 39 (drop (at + 1) text) (λ o. (outside_mark 39 (drop (at + 1) text) o).0.not_quote refl) (λ d. digit_not 39 39 d (inl (omega arith)) refl));
  },
)
  where
    after_quote : (u after : List ℕ) → drop (at + 1) text ≡ u ++ after → IsWord u → ⊥
    after_quote [] after c i = i
    after_quote (b ∷ u) after c i = both_ways (is_letter b) (subst (λ z. StopsAt is_letter z) c s) i.0

    none : (w after : List ℕ) → 39 ∷ drop (at + 1) text ≡ w ++ after → IsToken w → ⊥
    none [] after c t = no_empty_token t
    none (b ∷ u) after c t =
        let h : b ≡ 39 = cc in
        let q : drop (at + 1) text ≡ u ++ after = cc in
        after_quote u after q (at_quote b u h t)

-- ---- numerals
-- the kind that was found is the numeral's, or it is wide
KindOf : Option TokenKind → List ℕ → Type 0
KindOf (Some k) w = HasKind k w × (IsWide w → ⊥)
KindOf None w = IsWide w

digit_token : (k : TokenKind) (w rest : List ℕ) → HasKind k w → IsNumeral w → IsLongest w rest → (BeginsWithLetter rest → ⊥) → (IsWide w → ⊥) → IsTokenBefore k w rest
digit_token k [] rest h n l b v = absurd (no_empty_token (numeral n))
digit_token k (c ∷ u) rest h n l b v =
    let d = numeral_head c u n in
    record {
      has_kind = h;
      longest = l;
      no_comment = no_opening c (u ++ rest) (λ e. digit_not c 40 d (inl (omega arith)) e);
      not_outside = out;
      not_wide = v;
    }
  where
    out : IsOutside (c ∷ u ++ rest) → ⊥
    out (mark o) = both_ways (is_digit c) (outside_mark c (u ++ rest) o).0.not_digit (numeral_head c u n)
    out (suffix w' rest' e n' l' k') =
        let same : c ∷ u ≡ w' = same_longest (c ∷ u) w' rest rest' e (numeral n) (numeral n') l l' in
        let left : rest ≡ rest' = append_cancel (c ∷ u) rest rest' (e ∙ ap (λ z. z ++ rest') (sym same)) in
        b (subst (λ z. BeginsWithLetter z) (sym left) k')

numeral_stands : (text w : List ℕ) (at to : ℕ) (k : Option TokenKind) (p : Piece) → IsPart text at to w → IsNumeral w → IsLongest w (drop to text) → KindOf k w → IsEnded p at to k (drop to text) → Stands p at text
unfolding KindOf
numeral_stands text w at to k (piece.Gap to') i n l h e = absurd e
numeral_stands text w at to k (piece.Token k' to') i n l h e =
    let g = subst (λ z. KindOf z w) e.1 h in
    (w, subst (λ z. IsPart text at z w) (sym e.2) i, subst (λ z. IsTokenBefore k' w (drop z text)) (sym e.2) (digit_token k' w (drop to text) g.0 n l e.0 g.1))
numeral_stands text w at to k (piece.Fault (fault.OutsideProfile place)) i n l h e = (e.1, suffix w (drop to text) i.cut n l e.0)
numeral_stands text w at to k (piece.Fault (fault.WideLiteral place)) i n l h e = (e.2, record { numeral = w; rest = drop to text; cut = i.cut; longest = l; wide = subst (λ z. KindOf z w) e.1 h; ends = e.0 })
numeral_stands text w at to k (piece.Fault (fault.BadByte place)) i n l h e = absurd e
numeral_stands text w at to k (piece.Fault (fault.OpenComment place)) i n l h e = absurd e
numeral_stands text w at to k (piece.Fault fault.Memory) i n l h e = absurd e

whole_kind_of : (k : Option TokenKind) (w : List ℕ) → IsWhole w → IsWholeKind k (number w) → KindOf k w
unfolding KindOf
whole_kind_of None w i h = wide_whole i h
whole_kind_of (Some k) w i h = (subst (λ z. HasKind z w) (sym h.0) (i, refl), not)
  where
    not : IsWide w → ⊥
    not (wide_whole p m) = let l = h.1 in omega (arith, l, m)
    not (wide_digits before after p m) = no_point w before after i.1 p.written
    not (wide_power before after p m) = no_point w before after i.1 p.written

pointed_kind_of : (k : Option TokenKind) (w before after : List ℕ) → IsPointed w before after → IsDecimalKind k (number (before ++ after)) (10 ^ length after) → KindOf k w
unfolding KindOf
pointed_kind_of None w before after i (inl h) = wide_digits before after i h
pointed_kind_of None w before after i (inr h) = wide_power before after i h
pointed_kind_of (Some k) w before after i h = (subst (λ z. HasKind z w) (sym h.is) (record { before = before; after = after; form = i; lowest = h.lowest }), not)
  where
    digits_same : (x y : List ℕ) → IsPointed w x y → (before ≡ x) × (after ≡ y)
    digits_same x y p = same_point before x after y i.front.1 p.front.1 (sym i.written ∙ p.written)

    not : IsWide w → ⊥
    not (wide_whole p m) = no_point w before after p.1 i.written
    not (wide_digits x y p m) =
        let s = digits_same x y p in
        let l = h.digits_fit in
        let n : number (before ++ after) ≡ number (x ++ y) = ap (λ z. number (z ++ after)) s.0 ∙ ap (λ z. number (x ++ z)) s.1 in
        omega (arith, l, m, n)
    not (wide_power x y p m) =
        let s = digits_same x y p in
        let l = h.power_fits in
        let n : 10 ^ length after ≡ 10 ^ length y = ap (λ z. 10 ^ length z) s.1 in
        omega (arith, l, m, n)

-- a run of digits that begins with a digit isn't empty
some_digits : (text : List ℕ) (at b to : ℕ) (w : List ℕ) → drop at text ≡ b ∷ drop (at + 1) text → is_digit b ≡ true → IsRun is_digit text at to w → IsWhole w
some_digits text at b to [] e d r =
    let f = r.part.far in
    let same : to ≡ at = omega arith in
    absurd (both_ways (is_digit b) (subst (λ z. StopsAt is_digit z) (ap (λ z. drop z text) same ∙ e) r.stops) d)
some_digits text at b to (c ∷ w) e d r = (λ q. (let h : ⊥ = cc in h), r.all)

zero_fits : IsValue (Some 0) 0
zero_fits = (refl, omega arith)

pub front_value : (text : List ℕ) (at to : ℕ) (v : Option ℕ) (r : HasDigits text at to (Some 0) v) → IsValue v (number r.0)
front_value text at to v r = r.2 0 zero_fits

pub whole_stands : (text : List ℕ) (at b to : ℕ) (v : Option ℕ) (k : Option TokenKind) (p : Piece) → drop at text ≡ b ∷ drop (at + 1) text → is_digit b ≡ true → (r : HasDigits text at to (Some 0) v) → StopsAt is_point (drop to text)
    → ((n : ℕ) → IsValue v n → IsWholeKind k n) → IsEnded p at to k (drop to text) → Stands p at text
whole_stands text at b to v k p e d r s h f =
    let i = some_digits text at b to r.0 e d r.1 in
    numeral_stands text r.0 at to k p r.1.part (whole i) (whole_longest r.0 (drop to text) i r.1.stops s) (whole_kind_of k r.0 i (h (number r.0) (front_value text at to v r))) f

pub back_value : (text : List ℕ) (at mid to : ℕ) (v x : Option ℕ) (r : HasDigits text at mid (Some 0) v) (q : HasDigits text (mid + 1) to v x) → IsValue x (number (r.0 ++ q.0))
back_value text at mid to v x r q = subst (λ z. IsValue x z) (sym (value-append 0 r.0 q.0)) (q.2 (number r.0) (front_value text at mid v r))

pub decimal_stands : (text : List ℕ) (at b mid to : ℕ) (v x y : Option ℕ) (k : Option TokenKind) (p : Piece) → drop at text ≡ b ∷ drop (at + 1) text → is_digit b ≡ true → (r : HasDigits text at mid (Some 0) v)
    → mid < length text → drop mid text ≡ 46 ∷ drop (mid + 1) text → (q : HasDigits text (mid + 1) to v x) → IsValue y (10 ^ (to - mid - 1))
    → ((n m : ℕ) → IsValue x n → IsValue y m → IsDecimalKind k n m) → IsEnded p at to k (drop to text) → Stands p at text
decimal_stands text at b mid to v x y k p e d r l g q t h f =
    let i : IsPointed (r.0 ++ 46 ∷ q.0) r.0 q.0 = record { written = refl; front = some_digits text at b mid r.0 e d r.1; back = q.1.all } in
    let part = part_join text r.0 (46 ∷ q.0) at mid to r.1.part (front_part text q.0 mid 46 to l g q.1.part) in
    let far = q.1.part.far in
    let n : to - mid - 1 ≡ length q.0 = omega arith in
    numeral_stands text (r.0 ++ 46 ∷ q.0) at to k p part (pointed r.0 q.0 i) (pointed_longest (r.0 ++ 46 ∷ q.0) r.0 q.0 (drop to text) i q.1.stops)
    (pointed_kind_of k (r.0 ++ 46 ∷ q.0) r.0 q.0 i (h (number (r.0 ++ q.0)) (10 ^ length q.0) (back_value text at mid to v x r q) (subst (λ z. IsValue y (10 ^ z)) n t))) f

-- ---- comments
-- bytes that stand first from a place on
part_of : (text w rest : List ℕ) (at : ℕ) → at ≤ length text → drop at text ≡ w ++ rest → IsPart text at (at + length w) w
part_of text w rest at l e =
    let far = length-drop at text in
    let size : length (drop at text) ≡ length w + length rest = ap length e ∙ length-append w rest in
    let left : drop (at + length w) text ≡ rest = sym (drop-drop (length w) at text) ∙ ap (λ z. drop (length w) z) e ∙ drop-append_seam w rest in
    record {
      cut = e ∙ ap (λ z. w ++ z) (sym left);
      far = refl;
      within = omega (arith, far, size);
    }

opening_part : (text r : List ℕ) (at : ℕ) → at ≤ length text → drop at text ≡ 40 ∷ 42 ∷ r → IsPart text at (at + 2) (40 ∷ 42 ∷ [])
opening_part text r at l f = part_of text (40 ∷ 42 ∷ []) r at l f

pub comment_stands : (text : List ℕ) (at b to : ℕ) → at < length text → drop at text ≡ b ∷ drop (at + 1) text → Begins (40 ∷ 42 ∷ []) (drop at text) → (c : (w : List ℕ) × IsPart text (at + 2) to w × Closes 1 w) → Stands (piece.Gap to) at text
comment_stands text at b to l e o c = (40 ∷ 42 ∷ c.0, part_join text (40 ∷ 42 ∷ []) c.0 at (at + 2) to (opening_part text o.0 at (omega arith) o.1) c.1, comment (c.0, refl, c.2))

pub open_stands : (text : List ℕ) (at b : ℕ) → at < length text → drop at text ≡ b ∷ drop (at + 1) text → Begins (40 ∷ 42 ∷ []) (drop at text) → ((w rest : List ℕ) → drop (at + 2) text ≡ w ++ rest → ¬ Closes 1 w) → IsFaultAt (fault.OpenComment at) at (drop at text)
open_stands text at b l e o n = (refl, record { opens = o; unclosed = λ w rest q k. never w rest q k })
  where
    never : (w rest : List ℕ) → drop at text ≡ w ++ rest → IsComment w → ⊥
    never w rest q k =
        let p = opening_part text o.0 at (omega arith) o.1 in
        let g : 40 ∷ 42 ∷ drop (at + 2) text ≡ 40 ∷ 42 ∷ (k.0 ++ rest) = sym p.cut ∙ q ∙ ap (λ z. z ++ rest) k.1 in
        n k.0 rest (append_cancel (40 ∷ 42 ∷ []) (drop (at + 2) text) (k.0 ++ rest) g) k.2

-- ---- signs
pub sign_stands : (text spelled : List ℕ) (at b : ℕ) (s : Sign) → at < length text → drop at text ≡ b ∷ drop (at + 1) text → IsMark b → spelled ≡ sign_bytes s → Begins (sign_bytes s) (drop at text)
    → ((t : Sign) → Begins (sign_bytes t) (drop at text) → length (sign_bytes t) ≤ length (sign_bytes s)) → (Begins (40 ∷ 42 ∷ []) (drop at text) → ⊥) → (IsOutsideMark (drop at text) → ⊥) → Stands (piece.Token (kind.Sign s) (at + length spelled)) at text
sign_stands text spelled at b s l e m q f g closed out =
    let part : IsPart text at (at + length (sign_bytes s)) (sign_bytes s) = part_of text (sign_bytes s) f.0 at (omega arith) f.1 in
    let token = sign_token (drop (at + length (sign_bytes s)) text) part.cut in
    subst (λ z. Stands (piece.Token (kind.Sign s) (at + length z)) at text) (sym q) (sign_bytes s, part, token)
  where
    sign_token : (rest : List ℕ) → drop at text ≡ sign_bytes s ++ rest → IsTokenBefore (kind.Sign s) (sign_bytes s) rest
    sign_token rest c =
        let h = sign_mark s in
        let head : h.head ∷ (h.tail ++ rest) ≡ b ∷ drop (at + 1) text = ap (λ z. z ++ rest) (sym h.is) ∙ sym c ∙ e in
        let byte : h.head ≡ b = cc in
        record {
          has_kind = refl;
          longest = sign_longest s rest (λ t k. g t (subst (λ z. Begins (sign_bytes t) z) (sym c) k));
          no_comment = λ k. closed (subst (λ z. Begins (40 ∷ 42 ∷ []) z) (sym c) k);
          not_outside = λ k. not_outside b (drop (at + 1) text) (λ o. out (subst IsOutsideMark (sym e) o)) (both_ways (is_digit b) m.not_digit) (subst IsOutside (sym c ∙ e) k);
          not_wide = subst (λ z. IsWide z → ⊥) (sym h.is) (not_wide h.head h.tail (both_ways (is_digit h.head) h.mark.not_digit));
        }

pub bad_stands : (text : List ℕ) (at b : ℕ) → drop at text ≡ b ∷ drop (at + 1) text → IsMark b → ((t : Sign) → ¬ Begins (sign_bytes t) (drop at text)) → (IsOutsideMark (drop at text) → ⊥) → IsFaultAt (fault.BadByte at) at (drop at text)
bad_stands text at b e m g out = (
  refl,
  record {
    byte = b;
    rest = drop (at + 1) text;
    cut = e;
    not_blank = m.not_blank;
    no_token = none;
    not_outside = λ k. not_outside b (drop (at + 1) text) (λ o. out (subst IsOutsideMark (sym e) o)) (both_ways (is_digit b) m.not_digit) (subst IsOutside e k);
  },
)
  where
    none : (w after : List ℕ) → drop at text ≡ w ++ after → IsToken w → ⊥
    none [] after c t = no_empty_token t
    none (a ∷ u) after c t =
        let h : b ≡ a = (let k = sym e ∙ c in cc) in
        let s = at_mark a u (subst IsMark h m) t in
        g s.0 (after, c ∙ ap (λ z. z ++ after) s.1)

-- ---- blanks
pub blank_stands : (text : List ℕ) (at b : ℕ) → at < length text → drop at text ≡ b ∷ drop (at + 1) text → is_blank b ≡ true → Stands (piece.Gap (at + 1)) at text
blank_stands text at b l e i = (b ∷ [], part_step text [] at at b (part_none text at (omega arith)) l e, blank b refl i)
