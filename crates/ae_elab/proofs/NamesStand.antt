-- Names of a text: a token that is one stands in the text, and its bytes are ASCII.
use Rattle.std.proofs.Common.{arith, ◌≡◌, ◌∙◌, ℕ, ◌+◌, ◌-◌, ◌⊎◌, inl, inr, Bool, true, nat_lt, Option, None, List, [], ◌∷◌, ◌++◌, length, take, drop, get_or, length-append, refl, sym, ap, subst, append_assoc}
use Rattle.std.specs.List.{AllByRecursion, list_all, slice_range}
use Rattle.std.specs.Str.{IsAscii, IsUtf8}
use Rattle.std.proofs.Math.Seq.{take-append_seam, drop-append_seam}
use Rattle.std.proofs.lemmas.Bool.{and_from, ltb-true}
use Rattle.std.proofs.lemmas.Bool.Decides.{nat_tests}
use Rattle.std.proofs.lemmas.List.Sums.{AllPass-from_list_all}
use Rattle.std.proofs.lemmas.Str.{IsUtf8-from_ascii}
use Rattle.std.proofs.lemmas.Str.Ascii.{IsAscii-from_all}
use Rattle.ae_base.proofs.ListFacts.{list_all_weaker}
use Rattle.ae_lex.specs.declared.kinds.Token.{Token}
use Rattle.ae_lex.specs.declared.kinds.TokenKind.{TokenKind}
use Rattle.ae_lex.specs.declared.kinds.TokenKind.TheVariants as kind
use Rattle.ae_lex.specs.declared.kinds.LexFault.{LexFault}
use Rattle.ae_lex.specs.Lexis.{is_letter, is_inner, IsWord, IsTypeVar, HasKind, IsCut, ends, fails, passes, gives, IsTokenized}
use Rattle.ae_syntax.specs.Parts.{span}
use Rattle.ae_elab.specs.Names.{IsName}
use Rattle.ae_elab.specs.Scope.{name_in}

-- ---- bytes
abbrev small : ℕ → Bool
small b = nat_lt b 128

letter_small : (b : ℕ) → is_letter b ≡ true → small b ≡ true
letter_small b e = grind (arith, nat_tests)

inner_small : (b : ℕ) → is_inner b ≡ true → small b ≡ true
inner_small b e = grind (arith, nat_tests)

small_ascii : (w : List ℕ) → list_all small w ≡ true → IsAscii w
small_ascii w e = IsAscii-from_all w (λ k d l. ltb-true (get_or w k d) 128 (AllPass-from_list_all small w e k d l))

word_small : (w : List ℕ) → IsWord w → list_all small w ≡ true
word_small [] h = absurd h
word_small (b ∷ w) h = and_from (small b) (list_all small w) (letter_small b h.0) (list_all_weaker is_inner small inner_small w h.1)

var_small : (w : List ℕ) → IsTypeVar w → list_all small w ≡ true
var_small [] h = absurd h
var_small (b ∷ w) h = and_from (small b) (list_all small w) (ap small h.0) (word_small w h.1)

-- ---- tokens
-- the kinds of tokens that are names
abbrev pub IsNaming : TokenKind → Type 0
IsNaming k = (k ≡ kind.Ident) ⊎ (k ≡ kind.TypeVar)

named_small : (k : TokenKind) (w : List ℕ) → HasKind k w → IsNaming k → list_all small w ≡ true
named_small k w h (inl e) = word_small w (subst (λ (z : TokenKind). HasKind z w) e h).0
named_small k w h (inr e) = var_small w (subst (λ (z : TokenKind). HasKind z w) e h)

cut_out : (before w rest : List ℕ) → slice_range (before ++ (w ++ rest)) (length before) (length before + length w) ≡ w
cut_out before w rest =
    let width : length before + length w - length before ≡ length w = omega arith in
    ap (λ n. take n (drop (length before) (before ++ (w ++ rest)))) width
    ∙ ap (take (length w)) (drop-append_seam before (w ++ rest))
    ∙ take-append_seam w rest

stands : (text before w rest : List ℕ) → text ≡ before ++ (w ++ rest) → list_all small w ≡ true → IsName text (record { from = length before; to = length before + length w })
stands text before w rest e h =
    let long : length text ≡ length before + (length w + length rest) = ap length e ∙ length-append before (w ++ rest) ∙ ap (λ n. length before + n) (length-append w rest) in
    let name : name_in text (record { from = length before; to = length before + length w }) ≡ w =
    ap (λ (x : List ℕ). slice_range x (length before) (length before + length w)) e ∙ cut_out before w rest in
    record {
      ordered = omega arith;
      within = omega arith;
      utf8 = subst (λ (x : List ℕ). IsUtf8 x) (sym name) (IsUtf8-from_ascii w (small_ascii w h));
    }

pub record Stands (text : List ℕ) (t : Token) : Type 0 where
  pub name : IsNaming t.kind → IsName text (span t)

cut_stands : (text before x : List ℕ) (at : ℕ) (ts : List Token) (o : Option LexFault) → text ≡ before ++ x → at ≡ length before → IsCut at x ts o → AllByRecursion (Stands text) ts
cut_stands text before x at ts o t l (ends a) = tt
cut_stands text before x at ts o t l (fails a y f h) = tt
cut_stands text before x at ts o t l (passes a y w rest us f e g c) =
    cut_stands text (before ++ w) rest (a + length w) us f (t ∙ ap (λ z. before ++ z) e ∙ sym (append_assoc before w rest))
    (ap (λ n. n + length w) l ∙ sym (length-append before w)) c
cut_stands text before x at ts o t l (gives a y w rest k us f e b c) = (
  record {
    name = λ n. subst (λ (i : ℕ). IsName text (record { from = i; to = i + length w })) (sym l)
        (stands text before w rest (t ∙ ap (λ z. before ++ z) e) (named_small k w b.has_kind n));
  },
  cut_stands text (before ++ w) rest (a + length w) us f (t ∙ ap (λ z. before ++ z) e ∙ sym (append_assoc before w rest))
      (ap (λ n. n + length w) l ∙ sym (length-append before w)) c,
)

-- each token that is a name stands in the text
pub tokens_stand : (text : List ℕ) (ts : List Token) → IsTokenized text ts → AllByRecursion (Stands text) ts
tokens_stand text ts c = cut_stands text [] text 0 ts None refl refl c
