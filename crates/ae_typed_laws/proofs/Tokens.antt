-- The tokens of a text: each begins in the text, and an identifier is a name.
use Rattle.std.proofs.Common.{arith, ◌≡◌, ◌≢◌, ◌∙◌, ℕ, ◌+◌, take, drop, Bool, true, false, not, ◌&&◌, ◌||◌, Option, Some, None, List, [], ◌∷◌, ◌++◌}
use Rattle.std.proofs.Common.{length, refl, sym, ap, subst, append_assoc, length-append}
use Rattle.std.specs.List.{AllByRecursion, list_all, list_any, slice_range}
use Rattle.std.specs.Str.{bytes_eq}
use Rattle.std.proofs.Math.Seq.{take-append_seam, drop-append_seam}
use Rattle.std.proofs.lemmas.List.Prefix.{front_fits}
use Rattle.std.proofs.lemmas.Bool.{and_from}
use Rattle.std.proofs.lemmas.Bool.Decides.{nat_tests}
use Rattle.std.proofs.lemmas.Slice.Eq.{bytes_eq-Decides}
use Rattle.ae_base.proofs.ListFacts.{list_all_weaker}
use Rattle.ae_base.proofs.Tests.{by_bool}
use Rattle.ae_core.specs.Signatures.{begins_name, continues_name, taken_names, is_name}
use Rattle.ae_lex.specs.declared.kinds.Token.{Token}
use Rattle.ae_lex.specs.declared.kinds.TokenKind.{TokenKind}
use Rattle.ae_lex.specs.declared.kinds.TokenKind.TheVariants as kind
use Rattle.ae_lex.specs.declared.kinds.LexFault.{LexFault}
use Rattle.ae_lex.specs.declared.kinds.Reserved.{Reserved}
use Rattle.ae_lex.specs.declared.kinds.Reserved.TheVariants as word
use Rattle.ae_lex.specs.Lexis.{is_letter, is_inner, IsWord, HasKind, IsWide, IsCut, ends, fails, passes, gives, IsTokenized}
use Rattle.ae_lex.specs.Spellings.{word_bytes}
use Rattle.ae_syntax.specs.Parts.{span}
use Rattle.ae_syntax.specs.declared.exprs.Number.{Number}
use Rattle.ae_syntax.specs.Kinds.{numeral}
use Rattle.ae_typed_laws.proofs.NumeralLaws.{numeral_within}
use Rattle.ae_typed_laws.proofs.ParsedTrees.{IsNumber, IsPlace, IsIdentifier}

-- ---- identifiers are names
letter_begins : (b : ℕ) → is_letter b ≡ true → begins_name b ≡ true
letter_begins b e = grind (arith, nat_tests)

inner_continues : (b : ℕ) → is_inner b ≡ true → continues_name b ≡ true
inner_continues b e = grind (arith, nat_tests)

unlike : (w : List ℕ) (r : Reserved) → ((r : Reserved) → w ≢ word_bytes r) → bytes_eq w (word_bytes r) ≡ false
unlike w r n = by_bool (bytes_eq w (word_bytes r)) (λ e. absurd (n r ((bytes_eq-Decides w (word_bytes r)).0 e))) (λ e. e)

none_any : (p : List ℕ → Bool) (xs : List (List ℕ)) → AllByRecursion (λ x. p x ≡ false) xs → list_any p xs ≡ false
none_any p [] h = refl
none_any p (x ∷ xs) h = ap (λ b. b || list_any p xs) h.0 ∙ none_any p xs h.1

none_taken : (w : List ℕ) → ((r : Reserved) → w ≢ word_bytes r) → not (list_any (bytes_eq w) taken_names) ≡ true
unfolding taken_names
none_taken w n =
    ap not (none_any (bytes_eq w) taken_names
    (unlike w word.Int n, (unlike w word.Real n, (unlike w word.Bool n, (unlike w word.Unit n, (unlike w word.True n, (unlike w word.False n, (unlike w word.Void n, tt))))))))

pub word_is_name : (w : List ℕ) → IsWord w → ((r : Reserved) → w ≢ word_bytes r) → is_name w ≡ true
word_is_name [] h n = absurd h
word_is_name (b ∷ bs) h n =
    and_from (begins_name b && list_all continues_name bs) (not (list_any (bytes_eq (b ∷ bs)) taken_names))
    (and_from (begins_name b) (list_all continues_name bs) (letter_begins b h.0) (list_all_weaker is_inner continues_name inner_continues bs h.1))
    (none_taken (b ∷ bs) n)

-- ---- tokens
pub record Fits (text : List ℕ) (t : Token) : Type 0 where
  pub place : IsPlace text (span t)
  pub name : t.kind ≡ kind.Ident → IsIdentifier text (span t)
  pub number : (n : Number) → numeral t.kind ≡ Some n → IsNumber n

name_cut : (text before w rest : List ℕ) → text ≡ before ++ (w ++ rest) → slice_range text (length before) (length before + length w) ≡ w
name_cut text before w rest e =
    ap (λ (x : List ℕ). slice_range x (length before) (length before + length w)) e
    ∙ ap (λ n. take n (drop (length before) (before ++ (w ++ rest)))) (omega arith)
    ∙ ap (take (length w)) (drop-append_seam before (w ++ rest))
    ∙ take-append_seam w rest

identifier : (text before w rest : List ℕ) (k : TokenKind) → text ≡ before ++ (w ++ rest) → HasKind k w → k ≡ kind.Ident
    → IsIdentifier text (record { from = length before; to = length before + length w })
identifier text before w rest k e h i =
    let word = subst (λ (z : TokenKind). HasKind z w) i h in
    record {
      place = front_fits text before (w ++ rest) e;
      name = ap is_name (name_cut text before w rest e) ∙ word_is_name w word.0 word.1;
    }

fits_token : (text before w rest : List ℕ) (k : TokenKind) (at : ℕ) → text ≡ before ++ (w ++ rest) → at ≡ length before → HasKind k w → ¬ IsWide w
    → Fits text (record { kind = k; from = at; to = at + length w })
fits_token text before w rest k at e l h wide =
    subst (λ (i : ℕ). Fits text (record { kind = k; from = i; to = i + length w })) (sym l)
    (record { place = front_fits text before (w ++ rest) e; name = identifier text before w rest k e h; number = λ n i. numeral_within k w n h wide i })

cut_fits : (text before x : List ℕ) (at : ℕ) (ts : List Token) (o : Option LexFault) → text ≡ before ++ x → at ≡ length before → IsCut at x ts o → AllByRecursion (Fits text) ts
cut_fits text before x at ts o t l (ends a) = tt
cut_fits text before x at ts o t l (fails a y f h) = tt
cut_fits text before x at ts o t l (passes a y w rest us f e g c) =
    cut_fits text (before ++ w) rest (a + length w) us f (t ∙ ap (λ z. before ++ z) e ∙ sym (append_assoc before w rest))
    (ap (λ n. n + length w) l ∙ sym (length-append before w)) c
cut_fits text before x at ts o t l (gives a y w rest k us f e b c) = (
  fits_token text before w rest k a (t ∙ ap (λ z. before ++ z) e) l b.has_kind b.not_wide,
  cut_fits text (before ++ w) rest (a + length w) us f (t ∙ ap (λ z. before ++ z) e ∙ sym (append_assoc before w rest))
      (ap (λ n. n + length w) l ∙ sym (length-append before w)) c,
)

pub tokens_fit : (text : List ℕ) (ts : List Token) → IsTokenized text ts → AllByRecursion (Fits text) ts
tokens_fit text ts c = cut_fits text [] text 0 ts None refl refl c
