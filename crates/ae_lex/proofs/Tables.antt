-- The tables of reserved words and signs.
use Rattle.std.proofs.Common.{ℕ, zero, suc, ◌+◌, ◌≤◌, ◌<◌, Bool, true, false, not, ◌&&◌, nat_eq, List, [], ◌∷◌, ◌≡◌, ◌≢◌, inl, inr, length, refl, sym, ap, ◌∙◌, subst, arith, Option, Some, None, slice_index_or}
use Rattle.std.specs.Prelude.{nat_le, IfSome, IfNone}
use Rattle.std.specs.List.{list_all}
use Rattle.std.proofs.lemmas.List.{get_or_default}
use Rattle.std.proofs.lemmas.Bool.{leb-true, cases_lt, and_parts, not-true}
use denote.Enum.Declared.{rowss, tag_of}
use denote.Enum.Enum.{tag_below}
use Rattle.ae_base.proofs.Tests.{false_true, not_both, four_parts}
use Rattle.ae_lex.proofs.Enumerations.{AreAll, at_tag, each_passes, one_spelling}
use Rattle.ae_lex.specs.contracts.kinds.Reserved.{the_type as the_words}
use Rattle.ae_lex.specs.contracts.kinds.Sign.{the_type as the_signs}
use Rattle.ae_lex.specs.declared.kinds.Reserved.{Reserved}
use Rattle.ae_lex.specs.declared.kinds.Reserved.TheVariants as word
use Rattle.ae_lex.specs.declared.kinds.Sign.{Sign}
use Rattle.ae_lex.specs.declared.kinds.Sign.TheVariants as sign
use Rattle.ae_lex.specs.Spellings.{word_bytes, sign_bytes}
use Rattle.ae_lex.specs.Lexis.{IsWord, Begins, is_letter, is_digit, is_inner, is_blank}
use Rattle.ae_lex.specs.Inner.Pieces.{IsMark, IsFirstSign}

-- ---- reserved words
abbrev pub words : List Reserved
words = word.Ac ∷ word.And ∷ word.Axiom ∷ word.Bool ∷ word.Bitv ∷ word.CaseSplit ∷ word.Check ∷ word.CheckSat ∷ word.Cut ∷ word.Distinct ∷ word.Else ∷ word.End ∷ word.Exists ∷ word.Extends ∷ word.False ∷ word.Forall ∷ word.Function ∷ word.Goal ∷ word.If ∷ word.In ∷ word.Int ∷ word.Let ∷ word.Logic ∷ word.Match ∷ word.Not ∷ word.Of ∷ word.Or ∷ word.Predicate ∷ word.Prop ∷ word.Real ∷ word.Rewriting ∷ word.Then ∷ word.Theory ∷ word.True ∷ word.Type_ ∷ word.Unit ∷ word.Void ∷ word.With ∷ word.Xor ∷ []

all_words : AreAll the_words words
all_words = record { bare = tt; order = refl; whole = λ r. tag_below (rowss the_words.parts) (the_words.to r) }

pub none_reserved : (w : List ℕ) → ((k : ℕ) (d : Reserved) → k < 39 → w ≢ word_bytes (slice_index_or words k d)) → (r : Reserved) → w ≢ word_bytes r
none_reserved w none r = subst (λ z. w ≢ word_bytes z) (at_tag the_words words all_words r r) (none (tag_of the_words r) r (all_words.whole r))

-- two reserved words that are written alike are one
pub same_word : (r s : Reserved) → word_bytes r ≡ word_bytes s → r ≡ s
same_word = one_spelling the_words words all_words word_bytes refl

abbrev is_word : List ℕ → Bool
is_word [] = false
is_word (b ∷ w) = is_letter b && list_all is_inner w

word_of_test : (w : List ℕ) → is_word w ≡ true → IsWord w
word_of_test [] e = false_true e
word_of_test (b ∷ w) e = and_parts (is_letter b) (list_all is_inner w) e

pub reserved_is_word : (r : Reserved) → IsWord (word_bytes r)
reserved_is_word r = word_of_test (word_bytes r) (each_passes the_words words all_words (λ r. is_word (word_bytes r)) refl r)

-- ---- signs
abbrev pub signs : List Sign
signs = sign.Iff ∷ sign.Arrow ∷ sign.NotEqual ∷ sign.AtMost ∷ sign.AtLeast ∷ sign.Less ∷ sign.Greater ∷ sign.Equal ∷ sign.Plus ∷ sign.Minus ∷ sign.Star ∷ sign.Slash ∷ sign.Percent ∷ sign.OpenParen ∷ sign.CloseParen ∷ sign.OpenBrace ∷ sign.CloseBrace ∷ sign.OpenBracket ∷ sign.CloseBracket ∷ sign.Comma ∷ sign.Colon ∷ sign.Semicolon ∷ sign.Dot ∷ sign.Bar ∷ []

all_signs : AreAll the_signs signs
all_signs = record { bare = tt; order = refl; whole = λ s. tag_below (rowss the_signs.parts) (the_signs.to s) }

-- two signs that are written alike are one
pub same_sign : (r s : Sign) → sign_bytes r ≡ sign_bytes s → r ≡ s
same_sign = one_spelling the_signs signs all_signs sign_bytes refl

-- a sign begins with a byte that begins nothing else
pub record HasMark (s : Sign) : Type 0 where
  pub head : ℕ
  pub tail : List ℕ
  pub is : sign_bytes s ≡ head ∷ tail
  pub mark : IsMark head

abbrev begins_mark : List ℕ → Bool
begins_mark [] = false
begins_mark (b ∷ w) = not (is_blank b) && not (is_letter b) && not (is_digit b) && not (nat_eq b 39)

mark_of_test : (s : Sign) (w : List ℕ) → sign_bytes s ≡ w → begins_mark w ≡ true → HasMark s
mark_of_test s [] e h = false_true h
mark_of_test s (b ∷ w) e h =
    let four = four_parts (not (is_blank b)) (not (is_letter b)) (not (is_digit b)) (not (nat_eq b 39)) h in
    let quote : b ≡ 39 → ⊥ = λ q. not_both (nat_eq b 39) (ap (λ z. nat_eq z 39) q) (not-true (nat_eq b 39) four.3) in
    record { head = b; tail = w; is = e; mark = record { not_blank = not-true (is_blank b) four.0; not_letter = not-true (is_letter b) four.1; not_digit = not-true (is_digit b) four.2; not_quote = quote } }

pub sign_mark : (s : Sign) → HasMark s
sign_mark s = mark_of_test s (sign_bytes s) refl (each_passes the_signs signs all_signs (λ s. begins_mark (sign_bytes s)) refl s)

-- the signs of a list get no longer, and the first has at most so many bytes
falls : ℕ → List Sign → Bool
falls m [] = true
falls m (s ∷ ss) = nat_le (length (sign_bytes s)) m && falls (length (sign_bytes s)) ss

falls_below : (m k : ℕ) (d : Sign) (ss : List Sign) → falls m ss ≡ true → k < length ss → length (sign_bytes (slice_index_or ss k d)) ≤ m
unfolding falls
falls_below m k d [] e l = absurd (omega arith)
falls_below m zero d (s ∷ ss) e l = leb-true _ _ (and_parts (nat_le (length (sign_bytes s)) m) (falls (length (sign_bytes s)) ss) e).0
falls_below m (suc k) d (s ∷ ss) e l =
    let t = and_parts (nat_le (length (sign_bytes s)) m) (falls (length (sign_bytes s)) ss) e in
    let a = leb-true _ _ t.0 in
    let b = falls_below (length (sign_bytes s)) k d ss t.1 (omega arith) in
    omega (arith, a, b)

falls_on : (m j k : ℕ) (d : Sign) (ss : List Sign) → falls m ss ≡ true → j ≤ k → k < length ss → length (sign_bytes (slice_index_or ss k d)) ≤ length (sign_bytes (slice_index_or ss j d))
unfolding falls
falls_on m j k d [] e h l = absurd (omega arith)
falls_on m zero zero d (s ∷ ss) e h l = omega arith
falls_on m zero (suc k) d (s ∷ ss) e h l = falls_below (length (sign_bytes s)) k d ss (and_parts (nat_le (length (sign_bytes s)) m) (falls (length (sign_bytes s)) ss) e).1 (omega arith)
falls_on m (suc j) zero d (s ∷ ss) e h l = absurd (omega arith)
falls_on m (suc j) (suc k) d (s ∷ ss) e h l = falls_on (length (sign_bytes s)) j k d ss (and_parts (nat_le (length (sign_bytes s)) m) (falls (length (sign_bytes s)) ss) e).1 (omega arith) (omega arith)

signs_fall : falls 3 signs ≡ true
unfolding falls
signs_fall = refl

-- the first sign of the table is the longest one
pub first_longest : (s : Sign) (x : List ℕ) → IsFirstSign s x signs → (t : Sign) → Begins (sign_bytes t) x → length (sign_bytes t) ≤ length (sign_bytes s)
first_longest s x f t b =
    let here = tag_of the_signs t in
    let is = at_tag the_signs signs all_signs t in
    elim (cases_lt here f.place) [
      | inl h ↦ absurd (f.before here t h (subst (λ z. Begins (sign_bytes z) x) (sym (is t)) b))
      | inr h ↦
          let m = falls_on 3 f.place here s signs signs_fall h (all_signs.whole t) in
          let p : length (sign_bytes (slice_index_or signs here s)) ≡ length (sign_bytes t) = ap (λ z. length (sign_bytes z)) (is s) in
          let q : length (sign_bytes s) ≡ length (sign_bytes (slice_index_or signs f.place s)) = ap (λ z. length (sign_bytes z)) f.is in
          omega (arith, m, p, q)
    ]

pub no_sign : (x : List ℕ) → ((k : ℕ) (d : Sign) → k < 24 → ¬ Begins (sign_bytes (slice_index_or signs k d)) x) → (t : Sign) → ¬ Begins (sign_bytes t) x
no_sign x none t b = none (tag_of the_signs t) t (all_signs.whole t) (subst (λ z. Begins (sign_bytes z) x) (sym (at_tag the_signs signs all_signs t t)) b)

-- ---- what the searches in the tables answer
pub none_word : (o : Option Reserved) (w : List ℕ) → IfNone o ((k : ℕ) (d : Reserved) → k < 39 → w ≢ word_bytes (slice_index_or words k d)) → IfNone o ((r : Reserved) → w ≢ word_bytes r)
none_word None w h = none_reserved w h
none_word (Some r) w h = tt

pub none_sign : (o : Option Sign) (x : List ℕ) → IfNone o ((k : ℕ) (d : Sign) → k < 24 → ¬ Begins (sign_bytes (slice_index_or signs k d)) x) → IfNone o ((t : Sign) → ¬ Begins (sign_bytes t) x)
none_sign None x h = no_sign x h
none_sign (Some s) x h = tt

pub some_longest : (o : Option Sign) (x : List ℕ) → IfSome o (λ s. IsFirstSign s x signs) → IfSome o (λ s. (t : Sign) → Begins (sign_bytes t) x → length (sign_bytes t) ≤ length (sign_bytes s))
some_longest None x h = tt
some_longest (Some s) x h = first_longest s x h

pub none_more : (ss : List Sign) (x : List ℕ) (i : ℕ) (e : Sign) → i < length ss → ((k : ℕ) (d : Sign) → k < i → Begins (sign_bytes (slice_index_or ss k d)) x → ⊥) → (Begins (sign_bytes (slice_index_or ss i e)) x → ⊥) → (k : ℕ) (d : Sign) → k < i + 1 → Begins (sign_bytes (slice_index_or ss k d)) x → ⊥
none_more ss x i e l below here k d m = elim (cases_lt k i) [
  | inl h ↦ below k d h
  | inr h ↦
      let same : k ≡ i = omega arith in
      let one : slice_index_or ss k d ≡ slice_index_or ss i e = ap (λ z. slice_index_or ss z d) same ∙ get_or_default ss i d e l in
      λ b. here (subst (λ z. Begins (sign_bytes z) x) one b)
]
