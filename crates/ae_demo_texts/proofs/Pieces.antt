-- A text as pieces: tokens, each with a blank behind it or none. Its tokens, and what they spell.
use Rattle.std.proofs.Common.{ℕ, ◌+◌, ◌-◌, List, [], ◌∷◌, ◌++◌, ◌≡◌, length, take, drop, refl, sym, ap, ◌∙◌, subst, arith, append_assoc, length-append, None}
use Rattle.std.specs.Prelude.{slice_range}
use Rattle.std.proofs.Math.Seq.{take-append_seam, drop-append_seam}
use Rattle.ae_base.specs.Relations.{Pairwise}
use Rattle.ae_lex.specs.declared.kinds.Token.{Token}
use Rattle.ae_lex.specs.declared.kinds.TokenKind.{TokenKind}
use Rattle.ae_lex.specs.Lexis.{IsTokenBefore, IsCut, ends, passes, gives, blank}
use Rattle.ae_syntax.specs.Parts.{span}
use Rattle.ae_elab.specs.Scope.{name_in}

-- what stands behind a token
pub data Gap : Type 0 where
  nothing a_blank a_break : Gap

abbrev pub gap_bytes : Gap → List ℕ
gap_bytes nothing = []
gap_bytes a_blank = 32 ∷ []
gap_bytes a_break = 10 ∷ []

pub record Piece : Type 0 where
  pub kind : TokenKind
  pub bytes : List ℕ
  pub gap : Gap

abbrev pub text_of : List Piece → List ℕ
text_of [] = []
text_of (p ∷ ps) = p.bytes ++ (gap_bytes p.gap ++ text_of ps)

-- ---- the tokens
abbrev pub behind : ℕ → Gap → ℕ
behind at nothing = at
behind at a_blank = at + length {A = ℕ} (32 ∷ [])
behind at a_break = at + length {A = ℕ} (10 ∷ [])

abbrev pub token_at : ℕ → Piece → Token
token_at at p = record { kind = p.kind; from = at; to = at + length p.bytes }

abbrev pub tokens_of : ℕ → List Piece → List Token
tokens_of at [] = []
tokens_of at (p ∷ ps) = token_at at p ∷ tokens_of (behind (at + length p.bytes) p.gap) ps

-- each piece is a token before what follows it
abbrev pub AreRight : List Piece → Type 0
AreRight [] = Unit {0}
AreRight (p ∷ ps) = IsTokenBefore p.kind p.bytes (gap_bytes p.gap ++ text_of ps) × AreRight ps

over_gap : (at : ℕ) (g : Gap) (rest : List ℕ) (ts : List Token) → IsCut (behind at g) rest ts None → IsCut at (gap_bytes g ++ rest) ts None
over_gap at nothing rest ts c = c
over_gap at a_blank rest ts c = passes at (32 ∷ rest) (32 ∷ []) rest ts None refl (blank 32 refl refl) c
over_gap at a_break rest ts c = passes at (10 ∷ rest) (10 ∷ []) rest ts None refl (blank 10 refl refl) c

pub cut : (at : ℕ) (ps : List Piece) → AreRight ps → IsCut at (text_of ps) (tokens_of at ps) None
cut at [] r = ends at
cut at (p ∷ ps) r =
    let ts = tokens_of (behind (at + length p.bytes) p.gap) ps in
    gives at (text_of (p ∷ ps)) p.bytes (gap_bytes p.gap ++ text_of ps) p.kind ts None refl r.0
    (over_gap (at + length p.bytes) p.gap (text_of ps) ts (cut (behind (at + length p.bytes) p.gap) ps r.1))

-- ---- what they spell
abbrev pub IsSpelt : List ℕ → Token → Piece → Type 0
IsSpelt text t p = (t.kind ≡ p.kind) × (name_in text (span t) ≡ p.bytes)

abbrev pub AreSpelt : List ℕ → List Token → List Piece → Type 0
AreSpelt text ts ps = Pairwise (IsSpelt text) ts ps

behind_is : (n : ℕ) (w : List ℕ) (g : Gap) (front : List ℕ) → n ≡ length front → length (front ++ (w ++ gap_bytes g)) ≡ behind (n + length w) g
behind_is n w g front e = length-append front (w ++ gap_bytes g) ∙ ap (λ k. length front + k) (length-append w (gap_bytes g)) ∙ last g
  where
    last : (g : Gap) → length front + (length w + length (gap_bytes g)) ≡ behind (n + length w) g
    last nothing = omega (arith, e)
    last a_blank = omega (arith, e)
    last a_break = omega (arith, e)

name_here : (front w rest : List ℕ) → slice_range (front ++ (w ++ rest)) (length front) (length front + length w) ≡ w
name_here front w rest =
    let n : (length front + length w) - length front ≡ length w = omega arith in
    ap (λ k. take k (drop (length front) (front ++ (w ++ rest)))) n ∙ ap (take (length w)) (drop-append_seam front (w ++ rest)) ∙ take-append_seam w rest

pub spelt : (text front : List ℕ) (ps : List Piece) → text ≡ front ++ text_of ps → AreSpelt text (tokens_of (length front) ps) ps
spelt text front [] e = tt
spelt text front (p ∷ ps) e =
    let here = p.bytes ++ gap_bytes p.gap in
    let next : text ≡ (front ++ here) ++ text_of ps =
    e ∙ ap (λ z. front ++ z) (sym (append_assoc p.bytes (gap_bytes p.gap) (text_of ps))) ∙ sym (append_assoc front here (text_of ps)) in (
      (refl, ap (λ z. slice_range z (length front) (length front + length p.bytes)) e ∙ name_here front p.bytes (gap_bytes p.gap ++ text_of ps)),
      subst (λ n. AreSpelt text (tokens_of n ps) ps) (behind_is (length front) p.bytes p.gap front refl) (spelt text (front ++ here) ps next),
    )

-- ---- tokens in two parts
pub record Parted (text : List ℕ) (ts : List Token) (ps qs : List Piece) : Type 0 where
  pub first : List Token
  pub second : List Token
  pub cut : ts ≡ first ++ second
  pub front : AreSpelt text first ps
  pub back : AreSpelt text second qs

pub parted : (text : List ℕ) (ts : List Token) (ps qs : List Piece) → AreSpelt text ts (ps ++ qs) → Parted text ts ps qs
parted text ts [] qs h = record { first = []; second = ts; cut = refl; front = tt; back = h }
parted text [] (p ∷ ps) qs h = absurd h
parted text (t ∷ ts) (p ∷ ps) qs h =
    let k = parted text ts ps qs h.1 in
    record { first = t ∷ k.first; second = k.second; cut = ap (λ z. t ∷ z) k.cut; front = (h.0, k.front); back = k.back }

-- ---- texts of pieces in two parts
pub text_append : (ps qs : List Piece) → text_of (ps ++ qs) ≡ text_of ps ++ text_of qs
text_append [] qs = refl
text_append (p ∷ ps) qs =
    ap (λ z. p.bytes ++ (gap_bytes p.gap ++ z)) (text_append ps qs)
    ∙ ap (λ z. p.bytes ++ z) (sym (append_assoc (gap_bytes p.gap) (text_of ps) (text_of qs)))
    ∙ sym (append_assoc p.bytes (gap_bytes p.gap ++ text_of ps) (text_of qs))
