-- The text as far as it is cut.
use Rattle.std.proofs.Common.{ℕ, ◌≤◌, ◌<◌, List, [], ◌∷◌, ◌++◌, ◌≡◌, length, drop, refl, sym, ap, ◌∙◌, subst, arith, append_assoc, Option, Some, None}
use Rattle.ae_lex.specs.declared.kinds.TokenKind.{TokenKind}
use Rattle.ae_lex.specs.declared.kinds.Token.{Token}
use Rattle.ae_lex.specs.declared.kinds.LexFault.{LexFault}
use Rattle.ae_lex.specs.declared.lexer.Piece.TheVariants as piece
use Rattle.ae_lex.specs.Lexis.{IsFaultAt, IsCut, ends, fails, passes, gives, IsTokenized, IsFault}
use Rattle.ae_lex.specs.Inner.Pieces.{Stands}
use Rattle.ae_lex.proofs.KindLaws.{gap_some, token_some}

-- the tokens so far, and the place
pub record SoFar (text : List ℕ) (found : List Token) (at : ℕ) : Type 0 where
  pub go_on : (ts : List Token) (f : Option LexFault) → IsCut at (drop at text) ts f → IsCut 0 text (found ++ ts) f
  pub within : at ≤ length text

pub nothing_yet : (text : List ℕ) → SoFar text [] 0
nothing_yet text = record { go_on = λ ts f c. c; within = omega arith }

pub gap_step : (text : List ℕ) (found : List Token) (at to : ℕ) → SoFar text found at → Stands (piece.Gap to) at text → SoFar text found to × (at < to)
gap_step text found at to s g =
    let p = g.1 in
    let n = gap_some g.0 g.2 in
    let far = p.far in (
      record {
        go_on = λ ts f c. s.go_on ts f (passes at (drop at text) g.0 (drop to text) ts f p.cut g.2 (subst (λ z. IsCut z (drop to text) ts f) p.far c));
        within = p.within;
      },
      omega (arith, n, far),
    )

pub token_step : (text : List ℕ) (found more : List Token) (at to : ℕ) (k : TokenKind) → SoFar text found at → Stands (piece.Token k to) at text → more ≡ found ++ record { kind = k; from = at; to = to } ∷ [] → SoFar text more to × (at < to)
token_step text found more at to k s g e =
    let p = g.1 in
    let n = token_some k g.0 g.2.has_kind in
    let far = p.far in (
      record {
        go_on = λ ts f c.
            let cut = gives at (drop at text) g.0 (drop to text) k ts f p.cut g.2 (subst (λ z. IsCut z (drop to text) ts f) p.far c) in
            let placed = subst (λ z. IsCut at (drop at text) (record { kind = k; from = at; to = z } ∷ ts) f) (sym p.far) cut in
            let whole = s.go_on (record { kind = k; from = at; to = to } ∷ ts) f placed in
            subst (λ z. IsCut 0 text z f) (sym (ap (λ z. z ++ ts) e ∙ append_assoc found (record { kind = k; from = at; to = to } ∷ []) ts)) whole;
        within = p.within;
      },
      omega (arith, n, far),
    )

append_nil : (ts : List Token) → ts ++ [] ≡ ts
append_nil [] = refl
append_nil (t ∷ ts) = ap (λ z. t ∷ z) (append_nil ts)

pub fault_found : (text : List ℕ) (found : List Token) (at : ℕ) (f : LexFault) → SoFar text found at → IsFaultAt f at (drop at text) → IsFault text f
fault_found text found at f s h = (found ++ [], s.go_on [] (Some f) (fails at (drop at text) f h))

pub end_found : (text : List ℕ) (found : List Token) (at : ℕ) → SoFar text found at → drop at text ≡ [] → IsTokenized text found
end_found text found at s e = subst (λ z. IsCut 0 text z None) (append_nil found) (s.go_on [] None (subst (λ z. IsCut at z [] None) (sym e) (ends at)))
