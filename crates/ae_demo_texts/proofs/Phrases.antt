-- The phrases of the demo's goals: terms, equations and chains of equations. How they are written, and that their pieces are tokens.
use Rattle.std.proofs.Common.{ℕ, ◌<◌, Bool, true, false, ◌||◌, List, [], ◌∷◌, ◌++◌, ◌≡◌, refl, sym, subst, append_assoc}
use Rattle.std.specs.Prelude.{IsTrue, pos}
use Rattle.std.specs.List.{AllByRecursion}
use Rattle.ae_lex.specs.declared.kinds.TokenKind.TheVariants as kind
use Rattle.ae_lex.specs.declared.kinds.Reserved.{Reserved}
use Rattle.ae_lex.specs.declared.kinds.Reserved.TheVariants as reserved
use Rattle.ae_lex.specs.declared.kinds.Sign.{Sign}
use Rattle.ae_lex.specs.declared.kinds.Sign.TheVariants as sign
use Rattle.ae_lex.specs.Spellings.{word_bytes, sign_bytes}
use Rattle.ae_lex.specs.Lexis.{is_blank, is_letter, is_inner, IsWord}
use Rattle.ae_lex.specs.Inner.Pieces.{StopsAt}
use Rattle.ae_demo_texts.proofs.Pieces.{Gap, nothing, a_blank, a_break, gap_bytes, Piece, text_of, AreRight}
use Rattle.ae_demo_texts.proofs.Before.{IsIdentifier, FollowsSign, ident_before, reserved_before, sign_before, tenths, tenths_before}

-- ---- pieces
abbrev pub word : List ℕ → Gap → Piece
word w g = record { kind = kind.Ident; bytes = w; gap = g }

abbrev pub kept : Reserved → Gap → Piece
kept r g = record { kind = kind.Reserved r; bytes = word_bytes r; gap = g }

abbrev pub mark : Sign → Gap → Piece
mark s g = record { kind = kind.Sign s; bytes = sign_bytes s; gap = g }

-- the digit m, a point and a zero
abbrev pub numeral : ℕ → Gap → Piece
numeral m g = record { kind = kind.Decimal (pos m) (pos 1); bytes = tenths m; gap = g }

-- ---- what stands behind a gap
pub behind_word : (g : Gap) (rest : List ℕ) → StopsAt is_inner rest → StopsAt is_inner (gap_bytes g ++ rest)
behind_word nothing rest s = s
behind_word a_blank rest s = refl
behind_word a_break rest s = refl

-- a gap with a byte
abbrev pub is_wide : Gap → Bool
is_wide nothing = false
is_wide a_blank = true
is_wide a_break = true

pub stops_wide : (g : Gap) (rest : List ℕ) → is_wide g ≡ true → StopsAt is_inner (gap_bytes g ++ rest)
stops_wide nothing rest e = absurd (let h : ⊥ = cc in h)
stops_wide a_blank rest e = refl
stops_wide a_break rest e = refl

pub follows_wide : (g : Gap) (rest : List ℕ) → is_wide g ≡ true → FollowsSign (gap_bytes g ++ rest)
follows_wide nothing rest e = absurd (let h : ⊥ = cc in h)
follows_wide a_blank rest e = refl
follows_wide a_break rest e = refl

-- a word behind a sign
pub follows_word : (w rest : List ℕ) → IsWord w → FollowsSign (w ++ rest)
follows_word [] rest w = absurd w
follows_word (b ∷ u) rest w = either (is_blank b) (is_letter b) w.0
  where
    either : (a c : Bool) → IsTrue c → a || c ≡ true
    either true c e = refl
    either false c e = e

-- ---- arguments: a name with its symbol's number, or a name and a number that is added to it
pub data Argument : Type 0 where
  named : (w : List ℕ) (k : ℕ) → Argument
  plus : (w : List ℕ) (k m : ℕ) → Argument

abbrev pub argument_pieces : Argument → Gap → List Piece
argument_pieces (named w k) g = word w g ∷ []
argument_pieces (plus w k m) g = word w a_blank ∷ mark sign.Plus a_blank ∷ numeral m g ∷ []

abbrev pub IsWritten : Argument → Type 0
IsWritten (named w k) = IsIdentifier w
IsWritten (plus w k m) = IsIdentifier w × (m < 10)

pub argument_right : (u : Argument) (g : Gap) (qs : List Piece) → IsWritten u → StopsAt is_inner (gap_bytes g ++ text_of qs) → AreRight qs → AreRight (argument_pieces u g ++ qs)
argument_right (named w k) g qs i s r = (ident_before w (gap_bytes g ++ text_of qs) i s, r)
argument_right (plus w k m) g qs i s r = (
  ident_before w _ i.0 refl,
  (sign_before sign.Plus (32 ∷ text_of (numeral m g ∷ qs)) refl refl, (tenths_before m (gap_bytes g ++ text_of qs) i.1 s, r)),
)

-- an argument behind a sign
argument_follows : (u : Argument) (g : Gap) (qs : List Piece) → IsWritten u → FollowsSign (text_of (argument_pieces u g ++ qs))
argument_follows (named w k) g qs i = follows_word w (gap_bytes g ++ text_of qs) i.word
argument_follows (plus w k m) g qs i = follows_word w (32 ∷ text_of (mark sign.Plus a_blank ∷ numeral m g ∷ qs)) (i.0).word

-- ---- sides of equations: an argument, or a symbol on one or two
pub data Side : Type 0 where
  alone : (u : Argument) → Side
  one : (f : List ℕ) (k : ℕ) (u : Argument) → Side
  two : (f : List ℕ) (k : ℕ) (u v : Argument) → Side

abbrev pub side_pieces : Side → Gap → List Piece
side_pieces (alone u) g = argument_pieces u g
side_pieces (one f k u) g = word f nothing ∷ mark sign.OpenParen nothing ∷ (argument_pieces u nothing ++ (mark sign.CloseParen g ∷ []))
side_pieces (two f k u v) g =
    word f nothing ∷ mark sign.OpenParen nothing ∷ (argument_pieces u nothing ++ (mark sign.Comma a_blank ∷ (argument_pieces v nothing ++ (mark sign.CloseParen g ∷ []))))

abbrev pub IsSide : Side → Type 0
IsSide (alone u) = IsWritten u
IsSide (one f k u) = IsIdentifier f × IsWritten u
IsSide (two f k u v) = IsIdentifier f × IsWritten u × IsWritten v

pub joined : (xs ys zs : List Piece) → AreRight (xs ++ (ys ++ zs)) → AreRight ((xs ++ ys) ++ zs)
joined xs ys zs r = subst AreRight (sym (append_assoc xs ys zs)) r

pub side_right : (s : Side) (g : Gap) (qs : List Piece) → IsSide s → is_wide g ≡ true → AreRight qs → AreRight (side_pieces s g ++ qs)
side_right (alone u) g qs i e r = argument_right u g qs i (stops_wide g (text_of qs) e) r
side_right (one f k u) g qs i e r = (
  ident_before f _ i.0 refl,
  (
    sign_before sign.OpenParen _ refl (subst (λ z. FollowsSign (text_of z)) (sym (append_assoc (argument_pieces u nothing) (mark sign.CloseParen g ∷ []) qs)) (argument_follows u nothing (mark sign.CloseParen g ∷ qs) i.1)),
    joined (argument_pieces u nothing) (mark sign.CloseParen g ∷ []) qs
        (argument_right u nothing (mark sign.CloseParen g ∷ qs) i.1 refl (sign_before sign.CloseParen (gap_bytes g ++ text_of qs) refl (follows_wide g (text_of qs) e), r)),
  ),
)
side_right (two f k u v) g qs i e r =
    let last = joined (argument_pieces v nothing) (mark sign.CloseParen g ∷ []) qs
    (argument_right v nothing (mark sign.CloseParen g ∷ qs) i.2 refl (sign_before sign.CloseParen (gap_bytes g ++ text_of qs) refl (follows_wide g (text_of qs) e), r)) in
    let more = mark sign.Comma a_blank ∷ (argument_pieces v nothing ++ (mark sign.CloseParen g ∷ [])) in (
      ident_before f _ i.0 refl,
      (
        sign_before sign.OpenParen _ refl (subst (λ z. FollowsSign (text_of z)) (sym (append_assoc (argument_pieces u nothing) more qs)) (argument_follows u nothing (more ++ qs) i.1)),
        joined (argument_pieces u nothing) more qs (argument_right u nothing (more ++ qs) i.1 refl (sign_before sign.Comma _ refl refl, last)),
      ),
    )

-- ---- equations, and chains of them: each follows from those before the last arrow
pub record Equation : Type 0 where
  pub left : Side
  pub right : Side

abbrev pub equation_pieces : Equation → Gap → List Piece
equation_pieces e g = side_pieces e.left a_blank ++ (mark sign.Equal a_blank ∷ side_pieces e.right g)

abbrev pub IsEquation : Equation → Type 0
IsEquation e = IsSide e.left × IsSide e.right

pub equation_right : (e : Equation) (g : Gap) (qs : List Piece) → IsEquation e → is_wide g ≡ true → AreRight qs → AreRight (equation_pieces e g ++ qs)
equation_right e g qs i w r =
    joined (side_pieces e.left a_blank) (mark sign.Equal a_blank ∷ side_pieces e.right g) qs
    (side_right e.left a_blank (mark sign.Equal a_blank ∷ (side_pieces e.right g ++ qs)) i.0 refl (sign_before sign.Equal _ refl refl, side_right e.right g qs i.1 w r))

abbrev pub chain_pieces : List Equation → Equation → List Piece
chain_pieces [] c = equation_pieces c a_break
chain_pieces (h ∷ hs) c = equation_pieces h a_blank ++ (mark sign.Arrow a_blank ∷ chain_pieces hs c)

abbrev pub AreEquations : List Equation → Type 0
AreEquations hs = AllByRecursion IsEquation hs

pub chain_right : (hs : List Equation) (c : Equation) (qs : List Piece) → AreEquations hs → IsEquation c → AreRight qs → AreRight (chain_pieces hs c ++ qs)
chain_right [] c qs a i r = equation_right c a_break qs i refl r
chain_right (h ∷ hs) c qs a i r =
    joined (equation_pieces h a_blank) (mark sign.Arrow a_blank ∷ chain_pieces hs c) qs
    (equation_right h a_blank (mark sign.Arrow a_blank ∷ (chain_pieces hs c ++ qs)) a.0 refl (sign_before sign.Arrow _ refl refl, chain_right hs c qs a.1 i r))

-- ---- goals
pub record Goal : Type 0 where
  pub name : List ℕ
  pub given : List Equation
  pub then : Equation

abbrev pub goal_pieces : Goal → List Piece
goal_pieces g = kept reserved.Goal a_blank ∷ word g.name a_blank ∷ mark sign.Colon a_blank ∷ chain_pieces g.given g.then

pub record IsGoal (g : Goal) : Type 0 where
  pub name : IsIdentifier g.name
  pub given : AreEquations g.given
  pub then : IsEquation g.then

pub goal_right : (g : Goal) (qs : List Piece) → IsGoal g → AreRight qs → AreRight (goal_pieces g ++ qs)
goal_right g qs i r =
    (reserved_before reserved.Goal _ refl, (ident_before g.name _ i.name refl, (sign_before sign.Colon _ refl refl, chain_right g.given g.then qs i.given i.then r)))
