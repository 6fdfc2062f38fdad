-- What the parser's functions answer, by the machine alone.
use Rattle.std.specs.Prelude.{ℕ, suc, ◌+◌, ◌-◌, ◌^◌, ◌≤◌, ◌<◌, List, [], ◌∷◌, ◌++◌, ◌≡◌, ◌⊎◌, true, false, length, drop, Option, Some, None, Result, Ok, Err}
use Rattle.ae_lex.specs.declared.kinds.Token.{Token}
use Rattle.ae_lex.specs.declared.kinds.TokenKind.{TokenKind}
use Rattle.ae_lex.specs.declared.kinds.TokenKind.TheVariants as kind
use Rattle.ae_lex.specs.declared.kinds.Reserved.TheVariants as word
use Rattle.ae_lex.specs.declared.kinds.Sign.TheVariants as sign
use Rattle.ae_syntax.specs.declared.exprs.Expr.{Expr}
use Rattle.ae_syntax.specs.declared.exprs.ExprKind as expr_kind
use Rattle.ae_syntax.specs.declared.faults.Refusal.{Refusal}
use Rattle.ae_syntax.specs.declared.faults.Refusal.TheVariants.{Wrong, Deep, Memory}
use Rattle.ae_syntax.specs.Inner.SameKinds.{same}
use Rattle.ae_syntax.specs.Parts.{Part, tree, span, expression}
use Rattle.ae_syntax.specs.Grammar.{of_exprs, of_settings}
use Rattle.ae_syntax.specs.Inner.Machine.{Want, a_post, a_type, pass, past, kept, make, all_differ, ascribe, build, change, the_word, the_sign, items_wants, constant, judge, wrong, deep}

-- how strongly a token goes on with what stands before it, from 1 for an arrow to 7 for a point; a relation counts nothing
abbrev pub grip_of : TokenKind → ℕ
grip_of (kind.Sign sign.Arrow) = 1
grip_of (kind.Sign sign.Iff) = 1
grip_of (kind.Reserved word.Xor) = 1
grip_of (kind.Reserved word.Or) = 2
grip_of (kind.Reserved word.And) = 3
grip_of (kind.Sign sign.Plus) = 5
grip_of (kind.Sign sign.Minus) = 5
grip_of (kind.Sign sign.Star) = 6
grip_of (kind.Sign sign.Slash) = 6
grip_of (kind.Sign sign.Percent) = 6
grip_of (kind.Sign sign.Dot) = 7
grip_of _ = 0

unfoldable pub grip : List Token → ℕ
grip [] = 0
grip (t ∷ ts) = grip_of t.kind

-- from one place to another the tokens are what is wanted, whatever else is, and the token there is weak
pub record Done (wants : List Want) (given : List Part) (tokens : List Token) (bound at to : ℕ) (p : Part) : Type 0 where
  pub runs : (ss : List Want) (v : List Part) → judge (drop at tokens) (wants ++ ss) (given ++ v) ≡ judge (drop to tokens) ss (p ∷ v)
  pub further : at ≤ to
  pub within : to ≤ length tokens
  pub weak : grip (drop to tokens) < bound

-- nothing that is wanted goes on with the token at k
pub record Fails (wants : List Want) (given : List Part) (tokens : List Token) (at k : ℕ) : Type 0 where
  pub runs : (ss : List Want) (v : List Part) → judge (drop at tokens) (wants ++ ss) (given ++ v) ≡ wrong (length tokens - k)
  pub within : k ≤ length tokens

-- the token at k is the first that is too deep
pub record Sinks (wants : List Want) (given : List Part) (tokens : List Token) (at k : ℕ) : Type 0 where
  pub runs : (ss : List Want) (v : List Part) → judge (drop at tokens) (wants ++ ss) (given ++ v) ≡ deep (length tokens - k)
  pub within : k < length tokens

-- what a function answers for such wants; `part` says which part its value is
abbrev pub Answered : {A : Type 0} → (A → Part) → List Want → List Part → List Token → ℕ → ℕ → Result (A × ℕ) Refusal → Type 0
Answered part wants given tokens bound at (Ok p) = Done wants given tokens bound at p.1 (part p.0)
Answered part wants given tokens bound at (Err (Wrong k)) = Fails wants given tokens at k
Answered part wants given tokens bound at (Err (Deep k)) = Sinks wants given tokens at k
Answered part wants given tokens bound at (Err Memory) = Unit {0}

-- the same of an expression
abbrev pub ExprAnswered : List Want → List Part → List Token → ℕ → ℕ → Result (Expr × ℕ) Refusal → Type 0
ExprAnswered wants given tokens bound at r = Answered (λ e. tree e) wants given tokens bound at r

-- a token stands at a place; `room` is the machine's: there are fewer tokens than numbers in 64 bits
pub record IsAt (tokens : List Token) (at : ℕ) (t : Token) : Type 0 where
  pub next : drop at tokens ≡ t ∷ drop (at + 1) tokens
  pub within : at < length tokens
  pub room : length tokens < 2 ^ 64

-- a token of this kind stands there
pub record Stands (kind : TokenKind) (tokens : List Token) (at : ℕ) : Type 0 where
  pub token : Token
  pub is : same token.kind kind ≡ true
  pub next : drop at tokens ≡ token ∷ drop (at + 1) tokens
  pub within : at < length tokens
  pub room : length tokens < 2 ^ 64

-- no token of this kind stands there
pub record Lacks (kind : TokenKind) (tokens : List Token) (at : ℕ) : Type 0 where
  pub none : (t : Token) (ts : List Token) → drop at tokens ≡ t ∷ ts → same t.kind kind ≡ false

-- what comes after the word `distinct`
abbrev pub distinct_wants : ℕ → List Want
distinct_wants d = past sign.OpenParen (suc d) ∷ items_wants of_exprs (suc d) ++ kept sign.CloseParen d ∷ make all_differ ∷ []

-- the sort of an expression in brackets, after its colon, where d is the depth of the bracket that closes them
abbrev pub ascribed_wants : ℕ → ℕ → List Want
ascribed_wants n d = a_type n ∷ kept sign.CloseParen d ∷ make ascribe ∷ []

-- the values of a record's fields, and its bracket
abbrev pub record_wants : ℕ → ℕ → List Want
record_wants n d = items_wants of_settings n ++ kept sign.CloseBrace d ∷ make build ∷ []

-- a record, the values of the fields that are changed, and the bracket
abbrev pub change_wants : ℕ → ℕ → List Want
change_wants n d = a_post n ∷ pass (the_word word.With) n ∷ items_wants of_settings n ++ kept sign.CloseBrace d ∷ make change ∷ []

-- a name with `=` stands there
pub record Sets (tokens : List Token) (at : ℕ) : Type 0 where
  pub name : Stands kind.Ident tokens at
  pub equals : Stands (the_sign sign.Equal) tokens (at + 1)

-- no name stands there, or no `=` after it
abbrev pub SetsNone : List Token → ℕ → Type 0
SetsNone tokens at = Lacks kind.Ident tokens at ⊎ (Stands kind.Ident tokens at × Lacks (the_sign sign.Equal) tokens (at + 1))

-- what an atom of one token is, at its place
abbrev pub placed : Token → Option expr_kind.ExprKind → Option Expr
placed t (Some f) = Some (expression (span t) f)
placed t None = None

abbrev pub ConstantAnswered : Token → ℕ → Result Expr Refusal → Type 0
ConstantAnswered t at (Ok e) = constant t t.kind ≡ Some e
ConstantAnswered t at (Err (Wrong k)) = (constant t t.kind ≡ None) × (k ≡ at)
ConstantAnswered t at (Err (Deep k)) = ⊥
ConstantAnswered t at (Err Memory) = Unit {0}
