-- Which tokens are a file, and where tokens that are none stop to be one.
use Rattle.std.specs.Prelude.{ℕ, ◌≤◌, ◌<◌, Bool, true, false, List, [], ◌∷◌, ◌++◌, ◌≡◌, length, take, All, slice_index_or, Option, Some, None}
use Rattle.ae_lex.specs.declared.kinds.Token.{Token}
use Rattle.ae_syntax.specs.declared.decls.Decl.{Decl}
use Rattle.ae_syntax.specs.declared.decls.File.{File}
use Rattle.ae_syntax.specs.declared.faults.SyntaxFault.{SyntaxFault}
use Rattle.ae_syntax.specs.declared.faults.SyntaxFault.TheVariants as fault
use Rattle.ae_syntax.specs.Kinds.{is_outside}
use Rattle.ae_syntax.specs.Parts.{decls}
use Rattle.ae_syntax.specs.Grammar.{Is, file}
use Rattle.ae_syntax.specs.Depth.{depths}
use Rattle.ae_syntax.specs.declared.cursor.TheConstants.{DEPTH_LIMIT}

-- no token is deeper than the limit
abbrev pub AreShallow : List ℕ → Type 0
AreShallow ds = All (λ d. d ≤ DEPTH_LIMIT) ds

-- the tokens are this file, by the grammar, and none of them is too deep
pub record IsParsed (tokens : List Token) (f : File) : Type 0 where
  pub is : Is file tokens (decls f.decls)
  pub shallow : AreShallow (depths is 0)

-- the tokens begin a file, with some tokens after them, and none of them is too deep
pub record BeginsFile (before : List Token) : Type 0 where
  pub more : List Token
  pub declared : List Decl
  pub is : Is file (before ++ more) (decls declared)
  pub shallow : AreShallow (take (length before) (depths is 0))

-- No file begins with the tokens before and the first of those after them. Where there is none after them, the tokens
-- before are no file.
abbrev pub IsImpossible : List Token → List Token → Type 0
IsImpossible before [] = (ds : List Decl) → ¬ Is file before (decls ds)
IsImpossible before (t ∷ after) = (more : List Token) (ds : List Decl) → ¬ Is file (before ++ t ∷ more) (decls ds)

-- the tokens before begin a file, and none goes on with what comes next
pub record IsStuck (before after : List Token) : Type 0 where
  pub begins : BeginsFile before
  pub impossible : IsImpossible before after

-- the tokens before and this one begin a file, in which this one is the first that is too deep
pub record IsTooDeep (before : List Token) (t : Token) : Type 0 where
  pub more : List Token
  pub declared : List Decl
  pub is : Is file (before ++ t ∷ more) (decls declared)
  pub shallow : AreShallow (take (length before) (depths is 0))
  pub deep : DEPTH_LIMIT < slice_index_or (depths is 0) (length before) 0

-- where what comes next stands in the text: the next token's first byte, or the text's end
abbrev pub place : List ℕ → List Token → ℕ
place text [] = length text
place text (t ∷ after) = t.from

-- whether it is a word of the language that the profile leaves out
abbrev pub next_is_outside : List Token → Bool
next_is_outside [] = false
next_is_outside (t ∷ after) = is_outside t.kind

-- the tokens stop to be a file at this place of the text, at such a word or not
pub record StopsAt (text : List ℕ) (tokens : List Token) (outside : Bool) (at : ℕ) : Type 0 where
  pub before : List Token
  pub after : List Token
  pub cut : tokens ≡ before ++ after
  pub stuck : IsStuck before after
  pub word : next_is_outside after ≡ outside
  pub at_is : at ≡ place text after

-- the first token of a greater depth than the limit stands at this place of the text
pub record SinksAt (tokens : List Token) (at : ℕ) : Type 0 where
  pub before : List Token
  pub after : List Token
  pub token : Token
  pub cut : tokens ≡ before ++ token ∷ after
  pub deep : IsTooDeep before token
  pub at_is : at ≡ token.from

-- this is why the tokens of the text are no file
abbrev pub IsSyntaxFault : List ℕ → List Token → SyntaxFault → Type 0
IsSyntaxFault text tokens (fault.Unexpected at) = StopsAt text tokens false at
IsSyntaxFault text tokens (fault.OutsideProfile at) = StopsAt text tokens true at
IsSyntaxFault text tokens (fault.TooDeep at) = SinksAt tokens at
IsSyntaxFault text tokens fault.Memory = ⊥

-- the byte at which a fault stands; want of memory stands at none
abbrev pub fault_place : SyntaxFault → Option ℕ
fault_place (fault.Unexpected at) = Some at
fault_place (fault.OutsideProfile at) = Some at
fault_place (fault.TooDeep at) = Some at
fault_place fault.Memory = None
