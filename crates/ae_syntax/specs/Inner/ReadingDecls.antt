-- What the functions for types and declarations answer, by the machine alone.
use Rattle.std.specs.Prelude.{ℕ, Bool, true, false, ◌-◌, ◌≤◌, ◌<◌, List, [], ◌∷◌, ◌++◌, ◌≡◌, length, drop, Result, Ok, Err}
use Rattle.ae_lex.specs.declared.kinds.Token.{Token}
use Rattle.ae_lex.specs.declared.kinds.TokenKind.{TokenKind}
use Rattle.ae_lex.specs.declared.kinds.Sign.{Sign}
use Rattle.ae_syntax.specs.declared.spans.Span.{Span}
use Rattle.ae_syntax.specs.declared.types.WrittenType.{WrittenType}
use Rattle.ae_syntax.specs.declared.decls.TypedName.{TypedName}
use Rattle.ae_syntax.specs.declared.decls.Decl.{Decl}
use Rattle.ae_syntax.specs.declared.faults.Refusal.{Refusal}
use Rattle.ae_syntax.specs.declared.faults.Refusal.TheVariants.{Wrong, Deep, Memory}
use Rattle.ae_syntax.specs.declared.faults.SyntaxFault.{SyntaxFault}
use Rattle.ae_syntax.specs.declared.faults.SyntaxFault.TheVariants as fault
use Rattle.ae_syntax.specs.Files.{place, next_is_outside}
use Rattle.ae_syntax.specs.Parts.{Part, names, typeds, sorts, decls}
use Rattle.ae_syntax.specs.Grammar.{Items, of_types, separator}
use Rattle.ae_syntax.specs.Inner.Machine.{Want, keep, more, a_file, element_wants, items_wants, typed_wants, judge, all, wrong, deep}
use Rattle.ae_syntax.specs.Inner.Reading.{Fails, Sinks, Answered}
use Rattle.ae_syntax.specs.declared.cursor.TheConstants.{DEPTH_LIMIT}

-- from one place to another the tokens turn these wants and parts into those, whatever else is
pub record Leads (wants : List Want) (given : List Part) (tokens : List Token) (at : ℕ) (wants' : List Want) (given' : List Part) (to : ℕ) : Type 0 where
  pub runs : (ss : List Want) (v : List Part) → judge (drop at tokens) (wants ++ ss) (given ++ v) ≡ judge (drop to tokens) (wants' ++ ss) (given' ++ v)
  pub further : at ≤ to
  pub within : to ≤ length tokens

-- reading stops, for this reason
pub data Halts (wants : List Want) (given : List Part) (tokens : List Token) (at : ℕ) (e : Refusal) : Type 0 where
  at_wrong : (k : ℕ) → e ≡ Wrong k → Fails wants given tokens at k → Halts wants given tokens at e
  at_deep : (k : ℕ) → e ≡ Deep k → Sinks wants given tokens at k → Halts wants given tokens at e
  for_memory : e ≡ Memory → Halts wants given tokens at e

-- what a function answers that turns wants and parts into others
abbrev pub Turns : {A : Type 0} → List Want → List Part → List Token → ℕ → List Want → (A → List Part) → Result (A × ℕ) Refusal → Type 0
Turns wants given tokens at wants' parts (Ok p) = Leads wants given tokens at wants' (parts p.0) p.1
Turns wants given tokens at wants' parts (Err e) = Halts wants given tokens at e

-- items that are tokens of a kind, parted by a sign, at each depth
abbrev pub NamesRead : TokenKind → Sign → List Token → ℕ → Result (List Span × ℕ) Refusal → Type 0
NamesRead k s tokens at r = (w : Items) (d : ℕ) → element_wants w d ≡ keep k d ∷ [] → separator w ≡ s → d ≤ DEPTH_LIMIT → Answered (λ ns. names ns) (items_wants w d) [] tokens 8 at r

-- names with their types, in brackets
abbrev pub TypedsRead : Sign → List Token → ℕ → Result (List TypedName × ℕ) Refusal → Type 0
TypedsRead s tokens at r = (w : Items) → element_wants w 1 ≡ typed_wants 1 → separator w ≡ s → Answered (λ ns. typeds ns) (items_wants w 1) [] tokens 8 at r

-- more types were found after these ones, and they go on whatever list there is
pub record SortsGoOn (before found : List WrittenType) (d : ℕ) (tokens : List Token) (at to : ℕ) (wants : List Want) : Type 0 where
  pub new : List WrittenType
  pub is : found ≡ before ++ new
  pub further : at ≤ to
  pub within : to ≤ length tokens
  pub leads : (xs : List WrittenType) → Leads (more of_types d ∷ []) (sorts xs ∷ []) tokens at wants (sorts (xs ++ new) ∷ []) to

abbrev pub MoreSorts : List WrittenType → ℕ → List Token → ℕ → Result (List WrittenType × ℕ) Refusal → Type 0
MoreSorts before d tokens at (Ok p) = SortsGoOn before p.0 d tokens at p.1 []
MoreSorts before d tokens at (Err e) = (xs : List WrittenType) → Halts (more of_types d ∷ []) (sorts xs ∷ []) tokens at e

-- a declaration of a file, after any others
abbrev pub DeclRead : List Token → ℕ → Result (Decl × ℕ) Refusal → Type 0
DeclRead tokens at (Ok p) = (at < p.1) × (p.1 ≤ length tokens) × ((ds : List Decl) → Leads (a_file ∷ []) (decls ds ∷ []) tokens at (a_file ∷ []) (decls (ds ++ p.0 ∷ []) ∷ []) p.1)
DeclRead tokens at (Err (Wrong k)) = (k ≤ length tokens) × ((ds : List Decl) → judge (drop at tokens) (a_file ∷ []) (decls ds ∷ []) ≡ wrong (length tokens - k))
DeclRead tokens at (Err (Deep k)) = (k < length tokens) × ((ds : List Decl) → judge (drop at tokens) (a_file ∷ []) (decls ds ∷ []) ≡ deep (length tokens - k))
DeclRead tokens at (Err Memory) = Unit {0}

-- the file of all tokens
abbrev pub FileRead : List Token → Result (List Decl) Refusal → Type 0
FileRead tokens (Ok ds) = judge tokens (a_file ∷ []) (decls [] ∷ []) ≡ all (decls ds ∷ [])
FileRead tokens (Err (Wrong k)) = (k ≤ length tokens) × (judge tokens (a_file ∷ []) (decls [] ∷ []) ≡ wrong (length tokens - k))
FileRead tokens (Err (Deep k)) = (k < length tokens) × (judge tokens (a_file ∷ []) (decls [] ∷ []) ≡ deep (length tokens - k))
FileRead tokens (Err Memory) = Unit {0}

-- the refusal stands at a token, or at their end
abbrev pub IsPlaced : List Token → Refusal → Type 0
IsPlaced tokens (Wrong k) = k ≤ length tokens
IsPlaced tokens (Deep k) = k ≤ length tokens
IsPlaced tokens Memory = Unit {0}

-- the fault that a refusal is
abbrev pub wrong_fault : Bool → ℕ → SyntaxFault
wrong_fault true at = fault.OutsideProfile at
wrong_fault false at = fault.Unexpected at

abbrev pub FaultOf : List ℕ → List Token → Refusal → SyntaxFault → Type 0
FaultOf text tokens (Wrong k) f = f ≡ wrong_fault (next_is_outside (drop k tokens)) (place text (drop k tokens))
FaultOf text tokens (Deep k) f = f ≡ fault.TooDeep (place text (drop k tokens))
FaultOf text tokens Memory f = f ≡ fault.Memory
