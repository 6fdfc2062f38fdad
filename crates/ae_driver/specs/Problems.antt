-- The problem of a text, and why a text has none.
use Rattle.std.specs.Prelude.{ℕ, List}
use Rattle.ae_core.specs.declared.problems.Problem.{Problem}
use Rattle.ae_elab.specs.Problems.{IsTyped, IsTypeFault}
use Rattle.ae_elab.specs.declared.faults.TypeFault.{TypeFault}
use Rattle.ae_fault_lines.specs.Lines.{IsFaultLine}
use Rattle.ae_lex.specs.Lexis.{IsTokenized, IsFault}
use Rattle.ae_lex.specs.declared.kinds.Token.{Token}
use Rattle.ae_lex.specs.declared.kinds.LexFault.{LexFault}
use Rattle.ae_report.specs.Lines.{IsRefusalLine}
use Rattle.ae_report.specs.declared.refusal.Refusal.TheVariants as refusal
use Rattle.ae_syntax.specs.Files.{IsParsed, IsSyntaxFault}
use Rattle.ae_syntax.specs.declared.decls.File.{File}
use Rattle.ae_syntax.specs.declared.faults.SyntaxFault.{SyntaxFault}
use Rattle.ae_driver.specs.declared.reasons.Reason.{Reason}
use Rattle.ae_driver.specs.declared.reasons.Reason.TheVariants.{Plain, Untyped}

-- the tree of a text: that of its tokens
pub record IsFileOf (text : List ℕ) (file : File) : Type 0 where
  pub tokens : List Token
  pub tokenized : IsTokenized text tokens
  pub parsed : IsParsed tokens file

-- the problem of a text: that of its tree, typed and elaborated
pub record IsProblemOf (text : List ℕ) (p : Problem) : Type 0 where
  pub file : File
  pub is_file : IsFileOf text file
  pub typed : IsTyped text file p

-- why a text has no problem, in this order: it has no tokens; they are no file; the file has a fault of typing
pub data HasNoProblem (text : List ℕ) : Reason → Type 0 where
  by_lexis : (f : LexFault) → IsFault text f → HasNoProblem text (Plain (refusal.Lex f))
  by_syntax : (tokens : List Token) (f : SyntaxFault) → IsTokenized text tokens → IsSyntaxFault text tokens f → HasNoProblem text (Plain (refusal.Syntax f))
  by_typing : (file : File) (e : TypeFault) → IsFileOf text file → IsTypeFault text file e → HasNoProblem text (Untyped file e)

-- the line by which a text is refused
abbrev pub IsReasonLine : List ℕ → Reason → List ℕ → Type 0
IsReasonLine text (Plain why) bytes = IsRefusalLine text why bytes
IsReasonLine text (Untyped file e) bytes = IsFaultLine text file e bytes
