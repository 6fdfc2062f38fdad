-- The problem of a demo's text.
use Rattle.std.specs.Prelude.{ℕ, true, ◌≡◌, List}
use Rattle.std.specs.List.{AllByRecursion}
use Rattle.ae_core.specs.Signatures.{IsLawfulProblem}
use Rattle.ae_core.specs.Sorts.{formula_ok}
use Rattle.ae_core.specs.declared.problems.Item.{Item}
use Rattle.ae_core.specs.declared.problems.Item.TheVariants.{Axiom, Goal}
use Rattle.ae_core.specs.declared.problems.Problem.{Problem}
use Rattle.ae_core.specs.declared.problems.Signature.{Signature}
use Rattle.ae_elab.specs.Problems.{IsTyped}
use Rattle.ae_gen.specs.Demo.{demo_text}
use Rattle.ae_journal.specs.Ground.{is_simple}
use Rattle.ae_lex.specs.Lexis.{IsTokenized}
use Rattle.ae_lex.specs.declared.kinds.Token.{Token}
use Rattle.ae_syntax.specs.Files.{IsParsed}
use Rattle.ae_syntax.specs.declared.decls.File.{File}

-- a goal without quantifier and without inequality
abbrev pub IsSimpleGoal : Item → Type 0
IsSimpleGoal (Axiom name vars body) = ⊥
IsSimpleGoal (Goal name vars body) = is_simple body ≡ true

-- a goal that is closed and well sorted
abbrev pub IsClosedGoal : Signature → Item → Type 0
IsClosedGoal sig (Axiom name vars body) = ⊥
IsClosedGoal sig (Goal name vars body) = formula_ok sig body ≡ true

-- The demo's text of n goals has tokens, a tree and a problem. Each item of the problem is a simple goal, and where the problem is lawful, as ae_lawful_problems
-- says of each problem of a text, it is closed and well sorted.
pub record HasProblem (n : ℕ) : Type 0 where
  pub tokens : List Token
  pub tokenized : IsTokenized (demo_text n) tokens
  pub file : File
  pub parsed : IsParsed tokens file
  pub problem : Problem
  pub typed : IsTyped (demo_text n) file problem
  pub simple : AllByRecursion IsSimpleGoal problem.items
  pub closed : IsLawfulProblem problem → AllByRecursion (IsClosedGoal problem.signature) problem.items
