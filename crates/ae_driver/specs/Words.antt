-- What the words of the command line ask for.
use Rattle.std.specs.Prelude.{◌≡◌, ℕ, List}
use Rattle.ae_cli.specs.Program.{States}
use Rattle.ae_cli.specs.Words.{Text}
use Rattle.ae_cli.specs.declared.options.Mode.{Mode}
use Rattle.ae_cli.specs.declared.options.Mode.TheVariants.{Prove, Check, Demo}
use Rattle.ae_cli.specs.declared.options.Options.{Options}

-- the words state options with this mode
pub record Ask (mode : Mode) (words : List Text) : Type 0 where
  pub options : Options
  pub stated : States words options
  pub is : options.mode ≡ mode

-- the goals of a text are to be answered
abbrev pub AskToProve : List Text → Type 0
AskToProve = Ask Prove

-- an output for a problem is to be checked
abbrev pub AskToCheck : List Text → Type 0
AskToCheck = Ask Check

-- so many goals of the program's own are to be answered
abbrev pub AskForDemo : ℕ → List Text → Type 0
AskForDemo n = Ask (Demo n)

-- they state no options: they are wrong
abbrev pub AskForNothing : List Text → Type 0
AskForNothing words = (options : Options) → ¬ (States words options)
