-- How each function below `run` ends.
use Rattle.std.specs.Prelude.{◌≡◌, ◌⊎◌, ℕ, zero, suc, ◌≤◌, List, [], ◌++◌, length, slice_get, take, Some, IfSome}
use Rattle.std.specs.List.{AllByRecursion}
use Rattle.ae_cli.specs.Program.{States}
use Rattle.ae_cli.specs.Words.{Text}
use Rattle.ae_cli.specs.declared.options.Mode.TheVariants.{Prove, Demo}
use Rattle.ae_core.specs.declared.formulas.Formula.{Formula}
use Rattle.ae_core.specs.declared.problems.Item.TheVariants.{Axiom}
use Rattle.ae_core.specs.declared.problems.Problem.{Problem}
use Rattle.ae_elab.specs.Names.{IsName, names_in_file}
use Rattle.ae_fault_lines.specs.Lines.{fault_place}
use Rattle.ae_goal_parts.specs.Parts.{IsPart, IsReadable}
use Rattle.ae_io.specs.Moves.{Written, Gets, GetsPrefix}
use Rattle.ae_parts.specs.declared.parts.Part.{Part}
use Rattle.ae_printed.specs.ReadBack.{IsReadBack, proof_in}
use Rattle.ae_report.specs.Lines.{refused_at}
use Rattle.ae_search_options.specs.declared.limits.Limits.{Limits}
use Rattle.ae_verdicts.specs.Verdicts.{IsVerdict, verdict_line}
use Rattle.ae_verdicts.specs.declared.lines.Verdict.{Verdict}
use Rattle.ae_driver.specs.declared.goals.GoalPlace.{GoalPlace}
use Rattle.ae_driver.specs.declared.program.Task.{Task}
use Rattle.ae_driver.specs.declared.program.Task.TheVariants as task
use Rattle.ae_driver.specs.declared.program.Status.{Status}
use Rattle.ae_driver.specs.declared.program.Status.TheVariants as status
use Rattle.ae_driver.specs.declared.reasons.Reason.{Reason}
use Rattle.ae_driver.specs.declared.reasons.Reason.TheVariants.{Plain, Untyped}
use Rattle.ae_driver.specs.declared.texts.NotRead.{NotRead}
use Rattle.ae_driver.specs.declared.texts.NotRead.TheVariants as not_read
use Rattle.ae_driver.specs.Checking.{AreVerdicts, IsChecked, IsCheckingBegun, IsRefusedInput}
use Rattle.ae_driver.specs.Output.{AreParts, IsLegalOutput, IsBegun}
use Rattle.ae_driver.specs.Passing.{PassFor}
use Rattle.ae_driver.specs.Problems.{HasNoProblem, IsReasonLine}
use Rattle.ae_driver.specs.Words.{AskToCheck, AskForNothing}

-- what words ask for
abbrev pub IsAsked : List Text → Task → Type 0
IsAsked words (task.Proofs o) = States words o × (o.mode ≡ Prove)
IsAsked words task.Check = AskToCheck words
IsAsked words (task.Demo n o) = States words o × (o.mode ≡ Demo n)
IsAsked words task.Nothing = AskForNothing words

-- the places that the line of a reason tells, and the names that it shows, stand in the text
abbrev pub PlacesStand : List ℕ → Reason → Type 0
PlacesStand text (Plain why) = IfSome (refused_at why) (λ at. at ≤ length text)
PlacesStand text (Untyped file e) = AllByRecursion (IsName text) (names_in_file file) × IfSome (fault_place e) (λ at. at ≤ length text)

-- how the item at a place is answered
abbrev pub PartEnds : Problem → Limits → ℕ → Written → Written → Status → Type 0
PartEnds p limits k old new status.Done = (part : List ℕ) × IsPart p k limits part × IsReadable p k part × Gets old new part
PartEnds p limits k old new status.WriteFault = (part : List ℕ) × IsPart p k limits part × GetsPrefix old new part
PartEnds p limits k old new status.Memory = Unit {0}
PartEnds p limits k old new _ = ⊥

-- nothing for an axiom, and for a goal a part that is read back
abbrev pub IsPrinted : Problem → ℕ → List ℕ → Type 0
IsPrinted p k part = ((name : List ℕ) × (vars : ℕ) × (body : Formula) × (slice_get p.items k ≡ Some (Axiom name vars body)) × (part ≡ [])) ⊎ IsReadBack p k part

-- the bytes of the first items
abbrev pub ArePrinted : Problem → ℕ → List ℕ → Type 0
ArePrinted p zero bytes = bytes ≡ []
ArePrinted p (suc n) bytes = (front : List ℕ) × (part : List ℕ) × (bytes ≡ front ++ part) × ArePrinted p n front × IsPrinted p n part

-- the sink got the parts of so many items
pub record HasParts (p : Problem) (limits : Limits) (count : ℕ) (old new : Written) : Type 0 where
  pub bytes : List ℕ
  pub parts : AreParts p limits 0 count bytes
  pub printed : ArePrinted p count bytes
  pub written : Gets old new bytes

-- the sink got a front of the parts of so many items, and not all of it
pub record HasFront (p : Problem) (limits : Limits) (count : ℕ) (old new : Written) : Type 0 where
  pub bytes : List ℕ
  pub parts : AreParts p limits 0 count bytes
  pub written : GetsPrefix old new bytes

-- how the items of a problem are answered
abbrev pub GoalsEnd : Problem → Limits → Written → Written → Status → Type 0
GoalsEnd p limits old new status.Done = HasParts p limits (length p.items) old new
GoalsEnd p limits old new status.WriteFault = (k : ℕ) × (k ≤ length p.items) × HasFront p limits k old new
GoalsEnd p limits old new status.Memory = (k : ℕ) × (k ≤ length p.items) × HasParts p limits k old new
GoalsEnd p limits old new _ = ⊥

-- how a line of refusal is written
abbrev pub RefusalEnds : List ℕ → Reason → Written → Written → Status → Type 0
RefusalEnds text why old new status.Refused = (line : List ℕ) × IsReasonLine text why line × Gets old new line
RefusalEnds text why old new status.WriteFault = (line : List ℕ) × IsReasonLine text why line × GetsPrefix old new line
RefusalEnds text why old new status.Memory = Gets old new []
RefusalEnds text why old new _ = ⊥

-- what is written of a text that was read
abbrev pub IsOfText : Limits → List ℕ → List ℕ → Type 0
IsOfText limits text bytes = IsBegun limits text bytes ⊎ ((why : Reason) × HasNoProblem text why × IsReasonLine text why bytes)

-- how a text that was read is answered
abbrev pub TextEnds : Limits → List ℕ → Written → Written → Status → Type 0
TextEnds limits text old new status.Done = (bytes : List ℕ) × IsLegalOutput limits text bytes × PassFor text bytes × Gets old new bytes
TextEnds limits text old new status.Refused = (why : Reason) × HasNoProblem text why × RefusalEnds text why old new status.Refused
TextEnds limits text old new status.WriteFault = (bytes : List ℕ) × IsOfText limits text bytes × GetsPrefix old new bytes
TextEnds limits text old new status.Memory = (bytes : List ℕ) × ((bytes ≡ []) ⊎ IsBegun limits text bytes) × Gets old new bytes
TextEnds limits text old new _ = ⊥

-- ---- reading a problem
-- why none is read
abbrev pub IsNotRead : List ℕ → NotRead → Type 0
IsNotRead text (not_read.Refused why) = HasNoProblem text why × PlacesStand text why
IsNotRead text not_read.Memory = Unit {0}

-- ---- checking
-- the verdict on one part
pub record IsVerdictLine (p : Problem) (goal : GoalPlace) (part : Part) (line : List ℕ) : Type 0 where
  pub verdict : Verdict
  pub is_verdict : IsVerdict p goal.place (proof_in part) verdict
  pub is_line : line ≡ verdict_line goal.name verdict

-- how the line of one goal is written
abbrev pub LineEnds : Problem → GoalPlace → Part → Written → Written → Status → Type 0
LineEnds p goal part old new status.Done = (line : List ℕ) × IsVerdictLine p goal part line × Gets old new line
LineEnds p goal part old new status.WriteFault = (line : List ℕ) × IsVerdictLine p goal part line × GetsPrefix old new line
LineEnds p goal part old new status.Memory = Unit {0}
LineEnds p goal part old new _ = ⊥

-- the sink got the lines of so many goals
pub record HasLines (p : Problem) (goals : List GoalPlace) (parts : List Part) (count : ℕ) (old new : Written) : Type 0 where
  pub bytes : List ℕ
  pub lines : AreVerdicts p (take count goals) (take count parts) bytes
  pub written : Gets old new bytes

-- the sink got a front of the lines of so many goals, and not all of it
pub record HasLinesFront (p : Problem) (goals : List GoalPlace) (parts : List Part) (count : ℕ) (old new : Written) : Type 0 where
  pub bytes : List ℕ
  pub lines : AreVerdicts p (take count goals) (take count parts) bytes
  pub written : GetsPrefix old new bytes

-- how the lines of all goals are written
abbrev pub LinesEnd : Problem → List GoalPlace → List Part → Written → Written → Status → Type 0
LinesEnd p goals parts old new status.Done = HasLines p goals parts (length goals) old new
LinesEnd p goals parts old new status.WriteFault = (k : ℕ) × (k ≤ length goals) × HasLinesFront p goals parts k old new
LinesEnd p goals parts old new status.Memory = (k : ℕ) × (k ≤ length goals) × HasLines p goals parts k old new
LinesEnd p goals parts old new _ = ⊥

-- what is written of an input that was read
abbrev pub IsOfInput : List ℕ → List ℕ → Type 0
IsOfInput input bytes = IsCheckingBegun input bytes ⊎ ((why : Reason) × IsRefusedInput input why × IsReasonLine input why bytes)

-- how an input that was read is answered
abbrev pub InputEnds : List ℕ → Written → Written → Status → Type 0
InputEnds input old new status.Done = (bytes : List ℕ) × IsChecked input bytes × Gets old new bytes
InputEnds input old new status.Refused = (why : Reason) × IsRefusedInput input why × RefusalEnds input why old new status.Refused
InputEnds input old new status.WriteFault = (bytes : List ℕ) × IsOfInput input bytes × GetsPrefix old new bytes
InputEnds input old new status.Memory = (bytes : List ℕ) × ((bytes ≡ []) ⊎ IsCheckingBegun input bytes) × Gets old new bytes
InputEnds input old new _ = ⊥
