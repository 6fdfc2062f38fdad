-- The answer to an input that is to be checked: a problem, a line of exactly `%%`, and an output for the problem. What is written, and why it is right.
use Rattle.std.specs.Prelude.{◌≡◌, ◌≢◌, ◌⊎◌, ◌+◌, ◌≤◌, ℕ, suc, List, [], ◌∷◌, ◌++◌, length, map, take, Option, Some, Result, Ok, Err}
use Rattle.ae_choices.specs.Whole.{ReadsWhole}
use Rattle.ae_core.specs.declared.problems.Item.{Item}
use Rattle.ae_core.specs.declared.problems.Item.TheVariants.{Axiom, Goal}
use Rattle.ae_core.specs.declared.problems.Problem.{Problem}
use Rattle.ae_io.specs.Moves.{Written, Gets, GetsPrefix}
use Rattle.ae_parts.specs.Codes.{parts_code}
use Rattle.ae_parts.specs.declared.parts.Part.{Part}
use Rattle.ae_printed.specs.ReadBack.{proof_in}
use Rattle.ae_readers.specs.declared.fault.Fault.{Fault}
use Rattle.ae_readers.specs.declared.fault.Fault.TheVariants as fault
use Rattle.ae_report.specs.Lines.{IsRefusalLine}
use Rattle.ae_report.specs.declared.refusal.Refusal.TheVariants as refusal
use Rattle.ae_separator.specs.Separators.{HasNoSeparator, IsParted}
use Rattle.ae_verdicts.specs.Verdicts.{IsVerdict, verdict_line}
use Rattle.ae_verdicts.specs.declared.lines.Verdict.{Verdict}
use Rattle.ae_driver.specs.declared.goals.GoalPlace.{GoalPlace}
use Rattle.ae_driver.specs.declared.program.TheConstants.{INPUT_LIMIT}
use Rattle.ae_driver.specs.declared.reasons.Reason.{Reason}
use Rattle.ae_driver.specs.declared.reasons.Reason.TheVariants.{Plain}
use Rattle.ae_driver.specs.Output.{IsRead, IsTooLong}
use Rattle.ae_driver.specs.Problems.{HasNoProblem, IsProblemOf, IsReasonLine}

-- ---- what is read
-- the goals among items from place k on, in order, each with its name and its place among the items of the problem; axioms have no part in an output
abbrev pub goals_from : ℕ → List Item → List GoalPlace
goals_from k [] = []
goals_from k (Axiom n v f ∷ is) = goals_from (suc k) is
goals_from k (Goal n v f ∷ is) = record { place = k; name = n } ∷ goals_from (suc k) is

abbrev pub goals_of : Problem → List GoalPlace
goals_of p = goals_from 0 p.items

abbrev pub names_of : List GoalPlace → List (List ℕ)
names_of goals = map (λ (g : GoalPlace). g.name) goals

-- the bytes are a part for each goal of the problem, in order
abbrev pub ReadsParts : Problem → List ℕ → Result (List Part) Fault → Type 0
ReadsParts p text result = ReadsWhole (parts_code p.signature (names_of (goals_of p))) text result

-- a text with its problem, whatever the problem holds, and behind the separator a part for each of its goals, in order
pub record IsInput (input : List ℕ) (p : Problem) (parts : List Part) : Type 0 where
  pub before : List ℕ
  pub after : List ℕ
  pub parted : IsParted input before after
  pub states : IsProblemOf before p
  pub read : ReadsParts p after (Ok parts)

-- the fault, by its place in an input in which the text begins at place n
abbrev pub moved : ℕ → Fault → Fault
moved n (fault.At place) = fault.At (n + place)
moved n (fault.WideNumber place) = fault.WideNumber (n + place)
moved n fault.Memory = fault.Memory

-- why an input is refused, in this order: there is no separator; what stands before it has no problem; what stands behind it are no parts of the goals. Places
-- are those of the whole input
pub data IsRefusedInput (input : List ℕ) : Reason → Type 0 where
  no_separator : HasNoSeparator input → IsRefusedInput input (Plain refusal.NoSeparator)
  by_problem : (before after : List ℕ) (why : Reason) → IsParted input before after → HasNoProblem before why → IsRefusedInput input why
  by_parts : (before front after : List ℕ) (p : Problem) (f : Fault) → IsParted input before after → IsProblemOf before p → input ≡ front ++ after
      → ReadsParts p after (Err f) → f ≢ fault.Memory → ((parts : List Part) → ¬ (ReadsParts p after (Ok parts)))
      → IsRefusedInput input (Plain (refusal.Proof (moved (length front) f)))

-- ---- what is written
-- a line for each of these goals, in order: the verdict on its part, as a proof of that very goal
abbrev pub AreVerdicts : Problem → List GoalPlace → List Part → List ℕ → Type 0
AreVerdicts p [] [] bytes = bytes ≡ []
AreVerdicts p [] (q ∷ qs) bytes = ⊥
AreVerdicts p (g ∷ gs) [] bytes = ⊥
AreVerdicts p (g ∷ gs) (q ∷ qs) bytes =
    (v : Verdict) × (rest : List ℕ) × (bytes ≡ verdict_line g.name v ++ rest) × IsVerdict p g.place (proof_in q) v × AreVerdicts p gs qs rest

-- the verdicts on all parts of an input
pub record IsChecked (input bytes : List ℕ) : Type 0 where
  pub problem : Problem
  pub parts : List Part
  pub is_input : IsInput input problem parts
  pub lines : AreVerdicts problem (goals_of problem) parts bytes

-- those on the parts of the first goals, of all of them or of fewer
pub record IsCheckingBegun (input bytes : List ℕ) : Type 0 where
  pub problem : Problem
  pub parts : List Part
  pub is_input : IsInput input problem parts
  pub count : ℕ
  pub at_most : count ≤ length (goals_of problem)
  pub lines : AreVerdicts problem (take count (goals_of problem)) (take count parts) bytes

-- ---- what a run that checks has written when it ends
-- done: each goal has its line, behind what the sink held
pub record IsDoneChecking (left : Option (List ℕ)) (old new : Written) : Type 0 where
  pub input : List ℕ
  pub read : IsRead left input
  pub bytes : List ℕ
  pub checked : IsChecked input bytes
  pub written : Gets old new bytes

-- the input is refused: the sink got the line that says why, and where
pub record IsRefusedChecking (left : Option (List ℕ)) (old new : Written) : Type 0 where
  pub input : List ℕ
  pub read : IsRead left input
  pub why : Reason
  pub refused : IsRefusedInput input why
  pub line : List ℕ
  pub is_line : IsReasonLine input why line
  pub written : Gets old new line

-- no memory: the sink got nothing, or the lines of the first goals
pub record IsOutOfMemoryChecking (left : Option (List ℕ)) (old new : Written) : Type 0 where
  pub bytes : List ℕ
  pub begun : (bytes ≡ []) ⊎ ((input : List ℕ) × IsRead left input × IsCheckingBegun input bytes)
  pub written : Gets old new bytes

-- what a run that checks may be writing
pub data MayWriteChecking (left : Option (List ℕ)) (bytes : List ℕ) : Type 0 where
  writes_verdicts : (input : List ℕ) → IsRead left input → IsCheckingBegun input bytes → MayWriteChecking left bytes
  writes_input_refusal : (input : List ℕ) (why : Reason) → IsRead left input → IsRefusedInput input why → IsReasonLine input why bytes → MayWriteChecking left bytes
  writes_input_too_long : IsTooLong left → IsRefusalLine [] refusal.TooLong bytes → MayWriteChecking left bytes

-- a write failed: the sink got a part from the front of what was being written, and not all of it
pub record IsCutOffChecking (left : Option (List ℕ)) (old new : Written) : Type 0 where
  pub bytes : List ℕ
  pub may : MayWriteChecking left bytes
  pub written : GetsPrefix old new bytes

-- the source tells an input within the limit on bytes, with its problem and its parts
pub record IsOfferedChecking (left : Option (List ℕ)) : Type 0 where
  pub input : List ℕ
  pub told : left ≡ Some input
  pub within : length input ≤ INPUT_LIMIT
  pub problem : Problem
  pub parts : List Part
  pub is_input : IsInput input problem parts
