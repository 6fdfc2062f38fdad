-- What is printed for a text passes the check: behind the text, with a line of exactly `%%` between, it is an output for the text's problem of which nothing is
-- refused.
use Rattle.std.specs.Prelude.{◌≡◌, ℕ, List, [], ◌∷◌, ◌++◌, Option, codes}
use Rattle.ae_core.specs.declared.problems.Problem.{Problem}
use Rattle.ae_io.specs.Moves.{Written, Gets}
use Rattle.ae_parts.specs.declared.parts.Part.{Part}
use Rattle.ae_printed.specs.ReadBack.{IsPassed}
use Rattle.ae_separator.specs.Separators.{HasNoSeparator}
use Rattle.ae_verdicts.specs.Verdicts.{verdict_line}
use Rattle.ae_verdicts.specs.declared.lines.Verdict.{Verdict}
use Rattle.ae_whole_lines.specs.WholeLines.{IsInLines}
use Rattle.ae_driver.specs.declared.goals.GoalPlace.{GoalPlace}
use Rattle.ae_driver.specs.Checking.{IsChecked, IsInput, goals_of}
use Rattle.ae_driver.specs.Output.{IsRead}

-- a line for each of these goals, in order: `accepted` or `number` where its part is a proof, else `unchecked`
abbrev pub ArePassed : List GoalPlace → List Part → List ℕ → Type 0
ArePassed [] [] bytes = bytes ≡ []
ArePassed [] (q ∷ qs) bytes = ⊥
ArePassed (g ∷ gs) [] bytes = ⊥
ArePassed (g ∷ gs) (q ∷ qs) bytes = (v : Verdict) × (rest : List ℕ) × (bytes ≡ verdict_line g.name v ++ rest) × IsPassed q v × ArePassed gs qs rest

-- an input that is checked, and whatever its check writes is such lines
pub record IsPassedInput (input : List ℕ) : Type 0 where
  pub problem : Problem
  pub parts : List Part
  pub is_input : IsInput input problem parts
  pub passed : (bytes : List ℕ) → IsChecked input bytes → ArePassed (goals_of problem) parts bytes

-- these bytes behind the text, as whole lines, and a line of exactly `%%`, where no line of the text is one
abbrev pub PassFor : List ℕ → List ℕ → Type 0
PassFor text bytes = HasNoSeparator text → (lines : List ℕ) → IsInLines text lines → IsPassedInput (lines ++ (codes "%%\n" ++ bytes))

-- done: what the sink got, behind what it held, passes for the text
pub record IsDoneAndPasses (left : Option (List ℕ)) (old new : Written) : Type 0 where
  pub text : List ℕ
  pub read : IsRead left text
  pub bytes : List ℕ
  pub passes : PassFor text bytes
  pub written : Gets old new bytes
