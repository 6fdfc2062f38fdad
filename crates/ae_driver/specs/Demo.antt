-- The demo: the program answers goals of its own, checks each proof that it prints, and ends by a line that counts. What is written, and why it is right.
use Rattle.std.specs.Prelude.{◌≡◌, ◌⊎◌, ℕ, Bool, true, false, List, [], ◌∷◌, ◌++◌, length, Ok, codes, decimal}
use Rattle.std.specs.List.{filter}
use Rattle.ae_core.specs.declared.problems.Problem.{Problem}
use Rattle.ae_gen.specs.Demo.{demo_text}
use Rattle.ae_io.specs.Moves.{Written, Gets, GetsPrefix}
use Rattle.ae_parts.specs.declared.parts.Part.{Part}
use Rattle.ae_parts.specs.declared.parts.Part.TheVariants as part
use Rattle.ae_printed.specs.ReadBack.{proof_in}
use Rattle.ae_search_options.specs.declared.limits.Limits.{Limits}
use Rattle.ae_verdicts.specs.Verdicts.{IsVerdict}
use Rattle.ae_verdicts.specs.declared.lines.Verdict.{Verdict}
use Rattle.ae_verdicts.specs.declared.lines.Verdict.TheVariants as verdict
use Rattle.ae_driver.specs.declared.demo.Counts.{Counts}
use Rattle.ae_driver.specs.declared.goals.GoalPlace.{GoalPlace}
use Rattle.ae_driver.specs.Checking.{ReadsParts, goals_of}
use Rattle.ae_driver.specs.Output.{IsBegun, IsLegalOutput}

-- ---- what is counted
abbrev pub how_many : {A : Type 0} → (A → Bool) → List A → ℕ
how_many test xs = length (filter test xs)

abbrev pub is_valid : Part → Bool
is_valid (part.Valid t) = true
is_valid _ = false

abbrev pub is_unknown : Part → Bool
is_unknown (part.Unknown s) = true
is_unknown _ = false

abbrev pub is_steps : Part → Bool
is_steps (part.Steps n s) = true
is_steps _ = false

abbrev pub is_number : Part → Bool
is_number (part.Number s w) = true
is_number _ = false

abbrev pub is_accepted : Verdict → Bool
is_accepted verdict.Accepted = true
is_accepted _ = false

-- how many of the parts are of each of the four kinds, and how many of the verdicts on them are `accepted`
abbrev pub counts_of : List Part → List Verdict → Counts
counts_of parts verdicts = record {
  valid = how_many is_valid parts;
  unknown = how_many is_unknown parts;
  steps = how_many is_steps parts;
  number = how_many is_number parts;
  checked = how_many is_accepted verdicts;
}

-- the verdict on each of these parts, as a proof of the goal that stands at the same place of its list
abbrev pub AreJudged : Problem → List GoalPlace → List Part → List Verdict → Type 0
AreJudged p [] [] vs = vs ≡ []
AreJudged p [] (q ∷ qs) vs = ⊥
AreJudged p (g ∷ gs) [] vs = ⊥
AreJudged p (g ∷ gs) (q ∷ qs) vs = (v : Verdict) × (rest : List Verdict) × (vs ≡ v ∷ rest) × IsVerdict p g.place (proof_in q) v × AreJudged p gs qs rest

-- ---- what is written
-- the last line
unfoldable pub counts_line : ℕ → Counts → List ℕ
counts_line n c =
    codes "demo " ++ decimal n
    ++ codes " valid " ++ decimal c.valid
    ++ codes " unknown " ++ decimal c.unknown
    ++ codes " steps " ++ decimal c.steps
    ++ codes " number " ++ decimal c.number
    ++ codes " checked " ++ decimal c.checked
    ++ codes "\n"

-- A legal output for the demo's text of n goals, and then the line that counts its parts and their verdicts. The parts are what this output is read as, one for
-- each goal.
pub record IsLegalDemo (limits : Limits) (n : ℕ) (bytes : List ℕ) : Type 0 where
  pub output : List ℕ
  pub answers : IsLegalOutput limits (demo_text n) output
  pub parts : List Part
  pub read : ReadsParts answers.problem output (Ok parts)
  pub verdicts : List Verdict
  pub judged : AreJudged answers.problem (goals_of answers.problem) parts verdicts
  pub is : bytes ≡ output ++ counts_line n (counts_of parts verdicts)

-- ---- what a run of the demo has written when it ends
-- done: each goal is answered, and the last line is written, behind what the sink held
pub record IsDoneDemo (limits : Limits) (n : ℕ) (old new : Written) : Type 0 where
  pub bytes : List ℕ
  pub legal : IsLegalDemo limits n bytes
  pub written : Gets old new bytes

-- no memory: the sink got nothing, or the parts of the first goals
pub record IsOutOfMemoryDemo (limits : Limits) (n : ℕ) (old new : Written) : Type 0 where
  pub bytes : List ℕ
  pub begun : (bytes ≡ []) ⊎ IsBegun limits (demo_text n) bytes
  pub written : Gets old new bytes

-- what a run of the demo may be writing
pub data MayWriteDemo (limits : Limits) (n : ℕ) (bytes : List ℕ) : Type 0 where
  writes_demo_parts : IsBegun limits (demo_text n) bytes → MayWriteDemo limits n bytes
  writes_demo : IsLegalDemo limits n bytes → MayWriteDemo limits n bytes

-- a write failed: the sink got a part from the front of what was being written, and not all of it
pub record IsCutOffDemo (limits : Limits) (n : ℕ) (old new : Written) : Type 0 where
  pub bytes : List ℕ
  pub may : MayWriteDemo limits n bytes
  pub written : GetsPrefix old new bytes
