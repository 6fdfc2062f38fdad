-- The answer to a text: what is written, and why it is right.
use Rattle.std.specs.Prelude.{◌≡◌, ◌⊎◌, ℕ, zero, suc, ◌<◌, ◌≤◌, List, [], ◌++◌, length, Option, Some, None, codes}
use Rattle.ae_core.specs.declared.problems.Problem.{Problem}
use Rattle.ae_goal_parts.specs.Parts.{IsPart}
use Rattle.ae_io.specs.Moves.{Written, Gets, GetsPrefix}
use Rattle.ae_report.specs.Lines.{IsRefusalLine}
use Rattle.ae_report.specs.declared.refusal.Refusal.TheVariants as refusal
use Rattle.ae_search_options.specs.declared.limits.Limits.{Limits}
use Rattle.ae_driver.specs.declared.program.TheConstants.{INPUT_LIMIT}
use Rattle.ae_driver.specs.declared.reasons.Reason.{Reason}
use Rattle.ae_driver.specs.Problems.{HasNoProblem, IsProblemOf, IsReasonLine}

-- one part for each of n items of a problem, from place k on, in order; an axiom's is empty
abbrev pub AreParts : Problem → Limits → ℕ → ℕ → List ℕ → Type 0
AreParts p limits k zero bytes = bytes ≡ []
AreParts p limits k (suc n) bytes = (part : List ℕ) × (rest : List ℕ) × (bytes ≡ part ++ rest) × IsPart p k limits part × AreParts p limits (suc k) n rest

-- a legal output for a text, with the limits of the search: one part for each goal of its problem, in order
pub record IsLegalOutput (limits : Limits) (text bytes : List ℕ) : Type 0 where
  pub problem : Problem
  pub states : IsProblemOf text problem
  pub parts : AreParts problem limits 0 (length problem.items) bytes

-- the parts of the first goals of a text, of all of them or of fewer
pub record IsBegun (limits : Limits) (text bytes : List ℕ) : Type 0 where
  pub problem : Problem
  pub states : IsProblemOf text problem
  pub count : ℕ
  pub at_most : count ≤ length problem.items
  pub parts : AreParts problem limits 0 count bytes

-- the source told this text, or told nothing
abbrev pub Tells : Option (List ℕ) → List ℕ → Type 0
Tells None text = Unit {0}
Tells (Some xs) text = xs ≡ text

-- the text that the source had left, within the limit on bytes
pub record IsRead (left : Option (List ℕ)) (text : List ℕ) : Type 0 where
  pub told : Tells left text
  pub within : length text ≤ INPUT_LIMIT

-- the source had more bytes left than the limit, as far as it tells
abbrev pub IsTooLong : Option (List ℕ) → Type 0
IsTooLong None = Unit {0}
IsTooLong (Some xs) = INPUT_LIMIT < length xs

-- ---- what a run has written when it ends
abbrev pub usage_line : List ℕ
usage_line = codes "usage: altac [--steps-bound N] [--gen-bound G] [--pick first|last|mixed] [--check | --demo N]\n"

-- done: the text is answered, and the sink got the answer behind what it held
pub record IsDone (limits : Limits) (left : Option (List ℕ)) (old new : Written) : Type 0 where
  pub text : List ℕ
  pub read : IsRead left text
  pub bytes : List ℕ
  pub answers : IsLegalOutput limits text bytes
  pub written : Gets old new bytes

-- a text without a problem is refused: the sink got the line that says why, and where
pub record IsRefusedText (left : Option (List ℕ)) (old new : Written) : Type 0 where
  pub text : List ℕ
  pub read : IsRead left text
  pub why : Reason
  pub refused : HasNoProblem text why
  pub line : List ℕ
  pub is_line : IsReasonLine text why line
  pub written : Gets old new line

-- refused by length: the source had more left than the limit, and the sink got that line
pub record IsRefusedByLength (left : Option (List ℕ)) (old new : Written) : Type 0 where
  pub too_long : IsTooLong left
  pub line : List ℕ
  pub is_line : IsRefusalLine [] refusal.TooLong line
  pub written : Gets old new line

-- no memory: the sink got nothing, or the parts of the first goals of the text
pub record IsOutOfMemory (limits : Limits) (left : Option (List ℕ)) (old new : Written) : Type 0 where
  pub bytes : List ℕ
  pub begun : (bytes ≡ []) ⊎ ((text : List ℕ) × IsRead left text × IsBegun limits text bytes)
  pub written : Gets old new bytes

-- what a run that proves may be writing
pub data MayWrite (limits : Limits) (left : Option (List ℕ)) (bytes : List ℕ) : Type 0 where
  writes_parts : (text : List ℕ) → IsRead left text → IsBegun limits text bytes → MayWrite limits left bytes
  writes_refusal : (text : List ℕ) (why : Reason) → IsRead left text → HasNoProblem text why → IsReasonLine text why bytes → MayWrite limits left bytes
  writes_too_long : IsTooLong left → IsRefusalLine [] refusal.TooLong bytes → MayWrite limits left bytes

-- a write failed: the sink got a part from the front of what was being written, and not all of it
pub record IsCutOff (limits : Limits) (left : Option (List ℕ)) (old new : Written) : Type 0 where
  pub bytes : List ℕ
  pub may : MayWrite limits left bytes
  pub written : GetsPrefix old new bytes

-- the source tells a text within the limit on bytes that has a problem
pub record IsOffered (left : Option (List ℕ)) : Type 0 where
  pub text : List ℕ
  pub told : left ≡ Some text
  pub within : length text ≤ INPUT_LIMIT
  pub problem : Problem
  pub states : IsProblemOf text problem
