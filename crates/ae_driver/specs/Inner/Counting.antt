-- How the functions of the demo end, and what they count.
use Rattle.std.specs.Prelude.{◌≡◌, ◌⊎◌, ℕ, zero, suc, ◌+◌, ◌≤◌, ◌<◌, List, [], ◌∷◌, ◌++◌, length, slice_get, Some}
use Rattle.ae_core.specs.declared.formulas.Formula.{Formula}
use Rattle.ae_core.specs.declared.problems.Item.TheVariants.{Axiom, Goal}
use Rattle.ae_core.specs.declared.problems.Problem.{Problem}
use Rattle.ae_core.specs.declared.problems.Signature.{Signature}
use Rattle.ae_goal_parts.specs.Parts.{IsPart}
use Rattle.ae_io.specs.Moves.{Written, Gets, GetsPrefix}
use Rattle.ae_parts.specs.Parts.{PartStands, part_text}
use Rattle.ae_parts.specs.declared.parts.Part.{Part}
use Rattle.ae_parts.specs.declared.parts.Part.TheVariants as part
use Rattle.ae_printed.specs.ReadBack.{proof_in}
use Rattle.ae_search_options.specs.declared.limits.Limits.{Limits}
use Rattle.ae_verdicts.specs.Verdicts.{IsVerdict}
use Rattle.ae_verdicts.specs.declared.lines.Verdict.{Verdict}
use Rattle.ae_verdicts.specs.declared.lines.Verdict.TheVariants as verdict
use Rattle.ae_driver.specs.declared.demo.Counts.{Counts}
use Rattle.ae_driver.specs.declared.program.Status.{Status}
use Rattle.ae_driver.specs.declared.program.Status.TheVariants as status
use Rattle.ae_driver.specs.Demo.{IsCutOffDemo, IsDoneDemo, IsOutOfMemoryDemo, counts_line}
use Rattle.ae_driver.specs.Output.{AreParts}
use Rattle.ae_driver.specs.Inner.Endings.{HasFront}

-- ---- counts
abbrev pub no_counts : Counts
no_counts = record { valid = 0; unknown = 0; steps = 0; number = 0; checked = 0 }

-- one part more
abbrev pub with_kind : Part → Counts → Counts
with_kind (part.Valid t) c = record c { valid = c.valid + 1 }
with_kind (part.Unknown s) c = record c { unknown = c.unknown + 1 }
with_kind (part.Steps n s) c = record c { steps = c.steps + 1 }
with_kind (part.Number s w) c = record c { number = c.number + 1 }

-- one verdict more
abbrev pub with_verdict : Verdict → Counts → Counts
with_verdict verdict.Accepted c = record c { checked = c.checked + 1 }
with_verdict verdict.RefusedAxioms c = c
with_verdict (verdict.Refused k) c = c
with_verdict verdict.Number c = c
with_verdict verdict.Unchecked c = c

-- each count may be raised by one
pub record HasRoom (c : Counts) : Type 0 where
  pub valid : c.valid < 18446744073709551615
  pub unknown : c.unknown < 18446744073709551615
  pub steps : c.steps < 18446744073709551615
  pub number : c.number < 18446744073709551615
  pub checked : c.checked < 18446744073709551615

-- ---- one item
-- the bytes are the text of a part of the goal of this name
pub record IsOnePart (sig : Signature) (name bytes : List ℕ) : Type 0 where
  pub part : Part
  pub stands : PartStands sig part
  pub written : bytes ≡ part_text sig name part

-- and that is the part
pub record AreOnePart (sig : Signature) (name bytes : List ℕ) (parts : List Part) : Type 0 where
  pub part : Part
  pub alone : parts ≡ part ∷ []
  pub stands : PartStands sig part
  pub written : bytes ≡ part_text sig name part

-- a part of the goal at place k, and the verdict on it, are counted
abbrev pub IsCountedPart : Problem → ℕ → Part → Counts → Counts → Type 0
IsCountedPart p k q before after = (v : Verdict) × IsVerdict p k (proof_in q) v × (after ≡ with_verdict v (with_kind q before))

-- the bytes are those of such a part
pub record IsCountedGoal (p : Problem) (k : ℕ) (bytes : List ℕ) (before after : Counts) : Type 0 where
  pub name : List ℕ
  pub vars : ℕ
  pub body : Formula
  pub is_goal : slice_get p.items k ≡ Some (Goal name vars body)
  pub part : Part
  pub stands : PartStands p.signature part
  pub written : bytes ≡ part_text p.signature name part
  pub counted : IsCountedPart p k part before after

-- for an axiom there are no bytes, and nothing is counted
pub record IsPassedOver (p : Problem) (k : ℕ) (bytes : List ℕ) (before after : Counts) : Type 0 where
  pub name : List ℕ
  pub vars : ℕ
  pub body : Formula
  pub is_axiom : slice_get p.items k ≡ Some (Axiom name vars body)
  pub written : bytes ≡ []
  pub same : after ≡ before

abbrev pub IsCountedIn : Problem → ℕ → List ℕ → Counts → Counts → Type 0
IsCountedIn p k bytes before after = IsPassedOver p k bytes before after ⊎ IsCountedGoal p k bytes before after

-- the bytes of the first items, and their counts
abbrev pub AreCounted : Problem → ℕ → List ℕ → Counts → Type 0
AreCounted p zero bytes c = (bytes ≡ []) × (c ≡ no_counts)
AreCounted p (suc n) bytes c = (front : List ℕ) × (part : List ℕ) × (before : Counts) × (bytes ≡ front ++ part) × AreCounted p n front before × IsCountedIn p n part before c

-- ---- how functions end
-- how the bytes for an item are counted and written
abbrev pub PutEnds : Problem → ℕ → List ℕ → Counts → Counts → Written → Written → Status → Type 0
PutEnds p k bytes before after old new status.Done = IsCountedIn p k bytes before after × Gets old new bytes
PutEnds p k bytes before after old new status.WriteFault = GetsPrefix old new bytes
PutEnds p k bytes before after old new status.Memory = Unit {0}
PutEnds p k bytes before after old new _ = ⊥

-- how the item at a place is answered
abbrev pub CountedEnds : Problem → Limits → ℕ → Counts → Counts → Written → Written → Status → Type 0
CountedEnds p limits k before after old new status.Done = (part : List ℕ) × IsPart p k limits part × IsCountedIn p k part before after × Gets old new part
CountedEnds p limits k before after old new status.WriteFault = (part : List ℕ) × IsPart p k limits part × GetsPrefix old new part
CountedEnds p limits k before after old new status.Memory = Unit {0}
CountedEnds p limits k before after old new _ = ⊥

-- the sink got the parts of so many items, and these are their counts
pub record HasCounted (p : Problem) (limits : Limits) (count : ℕ) (c : Counts) (old new : Written) : Type 0 where
  pub bytes : List ℕ
  pub parts : AreParts p limits 0 count bytes
  pub counted : AreCounted p count bytes c
  pub written : Gets old new bytes

-- how the items of a problem are answered
abbrev pub CountingEnds : Problem → Limits → Counts → Written → Written → Status → Type 0
CountingEnds p limits c old new status.Done = HasCounted p limits (length p.items) c old new
CountingEnds p limits c old new status.WriteFault = (k : ℕ) × (k ≤ length p.items) × HasFront p limits k old new
CountingEnds p limits c old new status.Memory = (k : ℕ) × (before : Counts) × (k ≤ length p.items) × HasCounted p limits k before old new
CountingEnds p limits c old new _ = ⊥

-- how the last line is written
abbrev pub LineEnds : ℕ → Counts → Written → Written → Status → Type 0
LineEnds n c old new status.Done = Gets old new (counts_line n c)
LineEnds n c old new status.WriteFault = GetsPrefix old new (counts_line n c)
LineEnds n c old new status.Memory = Unit {0}
LineEnds n c old new _ = ⊥

-- how the demo ends
abbrev pub DemoEnds : Limits → ℕ → Written → Written → Status → Type 0
DemoEnds limits n old new status.Done = IsDoneDemo limits n old new
DemoEnds limits n old new status.WriteFault = IsCutOffDemo limits n old new
DemoEnds limits n old new status.Memory = IsOutOfMemoryDemo limits n old new
DemoEnds limits n old new _ = ⊥
