-- The laws that the clauses of laws.rt name.
use Rattle.std.specs.Prelude.{List, ℕ, ◌≡◌}
use Rattle.ae_codes.specs.Codes.{Exact, exact}
use Rattle.ae_core.specs.declared.problems.AcSymbol.{AcSymbol}
use Rattle.ae_core.specs.declared.problems.Signature.{Signature}
use Rattle.ae_journal.specs.declared.lines.Story.{Story}
use Rattle.ae_journal.specs.declared.systems.Saturated.{Saturated}
use Rattle.ae_stategrammar.proofs.MultisetLaws.{sides_fit, sides_rise}
use Rattle.ae_stategrammar.proofs.StateFits.{state_fits}
use Rattle.ae_stategrammar.specs.Fitting.{Rises}
use Rattle.ae_stategrammar.specs.Journals.{story, story_spelled}
use Rattle.ae_stategrammar.specs.Sides.{SidesOf, sides, sides_spelled, symbol}
use Rattle.ae_stategrammar.specs.States.{StateStands, state, state_spelled}
use Rattle.ae_stategrammar.specs.StateTexts.{sides_text, state_text, story_text, number_text}
use Rattle.ae_stategrammar.specs.Widths.{NumberText, number_code, number_spelled}

pub sides_exact : (sig : Signature) → Exact (sides sig)
sides_exact sig = exact (sides sig)

pub sides_written : (sig : Signature) (v : SidesOf sig) → (sides sig).Fits v → (sides sig).text v ≡ sides_text sig v.0 v.1.0 v.1.1
sides_written sig v f = sides_spelled sig v f

pub states_exact : (sig : Signature) → Exact (state sig)
states_exact sig = exact (state sig)

pub states_written : (sig : Signature) (s : Saturated) → (state sig).Fits s → (state sig).text s ≡ state_text sig s
states_written sig s f = state_spelled sig s f

pub stories_exact : (sig : Signature) → Exact (story sig)
stories_exact sig = exact (story sig)

pub stories_written : (sig : Signature) (s : Story) → (story sig).Fits s → (story sig).text s ≡ story_text sig s
stories_written sig s f = story_spelled sig s f

pub numbers_exact : (sig : Signature) → Exact (number_code sig)
numbers_exact sig = exact (number_code sig)

pub numbers_written : (sig : Signature) (v : NumberText sig) → (number_code sig).Fits v → (number_code sig).text v ≡ number_text sig v.0 v.1
numbers_written sig v f = number_spelled sig v f

pub rising_fit : (sig : Signature) (s : AcSymbol) (left right : List ℕ) → (symbol sig).Fits s → Rises 0 left → Rises 0 right → (sides sig).Fits (s, (left, right))
rising_fit sig s left right f l r = sides_fit sig s left right f l r

pub others_do_not : (sig : Signature) (v : SidesOf sig) → (sides sig).Fits v → Rises 0 v.1.0 × Rises 0 v.1.1
others_do_not sig v f = let r = sides_rise sig v f in (r.1, r.2)

pub states_fit : (sig : Signature) (s : Saturated) → StateStands sig s → (state sig).Fits s
states_fit sig s h = state_fits sig s h
