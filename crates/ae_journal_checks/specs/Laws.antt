-- The laws, as statements.
use Rattle.std.specs.Prelude.{ℕ, pos, ◌<◌, ◌≤◌, Bool, List, [], ◌∷◌, ◌++◌, ◌≡◌, ◌≢◌}
use Rattle.ae_math.specs.Fractions.{zero_ℚ}
use Rattle.ae_num.specs.declared.forms.Lin.{Lin}
use Rattle.ae_num.specs.declared.forms.Value.{Value}
use Rattle.ae_journal.specs.Values.{Sum, Vals, number, leaf, fields, leaf_factor, meaning}
use Rattle.ae_journal.specs.Standing.{Setting}
use Rattle.ae_journal.specs.Rows.{MayCombine}
use Rattle.ae_journal.specs.SolverLines.{MayOrientName}
use Rattle.ae_journal.specs.declared.lines.Line.{Line}
use Rattle.ae_journal.specs.declared.lines.Line.TheVariants as line
use Rattle.ae_core.specs.declared.problems.Problem.{Problem}
use Rattle.ae_core.specs.declared.formulas.Formula.{Formula}
use Rattle.ae_journal.specs.Journals.{counted_in}
use Rattle.ae_journal.specs.Answers.{IsAnswer}
use Rattle.ae_journal.specs.declared.answers.NumStep.TheVariants as step
use Rattle.ae_journal.specs.declared.answers.WideAt.{WideAt}
use Rattle.ae_journal.specs.declared.answers.Answer.TheVariants.{Valid, Steps, Number}
use Rattle.ae_journal.specs.declared.lines.Story.{Story}
use Rattle.ae_journal.specs.Legal.{IsLegalLine, AreLegal, IsLegalJournal, setting}
use Rattle.ae_journal_checks.specs.Examples.{problem, names, story, longer_story, choice_problem, choice_story, true_problem, true_story, back_problem, back_story}
use Rattle.ae_journal_checks.specs.EveryKind as kinds
use Rattle.ae_journal_checks.specs.Examples.{instance_problem, instance_story, instance_line, rule_line, falling_line, repeated_story, sum_problem, empty_story, sum_of, greatest}

-- the journal is legal for each bound, with exactly one counted line
abbrev pub OneRuleIsLegal : Type 0
OneRuleIsLegal = (bound : ℕ) → IsLegalJournal problem 0 bound story × (counted_in story.lines ≡ 1)

-- with its line repeated it is legal for no choice of fresh constants, and without it no line is counted
abbrev pub RepeatedRuleIsRefused : Type 0
RepeatedRuleIsRefused = (bound : ℕ) (fresh : Formula → ℕ) → ¬ AreLegal (setting problem 0 story fresh) bound [] (rule_line ∷ rule_line ∷ [])

abbrev pub NothingIsCounted : Type 0
NothingIsCounted = counted_in [] ≢ 1

-- a rule is refused whose multisets aren't written rising
abbrev pub FallingRuleIsRefused : Type 0
FallingRuleIsRefused = (bound : ℕ) (fresh : Formula → ℕ) → ¬ AreLegal (setting problem 0 story fresh) bound [] (falling_line ∷ [])

-- the longer journal is legal: two rules, their pair and a name with a new value, four counted lines
abbrev pub FourLinesAreLegal : Type 0
FourLinesAreLegal = (bound : ℕ) → IsLegalJournal problem 0 bound longer_story × (counted_in longer_story.lines ≡ 4)

-- a journal of one decision is legal
abbrev pub OneDecisionIsLegal : Type 0
OneDecisionIsLegal = (bound : ℕ) → IsLegalJournal choice_problem 0 bound choice_story × (counted_in choice_story.lines ≡ 1)

-- an instance may come where the bound on generations allows one, and not twice
abbrev pub OneInstanceMayCome : Type 0
OneInstanceMayCome = (bound : ℕ) (fresh : Formula → ℕ) → 0 < bound → IsLegalLine (setting instance_problem 0 instance_story fresh) bound [] instance_line

-- a journal of one learnt clause is legal
abbrev pub OneLearntClauseIsLegal : Type 0
OneLearntClauseIsLegal = (bound : ℕ) → IsLegalJournal true_problem 0 bound true_story × (counted_in true_story.lines ≡ 1)

-- a decision, an instance and going back behind the decision are legal lines
abbrev pub GoingBackIsLegal : Type 0
GoingBackIsLegal = (bound : ℕ) (fresh : Formula → ℕ) → 0 < bound → AreLegal (setting back_problem 0 back_story fresh) bound [] back_story.lines

-- the journal with a line of every kind is legal for each bound that allows an instance, and all its lines but `Drop` and `Back` are counted
abbrev pub EveryKindIsLegal : Type 0
EveryKindIsLegal = (bound : ℕ) → 0 < bound → IsLegalJournal kinds.problem 4 bound kinds.story × (counted_in kinds.story.lines ≡ 9)

-- ---- answers
-- a journal answers where it is legal and has as many counted lines as the limit says
abbrev pub StepsAnswer : Type 0
StepsAnswer = (bound : ℕ) → IsAnswer problem 0 1 bound (Steps story)

abbrev pub OtherLimitIsRefused : Type 0
OtherLimitIsRefused = (bound : ℕ) → ¬ IsAnswer problem 0 2 bound (Steps story)

abbrev pub RepetitionIsRefused : Type 0
RepetitionIsRefused = (bound : ℕ) → ¬ IsAnswer problem 0 2 bound (Steps repeated_story)

-- without its line the journal doesn't answer with the limit 1
abbrev pub OmissionIsRefused : Type 0
OmissionIsRefused = (bound : ℕ) → ¬ IsAnswer problem 0 1 bound (Steps (record { names = names; lines = [] }))

-- a sum of a named sum's operands that leaves the limits is an answer, and one that doesn't leave them is none, whatever the journal
abbrev pub WidthAnswers : Type 0
WidthAnswers = (bound : ℕ) → IsAnswer sum_problem 0 0 bound (Number empty_story (sum_of greatest))

abbrev pub NoWidthIsRefused : Type 0
NoWidthIsRefused = (p : Problem) (g limit bound : ℕ) (journal : Story) → ¬ IsAnswer p g limit bound (Number journal (sum_of (pos 1)))

-- without names no two rows can be combined, whatever forms are given
abbrev pub NamelessCombinationIsRefused : Type 0
NamelessCombinationIsRefused =
    (p : Problem) (g limit bound : ℕ) (lines : List Line) (w : WideAt) → w.step ≡ step.Combine
    → ¬ IsAnswer p g limit bound (Number (record { names = []; lines = lines }) w)

-- for the goal `true`, which states no form, and without lines no width is an answer, whatever forms are given
abbrev pub OwnFormsAreRefused : Type 0
OwnFormsAreRefused = (limit bound : ℕ) (w : WideAt) → ¬ IsAnswer true_problem 0 limit bound (Number empty_story w)

-- no list of lines without one is a derivation
abbrev pub EmptyProofIsRefused : Type 0
EmptyProofIsRefused = (p : Problem) (g limit bound : ℕ) → ¬ IsAnswer p g limit bound (Valid (record { lines = [] }))

-- ---- lines that their rules refuse, whatever the journal
-- a name doesn't get a leaf that isn't smaller
abbrev pub NoLargerLeaf : Type 0
NoLargerLeaf = (x : Setting) (js : List Line) (n m : ℕ) (v : Value) → meaning v ≡ leaf m → n ≤ m → ¬ MayOrientName x js n v

-- a name doesn't get a sum in which it stands
abbrev pub NoSumWithItself : Type 0
NoSumWithItself =
    (x : Setting) (js : List Line) (n : ℕ) (v : Value) (f : Sum) → meaning v ≡ number f → leaf_factor f.parts n ≢ zero_ℚ → ¬ MayOrientName x js n v

-- a name doesn't get a record's value: its fields are solved one by one
abbrev pub NoRecordIsSolved : Type 0
NoRecordIsSolved = (x : Setting) (js : List Line) (n : ℕ) (v : Value) (vs : Vals) → meaning v ≡ fields vs → ¬ MayOrientName x js n v

-- a combination isn't noted again after itself, strict or not
abbrev pub NoSecondCombination : Type 0
NoSecondCombination = (x : Setting) (js : List Line) (a b : Bool) (f : Lin) → ¬ MayCombine x (js ++ line.Combine a f ∷ []) b f
