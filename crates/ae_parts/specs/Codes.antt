-- The grammar of parts: the line of a goal with its answer, and what was found.
use Rattle.std.specs.Prelude.{ℕ, cond, IsTrue, List, [], ◌∷◌, ◌≡◌, codes}
use mathlib.Core.Path.{refl, sym, ap, subst}
use mathlib.Core.Logic.{inl, inr}
use native.Mathlib.Omega.{arith}
use Rattle.ae_codes.specs.Closers.{Close, by_line, close_end, closers, closes_one}
use Rattle.ae_codes.specs.Codes.{Code, both, mapped}
use Rattle.ae_codes.specs.Machines.{checked, machine}
use Rattle.ae_codes.specs.Names.{Listed}
use Rattle.ae_codes.specs.Numbers.{Closed, Numbers, from_to, number, number_machine}
use Rattle.ae_codes.specs.Rows.{alone, empty}
use Rattle.ae_codes.specs.Tables.{all_apart, tagged}
use Rattle.ae_core.specs.declared.problems.Signature.{Signature}
use Rattle.ae_journal.specs.declared.lines.Story.{Story}
use Rattle.ae_journal.specs.declared.systems.Saturated.{Saturated}
use Rattle.ae_parts.specs.declared.parts.Part.{Part}
use Rattle.ae_parts.specs.declared.parts.Part.TheVariants as part
use Rattle.ae_prooftext.specs.FormulaTexts.{same}
use Rattle.ae_prooftext.specs.Grammar.{proof_code}
use Rattle.ae_prooftext.specs.declared.proofs.ProofText.{ProofText}
use Rattle.ae_stategrammar.specs.Journals.{story}
use Rattle.ae_stategrammar.specs.States.{state}
use Rattle.ae_stategrammar.specs.Widths.{NumberText, number_code}

abbrev pub goal_word : List ℕ
goal_word = codes "goal "

-- behind the goal's name
abbrev pub valid_word : List ℕ
valid_word = codes " Valid\n"

abbrev pub unknown_word : List ℕ
unknown_word = codes " I don't know\n"

abbrev pub steps_word : List ℕ
steps_word = codes " Limit steps "

abbrev pub number_word : List ℕ
number_word = codes " Limit number\n"

abbrev pub other_words : List (List ℕ)
other_words = unknown_word ∷ steps_word ∷ number_word ∷ []

pub words_apart : IsTrue (all_apart (valid_word ∷ other_words))
words_apart = refl

abbrev pub part_word : Part → List ℕ
part_word (part.Valid p) = valid_word
part_word (part.Unknown s) = unknown_word
part_word (part.Steps n s) = steps_word
part_word (part.Number s w) = number_word

-- numbers of steps
abbrev pub limits : Close → Numbers
limits k = from_to 1 1000000 (closers k.one k.two) (omega arith) (omega arith) (omega arith) k.digits (close_end k)

abbrev pub Counted : Type 0
Counted = (n : Closed) × Story

module _ (sig : Signature) where
  abbrev pub counted : Code Counted
  counted = both (number (limits by_line)) (λ n. story sig)

  -- what was found, of a part of each kind; any of that kind for the other parts
  abbrev pub proof_in : Part → ProofText
  proof_in (part.Valid p) = p
  proof_in (part.Unknown s) = (proof_code sig).some.0
  proof_in (part.Steps n s) = (proof_code sig).some.0
  proof_in (part.Number s w) = (proof_code sig).some.0

  abbrev pub state_in : Part → Saturated
  state_in (part.Valid p) = (state sig).some.0
  state_in (part.Unknown s) = s
  state_in (part.Steps n s) = (state sig).some.0
  state_in (part.Number s w) = (state sig).some.0

  abbrev pub steps_in : Part → Counted
  steps_in (part.Valid p) = counted.some.0
  steps_in (part.Unknown s) = counted.some.0
  steps_in (part.Steps n s) = ((n, 10), s)
  steps_in (part.Number s w) = counted.some.0

  abbrev pub number_in : Part → NumberText sig
  number_in (part.Valid p) = (number_code sig).some.0
  number_in (part.Unknown s) = (number_code sig).some.0
  number_in (part.Steps n s) = (number_code sig).some.0
  number_in (part.Number s w) = (s, w)

  pub limit_closed : (v : Closed) → (number (limits by_line)).Fits v → v.1 ≡ 10
  unfolding number checked machine number_machine by_line
  limit_closed v f = closes_one 10 v.1 f.1

  pub counted_back : (v : Counted) → counted.Fits v → steps_in (part.Steps v.0.0 v.1) ≡ v
  unfolding both
  counted_back v f = let e = limit_closed v.0 f.0 in λ i. ((v.0.0, sym e i), v.1)

  abbrev pub valid_arm : Code Part
  valid_arm = mapped (λ p. part.Valid p) proof_in (proof_code sig) (λ p f. refl)

  abbrev pub unknown_arm : Code Part
  unknown_arm = mapped (λ s. part.Unknown s) state_in (state sig) (λ s f. refl)

  abbrev pub steps_arm : Code Part
  steps_arm = mapped (λ v. part.Steps v.0.0 v.1) steps_in counted counted_back

  abbrev pub number_arm : Code Part
  number_arm = mapped (λ v. part.Number v.0 v.1) number_in (number_code sig) (λ v f. refl)

  abbrev pub arms : List ℕ → Code Part
  arms w = cond (same w valid_word) valid_arm (cond (same w unknown_word) unknown_arm (cond (same w steps_word) steps_arm number_arm))

  abbrev ArmIs : List ℕ → Type 0
  ArmIs w = (p : Part) → (arms w).Fits p → part_word p ≡ w

  valid_law : (p : Part) → valid_arm.Fits p → part_word p ≡ valid_word
  unfolding mapped
  valid_law p f = sym (ap part_word f.1)

  unknown_law : (p : Part) → unknown_arm.Fits p → part_word p ≡ unknown_word
  unfolding mapped
  unknown_law p f = sym (ap part_word f.1)

  steps_law : (p : Part) → steps_arm.Fits p → part_word p ≡ steps_word
  unfolding mapped
  steps_law p f = sym (ap part_word f.1)

  number_law : (p : Part) → number_arm.Fits p → part_word p ≡ number_word
  unfolding mapped
  number_law p f = sym (ap part_word f.1)

  pub arm_law : (w : List ℕ) (p : Part) → Listed (valid_word ∷ other_words) w → (arms w).Fits p → part_word p ≡ w
  arm_law w p (inl e) f = subst ArmIs (sym e) valid_law p f
  arm_law w p (inr (inl e)) f = subst ArmIs (sym e) unknown_law p f
  arm_law w p (inr (inr (inl e))) f = subst ArmIs (sym e) steps_law p f
  arm_law w p (inr (inr (inr (inl e)))) f = subst ArmIs (sym e) number_law p f
  arm_law w p (inr (inr (inr (inr e)))) f = absurd e

  -- what stands behind the name
  unfoldable pub answer_code : Code Part
  answer_code = tagged valid_word other_words words_apart arms part_word arm_law

  abbrev pub raw_part : List ℕ → Code ((u : Unit {0}) × ((v : Unit {0}) × Part))
  raw_part name = both (alone {A = Unit {0}} tt goal_word) (λ u. both (alone {A = Unit {0}} tt name) (λ v. answer_code))

  -- the part of the goal of a name
  unfoldable pub part_code : List ℕ → Code Part
  part_code name = mapped (λ v. v.1.1) (λ p. (tt, (tt, p))) (raw_part name) (λ v f. refl)

  abbrev pub Parted : Type 0
  Parted = (p : Part) × List Part

  abbrev pub parted : List ℕ → List Part → Parted
  parted name [] = ((part_code name).some.0, [])
  parted name (p ∷ ps) = (p, ps)

  -- the parts of the goals of these names, in order
  unfoldable pub parts_code : List (List ℕ) → Code (List Part)
  parts_code [] = empty []
  parts_code (n ∷ ns) = mapped (λ v. v.0 ∷ v.1) (parted n) (both (part_code n) (λ p. parts_code ns)) (λ v f. refl)
