-- The laws that the clauses of laws.rt name.
use Rattle.std.proofs.Common.{ℕ, List, [], ◌∷◌, ◌++◌, ◌≡◌, refl, sym, ap, ◌∙◌, append_assoc, subst}
use Rattle.std.specs.Prelude.{codes, decimal}
use mathlib.Core.Logic.{inl, inr}
use Rattle.ae_codes.specs.Closers.{by_line}
use Rattle.ae_codes.specs.Codes.{Exact, exact, both, mapped, words}
use Rattle.ae_codes.specs.Machines.{checked, machine}
use Rattle.ae_codes.specs.Numbers.{number, number_machine}
use Rattle.ae_codes.specs.Rows.{alone, empty}
use Rattle.ae_codes.specs.Tables.{table, tagged}
use Rattle.ae_core.specs.declared.problems.Signature.{Signature}
use Rattle.ae_journal.specs.declared.answers.Answer.{Answer}
use Rattle.ae_journal.specs.declared.answers.Answer.TheVariants as answer
use Rattle.ae_parts.specs.Codes.{answer_code, goal_word, part_code, part_word, parts_code, steps_word}
use Rattle.ae_parts.specs.Parts.{PartStands, PartsStand, answer_words, found_text, part_of, part_text, parts_text}
use Rattle.ae_parts.specs.declared.parts.Part.{Part}
use Rattle.ae_parts.specs.declared.parts.Part.TheVariants as part
use Rattle.ae_prooftext.specs.ProofTexts.{proof_spelled}
use Rattle.ae_prooftext.specs.Grammar.{is_real}
use Rattle.ae_stategrammar.specs.Journals.{story_spelled}
use Rattle.ae_stategrammar.specs.States.{state_spelled}
use Rattle.ae_stategrammar.specs.Widths.{number_spelled}
use Rattle.ae_statetext.specs.AnswerTexts.{answer_text}
use Rattle.ae_valuereader.proofs.Spanning.{is_between, lies_between}

regroup : (g n w e f : List ℕ) → g ++ (n ++ ((w ++ e) ++ f)) ≡ g ++ n ++ w ++ e ++ f
regroup g n w e f =
    sym (append_assoc g n ((w ++ e) ++ f))
    ∙ sym (append_assoc (g ++ n) (w ++ e) f)
    ∙ ap (λ z. z ++ f) (sym (append_assoc (g ++ n) w e))

module _ (sig : Signature) where
  -- ---- one part
  answer_stands : (p : Part) → (answer_code sig).Fits p → PartStands sig p
  unfolding answer_code tagged mapped both table words number checked machine number_machine
  answer_stands (part.Valid p) f = f.0.1.0
  answer_stands (part.Unknown s) f = f.0.1.0
  answer_stands (part.Steps n s) f = let l = is_between 1 1000000 n f.0.1.0.0.0 in (l.0, l.1, f.0.1.0.1)
  answer_stands (part.Number s w) f = f.0.1.0

  answer_fits : (p : Part) → PartStands sig p → (answer_code sig).Fits p
  unfolding answer_code tagged mapped both table words number checked machine number_machine by_line
  answer_fits (part.Valid p) h = ((inl refl, (h, refl)), refl)
  answer_fits (part.Unknown s) h = ((inr (inl refl), (h, refl)), refl)
  answer_fits (part.Steps n s) h = ((inr (inr (inl refl)), (((lies_between 1 1000000 n h.0 h.1, refl), h.2), refl)), refl)
  answer_fits (part.Number s w) h = ((inr (inr (inr (inl refl))), (h, refl)), refl)

  abbrev line_end : List ℕ
  line_end = codes "\n"

  steps_apart : (n : ℕ) (f : List ℕ) → steps_word ++ ((decimal n ++ line_end) ++ f) ≡ ((steps_word ++ decimal n) ++ line_end) ++ f
  steps_apart n f = sym (append_assoc steps_word (decimal n ++ line_end) f) ∙ ap (λ z. z ++ f) (sym (append_assoc steps_word (decimal n) line_end))

  answer_spelled : (p : Part) → PartStands sig p → (answer_code sig).text p ≡ (answer_words p ++ line_end) ++ found_text sig p
  unfolding answer_code tagged mapped both table words number checked machine number_machine
  answer_spelled (part.Valid p) h = ap (λ z. part_word (part.Valid p) ++ z) (proof_spelled sig (is_real sig) p h)
  answer_spelled (part.Unknown s) h = ap (λ z. part_word (part.Unknown s) ++ z) (state_spelled sig s h)
  answer_spelled (part.Steps n s) h = ap (λ z. steps_word ++ ((decimal n ++ line_end) ++ z)) (story_spelled sig s h.2) ∙ steps_apart n (found_text sig (part.Steps n s))
  answer_spelled (part.Number s w) h = ap (λ z. part_word (part.Number s w) ++ z) (number_spelled sig (s, w) h)

  part_stands : (name : List ℕ) (p : Part) → (part_code sig name).Fits p → PartStands sig p
  unfolding part_code mapped both alone words
  part_stands name p f = answer_stands p f.0.1.1

  part_fits : (name : List ℕ) (p : Part) → PartStands sig p → (part_code sig name).Fits p
  unfolding part_code mapped both alone words
  part_fits name p h = ((refl, (refl, answer_fits p h)), refl)

  part_spelled : (name : List ℕ) (p : Part) → PartStands sig p → (part_code sig name).text p ≡ part_text sig name p
  unfolding part_code mapped both alone words
  part_spelled name p h = ap (λ z. goal_word ++ (name ++ z)) (answer_spelled p h) ∙ regroup goal_word name (answer_words p) line_end (found_text sig p)

  -- ---- parts
  pub parts_exact : (names : List (List ℕ)) → Exact (parts_code sig names)
  parts_exact names = exact (parts_code sig names)

  pub parts_stand : (names : List (List ℕ)) (ps : List Part) → (parts_code sig names).Fits ps → PartsStand sig names ps
  unfolding parts_code empty mapped both
  parts_stand [] ps f = subst (PartsStand sig []) (sym f) tt
  parts_stand (n ∷ ns) [] f = let e = f.1 in absurd cc
  parts_stand (n ∷ ns) (p ∷ ps) f = (part_stands n p f.0.0, parts_stand ns ps f.0.1)

  pub parts_fit : (names : List (List ℕ)) (ps : List Part) → PartsStand sig names ps → (parts_code sig names).Fits ps
  unfolding parts_code empty mapped both
  parts_fit [] [] h = refl
  parts_fit [] (p ∷ ps) h = absurd h
  parts_fit (n ∷ ns) [] h = absurd h
  parts_fit (n ∷ ns) (p ∷ ps) h = ((part_fits n p h.0, parts_fit ns ps h.1), refl)

  stand_spelled : (names : List (List ℕ)) (ps : List Part) → PartsStand sig names ps → (parts_code sig names).text ps ≡ parts_text sig names ps
  unfolding parts_code empty mapped both
  stand_spelled [] ps h = refl
  stand_spelled (n ∷ ns) [] h = absurd h
  stand_spelled (n ∷ ns) (p ∷ ps) h = λ i. part_spelled n p h.0 i ++ stand_spelled ns ps h.1 i

  pub parts_spelled : (names : List (List ℕ)) (ps : List Part) → (parts_code sig names).Fits ps → (parts_code sig names).text ps ≡ parts_text sig names ps
  parts_spelled names ps f = stand_spelled names ps (parts_stand names ps f)

  -- ---- what is written of an answer
  pub answers_written : (name : List ℕ) (a : Answer) → part_text sig name (part_of a) ≡ answer_text sig name a
  unfolding answer_text
  answers_written name (answer.Valid p) = refl
  answers_written name (answer.Unknown s) = refl
  answers_written name (answer.Steps s) = refl
  answers_written name (answer.Number s at) = refl
