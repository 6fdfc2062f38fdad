-- Journals as the grammar reads them.
use Rattle.std.proofs.Common.{ℕ, ◌+◌, ◌⊎◌, true, false, List, [], ◌∷◌, ◌++◌, ◌≡◌, drop, refl, sym, ap, ◌∙◌}
use Rattle.std.specs.Prelude.{Some, None}
use mathlib.Core.Logic.{inl, inr}
use Rattle.ae_codes.specs.Codes.{Read, got, stops, wide}
use Rattle.ae_codes.specs.Rows.{alone}
use Rattle.ae_core.specs.declared.problems.Signature.{Signature}
use Rattle.ae_journal.specs.declared.lines.Line.{Line}
use Rattle.ae_readers.specs.Readers.{FaultIs, after_read, step_read, steps_before}
use Rattle.ae_readers.proofs.Combinators.{mapped_is}
use Rattle.ae_readers.proofs.RowReading.{steps_turn, steps_none, steps_go_on, steps_end, steps_faulty}
use Rattle.ae_readers.specs.declared.fault.Fault.{Fault}
use Rattle.ae_readers.specs.declared.fault.Fault.TheVariants.{At, WideNumber, Memory}
use Rattle.ae_stategrammar.specs.Journals as grammar
use Rattle.ae_stategrammar.specs.Journals.{line_code, line_first, end_fits, Lines, lines, lines_behind, names, story, raw_story, story_to, story_from}
use Rattle.ae_stategrammar.specs.Sections.{NoneOf}
use Rattle.ae_stategrammar.specs.States.{term_in_line, name_rest}
use Rattle.ae_statereader.specs.Items.{name_item}
use Rattle.ae_statereader.specs.Lines.{HasNumber, starts}
use Rattle.ae_statereader.proofs.NumberedReading.{word_then, from_line, numbered_on, numbered_off, lines_are}
use Rattle.ae_statereader.proofs.StateReading.{name_line_is}
use Rattle.ae_storyreader.specs.Lines.{Step, line_read}
use Rattle.ae_storyreader.specs.Stories.{story_read}
use Rattle.ae_storyreader.proofs.LineReading.{step_made, line_is}
use Rattle.ae_termreader.proofs.SortReading.{both_then}

module _ (sig : Signature) where
  abbrev pub lines_read : List ℕ → Read (Lines sig)
  lines_read bytes = (lines sig).read bytes

  abbrev line : List ℕ → Read (Line ⊎ Unit {0})
  line bytes = (line_code sig).read bytes

  abbrev part_made : Step → List ℕ → Read (Line ⊎ Unit {0})
  part_made (Some a) rest = got (inl a) rest
  part_made None rest = got (inr tt) rest

  there_and_back : (r : Read (Line ⊎ Unit {0})) → r ≡ after_read (after_read r step_made) part_made
  there_and_back (got (inl a) rest) = refl
  there_and_back (got (inr u) rest) = refl
  there_and_back (stops r) = refl
  there_and_back (wide r) = refl

  line_turn : (bytes : List ℕ) → line bytes ≡ after_read (line_read sig bytes) part_made
  line_turn bytes = there_and_back (line bytes) ∙ ap (λ r. after_read r part_made) (line_is sig bytes)

  lines_turn : (bytes : List ℕ) → lines_read bytes ≡ after_read (line bytes) (λ x rest. step_read x (lines_read rest) rest)
  lines_turn bytes = steps_turn (line_code sig) tt (end_fits sig) (NoneOf (110 ∷ [])) (line_first sig) bytes

  -- ---- as far as a loop over lines has come
  pub lines_begin : (xs : List Line) (bytes : List ℕ) → xs ≡ [] → lines_read bytes ≡ steps_before xs (lines_read bytes)
  lines_begin xs bytes e = steps_none (lines_read bytes) ∙ ap (λ z. steps_before z (lines_read bytes)) (sym e)

  line_fails : (text bytes : List ℕ) (f : Fault) → FaultIs text f (line_read sig bytes) → FaultIs text f (line bytes)
  line_fails text bytes (At p) e = line_turn bytes ∙ ap (λ r. after_read r part_made) e
  line_fails text bytes (WideNumber p) e = line_turn bytes ∙ ap (λ r. after_read r part_made) e
  line_fails text bytes Memory e = tt

  module _ (text : List ℕ) (from at : ℕ) (xs : List Line) (far : lines_read (drop from text) ≡ steps_before xs (lines_read (drop at text))) where
    pub lines_on : (a : Line) (next : ℕ) (ys : List Line) → line_read sig (drop at text) ≡ got (Some a) (drop next text) → ys ≡ xs ++ a ∷ [] → lines_read (drop from text) ≡ steps_before ys (lines_read (drop next text))
    lines_on a next ys e p =
        steps_go_on lines_read line lines_turn text from at xs far a next (line_turn (drop at text) ∙ ap (λ r. after_read r part_made) e)
        ∙ ap (λ z. steps_before z (lines_read (drop next text))) (sym p)

    pub lines_end : (next : ℕ) → line_read sig (drop at text) ≡ got None (drop next text) → lines_read (drop from text) ≡ got (xs, tt) (drop next text)
    lines_end next e = steps_end lines_read line lines_turn text from at xs far tt next (line_turn (drop at text) ∙ ap (λ r. after_read r part_made) e)

    pub lines_fail : (f : Fault) → FaultIs text f (line_read sig (drop at text)) → FaultIs text f (lines_read (drop from text))
    lines_fail f e = steps_faulty lines_read line lines_turn text from at xs far f (line_fails text (drop at text) f e)

  -- ---- names, and the lines behind them
  lines_none : lines_read [] ≡ stops []
  lines_none = lines_turn [] ∙ ap (λ r. after_read r (λ x rest. step_read x (lines_read rest) rest)) (line_turn [])

  abbrev pub names_read : ℕ → List ℕ → Read (grammar.Named sig)
  names_read n bytes = from_line 110 name_rest (term_in_line sig) (lines sig) (NoneOf []) tt (lines_behind sig) n bytes

  pub names_are : (bytes : List ℕ) → (names sig).read bytes ≡ names_read 0 bytes
  names_are bytes = lines_are 110 name_rest (term_in_line sig) (lines sig) (NoneOf []) tt (lines_behind sig) bytes

  pub names_on : (n : ℕ) (bytes : List ℕ) → HasNumber n → starts 110 bytes ≡ true → names_read n bytes ≡ after_read (name_item sig n bytes) (λ a m. after_read (names_read (n + 1) m) (λ v e. got (a ∷ v.0, v.1) e))
  names_on n bytes l e =
      numbered_on 110 name_rest (term_in_line sig) (lines sig) (NoneOf []) tt (lines_behind sig) n bytes l e
      ∙ ap (λ r. after_read r (λ a m. after_read (names_read (n + 1) m) (λ v e. got (a ∷ v.0, v.1) e))) (name_line_is sig n bytes)

  pub names_off : (n : ℕ) (bytes : List ℕ) → starts 110 bytes ≡ false → names_read n bytes ≡ after_read (lines_read bytes) (λ b e. got ([], b) e)
  names_off n bytes e = numbered_off 110 name_rest (term_in_line sig) (lines sig) (NoneOf []) tt (lines_behind sig) lines_none n bytes e

  -- ---- the whole
  pub story_is : (bytes : List ℕ) → (story sig).read bytes ≡ story_read sig bytes
  unfolding story
  story_is bytes =
      mapped_is (story_to sig) (story_from sig) (raw_story sig) (λ v f. refl) bytes
      ∙ both_then (alone {A = Unit {0}} tt (106 ∷ 111 ∷ 117 ∷ 114 ∷ 110 ∷ 97 ∷ 108 ∷ 32 ∷ 49 ∷ 10 ∷ [])) (λ u. names sig) bytes (λ v rest. got (story_to sig v) rest)
      ∙ word_then (106 ∷ 111 ∷ 117 ∷ 114 ∷ 110 ∷ 97 ∷ 108 ∷ 32 ∷ 49 ∷ 10 ∷ []) bytes (λ u r. after_read ((names sig).read r) (λ v rest. got (story_to sig (u, v)) rest))
