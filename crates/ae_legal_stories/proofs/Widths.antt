-- A width that a legal journal licenses has a text with the journal, and what is written of both is read back.
use Rattle.std.specs.Prelude.{ℕ, suc, ℤ, pos, ◌<◌, ◌^◌, ◌≡◌, nat_le, IsTrue, List, [], Option, Some, None}
use Rattle.std.proofs.Common.{refl, sym, ap, ◌∙◌, arith, inl, inr}
use Rattle.std.proofs.lemmas.Bool.{le-leb}
use Rattle.ae_base.proofs.Options.{never_some}
use Rattle.ae_codes.specs.Closers.{Close, by_blank, by_line, close_end, closers}
use Rattle.ae_codes.specs.Codes.{both, got, limit, mapped, one, reads_text, words}
use Rattle.ae_codes.specs.Integers as integers
use Rattle.ae_codes.specs.Integers.{integer}
use Rattle.ae_codes.specs.Machines.{checked, machine}
use Rattle.ae_codes.specs.Numbers.{and_both, number_machine}
use Rattle.ae_codes.specs.Rows.{alone, empty}
use Rattle.ae_codes.specs.Tables.{table, tagged}
use Rattle.ae_core.specs.Signatures.{IsLawfulProblem}
use Rattle.ae_core.specs.declared.problems.Problem.{Problem}
use Rattle.ae_journal.specs.Answers.{IsLegalWidth}
use Rattle.ae_journal.specs.Licences.{stated_steps}
use Rattle.ae_journal.specs.declared.answers.NumStep.{NumStep}
use Rattle.ae_journal.specs.declared.answers.NumStep.TheVariants as step
use Rattle.ae_journal.specs.declared.answers.WideAt.{WideAt}
use Rattle.ae_journal.specs.declared.lines.Story.{Story}
use Rattle.ae_legal_texts.proofs.Rules.{line_count}
use Rattle.ae_num.specs.Forms.{IsNormal, first_wide}
use Rattle.ae_num.specs.Limits.{FitsLimits}
use Rattle.ae_num.specs.declared.forms.Lin.{Lin}
use Rattle.ae_num.specs.declared.numbers.Wide.{Wide}
use Rattle.ae_num.specs.declared.numbers.NumOp.{NumOp}
use Rattle.ae_num.specs.declared.numbers.NumOp.TheVariants as op
use Rattle.ae_stategrammar.specs.StateTexts.{number_text}
use Rattle.ae_stategrammar.specs.Widths.{form_line, key_code, left_word, number_code, number_spelled, op_code, right_word, some_key, start, step_code}
use Rattle.ae_valuetext.proofs.TextLaws.{normal_forms_fit}
use Rattle.ae_legal_stories.proofs.Steps.{operands_fit}
use Rattle.ae_legal_stories.proofs.Stories.{stories_fit}
use Rattle.ae_legal_stories.specs.Writable.{AreFormNames, IsKeyWithin, IsWidthWithin}
use lib.IntN.{negsuc}

-- ---- the first line
step_fits : (s : NumStep) → step_code.Fits s
unfolding step_code tagged mapped both table words empty
step_fits step.Plus = ((inl refl, refl), refl)
step_fits step.Scale = ((inr (inl refl), refl), refl)
step_fits step.Subst = ((inr (inr (inl refl)), refl), refl)
step_fits step.Combine = ((inr (inr (inr (inl refl))), refl), refl)

op_fits : (o : NumOp) → op_code.Fits o
unfolding op_code tagged mapped both table words empty
op_fits op.Mul = ((inl refl, refl), refl)
op_fits op.Add = ((inr (inl refl), refl), refl)

integer_fits : (k : Close) (z : ℤ) (e : ℕ) → FitsLimits z → IsTrue (closers k.one k.two e) → (integer (closers k.one k.two) k.digits (close_end k)).Fits (z, e)
unfolding integer mapped checked integers.whole one both alone words machine number_machine
integer_fits k (pos n) e l c = ((and_both (nat_le 0 n) (nat_le n limit) (le-leb 0 n (omega arith)) (le-leb n limit (omega (arith, l))), c), refl)
integer_fits k (negsuc n) e l c = ((refl, (and_both (nat_le 1 (suc n)) (nat_le (suc n) limit) (le-leb 1 (suc n) (omega arith)) (le-leb (suc n) limit (omega (arith, l))), c)), refl)

start_fits : (s : NumStep) (o : NumOp) (a b : ℤ) → FitsLimits a → FitsLimits b → start.Fits (s, (o, (a, b)))
unfolding start mapped both alone words by_blank by_line
start_fits s o a b p q = ((refl, (step_fits s, (op_fits o, (integer_fits by_blank a 32 p refl, integer_fits by_line b 10 q refl)))), refl)

-- ---- the forms and the key
form_fits : (word : List ℕ) (l : Lin) → IsNormal l → AreFormNames l → (form_line word).Fits l
unfolding form_line mapped both alone words
form_fits word l n a = ((refl, (normal_forms_fit l n a, refl)), refl)

none_key : (empty {A = Option ℕ} None).Fits None
unfolding empty
none_key = refl

key_has : (n : ℕ) → n < 2 ^ 64 → some_key.Fits (Some n)
unfolding some_key mapped both alone words
key_has n l = ((refl, line_count n l), refl)

-- a step that states products and sums has a key exactly where it needs one
key_fits : (s : NumStep) (f : Lin) (k : Option ℕ) (h : Lin) (w : Wide) → first_wide (stated_steps s f k h) ≡ Some w → IsKeyWithin k → (key_code s).Fits k
key_fits step.Plus f None h w e l = none_key
key_fits step.Plus f (Some n) h w e l = never_some w e
key_fits step.Scale f None h w e l = none_key
key_fits step.Scale f (Some n) h w e l = never_some w e
key_fits step.Subst f None h w e l = never_some w e
key_fits step.Subst f (Some n) h w e l = key_has n l
key_fits step.Combine f None h w e l = never_some w e
key_fits step.Combine f (Some n) h w e l = key_has n l

-- ---- the whole
pub widths_fit : (p : Problem) (g max bound : ℕ) (s : Story) (w : WideAt) → IsLawfulProblem p → IsLegalWidth p g max bound s w → IsWidthWithin p.signature s w → (number_code p.signature).Fits (s, w)
unfolding number_code mapped both
widths_fit p g max bound s w lawful legal l =
    let licensed = legal.licensed in
    let small = operands_fit w.step w.left w.key w.right licensed.normal.0 licensed.normal.1 w.wide licensed.wide in (
      (
        start_fits w.step w.wide.op w.wide.left w.wide.right small.0 small.1,
        (
          form_fits (left_word p.signature) w.left licensed.normal.0 l.left,
          (
            key_fits w.step w.left w.key w.right w.wide licensed.wide l.key,
            (form_fits (right_word p.signature) w.right licensed.normal.1 l.right, stories_fit p g bound s lawful legal.legal l.story),
          ),
        ),
      ),
      refl,
    )

pub widths_read_back : (p : Problem) (g max bound : ℕ) (s : Story) (w : WideAt) → IsLawfulProblem p → IsLegalWidth p g max bound s w → IsWidthWithin p.signature s w
    → (number_code p.signature).read (number_text p.signature s w) ≡ got (s, w) []
widths_read_back p g max bound s w lawful legal l =
    let f = widths_fit p g max bound s w lawful legal l in
    ap (number_code p.signature).read (sym (number_spelled p.signature (s, w) f)) ∙ reads_text (number_code p.signature) (s, w) f
