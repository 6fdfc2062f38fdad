-- Widths with their journals: the step and the two numbers whose product or sum leaves the limits, the forms of the step, and the journal.
use Rattle.std.specs.Prelude.{ℕ, ℤ, cond, IsTrue, List, [], ◌∷◌, ◌++◌, ◌≡◌, Option, Some, None, codes}
use lib.IntN.{pos, negsuc}
use mathlib.Core.Path.{refl, sym, ap, ◌∙◌, subst}
use mathlib.Core.Logic.{inl, inr}
use mathlib.Core.List.{append_assoc}
use Rattle.std.specs.Fmt.{signed_decimal}
use Rattle.ae_codes.specs.Codes.{Code, both, mapped, words}
use Rattle.ae_codes.specs.Closers.{by_blank, by_line, close_end, closers, closes_one, sizes}
use Rattle.ae_codes.specs.Integers.{IntegerEnd, integer_closed, integer_is_spelled, integer_text}
use Rattle.ae_codes.specs.Names.{Listed}
use Rattle.ae_codes.specs.Numbers.{Closed, number}
use Rattle.ae_codes.specs.Rows.{alone, empty}
use Rattle.ae_codes.specs.Tables.{all_apart, table, tagged}
use Rattle.ae_core.specs.declared.problems.Signature.{Signature}
use Rattle.ae_journal.specs.declared.answers.NumStep.{NumStep}
use Rattle.ae_journal.specs.declared.answers.NumStep.TheVariants as step
use Rattle.ae_journal.specs.declared.answers.WideAt.{WideAt}
use Rattle.ae_journal.specs.declared.lines.Story.{Story}
use Rattle.ae_num.specs.declared.forms.Lin.{Lin}
use Rattle.ae_num.specs.declared.numbers.NumOp.{NumOp}
use Rattle.ae_num.specs.declared.numbers.NumOp.TheVariants as op
use Rattle.ae_prooftext.specs.Clauses.{number_is_spelled}
use Rattle.ae_prooftext.specs.FormulaTexts.{same}
use Rattle.ae_prooftext.specs.Parts.{closed_by}
use Rattle.ae_prooftext.specs.Rules.{integer_at, integer_blank}
use Rattle.ae_stategrammar.specs.Journals.{story, story_spelled, line_end}
use Rattle.ae_stategrammar.specs.StateTexts.{step_word, op_word, wide_line, key_line, story_text, number_text}
use Rattle.ae_valuetext.specs.Lins.{linear_form, linear_form_spelled}
use Rattle.ae_valuetext.specs.Texts.{lin_text}

-- ---- the step
abbrev pub plus_word : List ℕ
plus_word = codes "plus "

abbrev pub scale_word : List ℕ
scale_word = codes "scale "

abbrev pub subst_word : List ℕ
subst_word = codes "subst "

abbrev pub combine_word : List ℕ
combine_word = codes "combine "

abbrev pub step_words : List (List ℕ)
step_words = scale_word ∷ subst_word ∷ combine_word ∷ []

pub step_words_apart : IsTrue (all_apart (plus_word ∷ step_words))
step_words_apart = refl

abbrev pub step_tag : NumStep → List ℕ
step_tag step.Plus = plus_word
step_tag step.Scale = scale_word
step_tag step.Subst = subst_word
step_tag step.Combine = combine_word

abbrev pub step_arms : List ℕ → Code NumStep
step_arms w = cond (same w plus_word) (empty step.Plus) (cond (same w scale_word) (empty step.Scale) (cond (same w subst_word) (empty step.Subst) (empty step.Combine)))

one_step : (s : NumStep) (a : NumStep) → (empty s).Fits a → step_tag a ≡ step_tag s
unfolding empty
one_step s a f = ap step_tag f

abbrev step_is : List ℕ → Type 0
step_is w = (a : NumStep) → (step_arms w).Fits a → step_tag a ≡ w

pub step_law : (w : List ℕ) (a : NumStep) → Listed (plus_word ∷ step_words) w → (step_arms w).Fits a → step_tag a ≡ w
step_law w a (inl e) f = subst step_is (sym e) (one_step step.Plus) a f
step_law w a (inr (inl e)) f = subst step_is (sym e) (one_step step.Scale) a f
step_law w a (inr (inr (inl e))) f = subst step_is (sym e) (one_step step.Subst) a f
step_law w a (inr (inr (inr (inl e)))) f = subst step_is (sym e) (one_step step.Combine) a f
step_law w a (inr (inr (inr (inr e)))) f = absurd e

unfoldable pub step_code : Code NumStep
step_code = tagged plus_word step_words step_words_apart step_arms step_tag step_law

step_spelled : (s : NumStep) → step_code.text s ≡ step_word s ++ 32 ∷ []
unfolding step_code tagged mapped both table words empty
step_spelled step.Plus = refl
step_spelled step.Scale = refl
step_spelled step.Subst = refl
step_spelled step.Combine = refl

-- ---- a product or a sum
abbrev pub mul_word : List ℕ
mul_word = codes "mul "

abbrev pub add_word : List ℕ
add_word = codes "add "

pub op_words_apart : IsTrue (all_apart (mul_word ∷ add_word ∷ []))
op_words_apart = refl

abbrev pub op_tag : NumOp → List ℕ
op_tag op.Mul = mul_word
op_tag op.Add = add_word

abbrev pub op_arms : List ℕ → Code NumOp
op_arms w = cond (same w mul_word) (empty op.Mul) (empty op.Add)

one_op : (o : NumOp) (a : NumOp) → (empty o).Fits a → op_tag a ≡ op_tag o
unfolding empty
one_op o a f = ap op_tag f

abbrev op_is : List ℕ → Type 0
op_is w = (a : NumOp) → (op_arms w).Fits a → op_tag a ≡ w

pub op_law : (w : List ℕ) (a : NumOp) → Listed (mul_word ∷ add_word ∷ []) w → (op_arms w).Fits a → op_tag a ≡ w
op_law w a (inl e) f = subst op_is (sym e) (one_op op.Mul) a f
op_law w a (inr (inl e)) f = subst op_is (sym e) (one_op op.Add) a f
op_law w a (inr (inr e)) f = absurd e

unfoldable pub op_code : Code NumOp
op_code = tagged mul_word (add_word ∷ []) op_words_apart op_arms op_tag op_law

op_spelled : (o : NumOp) → op_code.text o ≡ op_word o ++ 32 ∷ []
unfolding op_code tagged mapped both table words empty
op_spelled op.Mul = refl
op_spelled op.Add = refl

-- ---- `wide STEP OP A B`
abbrev pub Start : Type 0
Start = (s : NumStep) × ((o : NumOp) × ((a : ℤ) × ℤ))

abbrev pub RawStart : Type 0
RawStart = (u : Unit {0}) × ((s : NumStep) × ((o : NumOp) × ((a : IntegerEnd) × IntegerEnd)))

abbrev pub raw_start : Code RawStart
raw_start = both (alone {A = Unit {0}} tt (119 ∷ 105 ∷ 100 ∷ 101 ∷ 32 ∷ [])) (λ u. both step_code (λ s. both op_code (λ o. both (integer_at by_blank) (λ a. integer_at by_line))))

abbrev pub start_to : RawStart → Start
start_to v = (v.1.0, (v.1.1.0, (v.1.1.1.0.0, v.1.1.1.1.0)))

abbrev pub start_from : Start → RawStart
start_from v = (tt, (v.0, (v.1.0, ((v.1.1.0, 32), (v.1.1.1, 10)))))

integer_line : (v : IntegerEnd) → (integer_at by_line).Fits v → v.1 ≡ 10
unfolding by_line
integer_line v f = closes_one 10 v.1 (integer_closed (closers 10 10) by_line.digits (close_end by_line) v f)

pub start_back : (v : RawStart) → raw_start.Fits v → start_from (start_to v) ≡ v
unfolding both
start_back v f =
    let a = integer_blank v.1.1.1.0 f.1.1.1.0 in
    let b = integer_line v.1.1.1.1 f.1.1.1.1 in
    λ i. (tt, (v.1.0, (v.1.1.0, ((v.1.1.1.0.0, sym a i), (v.1.1.1.1.0, sym b i)))))

unfoldable pub start : Code Start
start = mapped start_to start_from raw_start start_back

whole_text : (z : ℤ) → integer_text z ≡ signed_decimal z
whole_text (pos n) = refl
whole_text (negsuc n) = refl

abbrev opening : List ℕ
opening = 119 ∷ 105 ∷ 100 ∷ 101 ∷ 32 ∷ []

regroup_start : (s o a b : List ℕ) → opening ++ ((s ++ 32 ∷ []) ++ ((o ++ 32 ∷ []) ++ ((a ++ 32 ∷ []) ++ (b ++ 10 ∷ [])))) ≡ opening ++ s ++ 32 ∷ [] ++ o ++ 32 ∷ [] ++ a ++ 32 ∷ [] ++ b ++ 10 ∷ []
regroup_start s o a b =
    sym (append_assoc opening (s ++ 32 ∷ []) ((o ++ 32 ∷ []) ++ ((a ++ 32 ∷ []) ++ (b ++ 10 ∷ []))))
    ∙ ap (λ z. z ++ ((o ++ 32 ∷ []) ++ ((a ++ 32 ∷ []) ++ (b ++ 10 ∷ [])))) (sym (append_assoc opening s (32 ∷ [])))
    ∙ sym (append_assoc (opening ++ s ++ 32 ∷ []) (o ++ 32 ∷ []) ((a ++ 32 ∷ []) ++ (b ++ 10 ∷ [])))
    ∙ ap (λ z. z ++ ((a ++ 32 ∷ []) ++ (b ++ 10 ∷ []))) (sym (append_assoc (opening ++ s ++ 32 ∷ []) o (32 ∷ [])))
    ∙ sym (append_assoc (opening ++ s ++ 32 ∷ [] ++ o ++ 32 ∷ []) (a ++ 32 ∷ []) (b ++ 10 ∷ []))
    ∙ ap (λ z. z ++ (b ++ 10 ∷ [])) (sym (append_assoc (opening ++ s ++ 32 ∷ [] ++ o ++ 32 ∷ []) a (32 ∷ [])))
    ∙ sym (append_assoc (opening ++ s ++ 32 ∷ [] ++ o ++ 32 ∷ [] ++ a ++ 32 ∷ []) b (10 ∷ []))

start_spelled : (v : Start) → start.text v ≡ opening ++ step_word v.0 ++ 32 ∷ [] ++ op_word v.1.0 ++ 32 ∷ [] ++ signed_decimal v.1.1.0 ++ 32 ∷ [] ++ signed_decimal v.1.1.1 ++ 10 ∷ []
unfolding start mapped both alone words
start_spelled v =
    ap (λ z. opening ++ (z ++ (op_code.text v.1.0 ++ ((integer_at by_blank).text (v.1.1.0, 32) ++ (integer_at by_line).text (v.1.1.1, 10))))) (step_spelled v.0)
    ∙ ap (λ z. opening ++ ((step_word v.0 ++ 32 ∷ []) ++ (z ++ ((integer_at by_blank).text (v.1.1.0, 32) ++ (integer_at by_line).text (v.1.1.1, 10))))) (op_spelled v.1.0)
    ∙ ap (λ z. opening ++ ((step_word v.0 ++ 32 ∷ []) ++ ((op_word v.1.0 ++ 32 ∷ []) ++ (z ++ (integer_at by_line).text (v.1.1.1, 10)))))
    (integer_is_spelled (closers by_blank.one by_blank.two) by_blank.digits (close_end by_blank) (v.1.1.0, 32) ∙ ap (λ z. z ++ 32 ∷ []) (whole_text v.1.1.0))
    ∙ ap (λ z. opening ++ ((step_word v.0 ++ 32 ∷ []) ++ ((op_word v.1.0 ++ 32 ∷ []) ++ ((signed_decimal v.1.1.0 ++ 32 ∷ []) ++ z))))
    (integer_is_spelled (closers by_line.one by_line.two) by_line.digits (close_end by_line) (v.1.1.1, 10) ∙ ap (λ z. z ++ 10 ∷ []) (whole_text v.1.1.1))
    ∙ regroup_start (step_word v.0) (op_word v.1.0) (signed_decimal v.1.1.0) (signed_decimal v.1.1.1)

-- ---- a line with a form
module _ (word : List ℕ) where
  abbrev pub RawForm : Type 0
  RawForm = (u : Unit {0}) × ((l : Lin) × Unit {0})

  abbrev pub raw_form : Code RawForm
  raw_form = both (alone {A = Unit {0}} tt word) (λ u. both linear_form (λ l. line_end))

  unfoldable pub form_line : Code Lin
  form_line = mapped (λ v. v.1.0) (λ l. (tt, (l, tt))) raw_form (λ v f. refl)

  pub form_line_spelled : (l : Lin) → form_line.Fits l → form_line.text l ≡ word ++ lin_text l ++ 10 ∷ []
  unfolding form_line mapped both alone words
  form_line_spelled l f = ap (λ z. word ++ (z ++ 10 ∷ [])) (linear_form_spelled l f.0.1.0) ∙ sym (append_assoc word (lin_text l) (10 ∷ []))

-- ---- the key of a step that has one
abbrev pub RawKey : Type 0
RawKey = (u : Unit {0}) × Closed

abbrev pub raw_key : Code RawKey
raw_key = both (alone {A = Unit {0}} tt (107 ∷ 101 ∷ 121 ∷ 32 ∷ [])) (λ u. number (sizes by_line))

abbrev pub key_from : Option ℕ → RawKey
key_from (Some n) = (tt, (n, 10))
key_from None = (tt, (0, 10))

key_closed : (v : Closed) → (number (sizes by_line)).Fits v → v.1 ≡ 10
unfolding by_line
key_closed v f = closes_one 10 v.1 (closed_by by_line v f)

pub key_back : (v : RawKey) → raw_key.Fits v → key_from (Some v.1.0) ≡ v
unfolding both
key_back v f = let e = key_closed v.1 f.1 in λ i. (tt, (v.1.0, sym e i))

unfoldable pub some_key : Code (Option ℕ)
some_key = mapped (λ v. Some v.1.0) key_from raw_key key_back

abbrev pub key_code : NumStep → Code (Option ℕ)
key_code step.Plus = empty None
key_code step.Scale = empty None
key_code step.Subst = some_key
key_code step.Combine = some_key

no_key : (k : Option ℕ) → (empty {A = Option ℕ} None).Fits k → (empty {A = Option ℕ} None).text k ≡ key_line k
unfolding empty
no_key k f = ap key_line (sym f)

some_is_not_none : (n : ℕ) → ◌≡◌ {A = Option ℕ} (Some n) None → ⊥
some_is_not_none n e = cc

with_key : (k : Option ℕ) → some_key.Fits k → some_key.text k ≡ key_line k
unfolding some_key mapped both alone words
with_key (Some n) f = ap (λ z. 107 ∷ 101 ∷ 121 ∷ 32 ∷ z) (number_is_spelled by_line (n, 10))
with_key None f = absurd (some_is_not_none 0 f.1)

key_spelled : (s : NumStep) (k : Option ℕ) → (key_code s).Fits k → (key_code s).text k ≡ key_line k
key_spelled step.Plus k f = no_key k f
key_spelled step.Scale k f = no_key k f
key_spelled step.Subst k f = with_key k f
key_spelled step.Combine k f = with_key k f

-- ---- the whole
module _ (sig : Signature) where
  abbrev pub NumberText : Type 0
  NumberText = (s : Story) × WideAt

  abbrev pub RawNumber : Type 0
  RawNumber = (w : Start) × ((l : Lin) × ((k : Option ℕ) × ((r : Lin) × Story)))

  abbrev pub left_word : List ℕ
  left_word = codes "left "

  abbrev pub right_word : List ℕ
  right_word = codes "right "

  abbrev pub raw_number : Code RawNumber
  raw_number = both start (λ w. both (form_line left_word) (λ l. both (key_code w.0) (λ k. both (form_line right_word) (λ r. story sig))))

  abbrev pub number_to : RawNumber → NumberText
  number_to v = (v.1.1.1.1, record { step = v.0.0; left = v.1.0; key = v.1.1.0; right = v.1.1.1.0; wide = record { op = v.0.1.0; left = v.0.1.1.0; right = v.0.1.1.1 } })

  abbrev pub number_from : NumberText → RawNumber
  number_from v = ((v.1.step, (v.1.wide.op, (v.1.wide.left, v.1.wide.right))), (v.1.left, (v.1.key, (v.1.right, v.0))))

  unfoldable pub number_code : Code NumberText
  number_code = mapped number_to number_from raw_number (λ v f. refl)

  regroup : (w l k r s : List ℕ) → w ++ (l ++ (k ++ (r ++ s))) ≡ w ++ l ++ k ++ r ++ s
  regroup w l k r s = sym (append_assoc w l (k ++ (r ++ s))) ∙ sym (append_assoc (w ++ l) k (r ++ s)) ∙ sym (append_assoc (w ++ l ++ k) r s)

  pub number_spelled : (v : NumberText) → number_code.Fits v → number_code.text v ≡ number_text sig v.0 v.1
  unfolding number_code mapped both number_text
  number_spelled v f =
      ap (λ z. z ++ ((form_line left_word).text v.1.left ++ ((key_code v.1.step).text v.1.key ++ ((form_line right_word).text v.1.right ++ (story sig).text v.0)))) (start_spelled (v.1.step, (v.1.wide.op, (v.1.wide.left, v.1.wide.right))))
      ∙ ap (λ z. wide_line v.1 ++ (z ++ ((key_code v.1.step).text v.1.key ++ ((form_line right_word).text v.1.right ++ (story sig).text v.0)))) (form_line_spelled left_word v.1.left f.0.1.0)
      ∙ ap (λ z. wide_line v.1 ++ ((left_word ++ lin_text v.1.left ++ 10 ∷ []) ++ (z ++ ((form_line right_word).text v.1.right ++ (story sig).text v.0)))) (key_spelled v.1.step v.1.key f.0.1.1.0)
      ∙ ap (λ z. wide_line v.1 ++ ((left_word ++ lin_text v.1.left ++ 10 ∷ []) ++ (key_line v.1.key ++ (z ++ (story sig).text v.0)))) (form_line_spelled right_word v.1.right f.0.1.1.1.0)
      ∙ ap (λ z. wide_line v.1 ++ ((left_word ++ lin_text v.1.left ++ 10 ∷ []) ++ (key_line v.1.key ++ ((right_word ++ lin_text v.1.right ++ 10 ∷ []) ++ z)))) (story_spelled sig v.0 f.0.1.1.1.1)
      ∙ regroup (wide_line v.1) (left_word ++ lin_text v.1.left ++ 10 ∷ []) (key_line v.1.key) (right_word ++ lin_text v.1.right ++ 10 ∷ []) (story_text sig v.0)
