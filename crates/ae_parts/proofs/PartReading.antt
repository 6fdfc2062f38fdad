-- Parts as the grammar reads them.
use Rattle.std.proofs.Common.{ℕ, zero, suc, ◌+◌, ◌*◌, ◌-◌, ◌/◌, ◌≤◌, Bool, true, ◌&&◌, IsTrue, nat_eq, nat_le, nat_lt, List, [], ◌∷◌, ◌++◌, ◌≡◌, drop, length, refl, sym, ap, ◌∙◌, append-nil, append_assoc, arith}
use mathlib.Core.Logic.{inl, inr}
use Rattle.std.proofs.lemmas.Bool.{eq-eqb, leb-true, ltb-true}
use Rattle.ae_choices.specs.Choices.{picked}
use Rattle.ae_choices.proofs.ChoiceForms.{tagged_picked}
use Rattle.ae_codes.specs.Closers.{by_line, closers, closes_one}
use Rattle.ae_codes.specs.Codes.{Code, Read, got, stops, wide, both, is_digit, wide_digits}
use Rattle.ae_codes.specs.Fractions.{or_cases}
use Rattle.ae_codes.specs.Machines.{run}
use Rattle.ae_codes.specs.Numbers.{Digits, no_digit, digits, digit_step, ended, longer_by, lies, number, and_one, and_two, and_both, or_one}
use Rattle.ae_codes.specs.Rows.{alone, empty}
use Rattle.ae_core.specs.declared.problems.Signature.{Signature}
use Rattle.ae_linereader.proofs.OwnReading.{same_after}
use Rattle.ae_parts.specs.Codes.{answer_code, arm_law, arms, counted, counted_back, goal_word, limits, number_in, other_words, part_code, part_word, parted, parts_code, proof_in, raw_part, state_in, steps_in, valid_word, words_apart}
use Rattle.ae_parts.specs.Reading.{all_words, limit_span, part_arms, part_read}
use Rattle.ae_parts.specs.declared.parts.Part.{Part}
use Rattle.ae_parts.specs.declared.parts.Part.TheVariants as part
use Rattle.ae_prooftext.specs.Grammar.{proof_code}
use Rattle.ae_readers.specs.Readers.{FaultIs, FaultWithin, after_read, before, fixed_read, wide_or}
use Rattle.ae_readers.proofs.Combinators.{after_same, mapped_is}
use Rattle.ae_readers.proofs.RowReading.{before_none}
use Rattle.ae_readers.specs.declared.fault.Fault.{Fault}
use Rattle.ae_readers.specs.declared.fault.Fault.TheVariants.{At, WideNumber, Memory}
use Rattle.ae_stategrammar.specs.Journals.{story}
use Rattle.ae_stategrammar.specs.States.{state}
use Rattle.ae_stategrammar.specs.Widths.{number_code}
use Rattle.ae_statereader.proofs.NumberedReading.{word_then}
use Rattle.ae_termreader.proofs.SortReading.{both_then, mapped_then}
use Rattle.ae_valuereader.proofs.FormReading.{number_is}
use Rattle.ae_valuereader.proofs.Spanning.{both_ways, is_between, lies_between}
use Rattle.ae_valuereader.specs.Spans.{goes, may_close, span_read, spans}

-- ---- the number of steps
spans_below : (k low high n : ℕ) → IsTrue (spans k low high n) → n ≤ high
unfolding spans
spans_below zero low high n h = absurd cc
spans_below (suc k) low high n h = elim (or_cases (lies low high n) (spans k (low / 10) (high / 10) n) h) [
  | inl i ↦ (is_between low high n i).1
  | inr i ↦ let l = spans_below k (low / 10) (high / 10) n i in omega (arith, l)
]

abbrev is_limit : ℕ → Bool
is_limit n = lies 1 1000000 n

goes_is : (n : ℕ) → goes limit_span n ≡ is_limit n
goes_is n = both_ways (goes limit_span n) (is_limit n)
    (λ h. elim (or_cases (is_limit n) (nat_lt 0 n && spans 40 1 1000000 n) h) [
      | inl i ↦ i
      | inr i ↦
          let l = ltb-true 0 n (and_one (nat_lt 0 n) (spans 40 1 1000000 n) i) in
          let m = spans_below 40 1 1000000 n (and_two (nat_lt 0 n) (spans 40 1 1000000 n) i) in
          lies_between 1 1000000 n (omega (arith, l)) m
    ])
    (λ h. or_one (is_limit n) (nat_lt 0 n && spans 40 1 1000000 n) h)

-- a blank closes none of these numbers
closes_is : (n x : ℕ) → (may_close limit_span n x && is_limit n) ≡ (closers 10 10 x && is_limit n)
closes_is n x = both_ways (may_close limit_span n x && is_limit n) (closers 10 10 x && is_limit n)
    (λ h.
    let good = and_two (may_close limit_span n x) (is_limit n) h in
    elim (or_cases (nat_eq x 10 && true) (nat_eq x 32 && nat_le n 0) (and_one (may_close limit_span n x) (is_limit n) h)) [
      | inl e ↦ and_both (closers 10 10 x) (is_limit n) (or_one (nat_eq x 10) (nat_eq x 10) (and_one (nat_eq x 10) true e)) good
      | inr e ↦
          let l = (is_between 1 1000000 n good).0 in
          let z = leb-true n 0 (and_two (nat_eq x 32) (nat_le n 0) e) in
          absurd (omega (arith, l, z))
    ])
    (λ h.
    let e = closes_one 10 x (and_one (closers 10 10 x) (is_limit n) h) in
    and_both (may_close limit_span n x) (is_limit n) (or_one (nat_eq x 10 && true) (nat_eq x 32 && nat_le n 0) (and_both (nat_eq x 10) true (eq-eqb x 10 e) refl)) (and_two (closers 10 10 x) (is_limit n) h))

step_is : (d : Digits) (x : ℕ) → digit_step is_limit is_limit (λ n x. closers by_line.one by_line.two x) d x ≡ digit_step is_limit (goes limit_span) (may_close limit_span) d x
unfolding by_line
step_is no_digit x = ap (λ b. longer_by (is_digit x && b) (x - 48)) (sym (goes_is (x - 48)))
step_is (digits n) x = λ i. ended (sym (closes_is n x) i) n x (longer_by ((nat_lt 0 n && is_digit x) && sym (goes_is (n * 10 + (x - 48))) i) (n * 10 + (x - 48)))

pub limit_is : (bytes : List ℕ) → (number (limits by_line)).read bytes ≡ span_read limit_span bytes
limit_is bytes = number_is (limits by_line) bytes ∙ ap (wide_or (wide_digits bytes) bytes) (λ i. run (λ d x. step_is d x i) bytes no_digit)

-- ---- a part
module _ (sig : Signature) where
  abbrev part_made : Part → List ℕ → Read Part
  part_made p rest = got p rest

  answer_is : (bytes : List ℕ) → (answer_code sig).read bytes ≡ picked all_words (part_arms sig) bytes
  unfolding answer_code
  answer_is bytes = same_after ((answer_code sig).read bytes) ∙ tagged_picked valid_word other_words words_apart (arms sig) part_word (arm_law sig) part_made (part_arms sig) (
    refl,
    (λ r. mapped_then (λ p. part.Valid p) (proof_in sig) (proof_code sig) (λ p f. refl) r part_made),
    (
      refl,
      (λ r. mapped_then (λ s. part.Unknown s) (state_in sig) (state sig) (λ s f. refl) r part_made),
      (
        refl,
        (λ r. mapped_then (λ v. part.Steps v.0.0 v.1) (steps_in sig) (counted sig) (counted_back sig) r part_made
            ∙ both_then (number (limits by_line)) (λ n. story sig) r (λ v rest. got (part.Steps v.0.0 v.1) rest)),
        (refl, (λ r. mapped_then (λ v. part.Number v.0 v.1) (number_in sig) (number_code sig) (λ v f. refl) r part_made), tt),
      ),
    ),
  ) bytes

  abbrev named_part : List ℕ → Code ((v : Unit {0}) × Part)
  named_part name = both (alone {A = Unit {0}} tt name) (λ v. answer_code sig)

  pub part_is : (name bytes : List ℕ) → (part_code sig name).read bytes ≡ part_read sig name bytes
  unfolding part_code
  part_is name bytes =
      mapped_is (λ v. v.1.1) (λ p. (tt, (tt, p))) (raw_part sig name) (λ v f. refl) bytes
      ∙ both_then (alone {A = Unit {0}} tt goal_word) (λ u. named_part name) bytes (λ v rest. got v.1.1 rest)
      ∙ word_then goal_word bytes (λ u r. after_read ((named_part name).read r) (λ v rest. got v.1 rest))
      ∙ after_same (fixed_read goal_word bytes) _ _ (λ u r.
      both_then (alone {A = Unit {0}} tt name) (λ v. answer_code sig) r (λ v rest. got v.1 rest)
      ∙ word_then name r (λ v q. after_read ((answer_code sig).read q) (λ p rest. got p rest))
      ∙ after_same (fixed_read name r) _ _ (λ v q. sym (same_after ((answer_code sig).read q)) ∙ answer_is q))

  -- ---- parts, one after another
  abbrev added : List (List ℕ) → Part → List ℕ → Read (List Part)
  added ns p r = after_read ((parts_code sig ns).read r) (λ ps rest. got (p ∷ ps) rest)

  parts_none : (bytes : List ℕ) → (parts_code sig []).read bytes ≡ got [] bytes
  unfolding parts_code empty
  parts_none bytes = refl

  parts_turn : (n : List ℕ) (ns : List (List ℕ)) (bytes : List ℕ) → (parts_code sig (n ∷ ns)).read bytes ≡ after_read ((part_code sig n).read bytes) (added ns)
  unfolding parts_code
  parts_turn n ns bytes =
      mapped_is (λ v. v.0 ∷ v.1) (parted sig n) (both (part_code sig n) (λ p. parts_code sig ns)) (λ v f. refl) bytes
      ∙ both_then (part_code sig n) (λ p. parts_code sig ns) bytes (λ v rest. got (v.0 ∷ v.1) rest)

  before_added : (ps : List Part) (p : Part) (r : Read (List Part)) → before ps (after_read r (λ qs rest. got (p ∷ qs) rest)) ≡ before (ps ++ p ∷ []) r
  before_added ps p (got qs rest) = ap (λ z. got z rest) (sym (append_assoc ps (p ∷ []) qs))
  before_added ps p (stops r) = refl
  before_added ps p (wide r) = refl

  -- as far as a loop over the names has come: those that are left, the place in the text, and the parts
  module _ (names : List (List ℕ)) (text : List ℕ) where
    abbrev pub PartsSoFar : List (List ℕ) → ℕ → List Part → Type 0
    PartsSoFar left at ps = (parts_code sig names).read text ≡ before ps ((parts_code sig left).read (drop at text))

    pub parts_begin : (ps : List Part) → ps ≡ [] → PartsSoFar names 0 ps
    parts_begin ps e = before_none ((parts_code sig names).read text) ∙ ap (λ z. before z ((parts_code sig names).read text)) (sym e)

    module _ (left : List (List ℕ)) (at : ℕ) (ps : List Part) (far : PartsSoFar left at ps) where
      pub parts_end : left ≡ [] → (parts_code sig names).read text ≡ got ps (drop at text)
      parts_end e = far ∙ ap (λ z. before ps ((parts_code sig z).read (drop at text))) e ∙ ap (before ps) (parts_none (drop at text)) ∙ ap (λ z. got z (drop at text)) (append-nil ps)

      module _ (n : List ℕ) (ns : List (List ℕ)) (first : left ≡ n ∷ ns) where
        turned : (r : Read Part) → (part_code sig n).read (drop at text) ≡ r → (parts_code sig names).read text ≡ before ps (after_read r (added ns))
        turned r e = far ∙ ap (λ z. before ps ((parts_code sig z).read (drop at text))) first ∙ ap (before ps) (parts_turn n ns (drop at text) ∙ ap (λ z. after_read z (added ns)) e)

        pub parts_on : (p : Part) (next : ℕ) (qs : List Part) → (part_code sig n).read (drop at text) ≡ got p (drop next text) → qs ≡ ps ++ p ∷ [] → PartsSoFar ns next qs
        parts_on p next qs e q =
            turned (got p (drop next text)) e
            ∙ before_added ps p ((parts_code sig ns).read (drop next text))
            ∙ ap (λ z. before z ((parts_code sig ns).read (drop next text))) (sym q)

        pub parts_fail : (f : Fault) → FaultIs text f ((part_code sig n).read (drop at text)) → FaultIs text f ((parts_code sig names).read text)
        parts_fail (At p) e = turned (stops (drop p text)) e
        parts_fail (WideNumber p) e = turned (wide (drop p text)) e
        parts_fail Memory e = tt

-- ---- places
-- no bytes stand anywhere
pub nothing_fixed : (w bytes : List ℕ) → w ≡ [] → fixed_read w bytes ≡ got tt bytes
nothing_fixed w bytes e = ap (λ z. fixed_read z bytes) e

pub within_whole : (text : List ℕ) (at : ℕ) (f : Fault) → at ≤ length text → FaultWithin text at f → FaultWithin text 0 f
within_whole text at (At p) l w = λ z. w l
within_whole text at (WideNumber p) l w = tt
within_whole text at Memory l w = tt
