-- Numbered lines as the grammar reads them, line by line.
use Rattle.std.proofs.Common.{ℕ, ◌+◌, ◌≤◌, ◌⊎◌, Bool, true, false, ◌&&◌, ◌||◌, nat_eq, nat_le, List, [], ◌∷◌, ◌≡◌, refl, sym, ap, ◌∙◌, arith}
use mathlib.Core.Logic.{inl, inr}
use Rattle.std.proofs.lemmas.Bool.{eqb-true, eq-eqb}
use Rattle.ae_codes.specs.Codes.{Read, got, stops, wide, Code, both, wide_digits}
use Rattle.ae_codes.specs.Fractions.{lives, passing, passing_by}
use Rattle.ae_codes.specs.Machines.{run}
use Rattle.ae_codes.specs.Numbers.{number, number_step, no_digit, lies}
use Rattle.ae_codes.specs.Plans.{Layers, sends, sequence, fixed, inside, coded, coded_shaped, coded_reads}
use Rattle.ae_codes.specs.Repeats.{Rest, more}
use Rattle.ae_codes.specs.Rising.{top}
use Rattle.ae_codes.specs.Rows.{alone, empty}
use Rattle.ae_formulareader.proofs.FormulaReading.{word_is}
use Rattle.ae_readers.specs.Readers.{after_read, fixed_read, step_read, wide_or}
use Rattle.ae_readers.proofs.Combinators.{after_after, after_same, mapped_is, both_is, one_is, one_none, on_side}
use Rattle.ae_stategrammar.specs.Choices.{if_some, right_of}
use Rattle.ae_prooftext.specs.SortTexts.{blank}
use Rattle.ae_stategrammar.specs.Named as named
use Rattle.ae_stategrammar.specs.Named.{exactly, exact_bound, line, raw_line, line_back, line_begins, rest_begins, numbered_step, room}
use Rattle.ae_stategrammar.specs.Numbered.{numbered, numbered_layers, numbered_to, numbered_from, numbered_back, rest_plan, of_rest, any_shape, sure_end}
use Rattle.ae_statereader.specs.Items.{exact_span, exact_read}
use Rattle.ae_statereader.specs.Lines.{starts}
use Rattle.ae_termreader.proofs.SortReading.{both_then}
use Rattle.ae_valuereader.proofs.FormReading.{number_is}
use Rattle.ae_valuereader.proofs.Spanning.{both_ways, is_between, lies_between, lives_are, same_digits}
use Rattle.ae_valuereader.specs.declared.spans.Span.{Span}
use Rattle.ae_valuereader.specs.Spans.{goes, may_close, span_digits, span_read}

-- ---- the number of a line
one_of : (n m : ℕ) → nat_eq m n ≡ lies n n m
one_of n m = both_ways (nat_eq m n) (lies n n m)
    (λ h. let e = eqb-true m n h in lies_between n n m (omega (arith, e)) (omega (arith, e)))
    (λ h. let l = is_between n n m h in let a = l.0 in let b = l.1 in eq-eqb m n (omega (arith, a, b)))

blank_by : (b c : Bool) → b ≡ (b && true) || (b && c)
blank_by true c = refl
blank_by false c = refl

exact_digits : (n : ℕ) (l : n ≤ top) (r : List ℕ) → run (number_step (exactly n l)) r no_digit ≡ span_digits (exact_span n) r no_digit
unfolding passing passing_by
exact_digits n l r = same_digits (λ m. nat_eq m n) (lies n n) (lives (λ m. nat_eq m n) (exact_bound n l)) (goes (exact_span n)) (λ m x. blank x) (may_close (exact_span n))
    (one_of n) (λ m. lives_are (λ m. nat_eq m n) (exact_bound n l) n n (omega arith) (one_of n) m) (λ m x. blank_by (nat_eq x 32) (nat_le m top)) r no_digit

exact_is : (n : ℕ) (l : n ≤ top) (r : List ℕ) → (number (exactly n l)).read r ≡ exact_read n r
unfolding exact_read
exact_is n l r = number_is (exactly n l) r ∙ ap (wide_or (wide_digits r) r) (exact_digits n l r)

pub exact_by : (n : ℕ) (s : Span) (bytes : List ℕ) → s ≡ exact_span n → exact_read n bytes ≡ span_read s bytes
unfolding exact_read
exact_by n s bytes e = ap (λ z. span_read z bytes) (sym e)

-- ---- a line: a word, its number, and what it says
same_after : {X : Type 0} (r : Read X) → after_read r (λ x rest. got x rest) ≡ r
same_after (got x rest) = refl
same_after (stops r) = refl
same_after (wide r) = refl

pub word_then : {C : Type 0} (w bytes : List ℕ) (F : Unit {0} → List ℕ → Read C) → after_read ((alone {A = Unit {0}} tt w).read bytes) F ≡ after_read (fixed_read w bytes) F
word_then w bytes F = ap (λ r. after_read r F) (word_is w bytes)

module _ {X : Type 0} (word : List ℕ) (c : Code X) where
  abbrev pub line_read : ℕ → List ℕ → Read X
  line_read n bytes = after_read (fixed_read word bytes) (λ u r. after_read (exact_read n r) (λ k q. c.read q))

  line_is : (n : ℕ) (l : n ≤ top) (bytes : List ℕ) → (line word c n l).read bytes ≡ line_read n bytes
  unfolding line
  line_is n l bytes =
      mapped_is (λ v. v.1.1) (λ x. (tt, ((n, 32), x))) (raw_line word c n l) (line_back word c n l) bytes
      ∙ both_then (alone {A = Unit {0}} tt word) (λ u. both (number (exactly n l)) (λ v. c)) bytes (λ v rest. got v.1.1 rest)
      ∙ word_then word bytes (λ u r. after_read ((both (number (exactly n l)) (λ v. c)).read r) (λ v rest. got v.1 rest))
      ∙ after_same (fixed_read word bytes) _ _ (λ u r.
      both_then (number (exactly n l)) (λ v. c) r (λ v rest. got v.1 rest)
      ∙ ap (λ z. after_read z (λ k q. after_read (c.read q) (λ x rest. got x rest))) (exact_is n l r)
      ∙ after_same (exact_read n r) _ _ (λ k q. same_after (c.read q)))

-- ---- one line after another
module _ {A B : Type 0} (step : ℕ → Code (A ⊎ B)) (b0 : B) (fits0 : (n : ℕ) → (step n).Fits (inr b0)) (P : ℕ → Type 0)
    (first : (n : ℕ) (x : A ⊎ B) → (step n).Fits x → (y : ℕ) × (ys : List ℕ) × ((step n).text x ≡ y ∷ ys) × P y) where
  abbrev All : Type 0
  All = (xs : List A) × B

  abbrev lines : ℕ → Code All
  lines = numbered step b0 fits0 P first

  abbrev shapes : (n : ℕ) → All → List ℕ → Type 0
  shapes = any_shape step b0 fits0 P first

  abbrev sure : (n : ℕ) → All
  sure = sure_end step b0 fits0 P first

  abbrev layers : Layers {T = λ n. All} shapes sure
  layers = numbered_layers step b0 fits0 P first

  abbrev with_rest : A ⊎ B → Rest All → List ℕ → Read ((x : A ⊎ B) × Rest All)
  with_rest x v end = got (x, v) end

  abbrev as_lines : ((x : A ⊎ B) × Rest All) → List ℕ → Read All
  as_lines v end = got (numbered_to step b0 fits0 P first v) end

  abbrev rest_codes : ℕ → (x : A ⊎ B) → Code (Rest All)
  rest_codes n x = (rest_plan step b0 fits0 P first n x).make (coded {T = λ n. All} shapes sure layers) (coded_shaped {T = λ n. All} shapes sure layers)

  more_lines : (n : ℕ) (a : A) (r : Read All) → after_read (after_read (after_read r (λ v end. got (more v) end)) (with_rest (inl a))) as_lines ≡ after_read r (λ v end. got (a ∷ v.0, v.1) end)
  more_lines n a (got v rest) = refl
  more_lines n a (stops r) = refl
  more_lines n a (wide r) = refl

  rest_by : (n : ℕ) (x : A ⊎ B) (rest : List ℕ) → after_read (after_read ((rest_codes n x).read rest) (with_rest x)) as_lines ≡ step_read x ((lines (n + 1)).read rest) rest
  unfolding rest_plan sends inside fixed empty numbered
  rest_by n (inl a) rest = ap (λ r. after_read (after_read r (with_rest (inl a))) as_lines) (mapped_is more (of_rest step b0 fits0 P first) (lines (n + 1)) (λ v f. refl) rest) ∙ more_lines n a ((lines (n + 1)).read rest)
  rest_by n (inr b) rest = refl

  lines_by : (n : ℕ) (r : Read (A ⊎ B)) → after_read (after_read r (λ x rest. after_read ((rest_codes n x).read rest) (with_rest x))) as_lines ≡ after_read r (λ x rest. step_read x ((lines (n + 1)).read rest) rest)
  lines_by n (got x rest) = rest_by n x rest
  lines_by n (stops r) = refl
  lines_by n (wide r) = refl

  pub numbered_turn : (n : ℕ) (bytes : List ℕ) → (lines n).read bytes ≡ after_read ((step n).read bytes) (λ x rest. step_read x ((lines (n + 1)).read rest) rest)
  unfolding numbered sends sequence fixed
  numbered_turn n bytes =
      let inner = coded_shaped {T = λ n. All} shapes sure layers in
      coded_reads {T = λ n. All} shapes sure layers n bytes
      ∙ mapped_is (numbered_to step b0 fits0 P first) (numbered_from step b0 fits0 P first) (both (step n) (rest_codes n)) (numbered_back step b0 fits0 P first n lines inner) bytes
      ∙ ap (λ r. after_read r as_lines) (both_is (step n) (rest_codes n) bytes)
      ∙ lines_by n ((step n).read bytes)

-- ---- lines of names or values, and what stands behind them
module _ {X B : Type 0} (x : ℕ) (xs : List ℕ) (c : Code X) (rest : Code B) (P : ℕ → Type 0) (here : P x)
    (behind : (b : B) → rest.Fits b → (y : ℕ) × (ys : List ℕ) × (rest.text b ≡ y ∷ ys) × (nat_eq y x ≡ false) × P y) where
  abbrev is_first : ℕ → Bool
  is_first y = nat_eq y x

  abbrev at_line : (n : ℕ) → n ≤ top → Code X
  at_line n = line (x ∷ xs) c n

  abbrev pub from_line : ℕ → List ℕ → Read ((vs : List X) × B)
  from_line n bytes = (numbered (numbered_step x xs c rest P here behind) rest.some.0 (named.rest_fits x xs c rest P here behind) P (named.step_first x xs c rest P here behind) n).read bytes

  line_step : (n : ℕ) (d : Dec (n ≤ top)) (y : ℕ) (ys : List ℕ) → n ≤ top → nat_eq y x ≡ true
      → (if_some is_first (at_line n) rest (line_begins (x ∷ xs) c x xs refl n) (rest_begins x xs c rest P here behind) d).read (y ∷ ys) ≡ after_read (line_read (x ∷ xs) c n (y ∷ ys)) (λ a r. got (inl a) r)
  unfolding if_some
  line_step n (yes s) y ys l e =
      one_is is_first (at_line n s) rest (line_begins (x ∷ xs) c x xs refl n s) (rest_begins x xs c rest P here behind) y ys
      ∙ ap (λ b. on_side b ((at_line n s).read (y ∷ ys)) (rest.read (y ∷ ys))) e
      ∙ ap (λ z. after_read z (λ a r. got (inl a) r)) (line_is (x ∷ xs) c n s (y ∷ ys))
  line_step n (no m) y ys l e = absurd (m l)

  rest_step : (n : ℕ) (d : Dec (n ≤ top)) (y : ℕ) (ys : List ℕ) → nat_eq y x ≡ false
      → (if_some is_first (at_line n) rest (line_begins (x ∷ xs) c x xs refl n) (rest_begins x xs c rest P here behind) d).read (y ∷ ys) ≡ after_read (rest.read (y ∷ ys)) (λ b r. got (inr b) r)
  unfolding if_some
  rest_step n (yes s) y ys e =
      one_is is_first (at_line n s) rest (line_begins (x ∷ xs) c x xs refl n s) (rest_begins x xs c rest P here behind) y ys
      ∙ ap (λ b. on_side b ((at_line n s).read (y ∷ ys)) (rest.read (y ∷ ys))) e
  rest_step n (no m) y ys e = mapped_is inr (right_of is_first (at_line n) rest (line_begins (x ∷ xs) c x xs refl n) (rest_begins x xs c rest P here behind)) rest (λ b f. refl) (y ∷ ys)

  none_step : (n : ℕ) (d : Dec (n ≤ top)) → rest.read [] ≡ stops []
      → (if_some is_first (at_line n) rest (line_begins (x ∷ xs) c x xs refl n) (rest_begins x xs c rest P here behind) d).read [] ≡ stops []
  unfolding if_some
  none_step n (yes s) e = one_none is_first (at_line n s) rest (line_begins (x ∷ xs) c x xs refl n s) (rest_begins x xs c rest P here behind)
  none_step n (no m) e =
      mapped_is inr (right_of is_first (at_line n) rest (line_begins (x ∷ xs) c x xs refl n) (rest_begins x xs c rest P here behind)) rest (λ b f. refl) [] ∙ ap (λ z. after_read z (λ b rest. got (inr b) rest)) e

  turn : (n : ℕ) (bytes : List ℕ) → from_line n bytes ≡ after_read ((numbered_step x xs c rest P here behind n).read bytes) (λ z r. step_read z (from_line (n + 1) r) r)
  turn n bytes = numbered_turn (numbered_step x xs c rest P here behind) rest.some.0 (named.rest_fits x xs c rest P here behind) P (named.step_first x xs c rest P here behind) n bytes

  no_line : (y : ℕ) → starts x [] ≡ true → ⊥
  no_line y e = cc

  pub numbered_on : (n : ℕ) (bytes : List ℕ) → n ≤ top → starts x bytes ≡ true → from_line n bytes ≡ after_read (line_read (x ∷ xs) c n bytes) (λ a m. after_read (from_line (n + 1) m) (λ v e. got (a ∷ v.0, v.1) e))
  numbered_on n [] l e = absurd (no_line 0 e)
  numbered_on n (y ∷ ys) l e =
      turn n (y ∷ ys)
      ∙ ap (λ r. after_read r (λ z r. step_read z (from_line (n + 1) r) r)) (line_step n (room n) y ys l e)
      ∙ after_after (line_read (x ∷ xs) c n (y ∷ ys)) (λ a r. got (inl a) r) (λ z r. step_read z (from_line (n + 1) r) r)

  pub numbered_off : rest.read [] ≡ stops [] → (n : ℕ) (bytes : List ℕ) → starts x bytes ≡ false → from_line n bytes ≡ after_read (rest.read bytes) (λ b e. got ([], b) e)
  numbered_off none n [] e =
      turn n []
      ∙ ap (λ r. after_read r (λ z r. step_read z (from_line (n + 1) r) r)) (none_step n (room n) none)
      ∙ ap (λ r. after_read r (λ b e. got ([], b) e)) (sym none)
  numbered_off none n (y ∷ ys) e =
      turn n (y ∷ ys)
      ∙ ap (λ r. after_read r (λ z r. step_read z (from_line (n + 1) r) r)) (rest_step n (room n) y ys e)
      ∙ after_after (rest.read (y ∷ ys)) (λ b r. got (inr b) r) (λ z r. step_read z (from_line (n + 1) r) r)

  pub numbered_none : rest.read [] ≡ stops [] → (named.lines x xs c rest P here behind).read [] ≡ stops []
  unfolding named.lines
  numbered_none none = turn 0 [] ∙ ap (λ r. after_read r (λ z r. step_read z (from_line 1 r) r)) (none_step 0 (room 0) none)

  pub lines_are : (bytes : List ℕ) → (named.lines x xs c rest P here behind).read bytes ≡ from_line 0 bytes
  unfolding named.lines
  lines_are bytes = refl
