-- The lines of names, numbered in order: `name N TERM`.
use Rattle.std.specs.Prelude.{ℕ, ◌≤◌, ◌⊎◌, ◌^◌, ◌+◌, Bool, true, false, IsTrue, nat_eq, nat_le, List, [], ◌∷◌, ◌++◌, ◌≡◌, length, decimal}
use mathlib.Core.Path.{refl, sym, ap, ◌∙◌}
use mathlib.Core.Logic.{inl, inr}
use native.Mathlib.Omega.{arith}
use Rattle.std.specs.List.{AllByRecursion}
use Rattle.std.proofs.lemmas.Bool.{ne_eqb, eqb-true, eq-eqb, leb-true, le-leb}
use Rattle.ae_codes.specs.Codes.{Code, Begins, both, mapped, words, is_digit, limit}
use Rattle.ae_codes.specs.Fractions.{passing, passing_by}
use Rattle.ae_codes.specs.Machines.{checked, machine}
use Rattle.ae_codes.specs.Numbers.{Closed, Numbers, number, number_machine, digit_low}
use Rattle.ae_codes.specs.Rising.{top}
use Rattle.ae_codes.specs.Rows.{alone}
use Rattle.ae_prooftext.specs.SortTexts.{blank}
use Rattle.ae_stategrammar.specs.Choices.{if_some, left_fits, right_fits, fits_left, fits_right}
use Rattle.ae_stategrammar.specs.Numbered.{EachStep, numbered, numbered_first, numbered_fits, numbered_spelled, numbered_texts}

-- ---- one number, and a blank
pub blank_apart : (x : ℕ) → is_digit x ≡ true → blank x ≡ false
blank_apart x d = let l = digit_low x d in ne_eqb x 32 (λ e. omega arith)

pub exact_bound : (n : ℕ) → n ≤ top → (m : ℕ) → IsTrue (nat_eq m n) → m ≤ limit
exact_bound n l m h = let e = eqb-true m n h in omega (arith, e, l)

abbrev pub exactly : (n : ℕ) → n ≤ top → Numbers
exactly n l = passing (λ m. nat_eq m n) (exact_bound n l) blank blank_apart (n, eq-eqb n n refl) (32, refl)

pub exactly_is : (n : ℕ) (l : n ≤ top) (v : Closed) → (number (exactly n l)).Fits v → v ≡ (n, 32)
unfolding number checked machine number_machine passing passing_by
exactly_is n l v f = let a = eqb-true v.0 n f.0 in let b = eqb-true v.1 32 f.1 in λ i. (a i, b i)

pub exactly_fits : (n : ℕ) (l : n ≤ top) → (number (exactly n l)).Fits (n, 32)
unfolding number checked machine number_machine passing passing_by
exactly_fits n l = (eq-eqb n n refl, refl)

pub exactly_spelled : (n : ℕ) (l : n ≤ top) → (number (exactly n l)).text (n, 32) ≡ decimal n ++ 32 ∷ []
unfolding number checked machine number_machine
exactly_spelled n l = refl

pub has_room : (b : Bool) (n : ℕ) → nat_le n top ≡ b → Dec (n ≤ top)
has_room true n e = yes (leb-true n top e)
has_room false n e = no (λ l. let t = le-leb n top l in absurd cc)

-- whether a number has 64 bits
unfoldable pub room : (n : ℕ) → Dec (n ≤ top)
room n = has_room (nat_le n top) n refl

-- ---- a word, the number of a line, and what the line says, of which `c` is the code with the end of the line
module _ {X : Type 0} (word : List ℕ) (c : Code X) where
  abbrev pub RawLine : Type 0
  RawLine = (u : Unit {0}) × ((v : Closed) × X)

  abbrev pub raw_line : (n : ℕ) → n ≤ top → Code RawLine
  raw_line n l = both (alone {A = Unit {0}} tt word) (λ u. both (number (exactly n l)) (λ v. c))

  pub line_back : (n : ℕ) (l : n ≤ top) (v : RawLine) → (raw_line n l).Fits v → (tt, ((n, 32), v.1.1)) ≡ v
  unfolding both
  line_back n l v f = let e = exactly_is n l v.1.0 f.1.0 in λ i. (tt, (sym e i, v.1.1))

  unfoldable pub line : (n : ℕ) → n ≤ top → Code X
  line n l = mapped (λ v. v.1.1) (λ x. (tt, ((n, 32), x))) (raw_line n l) (line_back n l)

  pub line_fits : (n : ℕ) (l : n ≤ top) (x : X) → (line n l).Fits x → c.Fits x
  unfolding line mapped both
  line_fits n l x f = f.0.1.1

  pub fits_line : (n : ℕ) (l : n ≤ top) (x : X) → c.Fits x → (line n l).Fits x
  unfolding line mapped both alone words
  fits_line n l x f = ((refl, (exactly_fits n l, f)), refl)

  pub line_spelled : (n : ℕ) (l : n ≤ top) (x : X) → (line n l).text x ≡ word ++ ((decimal n ++ 32 ∷ []) ++ c.text x)
  unfolding line mapped both alone words
  line_spelled n l x = ap (λ z. word ++ (z ++ c.text x)) (exactly_spelled n l)

  module _ (x : ℕ) (xs : List ℕ) (is : word ≡ x ∷ xs) where
    pub line_begins : (n : ℕ) (l : n ≤ top) → Begins (line n l) (λ y. nat_eq y x) true
    unfolding line mapped both alone words
    line_begins n l v f = (x, xs ++ ((number (exactly n l)).text (n, 32) ++ c.text v), ap (λ z. z ++ ((number (exactly n l)).text (n, 32) ++ c.text v)) is, eq-eqb x x refl)

-- ---- lines, and what comes behind them, which begins with another byte
module _ {X B : Type 0} (x : ℕ) (xs : List ℕ) (c : Code X) (rest : Code B) (P : ℕ → Type 0) (here : P x) (behind : (b : B) → rest.Fits b → (y : ℕ) × (ys : List ℕ) × (rest.text b ≡ y ∷ ys) × (nat_eq y x ≡ false) × P y) where
  abbrev word : List ℕ
  word = x ∷ xs

  pub rest_begins : Begins rest (λ y. nat_eq y x) false
  rest_begins b f = let w = behind b f in (w.0, w.1, w.2, w.3)

  abbrev pub numbered_step : ℕ → Code (X ⊎ B)
  numbered_step n = if_some (λ y. nat_eq y x) (line (x ∷ xs) c n) rest (line_begins (x ∷ xs) c x xs refl n) rest_begins (room n)

  pub rest_fits : (n : ℕ) → (numbered_step n).Fits (inr rest.some.0)
  rest_fits n = fits_right (λ y. nat_eq y x) (line (x ∷ xs) c n) rest (line_begins (x ∷ xs) c x xs refl n) rest_begins (room n) rest.some.0 rest.some.1

  pub step_first : (n : ℕ) (v : X ⊎ B) → (numbered_step n).Fits v → (y : ℕ) × (ys : List ℕ) × ((numbered_step n).text v ≡ y ∷ ys) × P y
  unfolding line mapped both alone words
  step_first n (inl a) f = let l = left_fits (λ y. nat_eq y x) (line (x ∷ xs) c n) rest (line_begins (x ∷ xs) c x xs refl n) rest_begins (room n) a f in
      (x, xs ++ ((number (exactly n l.0)).text (n, 32) ++ c.text a), l.2, here)
  step_first n (inr b) f = let r = right_fits (λ y. nat_eq y x) (line (x ∷ xs) c n) rest (line_begins (x ∷ xs) c x xs refl n) rest_begins (room n) b f in
      let w = behind b r.0 in (w.0, w.1, r.1 ∙ w.2, w.4)

  -- lines from number 0 on
  unfoldable pub lines : Code ((vs : List X) × B)
  lines = numbered numbered_step rest.some.0 rest_fits P step_first 0

  pub lines_first : (v : (vs : List X) × B) → lines.Fits v → (y : ℕ) × (ys : List ℕ) × (lines.text v ≡ y ∷ ys) × P y
  unfolding lines
  lines_first v f = numbered_first numbered_step rest.some.0 rest_fits P step_first 0 v f

  steps_fit : (n : ℕ) (vs : List X) (b : B) → AllByRecursion (λ a. c.Fits a) vs → n + length vs ≤ 2 ^ 64 → rest.Fits b → EachStep numbered_step rest.some.0 rest_fits P step_first n vs b
  steps_fit n [] b a l f = fits_right (λ y. nat_eq y x) (line (x ∷ xs) c n) rest (line_begins (x ∷ xs) c x xs refl n) rest_begins (room n) b f
  steps_fit n (v ∷ vs) b a l f = (
    fits_left (λ y. nat_eq y x) (line (x ∷ xs) c n) rest (line_begins (x ∷ xs) c x xs refl n) rest_begins (room n) v (omega (arith, l)) (λ s. fits_line (x ∷ xs) c n s v a.0),
    steps_fit (n + 1) vs b a.1 (omega (arith, l)) f,
  )

  -- lines of which each has a text, as many as there are numbers of 64 bits
  pub lines_fit : (vs : List X) (b : B) → AllByRecursion (λ a. c.Fits a) vs → length vs ≤ 2 ^ 64 → rest.Fits b → lines.Fits (vs, b)
  unfolding lines
  lines_fit vs b a l f = numbered_fits numbered_step rest.some.0 rest_fits P step_first 0 vs b (steps_fit 0 vs b a (omega (arith, l)) f)

  module _ (t : ℕ → X → List ℕ) (u : B → List ℕ) (one_law : (n : ℕ) (a : X) → c.Fits a → (x ∷ xs) ++ ((decimal n ++ 32 ∷ []) ++ c.text a) ≡ t n a) (last_law : (b : B) → rest.Fits b → rest.text b ≡ u b) where
    one_spelled : (n : ℕ) (a : X) → (numbered_step n).Fits (inl a) → (numbered_step n).text (inl a) ≡ t n a
    one_spelled n a f =
        let l = left_fits (λ y. nat_eq y x) (line (x ∷ xs) c n) rest (line_begins (x ∷ xs) c x xs refl n) rest_begins (room n) a f in
        l.2 ∙ line_spelled (x ∷ xs) c n l.0 a ∙ one_law n a (line_fits (x ∷ xs) c n l.0 a l.1)

    last_spelled : (n : ℕ) (b : B) → (numbered_step n).Fits (inr b) → (numbered_step n).text (inr b) ≡ u b
    last_spelled n b f =
        let r = right_fits (λ y. nat_eq y x) (line (x ∷ xs) c n) rest (line_begins (x ∷ xs) c x xs refl n) rest_begins (room n) b f in
        r.1 ∙ last_law b r.0

    pub lines_spelled : (vs : List X) (b : B) → lines.Fits (vs, b) → lines.text (vs, b) ≡ numbered_texts t 0 vs ++ u b
    unfolding lines
    lines_spelled vs b f = numbered_spelled numbered_step rest.some.0 rest_fits P step_first t u one_spelled last_spelled 0 vs b f
