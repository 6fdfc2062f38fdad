-- Lines that are numbered from a number on, and what comes behind them: the line of each number has a code of its own.
use Rattle.std.specs.Prelude.{ℕ, suc, ◌+◌, ◌≤◌, ◌⊎◌, List, [], ◌∷◌, ◌++◌, ◌≡◌, length}
use mathlib.Core.Path.{refl, sym, ap, ◌∙◌}
use mathlib.Core.Logic.{inl, inr}
use mathlib.Core.List.{append-nil, append_assoc}
use native.Mathlib.Omega.{arith}
use Rattle.ae_codes.specs.Codes.{Code, both, mapped}
use Rattle.ae_codes.specs.Nested.{Shaped}
use Rattle.ae_codes.specs.Repeats.{Rest, more, none}
use Rattle.ae_codes.specs.Rows.{empty}
use Rattle.ae_codes.specs.Plans.{Inner, Plan, Tight, Layers, fixed, fixed_tight, inside, sequence, sequence_tight, sends, sends_tight, coded, coded_shaped, coded_text, fits_coded, coded_fits}

-- the texts of values that are numbered from n on
abbrev pub numbered_texts : {A : Type 0} → (ℕ → A → List ℕ) → ℕ → List A → List ℕ
numbered_texts t n [] = []
numbered_texts t n (a ∷ xs) = t n a ++ numbered_texts t (n + 1) xs

module _ {A B : Type 0} (step : ℕ → Code (A ⊎ B)) (b0 : B) (fits0 : (n : ℕ) → (step n).Fits (inr b0)) (P : ℕ → Type 0) (first : (n : ℕ) (x : A ⊎ B) → (step n).Fits x → (y : ℕ) × (ys : List ℕ) × ((step n).text x ≡ y ∷ ys) × P y) where
  abbrev pub Numbered : Type 0
  Numbered = (xs : List A) × B

  abbrev pub any_shape : (n : ℕ) → Numbered → List ℕ → Type 0
  any_shape n v w = (y : ℕ) × (ys : List ℕ) × (w ≡ y ∷ ys) × P y

  abbrev pub sure_end : (n : ℕ) → Numbered
  sure_end n = ([], b0)

  abbrev pub NumberedPlan : Type 0 → Type 1
  NumberedPlan = Plan {T = λ n. Numbered} any_shape sure_end

  abbrev pub NumberedCodes : Type 1
  NumberedCodes = (n : ℕ) → Code Numbered

  abbrev pub NumberedInner : NumberedCodes → Type 0
  NumberedInner = Inner {T = λ n. Numbered} any_shape sure_end

  abbrev pub of_rest : Rest Numbered → Numbered
  of_rest (more v) = v
  of_rest none = ([], b0)

  unfoldable pub rest_plan : ℕ → A ⊎ B → NumberedPlan (Rest Numbered)
  rest_plan n (inl a) = sends {T = λ n. Numbered} any_shape sure_end more of_rest (inside {T = λ n. Numbered} any_shape sure_end (n + 1)) (λ c h v f. refl)
  rest_plan n (inr b) = fixed {T = λ n. Numbered} any_shape sure_end (empty none)

  abbrev pub Raw : Type 0
  Raw = (x : A ⊎ B) × Rest Numbered

  abbrev pub numbered_to : Raw → Numbered
  numbered_to (inl a, more v) = (a ∷ v.0, v.1)
  numbered_to (inl a, none) = ([], b0)
  numbered_to (inr b, r) = ([], b)

  abbrev pub from_parts : List A → B → Raw
  from_parts [] b = (inr b, none)
  from_parts (a ∷ xs) b = (inl a, more (xs, b))

  abbrev pub numbered_from : Numbered → Raw
  numbered_from v = from_parts v.0 v.1

  abbrev pub step_plan : ℕ → NumberedPlan (A ⊎ B)
  step_plan n = fixed {T = λ n. Numbered} any_shape sure_end (step n)

  abbrev pub raw : ℕ → NumberedPlan Raw
  raw n = sequence {T = λ n. Numbered} any_shape sure_end (step_plan n) (rest_plan n)

  more_none : (v : Numbered) → more v ≡ none → ⊥
  more_none v e = cc

  pub numbered_back : (n : ℕ) (c : NumberedCodes) (h : NumberedInner c) (v : Raw) → ((raw n).make c h).Fits v → numbered_from (numbered_to v) ≡ v
  unfolding sequence both fixed rest_plan sends mapped empty
  numbered_back n c h (inl a, more v) f = refl
  numbered_back n c h (inl a, none) f = absurd (more_none ([], b0) (f.1.1))
  numbered_back n c h (inr b, more v) f = absurd (more_none v f.1)
  numbered_back n c h (inr b, none) f = refl

  abbrev pub numbered_plan : ℕ → NumberedPlan Numbered
  numbered_plan n = sends {T = λ n. Numbered} any_shape sure_end numbered_to numbered_from (raw n) (numbered_back n)

  step_long : (n : ℕ) (c : NumberedCodes) (h : NumberedInner c) (x : A ⊎ B) → ((step_plan n).make c h).Fits x → 1 ≤ length (((step_plan n).make c h).text x)
  unfolding fixed
  step_long n c h x f = let w = first n x f in let l : length ((step n).text x) ≡ suc (length w.1) = ap length w.2 in omega arith

  pub numbered_tight : (n : ℕ) → Tight {T = λ n. Numbered} any_shape sure_end (numbered_plan n)
  numbered_tight n = sends_tight {T = λ n. Numbered} any_shape sure_end numbered_to numbered_from (raw n) (numbered_back n)
      (sequence_tight {T = λ n. Numbered} any_shape sure_end (step_plan n) (rest_plan n) (fixed_tight {T = λ n. Numbered} any_shape sure_end (step n)) (step_long n))

  -- the text of each, and that of the last
  abbrev pub numbered_text : ℕ → List A → B → List ℕ
  numbered_text n [] b = (step n).text (inr b)
  numbered_text n (a ∷ xs) b = (step n).text (inl a) ++ numbered_text (n + 1) xs b

  abbrev pub all_texts : (n : ℕ) → Numbered → List ℕ
  all_texts n v = numbered_text n v.0 v.1

  parts_spelled : (n : ℕ) (xs : List A) (b : B) → (raw n).spell all_texts (from_parts xs b) ≡ numbered_text n xs b
  unfolding sequence fixed rest_plan sends inside empty
  parts_spelled n [] b = append-nil ((step n).text (inr b))
  parts_spelled n (a ∷ xs) b = refl

  pub numbered_equation : (n : ℕ) (v : Numbered) → (numbered_plan n).spell all_texts v ≡ numbered_text n v.0 v.1
  unfolding sends
  numbered_equation n v = parts_spelled n v.0 v.1

  raw_first : (n : ℕ) (c : NumberedCodes) (h : NumberedInner c) (v : Raw) → ((raw n).make c h).Fits v → (y : ℕ) × (ys : List ℕ) × (((raw n).make c h).text v ≡ y ∷ ys) × P y
  unfolding sequence both fixed
  raw_first n c h v f = let w = first n v.0 f.0 in (w.0, w.1 ++ ((rest_plan n v.0).make c h).text v.1, ap (λ z. z ++ ((rest_plan n v.0).make c h).text v.1) w.2, w.3)

  pub numbered_shaped : (c : NumberedCodes) (h : NumberedInner c) (n : ℕ) → Shaped (any_shape n) (sure_end n) ((numbered_plan n).make c h)
  unfolding sends mapped sequence both fixed rest_plan empty
  numbered_shaped c h n = record { form = λ v f. raw_first n c h (numbered_from v) f.0; has = ((fits0 n, refl), refl) }

  abbrev pub numbered_layers : Layers {T = λ n. Numbered} any_shape sure_end
  numbered_layers = record {
    plan = numbered_plan;
    tight = numbered_tight;
    shaped = numbered_shaped;
    text = all_texts;
    equation = λ c h n v f. numbered_equation n v;
    sure_shape = λ n. first n (inr b0) (fits0 n);
  }

  -- those from number n on
  unfoldable pub numbered : ℕ → Code Numbered
  numbered = coded {T = λ n. Numbered} any_shape sure_end numbered_layers

  pub numbered_first : (n : ℕ) (v : Numbered) → (numbered n).Fits v → (y : ℕ) × (ys : List ℕ) × ((numbered n).text v ≡ y ∷ ys) × P y
  unfolding numbered
  numbered_first n v f = (coded_shaped {T = λ n. Numbered} any_shape sure_end numbered_layers n).form v f

  pub no_lines_fit : (n : ℕ) → (numbered n).Fits ([], b0)
  unfolding numbered
  no_lines_fit n = (coded_shaped {T = λ n. Numbered} any_shape sure_end numbered_layers n).has

  numbered_is : (n : ℕ) (v : Numbered) → (numbered n).text v ≡ numbered_text n v.0 v.1
  unfolding numbered
  numbered_is n v = coded_text {T = λ n. Numbered} any_shape sure_end numbered_layers n v

  abbrev pub EachStep : ℕ → List A → B → Type 0
  EachStep n [] b = (step n).Fits (inr b)
  EachStep n (a ∷ xs) b = (step n).Fits (inl a) × EachStep (n + 1) xs b

  numbered_each : (n : ℕ) (xs : List A) (b : B) → (numbered n).Fits (xs, b) → EachStep n xs b
  unfolding numbered sends mapped sequence both fixed rest_plan inside
  numbered_each n [] b f = (fits_coded {T = λ n. Numbered} any_shape sure_end numbered_layers n ([], b) f).0.0
  numbered_each n (a ∷ xs) b f = let g = fits_coded {T = λ n. Numbered} any_shape sure_end numbered_layers n (a ∷ xs, b) f in (g.0.0, numbered_each (n + 1) xs b g.0.1.0)

  pub numbered_fits : (n : ℕ) (xs : List A) (b : B) → EachStep n xs b → (numbered n).Fits (xs, b)
  unfolding numbered sends mapped sequence both fixed rest_plan inside empty
  numbered_fits n [] b f = coded_fits {T = λ n. Numbered} any_shape sure_end numbered_layers n ([], b) ((f, refl), refl)
  numbered_fits n (a ∷ xs) b f = coded_fits {T = λ n. Numbered} any_shape sure_end numbered_layers n (a ∷ xs, b) ((f.0, (numbered_fits (n + 1) xs b f.1, refl)), refl)

  -- the text of all, where that of each is known
  module _ (t : ℕ → A → List ℕ) (u : B → List ℕ) (one_law : (n : ℕ) (a : A) → (step n).Fits (inl a) → (step n).text (inl a) ≡ t n a) (last_law : (n : ℕ) (b : B) → (step n).Fits (inr b) → (step n).text (inr b) ≡ u b) where
    each_spelled : (n : ℕ) (xs : List A) (b : B) → EachStep n xs b → numbered_text n xs b ≡ numbered_texts t n xs ++ u b
    each_spelled n [] b f = last_law n b f
    each_spelled n (a ∷ xs) b f =
        ap (λ z. z ++ numbered_text (n + 1) xs b) (one_law n a f.0)
        ∙ ap (λ z. t n a ++ z) (each_spelled (n + 1) xs b f.1)
        ∙ sym (append_assoc (t n a) (numbered_texts t (n + 1) xs) (u b))

    pub numbered_spelled : (n : ℕ) (xs : List A) (b : B) → (numbered n).Fits (xs, b) → (numbered n).text (xs, b) ≡ numbered_texts t n xs ++ u b
    numbered_spelled n xs b f = numbered_is n (xs, b) ∙ each_spelled n xs b (numbered_each n xs b f)
