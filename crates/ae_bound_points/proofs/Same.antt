-- Sets that have the same forms with names have the same points, and the same steps that leave the limits.
use Rattle.std.specs.Prelude.{ℕ, ◌⊎◌, Option}
use Rattle.std.proofs.Common.{inl, inr}
use Rattle.ae_math.specs.Fractions.{ℚ}
use Rattle.ae_math.specs.Forms.{Form}
use Rattle.ae_num.specs.declared.forms.Lin.{Lin}
use Rattle.ae_num.specs.Forms.{meaning}
use Rattle.ae_rows.specs.Rows.{IsLower, IsUpper, LowerBound, UpperBound, IsGreatest, IsLeast, IsChoice, IsPoint}
use Rattle.ae_rows.specs.Rows.IsChoice.{free, above, beneath, between}
use Rattle.ae_journal.specs.declared.answers.NumStep.{NumStep}
use Rattle.ae_journal.specs.declared.answers.WideAt.{WideAt}
use Rattle.ae_ineq.specs.Widths.{IsBoundStep, IsPointStep, IsPointWide}
use Rattle.ae_ineq.specs.Widths.IsBoundStep.{compare, add, halve, above as step_above, beneath as step_beneath}
use Rattle.ae_ineq.specs.Widths.IsPointStep.{of_row, of_bounds}

-- ---- sets of the same numbers
greatest_same : (L K : ℚ → Type 0) → ((x : ℚ) → L x → K x) → ((x : ℚ) → K x → L x) → (x : ℚ) → IsGreatest L x → IsGreatest K x
greatest_same L K to back x g = record { one = to x g.one; most = λ y k. g.most y (back y k) }

least_same : (L K : ℚ → Type 0) → ((x : ℚ) → L x → K x) → ((x : ℚ) → K x → L x) → (x : ℚ) → IsLeast L x → IsLeast K x
least_same L K to back x g = record { one = to x g.one; least = λ y k. g.least y (back y k) }

module _ (L K U V : ℚ → Type 0) (lto : (x : ℚ) → L x → K x) (lback : (x : ℚ) → K x → L x) (uto : (x : ℚ) → U x → V x) (uback : (x : ℚ) → V x → U x) where
  choice_same : (v : ℚ) → IsChoice L U v → IsChoice K V v
  choice_same v (free n m e) = free (λ x k. n x (lback x k)) (λ x k. m x (uback x k)) e
  choice_same v (above x g n e) = above x (greatest_same L K lto lback x g) (λ y k. n y (uback y k)) e
  choice_same v (beneath x g n e) = beneath x (least_same U V uto uback x g) (λ y k. n y (lback y k)) e
  choice_same v (between x y g h e) = between x y (greatest_same L K lto lback x g) (least_same U V uto uback y h) e

  step_same : (s : NumStep) (l : Lin) (k : Option ℕ) (r : Lin) → IsBoundStep L U s l k r → IsBoundStep K V s l k r
  step_same _ _ _ _ (compare x y l r (inl (a, b)) p q) = compare x y l r (inl (lto x a, lto y b)) p q
  step_same _ _ _ _ (compare x y l r (inr (a, b)) p q) = compare x y l r (inr (uto x a, uto y b)) p q
  step_same _ _ _ _ (add x y l r a b p q) = add x y l r (lto x a) (uto y b) p q
  step_same _ _ _ _ (halve x y l r g h p q) = halve x y l r (greatest_same L K lto lback x g) (least_same U V uto uback y h) p q
  step_same _ _ _ _ (step_above x l r a p q) = step_above x l r (lto x a) p q
  step_same _ _ _ _ (step_beneath x l r a p q) = step_beneath x l r (uto x a) p q

-- ---- sets of the same forms, but for numbers
abbrev pub IsSomeOf : ℕ → Form ℕ → Type 0
IsSomeOf n f = IsLower n f ⊎ IsUpper n f

module _ (R S : Form ℕ → Type 0) (to : (n : ℕ) (f : Form ℕ) → IsSomeOf n f → R f → S f) (back : (n : ℕ) (f : Form ℕ) → IsSomeOf n f → S f → R f) where
  lower_same : (A B : Form ℕ → Type 0) → ((n : ℕ) (f : Form ℕ) → IsSomeOf n f → A f → B f) → (e : ℕ → ℚ) (n : ℕ) (x : ℚ) → LowerBound A e n x → LowerBound B e n x
  lower_same A B go e n x b = (b.0, go n b.0 (inl b.2) b.1, b.2, b.3)

  upper_same : (A B : Form ℕ → Type 0) → ((n : ℕ) (f : Form ℕ) → IsSomeOf n f → A f → B f) → (e : ℕ → ℚ) (n : ℕ) (x : ℚ) → UpperBound A e n x → UpperBound B e n x
  upper_same A B go e n x b = (b.0, go n b.0 (inr b.2) b.1, b.2, b.3)

  chosen_same : (e : ℕ → ℚ) (n : ℕ) (v : ℚ) → IsChoice (LowerBound R e n) (UpperBound R e n) v → IsChoice (LowerBound S e n) (UpperBound S e n) v
  chosen_same e n v c =
      choice_same (LowerBound R e n) (LowerBound S e n) (UpperBound R e n) (UpperBound S e n) (lower_same R S to e n) (lower_same S R back e n) (upper_same R S to e n) (upper_same S R back e n) v c

  pub point_same : (e : ℕ → ℚ) → IsPoint R e → IsPoint S e
  point_same e p = record { chosen = λ n. chosen_same e n (e n) (p.chosen n) }

  point_step : (e : ℕ → ℚ) (n : ℕ) (s : NumStep) (l : Lin) (k : Option ℕ) (r : Lin) → IsPointStep R e n s l k r → IsPointStep S e n s l k r
  point_step e n _ _ _ _ (of_row row s l k r a b c) = of_row row s l k r (to n (meaning row) b a) b c
  point_step e n _ _ _ _ (of_bounds s l k r b) =
      of_bounds s l k r
      (step_same (LowerBound R e n) (LowerBound S e n) (UpperBound R e n) (UpperBound S e n) (lower_same R S to e n) (lower_same S R back e n) (upper_same R S to e n) (upper_same S R back e n) s l k r b)

  pub wide_same : (w : WideAt) → IsPointWide R w → IsPointWide S w
  wide_same w p = record {
    values = p.values;
    name = p.name;
    chosen = λ k l. chosen_same p.values k (p.values k) (p.chosen k l);
    wide = record { step = point_step p.values p.name w.step w.left w.key w.right p.wide.step; normal = p.wide.normal; wide = p.wide.wide };
  }
