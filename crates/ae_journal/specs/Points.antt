-- The making of a point that the rows of a journal allow: names get constants from the smallest up.
use Rattle.std.specs.Prelude.{ℕ, ◌<◌, pos, Bool, true, false, cond, List, ◌≡◌, ◌≢◌}
use Rattle.ae_math.specs.Fractions.{ℚ, zero_ℚ, one_ℚ, ratio, inverse_ℚ, neg_ℚ, ◌+ℚ◌, ◌*ℚ◌, is_positive}
use Rattle.ae_num.specs.declared.forms.Lin.{Lin}
use Rattle.ae_journal.specs.Values.{Sum, leaf_factor, constant_val, sum_in}
use Rattle.ae_journal.specs.TermValues.{put_sum, IsLargest}
use Rattle.ae_journal.specs.Standing.{Setting}
use Rattle.ae_journal.specs.Rows.{IsRow, MayCombine}
use Rattle.ae_journal.specs.declared.lines.Line.{Line}

abbrev pub constant_sum : ℚ → Sum
constant_sum x = sum_in (constant_val x)

-- constants put for some names of a sum
pub data IsPut (constants : ℕ → ℚ) : Sum → Sum → Type 0 where
  as_it_is : (f : Sum) → IsPut constants f f
  one_more : (f h : Sum) (k : ℕ) → IsPut constants f h → IsPut constants f (put_sum k (constant_sum (constants k)) h)

abbrev pub IsAtMost : ℚ → ℚ → Type 0
IsAtMost x z = is_positive (x +ℚ neg_ℚ z) ≡ false

abbrev pub half : ℚ
half = ratio (pos 1) (pos 2)

module _ (x : Setting) (js : List Line) where
  -- no `Combine` line may come any more
  abbrev pub NoneLeft : Type 0
  NoneLeft = (strict : Bool) (f : Lin) → ¬ MayCombine x js strict f

  -- a row whose largest name is n is `factor * n + rest` with constants put for all its other names
  pub record IsRemaining (constants : ℕ → ℚ) (n : ℕ) (factor rest : ℚ) : Type 0 where
    pub strict : Bool
    pub row : Sum
    pub stands : IsRow x js strict row
    pub largest : IsLargest x.names n row
    pub put : Sum
    pub is_put : IsPut constants row put
    pub one : (k : ℕ) → k ≢ n → leaf_factor put.parts k ≡ zero_ℚ
    pub factor_is : leaf_factor put.parts n ≡ factor
    pub rest_is : put.constant ≡ rest

  -- a bound of the name n, from below or from above
  abbrev pub IsBound : (ℕ → ℚ) → Bool → ℕ → ℚ → Type 0
  IsBound constants below n z =
      (factor : ℚ) × (rest : ℚ) × IsRemaining constants n factor rest × (is_positive (cond below factor (neg_ℚ factor)) ≡ true) × (z ≡ neg_ℚ (inverse_ℚ factor) *ℚ rest)

  -- the greatest lower bound, or the least upper one
  abbrev pub IsBest : (ℕ → ℚ) → Bool → ℕ → ℚ → Type 0
  IsBest constants below n z =
      IsBound constants below n z × ((w : ℚ) → IsBound constants below n w → elim below [ true ↦ IsAtMost w z | false ↦ IsAtMost z w ])

  -- the constant of name n: the mean of its best bounds; with lower ones alone the greatest plus 1, with upper ones alone the least minus 1; with none 0
  pub data IsConstantFor (constants : ℕ → ℚ) (n : ℕ) : ℚ → Type 0 where
    mean : (z w : ℚ) → IsBest constants true n z → IsBest constants false n w → IsConstantFor constants n (half *ℚ (z +ℚ w))
    above : (z : ℚ) → IsBest constants true n z → ((w : ℚ) → ¬ IsBound constants false n w) → IsConstantFor constants n (z +ℚ one_ℚ)
    below : (w : ℚ) → ((z : ℚ) → ¬ IsBound constants true n z) → IsBest constants false n w → IsConstantFor constants n (w +ℚ neg_ℚ one_ℚ)
    free : ((b : Bool) (z : ℚ) → ¬ IsBound constants b n z) → IsConstantFor constants n zero_ℚ

  -- no combination is left, and each name below n has its constant
  abbrev pub AreConstants : (ℕ → ℚ) → ℕ → Type 0
  AreConstants constants n = NoneLeft × ((k : ℕ) → k < n → IsConstantFor constants k (constants k))
