-- Rows that were looked at, one after the other.
use Rattle.std.specs.Prelude.{ℕ, ◌+◌, ◌-◌, ◌<◌, ◌≤◌, ◌<ℤ◌, pos, ◌≡◌, ◌⊎◌, Bool, true, false, List, [], ◌∷◌, ◌++◌, Some, length, slice_get}
use Rattle.std.specs.List.{AllByRecursion, Contains}
use Rattle.std.proofs.Common.{arith, refl, sym, ap, ◌∙◌, subst, inr, get_or, length-append}
use Rattle.std.proofs.lemmas.Option.{slice_get-get_or, slice_get_within, get_or_from_slice_get, same_Some}
use native.Mathlib.Decide.{dec_lt}
use Rattle.ae_base.proofs.ListFacts.{get_seam}
use Rattle.ae_num.specs.Forms.{meaning, IsNormal}
use Rattle.ae_journal.proofs.Splits.{all_contained, contains_at}
use Rattle.ae_ineq.specs.Sums.{IsZero, IsRefuted}
use Rattle.ae_bounds.specs.declared.rows.Row.{Row}
use Rattle.ae_bounds.specs.declared.rows.Origin.TheVariants.{Combined}
use Rattle.ae_bounds.specs.Combinations.{HasZero}
use Rattle.ae_bounds.specs.Findings.{IsRefutedAt, IsTightAt, NoneIsRefuted, HasRefuted}
use Rattle.ae_bounds.proofs.Zeros.{zero_form, form_zero, refuted_form, form_refuted}

abbrev CannotBe : Row → Type 0
CannotBe r = (r.lin.parts ≡ []) × ((r.lin.constant <ℤ pos 0) ⊎ ((r.lin.constant ≡ pos 0) × (r.strict ≡ true)))

abbrev IsNothing : Row → Type 0
IsNothing r = (r.lin.parts ≡ []) × (r.lin.constant ≡ pos 0)

-- what doesn't hold of the first n rows
abbrev pub NoneBelow : (Row → Type 0) → ℕ → List Row → Type 0
NoneBelow P n rows = (i : ℕ) (r : Row) → i < n → slice_get rows i ≡ Some r → ¬ P r

abbrev pub Refuted : Row → Type 0
Refuted r = IsRefuted r.strict (meaning r.lin)

abbrev pub Tight : Row → Type 0
Tight r = IsZero (meaning r.lin) × ((lower : ℕ) × (upper : ℕ) × (r.from ≡ Combined lower upper))

pub none_at_first : (P : Row → Type 0) (rows : List Row) → NoneBelow P 0 rows
none_at_first P rows i r l e p = omega (arith, l)

pub none_so_far : (P : Row → Type 0) (n : ℕ) (rows : List Row) (r : Row) → r ≡ get_or rows n r → NoneBelow P n rows → ¬ P r → NoneBelow P (n + 1) rows
none_so_far P n rows r at before here i t l e p =
    elim (dec_lt i n) [
      | yes m ↦ before i t m e p
      | no m ↦ (let s : n ≡ i = omega (arith, l, m) in here (subst P (sym (at ∙ get_or_from_slice_get rows n t r (ap (slice_get rows) s ∙ e))) p))
    ]

pub none_at_all : (P : Row → Type 0) (n : ℕ) (rows : List Row) → length rows ≤ n → NoneBelow P n rows → (r : Row) → Contains rows r → ¬ P r
none_at_all P n rows h none r (i, l, e) p = none i r (omega (arith, h, l)) (slice_get-get_or rows i r l ∙ ap Some e) p

module _ (rows : List Row) (normal : AllByRecursion (λ (r : Row). IsNormal r.lin) rows) (n : ℕ) (r : Row) (l : n < length rows) (at : r ≡ get_or rows n r) where
  form_normal : IsNormal r.lin
  form_normal = all_contained (λ (t : Row). IsNormal t.lin) rows r normal (n, l, sym at)

  place : slice_get rows n ≡ Some r
  place = slice_get-get_or rows n r l ∙ ap Some (sym at)

  pub refuted_here : CannotBe r → IsRefutedAt rows n
  refuted_here h = record { row = r; at = place; refuted = refuted_form r.lin r.strict form_normal h.0 h.1 }

  pub not_refuted : ((r.lin.parts ≡ []) → ((r.lin.constant <ℤ pos 0) ⊎ ((r.lin.constant ≡ pos 0) × (r.strict ≡ true))) → ⊥) → ¬ Refuted r
  not_refuted h f = let g = form_refuted r.lin r.strict form_normal f in h g.0 g.1

  -- a row that is 0 isn't strict where no row can't be
  loose : NoneIsRefuted rows → IsNothing r → (b : Bool) → r.strict ≡ b → b ≡ false
  loose none z false e = refl
  loose none z true e = absurd (none r (n, l, sym at) (refuted_form r.lin r.strict form_normal z.0 (inr (z.1, e))))

  pub tight_here : NoneIsRefuted rows → IsNothing r → ((lower : ℕ) × (upper : ℕ) × (r.from ≡ Combined lower upper)) → IsTightAt rows n
  tight_here none z f = record { row = r; at = place; zero = zero_form r.lin z.0 z.1; loose = loose none z r.strict refl; lower = f.0; upper = f.1; from = f.2 }

  pub not_tight : ((r.lin.parts ≡ []) → (r.lin.constant ≡ pos 0) → (lower upper : ℕ) → r.from ≡ Combined lower upper → ⊥) → ¬ Tight r
  not_tight h t = let g = form_zero r.lin form_normal t.0 in h g.0 g.1 (t.1).0 (t.1).1 (t.1).2

pub none_is_zero : (n : ℕ) (rows : List Row) → length rows ≤ n → NoneBelow Tight n rows → HasZero rows → ⊥
none_is_zero n rows h none z = none_at_all Tight n rows h none z.row z.among (z.zero, (z.lower, z.upper, z.from))

pub has_at : (rows : List Row) (n : ℕ) → IsRefutedAt rows n → HasRefuted rows
has_at rows n h = (h.row, contains_at rows n h.row h.at, h.refuted)

-- ---- the last row
pub last_there : (rows front : List Row) (t : Row) → rows ≡ front ++ t ∷ [] → slice_get rows (length rows - 1) ≡ Some t
last_there rows front t e =
    let n : length rows ≡ length (front ++ t ∷ []) = ap (λ (w : List Row). length w) e in
    let a : length (front ++ t ∷ []) ≡ length front + 1 = length-append front (t ∷ []) in
    let k : length rows - 1 ≡ length front = omega (arith, n, a) in
    ap (λ (w : List Row). slice_get w (length rows - 1)) e ∙ ap (slice_get (front ++ t ∷ [])) k ∙ get_seam front [] t

module _ (rows : List Row) (normal : AllByRecursion (λ (r : Row). IsNormal r.lin) rows) (r : Row) (at : slice_get rows (length rows - 1) ≡ Some r) where
  within : length rows - 1 < length rows
  within = slice_get_within rows (length rows - 1) r at

  value : r ≡ get_or rows (length rows - 1) r
  value = sym (get_or_from_slice_get rows (length rows - 1) r r at)

  pub last_refuted : CannotBe r → HasRefuted rows
  last_refuted h = has_at rows (length rows - 1) (refuted_here rows normal (length rows - 1) r within value h)

  pub last_possible : ((r.lin.parts ≡ []) → ((r.lin.constant <ℤ pos 0) ⊎ ((r.lin.constant ≡ pos 0) × (r.strict ≡ true))) → ⊥) → (front : List Row) (t : Row) → rows ≡ front ++ t ∷ [] → Refuted t → ⊥
  last_possible h front t e f = not_refuted rows normal (length rows - 1) r within value h (subst (λ (y : Row). Refuted y) (sym (same_Some r t (sym at ∙ last_there rows front t e))) f)
