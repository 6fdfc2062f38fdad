-- Lines between terms that are built of the names.
use Rattle.std.specs.Prelude.{ℕ, zero, suc, ℤ, pos, neg_ℤ, unsigned_abs, ◌+◌, ◌-◌, ◌*◌, ◌^◌, ◌*ℤ◌, ◌<ℤ◌, ◌<◌, ◌≤◌, ◌≡◌, Bool, true, false, List, [], length, slice_get, Option, Some}
use Rattle.std.specs.List.{AllByRecursion}
use Rattle.std.proofs.Common.{lt_of_le_of_lt, arith, refl, sym, ap, ◌∙◌, subst, inl, inr}
use Rattle.std.proofs.lemmas.Bool.{cases_lt, lt-ltb}
use Rattle.std.proofs.lemmas.Int.{unsigned_abs-mul}
use Rattle.std.proofs.lemmas.Option.{slice_get_within, same_Some}
use Rattle.ae_base.specs.Options.{known, ◌>>=◌}
use Rattle.ae_base.proofs.AllOf.{all_at, all_from_places, all_weaker}
use Rattle.ae_base.proofs.Integers.{size_neg, size_positive}
use Rattle.ae_base.proofs.ListFacts.{value_at}
use Rattle.ae_core.specs.Sorts.{sort_of, within}
use Rattle.ae_core.specs.declared.problems.Signature.{Signature}
use Rattle.ae_core.specs.declared.proofs.EqLine.{EqLine}
use Rattle.ae_core.specs.declared.proofs.Scaled.{Scaled}
use Rattle.ae_core.specs.declared.terms.Sort.{Sort}
use Rattle.ae_core.specs.declared.terms.Term.{Term}
use Rattle.ae_core.proofs.SortFacts.{same_known_of}
use Rattle.ae_num.specs.Forms.{IsNormal}
use Rattle.ae_num.specs.Limits.{FitsLimits}
use Rattle.ae_num.specs.declared.forms.Lin.{Lin}
use Rattle.ae_rules.specs.Built.{IsBuilt, of_number, AreFactorsWithin, HasFactorsWithin}
use Rattle.ae_rules.specs.Lines.{Fact, Stated, states}
use Rattle.ae_just.specs.Sides.{ArePartsWithin, side_term, whole}
use Rattle.ae_just.specs.declared.steps.Rule.TheVariants as rule
use Rattle.ae_just.specs.declared.steps.Side.TheVariants as side
use Rattle.ae_just.specs.declared.steps.Times.{Times}
use Rattle.ae_just.proofs.BuiltSides.{step_built}
use Rattle.ae_state_steps.specs.ValueSteps.{sort_for, times_of}
use Rattle.ae_bound_blocks.specs.Said.{row_line, round_line, sum_term, AreBuilt, AreNumbersOf, HasNumbers, IsBuiltLine}
use Rattle.ae_bound_blocks.proofs.Sorting.{parts_within, row_sorted}

times_grows : (d m : ℕ) → 0 < m → d ≤ d * m
times_grows d zero h = absurd (omega (arith, h))
times_grows d (suc m) h = omega arith

-- a factor of a number within the limits
pub times_fit : (d m n : ℤ) → pos 0 <ℤ m → d *ℤ m ≡ n → FitsLimits n → FitsLimits d
times_fit d m n positive e f =
    let size : unsigned_abs d * unsigned_abs m ≡ unsigned_abs n = sym (unsigned_abs-mul d m) ∙ ap unsigned_abs e in
    lt_of_le_of_lt (times_grows (unsigned_abs d) (unsigned_abs m) (size_positive m positive)) (subst (λ k. k < 2 ^ 127) (sym size) f)

pub neg_fits : (z : ℤ) → FitsLimits z → FitsLimits (neg_ℤ z)
neg_fits z f = subst (λ k. k < 2 ^ 127) (sym (size_neg z)) f

within_of : (z : ℤ) → FitsLimits z → within z ≡ true
within_of z h = lt-ltb _ _ h

factors_of : (d : ℤ) (ps : List Scaled) → FitsLimits d → AllByRecursion (λ (p : Scaled). FitsLimits p.factor) ps → AreFactorsWithin d ps
factors_of d ps f g = (within_of d f, all_weaker (λ (p : Scaled). FitsLimits p.factor) (λ (p : Scaled). within p.factor ≡ true) (λ p h. within_of p.factor h) ps g)

module _ (sig : Signature) (ts : List Term) (real : Bool) (some : HasNumbers sig ts real) where
  -- a sum that has a sort, as a side of a step that equates it with itself
  sum_built : (ps : List Times) (c : ℤ) → ArePartsWithin (length ts) ps → (s : Sort) → sort_of sig (side_term ts (side.Sum ps c real)) ≡ Some s → IsBuilt sig ts (side_term ts (side.Sum ps c real))
  sum_built ps c w s e =
      let own = sort_of sig (side_term ts (side.Sum ps c real)) in
      (step_built sig ts [] (record { left = side.Sum ps c real; right = side.Sum ps c real; rule = rule.Hyp 0 }) (record { sorted = same_known_of own own (ap known e) refl; allowed = tt }) (w, w) (some, some)).0

  nothing_built : IsBuilt sig ts (whole real (pos 0))
  nothing_built = of_number (whole real (pos 0)) real (pos 0) refl some

  module _ (l : Lin) (normal : IsNormal l) (numbers : AreNumbersOf sig ts real l) where
    pub form_built : IsBuilt sig ts (sum_term ts real l)
    form_built = sum_built (times_of l.parts) l.constant (parts_within sig ts real l.parts numbers) (sort_for real) (row_sorted sig ts real false l normal numbers).1

    -- the line that says a row, and the one that says it rounded
    pub row_built : (strict : Bool) (d : ℤ) (ps : List Scaled) → FitsLimits d → AllByRecursion (λ (p : Scaled). FitsLimits p.factor) ps → IsBuiltLine sig ts (row_line ts real strict l d ps)
    row_built true d ps f g = record { left = nothing_built; right = form_built; factors = factors_of d ps f g }
    row_built false d ps f g = record { left = nothing_built; right = form_built; factors = factors_of d ps f g }

    pub round_built : (k : ℕ) → IsBuiltLine sig ts (round_line ts real l k)
    round_built k = record { left = nothing_built; right = form_built; factors = tt }

-- ---- lines behind lines
stated_at : (xs : List EqLine) (i : ℕ) (x : EqLine) → slice_get xs i ≡ Some x → Stated xs i (states x)
stated_at xs i x e = ap (λ (o : Option EqLine). o >>= λ y. Some (states y)) e

module _ (sig : Signature) (ts : List Term) where
  pub factors_in : (ls : List EqLine) → AreBuilt sig ts ls → AllByRecursion HasFactorsWithin ls
  factors_in ls a = all_weaker (IsBuiltLine sig ts) HasFactorsWithin (λ l b. b.factors) ls a

  -- a line that states what another does, which is built
  built_as : (zs : List EqLine) (i : ℕ) (z x : EqLine) → AllByRecursion HasFactorsWithin zs → slice_get zs i ≡ Some z → Stated zs i (states x) → IsBuiltLine sig ts x → IsBuiltLine sig ts z
  built_as zs i z x f e s b =
      let is : states z ≡ states x = same_Some (states z) (states x) (sym (stated_at zs i z e) ∙ s) in
      record {
        left = subst (λ (f : Fact). IsBuilt sig ts f.left) (sym is) b.left;
        right = subst (λ (f : Fact). IsBuilt sig ts f.right) (sym is) b.right;
        factors = all_at HasFactorsWithin zs i z f e;
      }

  pub built_joined : (xs ys zs : List EqLine) → length zs ≡ length xs + length ys → ((k : ℕ) (f : Fact) → Stated xs k f → Stated zs k f) → ((k : ℕ) (f : Fact) → Stated ys k f → Stated zs (length xs + k) f)
      → AllByRecursion HasFactorsWithin zs → AreBuilt sig ts xs → AreBuilt sig ts ys → AreBuilt sig ts zs
  built_joined xs ys zs long before after f a b = all_from_places (IsBuiltLine sig ts) zs line
    where
      line : (i : ℕ) (z : EqLine) → slice_get zs i ≡ Some z → IsBuiltLine sig ts z
      line i z e = elim (cases_lt i (length xs)) [
        | inl l ↦ let x = value_at xs i l in built_as zs i z x.0 f e (before i (states x.0) (stated_at xs i x.0 x.1)) (all_at (IsBuiltLine sig ts) xs i x.0 a x.1)
        | inr l ↦
            let j = i - length xs in
            let w = slice_get_within zs i z e in
            let y = value_at ys j (omega (arith, long, l, w)) in
            let here : length xs + j ≡ i = omega (arith, l) in
            built_as zs i z y.0 f e (subst (λ (k : ℕ). Stated zs k (states y.0)) here (after j (states y.0) (stated_at ys j y.0 y.1))) (all_at (IsBuiltLine sig ts) ys j y.0 b y.1)
      ]
