-- One line more, which says a row.
use Rattle.std.specs.Prelude.{ℕ, suc, ℤ, pos, neg_ℤ, ◌+◌, ◌<◌, Some, ◌*ℤ◌, ◌<ℤ◌, ◌≡◌, ◌⊎◌, Bool, true, false, ◌||◌, List, [], ◌∷◌, ◌++◌, length}
use Rattle.std.specs.List.{AllByRecursion}
use Rattle.std.proofs.Common.{arith, refl, sym, ap, ◌∙◌, subst, inl, inr, length-append}
use Rattle.ae_base.proofs.AllOf.{all_push}
use native.Mathlib.Decide.{ℕ_discrete}
use lib.IntN.{*ℤ-one}
use borrow.Author.Differences.{ints}
use Rattle.ae_math.specs.Fractions.{zero_ℚ, one_ℚ, ◌*ℚ◌, whole}
use Rattle.ae_math.specs.Forms.{Form, SameForm, number, plus, scale}
use Rattle.ae_math.proofs.FractionLaws.{mul_comm_q, one_mul_q'}
use Rattle.ae_math.proofs.FormLaws.{same_sym, same_trans, plus_comm, zero_plus, scale_one}
use Rattle.ae_core.specs.declared.terms.Term.{Term}
use Rattle.ae_core.specs.declared.formulas.Lit.{Lit}
use Rattle.ae_core.specs.declared.problems.Signature.{Signature}
use Rattle.ae_core.specs.declared.proofs.EqLine.{EqLine}
use Rattle.ae_core.specs.declared.proofs.Scaled.{Scaled}
use Rattle.ae_core.specs.declared.proofs.Deriv.{Deriv}
use Rattle.ae_core.specs.declared.proofs.Relation.{Relation}
use Rattle.ae_core.specs.declared.proofs.Relation.TheVariants.{Equal, AtMost, Below}
use Rattle.ae_num.specs.declared.forms.Lin.{Lin}
use Rattle.ae_num.specs.Forms.{meaning, IsNormal, factor_of as lin_factor}
use Rattle.ae_num.specs.declared.forms.Part.{Part}
use Rattle.ae_num.specs.Limits.{FitsLimits}
use Rattle.ae_num.proofs.MeaningLaws.{product_positive}
use Rattle.ae_rows.specs.Rows.{mixture}
use Rattle.ae_ineq.specs.Inner.Sets.{last_part}
use Rattle.ae_ineq.proofs.LastLaws.{rising_last, last_within}
use Rattle.ae_ineq.proofs.LineNumbers.{factor_within, times_within}
use Rattle.ae_row_lines.proofs.Dens.{denominator}
use Rattle.ae_bounds.proofs.Lasts.{lower_last, upper_last}
use Rattle.ae_bound_blocks.specs.declared.given.Given.{Given}
use Rattle.ae_rules.specs.Built.{HasFactorsWithin}
use Rattle.ae_rules.specs.Linear.{IsSame}
use Rattle.ae_rules.specs.Lines.{Fact, Stated, Allowed, AllAllowed, fact_ok, HaveSort, MayCount, gap, total, states}
use Rattle.ae_rules.proofs.Written.{all_append, stated_before, stated_last}
use Rattle.ae_row_lines.specs.Says.{Says, Used, SaysCombination, parts_of_line}
use Rattle.ae_row_lines.proofs.Sums.{mixture_sums}
use Rattle.ae_row_lines.proofs.TwoRows.{at_most_line, below_line}
use Rattle.ae_store.specs.Terms.{named}
use Rattle.ae_bounds.specs.declared.rows.Unrounded.{Unrounded}
use Rattle.ae_state_steps.specs.ValueSteps.{sort_for}
use Rattle.ae_bound_blocks.specs.Said.{relation_of, row_fact, row_line, AreBuilt, AreNumbersOf, HasNumbers, IsBuiltLine, IsGiven}
use Rattle.ae_bound_blocks.specs.Inner.Emitting.{IsSaid, IsSaidAfter, IsCombinationOf}
use Rattle.ae_bound_blocks.proofs.Building.{built_joined, factors_in, neg_fits, row_built, times_fit}
use Rattle.ae_bound_blocks.proofs.Saying.{says_row}
use Rattle.ae_bound_blocks.proofs.Sorting.{is_number_sort, row_sorted, row_good, line_states}
use Rattle.ae_bound_blocks.proofs.Naming.{names_stay}

-- ---- the line pushed
module _ (sig : Signature) (ts : List Term) (real : Bool) (r : Unrounded) (normal : IsNormal r.lin) (numbers : AreNumbersOf sig ts real r.lin) (d : ℤ) (ps : List Scaled)
    (integers : HasNumbers sig ts real) (fit : FitsLimits d) (fits : AllByRecursion (λ (p : Scaled). FitsLimits p.factor) ps) where
  line : EqLine
  line = row_line ts real r.strict r.lin d ps

  pushed : (hyps : List Lit) (lines : List EqLine) → AllAllowed sig (fact_ok sig) hyps [] lines → Allowed sig hyps lines line → AllAllowed sig (fact_ok sig) hyps [] (lines ++ line ∷ [])
  unfolding line
  pushed hyps lines a b = all_append sig (fact_ok sig) hyps [] lines (line ∷ []) a ((ap (fact_ok sig) (line_states ts real r.strict r.lin d ps) ∙ row_good sig ts real r.strict r.lin normal numbers, b), tt)

  last_said : (lines : List EqLine) (k : ℕ) → suc k ≡ length (lines ++ line ∷ []) → IsSaid sig ts real (lines ++ line ∷ []) k r
  unfolding line
  last_said lines k e =
      let n : length (lines ++ line ∷ []) ≡ length lines + 1 = length-append lines (line ∷ []) in
      let s : length lines + 0 ≡ k = omega (arith, e, n) in
      let f : Stated (lines ++ line ∷ []) k (states line) = subst (λ i. Stated (lines ++ line ∷ []) i (states line)) s (stated_last lines line) in
      record { stated = subst (Stated (lines ++ line ∷ []) k) (line_states ts real r.strict r.lin d ps) f; numbers = numbers; integers = integers }

  pub said_after : (old new : Deriv) (hyps : List Lit) (lines : List EqLine) → new.hyps ≡ hyps → new.lines ≡ lines ++ row_line ts real r.strict r.lin d ps ∷ []
      → ((k : ℕ) (f : Fact) → Stated old.lines k f → Stated lines k f) → (AreBuilt sig ts old.lines → AreBuilt sig ts lines) → AllAllowed sig (fact_ok sig) hyps [] lines
      → Allowed sig hyps lines (row_line ts real r.strict r.lin d ps) → IsSaidAfter sig ts real old new r
  unfolding line
  said_after old new hyps lines h l before more a b = record {
    allowed = subst (λ hs. AllAllowed sig (fact_ok sig) hs [] new.lines) (sym h) (subst (AllAllowed sig (fact_ok sig) hyps []) (sym l) (pushed hyps lines a b));
    before = λ k f s. subst (λ ls. Stated ls k f) (sym l) (stated_before lines (line ∷ []) k f (before k f s));
    some = (let n : length new.lines ≡ length (lines ++ line ∷ []) = ap length l in let m = length-append lines (line ∷ []) in omega (arith, n, m));
    last = λ k e. subst (λ ls. IsSaid sig ts real ls k r) (sym l) (last_said lines k (e ∙ ap length l));
    built = λ o. subst (AreBuilt sig ts) (sym l) (all_push (IsBuiltLine sig ts) lines line (more o) (row_built sig ts real integers r.lin normal numbers r.strict d ps fit fits));
  }

-- ---- an assumed row
counts : (c : ℤ) (f : Fact) → pos 0 <ℤ c → MayCount (c, f)
counts c f h = by_relation f.relation
  where
    by_relation : (x : Relation) → MayCount (c, record { relation = x; left = f.left; right = f.right })
    by_relation Equal = tt
    by_relation AtMost = h
    by_relation Below = h

pub alone : (f : Form ℕ) → SameForm ℕ_discrete f (mixture ((one_ℚ, f) ∷ []))
alone f =
    same_sym ℕ_discrete (plus (scale one_ℚ f) (number zero_ℚ)) f
    (same_trans ℕ_discrete (plus (scale one_ℚ f) (number zero_ℚ)) (plus (number zero_ℚ) (scale one_ℚ f)) f (plus_comm ℕ_discrete (scale one_ℚ f) (number zero_ℚ))
    (same_trans ℕ_discrete (plus (number zero_ℚ) (scale one_ℚ f)) (scale one_ℚ f) f (zero_plus ℕ_discrete (scale one_ℚ f)) (scale_one ℕ_discrete f)))

module _ (sig : Signature) (ts : List Term) (real : Bool) (l : Lin) (normal : IsNormal l) (numbers : AreNumbersOf sig ts real l) (m : ℤ) (from : Fact) (says : Says (named ts) m (meaning l) from)
    (sorted : HaveSort sig (sort_for real) from) (hyps : List Lit) (earlier : List EqLine) (k : ℕ) (stated : Stated earlier k from) where
  sums : (strict : Bool) → IsSame (scale (whole m) (gap (row_fact ts real strict l))) (total ((l.den, from) ∷ []))
  sums strict =
      let us : List Used = record { form = meaning l; share = one_ℚ; multiple = m; fact = from; factor = l.den } ∷ [] in
      mixture_sums (named ts) m l.den (meaning l) (row_fact ts real strict l) us (says_row ts real strict l normal) (alone (meaning l)) (says, tt)
      (one_mul_q' (whole m *ℚ whole l.den) ∙ mul_comm_q (whole m) (whole l.den), tt)

  pub given_line : (strict : Bool) → from.relation ≡ relation_of strict → Allowed sig hyps earlier (row_line ts real strict l m (record { factor = l.den; line = k } ∷ []))
  given_line true e = (
    says.positive,
    (l.den, from) ∷ [],
    (refl, stated, tt),
    (counts l.den from normal.positive, tt),
    inl e,
    record { sort = sort_for real; numeric = is_number_sort real; sorted = row_sorted sig ts real true l normal numbers; all_sorted = (sorted, tt); sums = sums true },
  )
  given_line false e = (
    says.positive,
    (l.den, from) ∷ [],
    (refl, stated, tt),
    (counts l.den from normal.positive, tt),
    record { sort = sort_for real; numeric = is_number_sort real; sorted = row_sorted sig ts real false l normal numbers; all_sorted = (sorted, tt); sums = sums false },
  )

-- ---- a combination
either : (a b : Bool) → a || b ≡ true → (relation_of a ≡ Below) ⊎ (relation_of b ≡ Below)
either true b e = inl refl
either false b e = inr (ap relation_of e)

module _ (sig : Signature) (ts : List Term) (real : Bool) (first second r : Unrounded) (c : IsCombinationOf first second r) (d : ℤ) (times : d *ℤ r.lin.den ≡ first.lin.den *ℤ second.lin.den)
    (lower : pos 0 <ℤ lin_factor first.lin.parts c.name) (upper : lin_factor second.lin.parts c.name <ℤ pos 0)
    (hyps : List Lit) (earlier : List EqLine) (j k : ℕ) (one : IsSaid sig ts real earlier j first) (two : IsSaid sig ts real earlier k second) where
  left : Fact
  left = row_fact ts real first.strict first.lin

  right : Fact
  right = row_fact ts real second.strict second.lin

  pub numbers_stay : AreNumbersOf sig ts real r.lin
  numbers_stay = names_stay c.name first.lin second.lin r.lin c.first_normal c.second_normal c.normal c.same _ one.numbers two.numbers

  said : (strict : Bool) → SaysCombination (named ts) c.name first.lin second.lin r.lin left right (row_fact ts real strict r.lin) d
  unfolding left right
  said strict = record {
    left_normal = c.first_normal;
    right_normal = c.second_normal;
    first = says_row ts real first.strict first.lin c.first_normal;
    second = says_row ts real second.strict second.lin c.second_normal;
    combined = c.same;
    third = says_row ts real strict r.lin c.normal;
    lower = lower;
    upper = upper;
    times = times;
  }

  by_strict : (strict : Bool) → strict ≡ first.strict || second.strict → Allowed sig hyps earlier (row_line ts real strict r.lin d (parts_of_line c.name first.lin second.lin j k))
  unfolding left right
  by_strict true e =
      below_line sig (named ts) c.name first.lin second.lin r.lin left right _ _ d (sort_for real) earlier j k (said true) (either first.strict second.strict (sym e)) (is_number_sort real)
      (row_sorted sig ts real first.strict first.lin c.first_normal one.numbers) (row_sorted sig ts real second.strict second.lin c.second_normal two.numbers)
      (row_sorted sig ts real true r.lin c.normal numbers_stay) one.stated two.stated
  by_strict false e =
      at_most_line sig (named ts) c.name first.lin second.lin r.lin left right _ _ d (sort_for real) earlier j k (said false) (is_number_sort real)
      (row_sorted sig ts real first.strict first.lin c.first_normal one.numbers) (row_sorted sig ts real second.strict second.lin c.second_normal two.numbers)
      (row_sorted sig ts real false r.lin c.normal numbers_stay) one.stated two.stated

  pub combined_line : Allowed sig hyps earlier (row_line ts real r.strict r.lin d (parts_of_line c.name first.lin second.lin j k))
  combined_line = by_strict r.strict c.strict

-- ---- after other lines
module _ (sig : Signature) (ts : List Term) (real : Bool) (r : Unrounded) (g : Given) (given : IsGiven sig ts real r g) (deriv both : Deriv) (long : length both.lines ≡ length deriv.lines + length g.deriv.lines) where
  -- the number of the last line
  given_last : length deriv.lines + length given.front + 1 ≡ length both.lines
  given_last =
      let a : length g.deriv.lines ≡ length given.front + 1 = ap length given.lines ∙ length-append given.front (given.last ∷ []) in
      let b = long in
      omega (arith, a, b)

  pub given_some : 0 < length both.lines
  given_some = let a = given_last in omega (arith, a)

  pub given_after : (new : Deriv) (from : ℕ) → IsNormal r.lin → ((k : ℕ) (f : Fact) → Stated deriv.lines k f → Stated both.lines k f)
      → ((k : ℕ) (f : Fact) → Stated g.deriv.lines k f → Stated both.lines (length deriv.lines + k) f)
      → (AllByRecursion HasFactorsWithin deriv.lines → AllByRecursion HasFactorsWithin g.deriv.lines → AllByRecursion HasFactorsWithin both.lines) → AllAllowed sig (fact_ok sig) both.hyps [] both.lines → from + 1 ≡ length both.lines → new.hyps ≡ both.hyps
      → new.lines ≡ both.lines ++ row_line ts real r.strict r.lin g.multiple (record { factor = r.lin.den; line = from } ∷ []) ∷ [] → IsSaidAfter sig ts real deriv new r
  given_after new from normal before after factors allowed at hyps lines =
      let s : Stated g.deriv.lines (length given.front + 0) (states given.last) = subst (λ ls. Stated ls (length given.front + 0) (states given.last)) (sym given.lines) (stated_last given.front given.last) in
      let place : length deriv.lines + (length given.front + 0) ≡ from = (let a = given_last in omega (arith, a, at)) in
      let t : Stated both.lines from (states given.last) = subst (λ k. Stated both.lines k (states given.last)) place (after (length given.front + 0) (states given.last) s) in
      said_after sig ts real r normal given.numbers g.multiple (record { factor = r.lin.den; line = from } ∷ []) given.integers given.fits (normal.within.0, tt) deriv new both.hyps both.lines hyps lines before
      (λ o. built_joined sig ts deriv.lines g.deriv.lines both.lines long before after (factors (factors_in sig ts deriv.lines o) (factors_in sig ts g.deriv.lines given.built)) o given.built) allowed
      (given_line sig ts real r.lin normal given.numbers g.multiple (states given.last) given.says given.sorted both.hyps both.lines from t r.strict given.relation)

module _ (first second r : Unrounded) (c : IsCombinationOf first second r) where
  lower_part : (f : ℤ) × (last_part first.lin.parts ≡ Some (record { key = c.name; factor = f })) × (pos 0 <ℤ f)
  lower_part = lower_last c.name first.lin c.first_normal c.below

  upper_part : (f : ℤ) × (last_part second.lin.parts ≡ Some (record { key = c.name; factor = f })) × (f <ℤ pos 0)
  upper_part = upper_last c.name second.lin c.second_normal c.above

  -- the factors of the name are those of the last parts
  pub rising_is : (z : ℤ) → ((p : Part) → last_part first.lin.parts ≡ Some p → z ≡ p.factor) → z ≡ lin_factor first.lin.parts c.name
  rising_is z h = h _ lower_part.1 ∙ sym (rising_last first.lin.parts _ c.first_normal.rising lower_part.1)

  pub falling_is : (z : ℤ) → ((p : Part) → last_part second.lin.parts ≡ Some p → z ≡ p.factor) → z ≡ lin_factor second.lin.parts c.name
  falling_is z h = h _ upper_part.1 ∙ sym (rising_last second.lin.parts _ c.second_normal.rising upper_part.1)

  pub falling_fits : (z : ℤ) → ((p : Part) → last_part second.lin.parts ≡ Some p → z ≡ p.factor) → FitsLimits z
  falling_fits z h = subst FitsLimits (sym (h _ upper_part.1)) (last_within second.lin _ c.second_normal upper_part.1)

  pub product_fits : FitsLimits (first.lin.den *ℤ second.lin.den)
  unfolding lib.IntN.one
  product_fits =
      times_within c.name first.lin second.lin (first.lin.den *ℤ second.lin.den) (pos 1) c.fits (product_positive first.lin.den second.lin.den c.first_normal.positive c.second_normal.positive) (omega (arith, ints))
      (*ℤ-one (first.lin.den *ℤ second.lin.den))

  pub numbers_after : (sig : Signature) (ts : List Term) (real : Bool) → AreNumbersOf sig ts real first.lin → AreNumbersOf sig ts real second.lin → AreNumbersOf sig ts real r.lin
  numbers_after sig ts real a b = names_stay c.name first.lin second.lin r.lin c.first_normal c.second_normal c.normal c.same _ a b

  pub times_exist : (d : ℤ) × (d *ℤ r.lin.den ≡ first.lin.den *ℤ second.lin.den)
  times_exist = let w = denominator c.name first.lin second.lin r.lin c.first_normal c.second_normal c.normal c.same in (w.0, w.2)

  pub both_after : (sig : Signature) (ts : List Term) (real : Bool) (deriv new : Deriv) (j k : ℕ) (d rising falling : ℤ) → d *ℤ r.lin.den ≡ first.lin.den *ℤ second.lin.den → rising ≡ lin_factor first.lin.parts c.name
      → falling ≡ lin_factor second.lin.parts c.name → IsSaid sig ts real deriv.lines j first → IsSaid sig ts real deriv.lines k second → AllAllowed sig (fact_ok sig) deriv.hyps [] deriv.lines → new.hyps ≡ deriv.hyps
      → new.lines ≡ deriv.lines ++ row_line ts real r.strict r.lin d (record { factor = neg_ℤ falling; line = j } ∷ record { factor = rising; line = k } ∷ []) ∷ [] → IsSaidAfter sig ts real deriv new r
  both_after sig ts real deriv new j k d rising falling times up down one two allowed hyps lines =
      let low : pos 0 <ℤ lin_factor first.lin.parts c.name = subst (λ z. pos 0 <ℤ z) (sym (rising_last first.lin.parts _ c.first_normal.rising lower_part.1)) lower_part.2 in
      let high : lin_factor second.lin.parts c.name <ℤ pos 0 = subst (λ z. z <ℤ pos 0) (sym (rising_last second.lin.parts _ c.second_normal.rising upper_part.1)) upper_part.2 in
      let parts : record { factor = neg_ℤ falling; line = j } ∷ record { factor = rising; line = k } ∷ [] ≡ parts_of_line c.name first.lin second.lin j k =
      λ i. record { factor = neg_ℤ (down i); line = j } ∷ record { factor = up i; line = k } ∷ [] in
      let fit : FitsLimits d = times_fit d r.lin.den (first.lin.den *ℤ second.lin.den) c.normal.positive times product_fits in
      let rise : FitsLimits (lin_factor first.lin.parts c.name) = factor_within first.lin c.name c.first_normal in
      let fall : FitsLimits (lin_factor second.lin.parts c.name) = factor_within second.lin c.name c.second_normal in
      let turned = neg_fits (lin_factor second.lin.parts c.name) fall in
      said_after sig ts real r c.normal (numbers_stay sig ts real first second r c d times low high deriv.hyps deriv.lines j k one two) d (parts_of_line c.name first.lin second.lin j k) one.integers fit (turned, (rise, tt)) deriv new deriv.hyps deriv.lines hyps
      (lines ∙ ap (λ ps. deriv.lines ++ row_line ts real r.strict r.lin d ps ∷ []) parts) (λ k f s. s) (λ o. o) allowed
      (combined_line sig ts real first second r c d times low high deriv.hyps deriv.lines j k one two)
