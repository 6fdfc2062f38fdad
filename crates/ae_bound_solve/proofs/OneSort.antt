-- The assumed rows that a row is made of are given by sides of one sort, and what was rounded among them is over opaque names.
use Rattle.std.specs.Prelude.{ℕ, zero, suc, pos, ◌<◌, ◌≡◌, ◌≢◌, Bool, true, false, ◌||◌, List, [], Option, Some, None, slice_get}
use Rattle.std.specs.List.{AllByRecursion, Contains}
use Rattle.std.proofs.Common.{arith, refl, sym, ap, ◌∙◌, subst, inl, inr}
use Rattle.std.proofs.lemmas.Bool.{and_parts}
use Rattle.ae_base.proofs.AllOf.{all_weaker, all_from_places}
use Rattle.ae_base.proofs.ListFacts.{get_front}
use Rattle.ae_base.proofs.Tests.{true_false}
use Rattle.ae_math.specs.Fractions.{neg_ℚ, is_positive, ratio}
use Rattle.ae_math.specs.Forms.{single}
use Rattle.ae_math.proofs.FractionLaws.{neg_zero_q}
use Rattle.ae_math.proofs.FractionOrder.{positive_zero}
use Rattle.ae_math.proofs.Wholes.{ratio_of_zero}
use Rattle.ae_core.specs.declared.terms.Term.{Term}
use Rattle.ae_core.specs.declared.terms.Sort.{Sort}
use Rattle.ae_core.specs.declared.problems.Signature.{Signature}
use Rattle.ae_num.specs.declared.forms.Part.{Part}
use Rattle.ae_num.specs.declared.forms.Lin.{Lin}
use Rattle.ae_num.specs.Forms.{meaning, IsNormal, factor_of}
use Rattle.ae_num.proofs.MeaningLaws.{factor_meaning}
use Rattle.ae_rules.specs.Linear.{form}
use Rattle.ae_rows.specs.Rows.{IsLower, IsUpper}
use Rattle.ae_store.specs.Terms.{named}
use Rattle.ae_journal.proofs.Splits.{contains_at, all_contained}
use Rattle.ae_state_steps.specs.ValueSteps.{sort_for, IsNumberName}
use Rattle.ae_rounding.specs.Laws.{AreOpaque}
use Rattle.ae_rounding.proofs.Whole.{divided_keys}
use Rattle.ae_bounds.specs.declared.rows.Row.{Row}
use Rattle.ae_bounds.specs.declared.rows.Unrounded.{Unrounded}
use Rattle.ae_bounds.specs.declared.rows.Origin.{Origin}
use Rattle.ae_bounds.specs.declared.rows.Origin.TheVariants.{Assumed, Combined}
use Rattle.ae_bounds.specs.Rounding.{AreRounded}
use Rattle.ae_bounds.specs.Findings.{AreFounded}
use Rattle.ae_bound_blocks.specs.declared.given.Given.{Given}
use Rattle.ae_bound_blocks.specs.Ancestors.{parents, sources_at, IsAncestor}
use Rattle.ae_bound_blocks.specs.Said.{was, AreNumbersOf, IsGiven, AreGiven, AreOpaqueRounded}
use Rattle.ae_bound_blocks.proofs.Marking.{combined_earlier, source_cases, sources_of, one_row, one_of_two}
use Rattle.ae_bound_blocks.proofs.Naming.{at_factor, names_stay}
use Rattle.ae_bound_blocks.proofs.OneMore.{was_form}
use Rattle.ae_bound_blocks.proofs.Rounding.{was_kept, was_some}
use Rattle.ae_bound_solve.specs.Given.{AreAllGiven, IsWholeName, AreOpaqueNames}
use Rattle.ae_bound_solve.specs.Inner.Sorts.{IsFirstParent, AreOfSort}

-- ---- what a row is made of
parents_here : (rows : List Row) (k : ℕ) (r : Row) (o : Origin) → slice_get rows k ≡ Some r → r.from ≡ o → sources_at true rows k ≡ parents o
parents_here rows k r o at h = sources_of true rows k r at ∙ ap parents h

-- the first one of the rows that a row combines is before it
pub first_before : (rows : List Row) → AreFounded rows → (k next : ℕ) (r : Row) → slice_get rows k ≡ Some r → IsFirstParent r.from (Some next) → (next < k) × Contains (sources_at true rows k) next
first_before rows founded k next r at h = by_origin r.from refl h
  where
    by_origin : (o : Origin) → r.from ≡ o → IsFirstParent o (Some next) → (next < k) × Contains (sources_at true rows k) next
    by_origin (Assumed tag) e i = cc
    by_origin (Combined lower upper) e i =
        let s : lower ≡ next = (let z : Some next ≡ Some lower = i in cc) in
        let c : Contains (sources_at true rows k) next =
        subst (λ (ps : List ℕ). Contains ps next) (sym (parents_here rows k r (Combined lower upper) at e)) (zero, (let l : 0 < 2 = omega arith in l), s) in
        (combined_earlier true rows founded k (slice_get rows k) refl next c, c)

-- a row that combines none was assumed
pub last_assumed : (r : Row) → IsFirstParent r.from None → (tag : ℕ) × (r.from ≡ Assumed tag)
last_assumed r h = by_origin r.from refl h
  where
    by_origin : (o : Origin) → r.from ≡ o → IsFirstParent o None → (tag : ℕ) × (r.from ≡ Assumed tag)
    by_origin (Assumed tag) e i = (tag, e)
    by_origin (Combined lower upper) e i = cc

-- ---- the name that two rows are combined on
lower_some : (n : ℕ) (l : Lin) → IsNormal l → IsLower n (meaning l) → factor_of l.parts n ≢ pos 0
lower_some n l o low e = true_false (sym low.sign ∙ ap is_positive (factor_meaning l n o.rising ∙ ap (λ a. ratio a l.den) e ∙ ratio_of_zero l.den) ∙ positive_zero)

upper_some : (n : ℕ) (l : Lin) → IsNormal l → IsUpper n (meaning l) → factor_of l.parts n ≢ pos 0
upper_some n l o up e =
    true_false (sym up.sign ∙ ap (λ x. is_positive (neg_ℚ x)) (factor_meaning l n o.rising ∙ ap (λ a. ratio a l.den) e ∙ ratio_of_zero l.den) ∙ ap is_positive neg_zero_q ∙ positive_zero)

same_sort : (a b : Bool) → ◌≡◌ {A = Option Sort} (Some (sort_for a)) (Some (sort_for b)) → a ≡ b
same_sort true true e = refl
same_sort false false e = refl
same_sort true false e = cc
same_sort false true e = cc

module _ (sig : Signature) (ts : List Term) (rows : List Row) (given : List Given) (founded : AreFounded rows) (were : AreRounded rows) (all : AreAllGiven sig ts rows given) (names : AreOpaqueNames ts rows) where
  -- ---- from the form that a row is the row of to its own
  kept_names : (Q : ℕ → Type 0) (r : Row) → Contains rows r → AllByRecursion (λ (p : Part). Q p.key) (was r).lin.parts → AllByRecursion (λ (p : Part). Q p.key) r.lin.parts
  kept_names Q r c a = by_unrounded r.unrounded refl
    where
      by_unrounded : (o : Option Unrounded) → r.unrounded ≡ o → AllByRecursion (λ (p : Part). Q p.key) r.lin.parts
      by_unrounded None e = subst (λ (v : Unrounded). AllByRecursion (λ (p : Part). Q p.key) v.lin.parts) (was_kept r e) a
      by_unrounded (Some u) e =
          let w = were r u c e in
          divided_keys Q w.is.divisor u.lin.parts r.lin.parts w.is.divided (subst (λ (v : Unrounded). AllByRecursion (λ (p : Part). Q p.key) v.lin.parts) (was_some r u e) a)

  abbrev HasWholeNames : Lin → Type 0
  HasWholeNames l = AllByRecursion (λ (p : Part). IsWholeName rows p.key) l.parts

  opaque_form : (l : Lin) → HasWholeNames l → AreOpaque (named ts) l
  opaque_form l h = record {
    opaque = all_weaker (λ (p : Part). IsWholeName rows p.key) (λ (p : Part). form (named ts p.key) ≡ single (named ts p.key)) (λ p w. names.opaque p.key w) l.parts h;
    apart = all_weaker (λ (p : Part). IsWholeName rows p.key) (λ (p : Part). AllByRecursion (λ (q : Part). named ts p.key ≡ named ts q.key → p.key ≡ q.key) l.parts)
        (λ p w. all_weaker (λ (q : Part). IsWholeName rows q.key) (λ (q : Part). named ts p.key ≡ named ts q.key → p.key ≡ q.key) (λ q v e. names.apart p.key q.key w v e) l.parts h) l.parts h;
  }

  -- ---- one sort
  abbrev IsFine : Bool → Row → Type 0
  IsFine real r = ((tag : ℕ) (g : Given) → r.from ≡ Assumed tag → slice_get given tag ≡ Some g → g.real ≡ real) × ((u : Unrounded) → r.unrounded ≡ Some u → (real ≡ false) × AreOpaque (named ts) u.lin)

  record IsSorted (k : ℕ) (r : Row) : Type 0 where
    pub real : Bool
    pub numbers : AreNumbersOf sig ts real r.lin
    pub whole : r.integral ≡ true → real ≡ false
    pub own : r.integral ≡ true → HasWholeNames r.lin
    pub below : (j : ℕ) (t : Row) → IsAncestor rows k j → slice_get rows j ≡ Some t → IsFine real t

  -- what is rounded is over opaque names
  fine_rounded : (real : Bool) (r : Row) → Contains rows r → (r.integral ≡ true → real ≡ false) → (r.integral ≡ true → HasWholeNames (was r).lin) → (u : Unrounded) → r.unrounded ≡ Some u → (real ≡ false) × AreOpaque (named ts) u.lin
  fine_rounded real r c whole own u e =
      let i = (were r u c e).integral in
      (whole i, opaque_form u.lin (subst (λ (v : Unrounded). HasWholeNames v.lin) (was_some r u e) (own i)))

  module _ (k : ℕ) (r : Row) (at : slice_get rows k ≡ Some r) where
    here : Contains rows r
    here = contains_at rows k r at

    module _ (tag : ℕ) (from : r.from ≡ Assumed tag) where
      own_names : r.integral ≡ true → HasWholeNames (was r).lin
      own_names i =
          all_from_places (λ (p : Part). IsWholeName rows p.key) (was r).lin.parts
          (λ j p a. record { row = r; among = contains_at rows k r at; tag = tag; from = from; integral = i; part = p; in_row = contains_at (was r).lin.parts j p a; is = refl })

      assumed_fine : IsFine (all r tag (contains_at rows k r at) from).0.real r
      assumed_fine =
          let g = all r tag (contains_at rows k r at) from in (
            (λ other h e d. (let s : tag ≡ other = (let z : ◌≡◌ {A = Origin} (Assumed tag) (Assumed other) = sym from ∙ e in cc) in let z : Some h ≡ Some g.0 = sym d ∙ ap (slice_get given) (sym s) ∙ g.1 in ap (λ (x : Given). x.real) (let y : h ≡ g.0 = cc in y))),
            fine_rounded g.0.real r (contains_at rows k r at) g.3 own_names,
          )

      of_assumed : IsSorted k r
      of_assumed =
          let g = all r tag (contains_at rows k r at) from in
          record {
            real = g.0.real;
            numbers = kept_names (λ n. IsNumberName sig ts g.0.real n) r (contains_at rows k r at) g.2.numbers;
            whole = g.3;
            own = λ i. kept_names (IsWholeName rows) r (contains_at rows k r at) (own_names i);
            below = λ j t a b. elim (source_cases true rows k j a) [
              | inl e ↦ subst (IsFine g.0.real) (one_row rows k j r t e at b) assumed_fine
              | inr q ↦ absurd (all_contained (λ (x : ℕ). ⊥) [] q.0 tt (subst (λ (ps : List ℕ). Contains ps q.0) (parents_here rows k r (Assumed tag) at from) q.1))
            ];
          }

    module _ (lower upper : ℕ) (from : r.from ≡ Combined lower upper) (before : (i : ℕ) (t : Row) → i < k → slice_get rows i ≡ Some t → IsSorted i t) where
      of_combined : IsSorted k r
      of_combined =
          let c = founded k lower upper r at from in
          let same_from : Combined lower upper ≡ Combined c.lower c.upper = sym from ∙ c.from in
          let low : lower ≡ c.lower = cc same_from in
          let up : upper ≡ c.upper = cc same_from in
          let a = get_front rows k c.lower c.first c.opposed.first_at in
          let b = get_front rows k c.upper c.second c.opposed.second_at in
          let s = before c.lower c.first a.1 a.0 in
          let t = before c.upper c.second b.1 b.0 in
          let one : IsNumberName sig ts s.real c.name = at_factor (λ n. IsNumberName sig ts s.real n) c.first.lin.parts s.numbers c.name (lower_some c.name c.first.lin c.opposed.normal.0 c.opposed.below) in
          let two : IsNumberName sig ts t.real c.name = at_factor (λ n. IsNumberName sig ts t.real n) c.second.lin.parts t.numbers c.name (upper_some c.name c.second.lin c.opposed.normal.1 c.opposed.above) in
          let same : t.real ≡ s.real = same_sort t.real s.real (sym two ∙ one) in
          let is : was r ≡ record { lin = c.of.form; strict = c.first.strict || c.second.strict } = was_form c.of.form (c.first.strict || c.second.strict) r c.of.of in
          let stay : (Q : ℕ → Type 0) → AllByRecursion (λ (p : Part). Q p.key) c.first.lin.parts → AllByRecursion (λ (p : Part). Q p.key) c.second.lin.parts → AllByRecursion (λ (p : Part). Q p.key) (was r).lin.parts =
          (λ Q x y.
          subst (λ (v : Unrounded). AllByRecursion (λ (p : Part). Q p.key) v.lin.parts) (sym is)
          (names_stay c.name c.first.lin c.second.lin c.of.form c.opposed.normal.0 c.opposed.normal.1 c.of.form_normal c.of.same Q x y)) in
          let whole : r.integral ≡ true → s.real ≡ false = (λ i. s.whole (and_parts c.first.integral c.second.integral (sym c.of.sort ∙ i)).0) in
          let own : r.integral ≡ true → HasWholeNames (was r).lin =
          (λ i. let d = and_parts c.first.integral c.second.integral (sym c.of.sort ∙ i) in stay (IsWholeName rows) (s.own d.0) (t.own d.1)) in
          record {
            real = s.real;
            numbers = kept_names (λ n. IsNumberName sig ts s.real n) r (contains_at rows k r at)
                (stay (λ n. IsNumberName sig ts s.real n) s.numbers (subst (λ (x : Bool). AreNumbersOf sig ts x c.second.lin) same t.numbers));
            whole = whole;
            own = λ i. kept_names (IsWholeName rows) r (contains_at rows k r at) (own i);
            below = λ j x m d. elim (source_cases true rows k j m) [
              | inl e ↦ subst (IsFine s.real) (one_row rows k j r x e at d) (not_assumed s.real, fine_rounded s.real r (contains_at rows k r at) whole own)
              | inr q ↦
                  elim (one_of_two lower upper q.0 (subst (λ (ps : List ℕ). Contains ps q.0) (parents_here rows k r (Combined lower upper) at from) q.1)) [
                    | inl e ↦ s.below j x (subst (λ n. IsAncestor rows n j) (sym e ∙ low) q.2) d
                    | inr e ↦ subst (λ (y : Bool). IsFine y x) same (t.below j x (subst (λ n. IsAncestor rows n j) (sym e ∙ up) q.2) d)
                  ]
            ];
          }
        where
          not_assumed : (real : Bool) (tag : ℕ) (g : Given) → r.from ≡ Assumed tag → slice_get given tag ≡ Some g → g.real ≡ real
          not_assumed real tag g e d = absurd (let z : ◌≡◌ {A = Origin} (Combined lower upper) (Assumed tag) = sym from ∙ e in cc)

  sorted_below : (n k : ℕ) (r : Row) → k < n → slice_get rows k ≡ Some r → IsSorted k r
  sorted_below zero k r l at = absurd (omega (arith, l))
  sorted_below (suc n) k r l at = by_origin (λ i t m b. sorted_below n i t (omega (arith, l, m)) b) r.from refl
    where
      by_origin : ((i : ℕ) (t : Row) → i < k → slice_get rows i ≡ Some t → IsSorted i t) → (o : Origin) → r.from ≡ o → IsSorted k r
      by_origin before (Assumed tag) e = of_assumed k r at tag e
      by_origin before (Combined lower upper) e = of_combined k r at lower upper e before

  module _ (place : ℕ) (row : Row) (at : slice_get rows place ≡ Some row) where
    pub one_sort : (real : Bool) × AreOfSort rows given place real × ((x : Bool) → x ≡ real → AreGiven sig ts x rows place given × AreOpaqueRounded ts x rows place) × (row.integral ≡ true → real ≡ false)
    one_sort =
        let s = sorted_below (suc place) place row (omega arith) at in (
          s.real,
          (λ k tag r g a b e d. (s.below k r a b).0 tag g e d),
          (λ x e.
              subst (λ (y : Bool). AreGiven sig ts y rows place given × AreOpaqueRounded ts y rows place) (sym e) (
                (λ k tag r a b f.
                    let g = all r tag (contains_at rows k r b) f in
                    (g.0, g.1, subst (λ (y : Bool). IsGiven sig ts y (was r) g.0) ((s.below k r a b).0 tag g.0 f g.1) g.2)),
                (λ k r u a b f. (s.below k r a b).1 u f),
              )),
          s.whole,
        )

    -- the names of a row over integers are opaque terms
    pub opaque_row : row.integral ≡ true → AllByRecursion (λ (p : Part). form (named ts p.key) ≡ single (named ts p.key)) row.lin.parts
    opaque_row i = (opaque_form row.lin ((sorted_below (suc place) place row (omega arith) at).own i)).opaque
