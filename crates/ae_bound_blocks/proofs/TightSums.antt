-- A combination that is 0 is a positive sum of rows that were assumed or rounded.
use Rattle.std.specs.Prelude.{ℕ, zero, suc, ◌+◌, ◌<◌, ◌≡◌, ◌⊎◌, Bool, false, ◌||◌, List, [], ◌∷◌, ◌++◌, Option, Some, None, map, length, take, slice_get}
use Rattle.std.specs.List.{Contains}
use Rattle.std.proofs.Common.{arith, refl, sym, ap, ◌∙◌, subst, inl, inr}
use Rattle.std.proofs.lemmas.List.{length-take-le}
use Rattle.std.proofs.lemmas.Option.{slice_get_within}
use Rattle.std.proofs.lemmas.List.Elements.{Contains-append_left, Contains-append_right}
use Rattle.std.proofs.Math.Bool.{or-false, or_assoc}
use native.Mathlib.Decide.{ℕ_discrete}
use Rattle.ae_base.proofs.ListFacts.{get_front}
use Rattle.ae_math.specs.Fractions.{ℚ, one_ℚ, neg_ℚ, ◌*ℚ◌}
use Rattle.ae_math.specs.Forms.{SameForm, plus, scale}
use Rattle.ae_math.proofs.FormLaws.{same_sym, same_trans, plus-same, scale-same}
use Rattle.ae_num.specs.declared.forms.Lin.{Lin}
use Rattle.ae_num.specs.Forms.{meaning}
use Rattle.ae_rows.specs.Rows.{combination, factor_at, mixture}
use Rattle.ae_rows.proofs.Choosing.{positive_one}
use Rattle.ae_journal.proofs.Splits.{contains_cases, contains_here, contains_later, all_contained}
use Rattle.ae_ineq.specs.declared.solving.Inequality.{Inequality}
use Rattle.ae_ineq.specs.Sums.{Share, IsZero, SomeNonzero, forms_of, some_strict}
use Rattle.ae_ineq.specs.Inner.Derived.{IsNonzeroSum}
use Rattle.ae_ineq.proofs.Deriving.{mixture_both, among_both, positive_both}
use Rattle.ae_bounds.specs.declared.rows.Row.{Row}
use Rattle.ae_bounds.specs.declared.rows.Unrounded.{Unrounded}
use Rattle.ae_bounds.specs.declared.rows.Origin.{Origin}
use Rattle.ae_bounds.specs.declared.rows.Origin.TheVariants.{Assumed, Combined}
use Rattle.ae_bounds.specs.Findings.{AreFounded, IsTightAt}
use Rattle.ae_bounds.proofs.Sums.{some_none, plain_is, lower_nonzero, upper_nonzero, row_nonzero}
use Rattle.ae_bound_blocks.specs.Ancestors.{summands, sources, sources_at, IsSource, itself, parent}
use Rattle.ae_trim.specs.Inner.Marks.{MarkUsed}
use Rattle.ae_bound_blocks.specs.Inner.Marks.{as_lines}
use Rattle.ae_bound_blocks.specs.Inner.Listed.{AreListed}
use Rattle.ae_bound_blocks.specs.Tight.{IsGivenRow, inequality_of, with_row, inequalities_at, AreTight}
use Rattle.ae_bound_blocks.proofs.Adding.{alone}
use Rattle.ae_bound_blocks.proofs.Marking.{source_cases, sources_of, one_row, one_of_two, get_within, used_of, exactly}

-- ---- the inequalities of listed rows
more_rows : (o : Option Row) (others : List Inequality) (i : Inequality) → Contains others i → Contains (with_row o others) i
more_rows None others i c = c
more_rows (Some r) others i c = contains_later (inequality_of r) others i c

in_listed : (rows : List Row) (ks : List ℕ) (k : ℕ) (r : Row) → Contains ks k → slice_get rows k ≡ Some r → Contains (inequalities_at rows ks) (inequality_of r)
in_listed rows [] k r c at = absurd (all_contained (λ (x : ℕ). ⊥) [] k tt c)
in_listed rows (j ∷ ks) k r c at = elim (contains_cases j ks k c) [
  | inl e ↦ subst (λ (o : Option Row). Contains (with_row o (inequalities_at rows ks)) (inequality_of r)) (sym (ap (slice_get rows) e ∙ at)) (contains_here (inequality_of r) (inequalities_at rows ks))
  | inr d ↦ more_rows (slice_get rows j) (inequalities_at rows ks) (inequality_of r) (in_listed rows ks k r d at)
]

-- ---- shares
abbrev HasShare : List Share → Row → Type 0
HasShare us t = (u : Share) × Contains us u × (u.row ≡ inequality_of t)

in_map : (f : Share → Share) (us : List Share) (u : Share) → Contains us u → Contains (map f us) (f u)
in_map f [] u (k, l, e) = absurd (omega (arith, l))
in_map f (x ∷ us) u c = elim (contains_cases x us u c) [
  | inl e ↦ subst (λ (y : Share). Contains (f x ∷ map f us) (f y)) e (contains_here (f x) (map f us))
  | inr d ↦ contains_later (f x) (map f us) (f u) (in_map f us u d)
]

share_first : (f : Share → Share) (us vs : List Share) (t : Row) → ((u : Share) → (f u).row ≡ u.row) → HasShare us t → HasShare (map f us ++ vs) t
share_first f us vs t same h = (f h.0, Contains-append_left (map f us) vs (f h.0) (in_map f us h.0 h.1), same h.0 ∙ h.2)

share_second : (f : Share → Share) (us vs : List Share) (t : Row) → ((u : Share) → (f u).row ≡ u.row) → HasShare vs t → HasShare (us ++ map f vs) t
share_second f us vs t same h = (f h.0, Contains-append_right us (map f vs) (f h.0) (in_map f vs h.0 h.1), same h.0 ∙ h.2)

-- ---- multiples
abbrev times : ℚ → Share → Share
times a u = record { factor = a *ℚ u.factor; row = u.row }

strict_times : (a : ℚ) (us : List Share) → some_strict (map (times a) us) ≡ some_strict us
strict_times a [] = refl
strict_times a (u ∷ us) = ap (λ b. u.row.strict || b) (strict_times a us)

strict_both : (a b : ℚ) (us vs : List Share) → some_strict (map (times a) us ++ map (times b) vs) ≡ some_strict us || some_strict vs
strict_both a b [] vs = strict_times b vs
strict_both a b (u ∷ us) vs = ap (λ c. u.row.strict || c) (strict_both a b us vs) ∙ sym (or_assoc u.row.strict (some_strict us) (some_strict vs))

nonzero_front : (a : ℚ) (us vs : List Share) → SomeNonzero us → SomeNonzero (map (times a) us ++ vs)
nonzero_front a [] vs h = absurd h
nonzero_front a (u ∷ us) vs (inl h) = inl h
nonzero_front a (u ∷ us) vs (inr h) = inr (nonzero_front a us vs h)

-- ---- a row that was assumed or rounded is a sum of itself alone
given_alone : (r : Row) → IsGivenRow r → sources false r ≡ []
given_alone r g = by_kind r.unrounded r.from refl refl
  where
    by_kind : (u : Option Unrounded) (o : Origin) → r.unrounded ≡ u → r.from ≡ o → summands r.unrounded r.from ≡ []
    by_kind (Some u) o e f = ap (λ (x : Option Unrounded). summands x r.from) e
    by_kind None (Assumed tag) e f = (λ i. summands (e i) (f i))
    by_kind None (Combined lower upper) e f = let w = g lower upper f in absurd (some_none w.0 r.unrounded w.1 e)

plain_sources : (r : Row) (lower upper : ℕ) → r.from ≡ Combined lower upper → r.unrounded ≡ None → sources false r ≡ lower ∷ upper ∷ []
plain_sources r lower upper f e = λ i. summands (e i) (f i)

kind_of : (r : Row) → IsGivenRow r ⊎ ((lower : ℕ) × (upper : ℕ) × (r.from ≡ Combined lower upper) × (r.unrounded ≡ None))
kind_of r = by_kind r.unrounded r.from refl refl
  where
    not_combined : (tag lower upper : ℕ) → ◌≡◌ {A = Origin} (Assumed tag) (Combined lower upper) → ⊥
    not_combined tag lower upper e = cc

    by_kind : (u : Option Unrounded) (o : Origin) → r.unrounded ≡ u → r.from ≡ o → IsGivenRow r ⊎ ((lower : ℕ) × (upper : ℕ) × (r.from ≡ Combined lower upper) × (r.unrounded ≡ None))
    by_kind (Some u) o e f = inl (λ lower upper h. (u, e))
    by_kind None (Assumed tag) e f = inl (λ lower upper h. absurd (not_combined tag lower upper (sym f ∙ h)))
    by_kind None (Combined lower upper) e f = inr (lower, upper, f, e)

module _ (rows : List Row) (founded : AreFounded rows) (place : ℕ) (numbers : List ℕ) (listed : (k : ℕ) (r : Row) → IsSource false rows place k → slice_get rows k ≡ Some r → IsGivenRow r → Contains numbers k) where
  abbrev given : List Inequality
  given = inequalities_at rows numbers

  -- the row is a sum of the listed ones, in which each that it is made of has a share
  record IsShared (k : ℕ) (r : Row) : Type 0 where
    pub sum : IsNonzeroSum given (meaning r.lin) r.strict
    pub each : (j : ℕ) (t : Row) → IsSource false rows k j → slice_get rows j ≡ Some t → IsGivenRow t → HasShare sum.sum.shares t

  given_row : (k : ℕ) (r : Row) → IsSource false rows place k → slice_get rows k ≡ Some r → IsGivenRow r → ¬ IsZero (meaning r.lin) → IsShared k r
  given_row k r s at g z =
      let c = in_listed rows numbers k r (listed k r s at g) at in
      let f = meaning r.lin in
      record {
        sum = record {
          sum = record {
            shares = record { factor = one_ℚ; row = inequality_of r } ∷ [];
            among = (c, tt);
            positive = (positive_one, tt);
            same = same_sym ℕ_discrete f (mixture ((one_ℚ, f) ∷ [])) (alone f);
            is_strict = or-false r.strict;
          };
          some = inl z;
        };
        each = λ j t a b h. elim (source_cases false rows k j a) [
          | inl e ↦ (record { factor = one_ℚ; row = inequality_of r }, contains_here (record { factor = one_ℚ; row = inequality_of r }) [], ap inequality_of (one_row rows k j r t e at b))
          | inr q ↦ absurd (all_contained (λ (x : ℕ). ⊥) [] q.0 tt (subst (λ (ps : List ℕ). Contains ps q.0) (sources_of false rows k r at ∙ given_alone r g) q.1))
        ];
      }

  module _ (k : ℕ) (r : Row) (at : slice_get rows k ≡ Some r) (s : IsSource false rows place k) (lower upper : ℕ) (from : r.from ≡ Combined lower upper) (plain : r.unrounded ≡ None)
      (before : (i : ℕ) (t : Row) → i < k → IsSource false rows place i → slice_get rows i ≡ Some t → ¬ IsZero (meaning t.lin) → IsShared i t) where
    here : sources_at false rows k ≡ lower ∷ upper ∷ []
    here = sources_of false rows k r at ∙ plain_sources r lower upper from plain

    plain_row : IsShared k r
    plain_row =
        let c = founded k lower upper r at from in
        let same_from : Combined lower upper ≡ Combined c.lower c.upper = sym from ∙ c.from in
        let low : lower ≡ c.lower = cc same_from in
        let up : upper ≡ c.upper = cc same_from in
        let a = get_front rows k c.lower c.first c.opposed.first_at in
        let b = get_front rows k c.upper c.second c.opposed.second_at in
        let first_in : Contains (sources_at false rows k) c.lower = subst (λ (ps : List ℕ). Contains ps c.lower) (sym here) (zero, (let l : 0 < 2 = omega arith in l), low) in
        let second_in : Contains (sources_at false rows k) c.upper = subst (λ (ps : List ℕ). Contains ps c.upper) (sym here) (suc zero, (let l : 1 < 2 = omega arith in l), up) in
        let m = before c.lower c.first a.1 (parent k c.lower s first_in) a.0 (lower_nonzero c.name c.first c.opposed.below) in
        let n = before c.upper c.second b.1 (parent k c.upper s second_in) b.0 (upper_nonzero c.name c.second c.opposed.above) in
        let f = meaning c.first.lin in
        let g = meaning c.second.lin in
        let x = neg_ℚ (factor_at c.name g) in
        let y = factor_at c.name f in
        let is = plain_is c.of.form (c.first.strict || c.second.strict) r c.of.of plain in
        let us = m.sum.sum.shares in
        let vs = n.sum.sum.shares in
        let low_sign = c.opposed.above.sign in
        let up_sign = c.opposed.below.sign in
        let form = mixture (forms_of (map (times x) us ++ map (times y) vs)) in
        record {
          sum = record {
            sum = record {
              shares = map (times x) us ++ map (times y) vs;
              among = among_both given x y low_sign up_sign us vs m.sum.sum.among n.sum.sum.among;
              positive = positive_both given x y low_sign up_sign us vs m.sum.sum.positive n.sum.sum.positive;
              same = subst (λ (l : Lin). SameForm ℕ_discrete form (meaning l)) (sym is.0)
                  (same_trans ℕ_discrete form (combination c.name f g) (meaning c.of.form)
                  (same_trans ℕ_discrete form (plus (scale x (mixture (forms_of us))) (scale y (mixture (forms_of vs)))) (combination c.name f g) (mixture_both given x y low_sign up_sign us vs)
                  (plus-same ℕ_discrete (scale x (mixture (forms_of us))) (scale x f) (scale y (mixture (forms_of vs))) (scale y g) (scale-same ℕ_discrete x (mixture (forms_of us)) f m.sum.sum.same)
                  (scale-same ℕ_discrete y (mixture (forms_of vs)) g n.sum.sum.same)))
                  (same_sym ℕ_discrete (meaning c.of.form) (combination c.name f g) c.of.same));
              is_strict = strict_both x y us vs ∙ (λ i. m.sum.sum.is_strict i || n.sum.sum.is_strict i) ∙ sym is.1;
            };
            some = nonzero_front x us (map (times y) vs) m.sum.some;
          };
          each = λ j t d e h. elim (source_cases false rows k j d) [
            | inl q ↦ absurd (not_given t (one_row rows k j r t q at e) h)
            | inr q ↦
                elim (one_of_two lower upper q.0 (subst (λ (ps : List ℕ). Contains ps q.0) here q.1)) [
                  | inl o ↦ share_first (times x) us (map (times y) vs) t (λ u. refl) (m.each j t (subst (λ p. IsSource false rows p j) (sym o ∙ low) q.2) e h)
                  | inr o ↦ share_second (times y) (map (times x) us) vs t (λ u. refl) (n.each j t (subst (λ p. IsSource false rows p j) (sym o ∙ up) q.2) e h)
                ]
          ];
        }
      where
        not_given : (t : Row) → r ≡ t → IsGivenRow t → ⊥
        not_given t e g = let w = g lower upper (ap (λ (y : Row). y.from) (sym e) ∙ from) in some_none w.0 t.unrounded w.1 (ap (λ (y : Row). y.unrounded) (sym e) ∙ plain)

  shared_below : (n k : ℕ) (r : Row) → k < n → IsSource false rows place k → slice_get rows k ≡ Some r → ¬ IsZero (meaning r.lin) → IsShared k r
  shared_below zero k r l s at z = absurd (omega (arith, l))
  shared_below (suc n) k r l s at z = by_kind (λ i t m d e y. shared_below n i t (omega (arith, l, m)) d e y) (kind_of r)
    where
      by_kind : ((i : ℕ) (t : Row) → i < k → IsSource false rows place i → slice_get rows i ≡ Some t → ¬ IsZero (meaning t.lin) → IsShared i t)
          → IsGivenRow r ⊎ ((lower : ℕ) × (upper : ℕ) × (r.from ≡ Combined lower upper) × (r.unrounded ≡ None)) → IsShared k r
      by_kind before (inl g) = given_row k r s at g z
      by_kind before (inr p) = plain_row k r at s p.0 p.1 p.2 p.3 before

  -- the combination that is 0
  module _ (h : IsTightAt rows place) where
    plain_here : (o : Option Unrounded) → h.row.unrounded ≡ o → h.row.unrounded ≡ None
    plain_here None e = e
    plain_here (Some u) e =
        let c = founded place h.lower h.upper h.row h.at h.from in
        absurd (row_nonzero c.of.form (c.first.strict || c.second.strict) h.row u c.of.normal c.of.of e h.zero)

    whole : IsShared place h.row
    whole = plain_row place h.row h.at itself h.lower h.upper h.from (plain_here h.row.unrounded refl) (λ i t l d e y. shared_below place i t l d e y)

    pub are_tight : ((k : ℕ) → Contains numbers k → (r : Row) × (slice_get rows k ≡ Some r) × IsGivenRow r × IsSource false rows place k) → AreTight rows numbers
    are_tight sound =
        let w = whole in
        record {
          given = λ k c. let r = sound k c in (r.0, r.1, r.2);
          tight = record {
            form = meaning h.row.lin;
            sum = record { shares = w.sum.sum.shares; among = w.sum.sum.among; positive = w.sum.sum.positive; same = w.sum.sum.same; is_strict = w.sum.sum.is_strict ∙ h.loose };
            zero = h.zero;
            some = w.sum.some;
          };
          shares = λ k r c e.
              let s = sound k c in
              let same : s.0 ≡ r = one_row rows k k s.0 r refl s.1 e in
              w.each k r s.3 e (subst IsGivenRow same s.2);
        }

-- the listed ones of the rows of which the combination is a sum
pub tight_rows : (rows : List Row) (place : ℕ) (founded : AreFounded rows) (h : IsTightAt rows place) (ms : List Bool) (numbers : List ℕ) → MarkUsed (as_lines false (take (place + 1) rows)) ms
    → AreListed (take (place + 1) rows) ms (length (take (place + 1) rows)) numbers → AreTight rows numbers
tight_rows rows place founded h ms numbers m a = are_tight rows founded place numbers listed h sound
  where
    within : place < length rows
    within = slice_get_within rows place h.row h.at

    listed : (k : ℕ) (r : Row) → IsSource false rows place k → slice_get rows k ≡ Some r → IsGivenRow r → Contains numbers k
    listed k r s at g =
        let l = (used_of false rows place within founded k s).1 in
        let w = within in
        let long = length-take-le (place + 1) rows (omega (arith, w)) in
        a.all k (record { row = r; at = get_within (place + 1) rows k l ∙ at; is_given = g; is_marked = (exactly false rows place within founded ms m k).1 s; within = omega (arith, l, long) })

    sound : (k : ℕ) → Contains numbers k → (r : Row) × (slice_get rows k ≡ Some r) × IsGivenRow r × IsSource false rows place k
    sound k c = let w = a.sound k c in (w.row, (get_front rows (place + 1) k w.row w.at).0, w.is_given, (exactly false rows place within founded ms m k).0 w.is_marked)
