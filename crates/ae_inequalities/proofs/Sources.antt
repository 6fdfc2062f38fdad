-- What gives the assumed rows, and one row more.
use Rattle.std.specs.Prelude.{ℕ, ℤ, zero, suc, ◌≡◌, true, false, List, [], ◌∷◌, ◌++◌, length, slice_get, Some}
use Rattle.std.specs.List.{Contains, flat_map}
use Rattle.std.proofs.Common.{arith, sym, ap, ◌∙◌, subst, inl, inr, length-append}
use Rattle.std.proofs.lemmas.List.Elements.{Contains-append_cases}
use Rattle.ae_base.specs.Options.{or_else}
use Rattle.ae_base.proofs.ListFacts.{get_append, get_seam, value_at}
use Rattle.ae_math.specs.Forms.{single}
use Rattle.ae_core.specs.declared.formulas.Lit.{Lit}
use Rattle.ae_core.specs.declared.terms.Term.{Term, Bound}
use Rattle.ae_core.specs.declared.problems.Signature.{Signature}
use Rattle.ae_num.specs.declared.forms.Part.{Part}
use Rattle.ae_rules.specs.Linear.{form}
use Rattle.ae_store.specs.Stores.{Stored}
use Rattle.ae_store.specs.Terms.{named, HasOneName}
use Rattle.ae_journal.proofs.Splits.{all_contained, contains_one}
use Rattle.ae_state_steps.specs.ValueSteps.{IsNumberName}
use Rattle.ae_theory.specs.Names.{terms_in}
use Rattle.ae_theory.specs.Noting.{IsBlockOf}
use Rattle.ae_theory.specs.Tagged.{Tagged}
use Rattle.ae_bounds.specs.declared.rows.Row.{Row as Kept}
use Rattle.ae_bounds.specs.declared.rows.Unrounded.{Unrounded}
use Rattle.ae_bounds.specs.declared.rows.Origin.{Origin}
use Rattle.ae_bounds.specs.declared.rows.Origin.TheVariants.{Assumed}
use Rattle.ae_bounds.specs.Rounding.{IsAssumed}
use Rattle.ae_bound_blocks.specs.declared.given.Given.{Given}
use Rattle.ae_bound_blocks.specs.Ancestors.{hyps_of}
use Rattle.ae_bound_blocks.specs.Said.{was, IsGiven}
use Rattle.ae_bound_blocks.proofs.OneMore.{was_form}
use Rattle.ae_bound_blocks.proofs.Sorting.{name_within}
use Rattle.ae_bound_solve.specs.Given.{AreAllGiven, IsWholeName, AreOpaqueNames}
use Rattle.ae_inequalities.specs.declared.rows.Row.{Row}
use Rattle.ae_inequalities.specs.Rows.{given_by, IsRightRow}
use Rattle.ae_inequalities.specs.Held.{Held, tags_at, Fits}

-- ---- names
-- a name of a number is that of its term
pub name_at : (sig : Signature) (ts : List Term) (real : _) (n : ℕ) → IsNumberName sig ts real n → slice_get ts n ≡ Some (named ts n)
name_at sig ts real n h = let v = value_at ts n (name_within sig ts real n h) in v.1 ∙ ap Some (sym (ap (λ o. or_else o (Bound 0)) v.1))

module _ (sig : Signature) (ts : List Term) (one_name : HasOneName ts) (rows : List Kept) (given : List Given) (all : AreAllGiven sig ts rows given) where
  whole_at : (n : ℕ) → IsWholeName rows n → slice_get ts n ≡ Some (named ts n)
  whole_at n w =
      let g = all w.row w.tag w.among w.from in
      subst (λ k. slice_get ts k ≡ Some (named ts k)) w.is
      (name_at sig ts (g.0).real w.part.key (all_contained (λ (p : Part). IsNumberName sig ts (g.0).real p.key) (was w.row).lin.parts w.part (g.2).numbers w.in_row))

  pub opaque_names : ((n : ℕ) → IsWholeName rows n → form (named ts n) ≡ single (named ts n)) → AreOpaqueNames ts rows
  opaque_names opaque = record { opaque = opaque; apart = λ n m w v e. one_name n m (named ts n) (whole_at n w) (whole_at m v ∙ ap Some (sym e)) }

-- ---- no row
pub nothing_fits : (s : Stored) → Fits s (record { rows = []; given = []; tags = [] })
nothing_fits s = record { given = λ r tag c. absurd (let l = c.1 in omega (arith, l)); opaque = λ n w. absurd (let l = w.among.1 in omega (arith, l)) }

-- the number by which it is multiplied, read back
pub given_back : (r : Row) (m : ℤ) (given gs : List Given) → m ≡ r.multiple → gs ≡ given ++ record { deriv = r.from.deriv; multiple = m; real = r.real } ∷ [] → gs ≡ given ++ given_by r ∷ []
given_back r m given gs e f = f ∙ ap (λ (x : ℤ). given ++ record { deriv = r.from.deriv; multiple = x; real = r.real } ∷ []) e

-- ---- one row more
module _ (s : Stored) (old : Held) (r : Row) (fits : Fits s old) (right : IsRightRow s.signature (terms_in s) r) (kept : Kept) (assumed : IsAssumed r.lin r.strict r.integral (length old.given) kept) where
  was_own : was kept ≡ record { lin = r.lin; strict = r.strict }
  was_own = was_form r.lin r.strict kept assumed.of

  given_more : AreAllGiven s.signature (terms_in s) (old.rows ++ kept ∷ []) (old.given ++ given_by r ∷ [])
  given_more x tag c e =
      elim (Contains-append_cases old.rows (kept ∷ []) x c) [
        | inl h ↦ (let g = fits.given x tag h e in (g.0, get_append old.given (given_by r ∷ []) tag g.0 g.1, g.2, g.3))
        | inr h ↦
            let is = contains_one kept x h in
            let number : length old.given ≡ tag = (let z : ◌≡◌ {A = Origin} (Assumed (length old.given)) (Assumed tag) = sym assumed.from ∙ ap (λ (y : Kept). y.from) is ∙ e in cc) in
            subst (λ (y : Kept). (g : Given) × (slice_get (old.given ++ given_by r ∷ []) tag ≡ Some g) × IsGiven s.signature (terms_in s) g.real (was y) g × (y.integral ≡ true → g.real ≡ false)) is (
              given_by r,
              ap (slice_get (old.given ++ given_by r ∷ [])) (sym number) ∙ get_seam old.given [] (given_by r),
              subst (λ (u : Unrounded). IsGiven s.signature (terms_in s) r.real u (given_by r)) (sym was_own) right.said,
              λ i. right.whole (sym assumed.sort ∙ i),
            )
      ]

  opaque_more : (n : ℕ) → IsWholeName (old.rows ++ kept ∷ []) n → form (named (terms_in s) n) ≡ single (named (terms_in s) n)
  opaque_more n w =
      elim (Contains-append_cases old.rows (kept ∷ []) w.row w.among) [
        | inl h ↦ fits.opaque n (record { row = w.row; among = h; tag = w.tag; from = w.from; integral = w.integral; part = w.part; in_row = w.in_row; is = w.is })
        | inr h ↦
            let is = contains_one kept w.row h in
            let i : r.integral ≡ true = sym assumed.sort ∙ ap (λ (y : Kept). y.integral) is ∙ w.integral in
            let here : Contains r.lin.parts w.part = subst (λ (u : Unrounded). Contains u.lin.parts w.part) was_own (subst (λ (y : Kept). Contains (was y).lin.parts w.part) (sym is) w.in_row) in
            subst (λ k. form (named (terms_in s) k) ≡ single (named (terms_in s) k)) w.is
            (all_contained (λ (p : Part). form (named (terms_in s) p.key) ≡ single (named (terms_in s) p.key)) r.lin.parts w.part (right.opaque i) here)
      ]

  pub fits_added : (rows : List Kept) (given : List Given) (tags : List (List ℕ)) → rows ≡ old.rows ++ kept ∷ [] → given ≡ old.given ++ given_by r ∷ [] → Fits s (record { rows = rows; given = given; tags = tags })
  fits_added rows given tags e f = record {
    given = subst (λ (w : List Kept). AreAllGiven s.signature (terms_in s) w given) (sym e) (subst (AreAllGiven s.signature (terms_in s) (old.rows ++ kept ∷ [])) (sym f) given_more);
    opaque = λ n w. opaque_more n (subst (λ (v : List Kept). IsWholeName v n) e w);
  }

-- ---- tags
pub pushed_tags : (assumed : List Tagged) (given : List Given) (tags : List (List ℕ)) (g : Given) (own : List ℕ) → length tags ≡ length given → ((k : ℕ) → IsBlockOf assumed (hyps_of given k) (tags_at tags k))
    → IsBlockOf assumed g.deriv.hyps own
    → (k : ℕ) → IsBlockOf assumed (hyps_of (given ++ g ∷ []) k) (tags_at (tags ++ own ∷ []) k)
pushed_tags assumed [] [] g own e all one zero = one
pushed_tags assumed [] [] g own e all one (suc k) = tt
pushed_tags assumed [] (t ∷ tags) g own e all one k = absurd (omega (arith, e))
pushed_tags assumed (x ∷ given) [] g own e all one k = absurd (omega (arith, e))
pushed_tags assumed (x ∷ given) (t ∷ tags) g own e all one zero = all zero
pushed_tags assumed (x ∷ given) (t ∷ tags) g own e all one (suc k) = pushed_tags assumed given tags g own (let h : length tags ≡ length given = omega (arith, e) in h) (λ i. all (suc i)) one k

pub tags_added : (assumed : List Tagged) (given gs : List Given) (tags ts : List (List ℕ)) (g : Given) (own : List ℕ) → gs ≡ given ++ g ∷ [] → ts ≡ tags ++ own ∷ [] → length tags ≡ length given
    → ((k : ℕ) → IsBlockOf assumed (hyps_of given k) (tags_at tags k)) → IsBlockOf assumed g.deriv.hyps own → (k : ℕ) → IsBlockOf assumed (hyps_of gs k) (tags_at ts k)
tags_added assumed given gs tags ts g own e f same all one k =
    subst (λ (w : List Given). IsBlockOf assumed (hyps_of w k) (tags_at ts k)) (sym e)
    (subst (λ (w : List (List ℕ)). IsBlockOf assumed (hyps_of (given ++ g ∷ []) k) (tags_at w k)) (sym f) (pushed_tags assumed given tags g own same all one k))

pub same_length : (given gs : List Given) (tags ts : List (List ℕ)) (g : Given) (own : List ℕ) → gs ≡ given ++ g ∷ [] → ts ≡ tags ++ own ∷ [] → length tags ≡ length given → length ts ≡ length gs
same_length given gs tags ts g own e f same =
    let a = length-append given (g ∷ []) in
    let b = length-append tags (own ∷ []) in
    let c : length gs ≡ length (given ++ g ∷ []) = ap length e in
    let d : length ts ≡ length (tags ++ own ∷ []) = ap length f in
    omega (arith, a, b, c, d, same)

-- a state that is as it was
pub state_same : (P : Held → Type 0) (rows rs : List Kept) (given gs : List Given) (tags ts : List (List ℕ)) → rs ≡ rows → gs ≡ given → ts ≡ tags → P (record { rows = rows; given = given; tags = tags })
    → P (record { rows = rs; given = gs; tags = ts })
state_same P rows rs given gs tags ts e f g p = subst P (λ i. record { rows = sym e i; given = sym f i; tags = sym g i }) p

block_append : (assumed : List Tagged) (a b : List Lit) (c d : List ℕ) → IsBlockOf assumed a c → IsBlockOf assumed b d → IsBlockOf assumed (a ++ b) (c ++ d)
block_append assumed [] b [] d h k = k
block_append assumed [] b (t ∷ c) d h k = absurd h
block_append assumed (l ∷ a) b [] d h k = absurd h
block_append assumed (l ∷ a) b (t ∷ c) d h k = (h.0, block_append assumed a b c d h.1 k)

pub joined_tags : (assumed : List Tagged) (given : List Given) (tags : List (List ℕ)) → ((k : ℕ) → IsBlockOf assumed (hyps_of given k) (tags_at tags k))
    → (used : List ℕ) → IsBlockOf assumed (flat_map (hyps_of given) used) (flat_map (tags_at tags) used)
joined_tags assumed given tags all [] = tt
joined_tags assumed given tags all (k ∷ used) = block_append assumed (hyps_of given k) (flat_map (hyps_of given) used) (tags_at tags k) (flat_map (tags_at tags) used) (all k) (joined_tags assumed given tags all used)
