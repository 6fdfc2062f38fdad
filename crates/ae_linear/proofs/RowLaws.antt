-- Rows in which a value is put for a name.
use Rattle.std.proofs.lemmas.Bool.{cases_lt}
use Rattle.std.specs.Prelude.{◌≡◌, ◌≢◌, ℕ, ◌+◌, ◌<◌, ◌≤◌, ◌⊎◌, pos, Bool, true, false, ◌||◌, nat_eq, List, [], ◌∷◌, length, slice_index_or, Option, Some, None, cond}
use Rattle.std.specs.List.{AllByRecursion, Contains}
use Rattle.std.specs.List.Sorted.{IsNonDecreasing}
use Rattle.std.proofs.Common.{refl, sym, ap, ◌∙◌, subst, arith, inl, inr}
use Rattle.std.proofs.lemmas.List.Elements.{Contains-get_or}
use Rattle.std.proofs.lemmas.List.{get_or_default}
use native.Mathlib.Decide.{ℕ_discrete}
use Rattle.ae_math.specs.Fractions.{ℚ, ◌+ℚ◌, ◌*ℚ◌, zero_ℚ, ratio}
use Rattle.ae_math.specs.Forms.{factor, substitute}
use Rattle.ae_math.proofs.FractionLaws.{mul_zero_q, add_zero_q}
use Rattle.ae_math.proofs.FormLaws.{same_sym, same_trans, substitute_gone, substitute_absent, substitute_elsewhere}
use Rattle.ae_num.specs.declared.forms.Part.{Part}
use Rattle.ae_num.specs.declared.forms.Lin.{Lin}
use Rattle.ae_num.specs.declared.numbers.Wide.{Wide}
use Rattle.ae_num.specs.Forms.{meaning, SameMeaning, IsNormal, factor_of, has_key, first_wide, subst_steps}
use Rattle.ae_num.proofs.MeaningLaws.{factor_meaning, ratio_zero}
use Rattle.ae_num.proofs.SumLaws.{no_key}
use Rattle.ae_linear.specs.declared.rows.Row.{Row}
use Rattle.ae_linear.specs.Rows.{AreRows, IsSubstituted, IsSubstitutedAt, FitsAt, IsWideAt, IsFirstWide}
use Rattle.ae_linear.proofs.Solutions.{ratio_nonzero}

-- ---- keys and factors
pub key_factor_nonzero : (ps : List Part) (key : ℕ) → AllByRecursion (λ p. p.factor ≢ pos 0) ps → has_key ps key ≡ true → factor_of ps key ≢ pos 0
key_factor_nonzero [] key n h = cc
key_factor_nonzero (p ∷ ps) key n h = by_test (nat_eq p.key key) refl (λ k. key_factor_nonzero ps key n.1 k)
  where
    by_test : (b : Bool) → nat_eq p.key key ≡ b → (has_key ps key ≡ true → factor_of ps key ≢ pos 0) → cond (nat_eq p.key key) p.factor (factor_of ps key) ≢ pos 0
    by_test true e below z = n.0 (sym (ap (λ b. cond b p.factor (factor_of ps key)) e) ∙ z)
    by_test false e below z = below (sym (ap (λ b. b || has_key ps key) e) ∙ h) (sym (ap (λ b. cond b p.factor (factor_of ps key)) e) ∙ z)

pub lacks_factor : (p : Lin) (key : ℕ) → IsNormal p → has_key p.parts key ≡ false → factor ℕ_discrete (meaning p) key ≡ zero_ℚ
lacks_factor p key n h = factor_meaning p key n.rising ∙ ap (λ z. ratio z p.den) (no_key key p.parts h) ∙ ratio_zero p.den

pub has_factor : (p : Lin) (key : ℕ) → IsNormal p → has_key p.parts key ≡ true → factor ℕ_discrete (meaning p) key ≢ zero_ℚ
has_factor p key n h z = ratio_nonzero (factor_of p.parts key) p.den n.positive (key_factor_nonzero p.parts key n.nonzero h) (sym (factor_meaning p key n.rising) ∙ z)

pub lacks_key : (p : Lin) (key : ℕ) → IsNormal p → factor ℕ_discrete (meaning p) key ≡ zero_ℚ → has_key p.parts key ≡ false
lacks_key p key n z = by_test (has_key p.parts key) refl
  where
    by_test : (b : Bool) → has_key p.parts key ≡ b → has_key p.parts key ≡ false
    by_test true e = absurd (has_factor p key n e z)
    by_test false e = e

nothing_plus : (a c y : ℚ) → a ≡ zero_ℚ → y ≡ zero_ℚ → a +ℚ c *ℚ y ≡ zero_ℚ
nothing_plus a c y e z = ap (λ u. u +ℚ c *ℚ y) e ∙ ap (λ u. zero_ℚ +ℚ c *ℚ u) z ∙ ap (λ u. zero_ℚ +ℚ u) (mul_zero_q c) ∙ add_zero_q zero_ℚ

-- a form that another one is put into for a name
module _ (old : Lin) (x : ℕ) (q new : Lin) (nold : IsNormal old) (nq : IsNormal q) (nn : IsNormal new) (lacks : has_key q.parts x ≡ false) (s : SameMeaning (meaning new) (substitute ℕ_discrete (meaning old) x (meaning q))) where
  pub gone : has_key new.parts x ≡ false
  gone = lacks_key new x nn (s.factors x ∙ substitute_gone ℕ_discrete (meaning old) x (meaning q) (lacks_factor q x nq lacks))

  -- each of its names comes from one of the two
  pub came_from : (key : ℕ) → has_key new.parts key ≡ true → (has_key old.parts key ≡ true) ⊎ (has_key q.parts key ≡ true)
  came_from key h = by_tests (has_key old.parts key) (has_key q.parts key) refl refl
    where
      neither : has_key old.parts key ≡ false → has_key q.parts key ≡ false → Dec (x ≡ key) → factor ℕ_discrete (meaning new) key ≡ zero_ℚ
      neither a b (yes e) = subst (λ (k : ℕ). factor ℕ_discrete (meaning new) k ≡ zero_ℚ) e (lacks_factor new x nn gone)
      neither a b (no d) =
          s.factors key ∙ substitute_elsewhere ℕ_discrete (meaning old) x (meaning q) key d
          ∙ nothing_plus (factor ℕ_discrete (meaning old) key) (factor ℕ_discrete (meaning old) x) (factor ℕ_discrete (meaning q) key) (lacks_factor old key nold a) (lacks_factor q key nq b)

      by_tests : (a b : Bool) → has_key old.parts key ≡ a → has_key q.parts key ≡ b → (has_key old.parts key ≡ true) ⊎ (has_key q.parts key ≡ true)
      by_tests true b e f = inl e
      by_tests false true e f = inr f
      by_tests false false e f = absurd (has_factor new key nn h (neither e f (ℕ_discrete x key)))

-- ---- one row
pub normal_at : (o p : Option Row) (name : ℕ) (value : Lin) (row : Row) → IsSubstitutedAt o name value p → p ≡ Some row → IsNormal row.value
normal_at None p name value row h e = let c : None ≡ Some row = sym h ∙ e in cc
normal_at (Some old) p name value row h e = let c : Some h.0 ≡ Some row = sym h.1 ∙ e in let s : h.0 ≡ row = cc in subst (λ (r : Row). IsNormal r.value) s h.2.normal

-- the row that it was
pub old_at : (o p : Option Row) (name : ℕ) (value : Lin) (row : Row) → IsSubstitutedAt o name value p → p ≡ Some row → (old : Row) × (o ≡ Some old) × IsSubstituted old name value row
old_at None p name value row h e = let c : None ≡ Some row = sym h ∙ e in cc
old_at (Some old) p name value row h e = let c : Some h.0 ≡ Some row = sym h.1 ∙ e in let s : h.0 ≡ row = cc in (old, refl, subst (λ (r : Row). IsSubstituted old name value r) s h.2)

no_steps : (row : Row) (x : ℕ) (q : Lin) → has_key row.value.parts x ≡ false → first_wide (subst_steps row.value x q) ≡ None
no_steps row x q h = rw h refl

-- the value is put for the name in the row, and nothing left the limits
abbrev pub Visited : ℕ → Lin → (ℕ → Option Row) → (ℕ → Option Row) → ℕ → Type 0
Visited x q old now n = IsSubstitutedAt (old n) x q (now n) × FitsAt (old n) x q

-- the rows before a place of a list were visited
pub record Visiting (x : ℕ) (q : Lin) (old now : ℕ → Option Row) (names : List ℕ) (i : ℕ) : Type 0 where
  pub each : (n : ℕ) → (now n ≡ old n) ⊎ Visited x q old now n
  pub visited : (j d : ℕ) → j < i → Visited x q old now (slice_index_or names j d)
  pub touched : (n : ℕ) → Contains names n ⊎ (now n ≡ old n)

module _ (x : ℕ) (q : Lin) (nq : IsNormal q) (lacks : has_key q.parts x ≡ false) where
  -- a row without the name stays
  pub stays_at : (o p : Option Row) → ((row : Row) → o ≡ Some row → IsNormal row.value × (has_key row.value.parts x ≡ false)) → p ≡ o → IsSubstitutedAt o x q p
  stays_at None p h e = e
  stays_at (Some row) p h e =
      let t = h row refl in (
        row,
        e,
        record {
          form = same_sym ℕ_discrete _ _ (substitute_absent ℕ_discrete (meaning row.value) x (meaning q) (lacks_factor row.value x t.0 t.1));
          normal = t.0;
          just = refl;
        },
      )

  -- a second time changes nothing
  pub again : (o p r : Option Row) → ((row : Row) → o ≡ Some row → IsNormal row.value) → IsSubstitutedAt o x q p → IsSubstitutedAt p x q r → IsSubstitutedAt o x q r
  again None p r n h k = let t = subst (λ (y : Option Row). IsSubstitutedAt y x q r) h k in t
  again (Some old) p r n h k = by_second (subst (λ (y : Option Row). IsSubstitutedAt y x q r) h.1 k)
    where
      by_second : IsSubstitutedAt (Some h.0) x q r → IsSubstitutedAt (Some old) x q r
      by_second t = (
        t.0,
        t.1,
        record {
          form = same_trans ℕ_discrete _ (meaning h.0.value) _
              (same_trans ℕ_discrete _ _ _ t.2.form
              (substitute_absent ℕ_discrete (meaning h.0.value) x (meaning q) (lacks_factor h.0.value x h.2.normal (gone old.value x q h.0.value (n old refl) nq h.2.normal lacks h.2.form))))
              h.2.form;
          normal = t.2.normal;
          just = t.2.just ∙ h.2.just;
        },
      )

  -- ---- all rows of a list
  pub visiting_none : (old : ℕ → Option Row) (names : List ℕ) → Visiting x q old old names 0
  visiting_none old names = record { each = λ n. inl refl; visited = λ j d h. absurd (omega (arith, h)); touched = λ n. inr refl }

  module _ (old now : ℕ → Option Row) (names : List ℕ) (i d : ℕ) (are : AreRows old) (v : Visiting x q old now names i) (inside : i < length names) where
    abbrev pub spot : ℕ
    spot = slice_index_or names i d

    pub normal_now : (row : Row) → now spot ≡ Some row → IsNormal row.value
    normal_now row e = by_case (v.each spot)
      where
        by_case : (now spot ≡ old spot) ⊎ Visited x q old now spot → IsNormal row.value
        by_case (inl s) = are.normal spot row (sym s ∙ e)
        by_case (inr h) = normal_at (old spot) (now spot) x q row h.0 e

    module _ (new : ℕ → Option Row) (sub : IsSubstitutedAt (now spot) x q (new spot)) (fit : FitsAt (now spot) x q) (others : (n : ℕ) → n ≢ spot → new n ≡ now n) where
      here : Visited x q old new spot
      here = by_case (v.each spot)
        where
          by_case : (now spot ≡ old spot) ⊎ Visited x q old now spot → Visited x q old new spot
          by_case (inl s) = (subst (λ (y : Option Row). IsSubstitutedAt y x q (new spot)) s sub, subst (λ (y : Option Row). FitsAt y x q) s fit)
          by_case (inr h) = (again (old spot) (now spot) (new spot) (λ row e. are.normal spot row e) h.0 sub, h.1)

      kept : (n : ℕ) → Visited x q old now n → Visited x q old new n
      kept n h = by_same (ℕ_discrete n spot)
        where
          by_same : Dec (n ≡ spot) → Visited x q old new n
          by_same (yes s) = subst (λ (k : ℕ). Visited x q old new k) (sym s) here
          by_same (no m) = (subst (λ (y : Option Row). IsSubstitutedAt (old n) x q y) (sym (others n m)) h.0, h.1)

      pub visiting_more : Visiting x q old new names (i + 1)
      visiting_more = record {
        each = λ n. by_same n (ℕ_discrete n spot);
        visited = λ j f h. by_place j f h (ℕ_discrete j i);
        touched = λ n. by_touch n (ℕ_discrete n spot);
      }
        where
          by_same : (n : ℕ) → Dec (n ≡ spot) → (new n ≡ old n) ⊎ Visited x q old new n
          by_same n (yes s) = inr (subst (λ (k : ℕ). Visited x q old new k) (sym s) here)
          by_same n (no m) = by_case (v.each n)
            where
              by_case : (now n ≡ old n) ⊎ Visited x q old now n → (new n ≡ old n) ⊎ Visited x q old new n
              by_case (inl s) = inl (others n m ∙ s)
              by_case (inr h) = inr (kept n h)

          by_place : (j f : ℕ) → j < i + 1 → Dec (j ≡ i) → Visited x q old new (slice_index_or names j f)
          by_place j f h (yes s) = subst (λ (k : ℕ). Visited x q old new k) (get_or_default names i d f inside ∙ ap (λ (k : ℕ). slice_index_or names k f) (sym s)) here
          by_place j f h (no m) = kept (slice_index_or names j f) (v.visited j f (omega (arith, h, m)))

          by_touch : (n : ℕ) → Dec (n ≡ spot) → Contains names n ⊎ (new n ≡ old n)
          by_touch n (yes s) = inl (subst (λ (k : ℕ). Contains names k) (sym s) (Contains-get_or names i d inside))
          by_touch n (no m) = by_case (v.touched n)
            where
              by_case : Contains names n ⊎ (now n ≡ old n) → Contains names n ⊎ (new n ≡ old n)
              by_case (inl t) = inl t
              by_case (inr s) = inr (others n m ∙ s)

    -- the first that leaves the limits
    pub first_here : IsNonDecreasing names → ((n : ℕ) (row : Row) → old n ≡ Some row → has_key row.value.parts x ≡ true → Contains names n) → (w : Wide) → IsWideAt (now spot) x q w → IsFirstWide old x q w
    first_here rises all w wide = record { at = spot; leaves = by_case (v.each spot); before = λ n l row e. by_key n l row e (has_key row.value.parts x) refl }
      where
        by_case : (now spot ≡ old spot) ⊎ Visited x q old now spot → IsWideAt (old spot) x q w
        by_case (inl s) = record { row = wide.row; there = sym s ∙ wide.there; leaves = wide.leaves }
        by_case (inr h) =
            let was = old_at (old spot) (now spot) x q wide.row h.0 wide.there in
            let c : None ≡ Some w = sym (no_steps wide.row x q (gone was.0.value x q wide.row.value (are.normal spot was.0 was.1) nq was.2.normal lacks was.2.form)) ∙ wide.leaves in
            cc

        by_key : (n : ℕ) → n < spot → (row : Row) → old n ≡ Some row → (b : Bool) → has_key row.value.parts x ≡ b → first_wide (subst_steps row.value x q) ≡ None
        by_key n l row e false h = no_steps row x q h
        by_key n l row e true h =
            let t = all n row e h in
            let fit : FitsAt (old (slice_index_or names t.0 n)) x q = (v.visited t.0 n (earlier t.0 t.1 t.2)).1 in
            fit row (ap old t.2 ∙ e)
          where
            earlier : (k : ℕ) → k < length names → slice_index_or names k n ≡ n → k < i
            earlier k inside_k is = by_order (cases_lt k i)
              where
                by_order : (k < i) ⊎ (i ≤ k) → k < i
                by_order (inl g) = g
                by_order (inr g) = let s = rises i k d g inside_k in let f = get_or_default names k d n inside_k in absurd (omega (arith, s, f, is, l))

  -- ---- when all of the list were visited
  module _ (old now : ℕ → Option Row) (names : List ℕ) (i : ℕ) (are : AreRows old) (v : Visiting x q old now names i) (over : length names ≤ i) (all : (n : ℕ) (row : Row) → old n ≡ Some row → has_key row.value.parts x ≡ true → Contains names n) where
    listed_visited : (n : ℕ) → Contains names n → Visited x q old now n
    listed_visited n t = subst (λ (k : ℕ). Visited x q old now k) t.2 (v.visited t.0 n (let l = t.1 in omega (arith, l, over)))

    pub all_substituted : (n : ℕ) → IsSubstitutedAt (old n) x q (now n)
    all_substituted n = by_case (v.each n)
      where
        by_row : now n ≡ old n → (o : Option Row) → old n ≡ o → IsSubstitutedAt (old n) x q (now n)
        by_row s None e = subst (λ (y : Option Row). IsSubstitutedAt y x q (now n)) (sym e) (s ∙ e)
        by_row s (Some row) e = by_key (has_key row.value.parts x) refl
          where
            by_key : (b : Bool) → has_key row.value.parts x ≡ b → IsSubstitutedAt (old n) x q (now n)
            by_key true h = (listed_visited n (all n row e h)).0
            by_key false h = stays_at (old n) (now n) (λ other f. let c : Some row ≡ Some other = sym e ∙ f in let g : row ≡ other = cc in (are.normal n other f, subst (λ (r : Row). has_key r.value.parts x ≡ false) g h)) s

        by_case : (now n ≡ old n) ⊎ Visited x q old now n → IsSubstitutedAt (old n) x q (now n)
        by_case (inl s) = by_row s (old n) refl
        by_case (inr h) = h.0

    pub all_fit : (n : ℕ) → FitsAt (old n) x q
    all_fit n row e = by_key (has_key row.value.parts x) refl
      where
        by_key : (b : Bool) → has_key row.value.parts x ≡ b → first_wide (subst_steps row.value x q) ≡ None
        by_key true h = let fit : FitsAt (old n) x q = (listed_visited n (all n row e h)).1 in fit row e
        by_key false h = no_steps row x q h
