-- The steps that say the values, after a number was put for a name.
use Rattle.std.specs.Prelude.{ℕ, ℤ, ◌<◌, ◌^◌, ◌≡◌, ◌≢◌, ◌*ℤ◌, ◌⊎◌, Bool, true, false, ◌||◌, nat_eq, cond, List, [], ◌∷◌, length, slice_get, Option, Some, None, unsigned_abs}
use Rattle.std.specs.List.{AllByRecursion}
use Rattle.std.proofs.Common.{refl, sym, ap, ◌∙◌, subst, inl, inr}
use Rattle.std.proofs.lemmas.Bool.{eqb-true}
use Rattle.std.proofs.lemmas.Option.{same_Some, none-some}
use native.Mathlib.Decide.{ℕ_discrete, dec_lt}
use Rattle.ae_base.proofs.AllOf.{all_at}
use Rattle.ae_base.proofs.Tests.{by_bool, by_either, true_false, false_true, nat_eq_itself}
use Rattle.ae_math.specs.Forms.{single, substitute}
use Rattle.ae_math.proofs.FormLaws.{same_sym, same_trans}
use Rattle.ae_core.specs.Sorts.{sort_of, is_numeric}
use Rattle.ae_core.specs.declared.terms.Sort.{Sort}
use Rattle.ae_core.specs.declared.terms.Term.{Term}
use Rattle.ae_core.specs.declared.problems.Signature.{Signature}
use Rattle.ae_num.specs.Forms.{meaning, SameMeaning, has_key, first_wide, subst_steps, is_wide, Product, Step as Stated, wide_of}
use Rattle.ae_num.specs.Limits.{FitsLimits}
use Rattle.ae_num.specs.declared.forms.Part.{Part}
use Rattle.ae_num.specs.declared.forms.Lin.{Lin}
use Rattle.ae_num.specs.declared.numbers.Wide.{Wide}
use Rattle.ae_num.proofs.StepLaws.{leaves as leaves_limits}
use Rattle.ae_num.proofs.UniqueLaws.{unique}
use Rattle.ae_num.proofs.MeaningLaws.{subst_absent}
use Rattle.ae_linear.specs.declared.rows.Row.{Row}
use Rattle.ae_linear.specs.Rows.{row_at, AreRows, IsSubstituted, IsSubstitutedAt, ArePut, FitsAt}
use Rattle.ae_pmap.specs.Forest.{present}
use Rattle.ae_pmap.specs.Pairs.{found, with_at}
use Rattle.ae_pmap.proofs.PairLemmas.{at_same, at_other}
use Rattle.ae_store.specs.Growing.{IsFront}
use Rattle.ae_store.specs.Parts.{IsIn}
use Rattle.ae_store.proofs.PartLaws.{in_none, in_one, is_one}
use Rattle.ae_store.specs.Terms.{named}
use Rattle.ae_just.specs.declared.steps.Step.{Step}
use Rattle.ae_just.specs.Steps.{Fits}
use Rattle.ae_just.specs.Needed.{RestsOn}
use Rattle.ae_just.specs.declared.steps.Rule.TheVariants as rule
use Rattle.ae_state_steps.specs.ValueSteps.{sort_for, IsNumberName, IsWritten}
use Rattle.ae_value_steps.specs.Stating.{IsStated}
use Rattle.ae_value_steps.proofs.Added.{stated_kept, equal_kept}
use Rattle.ae_value_table.specs.Table.{Contents, just_at, number_at, own}
use Rattle.ae_values.specs.declared.occurrences.Change.{Change}
use Rattle.ae_value_fitting.specs.Fitting.{AreSaid, IsNumberSaid, IsLeafSaid}
use Rattle.ae_value_fitting.specs.Sources.{IsPutFor, by_number, by_leaf, SaysValue, IsUnderValues, RestsOnValues, AreFromValues}
use Rattle.ae_value_fitting.proofs.Resting.{rests_still, says_within}
use Rattle.ae_values.specs.Inner.Before.{IsBefore, IsChanged}
use Rattle.ae_values.specs.Inner.Putting.{IsRestatable, IsCarried, AreRestated}
use Rattle.ae_value_fitting.proofs.Written.{number_by, own_normal, own_means, numeric_sort, one_sort}

-- ---- forms and limits
pub key_of_all : (P : ℕ → Type 0) (ps : List Part) (key : ℕ) → AllByRecursion (λ p. P p.key) ps → has_key ps key ≡ true → P key
key_of_all P [] key a h = false_true h
key_of_all P (p ∷ ps) key a h = by_either (nat_eq p.key key) (has_key ps key) h (λ e. subst P (eqb-true p.key key e) a.0) (λ e. key_of_all P ps key a.1 e)

within_limits : (s : Stated) (o : Option Wide) → cond (is_wide s) (Some (wide_of s)) o ≡ None → is_wide s ≡ false
within_limits s o e = by_bool (is_wide s) (λ t. absurd (none-some (wide_of s) (sym e ∙ ap (λ b. cond b (Some (wide_of s)) o) t))) (λ f. f)

fits_limits : (a b : ℤ) → is_wide (Product a b) ≡ false → Dec (unsigned_abs (a *ℤ b) < 2 ^ 127) → FitsLimits (a *ℤ b)
fits_limits a b e (yes l) = l
fits_limits a b e (no n) = true_false (sym (leaves_limits (Product a b) n) ∙ e)

first_fits : (b : Bool) (s : Stated) (ss : List Stated) → b ≡ true → first_wide (cond b (s ∷ ss) []) ≡ None → is_wide s ≡ false
first_fits true s ss h e = within_limits s (first_wide ss) e
first_fits false s ss h e = false_true h

pub dens_fit : (p : Lin) (key : ℕ) (q : Lin) → has_key p.parts key ≡ true → first_wide (subst_steps p key q) ≡ None → FitsLimits (p.den *ℤ q.den)
dens_fit p key q h e = fits_limits p.den q.den (first_fits (has_key p.parts key) (Product p.den q.den) _ h e) (dec_lt (unsigned_abs (p.den *ℤ q.den)) (2 ^ 127))

-- ---- sorts
-- a name that has a number is none that has a leaf
pub apart : {P : Type 0} (sig : Signature) (ts : List Term) (real : Bool) (n : ℕ) (s : Sort) → IsNumberName sig ts real n → sort_of sig (named ts n) ≡ Some s → is_numeric s ≡ false → P
apart sig ts real n s name e o = true_false (sym (numeric_sort real) ∙ ap is_numeric (same_Some (sort_for real) s (sym name ∙ e)) ∙ o)

-- ---- a name that is its own number has no row
pub no_row : (rows : ℕ → Option Row) (name : ℕ) → AreRows rows → SameMeaning (meaning (number_by (rows name) name)) (single name) → rows name ≡ None
no_row rows name are same = by_row (rows name) refl
  where
    by_row : (o : Option Row) → rows name ≡ o → o ≡ None
    by_row None e = refl
    by_row (Some row) e =
        let s : SameMeaning (meaning row.value) (single name) = subst (λ (o : Option Row). SameMeaning (meaning (number_by o name)) (single name)) e same in
        let f : row.value ≡ own name = unique row.value (own name) (are.normal name row e) (own_normal name)
        (same_trans ℕ_discrete (meaning row.value) (single name) (meaning (own name)) s (same_sym ℕ_discrete (meaning (own name)) (single name) (own_means name))) in
        sym e ∙ are.free name row e name (ap (λ (l : Lin). has_key l.parts name) f ∙ ap (λ b. b || false) (nat_eq_itself name))

module _ (sig : Signature) (ts : List Term) (before after : List Step) (front : IsFront before after) (c mid : Contents) (real : Bool) (name just : ℕ) (q : Lin)
    (are : AreRows (λ n. row_at c.rows n)) (none : row_at c.rows name ≡ None) (put : ArePut (λ n. row_at c.rows n) name q 0 (λ n. row_at mid.rows n)) (said : AreSaid sig ts before c) where
  -- the row that a name had
  pub record WasRow (n : ℕ) (row : Row) : Type 0 where
    pub old : Row
    pub there : row_at c.rows n ≡ Some old
    pub put_in : IsSubstituted old name q row

  was_row : (n : ℕ) (row : Row) (o p : Option Row) → IsSubstitutedAt o name q p → p ≡ Some row → (old : Row) × (o ≡ Some old) × IsSubstituted old name q row
  was_row n row None p h e = absurd (none-some row (sym h ∙ e))
  was_row n row (Some old) p h e = (old, refl, subst (λ (r : Row). IsSubstituted old name q r) (same_Some h.0 row (sym h.1 ∙ e)) h.2)

  pub was : (n : ℕ) (row : Row) → n ≢ name → row_at mid.rows n ≡ Some row → WasRow n row
  was n row d e = let w = was_row n row (row_at c.rows n) (row_at mid.rows n) (put.others n d) e in record { old = w.0; there = w.1; put_in = w.2 }

  -- ---- the rows in which the name stood can be restated
  pub restatable : Fits sig ts before → IsNumberName sig ts real name → ((n : ℕ) → n < length ts → IsNumberName sig ts real n → IsWritten sig ts real n (number_at mid n))
      → ((n : ℕ) → FitsAt (row_at c.rows n) name q) → (change : Change) → IsBefore c name change
      → IsRestatable sig ts before real name q mid change
  restatable fits numeric written limits change b =
      let n = change.name in
      let s = said.numbers n b.row b.there in
      let step : s.step ≡ change.before.step = same_Some s.step change.before.step (sym s.just ∙ b.step) in
      let kind : s.real ≡ real = one_sort s.real real (same_Some (sort_for s.real) (sort_for real) (sym (key_of_all (IsNumberName sig ts s.real) b.row.value.parts name s.stated.written.parts b.has) ∙ numeric)) in
      let stated = subst (λ (r : Bool). IsStated sig ts before r n b.row.value change.before.step) kind (subst (IsStated sig ts before s.real n b.row.value) step s.stated) in
      let differ : n ≢ name = λ e. none-some b.row (sym none ∙ ap (λ (k : ℕ). row_at c.rows k) (sym e) ∙ b.there) in
      let sub : IsSubstitutedAt (Some b.row) name q (row_at mid.rows n) = subst (λ (o : Option Row). IsSubstitutedAt o name q (row_at mid.rows n)) b.there (put.others n differ) in
      let inside : n < length ts = ((fits.within.each change.before.step _ stated.stated.there).0).0 in
      record {
        row = sub.0;
        there = sub.1;
        written = subst (IsWritten sig ts real n) (ap (λ (o : Option Row). number_by o n) sub.1) (written n inside stated.written.name);
        old = b.row.value;
        stated = stated;
        den = b.den;
        factor = b.factor;
        put = sub.2.form;
        within = subst (λ (d : ℤ). FitsLimits (d *ℤ q.den)) (sym b.den) (dens_fit b.row.value name q b.has (limits n b.row b.there));
      }

  -- ---- afterwards
  module _ (e : Contents) (changes : List Change) (rows : (n : ℕ) → row_at e.rows n ≡ row_at mid.rows n) (leaves : present e.leaves ≡ present c.leaves)
      (justs : (n : ℕ) → just_at mid n ≡ with_at (found (present c.justs)) name (Some just) n) (stated : IsStated sig ts after real name q just)
      (changed : (n k : ℕ) (row : Row) → row_at c.rows n ≡ Some row → just_at c n ≡ Some k → has_key row.value.parts name ≡ true → IsChanged changes n)
      (restated : AreRestated sig ts before after real mid e changes) where
    just_other : (n : ℕ) → n ≢ name → just_at mid n ≡ just_at c n
    just_other n d = justs n ∙ at_other (found (present c.justs)) name (Some just) n d

    just_there : just_at mid name ≡ Some just
    just_there = justs name ∙ at_same (found (present c.justs)) name (Some just)

    by_carried : (n : ℕ) (row : Row) → row_at e.rows n ≡ Some row → IsCarried sig ts before after real mid e n → IsNumberSaid sig ts after e n row
    by_carried n row at r = record { real = real; step = r.step; just = r.just; stated = subst (λ (x : Row). IsStated sig ts after real n x.value r.step) (same_Some r.row row (sym r.there ∙ at)) r.stated }

    of_change : (n : ℕ) → IsChanged changes n → IsCarried sig ts before after real mid e n
    of_change n h = subst (IsCarried sig ts before after real mid e) h.is (all_at (λ (change : Change). IsCarried sig ts before after real mid e change.name) changes h.place h.change restated.done h.there)

    -- a row in which the name didn't stand is as it was
    same_row : (n : ℕ) (row old : Row) → row_at c.rows n ≡ Some old → IsSubstituted old name q row → has_key old.value.parts name ≡ false → row.value ≡ old.value
    same_row n row old at s h =
        unique row.value old.value s.normal (are.normal n old at)
        (same_trans ℕ_discrete (meaning row.value) (substitute ℕ_discrete (meaning old.value) name (meaning q)) (meaning old.value) s.form
        (same_sym ℕ_discrete (meaning old.value) (substitute ℕ_discrete (meaning old.value) name (meaning q)) (subst_absent old.value q name (are.normal n old at) h)))

    other_said : (n : ℕ) (row : Row) → row_at e.rows n ≡ Some row → just_at e n ≡ just_at mid n → n ≢ name → IsNumberSaid sig ts after e n row
    other_said n row at same d =
        let w = was n row d (sym (rows n) ∙ at) in
        let s = said.numbers n w.old w.there in
        by_bool (has_key w.old.value.parts name)
        (λ h. by_carried n row at (of_change n (changed n s.step w.old w.there s.just h)))
        (λ h. record {
          real = s.real;
          step = s.step;
          just = same ∙ just_other n d ∙ s.just;
          stated = subst (λ (l : Lin). IsStated sig ts after s.real n l s.step) (sym (same_row n row w.old w.there w.put_in h)) (stated_kept sig ts before after front s.real n w.old.value s.step s.stated);
        })

    name_said : (row : Row) → row_at e.rows name ≡ Some row → just_at e name ≡ just_at mid name → IsNumberSaid sig ts after e name row
    name_said row at same =
        let r : record { value = q; just = 0 } ≡ row = same_Some (record { value = q; just = 0 }) row (sym put.row ∙ sym (rows name) ∙ at) in
        record { real = real; step = just; just = same ∙ just_there; stated = subst (λ (x : Row). IsStated sig ts after real name x.value just) r stated }

    numbers_said : (n : ℕ) (row : Row) → row_at e.rows n ≡ Some row → IsNumberSaid sig ts after e n row
    numbers_said n row at = by_kept (restated.kept n) (ℕ_discrete n name)
      where
        by_kept : IsChanged changes n ⊎ (just_at e n ≡ just_at mid n) → Dec (n ≡ name) → IsNumberSaid sig ts after e n row
        by_kept (inl h) d = by_carried n row at (of_change n h)
        by_kept (inr same) (no d) = other_said n row at same d
        by_kept (inr same) (yes s) =
            subst (λ (k : ℕ). IsNumberSaid sig ts after e k row) (sym s) (name_said row (ap (λ (k : ℕ). row_at e.rows k) (sym s) ∙ at) (ap (just_at e) (sym s) ∙ same ∙ ap (just_at mid) s))

    leaves_said : (n m : ℕ) → found (present e.leaves) n ≡ Some m → IsLeafSaid sig ts after e n m
    leaves_said n m at =
        let s = said.leaves n m (ap (λ (ps : List (ℕ × ℕ)). found ps n) (sym leaves) ∙ at) in
        let differ : n ≢ name = λ z. apart sig ts real n s.sort (subst (IsNumberName sig ts real) (sym z) stated.written.name) s.sorted s.other in
        let same : just_at e n ≡ just_at mid n = by_kept s.sort s.sorted s.other (restated.kept n) in
        record { sort = s.sort; sorted = s.sorted; other = s.other; step = s.step; just = same ∙ just_other n differ ∙ s.just; equal = equal_kept before after front s.step n m s.equal }
      where
        by_kept : (s : Sort) → sort_of sig (named ts n) ≡ Some s → is_numeric s ≡ false → IsChanged changes n ⊎ (just_at e n ≡ just_at mid n) → just_at e n ≡ just_at mid n
        by_kept s z o (inl h) = let r = of_change n h in apart sig ts real n s r.stated.written.name z o
        by_kept s z o (inr h) = h

    pub said_again : AreSaid sig ts after e
    said_again = record { numbers = numbers_said; leaves = leaves_said }

    -- ---- what the steps rest on
    module _ (fits : Fits sig ts after) (mid_leaves : present mid.leaves ≡ present c.leaves) (within : just < length before) where
      says_before : (k : ℕ) → SaysValue mid k → IsIn k (just ∷ []) ⊎ SaysValue c k
      says_before k s = by_name (ℕ_discrete s.name name)
        where
          by_put : s.name ≢ name → IsPutFor mid s.name → IsPutFor c s.name
          by_put d (by_number row at) = let w = was s.name row d at in by_number w.old w.there
          by_put d (by_leaf m at) = by_leaf m (ap (λ (ps : List (ℕ × ℕ)). found ps s.name) (sym mid_leaves) ∙ at)

          by_name : Dec (s.name ≡ name) → IsIn k (just ∷ []) ⊎ SaysValue c k
          by_name (yes z) = inl (subst (λ (j : ℕ). IsIn j (just ∷ [])) (same_Some just k (sym just_there ∙ ap (just_at mid) (sym z) ∙ s.just)) (in_one just))
          by_name (no d) = inr (record { name = s.name; put = by_put d s.put; just = sym (just_other s.name d) ∙ s.just })

      from_before : (k : ℕ) → SaysValue mid k → RestsOnValues before after c (just ∷ []) k
      from_before k s = let one = says_before k s in rests_still sig ts before after front fits c (just ∷ []) k (by_one one) one
        where
          by_one : IsIn k (just ∷ []) ⊎ SaysValue c k → k < length before
          by_one (inl m) = subst (λ (j : ℕ). j < length before) (sym (is_one k just m)) within
          by_one (inr w) = says_within sig ts before c said k w

      from_mid : (id : ℕ) → RestsOnValues before after mid [] id → RestsOnValues before after c (just ∷ []) id
      from_mid id r = record { each = each }
        where
          by_one : (by : ℕ) → IsIn by [] ⊎ SaysValue mid by → IsIn by (just ∷ []) ⊎ SaysValue c by
          by_one by (inl m) = absurd (in_none by m)
          by_one by (inr s) = says_before by s

          each : (k tag : ℕ) (s : Step) → RestsOn after id k → slice_get after k ≡ Some s → s.rule ≡ rule.Hyp tag → IsUnderValues before c (just ∷ []) k s
          each k tag s q at is = let w = r.each k tag s q at is in record { by = w.by; one = by_one w.by w.one; rests = w.rests; there = w.there }

      pub sources_again : AreFromValues before after c e (just ∷ [])
      sources_again = record { each = each }
        where
          put_there : (n : ℕ) → IsPutFor e n → IsPutFor mid n
          put_there n (by_number row at) = by_number row (sym (rows n) ∙ at)
          put_there n (by_leaf m at) = by_leaf m (ap (λ (ps : List (ℕ × ℕ)). found ps n) (mid_leaves ∙ sym leaves) ∙ at)

          each : (id : ℕ) → SaysValue e id → RestsOnValues before after c (just ∷ []) id
          each id s = by_kept (restated.kept s.name)
            where
              by_kept : IsChanged changes s.name ⊎ (just_at e s.name ≡ just_at mid s.name) → RestsOnValues before after c (just ∷ []) id
              by_kept (inl h) = let r = of_change s.name h in from_mid id (subst (RestsOnValues before after mid []) (same_Some r.step id (sym r.just ∙ s.just)) r.rests)
              by_kept (inr same) = from_before id (record { name = s.name; put = put_there s.name s.put; just = sym same ∙ s.just })
