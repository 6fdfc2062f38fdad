-- What is held after the next name's number or leaf was put.
use Rattle.std.specs.Prelude.{ℕ, suc, ◌<◌, ◌≡◌, ◌≢◌, Bool, false, List, [], Option, Some}
use Rattle.std.proofs.Common.{sym, ap, ◌∙◌, subst, arith, inr}
use Rattle.std.proofs.lemmas.Option.{same_Some}
use native.Mathlib.Decide.{ℕ_discrete}
use Rattle.ae_base.specs.Options.{or_else}
use Rattle.ae_core.specs.Sorts.{sort_of, is_numeric}
use Rattle.ae_core.specs.declared.terms.Sort.{Sort}
use Rattle.ae_core.specs.declared.terms.Term.{Term}
use Rattle.ae_core.specs.declared.problems.Signature.{Signature}
use Rattle.ae_num.specs.declared.forms.Lin.{Lin}
use Rattle.ae_linear.specs.declared.rows.Row.{Row}
use Rattle.ae_linear.specs.Rows.{Contents as Rows, row_at, value_of}
use Rattle.ae_pmap.specs.Forest.{Forest, present}
use Rattle.ae_pmap.specs.Pairs.{found, with_at}
use Rattle.ae_pmap.proofs.PairLemmas.{at_same, at_other}
use Rattle.ae_store.specs.Growing.{IsFront}
use Rattle.ae_store.specs.Terms.{named}
use Rattle.ae_just.specs.Steps.{Fits}
use Rattle.ae_just.specs.declared.steps.Step.{Step}
use Rattle.ae_state_steps.specs.ValueSteps.{StatesEqual}
use Rattle.ae_value_steps.specs.Stating.{IsStated}
use Rattle.ae_value_steps.proofs.Added.{stated_kept, equal_kept}
use Rattle.ae_value_table.specs.Table.{Contents, own, number_at, leaf_at, just_at}
use Rattle.ae_value_fitting.specs.Fitting.{AreSaid, IsNumberSaid, IsLeafSaid}
use Rattle.ae_value_fitting.specs.Sources.{IsPutFor, by_number, by_leaf, SaysValue, RestsOnValues, AreFromValues}
use Rattle.ae_value_fitting.proofs.Resting.{rests_still, says_within}
use Rattle.ae_take_in.specs.Inner.Next.{AreBelow}

abbrev number_for : Option Row → ℕ → Lin
number_for o k = or_else (value_of o) (own k)

module _ (sig : Signature) (ts : List Term) (js ks : List Step) (front : IsFront js ks) (fits : Fits sig ts ks) (old new : Contents) (n : ℕ) (below : AreBelow n old) (said : AreSaid sig ts js old) where
  row_apart : (k : ℕ) (row : Row) → row_at old.rows k ≡ Some row → k ≢ n
  row_apart k row at e = let l : k < n = below.rows k row at in omega (arith, l, e)

  leaf_apart : (k m : ℕ) → found (present old.leaves) k ≡ Some m → k ≢ n
  leaf_apart k m at e = let l : k < n = below.leaves k m at in omega (arith, l, e)

  -- a step that said a value says one still
  number_kept : (k : ℕ) (row : Row) → row_at old.rows k ≡ Some row → just_at new k ≡ just_at old k → IsNumberSaid sig ts ks new k row
  number_kept k row at same =
      let w = said.numbers k row at in record { real = w.real; step = w.step; just = same ∙ w.just; stated = stated_kept sig ts js ks front w.real k row.value w.step w.stated }

  leaf_kept : (k m : ℕ) → found (present old.leaves) k ≡ Some m → just_at new k ≡ just_at old k → IsLeafSaid sig ts ks new k m
  leaf_kept k m at same =
      let w = said.leaves k m at in record { sort = w.sort; sorted = w.sorted; other = w.other; step = w.step; just = same ∙ w.just; equal = equal_kept js ks front w.step k m w.equal }

  source_kept : (k id : ℕ) → IsPutFor old k → just_at old k ≡ Some id → RestsOnValues js ks old [] id
  source_kept k id put just =
      let v : SaysValue old id = record { name = k; put = put; just = just } in
      rests_still sig ts js ks front fits old [] id (says_within sig ts js old said id v) (inr v)

  -- ---- nothing was put
  pub said_still : AreSaid sig ts ks old
  said_still = record {
    numbers = λ k row at. (let w = said.numbers k row at in record { real = w.real; step = w.step; just = w.just; stated = stated_kept sig ts js ks front w.real k row.value w.step w.stated });
    leaves = λ k m at. (let w = said.leaves k m at in record { sort = w.sort; sorted = w.sorted; other = w.other; step = w.step; just = w.just; equal = equal_kept js ks front w.step k m w.equal });
  }

  pub sources_still : AreFromValues js ks old old []
  sources_still = record { each = λ id v. rests_still sig ts js ks front fits old [] id (says_within sig ts js old said id v) (inr v) }

  pub below_still : AreBelow (suc n) old
  below_still = record {
    rows = λ k row at. (let l : k < n = below.rows k row at in omega (arith, l));
    leaves = λ k m at. (let l : k < n = below.leaves k m at in omega (arith, l));
  }

  module _ (step : ℕ) (justs : (k : ℕ) → just_at new k ≡ with_at (found (present old.justs)) n (Some step) k) where
    just_here : just_at new n ≡ Some step
    just_here = justs n ∙ at_same (found (present old.justs)) n (Some step)

    just_other : (k : ℕ) → k ≢ n → just_at new k ≡ just_at old k
    just_other k d = justs k ∙ at_other (found (present old.justs)) n (Some step) k d

    -- ---- a number
    module _ (v : Lin) (row : row_at new.rows n ≡ Some (record { value = v; just = 0 })) (rows : (k : ℕ) → k ≢ n → row_at new.rows k ≡ row_at old.rows k) (leaves : new.leaves ≡ old.leaves) where
      pub number_here : number_at new n ≡ v
      number_here = ap (λ (o : Option Row). number_for o n) row

      pub number_other : (k : ℕ) → k ≢ n → number_at new k ≡ number_at old k
      number_other k d = ap (λ (o : Option Row). number_for o k) (rows k d)

      pub leaf_same : (k : ℕ) → leaf_at new k ≡ leaf_at old k
      leaf_same k = ap (λ (x : Forest ℕ). or_else (found (present x) k) k) leaves

      leaf_old : (k m : ℕ) → found (present new.leaves) k ≡ Some m → found (present old.leaves) k ≡ Some m
      leaf_old k m at = ap (λ (x : Forest ℕ). found (present x) k) (sym leaves) ∙ at

      pub number_below : AreBelow (suc n) new
      number_below = record { rows = λ k r at. by_name k r at (ℕ_discrete k n); leaves = λ k m at. (let l : k < n = below.leaves k m (leaf_old k m at) in omega (arith, l)) }
        where
          by_name : (k : ℕ) (r : Row) → row_at new.rows k ≡ Some r → Dec (k ≡ n) → k < suc n
          by_name k r at (yes e) = omega (arith, e)
          by_name k r at (no d) = let l : k < n = below.rows k r (sym (rows k d) ∙ at) in omega (arith, l)

      module _ (real : Bool) (stated : IsStated sig ts ks real n v step) where
        pub number_said : AreSaid sig ts ks new
        number_said = record { numbers = λ k r at. by_name k r at (ℕ_discrete k n); leaves = λ k m at. (let o = leaf_old k m at in leaf_kept k m o (just_other k (leaf_apart k m o))) }
          where
            by_name : (k : ℕ) (r : Row) → row_at new.rows k ≡ Some r → Dec (k ≡ n) → IsNumberSaid sig ts ks new k r
            by_name k r at (no d) = number_kept k r (sym (rows k d) ∙ at) (just_other k d)
            by_name k r at (yes e) =
                let there : row_at new.rows n ≡ Some r = ap (λ (j : ℕ). row_at new.rows j) (sym e) ∙ at in
                let same : record { value = v; just = 0 } ≡ r = same_Some (record { value = v; just = 0 }) r (sym row ∙ there) in
                subst (λ (j : ℕ). IsNumberSaid sig ts ks new j r) (sym e)
                (record { real = real; step = step; just = just_here; stated = subst (λ (q : Row). IsStated sig ts ks real n q.value step) same stated })

      pub number_sources : RestsOnValues js ks old [] step → AreFromValues js ks old new []
      number_sources rests = record { each = each }
        where
          by_put : (k id : ℕ) → IsPutFor new k → just_at new k ≡ Some id → Dec (k ≡ n) → RestsOnValues js ks old [] id
          by_put k id put just (yes e) = subst (RestsOnValues js ks old []) (same_Some step id (sym just_here ∙ ap (just_at new) (sym e) ∙ just)) rests
          by_put k id (by_number r at) just (no d) = source_kept k id (by_number r (sym (rows k d) ∙ at)) (sym (just_other k d) ∙ just)
          by_put k id (by_leaf m at) just (no d) = source_kept k id (by_leaf m (leaf_old k m at)) (sym (just_other k d) ∙ just)

          each : (id : ℕ) → SaysValue new id → RestsOnValues js ks old [] id
          each id s = by_put s.name id s.put s.just (ℕ_discrete s.name n)

    -- ---- a leaf
    module _ (m : ℕ) (leaf : (k : ℕ) → found (present new.leaves) k ≡ with_at (found (present old.leaves)) n (Some m) k) (rows : new.rows ≡ old.rows) where
      found_here : found (present new.leaves) n ≡ Some m
      found_here = leaf n ∙ at_same (found (present old.leaves)) n (Some m)

      found_other : (k : ℕ) → k ≢ n → found (present new.leaves) k ≡ found (present old.leaves) k
      found_other k d = leaf k ∙ at_other (found (present old.leaves)) n (Some m) k d

      pub leaf_here : leaf_at new n ≡ m
      leaf_here = ap (λ (o : Option ℕ). or_else o n) found_here

      pub leaf_other : (k : ℕ) → k ≢ n → leaf_at new k ≡ leaf_at old k
      leaf_other k d = ap (λ (o : Option ℕ). or_else o k) (found_other k d)

      pub number_same : (k : ℕ) → number_at new k ≡ number_at old k
      number_same k = ap (λ (x : Rows). number_for (row_at x k) k) rows

      row_old : (k : ℕ) (r : Row) → row_at new.rows k ≡ Some r → row_at old.rows k ≡ Some r
      row_old k r at = ap (λ (x : Rows). row_at x k) (sym rows) ∙ at

      pub leaf_below : AreBelow (suc n) new
      leaf_below = record { rows = λ k r at. (let l : k < n = below.rows k r (row_old k r at) in omega (arith, l)); leaves = λ k j at. by_name k j at (ℕ_discrete k n) }
        where
          by_name : (k j : ℕ) → found (present new.leaves) k ≡ Some j → Dec (k ≡ n) → k < suc n
          by_name k j at (yes e) = omega (arith, e)
          by_name k j at (no d) = let l : k < n = below.leaves k j (sym (found_other k d) ∙ at) in omega (arith, l)

      module _ (s : Sort) (sorted : sort_of sig (named ts n) ≡ Some s) (other : is_numeric s ≡ false) (equal : StatesEqual ks step n m) where
        pub leaf_said : AreSaid sig ts ks new
        leaf_said = record { numbers = λ k r at. (let o = row_old k r at in number_kept k r o (just_other k (row_apart k r o))); leaves = λ k j at. by_name k j at (ℕ_discrete k n) }
          where
            by_name : (k j : ℕ) → found (present new.leaves) k ≡ Some j → Dec (k ≡ n) → IsLeafSaid sig ts ks new k j
            by_name k j at (no d) = leaf_kept k j (sym (found_other k d) ∙ at) (just_other k d)
            by_name k j at (yes e) =
                let same : m ≡ j = same_Some m j (sym found_here ∙ ap (λ (i : ℕ). found (present new.leaves) i) (sym e) ∙ at) in
                subst (λ (i : ℕ). IsLeafSaid sig ts ks new i j) (sym e)
                (record { sort = s; sorted = sorted; other = other; step = step; just = just_here; equal = subst (λ (i : ℕ). StatesEqual ks step n i) same equal })

      pub leaf_sources : RestsOnValues js ks old [] step → AreFromValues js ks old new []
      leaf_sources rests = record { each = each }
        where
          by_put : (k id : ℕ) → IsPutFor new k → just_at new k ≡ Some id → Dec (k ≡ n) → RestsOnValues js ks old [] id
          by_put k id put just (yes e) = subst (RestsOnValues js ks old []) (same_Some step id (sym just_here ∙ ap (just_at new) (sym e) ∙ just)) rests
          by_put k id (by_number r at) just (no d) = source_kept k id (by_number r (row_old k r at)) (sym (just_other k d) ∙ just)
          by_put k id (by_leaf j at) just (no d) = source_kept k id (by_leaf j (sym (found_other k d) ∙ at)) (sym (just_other k d) ∙ just)

          each : (id : ℕ) → SaysValue new id → RestsOnValues js ks old [] id
          each id s = by_put s.name id s.put s.just (ℕ_discrete s.name n)

-- ---- what else is held stays
pub rest_number : (old new : Contents) → new ≡ record old { rows = new.rows; justs = new.justs } → new ≡ record old { rows = new.rows; leaves = new.leaves; justs = new.justs }
rest_number old new e = e ∙ (λ i. record old { rows = new.rows; leaves = sym (ap (λ (x : Contents). x.leaves) e) i; justs = new.justs })

pub rest_leaf : (old new : Contents) → new ≡ record old { leaves = new.leaves; justs = new.justs } → new ≡ record old { rows = new.rows; leaves = new.leaves; justs = new.justs }
rest_leaf old new e = e ∙ (λ i. record old { rows = sym (ap (λ (x : Contents). x.rows) e) i; leaves = new.leaves; justs = new.justs })
