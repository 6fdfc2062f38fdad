-- A step that a call adds or refuses: what it states, and what it rests on.
use Rattle.std.specs.Prelude.{ℕ, ◌<◌, ◌≡◌, ◌≢◌, ◌↔◌, ◌⊎◌, Bool, true, false, List, [], ◌∷◌, length, slice_get, Result, Ok, Err, IfOk, OnErr, IsTrue, Option, Some, None}
use Rattle.std.proofs.Common.{refl, sym, ap, ◌∙◌, subst, inl, inr}
use Rattle.std.proofs.lemmas.Option.{same_Some}
use Rattle.ae_base.specs.Options.{or_else}
use Rattle.ae_base.proofs.ListFacts.{get_front}
use Rattle.ae_core.specs.declared.terms.Sort.{Sort, Real}
use Rattle.ae_core.specs.declared.terms.Term.{Term}
use Rattle.ae_core.specs.declared.problems.Signature.{Signature}
use Rattle.ae_math.specs.Forms.{single}
use Rattle.ae_num.specs.Forms.{meaning, SameMeaning}
use Rattle.ae_num.specs.declared.forms.Lin.{Lin}
use Rattle.ae_linear.specs.declared.rows.Row.{Row}
use Rattle.ae_linear.specs.Rows.{row_at}
use Rattle.ae_pmap.specs.Forest.{present}
use Rattle.ae_pmap.specs.Pairs.{found}
use Rattle.ae_store.specs.Growing.{IsFront}
use Rattle.ae_store.specs.Parts.{IsIn}
use Rattle.ae_store.specs.Shapes.{shapes}
use Rattle.ae_store.specs.Stores.{Stored}
use Rattle.ae_store.specs.Terms.{terms}
use Rattle.ae_store.proofs.EnterLaws.{front_same}
use Rattle.ae_store.proofs.PartLaws.{in_none, in_pushed, is_one}
use Rattle.ae_just.specs.Needed.{RestsOn}
use Rattle.ae_just.specs.declared.steps.Rule.TheVariants as rule
use Rattle.ae_just.specs.declared.steps.Side.{Side}
use Rattle.ae_just.specs.declared.steps.Side.TheVariants as side
use Rattle.ae_just.specs.declared.steps.Step.{Step}
use Rattle.ae_just.specs.Steps.{Fits}
use Rattle.ae_state_steps.specs.ValueSteps.{sort_for, IsWritten, StatesValue, StatesEqual, name_side, value_side}
use Rattle.ae_value_steps.specs.Stating.{AddsStep, IsStated}
use Rattle.ae_value_steps.proofs.Added.{front, states_value, states_equal, stated_kept, equal_kept}
use Rattle.ae_value_table.specs.declared.patterns.Pattern.{Pattern}
use Rattle.ae_value_table.specs.declared.patterns.Entry.{Entry}
use Rattle.ae_value_table.specs.Table.{Contents, just_at, number_at, leaf_at}
use Rattle.ae_value_fitting.specs.Fitting.{AreSaid, IsNumberSaid, IsLeafSaid}
use Rattle.ae_value_fitting.specs.Sources.{SaysValue, IsUnderValues, RestsOnValues}
use Rattle.ae_value_fitting.proofs.Resting.{rests_on_named, rests_by, rests_still, rests_longer, says_within}
use Rattle.ae_value_fitting.proofs.Written.{number_by, own_means, one_sort}
use Rattle.ae_equal_steps.specs.Inner.Parts.{name_of}
use Rattle.ae_equal_steps.specs.Inner.Pairs.{IsHeld, AreSameNumbers}

module _ {E : Type 0} (old new : List Step) (l r : Side) (rests : List ℕ) where
  pub front_added : (res : Result ℕ E) → IfOk res (λ id. AddsStep old new id l r rests) → OnErr res (new ≡ old) → IsFront old new
  front_added (Ok id) a e = front old new id l r rests a
  front_added (Err x) a e = subst (λ (steps : List Step). IsFront old steps) (sym e) (front_same old)

  pub rests_on : (sig : Signature) (ts : List Term) (first : List Step) (c : Contents) (res : Result ℕ E) → IfOk res (λ id. AddsStep old new id l r rests) → Fits sig ts new → ((p : ℕ) → IsIn p rests → RestsOnValues first old c [] p)
      → IfOk res (λ id. RestsOnValues first new c [] id)
  rests_on sig ts first c (Ok id) a fits h = rests_by sig ts first old new c [] rests id (rests_on_named sig ts old new id l r rests a fits) h
  rests_on sig ts first c (Err x) a fits h = tt

pub equal_added : {E : Type 0} (old new : List Step) (m n : ℕ) (rests : List ℕ) (res : Result ℕ E) → IfOk res (λ id. AddsStep old new id (side.Name m) (side.Name n) rests) → IfOk res (λ id. StatesEqual new id m n)
equal_added old new m n rests (Ok id) a = states_equal old new id m n rests a
equal_added old new m n rests (Err x) a = tt

pub stated_added : {E : Type 0} (sig : Signature) (ts : List Term) (old new : List Step) (real : Bool) (n : ℕ) (f : Lin) (rests : List ℕ) (res : Result ℕ E) → IsWritten sig ts real n f
    → IfOk res (λ id. AddsStep old new id (name_side real n f) (value_side real f) rests) → IfOk res (λ id. IsStated sig ts new real n f id)
stated_added sig ts old new real n f rests (Ok id) w a = record { written = w; stated = states_value old new id real n f rests a }
stated_added sig ts old new real n f rests (Err x) w a = tt

-- a name without a row is its own number
pub own_number : (c : Contents) (n : ℕ) (f : Lin) → f ≡ number_at c n → row_at c.rows n ≡ None → SameMeaning (meaning f) (single n)
own_number c n f e h = subst (λ (g : Lin). SameMeaning (meaning g) (single n)) (sym (e ∙ ap (λ (o : Option Row). number_by o n) h)) (own_means n)

-- one with a row has its value
pub row_number : (c : Contents) (n : ℕ) (f : Lin) (row : Row) → f ≡ number_at c n → row_at c.rows n ≡ Some row → f ≡ row.value
row_number c n f row e h = e ∙ ap (λ (o : Option Row). number_by o n) h

-- ---- steps that stand, and steps that come behind
module _ (sig : Signature) (ts : List Term) where
  pub says_rests : (steps : List Step) (c : Contents) → Fits sig ts steps → AreSaid sig ts steps c → (id : ℕ) → SaysValue c id → RestsOnValues steps steps c [] id
  says_rests steps c fits said id s = rests_still sig ts steps steps (front_same steps) fits c [] id (says_within sig ts steps c said id s) (inr s)

  -- the step that says the row of a name states its number
  pub row_stated : (steps : List Step) (c : Contents) → AreSaid sig ts steps c → (real : Bool) (n : ℕ) (f : Lin) (row : Row) (step : ℕ) → row_at c.rows n ≡ Some row → f ≡ number_at c n → just_at c n ≡ Some step
      → IsWritten sig ts real n f → IsStated sig ts steps real n f step
  row_stated steps c said real n f row step at e just w =
      let s : IsNumberSaid sig ts steps c n row = said.numbers n row at in
      let id : s.step ≡ step = same_Some s.step step (sym s.just ∙ just) in
      let kind : s.real ≡ real = one_sort s.real real (same_Some (sort_for s.real) (sort_for real) (sym s.stated.written.name ∙ w.name)) in
      let value : row.value ≡ f = sym (row_number c n f row e at) in
      record {
        written = w;
        stated = subst (λ (g : Lin). StatesValue steps step real n g) value
            (subst (λ (k : ℕ). StatesValue steps k real n row.value) id (subst (λ (r : Bool). StatesValue steps s.step r n row.value) kind s.stated.stated));
      }

  -- the step that says the leaf of a name equates the two
  pub leaf_stated : (steps : List Step) (c : Contents) → AreSaid sig ts steps c → (n m step : ℕ) → found (present c.leaves) n ≡ Some m → just_at c n ≡ Some step → StatesEqual steps step n m
  leaf_stated steps c said n m step at just = let w = said.leaves n m at in subst (λ (k : ℕ). StatesEqual steps k n m) (same_Some w.step step (sym w.just ∙ just)) w.equal

  pub said_kept : (old new : List Step) → IsFront old new → (c : Contents) → AreSaid sig ts old c → AreSaid sig ts new c
  said_kept old new f c said = record { numbers = number_kept; leaves = leaf_kept }
    where
      number_kept : (n : ℕ) (row : Row) → row_at c.rows n ≡ Some row → IsNumberSaid sig ts new c n row
      number_kept n row at = let w = said.numbers n row at in record { real = w.real; step = w.step; just = w.just; stated = stated_kept sig ts old new f w.real n row.value w.step w.stated }

      leaf_kept : (n m : ℕ) → found (present c.leaves) n ≡ Some m → IsLeafSaid sig ts new c n m
      leaf_kept n m at = let w = said.leaves n m at in record { sort = w.sort; sorted = w.sorted; other = w.other; step = w.step; just = w.just; equal = equal_kept old new f w.step n m w.equal }

  -- what rests on steps that say values when some steps stood rests on them when fewer did
  pub rests_sooner : (old mid new : List Step) → IsFront old mid → Fits sig ts mid → (c : Contents) → AreSaid sig ts old c → (id : ℕ) → RestsOnValues mid new c [] id → RestsOnValues old new c [] id
  rests_sooner old mid new f fits c said id r = record { each = each }
    where
      still : (by : ℕ) → IsIn by [] ⊎ SaysValue c by → RestsOnValues old mid c [] by
      still by (inl m) = absurd (in_none by m)
      still by (inr s) = rests_still sig ts old mid f fits c [] by (says_within sig ts old c said by s) (inr s)

      each : (k tag : ℕ) (s : Step) → RestsOn new id k → slice_get new k ≡ Some s → s.rule ≡ rule.Hyp tag → IsUnderValues old c [] k s
      each k tag s q at is = let w = r.each k tag s q at is in (still w.by w.one).each k tag s w.rests w.there is

  -- two steps that two calls gave rest on steps that say values
  pub two_rest : (old mid new : List Step) → IsFront old mid → IsFront mid new → Fits sig ts mid → Fits sig ts new → (c : Contents) → AreSaid sig ts old c → (first second : ℕ) → first < length mid
      → RestsOnValues old mid c [] first → RestsOnValues mid new c [] second → (p : ℕ) → IsIn p (first ∷ second ∷ []) → RestsOnValues old new c [] p
  two_rest old mid new f g mid_fits fits c said first second l a b p m = by_place (in_pushed p second (first ∷ []) m)
    where
      by_place : IsIn p (first ∷ []) ⊎ (p ≡ second) → RestsOnValues old new c [] p
      by_place (inl h) = subst (RestsOnValues old new c []) (sym (is_one p first h)) (rests_longer sig ts old mid new g fits c [] first l a)
      by_place (inr e) = subst (RestsOnValues old new c []) (sym e) (rests_sooner old mid new f mid_fits c said second b)

  -- a step that rests on one alone
  pub turned_rests : (old mid new : List Step) (c : Contents) (given id : ℕ) (l r : Side) → AddsStep mid new id l r (given ∷ []) → Fits sig ts new → RestsOnValues old mid c [] given → RestsOnValues old new c [] id
  turned_rests old mid new c given id l r a fits h =
      rests_by sig ts old mid new c [] (given ∷ []) id (rests_on_named sig ts mid new id l r (given ∷ []) a fits) (λ p m. subst (RestsOnValues old mid c []) (sym (is_one p given m)) h)

pub held_kept : (s : Stored) (old new : List Step) (c : Contents) → IsFront old new → Fits s.signature (terms (shapes s.nodes)) new → IsHeld s old c → IsHeld s new c
held_kept s old new c f fits h = record { store = h.store; fits = fits; patterns = h.patterns; values = h.values; said = said_kept s.signature (terms (shapes s.nodes)) old new f c h.said }

-- ---- a name that has another leaf was given it
pub leaf_there : (c : Contents) (n m : ℕ) → m ≡ leaf_at c n → m ≢ n → found (present c.leaves) n ≡ Some m
leaf_there c n m e d = by_found (found (present c.leaves) n) refl
  where
    by_found : (o : Option ℕ) → found (present c.leaves) n ≡ o → found (present c.leaves) n ≡ Some m
    by_found None z = absurd (d (e ∙ ap (λ (o : Option ℕ). or_else o n) z))
    by_found (Some k) z = z ∙ ap (λ (j : ℕ). Some j) (sym (ap (λ (o : Option ℕ). or_else o n) z) ∙ sym e)

-- ---- whether a sort of numbers is that of reals
pub real_is : (b r : Bool) → IsTrue b ↔ (sort_for r ≡ Real) → b ≡ r
real_is true r h = sym (one_sort r true (h.0 refl))
real_is false true h = h.1 refl
real_is false false h = refl

pub kind_of : (sig : Signature) (ts : List Term) (c : Contents) (m n : ℕ) (s : AreSameNumbers sig ts c m n) (b : Bool) → ((e : Entry) → slice_get c.entries m ≡ Some e → IsTrue b ↔ (e.sort ≡ Real)) → b ≡ s.real
kind_of sig ts c m n s b h = real_is b s.real (subst (λ (x : Sort). IsTrue b ↔ (x ≡ Real)) s.sort (h s.entry (get_front c.entries c.taken m s.entry s.there).0))

-- ---- names, as the names of patterns
pub states_for : {E : Type 0} (steps : List Step) (res : Result ℕ E) (k m : ℕ) (p q : Pattern) → name_of p ≡ k → m ≡ name_of q → IfOk res (λ id. StatesEqual steps id k m) → IfOk res (λ id. StatesEqual steps id (name_of p) (name_of q))
states_for steps res k m p q e f h = subst (λ (n : ℕ). IfOk res (λ id. StatesEqual steps id n (name_of q))) (sym e) (subst (λ (n : ℕ). IfOk res (λ id. StatesEqual steps id k n)) f h)
