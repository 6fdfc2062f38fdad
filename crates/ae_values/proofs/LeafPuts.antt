-- A name that is put for another is put for it in all values, and the steps say so.
use Rattle.std.specs.Prelude.{ℕ, ◌<◌, ◌≡◌, ◌≢◌, ◌⊎◌, ◌+◌, true, false, cond, List, [], ◌∷◌, ◌++◌, map, take, length, slice_index_or, Option, Some, None}
use Rattle.std.specs.List.{AllByRecursion}
use Rattle.std.proofs.Common.{refl, sym, ap, ◌∙◌, subst, inl, inr}
use Rattle.std.proofs.lemmas.Bool.{ne_eqb}
use Rattle.std.proofs.lemmas.List.{take_more}
use Rattle.std.proofs.lemmas.Option.{same_Some, slice_get_within}
use native.Mathlib.Decide.{ℕ_discrete}
use Rattle.ae_base.specs.Options.{or_else}
use Rattle.ae_base.proofs.AllOf.{all_at, all_push, all_weaker}
use Rattle.ae_base.proofs.ListFacts.{get_append, get_seam}
use Rattle.ae_base.proofs.Tests.{by_bool, nat_eq_itself}
use Rattle.ae_core.specs.Sorts.{sort_of, is_numeric}
use Rattle.ae_core.specs.declared.terms.Sort.{Sort}
use Rattle.ae_core.specs.declared.terms.Term.{Term}
use Rattle.ae_core.specs.declared.problems.Signature.{Signature}
use Rattle.ae_num.specs.declared.forms.Value.{Value}
use Rattle.ae_num.specs.declared.forms.Value as value
use Rattle.ae_journal.specs.Systems.{record_fields}
use Rattle.ae_linear.specs.declared.rows.Row.{Row}
use Rattle.ae_linear.specs.Rows.{row_at, value_of}
use Rattle.ae_pmap.specs.Forest.{present}
use Rattle.ae_pmap.specs.Pairs.{found, with_at}
use Rattle.ae_pmap.proofs.PairLemmas.{at_same, at_other}
use Rattle.ae_store.specs.Growing.{IsFront}
use Rattle.ae_store.specs.Parts.{IsIn}
use Rattle.ae_store.proofs.PartLaws.{in_one, in_pushed, is_one}
use Rattle.ae_store.specs.Shapes.{shapes}
use Rattle.ae_store.specs.Terms.{terms, named}
use Rattle.ae_store.specs.declared.nodes.Node.{Node}
use Rattle.ae_store.proofs.StoreLaws.{name_term}
use Rattle.ae_just.specs.declared.steps.Step.{Step}
use Rattle.ae_just.specs.Steps.{Fits}
use Rattle.ae_multiset_steps.specs.Equating.{RestsOnThese}
use Rattle.ae_settled.specs.Valued.{IsOwnLeaf}
use Rattle.ae_state_steps.specs.ValueSteps.{StatesEqual}
use Rattle.ae_value_changes.specs.Put.{IsLeafPut, put_leaf}
use Rattle.ae_just.specs.declared.steps.Side.TheVariants as side
use Rattle.ae_value_steps.specs.Stating.{AddsStep}
use Rattle.ae_value_steps.proofs.Added.{stated_kept, equal_kept, states_equal}
use Rattle.ae_value_table.specs.declared.patterns.Pattern.{Number, Leaf}
use Rattle.ae_value_table.specs.Table.{Contents, number_at, leaf_at, just_at, held, values, value_in, own as own_number}
use Rattle.ae_value_table.proofs.ValueLaws.{by-Number, by-Leaf, by-Fields, number_leaf, leaf_fields, same_leaves}
use Rattle.ae_values.specs.declared.occurrences.Follower.{Follower}
use Rattle.ae_value_fitting.specs.Fitting.{system_in, held_by, ArePatterns, AreSaid, IsNumberSaid, IsLeafSaid}
use Rattle.ae_value_fitting.specs.Sources.{IsPutFor, by_number, by_leaf, SaysValue, RestsOnValues, AreFromValues}
use Rattle.ae_value_fitting.proofs.Resting.{rests_still, rests_by, rests_longer, rests_on_named, says_within}
use Rattle.ae_values.specs.Inner.Before.{IsFollowing, IsFollower}
use Rattle.ae_values.specs.Inner.Leading.{IsLed, IsCarriedTo, AreLed}
use Rattle.ae_value_fitting.proofs.Lookups.{number_made, leaf_made, IsMade, made, pattern_there, have_records}
use Rattle.ae_values.proofs.PutValues.{there_still, one_each}
use Rattle.ae_values.proofs.Said.{apart}

-- ---- followers, one more
follower_first : (followers : List Follower) (more : List Follower) (n : ℕ) → IsFollower followers n → IsFollower (followers ++ more) n
follower_first followers more n h = record { place = h.place; follower = h.follower; there = get_append followers more h.place h.follower h.there; is = h.is }

pub led_by : (sig : Signature) (ts : List Term) (old new : List Step) (leaf n : ℕ) (c d e : Contents) (step : ℕ) (given : List ℕ) → AddsStep old new step (side.Name n) (side.Name leaf) given → Fits sig ts new
    → ((k : ℕ) → found (present d.leaves) k ≡ with_at (found (present c.leaves)) n (Some leaf) k) → e ≡ record { entries = d.entries; taken = d.taken; rows = d.rows; leaves = d.leaves; justs = e.justs }
    → ((k : ℕ) → just_at e k ≡ with_at (found (present d.justs)) n (Some step) k) → IsLed old new leaf given e n
led_by sig ts old new leaf n c d e step given a fits put only kept = record {
  there = ap (λ (x : Contents). found (present x.leaves) n) only ∙ put n ∙ at_same (found (present c.leaves)) n (Some leaf);
  step = step;
  just = kept n ∙ at_same (found (present d.justs)) n (Some step);
  equal = states_equal old new step n leaf given a;
  rests = rests_on_named sig ts old new step (side.Name n) (side.Name leaf) given a fits;
}

pub led_none : (steps : List Step) (leaf : ℕ) (more : List ℕ) (c : Contents) → AreLed steps steps leaf more c c []
led_none steps leaf more c = record { done = tt; kept = λ n. inr (refl, refl) }

module _ (sig : Signature) (ts : List Term) (first mid new : List Step) (start : IsFront first mid) (f : IsFront mid new) (mid_fits : Fits sig ts mid) (fits : Fits sig ts new) (leaf just : ℕ) (within : just < length first) (c : Contents) where
  -- the step that was added rests on one of the old values and on the given one
  rests_on_two : (given step : ℕ) → SaysValue c given → given < length first → RestsOnThese mid new step (given ∷ just ∷ []) → RestsOnValues first new c (just ∷ []) step
  rests_on_two given step says l r = rests_by sig ts first mid new c (just ∷ []) (given ∷ just ∷ []) step r (λ p m. by_place p (in_pushed p just (given ∷ []) m))
    where
      by_place : (p : ℕ) → IsIn p (given ∷ []) ⊎ (p ≡ just) → RestsOnValues first mid c (just ∷ []) p
      by_place p (inl m) = subst (RestsOnValues first mid c (just ∷ [])) (sym (is_one p given m)) (rests_still sig ts first mid start mid_fits c (just ∷ []) given l (inr says))
      by_place p (inr e) = subst (RestsOnValues first mid c (just ∷ [])) (sym e) (rests_still sig ts first mid start mid_fits c (just ∷ []) just within (inl (in_one just)))

  pub led_more : (d e : Contents) (followers : List Follower) (i : ℕ) (blank : Follower) → i < length followers → SaysValue c (slice_index_or followers i blank).step → (slice_index_or followers i blank).step < length first
      → AreLed first mid leaf (just ∷ []) c d (take i followers) → IsLed mid new leaf ((slice_index_or followers i blank).step ∷ just ∷ []) e (slice_index_or followers i blank).name
      → ((n : ℕ) → n ≢ (slice_index_or followers i blank).name → (found (present e.leaves) n ≡ found (present d.leaves) n) × (just_at e n ≡ just_at d n)) → AreLed first new leaf (just ∷ []) c e (take (i + 1) followers)
  led_more d e followers i blank l says inside before here others = record {
    done = subst (AllByRecursion (λ follower. IsCarriedTo first new leaf (just ∷ []) c e follower.name)) (sym more)
        (all_push (λ (follower : Follower). IsCarriedTo first new leaf (just ∷ []) c e follower.name) (take i followers) next
        (all_weaker (λ (follower : Follower). IsCarriedTo first mid leaf (just ∷ []) c d follower.name) (λ (follower : Follower). IsCarriedTo first new leaf (just ∷ []) c e follower.name)
        (λ follower r. still follower.name r (ℕ_discrete follower.name next.name)) (take i followers) before.done) carried);
    kept = λ n. by_kept n (before.kept n) (ℕ_discrete n next.name);
  }
    where
      next : Follower
      next = slice_index_or followers i blank

      more : take (i + 1) followers ≡ take i followers ++ next ∷ []
      more = take_more followers i blank l

      carried : IsCarriedTo first new leaf (just ∷ []) c e next.name
      carried = record { there = here.there; step = here.step; just = here.just; equal = here.equal; rests = rests_on_two next.step here.step says inside here.rests }

      still : (n : ℕ) → IsCarriedTo first mid leaf (just ∷ []) c d n → Dec (n ≡ next.name) → IsCarriedTo first new leaf (just ∷ []) c e n
      still n r (yes s) = subst (IsCarriedTo first new leaf (just ∷ []) c e) (sym s) carried
      still n r (no m) = record {
        there = (others n m).0 ∙ r.there;
        step = r.step;
        just = (others n m).1 ∙ r.just;
        equal = equal_kept mid new f r.step n leaf r.equal;
        rests = rests_longer sig ts first mid new f fits c (just ∷ []) r.step (slice_get_within mid r.step _ r.equal.there) r.rests;
      }

      by_kept : (n : ℕ) → IsFollower (take i followers) n ⊎ ((found (present d.leaves) n ≡ found (present c.leaves) n) × (just_at d n ≡ just_at c n)) → Dec (n ≡ next.name)
          → IsFollower (take (i + 1) followers) n ⊎ ((found (present e.leaves) n ≡ found (present c.leaves) n) × (just_at e n ≡ just_at c n))
      by_kept n (inl r) s = inl (subst (λ (fs : List Follower). IsFollower fs n) (sym more) (follower_first (take i followers) (next ∷ []) n r))
      by_kept n (inr h) (yes s) = inl (subst (λ (fs : List Follower). IsFollower fs n) (sym more) (record { place = length (take i followers); follower = next; there = get_seam (take i followers) [] next; is = sym s }))
      by_kept n (inr h) (no m) = inr ((others n m).0 ∙ h.0, (others n m).1 ∙ h.1)

-- ---- a name that is its own leaf
module _ (sig : Signature) (ts : List Term) (c : Contents) (patterns : ArePatterns sig ts (held c)) where
  pub record IsItself (s : Sort) (n : ℕ) : Type 0 where
    pub leaf : leaf_at c n ≡ n
    pub other : is_numeric s ≡ false
    pub sorted : sort_of sig (named ts n) ≡ Some s

  pub itself : (s : Sort) (n : ℕ) → IsOwnLeaf sig (system_in ts c) s n → IsItself s n
  itself s n o = by_bool (is_numeric s) as_number (λ f. by_record f (record_fields sig s) refl)
    where
      m : IsMade c n (value.Leaf n)
      m = made c n (value.Leaf n) o.own

      as_number : is_numeric s ≡ true → IsItself s n
      as_number t = absurd (number_leaf (number_at c n) n (sym (by-Number (number_at c) (leaf_at c) n) ∙ sym (ap (value_in c) (patterns.numbers n o.term s m.entry o.is o.sort m.there t)) ∙ m.is))

      by_record : is_numeric s ≡ false → (fs : Option (List Sort)) → record_fields sig s ≡ fs → IsItself s n
      by_record f (Some ss) e =
          let r = patterns.records n o.term s ss m.entry o.is o.sort m.there e in
          absurd (leaf_fields n (map (value_in c) r.0) (sym m.is ∙ ap (value_in c) r.1 ∙ by-Fields (number_at c) (leaf_at c) n r.0))
      by_record f None e = record {
        leaf = same_leaves (leaf_at c n) n (sym (by-Leaf (number_at c) (leaf_at c) n) ∙ sym (ap (value_in c) (patterns.others n o.term s m.entry o.is o.sort m.there f e)) ∙ m.is);
        other = f;
        sorted = ap (sort_of sig) (name_term ts n o.term o.is) ∙ o.sort;
      }

-- ---- leaves of names, after the put
put_there : (name m : ℕ) → put_leaf name m name ≡ m
put_there name m = ap (λ b. cond b m name) (nat_eq_itself name)

put_elsewhere : (name m k : ℕ) → k ≢ name → put_leaf name m k ≡ k
put_elsewhere name m k d = ap (λ b. cond b m k) (ne_eqb k name d)

module _ (before after : List Step) (name leaf : ℕ) (more : List ℕ) (c mid d : Contents) (followers : List Follower) (differ : leaf ≢ name) (own : leaf_at c name ≡ name) (each : AllByRecursion (IsFollowing c name) followers)
    (all : (n : ℕ) → found (present c.leaves) n ≡ Some name → IsFollower followers n) (led : AreLed before after leaf more c mid followers)
    (put : (n : ℕ) → found (present d.leaves) n ≡ with_at (found (present mid.leaves)) name (Some leaf) n) where
  of_follower : (n : ℕ) → IsFollower followers n → IsCarriedTo before after leaf more c mid n
  of_follower n h = subst (IsCarriedTo before after leaf more c mid) h.is (all_at (λ (follower : Follower). IsCarriedTo before after leaf more c mid follower.name) followers h.place h.follower led.done h.there)

  followed : (n : ℕ) → IsFollower followers n → found (present c.leaves) n ≡ Some name
  followed n h = subst (λ (k : ℕ). found (present c.leaves) k ≡ Some name) h.is (all_at (IsFollowing c name) followers h.place h.follower each h.there).there

  pub leaf_put_at : (n : ℕ) → leaf_at d n ≡ put_leaf name leaf (leaf_at c n)
  leaf_put_at n = by_name (ℕ_discrete n name)
    where
      itself : leaf_at d name ≡ put_leaf name leaf (leaf_at c name)
      itself = ap (λ (o : Option ℕ). or_else o name) (put name ∙ at_same (found (present mid.leaves)) name (Some leaf)) ∙ sym (ap (put_leaf name leaf) own ∙ put_there name leaf)

      -- a name that has the other as its leaf is a follower, so its leaf changed
      stays : found (present mid.leaves) n ≡ found (present c.leaves) n → n ≢ name → leaf_at c n ≢ name
      stays same e l = by_found (found (present c.leaves) n) refl
        where
          by_found : (o : Option ℕ) → found (present c.leaves) n ≡ o → ⊥
          by_found None z = e (sym (ap (λ (o : Option ℕ). or_else o n) z) ∙ l)
          by_found (Some k) z =
              let k_is : k ≡ name = sym (ap (λ (o : Option ℕ). or_else o n) z) ∙ l in
              let there : found (present c.leaves) n ≡ Some name = z ∙ ap (λ (j : ℕ). Some j) k_is in
              differ (same_Some leaf name (sym (of_follower n (all n there)).there ∙ same ∙ there))

      by_kept : n ≢ name → IsFollower followers n ⊎ ((found (present mid.leaves) n ≡ found (present c.leaves) n) × (just_at mid n ≡ just_at c n)) → leaf_at mid n ≡ put_leaf name leaf (leaf_at c n)
      by_kept e (inl h) = ap (λ (o : Option ℕ). or_else o n) (of_follower n h).there ∙ sym (ap (put_leaf name leaf) (ap (λ (o : Option ℕ). or_else o n) (followed n h)) ∙ put_there name leaf)
      by_kept e (inr h) = ap (λ (o : Option ℕ). or_else o n) h.0 ∙ sym (put_elsewhere name leaf (leaf_at c n) (stays h.0 e))

      by_name : Dec (n ≡ name) → leaf_at d n ≡ put_leaf name leaf (leaf_at c n)
      by_name (yes s) = subst (λ (k : ℕ). leaf_at d k ≡ put_leaf name leaf (leaf_at c k)) (sym s) itself
      by_name (no e) = ap (λ (o : Option ℕ). or_else o n) (put n ∙ at_other (found (present mid.leaves)) name (Some leaf) n e) ∙ by_kept e (led.kept n)

-- ---- values
module _ (sig : Signature) (nodes : List Node) (c d : Contents) (names : held d ≡ held c) (rows : (n : ℕ) → row_at d.rows n ≡ row_at c.rows n) where
  pub leaf_put : (s : Sort) (name leaf : ℕ) → ArePatterns sig (terms (shapes nodes)) (held c) → IsOwnLeaf sig (system_in (terms (shapes nodes)) c) s name → IsOwnLeaf sig (system_in (terms (shapes nodes)) c) s leaf → leaf ≢ name
      → ((n : ℕ) → leaf_at d n ≡ put_leaf name leaf (leaf_at c n)) → IsLeafPut (held_by sig nodes c) s name leaf (values d)
  leaf_put s name leaf patterns own over differ put = record {
    one_each = one_each c d names;
    own = own;
    over = over;
    differ = differ;
    numbers = λ n f e.
        let m = made c n (value.Number f) e in
        let k = number_made (number_at c) (leaf_at c) m.entry.pattern f m.is in
        pattern_there d n m.entry (Number k.0) (there_still c d names n m.entry m.there) k.1
        ∙ ap (λ (v : Value). Some v) (by-Number (number_at d) (leaf_at d) k.0 ∙ ap value.Number (ap (λ (o : Option Row). or_else (value_of o) (own_number k.0)) (rows k.0) ∙ k.2));
    leaves = λ n l e.
        let m = made c n (value.Leaf l) e in
        let k = leaf_made (number_at c) (leaf_at c) m.entry.pattern l m.is in
        pattern_there d n m.entry (Leaf k.0) (there_still c d names n m.entry m.there) k.1
        ∙ ap (λ (v : Value). Some v) (by-Leaf (number_at d) (leaf_at d) k.0 ∙ ap value.Leaf (put k.0 ∙ ap (put_leaf name leaf) k.2));
    records = have_records sig (terms (shapes nodes)) d (subst (ArePatterns sig (terms (shapes nodes))) (sym names) patterns);
  }

-- ---- steps
module _ (sig : Signature) (ts : List Term) (before after : List Step) (front : IsFront before after) (fits : Fits sig ts after) (name leaf just : ℕ) (c mid d : Contents) (followers : List Follower)
    (s : Sort) (other : is_numeric s ≡ false) (sorted : sort_of sig (named ts name) ≡ Some s) (each : AllByRecursion (IsFollowing c name) followers) (led : AreLed before after leaf (just ∷ []) c mid followers)
    (put : (n : ℕ) → found (present d.leaves) n ≡ with_at (found (present mid.leaves)) name (Some leaf) n) (justs : (n : ℕ) → just_at d n ≡ with_at (found (present mid.justs)) name (Some just) n)
    (rows : (n : ℕ) → row_at d.rows n ≡ row_at c.rows n) (equal : StatesEqual before just name leaf) (said : AreSaid sig ts before c) where
  just_other : (n : ℕ) → n ≢ name → just_at d n ≡ just_at mid n
  just_other n e = justs n ∙ at_other (found (present mid.justs)) name (Some just) n e

  just_there : just_at d name ≡ Some just
  just_there = justs name ∙ at_same (found (present mid.justs)) name (Some just)

  leaf_other : (n : ℕ) → n ≢ name → found (present d.leaves) n ≡ found (present mid.leaves) n
  leaf_other n e = put n ∙ at_other (found (present mid.leaves)) name (Some leaf) n e

  leaf_of : (n : ℕ) → IsFollower followers n → found (present c.leaves) n ≡ Some name
  leaf_of n h = subst (λ (k : ℕ). found (present c.leaves) k ≡ Some name) h.is (all_at (IsFollowing c name) followers h.place h.follower each h.there).there

  led_to : (n : ℕ) → IsFollower followers n → IsCarriedTo before after leaf (just ∷ []) c mid n
  led_to n h = subst (IsCarriedTo before after leaf (just ∷ []) c mid) h.is (all_at (λ (follower : Follower). IsCarriedTo before after leaf (just ∷ []) c mid follower.name) followers h.place h.follower led.done h.there)

  numbers_said : (n : ℕ) (row : Row) → row_at d.rows n ≡ Some row → IsNumberSaid sig ts after d n row
  numbers_said n row at =
      let w = said.numbers n row (sym (rows n) ∙ at) in
      let differ : n ≢ name = λ z. apart sig ts w.real n s w.stated.written.name (ap (λ (k : ℕ). sort_of sig (named ts k)) z ∙ sorted) other in
      record { real = w.real; step = w.step; just = just_other n differ ∙ by_kept w (led.kept n) ∙ w.just; stated = stated_kept sig ts before after front w.real n row.value w.step w.stated }
    where
      by_kept : IsNumberSaid sig ts before c n row → IsFollower followers n ⊎ ((found (present mid.leaves) n ≡ found (present c.leaves) n) × (just_at mid n ≡ just_at c n)) → just_at mid n ≡ just_at c n
      by_kept w (inl h) = let l = said.leaves n name (leaf_of n h) in apart sig ts w.real n l.sort w.stated.written.name l.sorted l.other
      by_kept w (inr h) = h.1

  leaves_said : (n m : ℕ) → found (present d.leaves) n ≡ Some m → IsLeafSaid sig ts after d n m
  leaves_said n m at = by_name (ℕ_discrete n name)
    where
      itself_said : n ≡ name → IsLeafSaid sig ts after d n m
      itself_said z =
          let l : leaf ≡ m = same_Some leaf m (sym (at_same (found (present mid.leaves)) name (Some leaf)) ∙ sym (put name) ∙ ap (found (present d.leaves)) (sym z) ∙ at) in
          record {
            sort = s;
            sorted = ap (λ (k : ℕ). sort_of sig (named ts k)) z ∙ sorted;
            other = other;
            step = just;
            just = ap (just_at d) z ∙ just_there;
            equal = subst (λ (k : ℕ). StatesEqual after just k m) (sym z) (subst (StatesEqual after just name) l (equal_kept before after front just name leaf equal));
          }

      follower_said : n ≢ name → IsFollower followers n → IsLeafSaid sig ts after d n m
      follower_said e h =
          let l = said.leaves n name (leaf_of n h) in
          let f = led_to n h in
          let z : leaf ≡ m = same_Some leaf m (sym f.there ∙ sym (leaf_other n e) ∙ at) in
          record { sort = l.sort; sorted = l.sorted; other = l.other; step = f.step; just = just_other n e ∙ f.just; equal = subst (StatesEqual after f.step n) z f.equal }

      by_kept : n ≢ name → IsFollower followers n ⊎ ((found (present mid.leaves) n ≡ found (present c.leaves) n) × (just_at mid n ≡ just_at c n)) → IsLeafSaid sig ts after d n m
      by_kept e (inl h) = follower_said e h
      by_kept e (inr h) =
          let l = said.leaves n m (sym h.0 ∙ sym (leaf_other n e) ∙ at) in
          record { sort = l.sort; sorted = l.sorted; other = l.other; step = l.step; just = just_other n e ∙ h.1 ∙ l.just; equal = equal_kept before after front l.step n m l.equal }

      by_name : Dec (n ≡ name) → IsLeafSaid sig ts after d n m
      by_name (yes z) = itself_said z
      by_name (no e) = by_kept e (led.kept n)

  pub said_led : AreSaid sig ts after d
  said_led = record { numbers = numbers_said; leaves = leaves_said }

  -- ---- what the steps rest on
  pub sources_led : AreFromValues before after c d (just ∷ [])
  sources_led = record { each = λ id says. by_name id says (ℕ_discrete says.name name) }
    where
      itself_from : (id : ℕ) → just ≡ id → RestsOnValues before after c (just ∷ []) id
      itself_from id z = subst (RestsOnValues before after c (just ∷ [])) z (rests_still sig ts before after front fits c (just ∷ []) just (slice_get_within before just _ equal.there) (inl (in_one just)))

      still_from : (id : ℕ) → SaysValue c id → RestsOnValues before after c (just ∷ []) id
      still_from id says = rests_still sig ts before after front fits c (just ∷ []) id (says_within sig ts before c said id says) (inr says)

      put_before : (n : ℕ) → n ≢ name → found (present mid.leaves) n ≡ found (present c.leaves) n → IsPutFor d n → IsPutFor c n
      put_before n e same (by_number row at) = by_number row (sym (rows n) ∙ at)
      put_before n e same (by_leaf m at) = by_leaf m (sym same ∙ sym (leaf_other n e) ∙ at)

      by_kept : (id : ℕ) (says : SaysValue d id) → says.name ≢ name
          → IsFollower followers says.name ⊎ ((found (present mid.leaves) says.name ≡ found (present c.leaves) says.name) × (just_at mid says.name ≡ just_at c says.name)) → RestsOnValues before after c (just ∷ []) id
      by_kept id says e (inl h) = let f = led_to says.name h in subst (RestsOnValues before after c (just ∷ [])) (same_Some f.step id (sym f.just ∙ sym (just_other says.name e) ∙ says.just)) f.rests
      by_kept id says e (inr h) = still_from id (record { name = says.name; put = put_before says.name e h.0 says.put; just = sym h.1 ∙ sym (just_other says.name e) ∙ says.just })

      by_name : (id : ℕ) (says : SaysValue d id) → Dec (says.name ≡ name) → RestsOnValues before after c (just ∷ []) id
      by_name id says (yes z) = itself_from id (same_Some just id (sym just_there ∙ ap (just_at d) (sym z) ∙ says.just))
      by_name id says (no e) = by_kept id says e (led.kept says.name)
