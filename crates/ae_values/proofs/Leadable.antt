-- A name that may be put for another, and the names that have that one as their leaf.
use Rattle.std.specs.Prelude.{ℕ, ◌<◌, ◌≡◌, List, [], ◌∷◌, Some}
use Rattle.std.specs.List.{AllByRecursion}
use Rattle.std.proofs.Common.{sym, ap, ◌∙◌, subst}
use Rattle.std.proofs.lemmas.Option.{same_Some}
use Rattle.ae_base.proofs.AllOf.{all_weaker}
use Rattle.ae_core.specs.Sorts.{sort_of}
use Rattle.ae_core.specs.declared.terms.Sort.{Sort}
use Rattle.ae_core.specs.declared.terms.Term.{Term}
use Rattle.ae_core.specs.declared.problems.Signature.{Signature}
use Rattle.ae_linear.specs.Rows.{row_at}
use Rattle.ae_pmap.specs.Forest.{present}
use Rattle.ae_pmap.specs.Pairs.{found, with_at}
use Rattle.ae_store.specs.Growing.{IsFront}
use Rattle.ae_store.specs.Shapes.{shapes}
use Rattle.ae_store.specs.Stores.{Stored}
use Rattle.ae_store.specs.Terms.{terms}
use Rattle.ae_just.specs.declared.steps.Step.{Step}
use Rattle.ae_just.specs.Steps.{Fits}
use Rattle.ae_settled.specs.Valued.{AreValues, IsOwnLeaf}
use Rattle.ae_state_steps.specs.ValueSteps.{StatesEqual}
use Rattle.ae_value_changes.specs.Put.{IsLeafPut, LeavesPut}
use Rattle.ae_value_table.specs.Table.{Contents, just_at, held, values}
use Rattle.ae_value_fitting.specs.Fitting.{system_in, held_by, AreSaid}
use Rattle.ae_value_fitting.specs.Sources.{SaysValue, by_leaf, AreFromValues}
use Rattle.ae_values.specs.declared.occurrences.Follower.{Follower}
use Rattle.ae_values.specs.Inner.Before.{IsFollowing, IsFollower}
use Rattle.ae_values.specs.Inner.Leading.{AreLed, IsLeafPuttable}
use Rattle.ae_values.proofs.LeafPuts.{itself, leaf_put_at, leaf_put, said_led, sources_led}
use Rattle.ae_values.proofs.Puttable.{leaves_within}

module _ (s : Stored) (steps : List Step) (c : Contents) (name leaf just : ℕ) (p : IsLeafPuttable s steps c name leaf just) where
  abbrev sig : Signature
  sig = s.signature

  abbrev ts : List Term
  ts = terms (shapes s.nodes)

  -- ---- the followers
  pub all_follow : (followers : List Follower) → ((n k : ℕ) → n < c.taken → found (present c.leaves) n ≡ Some name → just_at c n ≡ Some k → IsFollower followers n) → (n : ℕ) → found (present c.leaves) n ≡ Some name → IsFollower followers n
  all_follow followers all n at = let w = p.said.leaves n name at in all n w.step (leaves_within sig ts steps c p.fits p.values p.said n name at) at w.just

  equal_one : (follower : Follower) → IsFollowing c name follower → StatesEqual steps follower.step follower.name name
  equal_one follower f =
      let w = p.said.leaves follower.name name f.there in
      subst (λ (k : ℕ). StatesEqual steps k follower.name name) (same_Some w.step follower.step (sym w.just ∙ f.step)) w.equal

  pub equal_all : (followers : List Follower) → AllByRecursion (IsFollowing c name) followers → AllByRecursion (λ follower. StatesEqual steps follower.step follower.name name) followers
  equal_all followers each = all_weaker (IsFollowing c name) (λ (follower : Follower). StatesEqual steps follower.step follower.name name) equal_one followers each

  pub followers_say : (followers : List Follower) → AllByRecursion (IsFollowing c name) followers → AllByRecursion (λ follower. SaysValue c follower.step) followers
  followers_say followers each =
      all_weaker (IsFollowing c name) (λ (follower : Follower). SaysValue c follower.step) (λ follower f. record { name = follower.name; put = by_leaf name f.there; just = f.step }) followers each

  -- ---- the sort is one
  one_sort : (t : Sort) → IsOwnLeaf sig (system_in ts c) t name → p.sort ≡ t
  one_sort t o = same_Some p.sort t (sym p.own.sort ∙ ap (sort_of sig) (same_Some p.own.term o.term (sym p.own.is ∙ o.is)) ∙ o.sort)

  -- ---- the leaf was put
  module _ (after : List Step) (front : IsFront steps after) (fits : Fits sig ts after) (mid d : Contents) (followers : List Follower) (each : AllByRecursion (IsFollowing c name) followers)
      (all : (n : ℕ) → found (present c.leaves) n ≡ Some name → IsFollower followers n) (led : AreLed steps after leaf (just ∷ []) c mid followers)
      (put : (n : ℕ) → found (present d.leaves) n ≡ with_at (found (present mid.leaves)) name (Some leaf) n) (justs : (n : ℕ) → just_at d n ≡ with_at (found (present mid.justs)) name (Some just) n)
      (names : held d ≡ held c) (rows : (n : ℕ) → row_at d.rows n ≡ row_at c.rows n) where
    pub leaf_is_put : (t : Sort) → IsOwnLeaf sig (system_in ts c) t name → IsLeafPut (held_by sig s.nodes c) t name leaf (values d)
    leaf_is_put t o =
        leaf_put sig s.nodes c d names rows t name leaf p.patterns o (subst (λ (u : Sort). IsOwnLeaf sig (system_in ts c) u leaf) (one_sort t o) p.over) p.differ
        (leaf_put_at steps after name leaf (just ∷ []) c mid d followers p.differ (itself sig ts c p.patterns p.sort name p.own).leaf each all led put)

    pub leaf_said : AreSaid sig ts after d
    leaf_said =
        let i = itself sig ts c p.patterns p.sort name p.own in
        said_led sig ts steps after front fits name leaf just c mid d followers p.sort i.other i.sorted each led put justs rows p.states p.said

    pub leaf_sources : AreFromValues steps after c d (just ∷ [])
    leaf_sources =
        let i = itself sig ts c p.patterns p.sort name p.own in
        sources_led sig ts steps after front fits name leaf just c mid d followers p.sort i.other i.sorted each led put justs rows p.states p.said

  pub values_led : (t : Sort) (vs : Contents) → LeavesPut → IsLeafPut (held_by sig s.nodes c) t name leaf (values vs) → AreValues sig (system_in ts vs)
  values_led t vs law put = law (held_by sig s.nodes c) t name leaf (values vs) p.store p.values put
