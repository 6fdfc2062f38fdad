-- Steps that equate names with their representatives.
use Rattle.std.specs.Prelude.{ℕ, ◌+◌, ◌<◌, ◌⊎◌, ◌≡◌, true, List, [], ◌∷◌, ◌++◌, map, take, length, get_or, slice_get, Some, IsTrue}
use Rattle.std.specs.List.{AllByRecursion}
use Rattle.std.proofs.Common.{sym, ap, ◌∙◌, subst, inl, inr}
use Rattle.std.proofs.lemmas.List.{length-map}
use Rattle.std.proofs.lemmas.Option.{same_Some, slice_get_within, slice_get-get_or}
use Rattle.ae_base.specs.Options.{known}
use Rattle.ae_base.specs.Relations.{Pairwise}
use Rattle.ae_base.proofs.AllOf.{all_at}
use Rattle.ae_base.proofs.ListFacts.{get_map}
use Rattle.ae_base.proofs.Relations.{pairwise_length, pairwise_weaker, pairwise_more, pairwise_get, pairwise_back}
use Rattle.ae_core.specs.Sorts.{sort_of}
use Rattle.ae_core.specs.declared.terms.Term.{Term}
use Rattle.ae_core.specs.declared.problems.Signature.{Signature}
use Rattle.ae_just.specs.Needed.{RestsOn}
use Rattle.ae_just.specs.Steps.{Fits}
use Rattle.ae_just.specs.declared.steps.Rule.TheVariants as rule
use Rattle.ae_just.specs.declared.steps.Side.TheVariants as side
use Rattle.ae_just.specs.declared.steps.Step.{Step}
use Rattle.ae_multiset_steps.specs.Equating.{AreEquated}
use Rattle.ae_state_steps.specs.ManySteps.{StatesNames}
use Rattle.ae_state_steps.specs.ValueSteps.{StatesEqual}
use Rattle.ae_store.specs.Growing.{IsFront}
use Rattle.ae_store.specs.Parts.{IsIn}
use Rattle.ae_store.proofs.PartLaws.{in_none}
use Rattle.ae_store.specs.Terms.{named}
use Rattle.ae_sweeps.specs.Given.{rep_in}
use Rattle.ae_value_steps.proofs.Added.{equal_kept, stated_kept}
use Rattle.ae_value_table.specs.Alike.{alike}
use Rattle.ae_value_table.specs.Table.{Contents}
use Rattle.ae_value_fitting.specs.Fitting.{AreSaid}
use Rattle.ae_value_fitting.specs.Sources.{SaysValue, IsUnderValues, RestsOnValues}
use Rattle.ae_value_fitting.proofs.Resting.{rests_still, rests_longer, says_within}
use Rattle.ae_representatives.specs.Equal.{IsRepresented, IsEqualTo}

module _ (sig : Signature) (ts : List Term) where
  -- what is said stays said where steps come behind
  pub said_kept : (old new : List Step) → IsFront old new → (c : Contents) → AreSaid sig ts old c → AreSaid sig ts new c
  said_kept old new f c said = record {
    numbers = λ n row at. (let w = said.numbers n row at in record { real = w.real; step = w.step; just = w.just; stated = stated_kept sig ts old new f w.real n row.value w.step w.stated });
    leaves = λ n m at. (let w = said.leaves n m at in record { sort = w.sort; sorted = w.sorted; other = w.other; step = w.step; just = w.just; equal = equal_kept old new f w.step n m w.equal });
  }

  -- what rests on steps that say values when more steps stood did so before
  pub rests_sooner : (old mid new : List Step) → IsFront old mid → Fits sig ts mid → (c : Contents) → AreSaid sig ts old c → (id : ℕ) → RestsOnValues mid new c [] id → RestsOnValues old new c [] id
  rests_sooner old mid new f fits c said id r = record { each = each }
    where
      still : (by : ℕ) → IsIn by [] ⊎ SaysValue c by → RestsOnValues old mid c [] by
      still by (inl m) = absurd (in_none by m)
      still by (inr s) = rests_still sig ts old mid f fits c [] by (says_within sig ts old c said by s) (inr s)

      each : (k tag : ℕ) (s : Step) → RestsOn new id k → slice_get new k ≡ Some s → s.rule ≡ rule.Hyp tag → IsUnderValues old c [] k s
      each k tag s q at is = let w = r.each k tag s q at is in (still w.by w.one).each k tag s w.rests w.there is

  module _ (reps : List ℕ) (c : Contents) where
    -- more steps
    pub equal_longer : (old mid new : List Step) → IsFront mid new → Fits sig ts new → (names ids : List ℕ) → Pairwise (IsEqualTo old mid c reps) names ids → Pairwise (IsEqualTo old new c reps) names ids
    equal_longer old mid new f fits names ids all = pairwise_weaker (IsEqualTo old mid c reps) (IsEqualTo old new c reps) one names ids all
      where
        one : (name id : ℕ) → IsEqualTo old mid c reps name id → IsEqualTo old new c reps name id
        one name id e = record {
          states = equal_kept mid new f id name (rep_in reps name) e.states;
          rests = rests_longer sig ts old mid new f fits c [] id (slice_get_within mid id _ (e.states).there) e.rests;
        }

    -- one name more
    pub equal_more : (old mid new : List Step) → IsFront old mid → IsFront mid new → Fits sig ts mid → Fits sig ts new → AreSaid sig ts old c → (names ids : List ℕ) (i name id : ℕ) → i < length names
        → name ≡ get_or names i name → Pairwise (IsEqualTo old mid c reps) (take i names) ids → StatesEqual new id name (rep_in reps name) → RestsOnValues mid new c [] id
        → Pairwise (IsEqualTo old new c reps) (take (i + 1) names) (ids ++ id ∷ [])
    equal_more old mid new f g mid_fits fits said names ids i name id l is before states rests =
        pairwise_more (IsEqualTo old new c reps) names ids i name id l is (equal_longer old mid new g fits (take i names) ids before)
        (record { states = states; rests = rests_sooner old mid new f mid_fits c said id rests })

-- the steps equate all of the names with all of their representatives
pub equated : (old new : List Step) (c : Contents) (reps names ids : List ℕ) → Pairwise (IsEqualTo old new c reps) names ids → AreEquated new names (map (rep_in reps) names) ids
equated old new c reps names ids all = record { as_many = length-map names (rep_in reps); one_each = sym (pairwise_length (IsEqualTo old new c reps) names ids all); each = each }
  where
    states : (x y id k : ℕ) → id ≡ k → rep_in reps x ≡ y → StatesEqual new id x (rep_in reps x) → StatesNames new k x y
    states x y id k e f h = record { by = h.by; there = ap (slice_get new) (sym e) ∙ h.there ∙ (λ z. Some (record { left = side.Name x; right = side.Name (f z); rule = h.by })) }

    each : (i x y id : ℕ) → slice_get names i ≡ Some x → slice_get (map (rep_in reps) names) i ≡ Some y → slice_get ids i ≡ Some id → StatesNames new id x y
    each i x y id a b d =
        let g = pairwise_get (IsEqualTo old new c reps) names ids i x all a in
        states x y g.0 id (same_Some g.0 id (sym g.2 ∙ d)) (same_Some (rep_in reps x) y (sym (get_map (rep_in reps) names i x a) ∙ b)) (g.1).states

-- each of them rests on steps that say values
pub equal_rests : (old new : List Step) (c : Contents) (reps names ids : List ℕ) → Pairwise (IsEqualTo old new c reps) names ids → (id : ℕ) → IsIn id ids → RestsOnValues old new c [] id
equal_rests old new c reps names ids all id m = let g = pairwise_back (IsEqualTo old new c reps) names ids m.place id all m.is in (g.1).rests

-- ---- one of the names
pub represented_at : (sig : Signature) (ts : List Term) (c : Contents) (reps names : List ℕ) (i name : ℕ) → i < length names → name ≡ get_or names i name
    → AllByRecursion (IsRepresented sig ts c reps) names → IsRepresented sig ts c reps name
represented_at sig ts c reps names i name l is all = all_at (IsRepresented sig ts c reps) names i name all (slice_get-get_or names i name l ∙ ap (λ (n : ℕ). Some n) (sym is))

pub known_by : (sig : Signature) (ts : List Term) (c : Contents) (reps : List ℕ) (name other : ℕ) → other ≡ rep_in reps name → IsRepresented sig ts c reps name → known (sort_of sig (named ts other)) ≡ true
known_by sig ts c reps name other e r = subst (λ (n : ℕ). known (sort_of sig (named ts n)) ≡ true) (sym e) r.rep_sorted

pub alike_by : (sig : Signature) (ts : List Term) (c : Contents) (reps : List ℕ) (name other : ℕ) → other ≡ rep_in reps name → IsRepresented sig ts c reps name → IsTrue (alike c name other)
alike_by sig ts c reps name other e r = subst (λ (n : ℕ). IsTrue (alike c name n)) (sym e) r.same

pub states_by : (steps : List Step) (reps : List ℕ) (name id other : ℕ) → other ≡ rep_in reps name → StatesEqual steps id name other → StatesEqual steps id name (rep_in reps name)
states_by steps reps name id other e h = subst (λ (n : ℕ). StatesEqual steps id name n) e h
