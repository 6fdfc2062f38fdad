-- Where no number of an instance can fall and nothing is found that wasn't taken, no instance is owed.
use Rattle.std.specs.Prelude.{ℕ, ◌-◌, ◌<◌, Bool, true, List, ◌≡◌, length, slice_get, Some}
use Rattle.std.specs.List.{AllByRecursion, Contains}
use Rattle.std.proofs.Common.{refl, sym, ap, ◌∙◌, subst, arith}
use Rattle.std.proofs.lemmas.Option.{slice_get_within}
use Rattle.ae_ages.proofs.Covering.{had_ones_cover}
use Rattle.ae_base.proofs.AllOf.{all_at}
use Rattle.ae_base.proofs.Options.{bind_some, only_some}
use Rattle.ae_base.proofs.Relations.{pairwise_back, pairwise_get}
use Rattle.ae_base.specs.Options.{only}
use Rattle.ae_base.specs.Relations.{Pairwise}
use Rattle.ae_between_rounds.proofs.Growing.{some_told}
use Rattle.ae_between_rounds.specs.Between.{IsBetweenRounds}
use Rattle.ae_between_rounds.specs.Finished.{IsInstantiatedBy, IsOpenSearch}
use Rattle.ae_between_rounds.specs.Held.{IsNotedAs, by_owner, noted_as, taken_of}
use Rattle.ae_between_rounds.specs.declared.search.Instance.{Instance}
use Rattle.ae_between_rounds.specs.declared.search.Search.{Search}
use Rattle.ae_block_constants.specs.Blocks.{opened_pairs}
use Rattle.ae_core.specs.declared.formulas.Formula.{out-Formula}
use Rattle.ae_core.specs.declared.formulas.Lit.{Lit}
use Rattle.ae_core.specs.declared.problems.Problem.{Problem}
use Rattle.ae_inst.specs.declared.instances.Taken.{Taken}
use Rattle.ae_journal.proofs.Splits.{contains_at}
use Rattle.ae_journal.specs.Standing.{Setting, IsGiven}
use Rattle.ae_journal.specs.States as states
use Rattle.ae_matching.specs.Laws.{IsEquivalence}
use Rattle.ae_open_states.specs.Shown.{trail_literals}
use Rattle.ae_owed.specs.Instances.{Instance as NotedInstance, brought}
use Rattle.ae_owed.specs.Known.{IsFoundAt}
use Rattle.ae_owed.specs.Owed.{AreThoseAlike, OwnerIsThere}
use Rattle.ae_owed_matches.proofs.FoundLaws.{from_map}
use Rattle.ae_owed_matches.proofs.NoneOwed.{nothing_between, passes_leave_none}
use Rattle.ae_owed_matches.specs.Found.{AreKeptAs, IsKeptAs}
use Rattle.ae_owed_matches.specs.Laws.{IsPassed}
use Rattle.ae_owners.specs.Owners.{HasOwner, IsOwnerIn, owner_of}
use Rattle.ae_owners.specs.declared.owners.Owner.{Owner}
use Rattle.ae_propagation.specs.Settled.{HasTrue}
use Rattle.ae_rules.specs.Clauses.{Clause}
use Rattle.ae_searching.specs.Told.{IsToldIn}
use Rattle.ae_store.specs.Stores.{Stored}
use Rattle.ae_state.proofs.Alikeness.{alike_through, alike_turned}
use Rattle.ae_state.specs.Names.{system_now}
use Rattle.ae_value_table.proofs.Least.{alike_itself}
use Rattle.ae_value_table.specs.Alike.{alike}
use Rattle.ae_value_table.specs.Table.{Contents}
use Rattle.ae_owed_instances.proofs.Lists.{place_of}
use Rattle.ae_owed_instances.proofs.Standing.{instances_stand}
use Rattle.ae_owed_instances.specs.Inner.Falling.{IsLeastNow}
use Rattle.ae_owed_instances.specs.Inner.Passing.{HaveNone}

pub alike_laws : (c : Contents) → IsEquivalence (alike c)
alike_laws c = record { reflexive = λ n. alike_itself c n; symmetric = λ m n h. alike_turned c m n h; transitive = λ l m n h k. alike_through c l m n h k }

-- the literal of an owner is universal
universal_of : (p : Problem) (g : ℕ) (s : Stored) (owners : List Owner) (i : Instance) (y : NotedInstance) → AllByRecursion (IsOwnerIn p g) owners → IsNotedAs s owners i y → (m : Lit) → y.owner ≡ states.of_literal m
    → states.is_universal m ≡ true
universal_of p g s owners _ _ right (by_owner o i at within) m e =
    let r = all_at (IsOwnerIn p g) owners i.owner o right at in
    let b = bind_some (only (states.is_universal m) (states.quant_of (out-Formula m.formula))) (λ z. Some (states.literal_pattern p.signature z)) r.pattern (ap (states.pattern_of p g) (sym e) ∙ r.is) in
    (only_some (states.is_universal m) (states.quant_of (out-Formula m.formula)) b.0 b.1).0

are_universal : (p : Problem) (g : ℕ) (s : Stored) (owners : List Owner) (made : List Instance) (ys : List NotedInstance) → AllByRecursion (IsOwnerIn p g) owners → Pairwise (IsNotedAs s owners) made ys
    → (y : NotedInstance) → Contains ys y → (m : Lit) → y.owner ≡ states.of_literal m → states.is_universal m ≡ true
are_universal p g s owners made ys right are y c m e =
    let k = place_of ys y c in
    let r = pairwise_back (IsNotedAs s owners) made ys k.0 y are k.1 in
    universal_of p g s owners r.0 y right r.1 m e

module _ (p : Problem) (g bound : ℕ) (o : Search) (b : IsBetweenRounds p g bound o) (i : IsOpenSearch o) where
  abbrev same : ℕ → ℕ → Bool
  same = alike o.solver.theory.values

  abbrev lits : List Lit
  lits = trail_literals o.solver.propagation.trail

  abbrev instances : List NotedInstance
  instances = b.holds.instances.instances

  -- ---- each match that was taken is one of the instances
  kept_by : (e : Instance) (y : NotedInstance) → IsNotedAs o.store o.owners e y → Contains instances y → IsKeptAs o.store o.owners instances (taken_of e)
  kept_by e _ (by_owner w _ at within) c = record {
    instance = noted_as o.store w e;
    among = c;
    owner = record { owner = w; at = at; is = refl };
    sorts = refl;
    terms = refl;
    within = within;
  }

  kept : AreKeptAs o.store o.owners instances o.instances.taken.taken
  kept t c =
      let r = from_map taken_of o.instances.made t (subst (λ (ts : List Taken). Contains ts t) b.holds.instances.taken_ones c) in
      let k = place_of o.instances.made r.0 r.1 in
      let y = pairwise_get (IsNotedAs o.store o.owners) o.instances.made instances k.0 r.0 b.holds.instances.are k.1 in
      subst (IsKeptAs o.store o.owners instances) r.2 (kept_by r.0 y.0 y.1 (contains_at instances k.0 y.0 y.2))

  -- ---- no number can fall
  never_less : (k n : ℕ) (e : Instance) (y : NotedInstance) → IsNotedAs o.store o.owners e y → slice_get o.instances.made k ≡ Some e → n < y.number → IsLeastNow p g o k → ¬ IsFoundAt p g o.store same n y.owner y.sorts y.terms
  never_less k n e _ (by_owner w _ at within) made lt least f =
      least e made (omega (arith, lt)) (record {
        instance = e;
        at = made;
        owner = w;
        there = at;
        found =
            nothing_between p g o.store same (e.number - 1) n (owner_of w) e.subst.sorts (noted_as o.store w e).terms (λ m x h young. omega (arith, lt, young)) f;
      })

  least_ones : ((k : ℕ) → k < length o.instances.made → IsLeastNow p g o k) → (n : ℕ) (y : NotedInstance) → n < bound → n < y.number → Contains instances y → OwnerIsThere lits y.owner
      → ¬ IsFoundAt p g o.store same n y.owner y.sorts y.terms
  least_ones least n y lt less c there =
      let k = place_of instances y c in
      let r = pairwise_back (IsNotedAs o.store o.owners) o.instances.made instances k.0 y b.holds.instances.are k.1 in
      never_less k.0 n r.0 y r.1 r.2 less (least k.0 (slice_get_within o.instances.made k.0 r.0 r.2))

  -- ---- each owner that is there has a number
  module _ (literals : (l : Lit) → Contains lits l → states.is_universal l ≡ true → HasOwner o.owners (states.of_literal l)) where
    owned : (w : states.Owner) (q : states.Pattern) → OwnerIsThere lits w → states.pattern_of p g w ≡ Some q → HasOwner o.owners w
    owned (states.of_literal l) q there e =
        let r = bind_some (only (states.is_universal l) (states.quant_of (out-Formula l.formula))) (λ z. Some (states.literal_pattern p.signature z)) q e in
        literals l there (only_some (states.is_universal l) (states.quant_of (out-Formula l.formula)) r.0 r.1).0
    owned (states.of_axiom k) q there e = b.holds.instances.axioms k q e

    pub all_passed : ((k : ℕ) → k < length o.instances.made → IsLeastNow p g o k) → ((n : ℕ) → n < bound → HaveNone o n (length o.owners))
        → IsPassed p g bound lits o.store same o.owners o.instances.taken.taken instances
    all_passed least none = record {
      all = owned;
      right = λ k w at. all_at (IsOwnerIn p g) o.owners k w b.holds.instances.right at;
      none = λ n k w lt at there. none n lt k w (slice_get_within o.owners k w at) at there;
      least = least_ones least;
      kept = kept;
    }

  -- ---- what instances say is true
  true_of : (x : Setting) → IsToldIn p g o.store o.blocks.opened x → (c : Clause) → IsGiven x o.journal.lines c → HasTrue o.solver.propagation.trail c
  true_of x told c given =
      let k = (b.searching.lawful x told).given c given in
      subst (HasTrue o.solver.propagation.trail) k.2 (i.all_true.clauses_true k.0 k.1)

  stand : (y : NotedInstance) → Contains instances y → OwnerIsThere lits y.owner → AllByRecursion (Contains lits) (brought p g y)
  stand y c there =
      let s = some_told p g o.blocks.next o.store o.blocks.opened b.holds.constants.apart in
      let x = s.0 in
      let told = s.1 in
      let r = ((b.holds.instances.recorded x told).each y c) in
      subst (λ (z : Problem). AllByRecursion (Contains lits) (brought z g y)) told.problem
      (subst (λ (z : ℕ). AllByRecursion (Contains lits) (brought x.problem z y)) told.goal
      (instances_stand x o.journal.lines o.solver.propagation.trail b.searching.alive.running.lawful.apart (true_of x told) y (λ l d. (r l d).line_of) (λ k e. b.holds.instances.typed y k c e)
      (are_universal p g o.store o.owners o.instances.made instances b.holds.instances.right b.holds.instances.are y c) there))

  pub none_left : AreThoseAlike o.store same (system_now o.solver.theory) → IsPassed p g bound lits o.store same o.owners o.instances.taken.taken instances → IsInstantiatedBy p g bound o
  none_left names passed = (
    instances,
    record {
      store = b.holds.store;
      signature = sym b.searching.signature;
      names = names;
      covered = had_ones_cover p g bound (opened_pairs o.blocks.opened) instances o.store o.ages b.holds.instances.had;
      none_owed = passes_leave_none p g bound lits o.store same o.owners o.instances.taken.taken instances (sym b.searching.signature) b.holds.store (alike_laws o.solver.theory.values) passed;
      stand = stand;
    },
  )
