-- Owners that are added, and the owner of an instance that was made.
use Rattle.std.specs.Prelude.{ℕ, ◌<◌, true, List, ◌++◌, ◌≡◌, length, slice_get, Some}
use Rattle.std.specs.List.{AllByRecursion, Contains}
use Rattle.std.proofs.Common.{sym, ap, ◌∙◌, subst}
use Rattle.ae_ages.specs.declared.entries.Aged.{Aged}
use Rattle.ae_base.proofs.ListFacts.{get_append}
use Rattle.ae_base.proofs.Relations.{pairwise_get, pairwise_weaker}
use Rattle.ae_between_rounds.specs.Between.{IsBetweenRounds}
use Rattle.ae_between_rounds.specs.Finished.{IsOpenSearch}
use Rattle.ae_between_rounds.specs.Held.{HaveInstances, IsNotedAs, by_owner}
use Rattle.ae_between_rounds.specs.declared.search.Instance.{Instance}
use Rattle.ae_between_rounds.specs.declared.search.Search.{Search}
use Rattle.ae_block_constants.specs.declared.opened.Opened.{Opened}
use Rattle.ae_core.specs.declared.formulas.Lit.{Lit}
use Rattle.ae_core.specs.declared.problems.Problem.{Problem}
use Rattle.ae_explain.specs.declared.trail.Assigned.{Assigned}
use Rattle.ae_inst.specs.declared.instances.Taken.{Taken}
use Rattle.ae_journal.specs.States as states
use Rattle.ae_journal.specs.declared.lines.Line.{Line}
use Rattle.ae_open_states.specs.Shown.{trail_literals}
use Rattle.ae_owed.specs.Instances.{Instance as NotedInstance}
use Rattle.ae_owed_matches.proofs.FoundLaws.{from_map}
use Rattle.ae_owners.proofs.Numbers.{all_right, still_there}
use Rattle.ae_owners.specs.Owners.{AreOwnersApart, HasOwner, IsOwnerIn, MoreOwners}
use Rattle.ae_owners.specs.declared.owners.Owner.{Owner}
use Rattle.ae_store.specs.Stores.{Stored}
use Rattle.ae_owed_instances.proofs.Lists.{place_of}
use Rattle.ae_owed_instances.proofs.Staying.{owners_stay}

noted_more : (s : Stored) (ws us more : List Owner) (i : Instance) (y : NotedInstance) → us ≡ ws ++ more → IsNotedAs s ws i y → IsNotedAs s us i y
noted_more s ws us more i _ e (by_owner o _ at within) = by_owner o i (ap (λ (z : List Owner). slice_get z i.owner) e ∙ get_append ws more i.owner o at) within

have_owners : (p : Problem) (g bound : ℕ) (s : Stored) (opened : List Opened) (ws us : List Owner) (made : List Instance) (taken : List Taken) (es : List Aged) (js : List Line)
    → HaveInstances p g bound s opened ws made taken es js → MoreOwners (IsOwnerIn p g) ws us → AreOwnersApart us → HaveInstances p g bound s opened us made taken es js
have_owners p g bound s opened ws us made taken es js h m apart = record {
  right = all_right (IsOwnerIn p g) ws us m h.right;
  apart = apart;
  axioms = λ k q e. still_there (IsOwnerIn p g) ws us (states.of_axiom k) m (h.axioms k q e);
  instances = h.instances;
  are = pairwise_weaker (IsNotedAs s ws) (IsNotedAs s us) (λ i y r. noted_more s ws us m.more i y m.is r) made h.instances h.are;
  taken_ones = h.taken_ones;
  recorded = h.recorded;
  typed = h.typed;
  had = h.had;
  justified = h.justified;
}

pub owners_added : (p : Problem) (g bound : ℕ) (o : Search) (us : List Owner) → IsBetweenRounds p g bound o → MoreOwners (IsOwnerIn p g) o.owners us → (AreOwnersApart o.owners → AreOwnersApart us)
    → IsBetweenRounds p g bound (record o { owners = us })
owners_added p g bound o us b m apart =
    owners_stay p g bound o b us (have_owners p g bound o.store o.blocks.opened o.owners us o.instances.made o.instances.taken.taken o.ages o.journal.lines b.holds.instances m (apart b.holds.instances.apart))

pub open_owned : (o : Search) (us : List Owner) → IsOpenSearch o → IsOpenSearch (record o { owners = us })
open_owned o us i = record { all_true = i.all_true; told = i.told; complete = i.complete }

-- what holds of each place of a trail holds of each literal
pub literals_owned : (t u : List Assigned) (us : List Owner) → u ≡ t → ((k : ℕ) (a : Assigned) → slice_get u k ≡ Some a → states.is_universal a.lit ≡ true → HasOwner us (states.of_literal a.lit))
    → (l : Lit) → Contains (trail_literals t) l → states.is_universal l ≡ true → HasOwner us (states.of_literal l)
literals_owned t u us e h l c v =
    let r = from_map (λ (a : Assigned). a.lit) t l c in
    let k = place_of t r.0 r.1 in
    subst (λ (z : Lit). HasOwner us (states.of_literal z)) r.2 (h k.0 r.0 (ap (λ (z : List Assigned). slice_get z k.0) e ∙ k.1) (subst (λ (z : Lit). states.is_universal z ≡ true) (sym r.2) v))

-- ---- the owner of an instance
owner_noted : (s : Stored) (ws : List Owner) (i : Instance) (y : NotedInstance) → IsNotedAs s ws i y → (w : Owner) × (slice_get ws i.owner ≡ Some w) × AllByRecursion (λ n. n < length s.nodes) i.subst.terms
owner_noted s ws i _ (by_owner w _ at within) = (w, at, within)

pub made_owner : (p : Problem) (g bound : ℕ) (o : Search) → IsBetweenRounds p g bound o → (k : ℕ) (i : Instance) → slice_get o.instances.made k ≡ Some i
    → (w : Owner) × (slice_get o.owners i.owner ≡ Some w) × AllByRecursion (λ n. n < length o.store.nodes) i.subst.terms
made_owner p g bound o b k i at =
    let r = pairwise_get (IsNotedAs o.store o.owners) o.instances.made b.holds.instances.instances k i b.holds.instances.are at in
    owner_noted o.store o.owners i r.0 r.1
