use Rattle.std.proofs.Common.{◌≡◌, ◌<◌, ℕ, true, [], slice_get, Some}
use Rattle.indexmap.specs.IndexMap.{get}
use Rattle.ae_base.specs.Options.{or_else}
use Rattle.ae_store.specs.Keys.{is_same}
use Rattle.ae_store.specs.declared.nodes.Shape.{Shape}
use Rattle.ae_known.specs.Index.{is_listed, place_key}
use Rattle.ae_known.proofs.known.push_places.Given as goal

abbrev pub invariant-loop-place : goal.invariant-loop-place
invariant-loop-place l =
    ((p a : ℕ) → p < l.place → slice_get l.args p ≡ Some a → is_listed l.name (or_else (get is_same l.places (place_key l.head p a)) []) ≡ true)
    × ((k : Shape) (m : ℕ) → is_listed m (or_else (get is_same l.fn.places k) []) ≡ true → is_listed m (or_else (get is_same l.places k) []) ≡ true)
