-- Where terms stand among those of a store, and that they stay.
use Rattle.std.specs.Prelude.{List, ◌≡◌, slice_get, Some}
use Rattle.std.specs.List.{Contains}
use Rattle.std.proofs.Common.{ap, ◌∙◌}
use Rattle.std.proofs.lemmas.Option.{slice_get-get_or}
use Rattle.ae_core.specs.declared.terms.Term.{Term}
use Rattle.ae_journal.proofs.Splits.{contains_at}
use Rattle.ae_store.specs.Terms.{Keeps}

pub place_of : (ts : List Term) (t : Term) (h : Contains ts t) → slice_get ts h.0 ≡ Some t
place_of ts t h = slice_get-get_or ts h.0 t h.1 ∙ ap (λ (z : Term). Some z) h.2

pub kept_in : (ts us : List Term) → Keeps ts us → (t : Term) → Contains ts t → Contains us t
kept_in ts us k t h = contains_at us h.0 t (k h.0 t (place_of ts t h))
