use Rattle.std.specs.Prelude.{◌<◌, ◌≡◌, get_or, length, slice_get, Some}
use Rattle.std.proofs.Common.{sym, ap, ◌∙◌}
use Rattle.std.proofs.lemmas.Option.{slice_get_within, slice_get-get_or}
use Rattle.ae_state.proofs.Explained.{steps_in_store, own_in_store}
use Rattle.ae_short_explanations.proofs.explaining.explain.Goals as goal

pub explained_short-requires-clause-fits : goal.explained_short-requires-clause-fits
explained_short-requires-clause-fits c = steps_in_store c.args.held.now c.args.store.now c.requires.fits

-- the reason that was read is that of the conflict: by what indexing answers
pub explained_short-requires-clause-own : goal.explained_short-requires-clause-own
explained_short-requires-clause-own c =
    let held = c.args.held.now.conflicts in
    let l : c.args.conflict < length held = slice_get_within held c.args.conflict (c.requires.own).conflict (c.requires.own).at in
    let reason = c.index-as_slice-conflict.result in
    let at : slice_get held c.args.conflict ≡ Some reason =
    slice_get-get_or held c.args.conflict reason l
    ∙ ap Some (sym (c.index-as_slice-conflict.is ∙ ap (λ xs. get_or xs c.args.conflict reason) c.as_slice.ensures)) in
    own_in_store c.args.held.now c.args.store.now c.requires.fits c.args.conflict c.requires.own reason at
