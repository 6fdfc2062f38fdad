use Rattle.std.specs.Prelude.{◌<◌, ◌≡◌, get_or, length, slice_get, Some}
use Rattle.std.proofs.Common.{sym, ap, ◌∙◌}
use Rattle.std.proofs.lemmas.Option.{slice_get_within, slice_get-get_or}
use Rattle.ae_state.proofs.Explained.{steps_in_store, own_in_store}
use Rattle.ae_state.proofs.holding.Holding.explain.Goals as goal

pub explained-requires-clause-fits : goal.explained-requires-clause-fits
explained-requires-clause-fits c = steps_in_store c.args.self.now c.args.store.now c.requires.fits

-- the reason that was read is that of the conflict: by what indexing answers
pub explained-requires-clause-own : goal.explained-requires-clause-own
explained-requires-clause-own c =
    let held = c.args.self.now.conflicts in
    let l : c.args.conflict < length held = slice_get_within held c.args.conflict (c.requires.own).conflict (c.requires.own).at in
    let reason = c.index-as_slice-conflict.result in
    let at : slice_get held c.args.conflict ≡ Some reason =
    slice_get-get_or held c.args.conflict reason l
    ∙ ap Some (sym (c.index-as_slice-conflict.is ∙ ap (λ xs. get_or xs c.args.conflict reason) c.as_slice.ensures)) in
    own_in_store c.args.self.now c.args.store.now c.requires.fits c.args.conflict c.requires.own reason at
