use Rattle.std.specs.Prelude.{List, [], ◌∷◌, slice_get}
use Rattle.std.proofs.Common.{refl, sym, ap, ◌∙◌}
use Rattle.std.proofs.lemmas.List.{append-nil}
use Rattle.ae_base.proofs.ListFacts.{get_seam}
use Rattle.ae_conflicts.specs.declared.conflicts.Conflict.{Conflict}
use Rattle.ae_unmet.proofs.conflicts.push_conflict.Goals as goal

pub returns-in_err-push-clause-front : goal.returns-in_err-push-clause-front
returns-in_err-push-clause-front c = ([], c.in_err-push.ensures.err ∙ sym (append-nil c.args.held.now.conflicts))

pub returns-in_err-push-clause-others : goal.returns-in_err-push-clause-others
returns-in_err-push-clause-others c = refl

pub returns-clause-at : goal.returns-clause-at
returns-clause-at c =
    let old = c.args.held.now.conflicts in
    ap (λ (cs : List Conflict). slice_get cs c.len-number.result) c.in_ok-push.ensures.ok ∙ ap (slice_get _) c.len-number.ensures ∙ get_seam old [] c.args.conflict

pub returns-clause-front : goal.returns-clause-front
returns-clause-front c = (c.args.conflict ∷ [], c.in_ok-push.ensures.ok)

pub returns-clause-others : goal.returns-clause-others
returns-clause-others c = refl
