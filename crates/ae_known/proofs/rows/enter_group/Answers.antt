use Rattle.std.proofs.Common.{◌≡◌, ◌∙◌, ◌++◌, ◌∷◌, [], sym, ap, subst, false, Some, slice_get}
use Rattle.std.specs.List.{list_any}
use Rattle.std.proofs.lemmas.Option.{slice_get-get_or}
use Rattle.std.proofs.lemmas.Result.{on_ok_weaker, on_err_weaker}
use Rattle.ae_core.specs.Sorts.{same_sorts}
use Rattle.ae_known.specs.Inner.{IsPlace}
use Rattle.ae_known.proofs.IndexLaws.{placed, kept_place, behind_all}
use Rattle.ae_known.proofs.rows.enter_group.Goals as goal

pub returns-in-Some-clause-ok : goal.returns-in-Some-clause-ok
returns-in-Some-clause-ok c =
    let gs = c.args.groups.now.items in
    let i = c.in-Some.place in
    let is : IsPlace c.args.sorts.now gs i = subst (λ l. IsPlace c.args.sorts.now l i) c.as_slice.ensures.value c.in-Some.ensures in
    let at : slice_get gs i ≡ Some c.index_mut.result.now = slice_get-get_or gs i c.index_mut.result.now is.1 ∙ ap Some (sym c.index_mut.ensures.value) in
    on_ok_weaker c.enter_names.result (λ e. placed c.args.sorts.now c.args.name gs i c.index_mut.result.now c.enter_names.new.group is at c.enter_names.ensures.sorts e) c.enter_names.ensures.ok

pub returns-in-Some-clause-err : goal.returns-in-Some-clause-err
returns-in-Some-clause-err c =
    let gs = c.args.groups.now.items in
    let i = c.in-Some.place in
    let is : IsPlace c.args.sorts.now gs i = subst (λ l. IsPlace c.args.sorts.now l i) c.as_slice.ensures.value c.in-Some.ensures in
    let at : slice_get gs i ≡ Some c.index_mut.result.now = slice_get-get_or gs i c.index_mut.result.now is.1 ∙ ap Some (sym c.index_mut.ensures.value) in
    on_err_weaker c.enter_names.result (λ e. kept_place c.args.sorts.now c.args.name gs i c.index_mut.result.now c.enter_names.new.group at c.enter_names.ensures.sorts e) c.enter_names.ensures.err

pub returns-in_ok-push-in-None-2-clause-ok : goal.returns-in_ok-push-in-None-2-clause-ok
returns-in_ok-push-in-None-2-clause-ok c =
    let gs = c.args.groups.now.items in
    let n = c.args.name in
    let names = c.in_ok-push-in-None.ensures.ok ∙ ap (λ l. l ++ n ∷ []) c.new-names.ensures in
    c.in_ok-push-in-None-2.ensures.items ∙ (λ i. gs ++ record { sorts = c.in_ok-sorts-in-None.ensures i; names = names i } ∷ [])
    ∙ behind_all c.args.sorts.now n gs (subst (λ l. list_any (λ g. same_sorts g.sorts c.args.sorts.now) l ≡ false) c.as_slice.ensures.value c.in-None.ensures)
