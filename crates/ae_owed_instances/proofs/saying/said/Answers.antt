use Rattle.std.proofs.Common.{◌≡◌, ◌<◌, map, length, slice_get, sym, ap, ◌∙◌, subst, arith}
use Rattle.std.specs.List.{AllByRecursion}
use Rattle.std.proofs.lemmas.Option.{same_Some, slice_get_within}
use Rattle.std.proofs.lemmas.Result.{IfOk-weaker}
use Rattle.ae_between_rounds.specs.declared.search.Instance.{Instance}
use Rattle.ae_journal.specs.States.{instance_literals}
use Rattle.ae_owed_instances.proofs.Lists.{read_at}
use Rattle.ae_owed_instances.proofs.OwnersAdded.{made_owner}
use Rattle.ae_owners.specs.Owners.{owner_of}
use Rattle.ae_store.specs.Shapes.{shapes}
use Rattle.ae_store.specs.Terms.{named, terms}
use Rattle.ae_owed_instances.proofs.saying.said.Goals as goal

pub bounds-owners-number : goal.bounds-owners-number
bounds-owners-number c =
    let o = c.args.search.now in
    let here = read_at o.instances.made c.as_slice-made.result.now c.args.place c.index-made-place.result c.as_slice-made.ensures c.requires.within c.index-made-place.is in
    let r = made_owner c.args.task.problem.now c.args.task.goal c.args.task.generations o c.requires.between c.args.place c.index-made-place.result here in
    let l = slice_get_within o.owners c.index-made-place.result.owner r.0 r.1 in
    omega (arith, l, ap length c.as_slice-owners.ensures)

pub offset_bounds-owners-number : goal.offset_bounds-owners-number
offset_bounds-owners-number c =
    let o = c.args.search.now in
    let here = read_at o.instances.made c.as_slice-made.result.now c.args.place c.index-made-place.result c.as_slice-made.ensures c.requires.within c.index-made-place.is in
    let r = made_owner c.args.task.problem.now c.args.task.goal c.args.task.generations o c.requires.between c.args.place c.index-made-place.result here in
    let l = slice_get_within o.owners c.index-made-place.result.owner r.0 r.1 in
    omega (arith, l, ap length c.as_slice-owners.ensures)

pub terms_of-requires : goal.terms_of-requires
terms_of-requires c =
    let o = c.args.search.now in
    let here = read_at o.instances.made c.as_slice-made.result.now c.args.place c.index-made-place.result c.as_slice-made.ensures c.requires.within c.index-made-place.is in
    let r = made_owner c.args.task.problem.now c.args.task.goal c.args.task.generations o c.requires.between c.args.place c.index-made-place.result here in
    record { within = subst (AllByRecursion (λ n. n < length o.store.nodes)) (sym c.as_slice-names.ensures) r.2 }

pub returns : goal.returns
returns c =
    let o = c.args.search.now in
    let here = read_at o.instances.made c.as_slice-made.result.now c.args.place c.index-made-place.result c.as_slice-made.ensures c.requires.within c.index-made-place.is in
    let r = made_owner c.args.task.problem.now c.args.task.goal c.args.task.generations o c.requires.between c.args.place c.index-made-place.result here in
    let l = slice_get_within o.owners c.index-made-place.result.owner r.0 r.1 in
    let there_now = read_at o.owners c.as_slice-owners.result.now c.index-made-place.result.owner c.index-owners-number.result c.as_slice-owners.ensures l c.index-owners-number.is in
    IfOk-weaker c.owner_said.result _ _
    (λ ls e i w at there.
    let one : c.index-made-place.result ≡ i = same_Some c.index-made-place.result i (sym here ∙ at) in
    let own = same_Some c.index-owners-number.result w (sym there_now ∙ ap (λ (z : Instance). slice_get o.owners z.owner) one ∙ there) in
    let sorts = c.as_slice-sorts.ensures ∙ ap (λ (z : Instance). z.subst.sorts) one in
    let names = c.as_slice-all.ensures ∙ c.in_ok-terms.ensures ∙ ap (map (named (terms (shapes o.store.nodes)))) (c.as_slice-names.ensures ∙ ap (λ (z : Instance). z.subst.terms) one) in
    e ∙ (λ k. instance_literals c.args.task.problem.now c.args.task.goal (owner_of (own k)) (sorts k) (names k)))
    c.owner_said.ensures
