use Rattle.std.proofs.Common.{rules, ◌≡◌, ◌-◌, slice_get, get_or, Some, ap}
use Rattle.std.proofs.lemmas.Option.{slice_get-get_or, slice_get_within}
use Rattle.ae_store.specs.Shapes.{shapes}
use Rattle.ae_store.specs.Terms.{terms}
use Rattle.ae_pmap.specs.Forest.{present}
use Rattle.ae_conflicts.specs.Inner.Joining.{IsFrom}
use Rattle.ae_conflicts.proofs.Joins.{say_at}
use Rattle.ae_conflicts.proofs.SeveralSteps.{one_gathered}
use Rattle.ae_conflicts.proofs.gathering.gather.Goals as goal

pub derived-requires-clause-step : goal.derived-requires-clause-step
derived-requires-clause-step c =
    let own = c.requires.own in
    let ids = c.args.steps.now in
    let id = get_or ids c.args.at 0 in
    let there : slice_get ids c.args.at ≡ Some id = slice_get-get_or ids c.args.at 0 c.requires.at in
    let w = say_at (terms (shapes c.args.store.now.nodes)) c.args.justs.now (present c.args.assumed.now) ids own.args own.others own.say c.args.at id there in
    slice_get_within c.args.justs.now id (w.says).step (w.says).is

pub returns : goal.returns
returns c =
    let sig = c.args.store.now.signature in
    let ts = terms (shapes c.args.store.now.nodes) in
    let held = present c.args.assumed.now in
    let ids = c.args.steps.now in
    let own = c.requires.own in
    let id = get_or ids c.args.at 0 in
    let there : slice_get ids c.args.at ≡ Some id = slice_get-get_or ids c.args.at 0 c.requires.at in
    let w = say_at ts c.args.justs.now held ids own.args own.others own.say c.args.at id there in
    let d = c.in_ok-next.ensures in
    let from : IsFrom sig ts held c.in_ok-next.next = record { allowed = d.allowed; sorted = d.sorted; built = d.built; tags = d.tags held (w.says).rests } in
    one_gathered sig ts c.args.justs.now held c.args.positive c.args.negative ids own c.args.at id c.args.gathered c.in_ok-next.next c.in_ok-derived.derived _ _ there c.requires.gathered from d.stated c.in_ok-derived.ensures (ap (λ n. n - 1) c.len.ensures) (search rules)
