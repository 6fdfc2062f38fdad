use Rattle.std.proofs.Common.{List, [], ◌∷◌, ◌++◌, not, Ok, refl, sym, ap, ◌∙◌, subst, arith, length, length-append}
use Rattle.ae_base.proofs.Tests.{false_true}
use Rattle.ae_between_rounds.specs.declared.search.Instance.{Instance}
use Rattle.ae_between_rounds.specs.declared.search.Instantiated.{Instantiated}
use Rattle.ae_inst.specs.Matches.{is_match}
use Rattle.ae_made_instances.proofs.Besides.{beside_of}
use Rattle.ae_made_instances.proofs.Joining.{goes_join, goes_nowhere}
use Rattle.ae_made_instances.proofs.One.{batch_other, beside_other, came_other, came_to_other, due_other, goes_other, goes_to_other, holds_made}
use Rattle.ae_made_instances.proofs.making.make_one.Goals as goal
use Rattle.ae_made_instances.specs.Inner.Noting.Came.{nothing}
use Rattle.ae_state.specs.Fitting.{FitsStore}
use Rattle.ae_state.specs.declared.holding.Holding.{Holding}
use Rattle.ae_value_table.specs.Alike.{alike}
use Rattle.std.specs.List.{list_any}

pub take-requires : goal.take-requires
take-requires g c = record { fits = subst (λ (z : Holding). FitsStore z c.args.search.now.store) (sym c.theory.ensures) c.requires.batch.searching.alive.fits_store }

-- ---- one that is the same was made
pub returns-then-not-first-clause-batch : goal.returns-then-not-first-clause-batch
returns-then-not-first-clause-batch g c =
    let t = c.args.task in
    let o = c.args.search.now in
    let i : Instantiated = record o.instances { taken = c.take.new.self } in
    batch_other t.problem.now t.goal o i t.generations c.args.level refl (c.in_ok-first.ensures.again (ap Ok c.if-not-first.true)) c.requires.batch

pub returns-then-not-first-clause-goes_on : goal.returns-then-not-first-clause-goes_on
returns-then-not-first-clause-goes_on g c =
    let t = c.args.task in
    let o = c.args.search.now in
    goes_to_other t.problem.now t.goal o (record o.instances { taken = c.take.new.self }) o (goes_nowhere o)

pub returns-then-not-first-clause-came : goal.returns-then-not-first-clause-came
returns-then-not-first-clause-came g c = nothing refl refl refl refl refl

pub returns-then-not-first-clause-made : goal.returns-then-not-first-clause-made
returns-then-not-first-clause-made g c = omega arith

pub returns-then-not-first-clause-first : goal.returns-then-not-first-clause-first
returns-then-not-first-clause-first g c none =
    let w = c.args.owed in
    let same = ap (λ (z : Holding). list_any (is_match (alike z.values) w.owner w.subst) c.args.search.now.instances.taken.taken) c.theory.ensures in
    false_true (sym c.if-not-first.true ∙ c.in_ok-first.ensures.first ∙ ap not (same ∙ none))

-- ---- the instance
pub note_instance-requires-clause-beside : goal.note_instance-requires-clause-beside
note_instance-requires-clause-beside g c =
    let t = c.args.task in
    let o = c.args.search.now in
    beside_other t.problem.now t.goal o (record o.instances { taken = c.take.new.self }) (beside_of t.problem.now t.goal t.generations o c.requires.batch.holds)

pub note_instance-requires-clause-due : goal.note_instance-requires-clause-due
note_instance-requires-clause-due g c =
    let t = c.args.task in
    let o = c.args.search.now in
    due_other t.problem.now t.goal o (record o.instances { taken = c.take.new.self }) c.args.number c.args.owed c.requires.due

pub enter_new-requires-clause-holds : goal.enter_new-requires-clause-holds
enter_new-requires-clause-holds g c =
    let t = c.args.task in
    let o = c.args.search.now in
    let i : Instantiated = record o.instances { taken = c.take.new.self } in
    let o2 = c.note_instance.new.search in
    let j : Instantiated = record o2.instances { made = c.push.new.self } in
    let d = c.requires.due in
    let m = c.in_ok-level.ensures.made d.owner d.at in
    let kept = c.in_ok-first.ensures.kept (ap Ok c.if-not-first.false) in
    holds_made t.problem.now t.goal t.generations c.args.number c.requires.below o i o2 j c.args.owed.owner c.args.owed.subst d m c.requires.batch.searching.signature c.requires.batch.holds.instances
    (c.in_ok-push.ensures.ok ∙ ap (λ (z : Instantiated). z.made ++ record { owner = c.args.owed.owner; subst = c.args.owed.subst; number = c.args.number } ∷ []) m.instances)
    (ap (λ (z : Instantiated). z.taken.taken) m.instances ∙ kept)

pub returns-clause-batch : goal.returns-clause-batch
returns-clause-batch g c = c.in_ok-enter_new.ensures.batch c.in_ok-level.level c.in_ok-level.ensures.searching

pub returns-clause-goes_on : goal.returns-clause-goes_on
returns-clause-goes_on g c =
    let t = c.args.task in
    let o = c.args.search.now in
    let i : Instantiated = record o.instances { taken = c.take.new.self } in
    let o2 = c.note_instance.new.search in
    let j : Instantiated = record o2.instances { made = c.push.new.self } in
    let d = c.requires.due in
    let m = c.in_ok-level.ensures.made d.owner d.at in
    goes_join o (record o2 { instances = j }) c.enter_new.new.search (goes_to_other t.problem.now t.goal o2 j o (goes_other t.problem.now t.goal o i o2 m.goes_on)) c.in_ok-enter_new.ensures.goes_on

pub returns-clause-came : goal.returns-clause-came
returns-clause-came g c =
    let t = c.args.task in
    let o = c.args.search.now in
    let i : Instantiated = record o.instances { taken = c.take.new.self } in
    let o2 = c.note_instance.new.search in
    let j : Instantiated = record o2.instances { made = c.push.new.self } in
    let d = c.requires.due in
    let m = c.in_ok-level.ensures.made d.owner d.at in
    c.in_ok-enter_new.ensures.came o (m.looked ∙ c.requires.batch.looked) (came_to_other t.problem.now t.goal o2 j o (came_other t.problem.now t.goal o i o2 m.came))

pub returns-clause-made : goal.returns-clause-made
returns-clause-made g c =
    let o = c.args.search.now in
    let d = c.requires.due in
    let m = c.in_ok-level.ensures.made d.owner d.at in
    let e = ap (λ (z : Instantiated). length z.made) c.enter_new.ensures.instances in
    let f = ap (λ (z : List Instance). length z) c.in_ok-push.ensures.ok in
    let h = ap (λ (z : Instantiated). length z.made) m.instances in
    omega (arith, e, f, h, length-append c.note_instance.new.search.instances.made (record { owner = c.args.owed.owner; subst = c.args.owed.subst; number = c.args.number } ∷ []))

pub returns-clause-first : goal.returns-clause-first
returns-clause-first g c none =
    let o = c.args.search.now in
    let d = c.requires.due in
    let m = c.in_ok-level.ensures.made d.owner d.at in
    let e = ap (λ (z : Instantiated). length z.made) c.enter_new.ensures.instances in
    let f = ap (λ (z : List Instance). length z) c.in_ok-push.ensures.ok in
    let h = ap (λ (z : Instantiated). length z.made) m.instances in
    omega (arith, e, f, h, length-append c.note_instance.new.search.instances.made (record { owner = c.args.owed.owner; subst = c.args.owed.subst; number = c.args.number } ∷ []))
