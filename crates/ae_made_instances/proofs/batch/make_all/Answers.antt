use Rattle.std.proofs.Common.{ℕ, ◌≡◌, List, refl, sym, ap, ◌∙◌, subst, arith, length}
use Rattle.std.proofs.lemmas.List.Edits.{length-remove}
use Rattle.std.proofs.lemmas.Option.{slice_get_within}
use Rattle.ae_between_rounds.specs.Between.{IsSearchingBelow}
use Rattle.ae_between_rounds.specs.declared.search.Instantiated.{Instantiated}
use Rattle.ae_between_rounds.specs.declared.search.Owed.{Owed}
use Rattle.ae_made_instances.proofs.Batches.{being_other, its_due, one_made, some_made}
use Rattle.ae_made_instances.proofs.Joining.{goes_nowhere}
use Rattle.ae_made_instances.proofs.batch.make_all.Goals as goal
use Rattle.ae_made_instances.specs.Inner.Making.{IsBeingMade}
use Rattle.ae_made_instances.specs.Inner.Noting.Came.{nothing}
use Rattle.ae_propagation.specs.Settled.{last_level}

pub left-init : goal.left-init
left-init g c =
    let t = c.args.task in
    let o = c.args.search.now in
    let b = c.requires.between in
    let e : c.level_now-level.result ≡ last_level o.solver.propagation.trail = c.level_now-level.ensures ∙ ap last_level c.trail.ensures in
    record {
      batch = record {
        searching = subst (λ (z : ℕ). IsSearchingBelow t.problem.now t.goal t.generations z o) (sym e) b.searching;
        looked = b.looked;
        holds = b.holds;
      };
      goes_on = goes_nowhere o;
      came = nothing refl refl refl refl refl;
      due = c.requires.due;
      made = c.requires.made;
    }

pub make_one-requires-clause-batch : goal.make_one-requires-clause-batch
make_one-requires-clause-batch g c =
    let t = c.args.task in
    let s = c.left.search in
    let i : Instantiated = record s.instances { turn = c.take_next-next.new.turn } in
    (being_other t.problem.now t.goal t.generations c.args.number c.left.level c.args.search.now s i c.left.left refl refl c.left.invariant).batch

pub make_one-requires-clause-limit : goal.make_one-requires-clause-limit
make_one-requires-clause-limit g c = c.left.invariant.goes_on.limit ∙ c.requires.limit

pub make_one-requires-clause-due : goal.make_one-requires-clause-due
make_one-requires-clause-due g c =
    let t = c.args.task in
    let s = c.left.search in
    let i : Instantiated = record s.instances { turn = c.take_next-next.new.turn } in
    let n = c.take_next-next.ensures in
    let b = being_other t.problem.now t.goal t.generations c.args.number c.left.level c.args.search.now s i c.left.left refl refl c.left.invariant in
    its_due t.problem.now t.goal t.generations c.args.number c.left.level c.args.search.now (record s { instances = i }) s c.left.left n.0 c.take_next-next.result n.1 b

pub left-preserved : goal.left-preserved
left-preserved g c =
    let t = c.args.task in
    let s = c.left.search in
    let i : Instantiated = record s.instances { turn = c.take_next-next.new.turn } in
    let n = c.take_next-next.ensures in
    let b = being_other t.problem.now t.goal t.generations c.args.number c.left.level c.args.search.now s i c.left.left refl refl c.left.invariant in
    let m = c.in_ok-level.ensures in
    subst (λ (z : List Owed). IsBeingMade t.problem.now t.goal t.generations c.args.number c.in_ok-level.level c.args.search.now c.make_one.new.search z) (sym n.2)
    (one_made t.problem.now t.goal t.generations c.args.number c.left.level c.args.search.now (record s { instances = i }) c.make_one.new.search c.left.left n.0 c.take_next-next.result n.1 b
    c.in_ok-level.level m.batch m.goes_on m.came m.made m.first)

pub left-smaller : goal.left-smaller
left-smaller g c =
    let n = c.take_next-next.ensures in
    let e = ap (λ (z : List Owed). length z) n.2 in
    let f = length-remove c.left.left n.0 (slice_get_within c.left.left n.0 c.take_next-next.result n.1) in
    omega (arith, e, f)

pub returns-clause-batch : goal.returns-clause-batch
returns-clause-batch g c = c.left.invariant.batch

pub returns-clause-goes_on : goal.returns-clause-goes_on
returns-clause-goes_on g c = c.left.invariant.goes_on

pub returns-clause-came : goal.returns-clause-came
returns-clause-came g c = c.left.invariant.came

pub returns-clause-made : goal.returns-clause-made
returns-clause-made g c = some_made c.args.search.now c.left.search c.left.left (c.is_empty.ensures.0 c.left-test.false) c.left.invariant.made

pub returns-clause-limit : goal.returns-clause-limit
returns-clause-limit g c = c.left.invariant.goes_on.limit
