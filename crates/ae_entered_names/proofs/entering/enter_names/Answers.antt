use Rattle.std.proofs.Common.{◌≡◌, ◌∙◌, Some, slice_get, refl, subst, arith}
use Rattle.ae_entered_names.proofs.Stepping.{goes_nowhere, goes_then, same_itself, same_then}
use Rattle.ae_store.specs.Stores.{Stored}
use Rattle.ae_entered_names.proofs.entering.enter_names.Goals as goal

pub names-init : goal.names-init
names-init v c = (
  goes_nowhere c.args.task.problem.now c.args.task.goal c.args.task.generations c.args.search.now c.requires.holds,
  same_itself c.args.search.now,
  omega arith,
  λ h. (refl, refl),
)

pub enter_next-requires-clause-searching : goal.enter_next-requires-clause-searching
enter_next-requires-clause-searching v c = let s = c.requires.searching in (s.0, c.names.invariant.0.searching s.0 s.1)

pub names-preserved : goal.names-preserved
names-preserved v c =
    let i = c.names.invariant in
    let e = c.in_ok-enter_next.ensures in (
      goes_then c.args.task.problem.now c.args.task.goal c.args.task.generations c.args.search.now c.names.search c.enter_next.new.search i.0 e.goes_on,
      same_then c.args.search.now c.names.search c.enter_next.new.search i.1 c.enter_next.ensures.beside,
      (let l = i.2 in let m = e.looked in omega (arith, l, m)),
      λ h.
          let s = i.3 h in
          let t = e.plain (λ x at. h c.names.search.looked x i.2 (subst (λ (z : Stored). slice_get z.nodes c.names.search.looked ≡ Some x) s.1 at)) in
          (t.0 ∙ s.0, t.1 ∙ s.1),
    )

pub returns-clause-searching : goal.returns-clause-searching
returns-clause-searching v c level h = c.names.invariant.0.searching level h

pub returns-clause-kept : goal.returns-clause-kept
returns-clause-kept v c d i = c.names.invariant.0.kept d i

pub returns-clause-plain : goal.returns-clause-plain
returns-clause-plain v c h = (c.names.invariant.3 h).0

pub returns-clause-quantifiers : goal.returns-clause-quantifiers
returns-clause-quantifiers v c ds = c.names.invariant.0.quantifiers ds
