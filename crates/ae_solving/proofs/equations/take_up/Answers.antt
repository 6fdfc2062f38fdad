use Rattle.std.proofs.Common.{sym, ◌∙◌}
use Rattle.ae_solving.proofs.PlainLeaves.{known_within, sort_by, nodes_within, numbers_are}
use Rattle.ae_solving.proofs.equations.take_up.Goals as goal

pub is_number-requires : goal.is_number-requires
is_number-requires c = known_within c.args.held.now c.args.store.now c.requires.taken c.args.plain.left c.args.plain.right c.requires.join

pub number_equation-requires-clause-numbers : goal.number_equation-requires-clause-numbers
number_equation-requires-clause-numbers c =
    let o = c.args.held.now in
    let s = c.args.store.now in
    let m = c.args.plain.left in
    let n = c.args.plain.right in
    numbers_are o s c.requires.taken m n c.requires.join (sym (sort_by o s c.requires.taken m n c.requires.join c.is_number.result c.is_number.ensures) ∙ c.if-is_number.true)

pub number_equation-requires-clause-within : goal.number_equation-requires-clause-within
number_equation-requires-clause-within c = nodes_within c.args.held.now c.args.store.now c.requires.taken c.args.plain.left c.args.plain.right c.requires.join

pub number_equation-requires-clause-apart : goal.number_equation-requires-clause-apart
number_equation-requires-clause-apart c = c.requires.join.apart

pub leaf_equation-requires-clause-within : goal.leaf_equation-requires-clause-within
leaf_equation-requires-clause-within c = (c.requires.join.left_within, c.requires.join.right_within)

pub leaf_equation-requires-clause-sorted : goal.leaf_equation-requires-clause-sorted
leaf_equation-requires-clause-sorted c =
    let o = c.args.held.now in
    let s = c.args.store.now in
    let m = c.args.plain.left in
    let n = c.args.plain.right in
    let j = c.requires.join in
    (j.sort, j.left, j.right, sym (sort_by o s c.requires.taken m n j c.is_number.result c.is_number.ensures) ∙ c.if-is_number.false, j.plain)

pub leaf_equation-requires-clause-apart : goal.leaf_equation-requires-clause-apart
leaf_equation-requires-clause-apart c = c.requires.join.apart

pub returns-then-is_number : goal.returns-then-is_number
returns-then-is_number c =
    let e = c.number_equation.ensures in
    record {
      leads = e.leads;
      taken = e.taken;
      step = e.step;
      steps = e.steps;
      number = e.number;
      advanced = e.advanced;
      conflict = e.conflict;
      never = e.never;
      budget = e.budget;
      others = e.others;
    }
