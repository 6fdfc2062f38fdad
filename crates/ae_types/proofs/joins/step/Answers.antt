use Rattle.std.proofs.Common.{◌<◌, arith}
use Rattle.std.proofs.lemmas.Result.{IfErr-weaker, on_ok_weaker}
use Rattle.ae_types.proofs.JoinLaws.{found_same, step_forward, step_backward, blame_forward, blame_backward}
use Rattle.ae_types.proofs.OrderLaws.{on_ok_pair, united_back, united_ordered}
use Rattle.ae_types.proofs.joins.step.Goals as goal

pub returns-then-left-right-clause-ok : goal.returns-then-left-right-clause-ok
returns-then-left-right-clause-ok c =
    found_same c.args.nodes.now c.args.classes.now c.find.new.classes c.find-2.new.classes c.args.todo.now c.args.pair c.in_ok-left.left c.in_ok-right.right
    c.requires.well c.requires.todo c.in_ok-left.ensures.found c.in_ok-right.ensures.found c.if-left-right.true

pub returns-then-left-right-2-clause-ok : goal.returns-then-left-right-2-clause-ok
returns-then-left-right-2-clause-ok c =
    on_ok_weaker c.unite.result
    (step_forward c.args.nodes.now c.args.classes.now c.find.new.classes c.find-2.new.classes c.unite.new.classes c.args.todo.now c.unite.new.todo c.args.pair c.in_ok-left.left c.in_ok-right.right
    c.requires.well c.in_ok-left.ensures.found c.in_ok-right.ensures.found c.requires.todo c.if-left-right-2.true)
    c.unite.ensures.ok

pub returns-then-left-right-2-clause-err : goal.returns-then-left-right-2-clause-err
returns-then-left-right-2-clause-err c =
    IfErr-weaker c.unite.result _ _
    (blame_forward c.args.nodes.now c.args.classes.now c.find.new.classes c.find-2.new.classes c.unite.new.classes c.args.todo.now c.unite.new.todo c.args.pair c.in_ok-left.left c.in_ok-right.right
    c.requires.well c.in_ok-left.ensures.found c.in_ok-right.ensures.found)
    c.unite.ensures.err

pub returns-else-left-right-2-clause-ok : goal.returns-else-left-right-2-clause-ok
returns-else-left-right-2-clause-ok c =
    let a : c.in_ok-right.right.place < c.in_ok-left.left.place = grind arith in
    on_ok_weaker c.unite-else-left-right-2.result
    (step_backward c.args.nodes.now c.args.classes.now c.find.new.classes c.find-2.new.classes c.unite-else-left-right-2.new.classes c.args.todo.now c.unite-else-left-right-2.new.todo c.args.pair c.in_ok-left.left c.in_ok-right.right
    c.requires.well c.in_ok-left.ensures.found c.in_ok-right.ensures.found c.requires.todo a)
    c.unite-else-left-right-2.ensures.ok

pub returns-else-left-right-2-clause-err : goal.returns-else-left-right-2-clause-err
returns-else-left-right-2-clause-err c =
    IfErr-weaker c.unite-else-left-right-2.result _ _
    (blame_backward c.args.nodes.now c.args.classes.now c.find.new.classes c.find-2.new.classes c.unite-else-left-right-2.new.classes c.args.todo.now c.unite-else-left-right-2.new.todo c.args.pair c.in_ok-left.left c.in_ok-right.right
    c.requires.well c.in_ok-left.ensures.found c.in_ok-right.ensures.found)
    c.unite-else-left-right-2.ensures.err

pub returns-then-left-right-clause-ordered : goal.returns-then-left-right-clause-ordered
returns-then-left-right-clause-ordered c = λ ls o.
    c.in_ok-right.ensures.found.shortened.ordered c.args.nodes.now ls c.args.joined.now (c.in_ok-left.ensures.found.shortened.ordered c.args.nodes.now ls c.args.joined.now o)

pub returns-then-left-right-2-clause-ordered : goal.returns-then-left-right-2-clause-ordered
returns-then-left-right-2-clause-ordered c =
    let u = c.unite in
    on_ok_pair u.result u.ensures.ok u.ensures.joined
    (λ e j ls o. united_ordered c.args.nodes.now c.args.classes.now c.find.new.classes c.find-2.new.classes u.new.classes c.args.todo.now u.new.todo c.args.pair.left c.args.pair.right
    c.in_ok-left.left c.in_ok-right.right c.requires.well c.in_ok-left.ensures.found c.in_ok-right.ensures.found c.if-left-right-2.true e c.args.joined.now u.new.joined j ls o)

pub returns-else-left-right-2-clause-ordered : goal.returns-else-left-right-2-clause-ordered
returns-else-left-right-2-clause-ordered c =
    let u = c.unite-else-left-right-2 in
    let a : c.in_ok-right.right.place < c.in_ok-left.left.place = grind arith in
    on_ok_pair u.result u.ensures.ok u.ensures.joined
    (λ e j ls o. united_back c.args.nodes.now c.args.classes.now c.find.new.classes c.find-2.new.classes u.new.classes c.args.todo.now u.new.todo c.args.pair.left c.args.pair.right
    c.in_ok-left.left c.in_ok-right.right c.requires.well c.in_ok-left.ensures.found c.in_ok-right.ensures.found a e c.args.joined.now u.new.joined j ls o)
