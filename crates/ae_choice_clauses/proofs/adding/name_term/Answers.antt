use Rattle.ae_goal_names.proofs.Joining.{one_named}
use Rattle.ae_choice_clauses.proofs.adding.name_term.Goals as goal

pub returns : goal.returns
returns c =
    one_named c.args.store.now c.intern.new.self c.args.term.now c.in_ok-intern.field-0 _ c.len-count.ensures.store c.intern.ensures.signature c.intern.ensures.keeps
    c.in_ok-intern.ensures.term c.in_ok-intern.ensures.ages
