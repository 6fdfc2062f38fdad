use Rattle.ae_ages.proofs.Entered.{one_interned}
use Rattle.ae_ages.proofs.interning.intern_term.Goals as goal

pub returns : goal.returns
returns c =
    one_interned c.args.store.now c.intern.new.self c.args.term.now c.in_ok-intern.field-0 c.args.generation c.len-count.ensures.store c.intern.ensures.signature c.intern.ensures.keeps
    c.in_ok-intern.ensures.term c.in_ok-intern.ensures.ages
