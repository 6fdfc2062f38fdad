use Rattle.std.proofs.Common.{◌<◌, ◌∙◌, length, arith}
use Rattle.ae_made_instances.proofs.Joining.{goes_nowhere}
use Rattle.ae_made_instances.proofs.One.{came_entered, goes_entered}
use Rattle.ae_made_instances.proofs.making.enter_new.Goals as goal

pub returns-then-search-count-clause-batch : goal.returns-then-search-count-clause-batch
returns-then-search-count-clause-batch g c level s = record { searching = s; looked = c.if-search-count.true ∙ c.len-count.ensures.len; holds = c.requires.holds }

pub returns-then-search-count-clause-goes_on : goal.returns-then-search-count-clause-goes_on
returns-then-search-count-clause-goes_on g c = goes_nowhere c.args.search.now

pub returns-then-search-count-clause-came : goal.returns-then-search-count-clause-came
returns-then-search-count-clause-came g c first e y = y

pub returns-clause-batch : goal.returns-clause-batch
returns-clause-batch g c level s = record { searching = c.in_ok-enter_names.ensures.searching level s; looked = c.in_ok-enter_names.ensures.looked; holds = c.in_ok-enter_names.ensures.holds }

pub returns-clause-goes_on : goal.returns-clause-goes_on
returns-clause-goes_on g c =
    let e = c.in_ok-enter_names.ensures in
    goes_entered c.args.search.now c.enter_names.new.search e.extends e.trail e.theory e.journal e.blocks e.owners

pub returns-clause-came : goal.returns-clause-came
returns-clause-came g c first q y =
    let o = c.args.search.now in
    let e = c.in_ok-enter_names.ensures in
    let less : o.looked < length o.store.nodes = (let w = c.requires.holds.choices.within in let n = c.len-count.ensures.len in let d = c.if-search-count.false in omega (arith, w, n, d)) in
    came_entered first o c.enter_names.new.search q less e.journal e.lines y
