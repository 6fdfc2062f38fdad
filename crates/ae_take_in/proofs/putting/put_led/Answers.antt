use Rattle.std.specs.Prelude.{◌≡◌, Some}
use Rattle.std.proofs.Common.{sym, ap, ◌∙◌}
use Rattle.ae_pmap.specs.Forest.{present}
use Rattle.ae_pmap.specs.Pairs.{found, with_at}
use Rattle.ae_value_table.specs.Table.{Contents}
use Rattle.ae_take_in.proofs.putting.put_led.Goals as goal

pub returns-clause-leaf : goal.returns-clause-leaf
returns-clause-leaf c = λ k. ap (λ (x : Contents). found (present x.leaves) k) c.put_just.ensures.others ∙ c.in_ok-put_leaf.ensures.ok k

pub returns-clause-just : goal.returns-clause-just
returns-clause-just c = λ k. c.in_ok-put_just.ensures.ok k ∙ ap (λ (x : Contents). with_at (found (present x.justs)) c.args.name (Some c.args.led.step) k) c.put_leaf.ensures.others

pub returns-clause-rest : goal.returns-clause-rest
returns-clause-rest c =
    let new : Contents = c.put_just.new.self in
    let mid : Contents = c.put_leaf.new.self in
    let old : Contents = c.args.values.now in
    let same : mid.leaves ≡ new.leaves = sym (ap (λ (x : Contents). x.leaves) c.put_just.ensures.others) in
    c.put_just.ensures.others ∙ ap (λ (x : Contents). record x { justs = new.justs }) c.put_leaf.ensures.others ∙ (λ i. record old { leaves = same i; justs = new.justs })
