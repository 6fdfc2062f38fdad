use Rattle.std.proofs.Common.{ap, ◌∙◌}
use Rattle.ae_value_table.specs.Table.{Contents}
use Rattle.ae_values.proofs.Entries.{keeps}
use Rattle.ae_values.proofs.leaves.put_counted.Goals as goal

pub back-requires : goal.back-requires
back-requires g c = (c.args.values.now, c.put_all.ensures.lasts c.share-shared.result c.args.values.now c.share-shared.ensures.version)

pub returns-clause-err : goal.returns-clause-err
returns-clause-err g c = c.back.ensures.held c.args.values.now (c.put_all.ensures.lasts c.share-shared.result c.args.values.now c.share-shared.ensures.version)

pub returns-clause-lasts : goal.returns-clause-lasts
returns-clause-lasts g c = λ shared then h. c.back.ensures.lasts shared then (c.put_all.ensures.lasts shared then h)

pub returns-clause-others : goal.returns-clause-others
returns-clause-others g c =
    let same = c.back.ensures.held c.args.values.now (c.put_all.ensures.lasts c.share-shared.result c.args.values.now c.share-shared.ensures.version) in
    keeps c.args.values.now c.back.new.self (c.back.ensures.entries ∙ ap (λ (x : Contents). x.entries) c.put_all.ensures.others) same.taken
