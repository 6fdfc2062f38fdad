use Rattle.std.proofs.Common.{◌∙◌}
use Rattle.ae_take_in.proofs.taking.take_counted.Goals as goal

pub back-requires : goal.back-requires
back-requires g c = (c.args.values.now, c.take_all.ensures.lasts c.share-shared.result c.args.values.now c.share-shared.ensures.version)

pub returns-clause-err : goal.returns-clause-err
returns-clause-err g c = c.back.ensures.held c.args.values.now (c.take_all.ensures.lasts c.share-shared.result c.args.values.now c.share-shared.ensures.version)

pub returns-clause-entries : goal.returns-clause-entries
returns-clause-entries g c = c.back.ensures.entries ∙ c.take_all.ensures.entries

pub returns-clause-lasts : goal.returns-clause-lasts
returns-clause-lasts g c = λ shared then h. c.back.ensures.lasts shared then (c.take_all.ensures.lasts shared then h)
