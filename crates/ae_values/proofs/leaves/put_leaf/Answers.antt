use Rattle.std.specs.Prelude.{[], ◌∷◌}
use Rattle.ae_store.specs.Shapes.{shapes}
use Rattle.ae_store.specs.Terms.{terms}
use Rattle.ae_store.proofs.EnterLaws.{front_same}
use Rattle.ae_value_table.specs.Table.{values as values_of}
use Rattle.ae_value_fitting.specs.Fitting.{held_by}
use Rattle.ae_values.proofs.Kept.{by_result, as_itself, values_back, said_as, sources_as}
use Rattle.ae_values.proofs.leaves.put_leaf.Goals as goal

pub put_counted-requires-clause-puttable : goal.put_counted-requires-clause-puttable
put_counted-requires-clause-puttable c = record {
  store = c.len-names.ensures.store;
  fits = c.requires.fits;
  patterns = c.requires.patterns;
  values = c.requires.values;
  said = c.requires.said;
  sort = c.requires.own.0;
  own = c.requires.own.1;
  over = c.requires.own.2;
  differ = c.requires.differ;
  states = c.requires.just;
}

pub returns-in_err-followers-clause-sources : goal.returns-in_err-followers-clause-sources
returns-in_err-followers-clause-sources c =
    let j = c.args.justs.now in
    let v = c.args.values.now in
    sources_as c.args.store.now.signature (terms (shapes c.args.store.now.nodes)) j j (front_same j) v v (as_itself v) c.requires.said c.requires.fits (c.args.just ∷ [])

pub returns-clause-values : goal.returns-clause-values
returns-clause-values c =
    let s = c.args.store.now in
    let v = c.args.values.now in
    let new = c.put_counted.new.values in
    by_result c.put_counted.result c.put_counted.ensures.put c.put_counted.ensures.err
    (λ put. c.values_stay_values_when_a_name_is_put.ensures (held_by s.signature s.nodes v) c.requires.own.0 c.args.name c.args.leaf (values_of new) c.len-names.ensures.store c.requires.values (put c.requires.own.0 c.requires.own.1))
    (λ same. values_back s.signature (terms (shapes s.nodes)) v new same c.requires.values)

pub returns-clause-said : goal.returns-clause-said
returns-clause-said c =
    let s = c.args.store.now in
    by_result c.put_counted.result c.put_counted.ensures.said c.put_counted.ensures.err (λ said. said)
    (λ same. said_as s.signature (terms (shapes s.nodes)) c.args.justs.now c.put_counted.new.justs c.put_counted.ensures.front c.args.values.now c.put_counted.new.values same c.requires.said)

pub returns-clause-sources : goal.returns-clause-sources
returns-clause-sources c =
    let s = c.args.store.now in
    by_result c.put_counted.result c.put_counted.ensures.sources c.put_counted.ensures.err (λ sources. sources)
    (λ same. sources_as s.signature (terms (shapes s.nodes)) c.args.justs.now c.put_counted.new.justs c.put_counted.ensures.front c.args.values.now c.put_counted.new.values same c.requires.said c.put_counted.ensures.fits (c.args.just ∷ []))

pub returns-clause-names : goal.returns-clause-names
returns-clause-names c = by_result c.put_counted.result c.put_counted.ensures.names c.put_counted.ensures.err (λ names. names) (λ same. same.names)
