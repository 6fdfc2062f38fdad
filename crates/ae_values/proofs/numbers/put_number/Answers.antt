use Rattle.std.specs.Prelude.{ℕ, ◌<◌, ◌≡◌, false, [], ◌∷◌, Option}
use Rattle.std.proofs.Common.{sym, ◌∙◌, subst}
use Rattle.ae_num.specs.Forms.{IsNormal, IfWide, has_key}
use Rattle.ae_num.specs.declared.forms.Lin.{Lin}
use Rattle.ae_linear.specs.declared.rows.Row.{Row}
use Rattle.ae_linear.specs.Rows.{IsFirstWide}
use Rattle.ae_store.specs.Shapes.{shapes}
use Rattle.ae_store.specs.Terms.{terms}
use Rattle.ae_store.proofs.EnterLaws.{front_same}
use Rattle.ae_state_steps.specs.ValueSteps.{sort_for}
use Rattle.ae_value_changes.specs.Put.{IsNumberPut}
use Rattle.ae_value_table.specs.Table.{values as values_of}
use Rattle.ae_value_fitting.specs.Fitting.{held_by}
use Rattle.ae_values.specs.Inner.Putting.{IsPuttable}
use Rattle.ae_values.proofs.Kept.{if_number, as_itself, values_back, said_as, sources_as}
use Rattle.ae_values.proofs.Puttable.{absent, rows_within}
use Rattle.ae_values.proofs.WidthLaws.{put_wide, row_wide_as}
use Rattle.ae_values.proofs.numbers.put_number.Goals as goal

pub put_counted-requires-clause-puttable : goal.put_counted-requires-clause-puttable
put_counted-requires-clause-puttable c =
    subst (λ (f : Lin). IsPuttable c.args.store.now c.args.justs.now c.args.values.now c.args.name f c.args.just c.args.real) (sym c.in_ok-copy.ensures) (record {
      store = c.len-names.ensures.store;
      fits = c.requires.fits;
      patterns = c.requires.patterns;
      values = c.requires.values;
      said = c.requires.said;
      rows = c.row-row.ensures.rows;
      own = c.requires.own;
      normal = c.requires.normal;
      over = c.requires.over;
      other = c.requires.other;
      states = c.requires.just;
    })

pub returns-in_err-changes-clause-sources : goal.returns-in_err-changes-clause-sources
returns-in_err-changes-clause-sources c =
    let j = c.args.justs.now in
    let v = c.args.values.now in
    sources_as c.args.store.now.signature (terms (shapes c.args.store.now.nodes)) j j (front_same j) v v (as_itself v) c.requires.said c.requires.fits (c.args.just ∷ [])

pub returns-in_err-copy-clause-sources : goal.returns-in_err-copy-clause-sources
returns-in_err-copy-clause-sources c =
    let j = c.args.justs.now in
    let v = c.args.values.now in
    sources_as c.args.store.now.signature (terms (shapes c.args.store.now.nodes)) j j (front_same j) v v (as_itself v) c.requires.said c.requires.fits (c.args.just ∷ [])

-- ---- where it was put
pub returns-in-Ok-clause-put : goal.returns-in-Ok-clause-put
returns-in-Ok-clause-put c =
    subst (λ (f : Lin). IsNumberPut (held_by c.args.store.now.signature c.args.store.now.nodes c.args.values.now) (sort_for c.args.real) c.args.name f (values_of c.put_counted.new.values)) c.in_ok-copy.ensures
    c.in-Ok.ensures.put

pub returns-in-Ok-clause-values : goal.returns-in-Ok-clause-values
returns-in-Ok-clause-values c =
    let s = c.args.store.now in
    let v = c.args.values.now in
    c.values_stay_values_when_a_number_is_put.ensures (held_by s.signature s.nodes v) (sort_for c.args.real) c.args.name c.in_ok-copy.copy (values_of c.put_counted.new.values) c.len-names.ensures.store c.requires.values
    c.in-Ok.ensures.put

-- ---- where it was refused
pub refused_by-requires-clause-normal : goal.refused_by-requires-clause-normal
refused_by-requires-clause-normal c = subst IsNormal (sym c.in_ok-copy.ensures) c.requires.normal

pub refused_by-requires-clause-absent : goal.refused_by-requires-clause-absent
refused_by-requires-clause-absent c =
    let p : IsPuttable c.args.store.now c.args.justs.now c.args.values.now c.args.name c.args.number c.args.just c.args.real = record {
      store = c.len-names.ensures.store;
      fits = c.requires.fits;
      patterns = c.requires.patterns;
      values = c.requires.values;
      said = c.requires.said;
      rows = c.row-row.ensures.rows;
      own = c.requires.own;
      normal = c.requires.normal;
      over = c.requires.over;
      other = c.requires.other;
      states = c.requires.just;
    } in
    subst (λ (f : Lin). has_key f.parts c.args.name ≡ false) (sym c.in_ok-copy.ensures) (absent c.args.store.now c.args.justs.now c.args.values.now c.args.name c.args.number c.args.just c.args.real p)

pub refused_by-requires-clause-within : goal.refused_by-requires-clause-within
refused_by-requires-clause-within c = λ n row at.
    let same = c.in-Err.ensures.err in
    subst (λ (t : ℕ). n < t) (sym same.taken)
    (rows_within c.args.store.now.signature (terms (shapes c.args.store.now.nodes)) c.args.justs.now c.args.values.now c.requires.fits c.requires.values c.requires.said n row (sym (same.rows n) ∙ at))

pub refused_by-requires-clause-wide : goal.refused_by-requires-clause-wide
refused_by-requires-clause-wide c =
    let same = c.in-Err.ensures.err in
    subst (λ (rows : ℕ → Option Row). IfWide c.in-Err.fail (λ wide. IsFirstWide rows c.args.name c.in_ok-copy.copy wide)) (λ i n. sym (same.rows n) i) c.in-Err.ensures.wide

pub returns-clause-values : goal.returns-clause-values
returns-clause-values c =
    values_back c.args.store.now.signature (terms (shapes c.args.store.now.nodes)) c.args.values.now c.put_counted.new.values c.in-Err.ensures.err c.requires.values

pub returns-clause-said : goal.returns-clause-said
returns-clause-said c =
    said_as c.args.store.now.signature (terms (shapes c.args.store.now.nodes)) c.args.justs.now c.put_counted.new.justs c.put_counted.ensures.front c.args.values.now c.put_counted.new.values
    c.in-Err.ensures.err c.requires.said

pub returns-clause-sources : goal.returns-clause-sources
returns-clause-sources c =
    sources_as c.args.store.now.signature (terms (shapes c.args.store.now.nodes)) c.args.justs.now c.put_counted.new.justs c.put_counted.ensures.front c.args.values.now c.put_counted.new.values
    c.in-Err.ensures.err c.requires.said c.put_counted.ensures.fits (c.args.just ∷ [])

pub returns-clause-wide : goal.returns-clause-wide
returns-clause-wide c =
    let s = c.args.store.now in
    let v = c.args.values.now in
    let same = c.in-Err.ensures.err in
    if_number c.refused_by.result (λ w r. put_wide s.signature (terms (shapes s.nodes)) c.args.justs.now v c.requires.patterns c.requires.values c.requires.said c.requires.fits c.args.name c.args.number w
    (row_wide_as v c.put_counted.new.values same c.args.name c.in_ok-copy.copy c.args.number c.in_ok-copy.ensures w r)) c.refused_by.ensures
