use Rattle.std.proofs.lemmas.Result.{IfOk-weaker}
use Rattle.std.specs.Prelude.{List}
use Rattle.ae_rows.specs.Rows.{IsPoint}
use Rattle.ae_ineq.specs.declared.point.Valuation.{Valuation}
use Rattle.ae_ineq.specs.Inner.Sets.{HasStage}
use Rattle.ae_ineq.specs.Inner.Points.{value_in}
use Rattle.ae_bound_points.specs.Points.{IsNonzeroRow, ArePositiveAt}
use Rattle.ae_bound_points.proofs.Same.{point_same, wide_same}
use Rattle.ae_bound_points.proofs.Points.{to_rows, to_stages}
use Rattle.ae_bound_points.proofs.Closed.{positive_at, positive_before, zero_loose}
use Rattle.ae_bound_points.proofs.point.point.Goals as goal

pub point-requires-clause-stages : goal.point-requires-clause-stages
point-requires-clause-stages c = c.in_ok-stages.ensures.stages

pub point-requires-clause-falling : goal.point-requires-clause-falling
point-requires-clause-falling c = c.in_ok-stages.ensures.falling

pub returns-clause-chosen : goal.returns-clause-chosen
returns-clause-chosen c =
    let rows = c.args.rows.now in
    let stages = c.in_ok-stages.stages in
    let staged = c.in_ok-stages.ensures in
    IfOk-weaker c.point.result (λ (made : List Valuation). IsPoint (HasStage stages) (value_in made)) (λ (made : List Valuation). IsPoint (IsNonzeroRow rows) (value_in made))
    (λ made p. point_same (HasStage stages) (IsNonzeroRow rows) (to_rows rows c.requires.normal stages staged) (to_stages rows c.requires.normal stages staged) (value_in made) p) c.point.ensures.chosen

pub returns-clause-positive : goal.returns-clause-positive
returns-clause-positive c =
    let rows = c.args.rows.now in
    let stages = c.in_ok-stages.stages in
    let staged = c.in_ok-stages.ensures in
    let q = c.requires in
    IfOk-weaker c.point.result (λ (made : List Valuation). IsPoint (HasStage stages) (value_in made)) (λ (made : List Valuation). ArePositiveAt (value_in made) rows)
    (λ made p.
    let own = point_same (HasStage stages) (IsNonzeroRow rows) (to_rows rows q.normal stages staged) (to_stages rows q.normal stages staged) (value_in made) p in
    record {
      each = λ r m z. positive_at rows q.closed q.rounded q.possible q.loose (value_in made) own r m z;
      before = λ r u m f. positive_before rows q.closed q.rounded q.possible q.loose (value_in made) own r u m f;
      loose = λ r m z. zero_loose rows q.closed q.rounded q.possible q.loose r m z;
    }) c.point.ensures.chosen

pub returns-clause-wide : goal.returns-clause-wide
returns-clause-wide c =
    let rows = c.args.rows.now in
    let stages = c.in_ok-stages.stages in
    let staged = c.in_ok-stages.ensures in
    λ w e. wide_same (HasStage stages) (IsNonzeroRow rows) (to_rows rows c.requires.normal stages staged) (to_stages rows c.requires.normal stages staged) w (c.point.ensures.wide w e)

pub returns-clause-numbers : goal.returns-clause-numbers
returns-clause-numbers c = c.point.ensures.numbers
