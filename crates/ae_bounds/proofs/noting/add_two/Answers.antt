use Rattle.std.specs.Prelude.{◌≡◌}
use Rattle.std.proofs.Common.{◌∙◌}
use Rattle.std.proofs.lemmas.Result.{on_ok_weaker}
use Rattle.ae_bounds.proofs.Pushed.{indexed_same, indexed_more, kept_both}
use Rattle.ae_bounds.proofs.noting.add_two.Goals as goal

pub returns-in_err-push-clause-indexed : goal.returns-in_err-push-clause-indexed
returns-in_err-push-clause-indexed c =
    let k = c.in_err-push.ensures.kept in
    indexed_same c.args.rows.now c.push.new.rows c.args.directions.now.keys c.push.new.directions.keys c.requires.indexed k.0 k.1

pub returns-clause-added : goal.returns-clause-added
returns-clause-added c = on_ok_weaker c.push_more.result (λ (e : c.push_more.new.rows ≡ c.push.new.rows). e ∙ c.in_ok-push.ensures.rows) c.push_more.ensures.rows

pub returns-clause-kept : goal.returns-clause-kept
returns-clause-kept c =
    kept_both c.args.rows.now c.push.new.rows c.args.directions.now.keys c.push.new.directions.keys c.args.row c.args.direction c.args.earlier c.requires.counts c.len-count.result c.len-count.ensures.len c.requires.indexed c.requires.direction
    c.requires.more c.requires.earlier c.in_ok-push.ensures.rows c.in_ok-push.ensures.directions c.push_more.result c.push_more.new.rows c.push_more.new.directions.keys c.push_more.ensures.taken c.push_more.ensures.cut

pub returns-clause-indexed : goal.returns-clause-indexed
returns-clause-indexed c =
    indexed_more c.args.rows.now c.push.new.rows c.args.directions.now.keys c.push.new.directions.keys c.args.row c.args.direction c.args.earlier c.requires.counts c.len-count.result c.len-count.ensures.len c.requires.indexed c.requires.direction
    c.requires.more c.requires.earlier c.in_ok-push.ensures.rows c.in_ok-push.ensures.directions c.push_more.result c.push_more.new.rows c.push_more.new.directions.keys c.push_more.ensures.rows c.push_more.ensures.directions
    c.push_more.ensures.taken c.push_more.ensures.cut
