use Rattle.ae_bounds.proofs.Pushed.{indexed_silently, same_directions}
use Rattle.ae_bounds.proofs.noting.add_assumed.Goals as goal

pub returns-then-not-does_count-clause-kept : goal.returns-then-not-does_count-clause-kept
returns-then-not-does_count-clause-kept c = same_directions c.push_alone.result c.args.rows.now c.push_alone.new.rows c.args.directions.now.keys c.push_alone.ensures.kept

pub returns-then-not-does_count-clause-indexed : goal.returns-then-not-does_count-clause-indexed
returns-then-not-does_count-clause-indexed c =
    indexed_silently c.push_alone.result c.args.rows.now c.push_alone.new.rows c.args.row c.requires.normal (c.does_count.ensures.no c.if-not-does_count.true) c.push_alone.ensures.added c.push_alone.ensures.kept
    c.args.directions.now.keys c.requires.indexed

pub add_counted-requires-clause-counts : goal.add_counted-requires-clause-counts
add_counted-requires-clause-counts c = c.does_count.ensures.yes c.if-not-does_count.false
