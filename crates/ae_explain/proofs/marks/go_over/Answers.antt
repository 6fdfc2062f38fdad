use Rattle.std.proofs.Common.{rules, ◌≡◌, ◌∙◌, true, length}
use Rattle.ae_explain.specs.Inner.Marks.{kept}
use Rattle.ae_explain.proofs.Marking.{Why, why_given, reason_there, gave_way}
use Rattle.ae_explain.proofs.marks.go_over.Goals as goal

pub resolve_at-requires-clause-reason : goal.resolve_at-requires-clause-reason
resolve_at-requires-clause-reason c =
    let k : kept c.args.marks.now c.args.place ≡ true = search rules in
    let yes : c.gives_way.result ≡ true = search rules in
    let why : Why c.args.trail.now.assigned c.args.level c.args.place c.args.count = why_given c.args.trail.now.assigned c.args.level c.args.place c.args.count c.level_at.result c.level_at.ensures (c.gives_way.ensures.0 yes) in
    reason_there c.args.trail.now.assigned c.args.clauses.now c.requires.lawful c.args.marks.now c.args.level c.args.place c.args.count c.requires.before c.requires.within k why

pub returns-clause-after : goal.returns-clause-after
returns-clause-after c =
    let k : kept c.args.marks.now c.args.place ≡ true = search rules in
    let yes : c.gives_way.result ≡ true = search rules in
    let why : Why c.args.trail.now.assigned c.args.level c.args.place c.args.count = why_given c.args.trail.now.assigned c.args.level c.args.place c.args.count c.level_at.result c.level_at.ensures (c.gives_way.ensures.0 yes) in
    let same : length c.resolve_at.new.marks ≡ length c.args.trail.now.assigned = c.resolve_at.auto.marks ∙ c.requires.before.len in
    gave_way c.args.trail.now.assigned c.args.clauses.now c.requires.lawful c.args.marks.now c.args.level c.args.place c.args.count c.requires.before c.requires.within k c.resolve_at.new.marks
    c.resolve_at.ensures.resolves same c.resolve_at.result c.resolve_at.ensures.count why
