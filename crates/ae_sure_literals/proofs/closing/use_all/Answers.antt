use Rattle.std.specs.Prelude.{length}
use Rattle.std.specs.List.{AllByRecursion}
use Rattle.std.proofs.Common.{◌∙◌, subst, sym}
use Rattle.ae_sure_literals.proofs.Passing.{passes_on}
use Rattle.ae_sure_literals.specs.Inner.Closing.{ArePlacesClosed, Forces, IsClosed, UsesAll}
use Rattle.ae_sure_literals.proofs.closing.use_all.Goals as goal

pub use_places-requires : goal.use_places-requires
use_places-requires c = record { long = c.use_clauses-by_clauses.ensures.long ∙ c.requires.long }

pub returns : goal.returns
returns c =
    let t = c.args.trail.now.assigned in
    let ds = c.args.clauses.now in
    let mid = c.use_clauses-by_clauses.new.flags in
    let now = c.use_places.new.flags in
    subst (UsesAll t ds c.args.flags.now now) (sym c.one_of.ensures)
    (passes_on t (λ x js. AllByRecursion (Forces x js) ds) (λ x js. Unit {0}) (λ fs. AllByRecursion (IsClosed t fs) ds) (λ fs. ArePlacesClosed t fs (length t)) c.args.flags.now mid now
    c.use_clauses-by_clauses.result c.in_ok-by_rows.by_rows (λ x js h r. tt) c.use_clauses-by_clauses.ensures c.in_ok-by_rows.ensures)
