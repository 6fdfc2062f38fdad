use Rattle.std.specs.Prelude.{◌+◌, Bool, take}
use Rattle.std.specs.List.{AllByRecursion}
use Rattle.std.proofs.Common.{◌∙◌, arith, subst, sym}
use Rattle.ae_journal.proofs.Splits.{all_contained}
use Rattle.ae_rules.specs.Clauses.{Clause}
use Rattle.ae_sure_literals.proofs.Passing.{list_end, list_next, list_none}
use Rattle.ae_sure_literals.specs.Inner.Closing.{Forces, IsClosed, Passes, UsesClause}
use Rattle.ae_sure_literals.proofs.closing.use_clauses.Goals as goal

pub loop-clause-init : goal.loop-clause-init
loop-clause-init c =
    let t = c.args.trail.now.assigned in
    let ds = c.args.clauses.now in
    list_none t (λ x js. AllByRecursion (Forces x js) ds) (λ x js. AllByRecursion (Forces x js) ds) (λ fs d. IsClosed t fs d) ds c.args.flags.now

pub use_clause-more-requires : goal.use_clause-more-requires
use_clause-more-requires c = record { long = c.loop-clause.invariant.long ∙ c.requires.long }

pub loop-clause-preserved : goal.loop-clause-preserved
loop-clause-preserved c =
    let t = c.args.trail.now.assigned in
    let ds = c.args.clauses.now in
    let i = c.loop-clause.clause-index in
    let d = c.clause-item.result in
    let now = c.use_clause-more.new.flags in
    let used : UsesClause t d c.loop-clause.flags now c.use_clause-more.result = subst (λ (e : Clause). UsesClause t e c.loop-clause.flags now c.use_clause-more.result) c.as_slice.ensures c.use_clause-more.ensures in
    subst (λ (b : Bool). Passes t (λ x js. AllByRecursion (Forces x js) ds) (λ fs. AllByRecursion (IsClosed t fs) (take (i + 1) ds)) c.args.flags.now now b) (sym c.one_of-changed.ensures)
    (list_next t (λ x js. AllByRecursion (Forces x js) ds) (λ x js. Forces x js d) (λ fs e. IsClosed t fs e) ds i d c.args.flags.now c.loop-clause.flags now c.loop-clause.changed c.use_clause-more.result
    (omega arith) c.clause-item.is (λ x js h. all_contained (Forces x js) ds d h (i, omega arith, sym c.clause-item.is)) c.loop-clause.invariant used)

pub returns : goal.returns
returns c =
    let t = c.args.trail.now.assigned in
    let ds = c.args.clauses.now in
    list_end t (λ x js. AllByRecursion (Forces x js) ds) (λ x js. AllByRecursion (Forces x js) ds) (λ fs d. IsClosed t fs d) ds c.loop-clause.clause-index c.args.flags.now c.loop-clause.flags c.loop-clause.changed
    (omega arith) c.loop-clause.invariant
