use Rattle.std.specs.Prelude.{Bool, List, length}
use Rattle.std.specs.List.{AllByRecursion}
use Rattle.std.proofs.Common.{◌∙◌, arith, refl, subst, sym}
use Rattle.ae_sure_literals.proofs.Flags.{count_within}
use Rattle.ae_sure_literals.specs.Inner.Closing.{ArePlacesClosed, IsClosed}
use Rattle.ae_sure_literals.proofs.closing.close.Goals as goal

pub rounds-init : goal.rounds-init
rounds-init c = record { long = refl; kept = λ k f. f; right = λ x js h r. r }

pub use_all-requires : goal.use_all-requires
use_all-requires c = record { long = c.rounds.invariant.long ∙ c.requires.long }

pub rounds-preserved : goal.rounds-preserved
rounds-preserved c =
    let h = c.in_ok-changed.ensures in
    let i = c.rounds.invariant in
    record { long = h.long ∙ i.long; kept = λ k f. h.kept k (i.kept k f); right = λ x js forces r. h.right x js forces (i.right x js forces r) }

pub rounds-smaller : goal.rounds-smaller
rounds-smaller c =
    let h = c.in_ok-changed.ensures in
    let more = h.more c.if-not-changed.false in
    omega (arith, more, h.long, count_within c.use_all.new.flags)

pub returns-then-not-changed : goal.returns-then-not-changed
returns-then-not-changed c =
    let t = c.args.trail.now.assigned in
    let h = c.in_ok-changed.ensures in
    let i = c.rounds.invariant in
    let e = c.if-not-changed.true in
    record {
      long = h.long ∙ i.long;
      kept = λ k f. h.kept k (i.kept k f);
      right = λ x js forces r. h.right x js forces (i.right x js forces r);
      clauses = subst (λ (fs : List Bool). AllByRecursion (IsClosed t fs) c.args.clauses.now) (sym (h.still e)) (h.done e).0;
      rows = subst (λ (fs : List Bool). ArePlacesClosed t fs (length t)) (sym (h.still e)) (h.done e).1;
    }
