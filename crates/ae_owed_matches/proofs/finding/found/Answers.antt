use Rattle.std.proofs.Common.{[], length, refl, sym, subst, arith}
use Rattle.std.proofs.lemmas.List.{take_all}
use Rattle.std.proofs.lemmas.Option.{slice_get_read}
use Rattle.ae_base.proofs.AllOf.{all_at}
use Rattle.ae_matches.specs.Answers.{HasClosedConstants}
use Rattle.ae_owed_matches.proofs.FoundLaws.{none_found}
use Rattle.ae_owed_matches.proofs.Taking.{found_further}
use Rattle.ae_owed_matches.specs.Found.{AreFound}
use Rattle.ae_trigger.specs.declared.patterns.Pattern.{Pattern}
use Rattle.std.proofs.Common.{List}
use Rattle.ae_owed_matches.proofs.finding.found.Goals as goal

pub matches-requires-clause-constants : goal.matches-requires-clause-constants
matches-requires-clause-constants g c =
    all_at HasClosedConstants c.args.patterns.now c.loop-pattern.pattern-index c.pattern-item.result c.requires.constants
    (slice_get_read c.args.patterns.now (length c.args.patterns.now) c.loop-pattern.pattern-index c.pattern-item.result refl (omega arith) c.pattern-item.is)

pub loop-pattern-init : goal.loop-pattern-init
loop-pattern-init g c = subst (AreFound c.args.store.now (g.E.Equalities.alike c.args.equalities.now) c.args.number []) (sym c.new-all.ensures) (none_found c.args.store.now (g.E.Equalities.alike c.args.equalities.now) c.args.number)

pub loop-pattern-preserved : goal.loop-pattern-preserved
loop-pattern-preserved g c =
    found_further c.args.store.now (g.E.Equalities.alike c.args.equalities.now) c.args.number c.args.patterns.now c.loop-pattern.pattern-index c.pattern-item.result (omega arith) c.pattern-item.is
    c.loop-pattern.all c.in_ok-more.more c.append.new.self c.loop-pattern.invariant c.in_ok-more.ensures.matches c.in_ok-append.ensures

pub returns : goal.returns
returns g c =
    subst (λ (z : List Pattern). AreFound c.args.store.now (g.E.Equalities.alike c.args.equalities.now) c.args.number z c.loop-pattern.all)
    (take_all c.loop-pattern.pattern-index c.args.patterns.now (omega arith)) c.loop-pattern.invariant
