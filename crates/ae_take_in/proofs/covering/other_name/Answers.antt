use Rattle.std.specs.Prelude.{◌≡◌, ◌≢◌}
use Rattle.std.proofs.Common.{rules, subst}
use Rattle.ae_store.specs.Shapes.{shapes}
use Rattle.ae_store.specs.Terms.{terms}
use Rattle.ae_strips.specs.Stripping.{StripsTo, IsSaidBy}
use Rattle.ae_strips.proofs.Freedom.{said_some}
use Rattle.ae_take_in.proofs.covering.other_name.Goals as goal

pub returns-in_default-clause-none : goal.returns-in_default-clause-none
returns-in_default-clause-none c =
    let ts = terms (shapes c.args.store.now.nodes) in
    subst (StripsTo ts c.args.name) (subst (IsSaidBy c.strip.new.justs c.args.name c.in_ok-end.end.name) c.in_default.is c.in_ok-end.ensures.said) c.in_ok-end.ensures.strips

pub returns-clause-some : goal.returns-clause-some
returns-clause-some c =
    let differ : c.in_ok-end.end.name ≢ c.args.name = search rules in
    record {
      strips = c.in_ok-end.ensures.strips;
      other = differ;
      equating = said_some c.strip.new.justs c.args.name c.in_ok-end.end.name c.in-Some.step c.in_ok-end.end.step c.in-Some.is c.in_ok-end.ensures.said;
    }

pub returns-then-end-name-clause-none : goal.returns-then-end-name-clause-none
returns-then-end-name-clause-none c =
    let same : c.in_ok-end.end.name ≡ c.args.name = search rules in
    subst (StripsTo (terms (shapes c.args.store.now.nodes)) c.args.name) same c.in_ok-end.ensures.strips
