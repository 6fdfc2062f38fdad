use Rattle.std.specs.Prelude.{Option, IfSome, IfNone}
use Rattle.std.proofs.Common.{subst}
use Rattle.ae_store.specs.Shapes.{shapes}
use Rattle.ae_store.specs.Terms.{terms}
use Rattle.ae_store.proofs.EnterLaws.{front_then}
use Rattle.ae_first_values.specs.declared.numbers.Given.{Given}
use Rattle.ae_take_in.specs.Computing.{IsComputed, IsFirstNumber}
use Rattle.ae_take_in.proofs.Resting.{said_longer}
use Rattle.ae_take_in.proofs.NextNumbers.{computed_number, covered_since, none_if}
use Rattle.ae_take_in.proofs.next.next_number.Goals as goal

pub returns-in-Some-clause-some : goal.returns-in-Some-clause-some
returns-in-Some-clause-some c =
    let s = c.args.store.now in
    computed_number s.signature s.nodes c.len-len.ensures.store c.args.name c.requires.within c.args.values.now c.requires.below c.requires.first c.args.real c.requires.name c.args.justs.now c.first_number.new.justs c.in-Some.given
    (subst (λ (o : Option Given). IfSome o (λ g. IsFirstNumber s.signature (terms (shapes s.nodes)) c.args.justs.now c.first_number.new.justs c.args.values.now c.args.real c.args.name g)) c.in-Some.is c.in_ok-first.ensures.some)

pub covered_number-requires-clause-said : goal.covered_number-requires-clause-said
covered_number-requires-clause-said c =
    let s = c.args.store.now in said_longer s.signature (terms (shapes s.nodes)) c.args.justs.now c.first_number.new.justs c.first_number.ensures.front c.args.values.now c.requires.said

pub returns-in_ok-covered-in-None-clause-some : goal.returns-in_ok-covered-in-None-clause-some
returns-in_ok-covered-in-None-clause-some c =
    let s = c.args.store.now in
    covered_since s.signature s.nodes c.len-len.ensures.store c.args.name c.requires.within c.args.values.now c.requires.below c.requires.first c.args.real c.requires.name c.args.justs.now c.first_number.new.justs c.covered_number.new.justs
    c.first_number.ensures.front c.first_number.ensures.fits c.requires.said c.in_ok-covered-in-None.covered c.in_ok-covered-in-None.ensures.some

pub returns-in_ok-covered-in-None-clause-front : goal.returns-in_ok-covered-in-None-clause-front
returns-in_ok-covered-in-None-clause-front c = front_then c.args.justs.now c.first_number.new.justs c.covered_number.new.justs c.first_number.ensures.front c.covered_number.ensures.front

pub returns-in_err-covered-in-None-clause-front : goal.returns-in_err-covered-in-None-clause-front
returns-in_err-covered-in-None-clause-front c = front_then c.args.justs.now c.first_number.new.justs c.covered_number.new.justs c.first_number.ensures.front c.covered_number.ensures.front

pub returns-in_ok-covered-in-None-clause-computed : goal.returns-in_ok-covered-in-None-clause-computed
returns-in_ok-covered-in-None-clause-computed c =
    none_if c.in_ok-covered-in-None.covered (subst (λ (o : Option Given). IfNone o (IsComputed (terms (shapes c.args.store.now.nodes)) c.args.name → ⊥)) c.in-None.is c.in_ok-first.ensures.none)
