use Rattle.std.specs.Prelude.{List, [], ◌∷◌, Option, IfSome, IfNone}
use Rattle.std.proofs.Common.{sym, ◌∙◌, subst}
use Rattle.ae_store.specs.Growing.{IsFront}
use Rattle.ae_store.specs.Shapes.{shapes}
use Rattle.ae_store.specs.Terms.{terms}
use Rattle.ae_store.proofs.EnterLaws.{front_then}
use Rattle.ae_just.specs.declared.steps.Step.{Step}
use Rattle.ae_state_steps.specs.ValueSteps.{IsWritten, name_side, value_side}
use Rattle.ae_value_steps.proofs.Added.{front, equal_kept, states_value}
use Rattle.ae_strips.proofs.Totals.{sort_kept}
use Rattle.ae_take_in.proofs.Resting.{said_longer}
use Rattle.ae_strips.specs.Stripping.{StripsTo}
use Rattle.ae_take_in.specs.declared.covering.Other.{Other}
use Rattle.ae_take_in.specs.Inner.Next.{IsOther}
use Rattle.ae_take_in.proofs.Covers.{covered_rests}
use Rattle.ae_take_in.proofs.covering.covered_number.Goals as goal

pub given-requires-clause-said : goal.given-requires-clause-said
given-requires-clause-said c =
    let s = c.args.store.now in said_longer s.signature (terms (shapes s.nodes)) c.args.justs.now c.other_name.new.justs c.other_name.ensures.front c.args.values.now c.requires.said

pub given-requires-clause-name : goal.given-requires-clause-name
given-requires-clause-name c =
    let s = c.args.store.now in sym (sort_kept s.signature s.nodes c.len-len.ensures.store c.args.name c.in-Some.end.name (subst (λ (o : Option Other). IfSome o (λ other. IsOther (terms (shapes c.args.store.now.nodes)) c.other_name.new.justs c.args.name other)) c.in-Some.is c.in_ok-found.ensures.some).strips) ∙ c.requires.name

pub state_covered-requires-clause-written : goal.state_covered-requires-clause-written
state_covered-requires-clause-written c = let w = c.in_ok-whole.ensures.stated.written in record { name = c.requires.name; parts = w.parts; normal = w.normal }

pub state_covered-requires-clause-equal : goal.state_covered-requires-clause-equal
state_covered-requires-clause-equal c = equal_kept c.other_name.new.justs c.given.new.justs c.given.ensures.front c.in-Some.end.step c.args.name c.in-Some.end.name (subst (λ (o : Option Other). IfSome o (λ other. IsOther (terms (shapes c.args.store.now.nodes)) c.other_name.new.justs c.args.name other)) c.in-Some.is c.in_ok-found.ensures.some).equating.equal

pub returns-clause-some : goal.returns-clause-some
returns-clause-some c =
    let s = c.args.store.now in
    let ts = terms (shapes s.nodes) in
    let w = subst (λ (o : Option Other). IfSome o (λ other. IsOther (terms (shapes c.args.store.now.nodes)) c.other_name.new.justs c.args.name other)) c.in-Some.is c.in_ok-found.ensures.some in
    let o = c.in-Some.end in
    let g = c.in_ok-whole.whole in
    let real = c.args.real in
    let n = c.args.name in
    let written : IsWritten s.signature ts real n g.value = record { name = c.requires.name; parts = c.in_ok-whole.ensures.stated.written.parts; normal = c.in_ok-whole.ensures.stated.written.normal } in
    record {
      name = o.name;
      strips = w.strips;
      other = w.other;
      value = c.in_ok-whole.ensures.number;
      stated = record { written = written; stated = states_value c.given.new.justs c.state_covered.new.justs c.in_ok-step.step real n g.value (o.step ∷ g.step ∷ []) c.in_ok-step.ensures.added };
      rests =
          covered_rests s.signature ts c.args.justs.now c.args.values.now c.requires.said c.other_name.new.justs c.given.new.justs c.state_covered.new.justs c.other_name.ensures.front c.other_name.ensures.fits c.given.ensures.front
          c.given.ensures.fits c.state_covered.ensures.fits n o.name o.step g.step c.in_ok-step.step (name_side real n g.value) (value_side real g.value) w.equating c.in_ok-whole.ensures.rests c.in_ok-step.ensures.added;
    }

pub returns-in_err-whole-clause-front : goal.returns-in_err-whole-clause-front
returns-in_err-whole-clause-front c = front_then c.args.justs.now c.other_name.new.justs c.given.new.justs c.other_name.ensures.front c.given.ensures.front

pub returns-in_err-step-clause-front : goal.returns-in_err-step-clause-front
returns-in_err-step-clause-front c =
    subst (λ (js : List Step). IsFront c.args.justs.now js) (sym c.in_err-step.ensures.err) (front_then c.args.justs.now c.other_name.new.justs c.given.new.justs c.other_name.ensures.front c.given.ensures.front)

pub returns-clause-front : goal.returns-clause-front
returns-clause-front c =
    let g = c.in_ok-whole.whole in
    front_then c.args.justs.now c.given.new.justs c.state_covered.new.justs (front_then c.args.justs.now c.other_name.new.justs c.given.new.justs c.other_name.ensures.front c.given.ensures.front)
    (front c.given.new.justs c.state_covered.new.justs c.in_ok-step.step (name_side c.args.real c.args.name g.value) (value_side c.args.real g.value) (c.in-Some.end.step ∷ g.step ∷ []) c.in_ok-step.ensures.added)

pub returns-in_default-clause-none : goal.returns-in_default-clause-none
returns-in_default-clause-none c = subst (λ (o : Option Other). IfNone o (StripsTo (terms (shapes c.args.store.now.nodes)) c.args.name c.args.name)) c.in_default.is c.in_ok-found.ensures.none
