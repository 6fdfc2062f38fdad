use Rattle.std.specs.Prelude.{List, [], ◌∷◌, Option, IfSome, IfNone}
use Rattle.std.proofs.Common.{sym, subst}
use Rattle.ae_store.specs.Growing.{IsFront}
use Rattle.ae_store.specs.Shapes.{shapes}
use Rattle.ae_store.specs.Terms.{terms}
use Rattle.ae_store.proofs.EnterLaws.{front_then}
use Rattle.ae_just.specs.declared.steps.Side.TheVariants as side
use Rattle.ae_just.specs.declared.steps.Step.{Step}
use Rattle.ae_value_steps.proofs.Added.{front, states_equal}
use Rattle.ae_take_in.proofs.Resting.{rests_free}
use Rattle.ae_strips.specs.Stripping.{StripsTo}
use Rattle.ae_take_in.specs.declared.covering.Other.{Other}
use Rattle.ae_take_in.specs.Inner.Next.{IsOther}
use Rattle.ae_take_in.proofs.Covers.{no_leaf, leaf_equal, chained_rests}
use Rattle.ae_take_in.proofs.covering.covered_leaf.Goals as goal

pub returns-in-None-clause-some : goal.returns-in-None-clause-some
returns-in-None-clause-some c =
    let s = c.args.store.now in
    let w = subst (λ (o : Option Other). IfSome o (λ other. IsOther (terms (shapes c.args.store.now.nodes)) c.other_name.new.justs c.args.name other)) c.in-Some.is c.in_ok-found.ensures.some in
    let o = c.in-Some.end in
    record {
      name = o.name;
      strips = w.strips;
      other = w.other;
      leaf = no_leaf s.signature (terms (shapes s.nodes)) c.args.justs.now c.args.values.now c.requires.said o.name c.in-None.ensures.none;
      equal = w.equating.equal;
      rests = rests_free c.args.justs.now c.other_name.new.justs c.args.values.now o.step w.equating.free;
    }

pub state_chained-requires-clause-equal : goal.state_chained-requires-clause-equal
state_chained-requires-clause-equal c =
    let s = c.args.store.now in
    let w = subst (λ (o : Option Other). IfSome o (λ other. IsOther (terms (shapes c.args.store.now.nodes)) c.other_name.new.justs c.args.name other)) c.in-Some.is c.in_ok-found.ensures.some in
    let o = c.in-Some.end in
    let l = c.in-Some-leaf_step.ensures.some in (
      o.name,
      w.equating.equal,
      leaf_equal s.signature (terms (shapes s.nodes)) c.args.justs.now c.args.values.now c.requires.said c.other_name.new.justs c.other_name.ensures.front c.other_name.ensures.fits o.name l.0 c.in-Some-leaf_step.said l.1 l.2 c.leaf-leaf.result c.leaf-leaf.ensures,
    )

pub returns-in_ok-step-in-Some-leaf_step-clause-some : goal.returns-in_ok-step-in-Some-leaf_step-clause-some
returns-in_ok-step-in-Some-leaf_step-clause-some c =
    let s = c.args.store.now in
    let ts = terms (shapes s.nodes) in
    let w = subst (λ (o : Option Other). IfSome o (λ other. IsOther (terms (shapes c.args.store.now.nodes)) c.other_name.new.justs c.args.name other)) c.in-Some.is c.in_ok-found.ensures.some in
    let o = c.in-Some.end in
    let l = c.in-Some-leaf_step.ensures.some in
    let id = c.in_ok-step-in-Some-leaf_step.step in
    let adds = c.in_ok-step-in-Some-leaf_step.ensures.added in
    record {
      name = o.name;
      strips = w.strips;
      other = w.other;
      leaf = c.leaf-leaf.ensures;
      equal = states_equal c.other_name.new.justs c.state_chained.new.justs id c.args.name c.leaf-leaf.result (o.step ∷ c.in-Some-leaf_step.said ∷ []) adds;
      rests =
          chained_rests s.signature ts c.args.justs.now c.args.values.now c.requires.said c.other_name.new.justs c.other_name.ensures.front c.other_name.ensures.fits o.name l.0 c.in-Some-leaf_step.said l.1 l.2 c.state_chained.new.justs
          c.state_chained.ensures.fits c.args.name o.step id (side.Name c.args.name) (side.Name c.leaf-leaf.result) w.equating adds;
    }

pub returns-in_ok-step-in-Some-leaf_step-clause-front : goal.returns-in_ok-step-in-Some-leaf_step-clause-front
returns-in_ok-step-in-Some-leaf_step-clause-front c =
    front_then c.args.justs.now c.other_name.new.justs c.state_chained.new.justs c.other_name.ensures.front
    (front c.other_name.new.justs c.state_chained.new.justs c.in_ok-step-in-Some-leaf_step.step (side.Name c.args.name) (side.Name c.leaf-leaf.result) (c.in-Some.end.step ∷ c.in-Some-leaf_step.said ∷ []) c.in_ok-step-in-Some-leaf_step.ensures.added)

pub returns-in_err-step-in-Some-leaf_step-clause-front : goal.returns-in_err-step-in-Some-leaf_step-clause-front
returns-in_err-step-in-Some-leaf_step-clause-front c = subst (λ (js : List Step). IsFront c.args.justs.now js) (sym c.in_err-step-in-Some-leaf_step.ensures.err) c.other_name.ensures.front

pub returns-in_default-clause-none : goal.returns-in_default-clause-none
returns-in_default-clause-none c = subst (λ (o : Option Other). IfNone o (StripsTo (terms (shapes c.args.store.now.nodes)) c.args.name c.args.name)) c.in_default.is c.in_ok-found.ensures.none
