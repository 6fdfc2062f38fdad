use Rattle.std.specs.Prelude.{ℕ, ◌<◌, ◌≡◌, List, [], length, Some}
use Rattle.std.proofs.Common.{sym, subst, arith}
use Rattle.std.proofs.lemmas.Result.{IfOk-weaker}
use Rattle.ae_core.specs.declared.terms.Sort.{Sort}
use Rattle.ae_store.specs.Growing.{IsFront}
use Rattle.ae_store.specs.Shapes.{shapes}
use Rattle.ae_store.specs.Terms.{terms, named}
use Rattle.ae_store.proofs.EnterLaws.{front_same, front_then}
use Rattle.ae_just.specs.declared.steps.Side.TheVariants as side
use Rattle.ae_just.specs.declared.steps.Step.{Step}
use Rattle.ae_value_steps.proofs.Added.{front}
use Rattle.ae_strips.specs.Stripping.{StripsTo, itself, RestsOnNothing}
use Rattle.ae_strips.specs.declared.stripping.Stripped.{Stripped}
use Rattle.ae_strips.specs.Inner.FieldNodes.{HasArgument}
use Rattle.ae_strips.proofs.FieldTerms.{length_is, name_there, no_field, owner_below, within}
use Rattle.ae_strips.proofs.FieldMoves.{in_written, inner_below, strips_inside, strips_beside}
use Rattle.ae_strips.proofs.Freedom.{equating_added, said_kept, each_none}
use Rattle.ae_strips.proofs.stripping.+strip.Goals as goal

pub returns-in_default-clause-strips : goal.returns-in_default-clause-strips
returns-in_default-clause-strips t c =
    let s = c.args.store.now in
    let u = named (terms (shapes s.nodes)) c.args.name in
    let there = name_there s.signature s.nodes c.len-len.ensures.store c.args.name c.requires.name in
    itself c.args.name u there (no_field s.signature s.nodes c.len-len.ensures.store c.args.name u there c.in_default.ensures.none)

pub returns-in_default-clause-front : goal.returns-in_default-clause-front
returns-in_default-clause-front t c = front_same c.args.justs.now

pub strip-requires : goal.strip-requires
strip-requires t c =
    let s = c.args.store.now in
    let f = c.in-Some.field in
    let below : f.owner < c.args.name = owner_below s.signature s.nodes c.len-len.ensures.store c.args.name f c.in-Some.ensures.some in
    let l : c.args.name < length s.nodes = c.requires.name in
    (subst (λ k. f.owner < k) c.decreases below, (c.requires.fits, omega (arith, below, l)))

pub moved-requires-clause-within : goal.moved-requires-clause-within
moved-requires-clause-within t c =
    let s = c.args.store.now in
    subst (λ k. c.in_ok-owner.owner.name < k) (length_is s.signature s.nodes c.len-len.ensures.store) (within s.signature s.nodes c.len-len.ensures.store c.in-Some.field.owner c.in_ok-owner.owner.name c.in_ok-owner.ensures.strips)

pub returns-in_err-same-clause-front : goal.returns-in_err-same-clause-front
returns-in_err-same-clause-front t c = front_then c.args.justs.now c.strip.new.justs c.moved.new.justs c.strip.ensures.front c.moved.ensures.front

pub argument-requires : goal.argument-requires
argument-requires t c =
    let s = c.args.store.now in
    subst (λ k. c.in_ok-owner.owner.name < k) (length_is s.signature s.nodes c.len-len.ensures.store) (within s.signature s.nodes c.len-len.ensures.store c.in-Some.field.owner c.in_ok-owner.owner.name c.in_ok-owner.ensures.strips)

pub returns-in_default-argument-clause-strips : goal.returns-in_default-argument-clause-strips
returns-in_default-argument-clause-strips t c =
    let s = c.args.store.now in
    let f = c.in-Some.field in
    strips_beside s.signature s.nodes c.len-len.ensures.store c.args.name f c.in-Some.ensures.some c.node-node.result.now c.node-node.ensures.node c.in_ok-owner.owner.name c.in_ok-same.same.name c.in_ok-owner.ensures.strips
    (subst (λ (ss : List Sort). (u : ℕ) → HasArgument s.nodes c.in_ok-owner.owner.name f.of f.place ss u → ⊥) c.as_slice.ensures c.in_default-argument.ensures.none) c.in_ok-same.ensures.same

pub returns-in_default-argument-clause-front : goal.returns-in_default-argument-clause-front
returns-in_default-argument-clause-front t c = front_then c.args.justs.now c.strip.new.justs c.moved.new.justs c.strip.ensures.front c.moved.ensures.front

pub state_argument-requires-clause-written : goal.state_argument-requires-clause-written
state_argument-requires-clause-written t c =
    let s = c.args.store.now in
    let f = c.in-Some.field in
    in_written s.signature s.nodes c.len-len.ensures.store c.args.name f c.in-Some.ensures.some c.node-node.result.now c.node-node.ensures.node c.in_ok-owner.owner.name c.in_ok-same.same.name c.in-Some-argument.inner c.in_ok-owner.ensures.strips
    c.in_ok-same.ensures.same (subst (λ (ss : List Sort). HasArgument s.nodes c.in_ok-owner.owner.name f.of f.place ss c.in-Some-argument.inner) c.as_slice.ensures c.in-Some-argument.ensures.some)

pub returns-in_err-step-clause-front : goal.returns-in_err-step-clause-front
returns-in_err-step-clause-front t c =
    subst (λ (js : List Step). IsFront c.args.justs.now js) (sym c.in_err-step.ensures.err)
    (front_then c.args.justs.now c.strip.new.justs c.moved.new.justs c.strip.ensures.front c.moved.ensures.front)

pub strip-requires-2 : goal.strip-requires-2
strip-requires-2 t c =
    let s = c.args.store.now in
    let f = c.in-Some.field in
    let below : c.in-Some-argument.inner < c.args.name =
    inner_below s.signature s.nodes c.len-len.ensures.store c.args.name f c.in-Some.ensures.some c.node-node.result.now c.node-node.ensures.node c.in_ok-owner.owner.name c.in-Some-argument.inner c.in_ok-owner.ensures.strips
    (subst (λ (ss : List Sort). HasArgument s.nodes c.in_ok-owner.owner.name f.of f.place ss c.in-Some-argument.inner) c.as_slice.ensures c.in-Some-argument.ensures.some) in
    let l : c.args.name < length s.nodes = c.requires.name in
    (subst (λ k. c.in-Some-argument.inner < k) c.decreases below, (c.state_argument.ensures.fits, omega (arith, below, l)))

pub returns-in_err-end-clause-front : goal.returns-in_err-end-clause-front
returns-in_err-end-clause-front t c =
    let a = c.in_ok-step.ensures.added in
    front_then c.args.justs.now c.moved.new.justs c.strip-2.new.justs (front_then c.args.justs.now c.strip.new.justs c.moved.new.justs c.strip.ensures.front c.moved.ensures.front)
    (front_then c.moved.new.justs c.state_argument.new.justs c.strip-2.new.justs (front c.moved.new.justs c.state_argument.new.justs c.in_ok-step.step (side.Name c.in_ok-same.same.name) (side.Name c.in-Some-argument.inner) [] a) c.strip-2.ensures.front)

pub through-requires-clause-field : goal.through-requires-clause-field
through-requires-clause-field t c =
    let s = c.args.store.now in
    let a = c.in_ok-step.ensures.added in
    said_kept s.signature (terms (shapes s.nodes)) c.moved.new.justs c.strip-2.new.justs c.strip-2.ensures.fits
    (front_then c.moved.new.justs c.state_argument.new.justs c.strip-2.new.justs (front c.moved.new.justs c.state_argument.new.justs c.in_ok-step.step (side.Name c.in_ok-same.same.name) (side.Name c.in-Some-argument.inner) [] a) c.strip-2.ensures.front)
    c.args.name c.in_ok-same.same.name c.in_ok-same.same.step c.in_ok-same.ensures.said

pub through-requires-clause-step : goal.through-requires-clause-step
through-requires-clause-step t c =
    let s = c.args.store.now in
    said_kept s.signature (terms (shapes s.nodes)) c.state_argument.new.justs c.strip-2.new.justs c.strip-2.ensures.fits c.strip-2.ensures.front c.in_ok-same.same.name c.in-Some-argument.inner (Some c.in_ok-step.step)
    (equating_added s.signature (terms (shapes s.nodes)) c.moved.new.justs c.state_argument.new.justs c.state_argument.ensures.fits c.in_ok-same.same.name c.in-Some-argument.inner c.in_ok-step.step [] c.in_ok-step.ensures.added
    (each_none (RestsOnNothing c.moved.new.justs)))

pub returns-clause-strips : goal.returns-clause-strips
returns-clause-strips t c =
    let s = c.args.store.now in
    let f = c.in-Some.field in
    IfOk-weaker c.through.result (λ (r : Stripped). r.name ≡ c.in_ok-end.end.name) (λ (r : Stripped). StripsTo (terms (shapes s.nodes)) c.args.name r.name)
    (λ r e. subst (λ (m : ℕ). StripsTo (terms (shapes s.nodes)) c.args.name m) (sym e)
    (strips_inside s.signature s.nodes c.len-len.ensures.store c.args.name f c.in-Some.ensures.some c.node-node.result.now c.node-node.ensures.node c.in_ok-owner.owner.name c.in-Some-argument.inner c.in_ok-end.end.name c.in_ok-owner.ensures.strips
    (subst (λ (ss : List Sort). HasArgument s.nodes c.in_ok-owner.owner.name f.of f.place ss c.in-Some-argument.inner) c.as_slice.ensures c.in-Some-argument.ensures.some) c.in_ok-end.ensures.strips)) c.through.ensures.name

pub returns-clause-front : goal.returns-clause-front
returns-clause-front t c =
    let a = c.in_ok-step.ensures.added in
    front_then c.args.justs.now c.strip-2.new.justs c.through.new.justs
    (front_then c.args.justs.now c.moved.new.justs c.strip-2.new.justs (front_then c.args.justs.now c.strip.new.justs c.moved.new.justs c.strip.ensures.front c.moved.ensures.front)
    (front_then c.moved.new.justs c.state_argument.new.justs c.strip-2.new.justs (front c.moved.new.justs c.state_argument.new.justs c.in_ok-step.step (side.Name c.in_ok-same.same.name) (side.Name c.in-Some-argument.inner) [] a) c.strip-2.ensures.front))
    c.through.ensures.front
