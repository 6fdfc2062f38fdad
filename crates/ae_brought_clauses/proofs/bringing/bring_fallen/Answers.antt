use Rattle.std.proofs.Common.{◌⊎◌, List, [], sym, subst, inl, inr}
use Rattle.std.specs.List.{Contains}
use Rattle.ae_ages.specs.Ages.{HasAge}
use Rattle.ae_ages.specs.declared.entries.Aged.{Aged}
use Rattle.ae_brought_clauses.specs.Inner.Bringing.{IsServed}
use Rattle.ae_brought_clauses.proofs.Again.{names_kept}
use Rattle.ae_brought_clauses.proofs.Joined.{none_brought, both_brought, served_later}
use Rattle.ae_brought_clauses.proofs.bringing.bring_fallen.Goals as goal

pub loop-place-init : goal.loop-place-init
loop-place-init c = (c.requires.within, none_brought c.args.opened.now c.args.generation c.args.store.now c.args.ages.now, λ k i. inl i)

pub bring_block_at-requires-clause-there : goal.bring_block_at-requires-clause-there
bring_block_at-requires-clause-there c = names_kept c.args.opened.now c.args.store.now c.loop-place.store c.loop-place.invariant.1.named.keeps c.requires.there

pub bring_block_at-requires-clause-within : goal.bring_block_at-requires-clause-within
bring_block_at-requires-clause-within c = c.loop-place.invariant.0 c.in-Some.place c.in-Some.ensures.was

pub loop-place-preserved : goal.loop-place-preserved
loop-place-preserved c =
    let os = c.args.opened.now in
    let g = c.args.generation in
    let i = c.loop-place.invariant in
    let w = c.in-Some.ensures in
    let b = c.in_ok-bring_block_at.ensures in
    let new = c.bring_block_at.new in (
      λ k h. i.0 k (w.still k h),
      both_brought os g c.args.store.now c.args.ages.now c.loop-place.store c.loop-place.ages new.store new.ages [] [] i.1 b.brings,
      λ k h. elim (i.2 k h) as (λ _. Contains c.take_fallen.new.places k ⊎ IsServed os g new.store new.ages k) [
        | inl j ↦ elim (w.rest k j) as (λ _. Contains c.take_fallen.new.places k ⊎ IsServed os g new.store new.ages k) [
          | inl q ↦ inr (subst (IsServed os g new.store new.ages) (sym q) b.served)
          | inr r ↦ inl r
        ]
        | inr s ↦ inr (served_later os g c.loop-place.store c.loop-place.ages new.store new.ages [] k b.brings s)
      ],
    )

pub returns-clause-served : goal.returns-clause-served
returns-clause-served c k o h at aged =
    elim (c.loop-place.invariant.2 k h) as (λ _. IsServed c.args.opened.now c.args.generation c.loop-place.store c.loop-place.ages k) [
      | inl j ↦ absurd (c.in_default.ensures k o j at (subst (λ (es : List Aged). HasAge es c.args.generation o.formula) (sym c.as_slice.ensures) aged))
      | inr s ↦ s
    ]
