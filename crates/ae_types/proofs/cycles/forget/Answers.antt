use Rattle.std.proofs.Common.{◌≡◌, ◌∙◌, inl, inr, [], sym, subst, rules, arith, Contains}
use Rattle.std.proofs.lemmas.List.Elements.{Contains-push_cases}
use Rattle.ae_types.specs.Inner.Walks.{mark_at}
use Rattle.ae_types.proofs.OrderLaws.{new_or_not}
use Rattle.ae_types.proofs.cycles.forget.Goals as goal

pub loop-place-preserved : goal.loop-place-preserved
loop-place-preserved c =
    let i = c.loop-place.invariant in
    record {
      size = c.renew.ensures.size ∙ i.size;
      noted = λ k h.
          (let q = c.renew.ensures.others k h in
          elim (Contains-push_cases c.pop.new.self c.in-Some.place k (subst (λ xs. Contains xs k) c.in-Some.ensures (i.noted k q.0))) [
            | inl a ↦ a
            | inr e ↦ absurd (q.1 (sym e))
          ]);
    }

pub returns-clause-new : goal.returns-clause-new
returns-clause-new c = λ k.
    elim (new_or_not (mark_at c.loop-place.marks k)) [
      | inl e ↦ e
      | inr n ↦ absurd (let e : c.loop-place.seen ≡ [] = search rules in let q = subst (λ xs. Contains xs k) e (c.loop-place.invariant.noted k n) in let b = q.1 in omega arith)
    ]
