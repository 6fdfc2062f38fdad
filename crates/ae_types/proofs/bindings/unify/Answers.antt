use Rattle.std.proofs.Common.{sym, subst, length, [], arith, refl}
use Rattle.ae_types.specs.Inner.Walks.{Unmarked}
use Rattle.ae_types.specs.Inner.Enters.{sheet, Grows}
use Rattle.ae_types.specs.Inner.Graphs.{slots_of}
use Rattle.ae_types.specs.Inner.Joins.{PairsWell, Closing, Blames}
use Rattle.ae_types.specs.Inner.Levels.{Settled}
use Rattle.ae_types.specs.Clashes.{IsPair}
use Rattle.ae_types.proofs.UnifyLaws.{pairs_within, unified_sound, unified_unifies, unified_general, unified_blames, idempotent, clash_refutes, unified_pair}
use Rattle.ae_types.proofs.bindings.unify.Goals as goal

pub solve-requires-clause-todo : goal.solve-requires-clause-todo
solve-requires-clause-todo c =
    subst (λ xs. PairsWell (length xs) c.enter_pairs.new.todo) (sym c.as_slice.ensures)
    (pairs_within c.enter_pairs.new.graph.nodes c.args.pairs.now c.enter_pairs.new.todo c.in_ok-enter_pairs.ensures.ok)

pub invariant_of-result : goal.invariant_of-result
invariant_of-result c =
    let g = subst (λ t. Grows t (sheet c.enter_pairs.new.graph)) c.empty_graph-graph.ensures c.in_ok-enter_pairs.ensures.grows in (
      unified_sound (sheet c.enter_pairs.new.graph) g c.solve.new.classes c.enter_pairs.new.todo
          (subst (λ xs. Closing xs c.enter_pairs.new.graph.classes c.solve.new.classes c.enter_pairs.new.todo []) c.as_slice.ensures c.in-Ok.ensures.closed)
          (subst (λ xs. Settled (slots_of xs c.solve.new.classes)) c.as_slice.ensures c.in-Ok.ensures.settled),
      subst (λ ms. Unmarked ms (length c.enter_pairs.new.graph.nodes)) (sym c.new.ensures) (record { new = λ i. refl; size = omega arith }),
    )

pub returns-in-Ok-clause-unifies : goal.returns-in-Ok-clause-unifies
returns-in-Ok-clause-unifies c =
    let g = subst (λ t. Grows t (sheet c.enter_pairs.new.graph)) c.empty_graph-graph.ensures c.in_ok-enter_pairs.ensures.grows in
    unified_unifies (sheet c.enter_pairs.new.graph) g c.solve.new.classes c.enter_pairs.new.todo
    (subst (λ xs. Closing xs c.enter_pairs.new.graph.classes c.solve.new.classes c.enter_pairs.new.todo []) c.as_slice.ensures c.in-Ok.ensures.closed)
    (subst (λ xs. Settled (slots_of xs c.solve.new.classes)) c.as_slice.ensures c.in-Ok.ensures.settled) c.args.pairs.now c.in_ok-enter_pairs.ensures.ok

pub returns-in-Ok-clause-most_general : goal.returns-in-Ok-clause-most_general
returns-in-Ok-clause-most_general c = λ f u.
    (let g = subst (λ t. Grows t (sheet c.enter_pairs.new.graph)) c.empty_graph-graph.ensures c.in_ok-enter_pairs.ensures.grows in (
      f,
      unified_general (sheet c.enter_pairs.new.graph) g c.solve.new.classes c.enter_pairs.new.todo
          (subst (λ xs. Closing xs c.enter_pairs.new.graph.classes c.solve.new.classes c.enter_pairs.new.todo []) c.as_slice.ensures c.in-Ok.ensures.closed)
          (subst (λ xs. Settled (slots_of xs c.solve.new.classes)) c.as_slice.ensures c.in-Ok.ensures.settled) c.args.pairs.now c.in_ok-enter_pairs.ensures.ok f u,
    ))

pub returns-in-Ok-clause-idempotent : goal.returns-in-Ok-clause-idempotent
returns-in-Ok-clause-idempotent c =
    let g = subst (λ t. Grows t (sheet c.enter_pairs.new.graph)) c.empty_graph-graph.ensures c.in_ok-enter_pairs.ensures.grows in
    idempotent _ (unified_sound (sheet c.enter_pairs.new.graph) g c.solve.new.classes c.enter_pairs.new.todo
    (subst (λ xs. Closing xs c.enter_pairs.new.graph.classes c.solve.new.classes c.enter_pairs.new.todo []) c.as_slice.ensures c.in-Ok.ensures.closed)
    (subst (λ xs. Settled (slots_of xs c.solve.new.classes)) c.as_slice.ensures c.in-Ok.ensures.settled))

pub returns-in-Err-clause-clash : goal.returns-in-Err-clause-clash
returns-in-Err-clause-clash c =
    let g = subst (λ t. Grows t (sheet c.enter_pairs.new.graph)) c.empty_graph-graph.ensures c.in_ok-enter_pairs.ensures.grows in
    unified_blames (sheet c.enter_pairs.new.graph) g c.enter_pairs.new.todo c.args.pairs.now c.in_ok-enter_pairs.ensures.ok c.in-Err.clash
    (subst (λ xs. Blames xs c.enter_pairs.new.graph.classes c.enter_pairs.new.todo c.in-Err.clash) c.as_slice.ensures c.in-Err.ensures.err)

pub returns-in-Err-clause-refuted : goal.returns-in-Err-clause-refuted
returns-in-Err-clause-refuted c =
    clash_refutes (IsPair c.args.pairs.now) c.in-Err.clash _ (λ q. (q.0, unified_pair q.0 c.args.pairs.now q.1)) (returns-in-Err-clause-clash c)
