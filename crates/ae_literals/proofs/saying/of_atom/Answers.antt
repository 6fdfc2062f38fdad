use Rattle.std.proofs.Common.{◌<◌, length, subst, sym, ◌∙◌, arith}
use Rattle.std.proofs.lemmas.Option.{slice_get_within}
use native.Mathlib.Decide.{ℕ_discrete}
use Rattle.ae_base.proofs.Tests.{false_true}
use Rattle.ae_literals.specs.Said.{IsAtomOf}
use Rattle.ae_literals.proofs.NamedLiterals.{atom_named, atom_unnamed}
use Rattle.ae_literals.proofs.saying.of_atom.Goals as goal

pub loop-name-preserved : goal.loop-name-preserved
loop-name-preserved c = λ n l a.
    elim (ℕ_discrete n c.loop-name.name) [
      | yes f ↦ false_true (sym c.if-branch.false ∙ c.in_ok-is_atom.ensures.1 (subst (λ k. IsAtomOf c.args.store.now k c.args.predicate c.args.sorts.now c.args.args.now) f a))
      | no m ↦ c.loop-name.invariant n (omega (arith, l, m)) a
    ]

pub returns-then-branch : goal.returns-then-branch
returns-then-branch c = atom_named c.args.store.now c.args.positive c.args.predicate c.args.sorts.now c.args.args.now c.loop-name.name (c.in_ok-is_atom.ensures.0 c.if-branch.true)

pub returns : goal.returns
returns c =
    atom_unnamed c.args.store.now c.args.positive c.args.predicate c.args.sorts.now c.args.args.now
    (λ n a. (let l : n < length c.args.store.now.nodes = slice_get_within c.args.store.now.nodes n a.node a.at in c.loop-name.invariant n (omega (arith, l, c.loop-name-test.false, c.loop-name.auto.name-end, c.len-name-end.ensures.len)) a))
