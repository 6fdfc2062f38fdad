use Rattle.std.specs.Prelude.{◌+◌, ℕ, List, take, slice_index_or, Option}
use Rattle.std.proofs.Common.{sym, subst, arith}
use Rattle.std.proofs.lemmas.List.{get_or_default}
use Rattle.ae_base.specs.Relations.{Pairwise}
use Rattle.ae_base.proofs.Relations.{pairwise_more, pairwise_all}
use Rattle.ae_pmap.specs.Forest.{present}
use Rattle.ae_pmap.specs.Pairs.{found}
use Rattle.ae_monoid.specs.declared.rules.Kept.{Kept}
use Rattle.ae_monoid.specs.declared.pending.PendingPair.{PendingPair}
use Rattle.ae_monoid.specs.Changes.{IsEquationOf}
use Rattle.ae_monoid.proofs.pending.equations.Goals as goal

pub loop-number-init : goal.loop-number-init
loop-number-init c =
    subst (λ (ps : List PendingPair). Pairwise (λ (m : ℕ) (pair : PendingPair). IsEquationOf (found (present c.args.kept.now) m) pair) (take 0 c.args.numbers.now) ps) (sym c.new-pairs.ensures) tt

pub loop-number-preserved : goal.loop-number-preserved
loop-number-preserved c =
    let numbers = c.args.numbers.now in
    let i = c.loop-number.number-index in
    let n = slice_index_or numbers i 0 in
    let R = λ (m : ℕ) (pair : PendingPair). IsEquationOf (found (present c.args.kept.now) m) pair in
    subst (λ (ps : List PendingPair). Pairwise R (take (i + 1) numbers) ps) (sym c.in_ok-push.ensures.ok)
    (pairwise_more R numbers c.loop-number.pairs i n _ c.loop-number-test.true (get_or_default numbers i 0 n c.loop-number-test.true) c.loop-number.invariant
    (subst (λ (o : Option Kept). IsEquationOf o c.in_ok-pair.pair) c.in-Some.ensures.value c.in_ok-pair.ensures))

pub returns : goal.returns
returns c = pairwise_all _ c.args.numbers.now c.loop-number.pairs c.loop-number.number-index (omega (arith, c.loop-number-test.false)) c.loop-number.invariant
