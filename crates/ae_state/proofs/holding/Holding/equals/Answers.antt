use Rattle.std.specs.Prelude.{ℕ, Bool}
use Rattle.std.proofs.Common.{arith}
use Rattle.ae_value_table.specs.Alike.{alike}
use Rattle.ae_theory.proofs.Finding.{found_all, found_step}
use Rattle.ae_state.proofs.holding.Holding.equals.Goals as goal

pub loop-other-preserved : goal.loop-other-preserved
loop-other-preserved c =
    let test : ℕ → Bool = λ n. alike c.args.self.now.values c.args.name n in
    found_step test c.loop-other.names c.push_where.new.numbers c.loop-other.other c.same.result c.loop-other.invariant c.same.ensures c.in_ok-push_where.ensures

pub returns-clause-all : goal.returns-clause-all
returns-clause-all c n l =
    let test : ℕ → Bool = λ k. alike c.args.self.now.values c.args.name k in
    found_all test c.loop-other.names c.loop-other.other c.loop-other.invariant n (omega (arith, l, c.len-other-end.ensures.len, c.loop-other-test.false))
