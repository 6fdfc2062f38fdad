use Rattle.std.proofs.Common.{ℕ, Bool, nat_eq}
use Rattle.ae_theory.specs.Paths.{list_at}
use Rattle.ae_theory.specs.Classes.{class_of}
use Rattle.ae_theory.proofs.Finding.{found_step}
use Rattle.ae_theory.proofs.chains.same_names.Goals as goal

pub loop-other-preserved : goal.loop-other-preserved
loop-other-preserved c =
    let test : ℕ → Bool = λ n. nat_eq (class_of (list_at c.args.nodes.now c.args.place) c.args.name) (class_of (list_at c.args.nodes.now c.args.place) n) in
    found_step test c.loop-other.names c.push_where.new.numbers c.loop-other.other c.are_same.result c.loop-other.invariant c.are_same.ensures c.in_ok-push_where.ensures
