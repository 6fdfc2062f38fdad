use Rattle.std.specs.Prelude.{ℕ, List, ◌↔◌, IsTrue}
use Rattle.std.proofs.Common.{subst}
use Rattle.ae_base.specs.Relations.{Pairwise}
use Rattle.ae_value_table.specs.Alike.{alike}
use Rattle.ae_saturation.proofs.lasting.same_args.Goals as goal

pub returns : goal.returns
returns c =
    subst (λ (x : List ℕ × List ℕ). IsTrue c.same_each.result ↔ Pairwise (λ (m n : ℕ). IsTrue (alike c.args.values.now m n)) x.0 x.1) (λ i. (c.as_slice.ensures i, c.as_slice-2.ensures i)) c.same_each.ensures
