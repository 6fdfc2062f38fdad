-- A search between two rounds may stop.
use Rattle.std.specs.Prelude.{ℕ}
use Rattle.std.proofs.Common.{sym}
use Rattle.ae_between_rounds.specs.Between.{IsBetweenRounds, IsStopped}
use Rattle.ae_between_rounds.specs.declared.search.Search.{Search}
use Rattle.ae_core.specs.declared.problems.Problem.{Problem}

pub stopped_between : (p : Problem) (g bound : ℕ) (o : Search) → IsBetweenRounds p g bound o → IsStopped p g bound o
stopped_between p g bound o b = record {
  lawful = record {
    allowed = b.searching.stated.allowed;
    legal = λ x told. (b.searching.lawful x told).legal;
    entered = λ x told. (b.searching.lawful x told).entered;
  };
  apart = b.holds.constants.apart;
  signature = sym b.searching.signature;
  store = b.holds.store;
}
