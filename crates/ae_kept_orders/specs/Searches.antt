-- Searches between two rounds, passed on, so that those who stand on this need not name ae_between_rounds.
pub use Rattle.ae_between_rounds.specs.Between.{IsBetweenRounds, IsSearchingBelow}
pub use Rattle.ae_between_rounds.specs.Finished.{IsOpenSearch, IsPointOf}
pub use Rattle.ae_between_rounds.specs.declared.search.Search.{Search}
