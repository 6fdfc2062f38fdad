-- Kept rows, passed on, so that those who stand on this need not name ae_kept_rows and ae_literal_rows.
pub use Rattle.ae_kept_rows.specs.Kept.{AreInStepWith, AreKeptAt, AreRowsFor, StandBeside, literals_to}
pub use Rattle.ae_kept_rows.specs.declared.kept.KeptRows.{KeptRows}
pub use Rattle.ae_kept_rows.specs.declared.solving.Solved.{Solved}
pub use Rattle.ae_literal_rows.specs.Beside.{IsBeside, IsTold}
pub use Rattle.ae_literal_rows.specs.Trails.{AreMarked, literals_from}
