-- The marks of the rewriting state, passed on, so that those who stand on this need not name ae_combine.
pub use Rattle.ae_combine.specs.Marks.{IsMarkOf}
pub use Rattle.ae_combine.specs.declared.state.Mark.{Mark}
