-- What contracts see of the sources and sinks in memory.
use Rattle.std.specs.Prelude.{ℕ, List, Bool, if◌then◌else◌}
use Rattle.ae_io.specs.Moves.{Written, Lost, Told}

-- a source that fails at the calls whose numbers, from 0, are in `failing`
pub record SourceState : Type 0 where
  pub left : List ℕ
  -- the most bytes that a call gives
  pub piece : ℕ
  pub failing : List ℕ
  -- the number of the next call
  pub call : ℕ
  -- how many calls gave no byte
  pub idle : ℕ
  pub faults : ℕ

-- a sink with room for so many bytes, which fails at the calls whose numbers are in `failing`
pub record SinkState : Type 0 where
  pub kept : List ℕ
  pub room : ℕ
  -- the most bytes that a call takes
  pub piece : ℕ
  pub failing : List ℕ
  -- the number of the next call
  pub call : ℕ
  pub faults : ℕ

-- a sink that keeps so many bytes as it has room for
pub record KeptState : Type 0 where
  pub kept : List ℕ
  pub room : ℕ
  -- a byte came when there was no room
  pub dropped : Bool

-- it tells its bytes until it has dropped one
abbrev pub kept_written : KeptState → Written
kept_written s = if s.dropped then Lost else Told s.kept

-- an adapter over a reader or a writer, with the count of its faults
pub record AdapterState (T : Type 0) : Type 0 where
  pub inner : T
  pub faults : ℕ
