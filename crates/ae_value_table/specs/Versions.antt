-- Versions of what is held, and that they last.
use Rattle.std.specs.Prelude.{ℕ, ◌≤◌, ◌++◌, List, length, ◌≡◌}
use Rattle.ae_pmap.specs.Forest.{present, StandsFor as MapStandsFor}
use Rattle.ae_linear.specs.Rows.{row_at, StandsFor as RowsStandFor}
use Rattle.ae_value_table.specs.declared.patterns.Entry.{Entry}
use Rattle.ae_value_table.specs.declared.table.Shared.{Shared}
use Rattle.ae_value_table.specs.Table.{Contents, held}

-- the version fits what is held, and stands for what was held then
pub record StandsFor (c : Contents) (shared : Shared) (then : Contents) : Type 0 where
  pub rows : RowsStandFor c.rows shared.rows (λ n. row_at then.rows n)
  pub leaves : MapStandsFor c.leaves shared.leaves (present then.leaves)
  pub justs : MapStandsFor c.justs shared.justs (present then.justs)
  pub taken : shared.taken ≡ then.taken
  pub within : then.taken ≤ length then.entries
  pub entries : (more : List Entry) × (c.entries ≡ then.entries ++ more)

-- each version goes on standing for what was held
abbrev pub Lasts : Contents → Contents → Type 0
Lasts old new = (shared : Shared) (then : Contents) → StandsFor old shared then → StandsFor new shared then

-- the same is held
pub record IsAs (c then : Contents) : Type 0 where
  pub names : held c ≡ held then
  pub rows : (n : ℕ) → row_at c.rows n ≡ row_at then.rows n
  pub leaves : present c.leaves ≡ present then.leaves
  pub justs : present c.justs ≡ present then.justs
  pub taken : c.taken ≡ then.taken
