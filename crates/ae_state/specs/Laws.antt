-- What names that are the same have in common, and stores and lines that change nothing.
use Rattle.std.specs.Prelude.{ℕ, true, List, [], ◌∷◌, ◌++◌, ◌≡◌, IsTrue}
use Rattle.ae_journal.specs.declared.lines.Line.{Line}
use Rattle.ae_store.specs.Stores.{Stored}
use Rattle.ae_theory.specs.Names.{Extends, HaveOneSort}
use Rattle.ae_theory.specs.Noting.{is_silent}
use Rattle.ae_value_table.specs.Table.{Contents}
use Rattle.ae_value_table.specs.Alike.{alike}
use Rattle.ae_state.specs.declared.holding.Holding.{Holding}
use Rattle.ae_state.specs.Fitting.{FitsStore}
use Rattle.ae_state.specs.Stepping.{IsInStep}

-- each name is the same as itself, in either order, and through a third
abbrev pub NamesAreAlikeThemselves : Type 0
NamesAreAlikeThemselves = (c : Contents) (n : ℕ) → IsTrue (alike c n n)

abbrev pub NamesAreAlikeTurned : Type 0
NamesAreAlikeTurned = (c : Contents) (m n : ℕ) → IsTrue (alike c m n) → IsTrue (alike c n m)

abbrev pub NamesAreAlikeThrough : Type 0
NamesAreAlikeThrough = (c : Contents) (l m n : ℕ) → IsTrue (alike c l m) → IsTrue (alike c m n) → IsTrue (alike c l n)

-- names that are the same are of one sort
abbrev pub AlikeNamesHaveOneSort : Type 0
AlikeNamesHaveOneSort = (o : Holding) (s : Stored) → FitsStore o s → (m n : ℕ) → IsTrue (alike o.values m n) → HaveOneSort s m n

-- a store with more names fits too
abbrev pub LargerStoresFit : Type 0
LargerStoresFit = (o : Holding) (a b : Stored) → Extends a b → FitsStore o a → FitsStore o b

-- a line that is none of a theory changes nothing
abbrev pub SilentLinesKeepStep : Type 0
SilentLinesKeepStep = (o : Holding) (js : List Line) (j : Line) → is_silent j ≡ true → IsInStep o js → IsInStep o (js ++ j ∷ [])
