-- Which symbols are associative and commutative, without type variables or with them.
use Rattle.std.specs.Prelude.{ℕ, Bool, true, false, ◌&&◌, List}
use Rattle.ae_codes.specs.Closers.{by_blank, closers}
use Rattle.ae_core.specs.declared.problems.Signature.{Signature}
use Rattle.ae_prooftext.specs.SortTexts.{fine}
use Rattle.ae_prooftext.specs.Words.{has_variables}
use Rattle.ae_readers.specs.Readers.{no_end}
use Rattle.ae_stategrammar.specs.Sides.{is_ac, plain_symbols, sorted_symbols}
use Rattle.std.specs.Bool.{beq}

abbrev pub of_kind : Signature → Bool → ℕ → Bool
of_kind sig sorted n = is_ac sig n && beq (has_variables sig n) sorted

abbrev pub of_kind_all : Signature → Bool → List ℕ
of_kind_all sig true = sorted_symbols sig
of_kind_all sig false = plain_symbols sig

-- a word that may stand as a name before a blank
abbrev pub may_name : List ℕ → Bool
may_name w = fine w && no_end (closers by_blank.one by_blank.two) w
