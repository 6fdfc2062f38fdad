-- Lists of terms that grow by one where a test says so.
use Rattle.std.specs.Prelude.{Bool, cond, List, [], ◌∷◌, ◌++◌}
use Rattle.ae_base.specs.Decided.{decided}
use Rattle.ae_core.specs.Decided.{Term_discrete}
use Rattle.ae_core.specs.declared.terms.Term.{Term}
use Rattle.ae_journal.specs.Triggers.{is_among}

abbrev pub is_term : Term → Term → Bool
is_term u t = decided (Term_discrete u t)

-- with the term, where it isn't among them
unfoldable pub with_new : List Term → Term → List Term
with_new kept t = cond (is_among kept t) kept (kept ++ t ∷ [])

-- with the term, where that is said
unfoldable pub with_one : Bool → List Term → Term → List Term
with_one passes kept t = cond passes (kept ++ t ∷ []) kept
