-- The fields of names of record sort.
use Rattle.std.specs.Prelude.{ℕ, ◌<◌, ◌≤◌, List, [], ◌∷◌, ◌≡◌, length, slice_get, Some}
use Rattle.ae_base.specs.Options.{or_else, ◌>>=◌}
use Rattle.ae_core.specs.Signatures.{fields_of}
use Rattle.ae_core.specs.declared.terms.Sort.{Sort, Sort-F, out-Sort}
use Rattle.ae_core.specs.declared.terms.Sort.TheOpen as layer
use Rattle.ae_core.specs.declared.terms.Head.{Head}
use Rattle.ae_core.specs.declared.terms.Head.TheVariants as head
use Rattle.ae_core.specs.declared.problems.Signature.{Signature}
use Rattle.ae_store.specs.declared.nodes.Node.{Node}
use Rattle.ae_store.specs.declared.nodes.Shape.{Shape}
use Rattle.ae_store.specs.Shapes.{shapes}
use Rattle.ae_store.specs.Terms.{applied}

abbrev pub count_of : Signature → Sort-F Sort → ℕ
count_of sig (layer.Named h ss) = length (or_else (slice_get sig.types h >>= λ e. Some (fields_of e)) [])
count_of sig _ = 0

-- how many fields a sort has: 0 where it is no record sort
unfoldable pub field_count : Signature → Sort → ℕ
field_count sig s = count_of sig (out-Sort s)

abbrev pub head_of : Sort-F Sort → ℕ → Head
head_of (layer.Named h ss) k = head.Field h k
head_of _ k = head.Void

-- the k-th field of a record sort
unfoldable pub field_head : Sort → ℕ → Head
field_head s k = head_of (out-Sort s) k

abbrev pub args_of : Sort-F Sort → List Sort
args_of (layer.Named h ss) = ss
args_of _ = []

-- the arguments of a named sort
unfoldable pub sort_args : Sort → List Sort
sort_args s = args_of (out-Sort s)

-- the field of number k of the name a of sort s has a name
pub record HasField (sig : Signature) (xs : List Shape) (a : ℕ) (s : Sort) (k : ℕ) : Type 0 where
  pub name : ℕ
  pub at : slice_get xs name ≡ Some (applied sig (field_head s k) (sort_args s) (a ∷ []))

-- each field of the name a has a name
pub record IsComplete (sig : Signature) (xs : List Shape) (a : ℕ) : Type 0 where
  pub fields : (x : Shape) (k : ℕ) → slice_get xs a ≡ Some x → k < field_count sig x.sort → HasField sig xs a x.sort k

-- so has each of the names that new has behind those of old
pub record News (sig : Signature) (old new : List Node) : Type 0 where
  pub each : (a : ℕ) → length old ≤ a → a < length new → IsComplete sig (shapes new) a

-- and each name
pub record HasFields (sig : Signature) (xs : List Shape) : Type 0 where
  pub each : (a : ℕ) → a < length xs → IsComplete sig xs a

-- new has at most the name a behind those of old
pub record OnlyNew (old new : List Node) (a : ℕ) : Type 0 where
  pub only : (b : ℕ) → length old ≤ b → b < length new → b ≡ a
