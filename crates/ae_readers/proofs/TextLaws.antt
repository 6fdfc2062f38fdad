-- The texts of numbers and names: exact, and how they are spelled.
use Rattle.std.specs.Prelude.{ℕ, List, [], ◌∷◌, ◌++◌, ◌≡◌, decimal}
use mathlib.Core.Path.{refl}
use Rattle.ae_codes.specs.Closers.{Close, close_end, closers, sizes}
use Rattle.ae_codes.specs.Codes.{Exact, exact, words}
use Rattle.ae_codes.specs.Integers.{IntegerEnd, integer_is_spelled, integer_text}
use Rattle.ae_codes.specs.Machines.{checked, machine}
use Rattle.ae_codes.specs.Names.{WordEnd, names}
use Rattle.ae_codes.specs.Numbers.{Closed, number, number_machine}
use Rattle.ae_readers.specs.Names.{SomeName, names_at}
use Rattle.ae_readers.specs.Readers.{integer_at}
use Rattle.ae_readers.specs.declared.closing.Closing.{Closing}
use Rattle.ae_readers.specs.declared.names.Form.{Form}

pub sizes_exact : (k : Close) → Exact (number (sizes k))
sizes_exact k = exact (number (sizes k))

pub sizes_spelled : (k : Close) (v : Closed) → (number (sizes k)).text v ≡ decimal v.0 ++ v.1 ∷ []
unfolding number checked machine number_machine
sizes_spelled k v = refl

pub integers_exact : (k : Close) → Exact (integer_at k)
integers_exact k = exact (integer_at k)

pub integers_spelled : (k : Close) (v : IntegerEnd) → (integer_at k).text v ≡ integer_text v.0 ++ v.1 ∷ []
integers_spelled k v = integer_is_spelled (closers k.one k.two) k.digits (close_end k) v

pub names_exact : (f : Form) (k : Closing) (table : List (List ℕ)) (some : SomeName f k table) → Exact (names_at f k table some)
names_exact f k table some = exact (names_at f k table some)

pub names_spelled : (f : Form) (k : Closing) (table : List (List ℕ)) (some : SomeName f k table) (v : WordEnd) → (names_at f k table some).text v ≡ v.0 ++ v.1 ∷ []
unfolding names words
names_spelled f k table some v = refl
