-- What each rule was paired with. Places count from 1; none stands at place 0, and a link leads on to the chain of an earlier place.
use Rattle.std.specs.Prelude.{ℕ, List, [], ◌∷◌, ◌++◌, slice_index_or}
use Rattle.std.specs.List.{fold}
use Rattle.ae_base.specs.Options.{or_else}
use Rattle.ae_pmap.specs.Forest.{present}
use Rattle.ae_pmap.specs.Pairs.{found}
use Rattle.ae_equations.specs.declared.pairs.Link.{Link}
use Rattle.ae_equations.specs.declared.pairs.Pairs.{Pairs}

abbrev pub with_link : List (List ℕ) → Link → List (List ℕ)
with_link chains l = chains ++ (l.number ∷ slice_index_or chains l.next []) ∷ []

-- the chain of each place
unfoldable pub chains_of : List Link → List (List ℕ)
chains_of links = fold with_link ([] ∷ []) links

-- the chain of a place
unfoldable pub chain_at : List Link → ℕ → List ℕ
chain_at links place = slice_index_or (chains_of links) place []

-- where the chain of a rule begins
abbrev pub head_of : Pairs → ℕ → ℕ
head_of c n = or_else (found (present c.heads) n) 0

-- the rules that a rule was paired with, the last one first
abbrev pub partners : Pairs → ℕ → List ℕ
partners c n = chain_at c.links (head_of c n)
