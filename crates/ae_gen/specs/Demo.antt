-- The demo's text: six lines that declare, and then a goal a line. Of four goals after each other the first three follow.
use Rattle.std.specs.Prelude.{ℕ, zero, suc, ◌+◌, ◌%◌, List, [], ◌++◌, codes, decimal, nat_eq, cond}

-- the parts with the numbers from 0 and below the count, one after the other
abbrev pub in_turn : (ℕ → List ℕ) → ℕ → List ℕ
in_turn part zero = []
in_turn part (suc n) = in_turn part n ++ part n

-- the names that a letter makes with the numbers from 0 to the last, parted by a comma and a blank
unfoldable pub names : List ℕ → ℕ → List ℕ
names letter last = in_turn (λ n. letter ++ decimal n ++ codes ", ") last ++ letter ++ decimal last

-- the line that declares these names as constants of a sort
unfoldable pub declared : List ℕ → ℕ → List ℕ → List ℕ
declared letter last sort = codes "logic " ++ names letter last ++ codes " : " ++ sort ++ codes "\n"

-- the lines that declare the type and the symbols of goals
unfoldable pub symbols : List ℕ
symbols = codes "type t\nlogic ac u : t, t -> t\nlogic f : t -> t\nlogic h : real -> real\n"

-- the lines that declare
unfoldable pub opening : List ℕ
opening = symbols ++ declared (codes "a") 15 (codes "t") ++ declared (codes "x") 7 (codes "real")

-- the constant of sort t at place j of goal k
unfoldable pub constant : ℕ → ℕ → List ℕ
constant k j = codes "a" ++ decimal ((k + j) % 16)

-- the real constant at place j
unfoldable pub real_constant : ℕ → List ℕ
real_constant j = codes "x" ++ decimal j

-- how many hypotheses a chain in goal k has
abbrev pub chain_length : ℕ → ℕ
chain_length k = 1 + k % 7

-- `b0 = b1 -> b1 = b2 -> .. -> f(b0) = f(bm)`: what is equal has equal images
unfoldable pub equal_images : ℕ → List ℕ
equal_images k =
    in_turn (λ j. constant k j ++ codes " = " ++ constant k (j + 1) ++ codes " -> ") (chain_length k)
    ++ codes "f(" ++ constant k 0 ++ codes ") = f(" ++ constant k (chain_length k) ++ codes ")"

-- u of the constants at two places
unfoldable pub joined : ℕ → ℕ → ℕ → List ℕ
joined k i j = codes "u(" ++ constant k i ++ codes ", " ++ constant k j ++ codes ")"

-- `u(b0, b1) = b2 -> u(b0, b3) = b4 -> u(b2, b3) = u(b4, b1)`, since u is associative and commutative
unfoldable pub rearranged : ℕ → List ℕ
rearranged k =
    joined k 0 1 ++ codes " = " ++ constant k 2 ++ codes " -> "
    ++ joined k 0 3 ++ codes " = " ++ constant k 4 ++ codes " -> "
    ++ joined k 2 3 ++ codes " = " ++ joined k 4 1

-- `x0 = x1 + 1.0 -> .. -> h(x0) = h(xm + m.0)`: steps of 1 add up
unfoldable pub steps_add_up : ℕ → List ℕ
steps_add_up k =
    in_turn (λ j. real_constant j ++ codes " = " ++ real_constant (j + 1) ++ codes " + 1.0 -> ") (chain_length k)
    ++ codes "h(x0) = h(" ++ real_constant (chain_length k) ++ codes " + " ++ decimal (chain_length k) ++ codes ".0)"

-- `f(b0) = f(b1) -> b0 = b1`, which doesn't follow
unfoldable pub one_to_one : ℕ → List ℕ
one_to_one k =
    codes "f(" ++ constant k 0 ++ codes ") = f(" ++ constant k 1 ++ codes ") -> " ++ constant k 0 ++ codes " = " ++ constant k 1

-- the formula of a goal: of one of four kinds, in turn
unfoldable pub formula : ℕ → List ℕ
formula k =
    cond (nat_eq (k % 4) 0) (equal_images k) (
    cond (nat_eq (k % 4) 1) (rearranged k) (
    cond (nat_eq (k % 4) 2) (steps_add_up k) (one_to_one k)))

-- the line of goal k
unfoldable pub goal_line : ℕ → List ℕ
goal_line k = codes "goal g" ++ decimal k ++ codes " : " ++ formula k ++ codes "\n"

-- the demo's text of so many goals
unfoldable pub demo_text : ℕ → List ℕ
demo_text goals = opening ++ in_turn goal_line goals
