-- The demo's goals as phrases: they are written as the demo's text has them, and fit its symbols.
use Rattle.std.proofs.Common.{ℕ, zero, suc, ◌+◌, ◌≤◌, ◌<◌, ◌%◌, ◌^◌, Bool, true, false, cond, nat_eq, List, [], ◌∷◌, ◌++◌, ◌≡◌, length, refl, sym, ap, ◌∙◌, arith, append_assoc}
use Rattle.std.specs.Prelude.{codes, decimal}
use Rattle.std.specs.List.{AllByRecursion}
use Rattle.std.proofs.lemmas.Fmt.{decimal_digit}
use Rattle.ae_base.proofs.AllOf.{all_push}
use Rattle.ae_core.specs.declared.terms.Sort.{Real}
use Rattle.ae_gen.specs.Demo.{in_turn, constant, real_constant, chain_length, equal_images, joined, rearranged, steps_add_up, one_to_one, formula, goal_line}
use Rattle.ae_elab.specs.Sizes.{is_within}
use Rattle.ae_demo_texts.proofs.Before.{IsIdentifier, numbered_name, one_letter, tenths}
use Rattle.ae_demo_texts.proofs.Declares.{t_sort}
use Rattle.ae_demo_texts.proofs.Elaborated.{chain_size}
use Rattle.ae_demo_texts.proofs.Opening.{demo_signature, is_a, is_f, is_h, is_u, is_x}
use Rattle.ae_demo_texts.proofs.Parses.{EquationFits, AreFitting}
use Rattle.ae_demo_texts.proofs.Phrases.{Argument, named, plus, IsWritten, Side, alone, one, two, Equation, IsEquation, Goal, IsGoal}
use Rattle.ae_demo_texts.proofs.Texts.{side_text, equation_text, given_text, given_append, goal_text}

-- ---- goals
abbrev pub equal : Side → Side → Equation
equal s t = record { left = s; right = t }

abbrev pub in_order : (ℕ → Equation) → ℕ → List Equation
in_order h zero = []
in_order h (suc m) = in_order h m ++ (h m ∷ [])

abbrev a_at : ℕ → ℕ → Argument
a_at k j = named (97 ∷ decimal ((k + j) % 16)) (3 + (k + j) % 16)

abbrev x_at : ℕ → Argument
x_at j = named (120 ∷ decimal j) (19 + j)

abbrev f_of : Argument → Side
f_of u = one (102 ∷ []) 1 u

abbrev h_of : Argument → Side
h_of u = one (104 ∷ []) 2 u

abbrev u_of : Argument → Argument → Side
u_of v w = two (117 ∷ []) 0 v w

abbrev next_a : ℕ → ℕ → Equation
next_a k j = equal (alone (a_at k j)) (alone (a_at k (j + 1)))

abbrev next_x : ℕ → Equation
next_x j = equal (alone (x_at j)) (alone (plus (120 ∷ decimal (j + 1)) (19 + (j + 1)) 1))

abbrev called : ℕ → List Equation → Equation → Goal
called k hs c = record { name = 103 ∷ decimal k; given = hs; then = c }

abbrev images : ℕ → ℕ → Goal
images k m = called k (in_order (next_a k) m) (equal (f_of (a_at k 0)) (f_of (a_at k m)))

abbrev arranged : ℕ → Goal
arranged k =
    called k (equal (u_of (a_at k 0) (a_at k 1)) (alone (a_at k 2)) ∷ equal (u_of (a_at k 0) (a_at k 3)) (alone (a_at k 4)) ∷ [])
    (equal (u_of (a_at k 2) (a_at k 3)) (u_of (a_at k 4) (a_at k 1)))

abbrev sums : ℕ → ℕ → Goal
sums k m = called k (in_order next_x m) (equal (h_of (x_at 0)) (h_of (plus (120 ∷ decimal m) (19 + m) m)))

abbrev backwards : ℕ → Goal
backwards k = called k (equal (f_of (a_at k 0)) (f_of (a_at k 1)) ∷ []) (equal (alone (a_at k 0)) (alone (a_at k 1)))

abbrev pub demo_goal : ℕ → Goal
demo_goal k = cond (nat_eq (k % 4) 0) (images k (chain_length k)) (cond (nat_eq (k % 4) 1) (arranged k) (cond (nat_eq (k % 4) 2) (sums k (chain_length k)) (backwards k)))

-- what holds of each of the four kinds holds of the goal
each_kind : (P : Goal → Type 0) (k : ℕ) → P (images k (chain_length k)) → P (arranged k) → P (sums k (chain_length k)) → P (backwards k) → P (demo_goal k)
each_kind P k a b c d =
    let z = cond (nat_eq (k % 4) 2) (sums k (chain_length k)) (backwards k) in
    of (nat_eq (k % 4) 0) (images k (chain_length k)) (cond (nat_eq (k % 4) 1) (arranged k) z) a (of (nat_eq (k % 4) 1) (arranged k) z b (of (nat_eq (k % 4) 2) (sums k (chain_length k)) (backwards k) c d))
  where
    of : (t : Bool) (x y : Goal) → P x → P y → P (cond t x y)
    of true x y p q = p
    of false x y p q = q

each_in : (P : Equation → Type 0) (h : ℕ → Equation) (m : ℕ) → ((j : ℕ) → j < m → P (h j)) → AllByRecursion P (in_order h m)
each_in P h zero p = tt
each_in P h (suc m) p = all_push P (in_order h m) (h m) (each_in P h m (λ j lt. p j (omega (arith, lt)))) (p m (omega arith))

short : (k : ℕ) → chain_length k < 8
short k = omega arith

-- ---- their pieces
a_written : (k j : ℕ) → IsWritten (a_at k j)
a_written k j = numbered_name 97 ((k + j) % 16) refl (omega arith)

x_written : (j : ℕ) → j < 8 → IsIdentifier (120 ∷ decimal j)
x_written j lt = numbered_name 120 j refl (omega (arith, lt))

pub goal_is : (k : ℕ) → k < 2 ^ 64 → IsGoal (demo_goal k)
goal_is k lt =
    let n = numbered_name 103 k refl lt in
    each_kind IsGoal k
    (record { name = n; given = each_in IsEquation (next_a k) (chain_length k) (λ j l. (a_written k j, a_written k (j + 1))); then = ((one_letter 102 refl, a_written k 0), (one_letter 102 refl, a_written k (chain_length k))) })
    (record {
      name = n;
      given = (((one_letter 117 refl, a_written k 0, a_written k 1), a_written k 2), (((one_letter 117 refl, a_written k 0, a_written k 3), a_written k 4), tt));
      then = ((one_letter 117 refl, a_written k 2, a_written k 3), (one_letter 117 refl, a_written k 4, a_written k 1));
    })
    (record {
      name = n;
      given = each_in IsEquation next_x (chain_length k) (λ j l. (x_written j (omega (arith, l, short k)), (x_written (j + 1) (omega (arith, l, short k)), omega arith)));
      then = ((one_letter 104 refl, x_written 0 (omega arith)), (one_letter 104 refl, (x_written (chain_length k) (short k), omega (arith, short k))));
    })
    (record { name = n; given = (((one_letter 102 refl, a_written k 0), (one_letter 102 refl, a_written k 1)), tt); then = (a_written k 0, a_written k 1) })

-- ---- their sorts
pub record GoalFits (g : Goal) : Type 0 where
  pub given : AreFitting demo_signature g.given
  pub then : EquationFits demo_signature g.then

a_fits : (k j : ℕ) → (k + j) % 16 < 16
a_fits k j = omega arith

pub goal_fits : (k : ℕ) → GoalFits (demo_goal k)
goal_fits k =
    let a = λ (j : ℕ). is_a ((k + j) % 16) (a_fits k j) in
    each_kind GoalFits k
    (record { given = each_in (EquationFits demo_signature) (next_a k) (chain_length k) (λ j l. (t_sort, a j, a (j + 1))); then = (t_sort, (t_sort, is_f, a 0), (t_sort, is_f, a (chain_length k))) })
    (record {
      given = ((t_sort, (t_sort, t_sort, is_u, a 0, a 1), a 2), ((t_sort, (t_sort, t_sort, is_u, a 0, a 3), a 4), tt));
      then = (t_sort, (t_sort, t_sort, is_u, a 2, a 3), (t_sort, t_sort, is_u, a 4, a 1));
    })
    (record {
      given = each_in (EquationFits demo_signature) next_x (chain_length k) (λ j l. (Real, is_x j (omega (arith, l, short k)), (is_x (j + 1) (omega (arith, l, short k)), refl)));
      then = (Real, (Real, is_h, is_x 0 (omega arith)), (Real, is_h, (is_x (chain_length k) (short k), refl)));
    })
    (record { given = ((t_sort, (t_sort, is_f, a 0), (t_sort, is_f, a 1)), tt); then = (t_sort, a 0, a 1) })

-- ---- their sizes
pub record IsSmallGoal (g : Goal) : Type 0 where
  pub size : is_within (chain_size g.given g.then) ≡ true
  pub depth : length g.given + 2 ≤ 1000

images_small : (k m : ℕ) → m < 8 → IsSmallGoal (images k m)
images_small k zero lt = record { size = refl; depth = omega arith }
images_small k (suc zero) lt = record { size = refl; depth = omega arith }
images_small k (suc (suc zero)) lt = record { size = refl; depth = omega arith }
images_small k (suc (suc (suc zero))) lt = record { size = refl; depth = omega arith }
images_small k (suc (suc (suc (suc zero)))) lt = record { size = refl; depth = omega arith }
images_small k (suc (suc (suc (suc (suc zero))))) lt = record { size = refl; depth = omega arith }
images_small k (suc (suc (suc (suc (suc (suc zero)))))) lt = record { size = refl; depth = omega arith }
images_small k (suc (suc (suc (suc (suc (suc (suc zero))))))) lt = record { size = refl; depth = omega arith }
images_small k (suc (suc (suc (suc (suc (suc (suc (suc m)))))))) lt = absurd (omega (arith, lt))

sums_small : (k m : ℕ) → m < 8 → IsSmallGoal (sums k m)
sums_small k zero lt = record { size = refl; depth = omega arith }
sums_small k (suc zero) lt = record { size = refl; depth = omega arith }
sums_small k (suc (suc zero)) lt = record { size = refl; depth = omega arith }
sums_small k (suc (suc (suc zero))) lt = record { size = refl; depth = omega arith }
sums_small k (suc (suc (suc (suc zero)))) lt = record { size = refl; depth = omega arith }
sums_small k (suc (suc (suc (suc (suc zero))))) lt = record { size = refl; depth = omega arith }
sums_small k (suc (suc (suc (suc (suc (suc zero)))))) lt = record { size = refl; depth = omega arith }
sums_small k (suc (suc (suc (suc (suc (suc (suc zero))))))) lt = record { size = refl; depth = omega arith }
sums_small k (suc (suc (suc (suc (suc (suc (suc (suc m)))))))) lt = absurd (omega (arith, lt))

pub goal_small : (k : ℕ) → IsSmallGoal (demo_goal k)
goal_small k =
    each_kind IsSmallGoal k (images_small k (chain_length k) (short k)) (record { size = refl; depth = omega arith }) (sums_small k (chain_length k) (short k)) (record { size = refl; depth = omega arith })

-- ---- their texts
abbrev body_text : Goal → List ℕ
body_text g = given_text g.given ++ equation_text g.then

given_in : (h : ℕ → Equation) (part : ℕ → List ℕ) (m : ℕ) → ((j : ℕ) → equation_text (h j) ++ codes " -> " ≡ part j) → given_text (in_order h m) ≡ in_turn part m
given_in h part zero e = refl
given_in h part (suc m) e = given_append (in_order h m) (h m ∷ []) ∙ (λ i. given_in h part m e i ++ e m i)

-- lists in another grouping
part_of_next : (a b c d : List ℕ) → (a ++ (b ++ c)) ++ d ≡ ((a ++ b) ++ c) ++ d
part_of_next a b c d = simp append_assoc

images_grouped : (t p c r e d : List ℕ) → t ++ ((p ++ (c ++ r)) ++ (e ++ (d ++ r))) ≡ ((((t ++ p) ++ c) ++ (r ++ e)) ++ d) ++ r
images_grouped t p c r e d = simp append_assoc

joined_grouped : (a b c d e : List ℕ) → a ++ (b ++ (c ++ (d ++ e))) ≡ (((a ++ b) ++ c) ++ d) ++ e
joined_grouped a b c d e = simp append_assoc

arranged_grouped : (j q c r h d x y : List ℕ) → ((j ++ (q ++ c)) ++ (r ++ ((h ++ (q ++ d)) ++ (r ++ [])))) ++ (x ++ (q ++ y)) ≡ (((((((((j ++ q) ++ c) ++ r) ++ h) ++ q) ++ d) ++ r) ++ x) ++ q) ++ y
arranged_grouped j q c r h d x y = simp append_assoc

sum_grouped : (a b c d e : List ℕ) → (a ++ (b ++ (c ++ d))) ++ e ≡ ((a ++ b) ++ c) ++ (d ++ e)
sum_grouped a b c d e = simp append_assoc

sums_grouped : (t a b c d e f : List ℕ) → t ++ (a ++ ((b ++ (c ++ (d ++ e))) ++ f)) ≡ ((((t ++ a) ++ b) ++ c) ++ d) ++ (e ++ f)
sums_grouped t a b c d e f = simp append_assoc

backwards_grouped : (p c r e d s q : List ℕ) → (((p ++ (c ++ r)) ++ (e ++ (d ++ r))) ++ (s ++ [])) ++ (c ++ (q ++ d)) ≡ ((((((p ++ c) ++ (r ++ e)) ++ d) ++ (r ++ s)) ++ c) ++ q) ++ d
backwards_grouped p c r e d s q = simp append_assoc

abbrev a_text : ℕ → ℕ → List ℕ
a_text k j = 97 ∷ decimal ((k + j) % 16)

abbrev x_text : ℕ → List ℕ
x_text j = 120 ∷ decimal j

images_text : (k : ℕ) → body_text (images k (chain_length k)) ≡ equal_images k
unfolding equal_images constant
images_text k =
    let m = chain_length k in
    let part = λ (j : ℕ). constant k j ++ codes " = " ++ constant k (j + 1) ++ codes " -> " in
    ap (λ z. z ++ equation_text (equal (f_of (a_at k 0)) (f_of (a_at k m)))) (given_in (next_a k) part m (λ j. part_of_next (a_text k j) (codes " = ") (a_text k (j + 1)) (codes " -> ")))
    ∙ images_grouped (in_turn part m) (codes "f(") (a_text k 0) (codes ")") (codes " = f(") (a_text k m)

joined_text : (k i j : ℕ) → side_text (u_of (a_at k i) (a_at k j)) ≡ joined k i j
unfolding joined constant
joined_text k i j = joined_grouped (codes "u(") (a_text k i) (codes ", ") (a_text k j) (codes ")")

arranged_text : (k : ℕ) → body_text (arranged k) ≡ rearranged k
unfolding rearranged constant
arranged_text k =
    (λ i. given_text (equal (u_of (a_at k 0) (a_at k 1)) (alone (a_at k 2)) ∷ equal (u_of (a_at k 0) (a_at k 3)) (alone (a_at k 4)) ∷ []) ++ (joined_text k 2 3 i ++ (codes " = " ++ joined_text k 4 1 i)))
    ∙ (λ i. ((joined_text k 0 1 i ++ (codes " = " ++ a_text k 2)) ++ (codes " -> " ++ ((joined_text k 0 3 i ++ (codes " = " ++ a_text k 4)) ++ (codes " -> " ++ [])))) ++ (joined k 2 3 ++ (codes " = " ++ joined k 4 1)))
    ∙ arranged_grouped (joined k 0 1) (codes " = ") (a_text k 2) (codes " -> ") (joined k 0 3) (a_text k 4) (joined k 2 3) (joined k 4 1)

sums_text : (k : ℕ) → body_text (sums k (chain_length k)) ≡ steps_add_up k
unfolding steps_add_up real_constant
sums_text k =
    let m = chain_length k in
    let digit : tenths m ≡ decimal m ++ codes ".0" = ap (λ z. z ++ codes ".0") (sym (decimal_digit m (omega (arith, short k)))) in
    let nought : decimal 0 ≡ 48 ∷ [] = decimal_digit 0 (omega arith) in
    let part = λ (j : ℕ). real_constant j ++ codes " = " ++ real_constant (j + 1) ++ codes " + 1.0 -> " in
    let before = in_turn part m in
    ap (λ z. z ++ equation_text (equal (h_of (x_at 0)) (h_of (plus (120 ∷ decimal m) (19 + m) m)))) (given_in next_x part m (λ j. sum_grouped (x_text j) (codes " = ") (x_text (j + 1)) (codes " + 1.0") (codes " -> ")))
    ∙ ap (λ z. before ++ (104 ∷ 40 ∷ (((120 ∷ z) ++ codes ")") ++ (codes " = h(" ++ ((x_text m ++ (codes " + " ++ tenths m)) ++ codes ")"))))) nought
    ∙ ap (λ z. before ++ (codes "h(x0) = h(" ++ ((x_text m ++ (codes " + " ++ z)) ++ codes ")"))) digit
    ∙ sums_grouped before (codes "h(x0) = h(") (x_text m) (codes " + ") (decimal m) (codes ".0") (codes ")")

backwards_text : (k : ℕ) → body_text (backwards k) ≡ one_to_one k
unfolding one_to_one constant
backwards_text k = backwards_grouped (codes "f(") (a_text k 0) (codes ")") (codes " = f(") (a_text k 1) (codes " -> ") (codes " = ")

demo_body : (k : ℕ) → body_text (demo_goal k) ≡ formula k
unfolding formula
demo_body k =
    let z = cond (nat_eq (k % 4) 2) (sums k (chain_length k)) (backwards k) in
    let c = cond (nat_eq (k % 4) 2) (steps_add_up k) (one_to_one k) in
    either (nat_eq (k % 4) 0) (images k (chain_length k)) (cond (nat_eq (k % 4) 1) (arranged k) z) (equal_images k) (cond (nat_eq (k % 4) 1) (rearranged k) c) (images_text k)
    (either (nat_eq (k % 4) 1) (arranged k) z (rearranged k) c (arranged_text k)
    (either (nat_eq (k % 4) 2) (sums k (chain_length k)) (backwards k) (steps_add_up k) (one_to_one k) (sums_text k) (backwards_text k)))
  where
    either : (t : Bool) (x y : Goal) (a b : List ℕ) → body_text x ≡ a → body_text y ≡ b → body_text (cond t x y) ≡ cond t a b
    either true x y a b e f = e
    either false x y a b e f = f

named_goal : (k : ℕ) → (demo_goal k).name ≡ 103 ∷ decimal k
named_goal k = each_kind (λ g. g.name ≡ 103 ∷ decimal k) k refl refl refl refl

line_is : (k : ℕ) (f given then : List ℕ) → given ++ then ≡ f → codes "goal " ++ ((103 ∷ decimal k) ++ (codes " : " ++ (given ++ (then ++ codes "\n")))) ≡ codes "goal g" ++ decimal k ++ codes " : " ++ f ++ codes "\n"
line_is k f given then e = ap (λ z. codes "goal g" ++ (decimal k ++ (codes " : " ++ z))) (sym (append_assoc given then (codes "\n")) ∙ ap (λ z. z ++ codes "\n") e) ∙ simp append_assoc

pub demo_line : (k : ℕ) → goal_text (demo_goal k) ≡ goal_line k
unfolding goal_line
demo_line k =
    let g = demo_goal k in
    ap (λ n. codes "goal " ++ (n ++ (codes " : " ++ (given_text g.given ++ (equation_text g.then ++ codes "\n"))))) (named_goal k)
    ∙ line_is k (formula k) (given_text g.given) (equation_text g.then) (demo_body k)
