-- Multiples of names entered at their places.
use Rattle.std.specs.Prelude.{ℕ, zero, suc, ◌+◌, ◌-◌, ◌<◌, ◌≤◌, ◌≡◌, cond, List, [], ◌∷◌, ◌++◌, map, length, take, drop, slice_get, Some}
use Rattle.std.specs.List.{insert, remove}
use Rattle.std.proofs.Common.{refl, sym, ap, subst, ◌∙◌, arith, add-one}
use Rattle.std.proofs.lemmas.Bool.Decides.{nat_tests}
use Rattle.std.proofs.lemmas.List.{map-append, take-map, drop-map, take-append-drop, length-take-le}
use Rattle.std.proofs.Math.Seq.{take-append_seam, drop-append_seam}
use Rattle.ae_math.specs.Fractions.{ℚ, zero_ℚ, ◌+ℚ◌, ◌*ℚ◌}
use Rattle.ae_math.proofs.FormLaws.{is_zero_yes, is_zero_no}
use Rattle.ae_journal.specs.Values.{enter, put_part, settled, scaled, IsSettled}
use Rattle.ae_evaluation.proofs.Sums.{factor-settled, settles, one_sum}
use Rattle.ae_naturals.specs.Fractions.{value_of}
use Rattle.ae_constants.specs.declared.forms.Multiple.{Multiple}
use Rattle.ae_constants.specs.Forms.{multiple, multiples}

-- ---- lists
-- the rest at a place
pub rest_at : {X : Type 0} (xs : List X) (i : ℕ) (x : X) → slice_get xs i ≡ Some x → drop i xs ≡ x ∷ drop (suc i) xs
rest_at [] zero x e = cc e
rest_at [] (suc i) x e = cc e
rest_at (y ∷ ys) zero x e = let f : y ≡ x = cc e in λ j. f j ∷ ys
rest_at (y ∷ ys) (suc i) x e = rest_at ys i x e

front_at : {X : Type 0} (xs : List X) (i : ℕ) (x : X) → slice_get xs i ≡ Some x → take (suc i) xs ≡ take i xs ++ x ∷ []
front_at [] zero x e = cc e
front_at [] (suc i) x e = cc e
front_at (y ∷ ys) zero x e = let f : y ≡ x = cc e in λ j. f j ∷ []
front_at (y ∷ ys) (suc i) x e = λ j. y ∷ front_at ys i x e j

split_again : {X : Type 0} (xs ys zs : List X) (x : X) → (xs ++ x ∷ []) ++ ys ≡ xs ++ x ∷ ys
split_again [] ys zs x = refl
split_again (w ∷ xs) ys zs x = λ j. w ∷ split_again xs ys zs x j

pub got : (ms : List Multiple) (i : ℕ) (m : Multiple) → slice_get ms i ≡ Some m → slice_get (multiples ms) i ≡ Some (multiple m)
got [] zero m e = cc e
got [] (suc i) m e = cc e
got (n ∷ ms) zero m e = let f : n ≡ m = cc e in λ j. Some (multiple (f j))
got (n ∷ ms) (suc i) m e = got ms i m e

-- ---- the place of a name
pub enter_past : (k : ℕ) (x : ℚ) (ms : List Multiple) (i : ℕ) (m : Multiple) → slice_get ms i ≡ Some m → m.name < k
    → enter k x (multiples ms) ≡ take i (multiples ms) ++ enter k x (drop i (multiples ms))
    → enter k x (multiples ms) ≡ take (i + 1) (multiples ms) ++ enter k x (drop (i + 1) (multiples ms))
enter_past k x ms i m e h before =
    let ps = multiples ms in
    let at = got ms i m e in
    let later : enter k x (multiple m ∷ drop (suc i) ps) ≡ multiple m ∷ enter k x (drop (suc i) ps) = grind (arith, nat_tests) in
    let here : enter k x ps ≡ take (suc i) ps ++ enter k x (drop (suc i) ps) =
    before ∙ ap (λ qs. take i ps ++ enter k x qs) (rest_at ps i (multiple m) at) ∙ ap (λ qs. take i ps ++ qs) later
    ∙ sym (split_again (take i ps) (enter k x (drop (suc i) ps)) [] (multiple m)) ∙ ap (λ qs. qs ++ enter k x (drop (suc i) ps)) (sym (front_at ps i (multiple m) at)) in
    subst (λ n. enter k x ps ≡ take n ps ++ enter k x (drop n ps)) (sym (add-one i)) here

-- ---- at the place of a name: a part is put, or joined to that of the same name
pub put_nothing : (k : ℕ) (x : ℚ) (ps : List (ℕ × ℚ)) (i : ℕ) → x ≡ zero_ℚ → ps ≡ take i ps ++ put_part k x (drop i ps)
put_nothing k x ps i e = sym (ap (λ b. take i ps ++ cond b (drop i ps) ((k, x) ∷ drop i ps)) (is_zero_yes x e) ∙ take-append-drop i ps)

pub put_there : (new old : List Multiple) (i : ℕ) (m : Multiple) → new ≡ insert old i m → (value_of m.factor ≡ zero_ℚ → ⊥)
    → multiples new ≡ take i (multiples old) ++ put_part m.name (value_of m.factor) (drop i (multiples old))
put_there new old i m e n =
    let back : map multiple (take i old) ++ multiple m ∷ map multiple (drop i old) ≡ take i (multiples old) ++ multiple m ∷ drop i (multiples old) =
    (λ j. sym (take-map multiple i old) j ++ multiple m ∷ sym (drop-map multiple i old) j) in
    ap multiples e ∙ map-append multiple (take i old) (m ∷ drop i old) ∙ back
    ∙ ap (λ b. take i (multiples old) ++ cond b (drop i (multiples old)) (multiple m ∷ drop i (multiples old))) (sym (is_zero_no (value_of m.factor) n))

enter_new : (k : ℕ) (x : ℚ) (qs : List (ℕ × ℚ)) → ((q : ℕ × ℚ) (rest : List (ℕ × ℚ)) → qs ≡ q ∷ rest → k < q.0) → enter k x qs ≡ put_part k x qs
enter_new k x [] h = refl
enter_new k x (q ∷ rest) h = let above : k < q.0 = h q rest refl in grind (arith, nat_tests)

enter_same : (k : ℕ) (x : ℚ) (q : ℕ × ℚ) (qs : List (ℕ × ℚ)) → q.0 ≡ k → enter k x (q ∷ qs) ≡ put_part k (x +ℚ q.1) qs
enter_same k x q qs e = grind (arith, nat_tests)

-- what stands behind the place of a name, where the place is free
pub enter_free : (k : ℕ) (x : ℚ) (ms : List Multiple) (i : ℕ) → ((m : Multiple) → slice_get ms i ≡ Some m → k < m.name)
    → enter k x (drop i (multiples ms)) ≡ put_part k x (drop i (multiples ms))
enter_free k x ms i h = enter_new k x (drop i (multiples ms)) (at ms i h)
  where
    at : (ms : List Multiple) (i : ℕ) → ((m : Multiple) → slice_get ms i ≡ Some m → k < m.name) → (q : ℕ × ℚ) (rest : List (ℕ × ℚ)) → drop i (multiples ms) ≡ q ∷ rest → k < q.0
    at [] zero h q rest e = cc e
    at [] (suc i) h q rest e = cc e
    at (m ∷ ms) zero h q rest e = let f : multiple m ≡ q = cc e in subst (λ (p : ℕ × ℚ). k < p.0) f (h m refl)
    at (m ∷ ms) (suc i) h q rest e = at ms i h q rest e

-- the part of the same name is taken out, and the sum of the two put in its place
pub joined_there : (k : ℕ) (x y : ℚ) (ms rest : List Multiple) (i : ℕ) (m : Multiple) → slice_get ms i ≡ Some m → m.name ≡ k → i ≤ length (multiples ms) → rest ≡ remove ms i
    → y ≡ x +ℚ value_of m.factor
    → take i (multiples rest) ++ put_part k y (drop i (multiples rest)) ≡ take i (multiples ms) ++ enter k x (drop i (multiples ms))
joined_there k x y ms rest i m e n l r s =
    let ps = multiples ms in
    let front = take i ps in
    let back = drop (suc i) ps in
    let is : multiples rest ≡ front ++ back =
    ap multiples r ∙ map-append multiple (take i ms) (drop (suc i) ms) ∙ (λ j. sym (take-map multiple i ms) j ++ sym (drop-map multiple (suc i) ms) j) in
    let count : length front ≡ i = length-take-le i ps l in
    let first : take i (front ++ back) ≡ front = ap (λ c. take c (front ++ back)) (sym count) ∙ take-append_seam front back in
    let second : drop i (front ++ back) ≡ back = ap (λ c. drop c (front ++ back)) (sym count) ∙ drop-append_seam front back in
    let there : enter k x (drop i ps) ≡ put_part k (x +ℚ value_of m.factor) back = ap (enter k x) (rest_at ps i (multiple m) (got ms i m e)) ∙ enter_same k x (multiple m) back n in
    ap (λ qs. take i qs ++ put_part k y (drop i qs)) is ∙ (λ j. first j ++ put_part k (s j) (second j)) ∙ ap (λ qs. front ++ qs) (sym there)

-- ---- settled sums
pub settled_stays : (ps : List (ℕ × ℚ)) → IsSettled ps → settled ps ≡ ps
settled_stays ps s = one_sum (settled ps) ps (settles ps) s (factor-settled ps)

-- one more of the parts of a form, from the last on
pub settled_more : (x : ℚ) (ms : List Multiple) (qs : List (ℕ × ℚ)) (i : ℕ) (m : Multiple) (now before : List (ℕ × ℚ)) (y : ℚ) → slice_get ms i ≡ Some m
    → y ≡ x *ℚ value_of m.factor → before ≡ settled (drop (suc i) (scaled x (multiples ms)) ++ qs) → now ≡ enter m.name y before
    → now ≡ settled (drop i (scaled x (multiples ms)) ++ qs)
settled_more x ms qs i m now before y e f b n =
    n ∙ (λ j. enter m.name (f j) (b j)) ∙ ap (λ ps. settled (ps ++ qs)) (sym (rest_at (scaled x (multiples ms)) i (m.name, x *ℚ value_of m.factor) (scaled_at ms i e)))
  where
    scaled_at : (ms : List Multiple) (i : ℕ) → slice_get ms i ≡ Some m → slice_get (scaled x (multiples ms)) i ≡ Some (m.name, x *ℚ value_of m.factor)
    scaled_at [] zero e = cc e
    scaled_at [] (suc i) e = cc e
    scaled_at (n ∷ ms) zero e = let f : n ≡ m = cc e in λ j. Some ((f j).name, x *ℚ value_of (f j).factor)
    scaled_at (n ∷ ms) (suc i) e = scaled_at ms i e

pub none_left : (x : ℚ) (ms : List Multiple) → drop (length ms) (scaled x (multiples ms)) ≡ []
none_left x [] = refl
none_left x (m ∷ ms) = none_left x ms

-- the same, where the place has been counted down
pub settled_down : (x : ℚ) (ms : List Multiple) (qs : List (ℕ × ℚ)) (i : ℕ) (m : Multiple) (now before : List (ℕ × ℚ)) (y : ℚ) → 0 < i → slice_get ms (i - 1) ≡ Some m
    → y ≡ x *ℚ value_of m.factor → before ≡ settled (drop i (scaled x (multiples ms)) ++ qs) → now ≡ enter m.name y before
    → now ≡ settled (drop (i - 1) (scaled x (multiples ms)) ++ qs)
settled_down x ms qs i m now before y some e f b n =
    let up : suc (i - 1) ≡ i = omega arith in
    settled_more x ms qs (i - 1) m now before y e f (subst (λ k. before ≡ settled (drop k (scaled x (multiples ms)) ++ qs)) (sym up) b) n

pub no_multiples : (ms : List Multiple) → multiples ms ≡ [] → ms ≡ []
no_multiples [] e = refl
no_multiples (m ∷ ms) e = cc e
