-- Comments: where they end, and that they end in one place.
use Rattle.std.proofs.Common.{ℕ, zero, suc, ◌+◌, ◌-◌, ◌≤◌, ◌<◌, true, false, List, [], ◌∷◌, ◌++◌, ◌≡◌, length, drop, refl, sym, ap, ◌∙◌, subst, append_assoc, arith}
use Rattle.std.specs.Prelude.{MatchBool}
use Rattle.std.proofs.lemmas.List.{append-nil}
use Rattle.ae_lex.specs.Lexis.{Closes, is_opening, is_closing}
use Rattle.ae_lex.specs.Inner.Pieces.{IsPart}
use Rattle.ae_lex.proofs.Parts.{part_none, part_step, part_join, append_cancel}

-- the comment that is open at `from`, up to `at`, where so many are open
pub record InComment (text : List ℕ) (from at depth : ℕ) : Type 0 where
  pub w : List ℕ
  pub part : IsPart text from at w
  pub go_on : (v rest : List ℕ) → drop at text ≡ v ++ rest → Closes depth v → Closes 1 (w ++ v)
  pub back : (v rest : List ℕ) → drop from text ≡ v ++ rest → Closes 1 v → (u : List ℕ) × (v ≡ w ++ u) × Closes depth u
  pub few : depth ≤ at + 1

pub open_none : (text : List ℕ) (at : ℕ) → at ≤ length text → InComment text at at 1
open_none text at h = record { w = []; part = part_none text at h; go_on = λ v rest e c. c; back = λ v rest e c. (v, refl, c); few = omega arith }

-- what is left of the text after the part that is read
left_of : (text : List ℕ) (from at depth : ℕ) (i : InComment text from at depth) (u rest : List ℕ) → drop from text ≡ (i.w ++ u) ++ rest → drop at text ≡ u ++ rest
left_of text from at depth i u rest e = append_cancel i.w (drop at text) (u ++ rest) (sym i.part.cut ∙ e ∙ append_assoc i.w u rest)

-- some bytes more
advance : (text m : List ℕ) (from at to depth deep : ℕ) → InComment text from at depth → IsPart text at to m → deep ≤ to + 1
    → ((v rest : List ℕ) → drop to text ≡ v ++ rest → Closes deep v → Closes depth (m ++ v))
    → ((v rest : List ℕ) → drop at text ≡ v ++ rest → Closes depth v → (u : List ℕ) × (v ≡ m ++ u) × Closes deep u)
    → InComment text from to deep
advance text m from at to depth deep i p few ahead behind = record {
  w = i.w ++ m;
  part = part_join text i.w m from at to i.part p;
  go_on = λ v rest e c. subst (λ z. Closes 1 z) (sym (append_assoc i.w m v)) (i.go_on (m ++ v) rest (p.cut ∙ ap (λ x. m ++ x) e ∙ sym (append_assoc m v rest)) (ahead v rest e c));
  back = λ v rest e c.
      let b = i.back v rest e c in
      let l : drop at text ≡ b.0 ++ rest = left_of text from at depth i b.0 rest (e ∙ ap (λ z. z ++ rest) b.1) in
      let d = behind b.0 rest l b.2 in
      (d.0, b.1 ∙ ap (λ x. i.w ++ x) d.1 ∙ sym (append_assoc i.w m d.0), d.2);
  few = few;
}

-- ---- one pair of bytes
pub opened : (d b c : ℕ) (w : List ℕ) → is_opening b c ≡ true → ◌≡◌ {A = Type 0} (Closes (suc d) (b ∷ c ∷ w)) (Closes (suc (suc d)) w)
opened d b c w e = ap (λ z. MatchBool z (Closes (suc (suc d)) w) (MatchBool (is_closing b c) (Closes d w) (Closes (suc d) (c ∷ w)))) e

pub closed : (d b c : ℕ) (w : List ℕ) → is_opening b c ≡ false → is_closing b c ≡ true → ◌≡◌ {A = Type 0} (Closes (suc d) (b ∷ c ∷ w)) (Closes d w)
closed d b c w e h = ap (λ z. MatchBool z (Closes (suc (suc d)) w) (MatchBool (is_closing b c) (Closes d w) (Closes (suc d) (c ∷ w)))) e ∙ ap (λ z. MatchBool z (Closes d w) (Closes (suc d) (c ∷ w))) h

pub passed : (d b c : ℕ) (w : List ℕ) → is_opening b c ≡ false → is_closing b c ≡ false → ◌≡◌ {A = Type 0} (Closes (suc d) (b ∷ c ∷ w)) (Closes (suc d) (c ∷ w))
passed d b c w e h = ap (λ z. MatchBool z (Closes (suc (suc d)) w) (MatchBool (is_closing b c) (Closes d w) (Closes (suc d) (c ∷ w)))) e ∙ ap (λ z. MatchBool z (Closes d w) (Closes (suc d) (c ∷ w))) h

-- Bytes that close something, where these two stand first, are these two and the others.
pair_first : (d b c : ℕ) (v rest x : List ℕ) → b ∷ c ∷ x ≡ v ++ rest → Closes (suc d) v → (u : List ℕ) × (v ≡ b ∷ c ∷ u)
pair_first d b c [] rest x e h = absurd h
pair_first d b c (p ∷ []) rest x e h = absurd h
pair_first d b c (p ∷ q ∷ u) rest x e h =
    let f : b ≡ p = cc in
    let s : c ≡ q = cc in
    (u, λ i. (sym f) i ∷ (sym s) i ∷ u)

byte_first : (d c : ℕ) (v rest x : List ℕ) → c ∷ x ≡ v ++ rest → Closes (suc d) v → (u : List ℕ) × (v ≡ c ∷ u)
byte_first d c [] rest x e h = absurd h
byte_first d c (p ∷ u) rest x e h = let f : c ≡ p = cc in (u, λ i. (sym f) i ∷ u)

pair_part : (text x : List ℕ) (at b c : ℕ) → at + 1 < length text → drop at text ≡ b ∷ drop (at + 1) text → drop (at + 1) text ≡ c ∷ drop (at + 1 + 1) text → IsPart text at (at + 2) (b ∷ c ∷ [])
pair_part text x at b c l e f = let g : at + 1 + 1 ≡ at + 2 = omega arith in record {
  cut = e ∙ ap (λ z. b ∷ z) f ∙ ap (λ n. b ∷ c ∷ drop n text) g;
  far = omega arith;
  within = omega arith;
}

pub to_along : {A B : Type 0} → ◌≡◌ {A = Type 0} A B → A → B
to_along e a = subst (λ (X : Type 0). X) e a

pub opens_more : (text : List ℕ) (from at d b c : ℕ) → InComment text from at d → 0 < d → at + 1 < length text → drop at text ≡ b ∷ drop (at + 1) text → drop (at + 1) text ≡ c ∷ drop (at + 1 + 1) text → is_opening b c ≡ true → InComment text from (at + 2) (d + 1)
opens_more text from at zero b c i p l e f o = absurd (omega arith)
opens_more text from at (suc d) b c i p l e f o =
    let n : suc (suc d) ≡ suc d + 1 = omega arith in
    let few : suc d ≤ at + 1 = i.few in
    let part = pair_part text [] at b c l e f in
    subst (λ z. InComment text from (at + 2) z) n (advance text (b ∷ c ∷ []) from at (at + 2) (suc d) (suc (suc d)) i part (omega arith)
    (λ v rest q h. to_along (sym (opened d b c v o)) h)
    (λ v rest q h.
    let s = pair_first d b c v rest (drop (at + 2) text) (sym part.cut ∙ q) h in
    (s.0, s.1, to_along (opened d b c s.0 o) (subst (λ z. Closes (suc d) z) s.1 h))))

pub closes_one : (text : List ℕ) (from at d b c : ℕ) → InComment text from at d → 0 < d → at + 1 < length text → drop at text ≡ b ∷ drop (at + 1) text → drop (at + 1) text ≡ c ∷ drop (at + 1 + 1) text → is_opening b c ≡ false → is_closing b c ≡ true → InComment text from (at + 2) (d - 1)
closes_one text from at zero b c i p l e f o k = absurd (omega arith)
closes_one text from at (suc d) b c i p l e f o k =
    let n : d ≡ suc d - 1 = omega arith in
    let few : suc d ≤ at + 1 = i.few in
    let part = pair_part text [] at b c l e f in
    subst (λ z. InComment text from (at + 2) z) n (advance text (b ∷ c ∷ []) from at (at + 2) (suc d) d i part (omega arith)
    (λ v rest q h. to_along (sym (closed d b c v o k)) h)
    (λ v rest q h.
    let s = pair_first d b c v rest (drop (at + 2) text) (sym part.cut ∙ q) h in
    (s.0, s.1, to_along (closed d b c s.0 o k) (subst (λ z. Closes (suc d) z) s.1 h))))

pub passes_one : (text : List ℕ) (from at d b c : ℕ) → InComment text from at d → 0 < d → at + 1 < length text → drop at text ≡ b ∷ drop (at + 1) text → drop (at + 1) text ≡ c ∷ drop (at + 1 + 1) text → is_opening b c ≡ false → is_closing b c ≡ false → InComment text from (at + 1) d
passes_one text from at zero b c i p l e f o k = absurd (omega arith)
passes_one text from at (suc d) b c i p l e f o k =
    let few : suc d ≤ at + 1 = i.few in
    let less : at < length text = omega arith in
    let part = part_step text [] at at b (part_none text at (omega arith)) less e in
    advance text (b ∷ []) from at (at + 1) (suc d) (suc d) i part (omega arith)
    (λ v rest q h.
    let s = byte_first d c v rest (drop (at + 1 + 1) text) (sym f ∙ q) h in
    let w : Closes (suc d) (c ∷ s.0) = subst (λ z. Closes (suc d) z) s.1 h in
    let r : Closes (suc d) (b ∷ c ∷ s.0) = to_along (sym (passed d b c s.0 o k)) w in
    subst (λ z. Closes (suc d) (b ∷ z)) (sym s.1) r)
    (λ v rest q h.
    let s = pair_first d b c v rest (drop (at + 1 + 1) text) (sym (e ∙ ap (λ z. b ∷ z) f) ∙ q) h in
    (c ∷ s.0, s.1, to_along (passed d b c s.0 o k) (subst (λ z. Closes (suc d) z) s.1 h)))

-- the end of the comment
pub ended_here : (text : List ℕ) (from at d : ℕ) → InComment text from at d → d ≡ 0 → (w : List ℕ) × IsPart text from at w × Closes 1 w
ended_here text from at d i e =
    let none : Closes d [] = subst (λ z. Closes z []) (sym e) tt in
    (i.w ++ [], subst (λ z. IsPart text from at z) (sym (append-nil i.w)) i.part, i.go_on [] (drop at text) refl none)

few_close : (d : ℕ) (u rest : List ℕ) → Closes (suc d) u → 2 ≤ length (u ++ rest)
few_close d [] rest h = absurd h
few_close d (b ∷ []) rest h = absurd h
few_close d (b ∷ c ∷ u) rest h = omega arith

-- the text ends inside the comment
pub never_ends : (text : List ℕ) (from at d : ℕ) → InComment text from at d → 0 < d → length (drop at text) ≤ 1 → (w rest : List ℕ) → drop from text ≡ w ++ rest → ¬ Closes 1 w
never_ends text from at zero i p l w rest e h = absurd (omega arith)
never_ends text from at (suc d) i p l w rest e h =
    let b = i.back w rest e h in
    let f : drop at text ≡ b.0 ++ rest = left_of text from at (suc d) i b.0 rest (e ∙ ap (λ z. z ++ rest) b.1) in
    let m : 2 ≤ length (b.0 ++ rest) = few_close d b.0 rest b.2 in
    let g : length (drop at text) ≡ length (b.0 ++ rest) = ap length f in
    omega arith
