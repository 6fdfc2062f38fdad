-- Parts of a text, and runs of bytes.
use Rattle.std.proofs.Common.{ℕ, ◌+◌, ◌-◌, ◌*◌, ◌≤◌, ◌<◌, Bool, true, false, List, [], ◌∷◌, ◌++◌, ◌≡◌, length, drop, refl, sym, ap, ◌∙◌, subst, append_assoc, length-append, arith}
use Rattle.std.specs.Prelude.{IsTrue}
use Rattle.std.specs.List.{list_all}
use Rattle.std.proofs.lemmas.Bool.{and_parts, and_from}
use Rattle.ae_lex.specs.Lexis.{value}
use Rattle.ae_lex.specs.Inner.Pieces.{IsPart, StopsAt}

-- ---- tests of all bytes
pub all-append : (p : ℕ → Bool) (u w : List ℕ) → list_all p u ≡ true → list_all p w ≡ true → list_all p (u ++ w) ≡ true
all-append p [] w e h = h
all-append p (b ∷ u) w e h = let t = and_parts (p b) (list_all p u) e in and_from (p b) (list_all p (u ++ w)) t.0 (all-append p u w t.1 h)

pub all_front : (p : ℕ → Bool) (u w : List ℕ) → list_all p (u ++ w) ≡ true → list_all p u ≡ true
all_front p [] w e = refl
all_front p (b ∷ u) w e = let t = and_parts (p b) (list_all p (u ++ w)) e in and_from (p b) (list_all p u) t.0 (all_front p u w t.1)

pub all_back : (p : ℕ → Bool) (u w : List ℕ) → list_all p (u ++ w) ≡ true → list_all p w ≡ true
all_back p [] w e = e
all_back p (b ∷ u) w e = let t = and_parts (p b) (list_all p (u ++ w)) e in all_back p u w t.1

pub all_one : (p : ℕ → Bool) (b : ℕ) → p b ≡ true → list_all p (b ∷ []) ≡ true
all_one p b e = and_from (p b) true e refl

pub value-append : (v : ℕ) (u w : List ℕ) → value v (u ++ w) ≡ value (value v u) w
value-append v [] w = refl
value-append v (b ∷ u) w = value-append (v * 10 + (b - 48)) u w

-- ---- parts
pub part_none : (text : List ℕ) (at : ℕ) → at ≤ length text → IsPart text at at []
part_none text at h = record { cut = refl; far = omega arith; within = h }

pub part_step : (text w : List ℕ) (from at b : ℕ) → IsPart text from at w → at < length text → drop at text ≡ b ∷ drop (at + 1) text → IsPart text from (at + 1) (w ++ b ∷ [])
part_step text w from at b p l e = record {
  cut = p.cut ∙ ap (λ x. w ++ x) e ∙ sym (append_assoc w (b ∷ []) (drop (at + 1) text));
  far = let f = p.far in simp (length-append) (omega arith);
  within = omega arith;
}

pub part_join : (text u w : List ℕ) (from mid to : ℕ) → IsPart text from mid u → IsPart text mid to w → IsPart text from to (u ++ w)
part_join text u w from mid to p q = record {
  cut = p.cut ∙ ap (λ x. u ++ x) q.cut ∙ sym (append_assoc u w (drop to text));
  far = let f = p.far in let g = q.far in simp (length-append) (omega arith);
  within = q.within;
}

-- ---- runs
pub record InRun (p : ℕ → Bool) (text : List ℕ) (from at : ℕ) : Type 0 where
  pub w : List ℕ
  pub part : IsPart text from at w
  pub all : IsTrue (list_all p w)

abbrev pub run_none : (p : ℕ → Bool) (text : List ℕ) (at : ℕ) → at ≤ length text → InRun p text at at
run_none p text at h = record { w = []; part = part_none text at h; all = refl }

abbrev pub run_step : (p : ℕ → Bool) (text : List ℕ) (from at b : ℕ) → InRun p text from at → at < length text → drop at text ≡ b ∷ drop (at + 1) text → p b ≡ true → InRun p text from (at + 1)
run_step p text from at b r l e h = record { w = r.w ++ b ∷ []; part = part_step text r.w from at b r.part l e; all = all-append p r.w (b ∷ []) r.all (all_one p b h) }

pub stops_at : (p : ℕ → Bool) (x y : List ℕ) (b : ℕ) → x ≡ b ∷ y → p b ≡ false → StopsAt p x
stops_at p x y b e h = subst (λ z. StopsAt p z) (sym e) h

pub stops_none : (p : ℕ → Bool) (x : List ℕ) → x ≡ [] → StopsAt p x
stops_none p x e = subst (λ z. StopsAt p z) (sym e) tt

-- ---- lists
pub append_cancel : (u x y : List ℕ) → u ++ x ≡ u ++ y → x ≡ y
append_cancel [] x y e = e
append_cancel (b ∷ u) x y e = append_cancel u x y (let t : u ++ x ≡ u ++ y = cc in t)
