-- What the verdict on all tokens says of them, and back.
use Rattle.std.proofs.Common.{ℕ, zero, suc, ◌+◌, ◌-◌, ◌≤◌, ◌<◌, cond, List, [], ◌∷◌, ◌++◌, ◌≡◌, length, refl, sym, ap, ◌∙◌, subst, arith, append_assoc, append-nil}
use Rattle.std.proofs.Common.{take as front, drop, ◌⊎◌, inl, inr}
use Rattle.std.specs.Prelude.{slice_index_or}
use Rattle.std.proofs.lemmas.Bool.{le-leb, lt-leb, cases_order}
use Rattle.std.proofs.lemmas.List.{length-append, take-append-drop}
use Rattle.ae_lex.specs.declared.kinds.Token.{Token}
use Rattle.ae_syntax.specs.declared.decls.Decl.{Decl}
use Rattle.ae_syntax.specs.declared.decls.File.{File}
use Rattle.ae_syntax.specs.Parts.{Part, decls}
use Rattle.ae_syntax.specs.Grammar.{Is, file}
use Rattle.ae_syntax.specs.Depth.{depths}
use Rattle.ae_syntax.specs.Inner.Machine.{a_file, Outcome, read, stops, mark, run, Verdict, all, wrong, deep, limited, judge}
use Rattle.ae_syntax.specs.Files.{AreShallow, IsParsed, BeginsFile, IsImpossible, IsStuck, IsTooDeep}
use Rattle.ae_syntax.proofs.GrammarToMachine.{marks}
use Rattle.ae_syntax.proofs.Files.{file_read, parts_of, parts_marks, log_of, log_marks, same_decls, same_log}
use Rattle.ae_syntax.proofs.Stops.{Shallow, Count, counts, left_over, no_file, judged_wrong, judged_all, judged_deep}
use Rattle.ae_syntax.proofs.Pieces.{Some_of}
use Rattle.ae_syntax.proofs.Continuation.{read_file, stopped_file, taken_file}
use Rattle.ae_syntax.specs.declared.cursor.TheConstants.{DEPTH_LIMIT}

-- ---- lists
front_length : {A : Type 0} (u v : List A) → front (length u) (u ++ v) ≡ u
front_length [] v = refl
front_length (t ∷ u) v = ap (λ z. t ∷ z) (front_length u v)

front_next : {A : Type 0} (u : List A) (t : A) (v : List A) → front (suc (length u)) (u ++ t ∷ v) ≡ u ++ t ∷ []
front_next [] t v = refl
front_next (a ∷ u) t v = ap (λ z. a ∷ z) (front_next u t v)

front_both : {A : Type 0} (k : ℕ) (u x y : List A) → k ≤ length u → front k (u ++ x) ≡ front k (u ++ y)
front_both zero u x y l = refl
front_both (suc k) [] x y l = absurd (omega arith)
front_both (suc k) (t ∷ u) x y l = ap (λ z. t ∷ z) (front_both k u x y (omega arith))

front_front : {A : Type 0} (m k : ℕ) (w x : List A) → m ≤ k → k ≤ length w → front m (front k w ++ x) ≡ front m w
front_front zero k w x l h = refl
front_front (suc m) zero w x l h = absurd (omega arith)
front_front (suc m) (suc k) [] x l h = absurd (omega arith)
front_front (suc m) (suc k) (t ∷ w) x l h = ap (λ z. t ∷ z) (front_front m k w x (omega arith) (omega arith))

-- the rest, where one more gives nothing more
front_all : (u y : List Token) → front (suc (length u)) y ≡ u → y ≡ u
front_all [] [] e = refl
front_all [] (t ∷ y) e = absurd (let l : suc (length (front zero y)) ≡ 0 = ap length e in omega arith)
front_all (a ∷ u) [] e = absurd (let l : 0 ≡ suc (length u) = ap length e in omega arith)
front_all (a ∷ u) (t ∷ y) e =
    let tails : front (suc (length u)) y ≡ u = cc in
    let same : t ≡ a = cc in
    ap (λ z. z ∷ y) same ∙ ap (λ z. a ∷ z) (front_all u y tails)

-- the last of the first elements
picked : (ds a : List ℕ) (d : ℕ) → front (suc (length a)) ds ≡ a ++ d ∷ [] → slice_index_or ds (length a) 0 ≡ d
picked [] [] d e = absurd (let l : 0 ≡ suc 0 = ap length e in omega arith)
picked (x ∷ ds) [] d e = cc
picked [] (c ∷ a) d e = absurd (let l : 0 ≡ suc (length (a ++ d ∷ [])) = ap length e in omega arith)
picked (x ∷ ds) (c ∷ a) d e = picked ds a d (let tails : front (suc (length a)) ds ≡ a ++ d ∷ [] = cc in tails)

record Peeled (n : ℕ) (ds : List ℕ) (d : ℕ) : Type 0 where
  pub next : front (suc n) ds ≡ front n ds ++ d ∷ []
  pub long : length (front n ds) ≡ n

peeled : (n : ℕ) (ds : List ℕ) → DEPTH_LIMIT < slice_index_or ds n 0 → Peeled n ds (slice_index_or ds n 0)
peeled zero [] l = absurd (omega arith)
peeled (suc n) [] l = absurd (omega arith)
peeled zero (d ∷ ds) l = record { next = refl; long = refl }
peeled (suc n) (d ∷ ds) l = let p = peeled n ds l in record { next = ap (λ z. d ∷ z) p.next; long = ap suc p.long }

-- ---- depths within the limit
all_shallow : (ds : List ℕ) → Shallow ds → AreShallow ds
all_shallow [] h k d l = absurd (omega arith)
all_shallow (x ∷ ds) h zero d l = h.0
all_shallow (x ∷ ds) h (suc k) d l = all_shallow ds h.1 k d (omega arith)

shallow_all : (ds : List ℕ) → AreShallow ds → Shallow ds
shallow_all [] h = tt
shallow_all (x ∷ ds) h = (h zero 0 (omega arith), shallow_all ds (λ k d l. h (suc k) d (omega arith)))

shallow_front : (k n : ℕ) (ds : List ℕ) → k ≤ n → Shallow (front n ds) → Shallow (front k ds)
shallow_front zero n ds l h = tt
shallow_front (suc k) zero ds l h = absurd (omega arith)
shallow_front (suc k) (suc n) [] l h = tt
shallow_front (suc k) (suc n) (d ∷ ds) l h = (h.0, shallow_front k n ds (omega arith) h.1)

shallow_last : (a : List ℕ) (d : ℕ) → Shallow (a ++ d ∷ []) → d ≤ DEPTH_LIMIT
shallow_last [] d h = h.0
shallow_last (c ∷ a) d h = shallow_last a d h.1

-- ---- what is taken is the depth of each token
log_all : (a : List ℕ) (o : Outcome) → log_of (marks a o) ≡ a ++ log_of o
unfolding log_of
log_all [] o = refl
log_all (d ∷ a) o = ap (λ z. d ∷ z) (log_all a o)

depths_log : {y : List Token} {es : List Decl} (f : Is file y (decls es)) → log_of (run y (a_file ∷ []) (decls [] ∷ [])) ≡ depths f 0
depths_log {y} {es} f = ap log_of (file_read f) ∙ log_marks (depths f 0) (decls es ∷ [])

depths_there : (n : ℕ) (w y : List Token) (a : List ℕ) (o : Outcome) (es : List Decl) (f : Is file y (decls es)) → run w (a_file ∷ []) (decls [] ∷ []) ≡ marks a o → length a ≡ n → front n w ≡ front n y → front n (depths f 0) ≡ a
depths_there n w y a o es f e l q =
    ap (front n) (sym (depths_log f))
    ∙ sym (same_log n w y (a_file ∷ []) (decls [] ∷ []) q)
    ∙ ap (front n) (ap log_of e ∙ log_all a o)
    ∙ ap (λ m. front m (a ++ log_of o)) (sym l)
    ∙ front_length a (log_of o)

marks_next : (a : List ℕ) (d : ℕ) (o : Outcome) → marks a (mark d o) ≡ marks (a ++ d ∷ []) o
marks_next [] d o = refl
marks_next (c ∷ a) d o = ap (mark c) (marks_next a d o)

-- ---- from the verdict
parsed_by : (ts : List Token) (ds es : List Decl) (h : Is file ts (decls ds)) → ds ≡ es → AreShallow (depths h 0) → IsParsed ts (record { decls = es })
parsed_by ts ds es h e s = subst (λ z. IsParsed ts (record { decls = z })) e (record { is = h; shallow = s })

pub file_parsed : (ts : List Token) (ds : List Decl) → judge ts (a_file ∷ []) (decls [] ∷ []) ≡ all (decls ds ∷ []) → IsParsed ts (record { decls = ds })
file_parsed ts ds e =
    let w = judged_all (length ts) (decls ds ∷ []) (run ts (a_file ∷ []) (decls [] ∷ [])) e in
    let f = read_file ts (decls [] ∷ []) (decls ds ∷ []) w.taken w.is in
    let both : marks (depths f.is 0) (read (decls f.value ∷ [])) ≡ marks w.taken (read (decls ds ∷ [])) = sym (file_read f.is) ∙ w.is in
    parsed_by ts f.value ds f.is
    (same_decls f.value ds (sym (parts_marks (depths f.is 0) (decls f.value ∷ [])) ∙ ap parts_of both ∙ parts_marks w.taken (decls ds ∷ [])))
    (subst AreShallow (sym (log_marks w.taken (decls ds ∷ [])) ∙ ap log_of (sym both) ∙ log_marks (depths f.is 0) (decls f.value ∷ [])) (all_shallow w.taken w.shallow))

impossible_by : (before after : List Token) → ((others : List Token) (es : List Decl) → front (suc (length before)) others ≡ front (suc (length before)) (before ++ after) → Is file others (decls es) → ⊥) → IsImpossible before after
impossible_by before [] f = λ ds h. f before ds (ap (front (suc (length before))) (sym (append-nil before))) h
impossible_by before (t ∷ after) f = λ more ds h. f (before ++ t ∷ more) ds (front_next before t more ∙ sym (front_next before t after)) h

pub file_stuck : (before after : List Token) → judge (before ++ after) (a_file ∷ []) (decls [] ∷ []) ≡ wrong (length after) → IsStuck before after
file_stuck before after e =
    let w = judged_wrong (length (before ++ after)) (length after) (run (before ++ after) (a_file ∷ []) (decls [] ∷ [])) e in
    let long : length w.taken ≡ length before = let l = left_over (before ++ after) (a_file ∷ []) (decls [] ∷ []) w.taken (length after) w.is in let m = length-append before after in omega (arith, l, m) in
    let r = stopped_file (before ++ after) (decls [] ∷ []) w.taken (length after) w.is in
    let cut : front (length w.taken) (before ++ after) ≡ before = ap (λ n. front n (before ++ after)) long ∙ front_length before after in
    let f = subst (λ z. Some_of file (z ++ r.0)) cut r.1 in
    record {
      begins = record {
        more = r.0;
        declared = f.value;
        is = f.is;
        shallow = subst AreShallow (sym (depths_there (length before) (before ++ after) (before ++ r.0) w.taken (stops (length after)) f.value f.is w.is long (front_length before after ∙ sym (front_length before r.0)))) (all_shallow w.taken w.shallow);
      };
      impossible = impossible_by before after (λ others es q h. no_file (before ++ after) w.taken (length after) w.is others es (ap (λ n. front (suc n) others) long ∙ q ∙ ap (λ n. front (suc n) (before ++ after)) (sym long)) h);
    }

pub file_deep : (before after : List Token) (t : Token) → judge (before ++ t ∷ after) (a_file ∷ []) (decls [] ∷ []) ≡ deep (suc (length after)) → IsTooDeep before t
file_deep before after t e =
    let w = judged_deep (length (before ++ t ∷ after)) (suc (length after)) (run (before ++ t ∷ after) (a_file ∷ []) (decls [] ∷ [])) (counts (before ++ t ∷ after) (a_file ∷ []) (decls [] ∷ [])) e in
    let long : length w.taken ≡ length before = let l = w.left_there in let m = length-append before (t ∷ after) in omega (arith, l, m) in
    let r = taken_file (before ++ t ∷ after) (decls [] ∷ []) w.taken w.depth w.rest w.is in
    let cut : front (suc (length w.taken)) (before ++ t ∷ after) ++ r.0 ≡ before ++ t ∷ r.0 = ap (λ n. front (suc n) (before ++ t ∷ after) ++ r.0) long ∙ ap (λ z. z ++ r.0) (front_next before t after) ∙ append_assoc before (t ∷ []) r.0 in
    let f = subst (Some_of file) cut r.1 in
    let first = depths_there (length before) (before ++ t ∷ after) (before ++ t ∷ r.0) w.taken (mark w.depth w.rest) f.value f.is w.is long (front_length before (t ∷ after) ∙ sym (front_length before (t ∷ r.0))) in
    let next = depths_there (suc (length before)) (before ++ t ∷ after) (before ++ t ∷ r.0) (w.taken ++ w.depth ∷ []) w.rest f.value f.is (w.is ∙ marks_next w.taken w.depth w.rest) (length-append w.taken (w.depth ∷ []) ∙ (let l : length w.taken + suc 0 ≡ suc (length before) = omega (arith, long) in l)) (front_next before t after ∙ sym (front_next before t r.0)) in
    let there : slice_index_or (depths f.is 0) (length before) 0 ≡ w.depth = ap (λ n. slice_index_or (depths f.is 0) n 0) (sym long) ∙ picked (depths f.is 0) w.taken w.depth (ap (λ n. front (suc n) (depths f.is 0)) long ∙ next) in
    record {
      more = r.0;
      declared = f.value;
      is = f.is;
      shallow = subst AreShallow (sym first) (all_shallow w.taken w.shallow);
      deep = subst (λ d. DEPTH_LIMIT < d) (sym there) w.beyond;
    }

-- ---- to the verdict
limited_read : (ds : List ℕ) (left : ℕ) (v : List Part) → Shallow ds → limited left (marks ds (read v)) ≡ all v
limited_read [] left v h = refl
limited_read (d ∷ ds) left v h = ap (λ b. cond b (limited (left - 1) (marks ds (read v))) (deep left)) (le-leb d DEPTH_LIMIT h.0) ∙ limited_read ds (left - 1) v h.1

pub parsed_judge : (ts : List Token) (f : File) → IsParsed ts f → judge ts (a_file ∷ []) (decls [] ∷ []) ≡ all (decls f.decls ∷ [])
parsed_judge ts f p = ap (limited (length ts)) (file_read p.is) ∙ limited_read (depths p.is 0) (length ts) (decls f.decls ∷ []) (shallow_all (depths p.is 0) p.shallow)

limited_deep : (a : List ℕ) (left d : ℕ) (o : Outcome) → front (suc (length a)) (log_of o) ≡ a ++ d ∷ [] → Shallow a → DEPTH_LIMIT < d → limited left o ≡ deep (left - length a)
unfolding log_of
limited_deep a left d (read v) e h l = absurd (let z : 0 ≡ length (a ++ d ∷ []) = ap length e in let y = length-append a (d ∷ []) in omega (arith, y, z))
limited_deep a left d (stops n) e h l = absurd (let z : 0 ≡ length (a ++ d ∷ []) = ap length e in let y = length-append a (d ∷ []) in omega (arith, y, z))
limited_deep [] left d (mark c o) e h l =
    let same : c ≡ d = cc in
    let deeper : DEPTH_LIMIT < c = subst (λ z. DEPTH_LIMIT < z) (sym same) l in
    ap (λ b. cond b (limited (left - 1) o) (deep left)) (lt-leb c DEPTH_LIMIT deeper) ∙ ap deep (let z : left ≡ left - 0 = omega arith in z)
limited_deep (x ∷ a) left d (mark c o) e h l =
    let same : c ≡ x = cc in
    let tails : front (suc (length a)) (log_of o) ≡ a ++ d ∷ [] = cc in
    ap (λ b. cond b (limited (left - 1) o) (deep left)) (le-leb c DEPTH_LIMIT (subst (λ z. z ≤ DEPTH_LIMIT) (sym same) h.0))
    ∙ limited_deep a (left - 1) d o tails h.1 l
    ∙ ap deep (let z : left - 1 - length a ≡ left - suc (length a) = omega arith in z)

pub deep_judge : (before after : List Token) (t : Token) → IsTooDeep before t → judge (before ++ t ∷ after) (a_file ∷ []) (decls [] ∷ []) ≡ deep (suc (length after))
deep_judge before after t p =
    let q = peeled (length before) (depths p.is 0) p.deep in
    let a = front (length before) (depths p.is 0) in
    let d = slice_index_or (depths p.is 0) (length before) 0 in
    let logs : front (suc (length a)) (log_of (run (before ++ t ∷ after) (a_file ∷ []) (decls [] ∷ []))) ≡ a ++ d ∷ [] =
    ap (λ n. front (suc n) (log_of (run (before ++ t ∷ after) (a_file ∷ []) (decls [] ∷ [])))) q.long
    ∙ same_log (suc (length before)) (before ++ t ∷ after) (before ++ t ∷ p.more) (a_file ∷ []) (decls [] ∷ []) (front_next before t after ∙ sym (front_next before t p.more))
    ∙ ap (front (suc (length before))) (depths_log p.is)
    ∙ q.next in
    limited_deep a (length (before ++ t ∷ after)) d (run (before ++ t ∷ after) (a_file ∷ []) (decls [] ∷ [])) logs (shallow_all a p.shallow) p.deep
    ∙ ap deep (let m = length-append before (t ∷ after) in let l = q.long in let z : length (before ++ t ∷ after) - length a ≡ suc (length after) = omega (arith, m, l) in z)

-- no file begins with what is impossible
blocked : (before after : List Token) → IsImpossible before after → (y : List Token) (es : List Decl) → front (suc (length before)) y ≡ front (suc (length before)) (before ++ after) → Is file y (decls es) → ⊥
blocked before [] i y es q h =
    let here : front (suc (length before)) y ≡ before = q ∙ ap (front (suc (length before))) (append-nil before) ∙ front_whole before in
    i es (subst (λ z. Is file z (decls es)) (front_all before y here) h)
  where
    front_whole : (u : List Token) → front (suc (length u)) u ≡ u
    front_whole [] = refl
    front_whole (t ∷ u) = ap (λ z. t ∷ z) (front_whole u)
blocked before (t ∷ after) i y es q h =
    let here : front (suc (length before)) y ≡ before ++ t ∷ [] = q ∙ front_next before t after in
    let rest = drop (suc (length before)) y in
    let whole : y ≡ before ++ t ∷ rest = sym (take-append-drop (suc (length before)) y) ∙ ap (λ z. z ++ rest) here ∙ append_assoc before (t ∷ []) rest in
    i rest es (subst (λ z. Is file z (decls es)) whole h)

count_taken : (a : List ℕ) (d : ℕ) (o : Outcome) (len : ℕ) → Count len (marks a (mark d o)) → length a < len
count_taken [] d o len c = let l = c.1 in omega (arith, l)
count_taken (x ∷ a) d o len c = let l = c.1 in let r = count_taken a d o c.0 c.2 in omega (arith, l, r)

-- ---- the verdict on tokens that are stuck
-- a stop before the place, and a token taken after it
too_early : (before after : List Token) → BeginsFile before → (a : List ℕ) (n : ℕ) → run (before ++ after) (a_file ∷ []) (decls [] ∷ []) ≡ marks a (stops n) → length a < length before → ⊥
too_early before after b a n e l = no_file (before ++ after) a n e (before ++ b.more) b.declared (front_both (suc (length a)) before b.more after (omega (arith, l))) b.is

too_late : (before after : List Token) → IsImpossible before after → (k : ℕ) (x : List Token) → Some_of file (front k (before ++ after) ++ x) → length before < k → k ≤ length (before ++ after) → ⊥
too_late before after i k x f l h = blocked before after i (front k (before ++ after) ++ x) f.value (front_front (suc (length before)) k (before ++ after) x (omega (arith, l)) h) f.is

too_deep : (before after : List Token) → BeginsFile before → (a : List ℕ) (d : ℕ) (o : Outcome) → run (before ++ after) (a_file ∷ []) (decls [] ∷ []) ≡ marks a (mark d o) → DEPTH_LIMIT < d → length a < length before → ⊥
too_deep before after b a d o e h l =
    let q = depths_there (suc (length a)) (before ++ after) (before ++ b.more) (a ++ d ∷ []) o b.declared b.is (e ∙ marks_next a d o) (length-append a (d ∷ []) ∙ (let z : length a + suc 0 ≡ suc (length a) = omega arith in z)) (front_both (suc (length a)) before after b.more (omega (arith, l))) in
    let s = shallow_front (suc (length a)) (length before) (depths b.is 0) (omega (arith, l)) (shallow_all (front (length before) (depths b.is 0)) b.shallow) in
    let small = shallow_last a d (subst Shallow q s) in
    omega (arith, h, small)

wrong_by : (before after : List Token) → IsStuck before after → (m : ℕ) (a : List ℕ) → run (before ++ after) (a_file ∷ []) (decls [] ∷ []) ≡ marks a (stops m) → (length a ≡ length before) ⊎ ((length a < length before) ⊎ (length before < length a)) → m ≡ length after
wrong_by before after s m a e (inl q) = let l = left_over (before ++ after) (a_file ∷ []) (decls [] ∷ []) a m e in let n = length-append before after in omega (arith, l, n, q)
wrong_by before after s m a e (inr (inl l)) = absurd (too_early before after s.begins a m e l)
wrong_by before after s m a e (inr (inr l)) =
    let r = stopped_file (before ++ after) (decls [] ∷ []) a m e in
    let n = left_over (before ++ after) (a_file ∷ []) (decls [] ∷ []) a m e in
    absurd (too_late before after s.impossible (length a) r.0 r.1 l (omega (arith, n)))

deep_by : (before after : List Token) → IsStuck before after → (a : List ℕ) (d : ℕ) (o : Outcome) → run (before ++ after) (a_file ∷ []) (decls [] ∷ []) ≡ marks a (mark d o) → DEPTH_LIMIT < d → (length a ≡ length before) ⊎ ((length a < length before) ⊎ (length before < length a)) → ⊥
deep_by before after s a d o e h (inr (inl l)) = too_deep before after s.begins a d o e h l
deep_by before after s a d o e h (inl q) =
    let r = taken_file (before ++ after) (decls [] ∷ []) a d o e in
    let n = count_taken a d o (length (before ++ after)) (subst (Count (length (before ++ after))) e (counts (before ++ after) (a_file ∷ []) (decls [] ∷ []))) in
    too_late before after s.impossible (suc (length a)) r.0 r.1 (omega (arith, q)) (omega (arith, n))
deep_by before after s a d o e h (inr (inr l)) =
    let r = taken_file (before ++ after) (decls [] ∷ []) a d o e in
    let n = count_taken a d o (length (before ++ after)) (subst (Count (length (before ++ after))) e (counts (before ++ after) (a_file ∷ []) (decls [] ∷ []))) in
    too_late before after s.impossible (suc (length a)) r.0 r.1 (omega (arith, l)) (omega (arith, n))

stuck_by : (before after : List Token) → IsStuck before after → (v : Verdict) → judge (before ++ after) (a_file ∷ []) (decls [] ∷ []) ≡ v → v ≡ wrong (length after)
stuck_by before after s (all u) e =
    let w = judged_all (length (before ++ after)) u (run (before ++ after) (a_file ∷ []) (decls [] ∷ [])) e in
    let f = read_file (before ++ after) (decls [] ∷ []) u w.taken w.is in
    absurd (blocked before after s.impossible (before ++ after) f.value refl f.is)
stuck_by before after s (wrong m) e =
    let w = judged_wrong (length (before ++ after)) m (run (before ++ after) (a_file ∷ []) (decls [] ∷ [])) e in
    ap wrong (wrong_by before after s m w.taken w.is (cases_order (length w.taken) (length before)))
stuck_by before after s (deep m) e =
    let w = judged_deep (length (before ++ after)) m (run (before ++ after) (a_file ∷ []) (decls [] ∷ [])) (counts (before ++ after) (a_file ∷ []) (decls [] ∷ [])) e in
    absurd (deep_by before after s w.taken w.depth w.rest w.is w.beyond (cases_order (length w.taken) (length before)))

pub stuck_judge : (before after : List Token) → IsStuck before after → judge (before ++ after) (a_file ∷ []) (decls [] ∷ []) ≡ wrong (length after)
stuck_judge before after s = stuck_by before after s (judge (before ++ after) (a_file ∷ []) (decls [] ∷ [])) refl
