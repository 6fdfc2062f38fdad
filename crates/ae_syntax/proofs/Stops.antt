-- Where the machine stops, no file goes on; and what a verdict says of the reading.
use Rattle.std.proofs.Common.{ℕ, zero, suc, ◌+◌, ◌-◌, ◌≤◌, ◌<◌, Bool, true, false, cond, List, [], ◌∷◌, ◌≡◌, length, refl, sym, ap, subst, arith, nat_le}
use Rattle.std.proofs.Common.{take as front}
use Rattle.std.proofs.lemmas.Bool.{leb-true, leb-false}
use Rattle.ae_lex.specs.declared.kinds.Token.{Token}
use Rattle.ae_syntax.specs.declared.decls.Decl.{Decl}
use Rattle.ae_syntax.specs.Parts.{Part, decls}
use Rattle.ae_syntax.specs.Grammar.{Is, file}
use Rattle.ae_syntax.specs.Depth.{depths}
use Rattle.ae_syntax.specs.Inner.Machine.{Want, a_file, Act, skip, take, opens, refuse, Outcome, read, stops, mark, Fed, fed, unfed, ended, idle, finish, feed, onward, run, all, wrong, deep, limited}
use Rattle.ae_syntax.proofs.GrammarToMachine.{marks}
use Rattle.ae_syntax.proofs.Files.{file_read}
use Rattle.ae_syntax.specs.declared.cursor.TheConstants.{DEPTH_LIMIT}

-- the outcome ends in a stop, or in parts
abbrev Stopped : Outcome → Type 0
Stopped (read v) = ⊥
Stopped (stops n) = Unit {0}
Stopped (mark d o) = Stopped o

-- the outcome stops after so many marks
abbrev StopsAfter : ℕ → Outcome → Type 0
StopsAfter k (read v) = ⊥
StopsAfter zero (stops n) = Unit {0}
StopsAfter (suc k) (stops n) = ⊥
StopsAfter zero (mark d o) = ⊥
StopsAfter (suc k) (mark d o) = StopsAfter k o

stopped : (k : ℕ) (o : Outcome) → StopsAfter k o → Stopped o
stopped k (read v) h = absurd h
stopped k (stops n) h = tt
stopped zero (mark d o) h = absurd h
stopped (suc k) (mark d o) h = stopped k o h

marks_stop : (ds : List ℕ) (n : ℕ) → StopsAfter (length ds) (marks ds (stops n))
marks_stop [] n = tt
marks_stop (d ∷ ds) n = marks_stop ds n

marks_read : (ds : List ℕ) (v : List Part) → Stopped (marks ds (read v)) → ⊥
marks_read [] v h = h
marks_read (d ∷ ds) v h = marks_read ds v h

-- where the tokens end, nothing more is marked
quiet_end : (a : Act) (next : List Part → Outcome) (k : ℕ) → ((u : List Part) → StopsAfter (suc k) (next u) → ⊥) → StopsAfter (suc k) (ended a next) → ⊥
quiet_end (skip u) next k f h = f u h
quiet_end (take d new u) next k f h = h
quiet_end (opens d new u) next k f h = h
quiet_end refuse next k f h = h

quiet : (s : List Want) (v : List Part) (k : ℕ) → StopsAfter (suc k) (finish s v) → ⊥
unfolding finish
quiet [] v k h = h
quiet (s ∷ ss) v k h = quiet_end (idle s v) (λ u. finish ss u) k (λ u. quiet ss u k) h

-- the same first tokens, and one more, stop too
stop_step : (k : ℕ) (ts us : List Token) (f : Fed) → ((s : List Want) (v : List Part) (k : ℕ) → front (suc k) us ≡ front (suc k) ts → StopsAfter k (run ts s v) → StopsAfter k (run us s v)) → front k us ≡ front k ts → StopsAfter k (onward f (λ s v. run ts s v) (suc (length ts))) → StopsAfter k (onward f (λ s v. run us s v) (suc (length us)))
stop_step zero ts us (fed d s v) ih e h = absurd h
stop_step zero ts us unfed ih e h = tt
stop_step (suc k) ts us (fed d s v) ih e h = ih s v k e h
stop_step (suc k) ts us unfed ih e h = absurd h

pub same_stop : (ts us : List Token) (s : List Want) (v : List Part) (k : ℕ) → front (suc k) us ≡ front (suc k) ts → StopsAfter k (run ts s v) → StopsAfter k (run us s v)
unfolding run
same_stop [] [] s v k e h = h
same_stop [] (u ∷ us) s v k e h = absurd (let l : suc (length (front k us)) ≡ 0 = ap length e in omega arith)
same_stop (t ∷ ts) [] s v k e h = absurd (let l : 0 ≡ suc (length (front k ts)) = ap length e in omega arith)
same_stop (t ∷ ts) (u ∷ us) s v k e h =
    let same_token : u ≡ t = cc in
    let tails : front k us ≡ front k ts = cc in
    subst (λ z. StopsAfter k (onward (feed s v z) (λ s v. run us s v) (suc (length us)))) (sym same_token)
    (stop_step k ts us (feed s v t) (λ s v k e h. same_stop ts us s v k e h) tails h)

-- no file begins with the tokens up to the one at which the machine stops, and with it
pub no_file : (w : List Token) (ds : List ℕ) (n : ℕ) → run w (a_file ∷ []) (decls [] ∷ []) ≡ marks ds (stops n) → (others : List Token) (es : List Decl) → front (suc (length ds)) others ≡ front (suc (length ds)) w → Is file others (decls es) → ⊥
no_file w ds n e others es same h =
    let after : StopsAfter (length ds) (run w (a_file ∷ []) (decls [] ∷ [])) = subst (StopsAfter (length ds)) (sym e) (marks_stop ds n) in
    let there = same_stop w others (a_file ∷ []) (decls [] ∷ []) (length ds) same after in
    marks_read (depths h 0) (decls es ∷ []) (subst Stopped (file_read h) (stopped (length ds) _ there))

-- ---- how many tokens are left where it stops
abbrev pub Count : ℕ → Outcome → Type 0
Count len (read v) = Unit {0}
Count len (stops n) = n ≡ len
Count len (mark d o) = (m : ℕ) × (len ≡ suc m) × Count m o

count_end : (a : Act) (next : List Part → Outcome) → ((u : List Part) → Count 0 (next u)) → Count 0 (ended a next)
count_end (skip u) next f = f u
count_end (take d new u) next f = refl
count_end (opens d new u) next f = refl
count_end refuse next f = refl

count_finish : (s : List Want) (v : List Part) → Count 0 (finish s v)
unfolding finish
count_finish [] v = tt
count_finish (s ∷ ss) v = count_end (idle s v) (λ u. finish ss u) (λ u. count_finish ss u)

count_step : (ts : List Token) (f : Fed) → ((s : List Want) (v : List Part) → Count (length ts) (run ts s v)) → Count (suc (length ts)) (onward f (λ s v. run ts s v) (suc (length ts)))
count_step ts (fed d s v) ih = (length ts, refl, ih s v)
count_step ts unfed ih = refl

pub counts : (w : List Token) (s : List Want) (v : List Part) → Count (length w) (run w s v)
unfolding run
counts [] s v = count_finish s v
counts (t ∷ ts) s v = count_step ts (feed s v t) (λ s v. counts ts s v)

count_marks : (ds : List ℕ) (n len : ℕ) → Count len (marks ds (stops n)) → n + length ds ≡ len
count_marks [] n len h = omega arith
count_marks (d ∷ ds) n len h = let e = count_marks ds n h.0 h.2 in let l = h.1 in omega arith

pub left_over : (w : List Token) (s : List Want) (v : List Part) (ds : List ℕ) (n : ℕ) → run w s v ≡ marks ds (stops n) → n + length ds ≡ length w
left_over w s v ds n e = count_marks ds n (length w) (subst (Count (length w)) e (counts w s v))

-- ---- what a verdict says of the outcome
abbrev pub Shallow : List ℕ → Type 0
Shallow [] = Unit {0}
Shallow (d ∷ ds) = (d ≤ DEPTH_LIMIT) × Shallow ds

pub record Wrongly (o : Outcome) (n : ℕ) : Type 0 where
  pub taken : List ℕ
  pub is : o ≡ marks taken (stops n)
  pub shallow : Shallow taken

pub record Wholly (o : Outcome) (v : List Part) : Type 0 where
  pub taken : List ℕ
  pub is : o ≡ marks taken (read v)
  pub shallow : Shallow taken

pub record Deeply (o : Outcome) (left n : ℕ) : Type 0 where
  pub taken : List ℕ
  pub depth : ℕ
  pub rest : Outcome
  pub is : o ≡ marks taken (mark depth rest)
  pub shallow : Shallow taken
  pub beyond : DEPTH_LIMIT < depth
  pub left_there : n + length taken ≡ left

wrong_same : (m n : ℕ) → wrong m ≡ wrong n → m ≡ n
wrong_same m n e = cc

all_same : (u v : List Part) → all u ≡ all v → u ≡ v
all_same u v e = cc

wrong_step : (d left n : ℕ) (o : Outcome) (b : Bool) → nat_le d DEPTH_LIMIT ≡ b → (limited (left - 1) o ≡ wrong n → Wrongly o n) → cond b (limited (left - 1) o) (deep left) ≡ wrong n → Wrongly (mark d o) n
wrong_step d left n o true h ih e = let w = ih e in record { taken = d ∷ w.taken; is = ap (mark d) w.is; shallow = (leb-true d DEPTH_LIMIT h, w.shallow) }
wrong_step d left n o false h ih e = cc

pub judged_wrong : (left n : ℕ) (o : Outcome) → limited left o ≡ wrong n → Wrongly o n
judged_wrong left n (read v) e = cc
judged_wrong left n (stops m) e = record { taken = []; is = ap stops (wrong_same m n e); shallow = tt }
judged_wrong left n (mark d o) e = wrong_step d left n o (nat_le d DEPTH_LIMIT) refl (judged_wrong (left - 1) n o) e

all_step : (d left : ℕ) (v : List Part) (o : Outcome) (b : Bool) → nat_le d DEPTH_LIMIT ≡ b → (limited (left - 1) o ≡ all v → Wholly o v) → cond b (limited (left - 1) o) (deep left) ≡ all v → Wholly (mark d o) v
all_step d left v o true h ih e = let w = ih e in record { taken = d ∷ w.taken; is = ap (mark d) w.is; shallow = (leb-true d DEPTH_LIMIT h, w.shallow) }
all_step d left v o false h ih e = cc

pub judged_all : (left : ℕ) (v : List Part) (o : Outcome) → limited left o ≡ all v → Wholly o v
judged_all left v (read u) e = record { taken = []; is = ap read (all_same u v e); shallow = tt }
judged_all left v (stops m) e = cc
judged_all left v (mark d o) e = all_step d left v o (nat_le d DEPTH_LIMIT) refl (judged_all (left - 1) v o) e

deep_same : (m n : ℕ) → deep m ≡ deep n → m ≡ n
deep_same m n e = cc

one_less : (left m : ℕ) → left ≡ suc m → left - 1 ≡ m
one_less left m l = omega arith

deep_below : (left m n : ℕ) (o : Outcome) → left ≡ suc m → limited (left - 1) o ≡ deep n → limited m o ≡ deep n
deep_below left m n o l e = subst (λ z. limited z o ≡ deep n) (one_less left m l) e

deep_step : (d left m n : ℕ) (o : Outcome) (b : Bool) → nat_le d DEPTH_LIMIT ≡ b → left ≡ suc m → (limited m o ≡ deep n → Deeply o m n) → cond b (limited (left - 1) o) (deep left) ≡ deep n → Deeply (mark d o) left n
deep_step d left m n o true h l ih e =
    let w = ih (deep_below left m n o l e) in
    record { taken = d ∷ w.taken; depth = w.depth; rest = w.rest; is = ap (mark d) w.is; shallow = (leb-true d DEPTH_LIMIT h, w.shallow); beyond = w.beyond; left_there = let c = w.left_there in omega (arith, c, l) }
deep_step d left m n o false h l ih e = record { taken = []; depth = d; rest = o; is = refl; shallow = tt; beyond = leb-false d DEPTH_LIMIT h; left_there = let s = deep_same left n e in omega (arith, s) }

pub judged_deep : (left n : ℕ) (o : Outcome) → Count left o → limited left o ≡ deep n → Deeply o left n
judged_deep left n (read v) c e = cc
judged_deep left n (stops m) c e = cc
judged_deep left n (mark d o) c e = deep_step d left c.0 n o (nat_le d DEPTH_LIMIT) refl c.1 (judged_deep c.0 n o c.2) e
