-- From one place to another: what is wanted there, and what is wanted then, whatever else is.
use Rattle.std.proofs.Common.{ℕ, suc, ◌+◌, ◌-◌, ◌≤◌, ◌<◌, true, cond, List, [], ◌∷◌, ◌++◌, ◌≡◌, Result, Ok, Err, length, drop, length-drop, refl, sym, ap, ◌∙◌, subst, append_assoc, arith}
use Rattle.std.proofs.lemmas.Bool.{le-leb, lt-leb}
use Rattle.ae_lex.specs.declared.kinds.Token.{Token}
use Rattle.ae_lex.specs.declared.kinds.TokenKind.{TokenKind}
use Rattle.ae_syntax.specs.declared.faults.Refusal.{Refusal}
use Rattle.ae_syntax.specs.declared.faults.Refusal.TheVariants.{Wrong, Deep, Memory}
use Rattle.ae_syntax.specs.Inner.SameKinds.{same}
use Rattle.ae_syntax.specs.Parts.{Part, token}
use Rattle.ae_syntax.specs.Inner.Machine.{Want, keep, pass, make, Rule, apply, Act, skip, take, opens, refuse, act, idle, unchained, Outcome, mark, after, feed, ended, finish, onward, run, Verdict, wrong, deep, limited, judge}
use Rattle.ae_syntax.specs.Inner.Reading.{Done, Answered, IsAt, Lacks, grip}
use Rattle.ae_syntax.specs.declared.cursor.TheConstants.{DEPTH_LIMIT}

-- ---- one step
-- what follows an act
unfoldable pub went : Act → List Want → Token → List Token → Verdict
unfolding feed run
went a ss t ts = limited (suc (length ts)) (onward (after a (λ u. feed ss u t) ss) (λ s v. run ts s v) (suc (length ts)))

pub judge_is : (t : Token) (ts : List Token) (s : Want) (ss : List Want) (v : List Part) → judge (t ∷ ts) (s ∷ ss) v ≡ went (act s v t t.kind) ss t ts
unfolding run feed went
judge_is t ts s ss v = refl

one_less : (n : ℕ) (o : Outcome) → limited (suc n - 1) o ≡ limited n o
one_less n o = let e : suc n - 1 ≡ n = omega arith in ap (λ n. limited n o) e

-- a mark that is within the limit, and one that is not
marked : (d n : ℕ) (o : Outcome) → d ≤ DEPTH_LIMIT → limited (suc n) (mark d o) ≡ limited n o
marked d n o l = ap (λ b. cond b (limited (suc n - 1) o) (deep (suc n))) (le-leb d DEPTH_LIMIT l) ∙ one_less n o

marked_deep : (d n : ℕ) (o : Outcome) → DEPTH_LIMIT < d → limited (suc n) (mark d o) ≡ deep (suc n)
marked_deep d n o l = ap (λ b. cond b (limited (suc n - 1) o) (deep (suc n))) (lt-leb d DEPTH_LIMIT l)

pub went_take : (d : ℕ) (new : List Want) (u : List Part) (ss : List Want) (t : Token) (ts : List Token) → d ≤ DEPTH_LIMIT → went (take d new u) ss t ts ≡ judge ts (new ++ ss) u
unfolding went run feed
went_take d new u ss t ts l = marked d (length ts) (run ts (new ++ ss) u) l

pub went_deep : (d : ℕ) (new : List Want) (u : List Part) (ss : List Want) (t : Token) (ts : List Token) → DEPTH_LIMIT < d → went (take d new u) ss t ts ≡ deep (suc (length ts))
unfolding went run feed
went_deep d new u ss t ts l = marked_deep d (length ts) (run ts (new ++ ss) u) l

pub went_opens : (d : ℕ) (new : List Want) (u : List Part) (ss : List Want) (t : Token) (ts : List Token) → d ≤ DEPTH_LIMIT → went (opens d new u) ss t ts ≡ judge ts (new ++ unchained ss) u
unfolding went run feed
went_opens d new u ss t ts l = marked d (length ts) (run ts (new ++ unchained ss) u) l

pub went_opens_deep : (d : ℕ) (new : List Want) (u : List Part) (ss : List Want) (t : Token) (ts : List Token) → DEPTH_LIMIT < d → went (opens d new u) ss t ts ≡ deep (suc (length ts))
unfolding went run feed
went_opens_deep d new u ss t ts l = marked_deep d (length ts) (run ts (new ++ unchained ss) u) l

pub went_skip : (u : List Part) (ss : List Want) (t : Token) (ts : List Token) → went (skip u) ss t ts ≡ judge (t ∷ ts) ss u
unfolding went run feed
went_skip u ss t ts = refl

pub went_refuse : (ss : List Want) (t : Token) (ts : List Token) → went refuse ss t ts ≡ wrong (suc (length ts))
unfolding went run feed
went_refuse ss t ts = refl

-- ---- a step at a place
pub judge_act : (t : Token) (ts : List Token) (s : Want) (ss : List Want) (v : List Part) (a : Act) → act s v t t.kind ≡ a → judge (t ∷ ts) (s ∷ ss) v ≡ went a ss t ts
judge_act t ts s ss v a e = judge_is t ts s ss v ∙ ap (λ a. went a ss t ts) e

pub judge_at : (T : List Token) (at : ℕ) (t : Token) (s : Want) (ss : List Want) (v : List Part) (a : Act) → IsAt T at t → act s v t t.kind ≡ a → judge (drop at T) (s ∷ ss) v ≡ went a ss t (drop (at + 1) T)
judge_at T at t s ss v a i e = ap (λ w. judge w (s ∷ ss) v) i.next ∙ judge_act t (drop (at + 1) T) s ss v a e

pub left_at : (T : List Token) (at : ℕ) (t : Token) → IsAt T at t → suc (length (drop (at + 1) T)) ≡ length T - at
left_at T at t i = sym (ap length i.next) ∙ length-drop at T

pub judge_make : (r : Rule) (rest : List Token) (ss : List Want) (v : List Part) → judge rest (make r ∷ ss) v ≡ judge rest ss (apply r v)
unfolding run finish feed
judge_make r [] ss v = refl
judge_make r (t ∷ ts) ss v = refl

-- the top refuses what stands at a place
pub record Refuses (s : Want) (v : List Part) (T : List Token) (at : ℕ) : Type 0 where
  pub here : (t : Token) (ts : List Token) → drop at T ≡ t ∷ ts → act s v t t.kind ≡ refuse
  pub end : idle s v ≡ refuse

go_refused : (T : List Token) (at : ℕ) (s : Want) (ss : List Want) (v : List Part) (rest : List Token) → drop at T ≡ rest → ((t : Token) (ts : List Token) → rest ≡ t ∷ ts → act s v t t.kind ≡ refuse) → idle s v ≡ refuse → judge (drop at T) (s ∷ ss) v ≡ wrong (length T - at)
unfolding run finish
go_refused T at s ss v [] e h z = ap (λ w. judge w (s ∷ ss) v) e ∙ ap (λ a. limited 0 (ended a (λ u. finish ss u))) z ∙ ap wrong (sym (ap length e) ∙ length-drop at T)
go_refused T at s ss v (t ∷ ts) e h z = ap (λ w. judge w (s ∷ ss) v) e ∙ judge_act t ts s ss v refuse (h t ts refl) ∙ went_refuse ss t ts ∙ ap wrong (sym (ap length e) ∙ length-drop at T)

pub refused : (T : List Token) (at : ℕ) (s : Want) (ss : List Want) (v : List Part) → Refuses s v T at → judge (drop at T) (s ∷ ss) v ≡ wrong (length T - at)
refused T at s ss v r = go_refused T at s ss v (drop at T) refl r.here r.end

-- the top goes at what stands at a place
pub record Skips (s : Want) (v u : List Part) (T : List Token) (at : ℕ) : Type 0 where
  pub here : (t : Token) (ts : List Token) → drop at T ≡ t ∷ ts → act s v t t.kind ≡ skip u
  pub end : idle s v ≡ skip u

go_skipped : (T : List Token) (at : ℕ) (s : Want) (ss : List Want) (v u : List Part) (rest : List Token) → drop at T ≡ rest → ((t : Token) (ts : List Token) → rest ≡ t ∷ ts → act s v t t.kind ≡ skip u) → idle s v ≡ skip u → judge rest (s ∷ ss) v ≡ judge rest ss u
unfolding run finish
go_skipped T at s ss v u [] e h z = ap (λ a. limited 0 (ended a (λ u. finish ss u))) z
go_skipped T at s ss v u (t ∷ ts) e h z = judge_act t ts s ss v (skip u) (h t ts refl) ∙ went_skip u ss t ts

pub skipped : (T : List Token) (at : ℕ) (s : Want) (ss : List Want) (v u : List Part) → Skips s v u T at → judge (drop at T) (s ∷ ss) v ≡ judge (drop at T) ss u
skipped T at s ss v u r = go_skipped T at s ss v u (drop at T) refl r.here r.end

-- ---- from one place to another
pub record Reaches (T : List Token) (W : List Want) (G : List Part) (at : ℕ) (W' : List Want) (G' : List Part) (at' : ℕ) : Type 0 where
  pub runs : (ss : List Want) (v : List Part) → judge (drop at T) (W ++ ss) (G ++ v) ≡ judge (drop at' T) (W' ++ ss) (G' ++ v)
  pub further : at ≤ at'
  pub within : at' ≤ length T

pub start : (T : List Token) (W : List Want) (G : List Part) (at : ℕ) → at ≤ length T → Reaches T W G at W G at
start T W G at w = record { runs = λ ss v. refl; further = omega arith; within = w }

pub then_takes : {T : List Token} {W : List Want} {G : List Part} {at : ℕ} {s : Want} {W' : List Want} {G' : List Part} {at' : ℕ} (d : ℕ) (new : List Want) (u : List Part) (t : Token) → Reaches T W G at (s ∷ W') G' at' → IsAt T at' t → d ≤ DEPTH_LIMIT → ((v : List Part) → act s (G' ++ v) t t.kind ≡ take d new (u ++ v)) → Reaches T W G at (new ++ W') u (at' + 1)
then_takes {T} {W} {G} {at} {s} {W'} {G'} {at'} d new u t r i l a = record {
  runs = λ ss v. r.runs ss v ∙ judge_at T at' t s (W' ++ ss) (G' ++ v) (take d new (u ++ v)) i (a v) ∙ went_take d new (u ++ v) (W' ++ ss) t (drop (at' + 1) T) l ∙ ap (λ z. judge (drop (at' + 1) T) z (u ++ v)) (sym (append_assoc new W' ss));
  further = let f = r.further in omega (arith, f);
  within = let w = i.within in omega (arith, w);
}

pub then_makes : {T : List Token} {W : List Want} {G : List Part} {at : ℕ} {r : Rule} {W' : List Want} {G' : List Part} {at' : ℕ} (u : List Part) → Reaches T W G at (make r ∷ W') G' at' → ((v : List Part) → apply r (G' ++ v) ≡ u ++ v) → Reaches T W G at W' u at'
then_makes {T} {W} {G} {at} {r} {W'} {G'} {at'} u p a = record {
  runs = λ ss v. p.runs ss v ∙ judge_make r (drop at' T) (W' ++ ss) (G' ++ v) ∙ ap (λ z. judge (drop at' T) (W' ++ ss) z) (a v);
  further = p.further;
  within = p.within;
}

pub then_skips : {T : List Token} {W : List Want} {G : List Part} {at : ℕ} {s : Want} {W' : List Want} {G' : List Part} {at' : ℕ} (u : List Part) → Reaches T W G at (s ∷ W') G' at' → ((v : List Part) → Skips s (G' ++ v) (u ++ v) T at') → Reaches T W G at W' u at'
then_skips {T} {W} {G} {at} {s} {W'} {G'} {at'} u p k = record {
  runs = λ ss v. p.runs ss v ∙ skipped T at' s (W' ++ ss) (G' ++ v) (u ++ v) (k v);
  further = p.further;
  within = p.within;
}

grouped : (w : List Token) (X W ss : List Want) (Y G v : List Part) → judge w ((X ++ W) ++ ss) ((Y ++ G) ++ v) ≡ judge w (X ++ (W ++ ss)) (Y ++ (G ++ v))
grouped w X W ss Y G v = ap (λ z. judge w z ((Y ++ G) ++ v)) (append_assoc X W ss) ∙ ap (λ z. judge w (X ++ (W ++ ss)) z) (append_assoc Y G v)

pub then_reads : {T : List Token} {W : List Want} {G : List Part} {at at' to bound : ℕ} {p : Part} (X W' : List Want) (Y G' : List Part) → Reaches T W G at (X ++ W') (Y ++ G') at' → Done X Y T bound at' to p → Reaches T W G at W' (p ∷ G') to
then_reads {T} {W} {G} {at} {at'} {to} {bound} {p} X W' Y G' r d = record {
  runs = λ ss v. r.runs ss v ∙ grouped (drop at' T) X W' ss Y G' v ∙ d.runs (W' ++ ss) (G' ++ v);
  further = let f = r.further in let g = d.further in omega (arith, f, g);
  within = d.within;
}

-- one after the other
pub joined : {T : List Token} {W W' W'' : List Want} {G G' G'' : List Part} {at at' at'' : ℕ} → Reaches T W G at W' G' at' → Reaches T W' G' at' W'' G'' at'' → Reaches T W G at W'' G'' at''
joined r q = record { runs = λ ss v. r.runs ss v ∙ q.runs ss v; further = let f = r.further in let g = q.further in omega (arith, f, g); within = q.within }

-- where places are the same number
pub moved : {T : List Token} {W : List Want} {G : List Part} {at : ℕ} {W' : List Want} {G' : List Part} {at' : ℕ} (to : ℕ) → at' ≡ to → Reaches T W G at W' G' at' → Reaches T W G at W' G' to
moved {T} {W} {G} {at} {W'} {G'} {at'} to e r = subst (λ n. Reaches T W G at W' G' n) e r

-- ---- answers
pub done : {T : List Token} {W : List Want} {G : List Part} {at to bound : ℕ} {p : Part} → Reaches T W G at [] (p ∷ []) to → grip (drop to T) < bound → Done W G T bound at to p
done r w = record { runs = λ ss v. r.runs ss v; further = r.further; within = r.within; weak = w }

pub relay : {A : Type 0} (part : A → Part) {T : List Token} {W : List Want} {G : List Part} {at : ℕ} {W' : List Want} {G' : List Part} {at' : ℕ} (bound : ℕ) (r : Result (A × ℕ) Refusal) → Reaches T W G at W' G' at' → Answered part W' G' T bound at' r → Answered part W G T bound at r
relay part bound (Ok p) q d = record { runs = λ ss v. q.runs ss v ∙ d.runs ss v; further = let f = q.further in let g = d.further in omega (arith, f, g); within = d.within; weak = d.weak }
relay part bound (Err (Wrong k)) q d = record { runs = λ ss v. q.runs ss v ∙ d.runs ss v; within = d.within }
relay part bound (Err (Deep k)) q d = record { runs = λ ss v. q.runs ss v ∙ d.runs ss v; within = d.within }
relay part bound (Err Memory) q d = tt

pub weaker : {A : Type 0} (part : A → Part) (T : List Token) (W : List Want) (G : List Part) (at : ℕ) (low high : ℕ) (r : Result (A × ℕ) Refusal) → low ≤ high → Answered part W G T low at r → Answered part W G T high at r
weaker part T W G at low high (Ok p) l d = record { runs = d.runs; further = d.further; within = d.within; weak = let w = d.weak in omega (arith, w, l) }
weaker part T W G at low high (Err (Wrong k)) l d = record { runs = d.runs; within = d.within }
weaker part T W G at low high (Err (Deep k)) l d = record { runs = d.runs; within = d.within }
weaker part T W G at low high (Err Memory) l d = tt

-- a refusal of what is wanted first
pub fails_on : {A B : Type 0} (part : A → Part) (inner : B → Part) {T : List Token} {W : List Want} {G : List Part} {at at' : ℕ} (bound bound' : ℕ) (X W' : List Want) (Y G' : List Part) (e : Refusal) → Reaches T W G at (X ++ W') (Y ++ G') at' → Answered inner X Y T bound' at' (Err e) → Answered part W G T bound at (Err e)
fails_on part inner {T} {W} {G} {at} {at'} bound bound' X W' Y G' (Wrong k) r d = record { runs = λ ss v. r.runs ss v ∙ grouped (drop at' T) X W' ss Y G' v ∙ d.runs (W' ++ ss) (G' ++ v); within = d.within }
fails_on part inner {T} {W} {G} {at} {at'} bound bound' X W' Y G' (Deep k) r d = record { runs = λ ss v. r.runs ss v ∙ grouped (drop at' T) X W' ss Y G' v ∙ d.runs (W' ++ ss) (G' ++ v); within = d.within }
fails_on part inner bound bound' X W' Y G' Memory r d = tt

pub refusing : {A : Type 0} (part : A → Part) {T : List Token} {W : List Want} {G : List Part} {at : ℕ} {s : Want} {W' : List Want} {G' : List Part} {at' : ℕ} (bound : ℕ) (e : Refusal) → Reaches T W G at (s ∷ W') G' at' → ((v : List Part) → Refuses s (G' ++ v) T at') → e ≡ Wrong at' → Answered part W G T bound at (Err e)
refusing part {T} {W} {G} {at} {s} {W'} {G'} {at'} bound e r f h = subst (λ e. Answered part W G T bound at (Err e)) (sym h) (record { runs = λ ss v. r.runs ss v ∙ refused T at' s (W' ++ ss) (G' ++ v) (f v); within = r.within })

pub no_keep : (k : TokenKind) (d : ℕ) (v : List Part) (T : List Token) (at : ℕ) → Lacks k T at → Refuses (keep k d) v T at
no_keep k d v T at l = record { here = λ t ts q. ap (λ b. cond b (take d [] (token t ∷ v)) refuse) (l.none t ts q); end = refl }

pub no_pass : (k : TokenKind) (d : ℕ) (v : List Part) (T : List Token) (at : ℕ) → Lacks k T at → Refuses (pass k d) v T at
no_pass k d v T at l = record { here = λ t ts q. ap (λ b. cond b (take d [] v) refuse) (l.none t ts q); end = refl }

pub lacks_keep : {A : Type 0} (part : A → Part) {T : List Token} {W : List Want} {G : List Part} {at : ℕ} {k : TokenKind} {d : ℕ} {W' : List Want} {G' : List Part} {at' : ℕ} (bound : ℕ) (e : Refusal) → Reaches T W G at (keep k d ∷ W') G' at' → Lacks k T at' → e ≡ Wrong at' → Answered part W G T bound at (Err e)
lacks_keep part {T} {W} {G} {at} {k} {d} {W'} {G'} {at'} bound e r l h = refusing part bound e r (λ v. no_keep k d (G' ++ v) T at' l) h

pub lacks_pass : {A : Type 0} (part : A → Part) {T : List Token} {W : List Want} {G : List Part} {at : ℕ} {k : TokenKind} {d : ℕ} {W' : List Want} {G' : List Part} {at' : ℕ} (bound : ℕ) (e : Refusal) → Reaches T W G at (pass k d ∷ W') G' at' → Lacks k T at' → e ≡ Wrong at' → Answered part W G T bound at (Err e)
lacks_pass part {T} {W} {G} {at} {k} {d} {W'} {G'} {at'} bound e r l h = refusing part bound e r (λ v. no_pass k d (G' ++ v) T at' l) h

pub then_keeps : {T : List Token} {W : List Want} {G : List Part} {at : ℕ} {k : TokenKind} {d : ℕ} {W' : List Want} {G' : List Part} {at' : ℕ} (t : Token) → Reaches T W G at (keep k d ∷ W') G' at' → IsAt T at' t → same t.kind k ≡ true → d ≤ DEPTH_LIMIT → Reaches T W G at W' (token t ∷ G') (at' + 1)
then_keeps {T} {W} {G} {at} {k} {d} {W'} {G'} {at'} t r i h l = then_takes d [] (token t ∷ G') t r i l (λ v. ap (λ b. cond b (take d [] (token t ∷ G' ++ v)) refuse) h)

pub then_passes : {T : List Token} {W : List Want} {G : List Part} {at : ℕ} {k : TokenKind} {d : ℕ} {W' : List Want} {G' : List Part} {at' : ℕ} (t : Token) → Reaches T W G at (pass k d ∷ W') G' at' → IsAt T at' t → same t.kind k ≡ true → d ≤ DEPTH_LIMIT → Reaches T W G at W' G' (at' + 1)
then_passes {T} {W} {G} {at} {k} {d} {W'} {G'} {at'} t r i h l = then_takes d [] G' t r i l (λ v. ap (λ b. cond b (take d [] (G' ++ v)) refuse) h)

-- a token that is too deep
pub sinking : {A : Type 0} (part : A → Part) {T : List Token} {W : List Want} {G : List Part} {at : ℕ} {s : Want} {W' : List Want} {G' : List Part} {at' : ℕ} (bound d : ℕ) (new : List Want) (u : List Part → List Part) (t : Token) (e : Refusal) → Reaches T W G at (s ∷ W') G' at' → IsAt T at' t → DEPTH_LIMIT < d → ((v : List Part) → act s (G' ++ v) t t.kind ≡ take d new (u v)) → e ≡ Deep at' → Answered part W G T bound at (Err e)
sinking part {T} {W} {G} {at} {s} {W'} {G'} {at'} bound d new u t e r i l a h = subst (λ e. Answered part W G T bound at (Err e)) (sym h) (record { runs = λ ss v. r.runs ss v ∙ judge_at T at' t s (W' ++ ss) (G' ++ v) (take d new (u v)) i (a v) ∙ went_deep d new (u v) (W' ++ ss) t (drop (at' + 1) T) l ∙ ap deep (left_at T at' t i); within = i.within })
