-- What the functions that read fields, triggers, names and records answer, put together.
use Rattle.std.proofs.Common.{ℕ, suc, ◌+◌, ◌≤◌, ◌<◌, true, cond, List, [], ◌∷◌, ◌++◌, ◌≡◌, Err, length, drop, refl, sym, ap, ◌∙◌, subst, arith}
use Rattle.std.proofs.lemmas.Bool.{false≢true}
use Rattle.ae_lex.specs.declared.kinds.Token.{Token}
use Rattle.ae_lex.specs.declared.kinds.TokenKind.{TokenKind}
use Rattle.ae_lex.specs.declared.kinds.TokenKind.TheVariants as kind
use Rattle.ae_lex.specs.declared.kinds.Sign.TheVariants as sign
use Rattle.ae_syntax.specs.declared.exprs.Expr.{Expr}
use Rattle.ae_syntax.specs.declared.exprs.Trigger.{Trigger}
use Rattle.ae_syntax.specs.declared.faults.Refusal.{Refusal}
use Rattle.ae_syntax.specs.declared.faults.Refusal.TheVariants.{Wrong, Deep}
use Rattle.ae_syntax.specs.Inner.SameKinds.{same}
use Rattle.ae_syntax.specs.Parts.{Part, tree, triggers, field_of}
use Rattle.ae_syntax.specs.Grammar.{of_triggers}
use Rattle.ae_syntax.specs.Inner.Machine.{keep, more_post, make, take_field, triggers_or_dot, skip, take, refuse, act, items_wants, past, the_sign}
use Rattle.ae_syntax.specs.Inner.Reading.{Done, Answered, IsAt, Stands, Lacks}
use Rattle.ae_syntax.proofs.ParserMeetsMachine.Steps.{Reaches, start, then_takes, then_makes, then_keeps, moved, done, sinking, refusing}
use Rattle.ae_syntax.proofs.ParserMeetsMachine.Levels.{past_post, small_grip}
use Rattle.ae_syntax.proofs.ParserMeetsMachine.Exprs.{Takes, chain_1, chain_ends}
use Rattle.ae_syntax.specs.declared.cursor.TheConstants.{DEPTH_LIMIT}

-- ---- fields
pub takes_post : (T : List Token) (at d n : ℕ) → Stands (the_sign sign.Dot) T at → n ≡ suc d → Takes (more_post d) n (keep kind.Ident n ∷ make take_field ∷ more_post n ∷ []) T at
takes_post T at d n s e = subst (λ n. Takes (more_post d) n (keep kind.Ident n ∷ make take_field ∷ more_post n ∷ []) T at) (sym e) (record {
  t = s.token;
  here = record { next = s.next; within = s.within; room = s.room };
  acts = λ v. ap (λ b. cond b (take (suc d) (keep kind.Ident (suc d) ∷ make take_field ∷ more_post (suc d) ∷ []) v) (skip v)) s.is;
})

pub post_ends : (T : List Token) (at d : ℕ) (left : Expr) → at ≤ length T → Lacks (the_sign sign.Dot) T at → Done (more_post d ∷ []) (tree left ∷ []) T 7 at at (tree left)
post_ends T at d left w n = chain_ends (more_post d) T at 7 left w (λ v. record { here = λ t ts q. ap (λ b. cond b (take (suc d) (keep kind.Ident (suc d) ∷ make take_field ∷ more_post (suc d) ∷ []) v) (skip v)) (n.none t ts q); end = refl }) (past_post T at n)

pub post_1 : (T : List Token) (at d n : ℕ) (left : Expr) → Stands (the_sign sign.Dot) T at → n ≡ suc d → n ≤ DEPTH_LIMIT → Reaches T (more_post d ∷ []) (tree left ∷ []) at (keep kind.Ident n ∷ make take_field ∷ more_post n ∷ []) (tree left ∷ []) (at + 1)
post_1 T at d n left s e l = chain_1 (more_post d) n (keep kind.Ident n ∷ make take_field ∷ more_post n ∷ []) T at left (takes_post T at d n s e) l

pub post_2 : (T : List Token) (at d n : ℕ) (left whole : Expr) (t : Token) → Stands (the_sign sign.Dot) T at → n ≡ suc d → n ≤ DEPTH_LIMIT → IsAt T (at + 1) t → same t.kind kind.Ident ≡ true → whole ≡ field_of left t → Reaches T (more_post d ∷ []) (tree left ∷ []) at (more_post n ∷ []) (tree whole ∷ []) (at + 2)
post_2 T at d n left whole t s e l i h g = subst (λ w. Reaches T (more_post d ∷ []) (tree left ∷ []) at (more_post n ∷ []) (tree w ∷ []) (at + 2)) (sym g) (moved (at + 2) (omega arith) (then_makes (tree (field_of left t) ∷ []) (then_keeps t (post_1 T at d n left s e l) i h l) (λ v. refl)))

-- ---- triggers, or none, with the point after them
pub dot_done : (T : List Token) (at d : ℕ) (found : List Trigger) → at ≤ length T → d ≤ DEPTH_LIMIT → Stands (the_sign sign.Dot) T at → found ≡ [] → Done (triggers_or_dot d ∷ []) [] T 8 at (at + 1) (triggers found)
dot_done T at d found w l s e = subst (λ z. Done (triggers_or_dot d ∷ []) [] T 8 at (at + 1) (triggers z)) (sym e) (done (then_takes d [] (triggers [] ∷ []) s.token (start T (triggers_or_dot d ∷ []) [] at w) (record { next = s.next; within = s.within; room = s.room }) l (λ v. ap (λ b. cond b (take d [] (triggers [] ∷ v)) (cond (same (let t = s.token in t.kind) (the_sign sign.OpenBracket)) (take (suc d) (items_wants of_triggers (suc d) ++ past sign.CloseBracket d ∷ past sign.Dot d ∷ []) v) refuse)) s.is)) (small_grip (drop (at + 1) T)))

pub no_squares : {A : Type 0} (part : A → Part) (T : List Token) (at d bound : ℕ) (e : Refusal) → at ≤ length T → Lacks (the_sign sign.Dot) T at → Lacks (the_sign sign.OpenBracket) T at → e ≡ Wrong at → Answered part (triggers_or_dot d ∷ []) [] T bound at (Err e)
no_squares part T at d bound e w n m h = refusing part bound e (start T (triggers_or_dot d ∷ []) [] at w) (λ v. record { here = λ t ts q. ap (λ b. cond b (take d [] (triggers [] ∷ v)) (cond (same t.kind (the_sign sign.OpenBracket)) (take (suc d) (items_wants of_triggers (suc d) ++ past sign.CloseBracket d ∷ past sign.Dot d ∷ []) v) refuse)) (n.none t ts q) ∙ ap (λ b. cond b (take (suc d) (items_wants of_triggers (suc d) ++ past sign.CloseBracket d ∷ past sign.Dot d ∷ []) v) refuse) (m.none t ts q); end = refl }) h

act_squares : (d : ℕ) (v : List Part) (t : Token) (k : TokenKind) → same k (the_sign sign.OpenBracket) ≡ true → act (triggers_or_dot d) v t k ≡ take (suc d) (items_wants of_triggers (suc d) ++ past sign.CloseBracket d ∷ past sign.Dot d ∷ []) v
act_squares d v t (kind.Sign sign.OpenBracket) h = refl
act_squares d v t (kind.Sign sign.Arrow) h = absurd (false≢true h)
act_squares d v t k h = absurd (false≢true h)

pub squares_deep : {A : Type 0} (part : A → Part) (T : List Token) (at d bound : ℕ) (t : Token) (e : Refusal) → at ≤ length T → IsAt T at t → same t.kind (the_sign sign.OpenBracket) ≡ true → DEPTH_LIMIT < suc d → e ≡ Deep at → Answered part (triggers_or_dot d ∷ []) [] T bound at (Err e)
squares_deep part T at d bound t e w i h l g = sinking part bound (suc d) (items_wants of_triggers (suc d) ++ past sign.CloseBracket d ∷ past sign.Dot d ∷ []) (λ v. v) t e (start T (triggers_or_dot d ∷ []) [] at w) i l (λ v. act_squares d v t t.kind h) g

pub squares_1 : (T : List Token) (at d n : ℕ) (t : Token) → at ≤ length T → IsAt T at t → same t.kind (the_sign sign.OpenBracket) ≡ true → n ≡ suc d → n ≤ DEPTH_LIMIT → Reaches T (triggers_or_dot d ∷ []) [] at (items_wants of_triggers n ++ past sign.CloseBracket d ∷ past sign.Dot d ∷ []) [] (at + 1)
squares_1 T at d n t w i h e l = subst (λ n. Reaches T (triggers_or_dot d ∷ []) [] at (items_wants of_triggers n ++ past sign.CloseBracket d ∷ past sign.Dot d ∷ []) [] (at + 1)) (sym e) (then_takes (suc d) (items_wants of_triggers (suc d) ++ past sign.CloseBracket d ∷ past sign.Dot d ∷ []) [] t (start T (triggers_or_dot d ∷ []) [] at w) i (omega (arith, e, l)) (λ v. act_squares d v t t.kind h))
