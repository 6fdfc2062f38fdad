-- What the functions that read atoms answer, put together.
use Rattle.std.proofs.Common.{ℕ, suc, ◌+◌, ◌≤◌, ◌<◌, true, false, cond, List, [], ◌∷◌, ◌++◌, ◌≡◌, Some, None, Err, length, drop, refl, sym, ap, ◌∙◌, subst, arith}
use Rattle.std.proofs.lemmas.Bool.{false≢true}
use Rattle.ae_lex.specs.declared.kinds.Token.{Token}
use Rattle.ae_lex.specs.declared.kinds.TokenKind.{TokenKind}
use Rattle.ae_lex.specs.declared.kinds.TokenKind.TheVariants as kind
use Rattle.ae_lex.specs.declared.kinds.Reserved.TheVariants as word
use Rattle.ae_lex.specs.declared.kinds.Sign.TheVariants as sign
use Rattle.ae_syntax.specs.declared.exprs.Expr.{Expr}
use Rattle.ae_syntax.specs.declared.faults.Refusal.{Refusal}
use Rattle.ae_syntax.specs.declared.faults.Refusal.TheVariants.{Wrong, Deep, Memory}
use Rattle.ae_syntax.specs.Kinds.{quantifies}
use Rattle.ae_syntax.specs.Inner.SameKinds.{same}
use Rattle.ae_syntax.specs.Parts.{Part, token, tree, bare}
use Rattle.ae_syntax.specs.Grammar.{of_exprs}
use Rattle.ae_syntax.specs.Inner.Machine.{Want, an_expr, an_not, a_rel, a_unary, a_post, an_atom, more_post, make, negate, oppose, call_it, all_differ, enclose, call, bracket_end, brace, skip, take, opens, refuse, act, idle, if_some, on_atom, on_not, on_rel, on_post, constant, items_wants, let_wants, if_wants, block_wants, kept, the_word, the_sign}
use Rattle.ae_syntax.specs.Inner.Reading.{Done, Answered, ConstantAnswered, IsAt, Stands, Lacks, distinct_wants, ascribed_wants}
use Rattle.ae_syntax.proofs.ParserMeetsMachine.Steps.{Reaches, Refuses, start, then_takes, then_skips, then_passes, done, sinking, refusing, judge_at}
use Rattle.ae_syntax.proofs.ParserMeetsMachine.Levels.{as_post, small_grip}
use Rattle.ae_syntax.specs.declared.cursor.TheConstants.{DEPTH_LIMIT}

-- ---- nothing begins at the end
pub at_end : {A : Type 0} (part : A → Part) (s : Want) (T : List Token) (at bound : ℕ) → drop at T ≡ [] → at ≤ length T → ((v : List Part) → idle s v ≡ refuse) → Answered part (s ∷ []) [] T bound at (Err (Wrong at))
at_end part s T at bound e w z = refusing part bound (Wrong at) (start T (s ∷ []) [] at w) (λ v. record { here = λ t ts q. absurd (let l : 0 ≡ suc (length ts) = ap length (sym e ∙ q) in omega arith); end = z v }) refl

-- ---- a token that begins no form, no minus
act_plain : (d : ℕ) (v : List Part) (t : Token) (k : TokenKind) → same k (the_word word.Not) ≡ false → same k (the_word word.Let) ≡ false → same k (the_word word.If) ≡ false → quantifies k ≡ None → on_not d v t k ≡ on_rel d v t k
act_plain d v t k h1 h2 h3 h4 =
    ap (λ b. cond b (take (suc d) (an_not (suc d) ∷ make negate ∷ []) (token t ∷ v))
    (cond (same k (the_word word.Let)) (opens (suc d) (let_wants (suc d)) (token t ∷ v))
    (cond (same k (the_word word.If)) (opens (suc d) (if_wants (suc d)) (token t ∷ v))
    (if_some (quantifies k) (λ q. opens (suc d) (block_wants (suc d)) (token t ∷ v)) (on_rel d v t k))))) h1
    ∙ ap (λ b. cond b (opens (suc d) (let_wants (suc d)) (token t ∷ v))
    (cond (same k (the_word word.If)) (opens (suc d) (if_wants (suc d)) (token t ∷ v))
    (if_some (quantifies k) (λ q. opens (suc d) (block_wants (suc d)) (token t ∷ v)) (on_rel d v t k)))) h2
    ∙ ap (λ b. cond b (opens (suc d) (if_wants (suc d)) (token t ∷ v))
    (if_some (quantifies k) (λ q. opens (suc d) (block_wants (suc d)) (token t ∷ v)) (on_rel d v t k))) h3
    ∙ ap (λ o. if_some o (λ q. opens (suc d) (block_wants (suc d)) (token t ∷ v)) (on_rel d v t k)) h4

pub not_0 : (T : List Token) (at d : ℕ) (t : Token) → IsAt T at t → same t.kind (the_word word.Not) ≡ false → same t.kind (the_word word.Let) ≡ false → same t.kind (the_word word.If) ≡ false → quantifies t.kind ≡ None → Reaches T (an_not d ∷ []) [] at (a_rel d ∷ []) [] at
not_0 T at d t i h1 h2 h3 h4 = record {
  runs = λ ss v. judge_at T at t (an_not d) ss v (on_rel d v t t.kind) i (act_plain d v t t.kind h1 h2 h3 h4) ∙ sym (judge_at T at t (a_rel d) ss v (on_rel d v t t.kind) i refl);
  further = omega arith;
  within = let w = i.within in omega (arith, w);
}

pub unary_0 : (T : List Token) (at d : ℕ) (t : Token) → IsAt T at t → same t.kind (the_sign sign.Minus) ≡ false → Reaches T (a_unary d ∷ []) [] at (an_atom d ∷ more_post d ∷ []) [] at
unary_0 T at d t i h = record {
  runs = λ ss v. judge_at T at t (a_unary d) ss v (on_post d v t t.kind) i (ap (λ b. cond b (take (suc d) (a_unary (suc d) ∷ make oppose ∷ []) (token t ∷ v)) (on_post d v t t.kind)) h) ∙ sym (judge_at T at t (a_post d) ss v (on_post d v t t.kind) i refl) ∙ as_post d (drop at T) ss v;
  further = omega arith;
  within = let w = i.within in omega (arith, w);
}

-- ---- an atom of one token
act_constant : (d : ℕ) (v : List Part) (t : Token) (k : TokenKind) → same k kind.Ident ≡ false → same k (the_sign sign.OpenParen) ≡ false → same k (the_sign sign.OpenBrace) ≡ false → same k (the_word word.Distinct) ≡ false → on_atom d v t k ≡ if_some (constant t k) (λ e. take d [] (tree e ∷ v)) refuse
act_constant d v t k h1 h2 h3 h4 =
    ap (λ b. cond b (take d (call d ∷ []) (token t ∷ v))
    (cond (same k (the_sign sign.OpenParen)) (take (suc d) (an_expr (suc d) ∷ bracket_end d ∷ []) (token t ∷ v))
    (cond (same k (the_sign sign.OpenBrace)) (take (suc d) (brace d ∷ []) (token t ∷ v))
    (cond (same k (the_word word.Distinct)) (take d (distinct_wants d) (token t ∷ v))
    (if_some (constant t k) (λ e. take d [] (tree e ∷ v)) refuse))))) h1
    ∙ ap (λ b. cond b (take (suc d) (an_expr (suc d) ∷ bracket_end d ∷ []) (token t ∷ v))
    (cond (same k (the_sign sign.OpenBrace)) (take (suc d) (brace d ∷ []) (token t ∷ v))
    (cond (same k (the_word word.Distinct)) (take d (distinct_wants d) (token t ∷ v))
    (if_some (constant t k) (λ e. take d [] (tree e ∷ v)) refuse)))) h2
    ∙ ap (λ b. cond b (take (suc d) (brace d ∷ []) (token t ∷ v))
    (cond (same k (the_word word.Distinct)) (take d (distinct_wants d) (token t ∷ v))
    (if_some (constant t k) (λ e. take d [] (tree e ∷ v)) refuse))) h3
    ∙ ap (λ b. cond b (take d (distinct_wants d) (token t ∷ v)) (if_some (constant t k) (λ e. take d [] (tree e ∷ v)) refuse)) h4

-- no name, bracket or `distinct` stands there
pub record Bare (T : List Token) (at : ℕ) (t : Token) : Type 0 where
  pub here : IsAt T at t
  pub name : same t.kind kind.Ident ≡ false
  pub paren : same t.kind (the_sign sign.OpenParen) ≡ false
  pub brace : same t.kind (the_sign sign.OpenBrace) ≡ false
  pub distinct : same t.kind (the_word word.Distinct) ≡ false

pub constant_done : (T : List Token) (at d : ℕ) (t : Token) (e : Expr) → Bare T at t → d ≤ DEPTH_LIMIT → constant t t.kind ≡ Some e → Done (an_atom d ∷ []) [] T 8 at (at + 1) (tree e)
constant_done T at d t e b l h = let i = b.here in done (then_takes d [] (tree e ∷ []) t (start T (an_atom d ∷ []) [] at (let w = i.within in omega (arith, w))) i l (λ v. act_constant d v t t.kind b.name b.paren b.brace b.distinct ∙ ap (λ o. if_some o (λ e. take d [] (tree e ∷ v)) refuse) h)) (small_grip (drop (at + 1) T))

bare_refused : (T : List Token) (at d : ℕ) (t : Token) → Bare T at t → constant t t.kind ≡ None → (v : List Part) → Refuses (an_atom d) v T at
bare_refused T at d t b h v = record { here = go (drop at T) refl; end = refl }
  where
    first_of : Token → List Token → Token
    first_of t [] = t
    first_of t (u ∷ us) = u

    go : (rest : List Token) → drop at T ≡ rest → (u : Token) (us : List Token) → drop at T ≡ u ∷ us → act (an_atom d) v u u.kind ≡ refuse
    go rest e u us q = let i = b.here in subst (λ u. on_atom d v u u.kind ≡ refuse) (ap (λ w. first_of t w) (sym i.next ∙ q)) (act_constant d v t t.kind b.name b.paren b.brace b.distinct ∙ ap (λ o. if_some o (λ e. take d [] (tree e ∷ v)) refuse) h)

pub constant_fails : (T : List Token) (at d : ℕ) (t : Token) (e : Refusal) → Bare T at t → ConstantAnswered t at (Err e) → Answered (λ p. tree p) (an_atom d ∷ []) [] T 8 at (Err e)
constant_fails T at d t (Wrong k) b h = let i = b.here in refusing (λ p. tree p) 8 (Wrong k) (start T (an_atom d ∷ []) [] at (let w = i.within in omega (arith, w))) (λ v. bare_refused T at d t b h.0 v) (ap (λ n. Wrong n) h.1)
constant_fails T at d t (Deep k) b h = absurd h
constant_fails T at d t Memory b h = tt

-- ---- a name without arguments, and with its bracket
pub call_ends : (T : List Token) (at d : ℕ) (n : Token) (whole : Expr) → at ≤ length T → Lacks (the_sign sign.OpenParen) T at → whole ≡ bare n → Done (call d ∷ []) (token n ∷ []) T 8 at at (tree whole)
call_ends T at d n whole w l e = subst (λ z. Done (call d ∷ []) (token n ∷ []) T 8 at at (tree z)) (sym e) (done (then_skips (tree (bare n) ∷ []) (start T (call d ∷ []) (token n ∷ []) at w) (λ v. record { here = λ t ts q. ap (λ b. cond b (take (suc d) (items_wants of_exprs (suc d) ++ kept sign.CloseParen d ∷ make call_it ∷ []) (token n ∷ v)) (skip (tree (bare n) ∷ v))) (l.none t ts q); end = refl })) (small_grip (drop at T)))

pub call_deep : (T : List Token) (at d : ℕ) (n : Token) (e : Refusal) → at ≤ length T → Stands (the_sign sign.OpenParen) T at → DEPTH_LIMIT < suc d → e ≡ Deep at → Answered (λ p. tree p) (call d ∷ []) (token n ∷ []) T 8 at (Err e)
call_deep T at d n e w s l h = sinking (λ p. tree p) 8 (suc d) (items_wants of_exprs (suc d) ++ kept sign.CloseParen d ∷ make call_it ∷ []) (λ v. token n ∷ v) s.token e (start T (call d ∷ []) (token n ∷ []) at w) (record { next = s.next; within = s.within; room = s.room }) l (λ v. ap (λ b. cond b (take (suc d) (items_wants of_exprs (suc d) ++ kept sign.CloseParen d ∷ make call_it ∷ []) (token n ∷ v)) (skip (tree (bare n) ∷ v))) s.is) h

pub call_1 : (T : List Token) (at d m : ℕ) (n : Token) → at ≤ length T → Stands (the_sign sign.OpenParen) T at → m ≡ suc d → m ≤ DEPTH_LIMIT → Reaches T (call d ∷ []) (token n ∷ []) at (items_wants of_exprs m ++ kept sign.CloseParen d ∷ make call_it ∷ []) (token n ∷ []) (at + 1)
call_1 T at d m n w s e l = subst (λ m. Reaches T (call d ∷ []) (token n ∷ []) at (items_wants of_exprs m ++ kept sign.CloseParen d ∷ make call_it ∷ []) (token n ∷ []) (at + 1)) (sym e) (then_takes (suc d) (items_wants of_exprs (suc d) ++ kept sign.CloseParen d ∷ make call_it ∷ []) (token n ∷ []) s.token (start T (call d ∷ []) (token n ∷ []) at w) (record { next = s.next; within = s.within; room = s.room }) (omega (arith, e, l)) (λ v. ap (λ b. cond b (take (suc d) (items_wants of_exprs (suc d) ++ kept sign.CloseParen d ∷ make call_it ∷ []) (token n ∷ v)) (skip (tree (bare n) ∷ v))) s.is))

-- ---- `distinct` and its bracket
pub distinct_deep : (T : List Token) (at d : ℕ) (f t : Token) (e : Refusal) → at ≤ length T → IsAt T at t → same t.kind (the_sign sign.OpenParen) ≡ true → DEPTH_LIMIT < suc d → e ≡ Deep at → Answered (λ p. tree p) (distinct_wants d) (token f ∷ []) T 8 at (Err e)
distinct_deep T at d f t e w i h l g = sinking (λ p. tree p) 8 (suc d) [] (λ v. token f ∷ v) t e (start T (distinct_wants d) (token f ∷ []) at w) i l (λ v. ap (λ b. cond b (take (suc d) [] (token f ∷ v)) refuse) h) g

pub distinct_1 : (T : List Token) (at d m : ℕ) (f t : Token) → at ≤ length T → IsAt T at t → same t.kind (the_sign sign.OpenParen) ≡ true → m ≡ suc d → m ≤ DEPTH_LIMIT → Reaches T (distinct_wants d) (token f ∷ []) at (items_wants of_exprs m ++ kept sign.CloseParen d ∷ make all_differ ∷ []) (token f ∷ []) (at + 1)
distinct_1 T at d m f t w i h e l = subst (λ m. Reaches T (distinct_wants d) (token f ∷ []) at (items_wants of_exprs m ++ kept sign.CloseParen d ∷ make all_differ ∷ []) (token f ∷ []) (at + 1)) (sym e) (then_passes t (start T (distinct_wants d) (token f ∷ []) at w) i h (omega (arith, e, l)))

-- ---- the end of round brackets
act_colon : (d : ℕ) (v : List Part) (t : Token) (k : TokenKind) → same k (the_sign sign.Colon) ≡ true → act (bracket_end d) v t k ≡ take (suc d) (ascribed_wants (suc d) d) v
act_colon d v t (kind.Sign sign.Colon) h = refl
act_colon d v t (kind.Sign sign.Arrow) h = absurd (false≢true h)
act_colon d v t k h = absurd (false≢true h)

pub then_colon : (T : List Token) (W : List Want) (G G' : List Part) (at to d m : ℕ) → Reaches T W G at (bracket_end d ∷ []) G' to → Stands (the_sign sign.Colon) T to → m ≡ suc d → m ≤ DEPTH_LIMIT → Reaches T W G at (ascribed_wants m d) G' (to + 1)
then_colon T W G G' at to d m r s e l = subst (λ m. Reaches T W G at (ascribed_wants m d) G' (to + 1)) (sym e) (then_takes (suc d) (ascribed_wants (suc d) d) G' s.token r (record { next = s.next; within = s.within; room = s.room }) (omega (arith, e, l)) (λ v. act_colon d (G' ++ v) s.token (let t = s.token in t.kind) s.is))

pub then_closes : (T : List Token) (W : List Want) (G G' : List Part) (at to d : ℕ) (t : Token) → Reaches T W G at (bracket_end d ∷ []) G' to → IsAt T to t → same t.kind (the_sign sign.CloseParen) ≡ true → d ≤ DEPTH_LIMIT → Reaches T W G at (make enclose ∷ []) (token t ∷ G') (to + 1)
then_closes T W G G' at to d t r i h l = then_takes d (make enclose ∷ []) (token t ∷ G') t r i l (λ v. ap (λ b. cond b (take d (make enclose ∷ []) (token t ∷ G' ++ v)) (cond (same t.kind (the_sign sign.Colon)) (take (suc d) (ascribed_wants (suc d) d) (G' ++ v)) refuse)) h)

pub no_close : {A : Type 0} (part : A → Part) (T : List Token) (W : List Want) (G G' : List Part) (at to d bound : ℕ) (e : Refusal) → Reaches T W G at (bracket_end d ∷ []) G' to → Lacks (the_sign sign.CloseParen) T to → Lacks (the_sign sign.Colon) T to → e ≡ Wrong to → Answered part W G T bound at (Err e)
no_close part T W G G' at to d bound e r n m h = refusing part bound e r (λ v. record { here = λ t ts q. ap (λ b. cond b (take d (make enclose ∷ []) (token t ∷ G' ++ v)) (cond (same t.kind (the_sign sign.Colon)) (take (suc d) (ascribed_wants (suc d) d) (G' ++ v)) refuse)) (n.none t ts q) ∙ ap (λ b. cond b (take (suc d) (ascribed_wants (suc d) d) (G' ++ v)) refuse) (m.none t ts q); end = refl }) h
