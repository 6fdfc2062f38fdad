-- What stands in braces: a record, or a record with some fields changed.
use Rattle.std.proofs.Common.{ℕ, suc, ◌+◌, ◌≤◌, true, false, cond, List, [], ◌∷◌, ◌++◌, ◌≡◌, length, drop, refl, sym, ap, ◌∙◌, subst, arith, inl, inr}
use Rattle.std.proofs.lemmas.Bool.{false≢true}
use Rattle.ae_lex.specs.declared.kinds.Token.{Token}
use Rattle.ae_lex.specs.declared.kinds.TokenKind.{TokenKind}
use Rattle.ae_lex.specs.declared.kinds.TokenKind.TheVariants as kind
use Rattle.ae_lex.specs.declared.kinds.Reserved.TheVariants as word
use Rattle.ae_lex.specs.declared.kinds.Sign.TheVariants as sign
use Rattle.ae_syntax.specs.Inner.SameKinds.{same}
use Rattle.ae_syntax.specs.Parts.{Part, token}
use Rattle.ae_syntax.specs.Grammar.{of_settings}
use Rattle.ae_syntax.specs.Inner.Machine.{Want, an_expr, an_atom, a_post, pass, more, more_post, make, begin, set, build, change, call, brace, brace_name, update_wants, on_post, then_wants, take, act, items_wants, kept, the_word, the_sign, after, feed, finish, onward, run, limited, judge}
use Rattle.ae_syntax.specs.Inner.Reading.{IsAt, Sets, SetsNone, record_wants, change_wants}
use Rattle.ae_syntax.proofs.ParserMeetsMachine.Steps.{Reaches, start, then_takes, then_keeps, then_passes, joined, judge_is, judge_at, went, went_take}
use Rattle.ae_syntax.proofs.ParserMeetsMachine.Levels.{deeper_plain_list}
use Rattle.ae_syntax.proofs.Acts.{plain_post}
use Rattle.ae_syntax.proofs.ParserMeetsMachine.OpenExprs.{begin_1, begins_brace}
use Rattle.ae_syntax.specs.declared.cursor.TheConstants.{DEPTH_LIMIT}

-- two ways to one place
back : {T : List Token} {W W' W'' : List Want} {G G' G'' : List Part} {at at' at'' : ℕ} → Reaches T W G at W'' G'' at'' → Reaches T W' G' at' W'' G'' at'' → at ≤ at' → Reaches T W G at W' G' at'
back r q l = record { runs = λ ss v. r.runs ss v ∙ sym (q.runs ss v); further = l; within = let f = q.further in let w = q.within in omega (arith, f, w) }

record_steps : (T : List Token) (at d : ℕ) (o : Token) → at ≤ length T → suc d ≤ DEPTH_LIMIT → Sets T at → Reaches T (brace d ∷ []) (token o ∷ []) at (record_wants (suc d) d) (token o ∷ []) at
record_steps T at d o w l s = let i = s.name in let e = s.equals in
    back
    (then_takes (suc d) (an_expr (suc d) ∷ make set ∷ make begin ∷ more of_settings (suc d) ∷ kept sign.CloseBrace d ∷ make build ∷ []) (token i.token ∷ token o ∷ []) e.token
    (then_takes (suc d) (brace_name d ∷ []) (token i.token ∷ token o ∷ []) i.token (start T (brace d ∷ []) (token o ∷ []) at w) (record { next = i.next; within = i.within; room = i.room }) l (λ v. act_name v i.token (let t = i.token in t.kind) i.is))
    (record { next = e.next; within = e.within; room = e.room }) l (λ v. act_equal (token i.token ∷ token o ∷ v) e.token (let t = e.token in t.kind) e.is))
    (then_passes e.token (then_keeps i.token (start T (record_wants (suc d) d) (token o ∷ []) at w) (record { next = i.next; within = i.within; room = i.room }) i.is l) (record { next = e.next; within = e.within; room = e.room }) e.is l)
    (omega arith)
  where
    act_name : (v : List Part) (t : Token) (k : TokenKind) → same k kind.Ident ≡ true → act (brace d) (token o ∷ v) t k ≡ take (suc d) (brace_name d ∷ []) (token t ∷ token o ∷ v)
    act_name v t kind.Ident h = refl
    act_name v t k h = absurd (false≢true h)

    act_equal : (v : List Part) (t : Token) (k : TokenKind) → same k (the_sign sign.Equal) ≡ true → act (brace_name d) v t k ≡ take (suc d) (an_expr (suc d) ∷ make set ∷ make begin ∷ more of_settings (suc d) ∷ kept sign.CloseBrace d ∷ make build ∷ []) v
    act_equal v t (kind.Sign sign.Equal) h = refl
    act_equal v t (kind.Sign sign.Arrow) h = absurd (false≢true h)
    act_equal v t k h = absurd (false≢true h)

-- after a name, on another token than `=`
rest_wants : ℕ → List Want → List Want
rest_wants d ss = items_wants of_settings (suc d) ++ kept sign.CloseBrace d ∷ make change ∷ ss

brace_case : (d : ℕ) (i t : Token) (ts : List Token) (ss : List Want) (v : List Part) (k : TokenKind) → same k (the_sign sign.Equal) ≡ false → onward (after (act (brace_name d) (token i ∷ v) t k) (λ u. feed ss u t) ss) (λ s v. run ts s v) (suc (length ts)) ≡ onward (after (act (call (suc d)) (token i ∷ v) t k) (λ u. after (act (more_post (suc d)) u t k) (λ u. after (act (pass (the_word word.With) (suc d)) u t k) (λ u. feed (rest_wants d ss) u t) (rest_wants d ss)) (pass (the_word word.With) (suc d) ∷ rest_wants d ss)) (more_post (suc d) ∷ pass (the_word word.With) (suc d) ∷ rest_wants d ss)) (λ s v. run ts s v) (suc (length ts))
unfolding rest_wants
brace_case d i t ts ss v (kind.Sign sign.Equal) h = absurd (false≢true (sym h))
brace_case d i t ts ss v (kind.Sign sign.OpenParen) h = refl
brace_case d i t ts ss v (kind.Sign sign.Dot) h = refl
brace_case d i t ts ss v (kind.Reserved word.With) h = refl
brace_case d i t ts ss v k h = refl

name_steps : (d : ℕ) (i : Token) (rest : List Token) (ss : List Want) (v : List Part) → ((t : Token) (ts : List Token) → rest ≡ t ∷ ts → same t.kind (the_sign sign.Equal) ≡ false) → judge rest (brace_name d ∷ ss) (token i ∷ v) ≡ judge rest (call (suc d) ∷ more_post (suc d) ∷ update_wants d ++ ss) (token i ∷ v)
unfolding run finish feed rest_wants
name_steps d i [] ss v n = refl
name_steps d i (t ∷ ts) ss v n = ap (λ o. limited (suc (length ts)) o) (brace_case d i t ts ss v t.kind (n t ts refl))

-- no name
other_steps : (d : ℕ) (rest : List Token) (ss : List Want) (v : List Part) → ((t : Token) (ts : List Token) → rest ≡ t ∷ ts → same t.kind kind.Ident ≡ false) → judge rest (brace d ∷ ss) v ≡ judge rest (a_post (suc d) ∷ update_wants d ++ ss) v
unfolding run finish
other_steps d [] ss v n = refl
other_steps d (t ∷ ts) ss v n = judge_is t ts (brace d) ss v ∙ ap (λ b. went (cond b (take (suc d) (brace_name d ∷ []) (token t ∷ v)) (then_wants (on_post (suc d) v t t.kind) (update_wants d))) ss t ts) (n t ts refl) ∙ deeper_plain_list (on_post (suc d) v t t.kind) (update_wants d) ss t ts (plain_post (suc d) v t t.kind) ∙ sym (judge_is t ts (a_post (suc d)) (update_wants d ++ ss) v)

change_steps : (T : List Token) (at d : ℕ) (o : Token) → at ≤ length T → suc d ≤ DEPTH_LIMIT → SetsNone T at → Reaches T (brace d ∷ []) (token o ∷ []) at (change_wants (suc d) d) (token o ∷ []) at
change_steps T at d o w l (inl n) = record { runs = λ ss v. other_steps d (drop at T) ss (token o ∷ v) n.none; further = omega arith; within = w }
change_steps T at d o w l (inr p) = let s = p.0 in let n = p.1 in record {
  runs = λ ss v. judge_at T at s.token (brace d) ss (token o ∷ v) _ (record { next = s.next; within = s.within; room = s.room }) (act_name (token o ∷ v) s.token (let t = s.token in t.kind) s.is) ∙ went_take (suc d) (brace_name d ∷ []) (token s.token ∷ token o ∷ v) ss s.token (drop (at + 1) T) l ∙ name_steps d s.token (drop (at + 1) T) ss (token o ∷ v) n.none ∙ sym (judge_at T at s.token (a_post (suc d)) (update_wants d ++ ss) (token o ∷ v) _ (record { next = s.next; within = s.within; room = s.room }) (act_post (token o ∷ v) s.token (let t = s.token in t.kind) s.is) ∙ went_take (suc d) (call (suc d) ∷ more_post (suc d) ∷ []) (token s.token ∷ token o ∷ v) (update_wants d ++ ss) s.token (drop (at + 1) T) l);
  further = omega arith;
  within = w;
}
  where
    act_name : (v : List Part) (t : Token) (k : TokenKind) → same k kind.Ident ≡ true → act (brace d) v t k ≡ take (suc d) (brace_name d ∷ []) (token t ∷ v)
    act_name v t kind.Ident h = refl
    act_name v t k h = absurd (false≢true h)

    act_post : (v : List Part) (t : Token) (k : TokenKind) → same k kind.Ident ≡ true → act (a_post (suc d)) v t k ≡ take (suc d) (call (suc d) ∷ more_post (suc d) ∷ []) (token t ∷ v)
    act_post v t kind.Ident h = refl
    act_post v t k h = absurd (false≢true h)

pub record_0 : (T : List Token) (at d n : ℕ) (o : Token) → IsAt T at o → same o.kind (the_sign sign.OpenBrace) ≡ true → n ≡ suc d → n ≤ DEPTH_LIMIT → Sets T (at + 1) → Reaches T (an_atom d ∷ []) [] at (record_wants n d) (token o ∷ []) (at + 1)
record_0 T at d n o i h e l s = subst (λ n. Reaches T (an_atom d ∷ []) [] at (record_wants n d) (token o ∷ []) (at + 1)) (sym e) (joined (begin_1 (an_atom d) (suc d) (brace d ∷ []) T at o (begins_brace T at d (suc d) o i h refl) (omega (arith, e, l))) (record_steps T (at + 1) d o (let w = i.within in omega (arith, w)) (omega (arith, e, l)) s))

pub change_0 : (T : List Token) (at d n : ℕ) (o : Token) → IsAt T at o → same o.kind (the_sign sign.OpenBrace) ≡ true → n ≡ suc d → n ≤ DEPTH_LIMIT → SetsNone T (at + 1) → Reaches T (an_atom d ∷ []) [] at (change_wants n d) (token o ∷ []) (at + 1)
change_0 T at d n o i h e l s = subst (λ n. Reaches T (an_atom d ∷ []) [] at (change_wants n d) (token o ∷ []) (at + 1)) (sym e) (joined (begin_1 (an_atom d) (suc d) (brace d ∷ []) T at o (begins_brace T at d (suc d) o i h refl) (omega (arith, e, l))) (change_steps T (at + 1) d o (let w = i.within in omega (arith, w)) (omega (arith, e, l)) s))
