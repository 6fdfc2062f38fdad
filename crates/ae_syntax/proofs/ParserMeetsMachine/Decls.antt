-- What the parts of the functions for types and declarations answer, put together.
use Rattle.std.proofs.Common.{ℕ, suc, ◌+◌, ◌-◌, ◌≤◌, ◌<◌, Bool, true, false, List, [], ◌∷◌, ◌++◌, ◌≡◌, Option, Some, None, Result, Ok, Err, length, drop, refl, sym, ap, ◌∙◌, subst, arith, append_assoc, append-nil, cond, slice_index_or, inl, inr}
use Rattle.std.proofs.lemmas.Bool.{cases_lt, cond-false, cond-true}
use Rattle.ae_lex.specs.declared.kinds.Token.{Token}
use Rattle.ae_lex.specs.declared.kinds.TokenKind.{TokenKind}
use Rattle.ae_lex.specs.declared.kinds.TokenKind.TheVariants as kind
use Rattle.ae_lex.specs.declared.kinds.Reserved.{Reserved}
use Rattle.ae_lex.specs.declared.kinds.Reserved.TheVariants as word
use Rattle.ae_lex.specs.declared.kinds.Sign.{Sign}
use Rattle.ae_lex.specs.declared.kinds.Sign.TheVariants as sign
use Rattle.ae_syntax.specs.declared.faults.Refusal.{Refusal}
use Rattle.ae_syntax.specs.declared.faults.Refusal.TheVariants.{Wrong, Deep, Memory}
use Rattle.ae_syntax.specs.Inner.SameKinds.{same}
use Rattle.ae_syntax.specs.Parts.{Part, last_or, abstract_type, logic_of, a_sort, prop_at, alone, and_then, token, flag, sort, typed, result, decl, names, sorts, typeds, decls, span, type_span, named_after}
use Rattle.ae_syntax.specs.declared.spans.Span.{Span}
use Rattle.ae_syntax.specs.declared.decls.Decl.{Decl}
use Rattle.ae_syntax.specs.declared.decls.TypedName.{TypedName}
use Rattle.ae_syntax.specs.declared.types.WrittenType.{WrittenType}
use Rattle.ae_syntax.specs.Grammar.{Items, of_types, of_vars, of_names, of_constructors, of_formals, separator}
use Rattle.ae_syntax.specs.Inner.Machine.{Want, type_head, type_body, type_definition, type_end, logic_head, logic_sorts, after_sort, a_result, formals_end, predicate_head, record_wants, more_params, be_choice, be_symbols, sort_result, on_type, feed, finish as finish_run, run, all, a_file, decl_wants, a_type, more_type, base_type, bracketed_sorts, bracket_sorts, items_wants, more, begin, add, past, the_sign, element_wants, typed_wants, give_type, named, if_some, keep, pass, make, Rule, apply, skip, take, refuse, then_wants, act, idle, wrong, deep, judge}
use Rattle.ae_syntax.specs.Inner.Reading.{grip_of, grip, Done, Answered, IsAt, Stands, Lacks}
use Rattle.ae_syntax.specs.Inner.ReadingDecls.{Leads, Halts, at_wrong, at_deep, for_memory, SortsGoOn, DeclRead, FileRead}
use Rattle.ae_syntax.proofs.ParserMeetsMachine.Steps.{went, judge_act, went_refuse, went_skip, judge_at, went_take, went_deep, left_at, Refuses, refused, Skips, skipped, judge_make, no_keep, no_pass, relay, Reaches}
use Rattle.ae_syntax.specs.declared.cursor.TheConstants.{DEPTH_LIMIT}

-- ---- one after the other
pub leads_on : {W W' W'' : List Want} {G G' G'' : List Part} {T : List Token} {at mid to : ℕ} → Leads W G T at W' G' mid → Leads W' G' T mid W'' G'' to → Leads W G T at W'' G'' to
leads_on p q = record { runs = λ ss v. p.runs ss v ∙ q.runs ss v; further = let a = p.further in let b = q.further in omega (arith, a, b); within = q.within }

pub leads_none : {W : List Want} {G : List Part} {T : List Token} (at : ℕ) → at ≤ length T → Leads W G T at W G at
leads_none at l = record { runs = λ ss v. refl; further = omega arith; within = l }

-- what is refused later is refused before
pub halts_on : {W W' : List Want} {G G' : List Part} {T : List Token} {at mid : ℕ} {e : Refusal} → Leads W G T at W' G' mid → Halts W' G' T mid e → Halts W G T at e
halts_on p (at_wrong k i q) = at_wrong k i (record { runs = λ ss v. p.runs ss v ∙ q.runs ss v; within = q.within })
halts_on p (at_deep k i q) = at_deep k i (record { runs = λ ss v. p.runs ss v ∙ q.runs ss v; within = q.within })
halts_on p (for_memory i) = for_memory i

-- ---- a part that another function read
go_small : (k : TokenKind) → grip_of k < 8
go_small (kind.Sign sign.Arrow) = omega arith
go_small (kind.Sign sign.Iff) = omega arith
go_small (kind.Reserved word.Xor) = omega arith
go_small (kind.Reserved word.Or) = omega arith
go_small (kind.Reserved word.And) = omega arith
go_small (kind.Sign sign.Plus) = omega arith
go_small (kind.Sign sign.Minus) = omega arith
go_small (kind.Sign sign.Star) = omega arith
go_small (kind.Sign sign.Slash) = omega arith
go_small (kind.Sign sign.Percent) = omega arith
go_small (kind.Sign sign.Dot) = omega arith
go_small k = omega arith

pub grip_small : (ts : List Token) → grip ts < 8
unfolding grip
grip_small [] = omega arith
grip_small (t ∷ ts) = go_small t.kind

pub leads_done : {W : List Want} {G : List Part} {T : List Token} {at to : ℕ} {p : Part} → Leads W G T at [] (p ∷ []) to → Done W G T 8 at to p
leads_done {T} {to} l = record { runs = l.runs; further = l.further; within = l.within; weak = grip_small (drop to T) }

pub halts_answer : {A : Type 0} {W : List Want} {G : List Part} {T : List Token} {at : ℕ} {e : Refusal} (part : A → Part) (bound : ℕ) → Halts W G T at e → Answered part W G T bound at (Err e)
halts_answer {W} {G} {T} {at} part bound (at_wrong k i h) = subst (λ e. Answered part W G T bound at (Err e)) (sym i) h
halts_answer {W} {G} {T} {at} part bound (at_deep k i h) = subst (λ e. Answered part W G T bound at (Err e)) (sym i) h
halts_answer {W} {G} {T} {at} part bound (for_memory i) = subst (λ e. Answered part W G T bound at (Err e)) (sym i) tt

-- a part that is read first, whatever is wanted and given beside it
pub leads_done_first : {w : Want} (W : List Want) (G : List Part) {T : List Token} {bound at to : ℕ} {p : Part} → Done (w ∷ []) [] T bound at to p → Leads (w ∷ W) G T at W (p ∷ G) to
leads_done_first W G d = record { runs = λ ss v. d.runs (W ++ ss) (G ++ v); further = d.further; within = d.within }

pub halts_first : {A : Type 0} (part : A → Part) (w : Want) (W : List Want) (G : List Part) (T : List Token) (bound at : ℕ) (e : Refusal) → Answered part (w ∷ []) [] T bound at (Err e) → Halts (w ∷ W) G T at e
halts_first part w W G T bound at (Wrong k) h = at_wrong k refl (record { runs = λ ss v. h.runs (W ++ ss) (G ++ v); within = h.within })
halts_first part w W G T bound at (Deep k) h = at_deep k refl (record { runs = λ ss v. h.runs (W ++ ss) (G ++ v); within = h.within })
halts_first part w W G T bound at Memory h = for_memory refl

-- the same of a function that turns wants and parts
pub leads_first : {W0 : List Want} {G0 G1 : List Part} (W : List Want) (G : List Part) {T : List Token} {at to : ℕ} → Leads W0 G0 T at [] G1 to → Leads (W0 ++ W) (G0 ++ G) T at W (G1 ++ G) to
leads_first {W0} {G0} {G1} W G {T} {at} {to} d = record {
  runs = λ ss v. ap (λ z. judge (drop at T) z ((G0 ++ G) ++ v)) (append_assoc W0 W ss) ∙ ap (λ z. judge (drop at T) (W0 ++ (W ++ ss)) z) (append_assoc G0 G v) ∙ d.runs (W ++ ss) (G ++ v) ∙ ap (λ z. judge (drop to T) (W ++ ss) z) (sym (append_assoc G1 G v));
  further = d.further;
  within = d.within;
}

pub halts_before : {W0 : List Want} {G0 : List Part} (W : List Want) (G : List Part) {T : List Token} {at : ℕ} {e : Refusal} → Halts W0 G0 T at e → Halts (W0 ++ W) (G0 ++ G) T at e
halts_before {W0} {G0} W G {T} {at} (at_wrong k i h) = at_wrong k i (record { runs = λ ss v. ap (λ z. judge (drop at T) z ((G0 ++ G) ++ v)) (append_assoc W0 W ss) ∙ ap (λ z. judge (drop at T) (W0 ++ (W ++ ss)) z) (append_assoc G0 G v) ∙ h.runs (W ++ ss) (G ++ v); within = h.within })
halts_before {W0} {G0} W G {T} {at} (at_deep k i h) = at_deep k i (record { runs = λ ss v. ap (λ z. judge (drop at T) z ((G0 ++ G) ++ v)) (append_assoc W0 W ss) ∙ ap (λ z. judge (drop at T) (W0 ++ (W ++ ss)) z) (append_assoc G0 G v) ∙ h.runs (W ++ ss) (G ++ v); within = h.within })
halts_before W G (for_memory i) = for_memory i

-- ---- a token
-- the token at a place is taken by the top want
pub takes : {s : Want} (W : List Want) (G : List Part) {T : List Token} {at : ℕ} {t : Token} (d : ℕ) (new : List Want) (G' : List Part) → IsAt T at t → ((v : List Part) → act s (G ++ v) t t.kind ≡ take d new (G' ++ v)) → d ≤ DEPTH_LIMIT → Leads (s ∷ W) G T at (new ++ W) G' (at + 1)
takes {s} W G {T} {at} {t} d new G' i a l = record {
  runs = λ ss v. judge_at T at t s (W ++ ss) (G ++ v) (take d new (G' ++ v)) i (a v) ∙ went_take d new (G' ++ v) (W ++ ss) t (drop (at + 1) T) l ∙ ap (λ z. judge (drop (at + 1) T) z (G' ++ v)) (sym (append_assoc new W ss));
  further = omega arith;
  within = let w = i.within in omega (arith, w);
}

-- or is too deep for it
pub sinks : {s : Want} (W : List Want) (G : List Part) {T : List Token} {at : ℕ} {t : Token} {e : Refusal} (d : ℕ) (new : List Want) (G' : List Part) → IsAt T at t → ((v : List Part) → act s (G ++ v) t t.kind ≡ take d new (G' ++ v)) → DEPTH_LIMIT < d → e ≡ Deep at → Halts (s ∷ W) G T at e
sinks {s} W G {T} {at} {t} d new G' i a l h = at_deep at h (record {
  runs = λ ss v. judge_at T at t s (W ++ ss) (G ++ v) (take d new (G' ++ v)) i (a v) ∙ went_deep d new (G' ++ v) (W ++ ss) t (drop (at + 1) T) l ∙ ap deep (left_at T at t i);
  within = i.within;
})

-- nothing there is the top's own
pub stops_here : {s : Want} (W : List Want) (G : List Part) {T : List Token} {at : ℕ} {e : Refusal} → at ≤ length T → ((v : List Part) → Refuses s (G ++ v) T at) → e ≡ Wrong at → Halts (s ∷ W) G T at e
stops_here {s} W G {T} {at} l r h = at_wrong at h (record { runs = λ ss v. refused T at s (W ++ ss) (G ++ v) (r v); within = l })

-- the top is passed over
pub passes : {s : Want} (W : List Want) (G G' : List Part) {T : List Token} {at : ℕ} → at ≤ length T → ((v : List Part) → Skips s (G ++ v) (G' ++ v) T at) → Leads (s ∷ W) G T at W G' at
passes {s} W G G' {T} {at} l k = record { runs = λ ss v. skipped T at s (W ++ ss) (G ++ v) (G' ++ v) (k v); further = omega arith; within = l }

-- ---- tokens of one kind
pub keeps : {k : TokenKind} {d : ℕ} (W : List Want) (G : List Part) {T : List Token} {at : ℕ} {t : Token} → IsAt T at t → same t.kind k ≡ true → d ≤ DEPTH_LIMIT → Leads (keep k d ∷ W) G T at W (token t ∷ G) (at + 1)
keeps {k} {d} W G {T} {at} {t} i e l = takes W G d [] (token t ∷ G) i (λ v. ap (λ b. cond b (take d [] (token t ∷ G ++ v)) refuse) e) l

pub lets_pass : {k : TokenKind} {d : ℕ} (W : List Want) (G : List Part) {T : List Token} {at : ℕ} {t : Token} → IsAt T at t → same t.kind k ≡ true → d ≤ DEPTH_LIMIT → Leads (pass k d ∷ W) G T at W G (at + 1)
lets_pass {k} {d} W G {T} {at} {t} i e l = takes W G d [] G i (λ v. ap (λ b. cond b (take d [] (G ++ v)) refuse) e) l

pub lacks_kept : {k : TokenKind} {d : ℕ} (W : List Want) (G : List Part) {T : List Token} {at : ℕ} {e : Refusal} → at ≤ length T → Lacks k T at → e ≡ Wrong at → Halts (keep k d ∷ W) G T at e
lacks_kept {k} {d} W G {T} {at} {e} l n h = stops_here W G l (λ v. no_keep k d (G ++ v) T at n) h

pub lacks_passed : {k : TokenKind} {d : ℕ} (W : List Want) (G : List Part) {T : List Token} {at : ℕ} {e : Refusal} → at ≤ length T → Lacks k T at → e ≡ Wrong at → Halts (pass k d ∷ W) G T at e
lacks_passed {k} {d} W G {T} {at} {e} l n h = stops_here W G l (λ v. no_pass k d (G ++ v) T at n) h

-- parts that become one
pub makes : {r : Rule} (W : List Want) (G G' : List Part) {T : List Token} {at : ℕ} → at ≤ length T → ((v : List Part) → apply r (G ++ v) ≡ G' ++ v) → Leads (make r ∷ W) G T at W G' at
makes {r} W G G' {T} {at} l a = record { runs = λ ss v. judge_make r (drop at T) (W ++ ss) (G ++ v) ∙ ap (λ z. judge (drop at T) (W ++ ss) z) (a v); further = omega arith; within = l }

-- what follows is what a function answers
pub relays : {A : Type 0} (part : A → Part) {W W' : List Want} {G G' : List Part} {T : List Token} {at mid : ℕ} (bound : ℕ) (r : Result (A × ℕ) Refusal) → Leads W G T at W' G' mid → Answered part W' G' T bound mid r → Answered part W G T bound at r
relays part {W} {W'} {G} {G'} {T} {at} {mid} bound r l a = let q : Reaches T W G at W' G' mid = record { runs = λ ss v. l.runs ss v; further = l.further; within = l.within } in relay part bound r q a

-- ---- types
abbrev pub SortAnswered : List Want → List Part → List Token → ℕ → Result (WrittenType × ℕ) Refusal → Type 0
SortAnswered W G T at r = Answered (λ s. sort s) W G T 8 at r

pub type_ends : (T : List Token) (at d : ℕ) (s : WrittenType) → at ≤ length T → Lacks kind.Ident T at → Done (more_type d ∷ []) (sort s ∷ []) T 8 at at (sort s)
type_ends T at d s l n = leads_done (passes [] (sort s ∷ []) (sort s ∷ []) l (λ v. record { here = λ t ts q. ap (λ b. cond b (take (suc d) (more_type (suc d) ∷ []) (named t (sort s ∷ v))) (skip (sort s ∷ v))) (n.none t ts q); end = refl }))

postfix : (T : List Token) (at d : ℕ) (s : WrittenType) (t : Token) (v : List Part) → same t.kind kind.Ident ≡ true → act (more_type d) (sort s ∷ v) t t.kind ≡ take (suc d) (more_type (suc d) ∷ []) (sort (named_after (type_span s) (s ∷ []) t) ∷ v)
postfix T at d s t v e = ap (λ b. cond b (take (suc d) (more_type (suc d) ∷ []) (named t (sort s ∷ v))) (skip (sort s ∷ v))) e

pub type_sinks : (T : List Token) (at d : ℕ) (s : WrittenType) (t : Token) (e : Refusal) → IsAt T at t → same t.kind kind.Ident ≡ true → DEPTH_LIMIT < suc d → e ≡ Deep at → SortAnswered (more_type d ∷ []) (sort s ∷ []) T at (Err e)
type_sinks T at d s t e i k l h = halts_answer (λ s. sort s) 8 (sinks [] (sort s ∷ []) (suc d) (more_type (suc d) ∷ []) (sort (named_after (type_span s) (s ∷ []) t) ∷ []) i (λ v. postfix T at d s t v k) l h)

pub type_goes_on : (T : List Token) (at d d' : ℕ) (s s' : WrittenType) (t : Token) (r : Result (WrittenType × ℕ) Refusal) → IsAt T at t → same t.kind kind.Ident ≡ true → d' ≡ suc d → d' ≤ DEPTH_LIMIT → s' ≡ named_after (type_span s) (s ∷ []) t → SortAnswered (more_type d' ∷ []) (sort s' ∷ []) T (at + 1) r → SortAnswered (more_type d ∷ []) (sort s ∷ []) T at r
type_goes_on T at d d' s s' t r i k m l h a = relays (λ s. sort s) 8 r (takes [] (sort s ∷ []) (suc d) (more_type (suc d) ∷ []) (sort (named_after (type_span s) (s ∷ []) t) ∷ []) i (λ v. postfix T at d s t v k) (subst (λ n. n ≤ DEPTH_LIMIT) m l)) (subst (λ n. SortAnswered (more_type n ∷ []) (sort (named_after (type_span s) (s ∷ []) t) ∷ []) T (at + 1) r) m (subst (λ z. SortAnswered (more_type d' ∷ []) (sort z ∷ []) T (at + 1) r) h a))

-- the next token begins a type that is one token
pub base_reads : (T : List Token) (at d : ℕ) (t : Token) (s : WrittenType) (r : Result (WrittenType × ℕ) Refusal) → IsAt T at t → base_type t t.kind ≡ Some s → d ≤ DEPTH_LIMIT → SortAnswered (more_type d ∷ []) (sort s ∷ []) T (at + 1) r → SortAnswered (a_type d ∷ []) [] T at r
base_reads T at d t s r i b l a = relays (λ s. sort s) 8 r (takes [] [] d (more_type d ∷ []) (sort s ∷ []) i (λ v. ap (λ z. if_some z (λ s. take d (more_type d ∷ []) (sort s ∷ v)) (cond (same t.kind (the_sign sign.OpenParen)) (take (suc d) (bracketed_sorts d) (token t ∷ v)) refuse)) b) l) a

pub no_type : (T : List Token) (at d : ℕ) (t : Token) (e : Refusal) → IsAt T at t → base_type t t.kind ≡ None → same t.kind (the_sign sign.OpenParen) ≡ false → e ≡ Wrong at → SortAnswered (a_type d ∷ []) [] T at (Err e)
no_type T at d t e i b k h = halts_answer (λ s. sort s) 8 (stops_here [] [] (let w = i.within in omega (arith, w)) (λ v. record { here = λ t' ts q. subst (λ z. act (a_type d) v z z.kind ≡ refuse) (ap (λ l. slice_index_or l 0 t) (sym i.next ∙ q)) (other v); end = refl }) h)
  where
    other : (v : List Part) → act (a_type d) v t t.kind ≡ refuse
    other v = ap (λ z. if_some z (λ s. take d (more_type d ∷ []) (sort s ∷ v)) (cond (same t.kind (the_sign sign.OpenParen)) (take (suc d) (bracketed_sorts d) (token t ∷ v)) refuse)) b ∙ ap (λ b. cond b (take (suc d) (bracketed_sorts d) (token t ∷ v)) refuse) k

pub type_missing : (T : List Token) (at d : ℕ) (e : Refusal) → at ≤ length T → drop at T ≡ [] → e ≡ Wrong at → SortAnswered (a_type d ∷ []) [] T at (Err e)
type_missing T at d e l n h = halts_answer (λ s. sort s) 8 (stops_here [] [] l (λ v. record { here = λ t ts q. absurd (let z : 0 ≡ suc (length ts) = sym (ap length n) ∙ ap length q in omega arith); end = refl }) h)

-- what a bracket begins
pub bracket_opens : (W : List Want) (G : List Part) (T : List Token) (at d d' : ℕ) (t : Token) → IsAt T at t → base_type t t.kind ≡ None → same t.kind (the_sign sign.OpenParen) ≡ true → d' ≡ suc d → d' ≤ DEPTH_LIMIT → Leads (a_type d ∷ W) G T at (bracketed_sorts d ++ W) (token t ∷ G) (at + 1)
bracket_opens W G T at d d' t i b k m l = takes W G (suc d) (bracketed_sorts d) (token t ∷ G) i (λ v. bracketed T at d t (G ++ v) b k) (subst (λ n. n ≤ DEPTH_LIMIT) m l)
  where
    bracketed : (T : List Token) (at d : ℕ) (t : Token) (v : List Part) → base_type t t.kind ≡ None → same t.kind (the_sign sign.OpenParen) ≡ true → act (a_type d) v t t.kind ≡ take (suc d) (bracketed_sorts d) (token t ∷ v)
    bracketed T at d t v b k = ap (λ z. if_some z (λ s. take d (more_type d ∷ []) (sort s ∷ v)) (cond (same t.kind (the_sign sign.OpenParen)) (take (suc d) (bracketed_sorts d) (token t ∷ v)) refuse)) b ∙ ap (λ b. cond b (take (suc d) (bracketed_sorts d) (token t ∷ v)) refuse) k

pub bracket_sinks : (T : List Token) (at d : ℕ) (t : Token) (e : Refusal) → IsAt T at t → base_type t t.kind ≡ None → same t.kind (the_sign sign.OpenParen) ≡ true → DEPTH_LIMIT < suc d → e ≡ Deep at → SortAnswered (a_type d ∷ []) [] T at (Err e)
bracket_sinks T at d t e i b k l h = halts_answer (λ s. sort s) 8 (sinks [] [] (suc d) (bracketed_sorts d) (token t ∷ []) i (λ v. ap (λ z. if_some z (λ s. take d (more_type d ∷ []) (sort s ∷ v)) (cond (same t.kind (the_sign sign.OpenParen)) (take (suc d) (bracketed_sorts d) (token t ∷ v)) refuse)) b ∙ ap (λ b. cond b (take (suc d) (bracketed_sorts d) (token t ∷ v)) refuse) k) l h)

-- ---- items
pub items_goes_on : (r : Items) (s : Sign) (d : ℕ) (W : List Want) (G : List Part) {T : List Token} {at : ℕ} {t : Token} → IsAt T at t → same t.kind (kind.Sign s) ≡ true → separator r ≡ s → d ≤ DEPTH_LIMIT → Leads (more r d ∷ W) G T at ((element_wants r d ++ make add ∷ more r d ∷ []) ++ W) G (at + 1)
items_goes_on r s d W G {T} {at} {t} i k e l = takes W G d (element_wants r d ++ make add ∷ more r d ∷ []) G i (λ v. ap (λ b. cond b (take d (element_wants r d ++ make add ∷ more r d ∷ []) (G ++ v)) (skip (G ++ v))) (ap (λ z. same t.kind (kind.Sign z)) e ∙ k)) l

pub items_ends : (r : Items) (s : Sign) (d : ℕ) (W : List Want) (G : List Part) {T : List Token} {at : ℕ} → at ≤ length T → Lacks (kind.Sign s) T at → separator r ≡ s → Leads (more r d ∷ W) G T at W G at
items_ends r s d W G {T} {at} l n e = passes W G G l (λ v. record { here = λ t ts q. ap (λ b. cond b (take d (element_wants r d ++ make add ∷ more r d ∷ []) (G ++ v)) (skip (G ++ v))) (ap (λ z. same t.kind (kind.Sign z)) e ∙ n.none t ts q); end = refl })

-- ---- more types
pub one_more_sort : (T : List Token) (at to d : ℕ) (s : WrittenType) (xs : List WrittenType) → Stands (kind.Sign sign.Comma) T at → d ≤ DEPTH_LIMIT → Done (a_type d ∷ []) [] T 8 (at + 1) to (sort s) → Leads (more of_types d ∷ []) (sorts xs ∷ []) T at (more of_types d ∷ []) (sorts (xs ++ s ∷ []) ∷ []) to
one_more_sort T at to d s xs c l a = leads_on (items_goes_on of_types sign.Comma d [] (sorts xs ∷ []) {T = T} {at = at} {t = c.token} (record { next = c.next; within = c.within; room = c.room }) c.is refl l) (leads_on (leads_done_first (make add ∷ more of_types d ∷ []) (sorts xs ∷ []) a) (makes (more of_types d ∷ []) (sort s ∷ sorts xs ∷ []) (sorts (xs ++ s ∷ []) ∷ []) a.within (λ v. refl)))

pub sort_fails : (T : List Token) (at d : ℕ) (xs : List WrittenType) (e : Refusal) → Stands (kind.Sign sign.Comma) T at → d ≤ DEPTH_LIMIT → SortAnswered (a_type d ∷ []) [] T (at + 1) (Err e) → Halts (more of_types d ∷ []) (sorts xs ∷ []) T at e
sort_fails T at d xs e c l a = halts_on (items_goes_on of_types sign.Comma d [] (sorts xs ∷ []) {T = T} {at = at} {t = c.token} (record { next = c.next; within = c.within; room = c.room }) c.is refl l) (halts_first (λ s. sort s) (a_type d) (make add ∷ more of_types d ∷ []) (sorts xs ∷ []) T 8 (at + 1) e a)

-- ---- a path, step by step
pub start : (W : List Want) (G : List Part) (T : List Token) (at : ℕ) → at ≤ length T → Leads W G T at W G at
start W G T at l = leads_none at l

pub at_place : {W W' : List Want} {G G' : List Part} {T : List Token} {at mid : ℕ} (to : ℕ) → mid ≡ to → Leads W G T at W' G' mid → Leads W G T at W' G' to
at_place {W} {W'} {G} {G'} {T} {at} {mid} to e l = subst (λ n. Leads W G T at W' G' n) e l

pub then_keep : {W W' : List Want} {G G' : List Part} {T : List Token} {at mid d : ℕ} {k : TokenKind} {t : Token} → Leads W G T at (keep k d ∷ W') G' mid → IsAt T mid t → same t.kind k ≡ true → d ≤ DEPTH_LIMIT → Leads W G T at W' (token t ∷ G') (mid + 1)
then_keep {W} {W'} {G} {G'} p i k l = leads_on p (keeps W' G' i k l)

pub stop_keep : {W W' : List Want} {G G' : List Part} {T : List Token} {at mid d : ℕ} {k : TokenKind} {e : Refusal} → Leads W G T at (keep k d ∷ W') G' mid → Lacks k T mid → e ≡ Wrong mid → Halts W G T at e
stop_keep {W} {W'} {G} {G'} p n h = halts_on p (lacks_kept W' G' p.within n h)

pub then_pass : {W W' : List Want} {G G' : List Part} {T : List Token} {at mid d : ℕ} {k : TokenKind} {t : Token} → Leads W G T at (pass k d ∷ W') G' mid → IsAt T mid t → same t.kind k ≡ true → d ≤ DEPTH_LIMIT → Leads W G T at W' G' (mid + 1)
then_pass {W} {W'} {G} {G'} p i k l = leads_on p (lets_pass W' G' i k l)

pub stop_pass : {W W' : List Want} {G G' : List Part} {T : List Token} {at mid d : ℕ} {k : TokenKind} {e : Refusal} → Leads W G T at (pass k d ∷ W') G' mid → Lacks k T mid → e ≡ Wrong mid → Halts W G T at e
stop_pass {W} {W'} {G} {G'} p n h = halts_on p (lacks_passed W' G' p.within n h)

pub then_read : {W W' : List Want} {G G' : List Part} {T : List Token} {at mid to bound : ℕ} {w : Want} {p : Part} → Leads W G T at (w ∷ W') G' mid → Done (w ∷ []) [] T bound mid to p → Leads W G T at W' (p ∷ G') to
then_read {W} {W'} {G} {G'} l d = leads_on l (leads_done_first W' G' d)

pub stop_read : {A : Type 0} {W W' : List Want} {G G' : List Part} {T : List Token} {at mid : ℕ} {w : Want} (part : A → Part) (bound : ℕ) (e : Refusal) → Leads W G T at (w ∷ W') G' mid → Answered part (w ∷ []) [] T bound mid (Err e) → Halts W G T at e
stop_read {W' = W'} {G' = G'} {T = T} {mid = mid} {w = w} part bound e l a = halts_on l (halts_first part w W' G' T bound mid e a)

pub then_make : {W W' : List Want} {G G' : List Part} {T : List Token} {at mid : ℕ} {r : Rule} (G'' : List Part) → Leads W G T at (make r ∷ W') G' mid → ((v : List Part) → apply r (G' ++ v) ≡ G'' ++ v) → Leads W G T at W' G'' mid
then_make {W' = W'} {G' = G'} G'' l a = leads_on l (makes W' G' G'' l.within a)

pub finish : {W : List Want} {G : List Part} {T : List Token} {at to : ℕ} {p : Part} (q : Part) → Leads W G T at [] (p ∷ []) to → q ≡ p → Done W G T 8 at to q
finish {W} {G} {T} {at} {to} q l e = subst (λ z. Done W G T 8 at to z) (sym e) (leads_done l)

-- ---- types in brackets
abbrev pub bracket_wants : ℕ → ℕ → List Want
bracket_wants d n = a_type n ∷ past sign.Comma n ∷ a_type n ∷ make begin ∷ more of_types n ∷ past sign.CloseParen d ∷ keep kind.Ident n ∷ make bracket_sorts ∷ more_type n ∷ []

pub open_bracket : {T : List Token} {at d n : ℕ} {t : Token} → IsAt T at t → base_type t t.kind ≡ None → same t.kind (the_sign sign.OpenParen) ≡ true → n ≡ suc d → n ≤ DEPTH_LIMIT → Leads (a_type d ∷ []) [] T at (bracket_wants d n) (token t ∷ []) (at + 1)
open_bracket {T} {at} {d} {n} {t} i b k m l = subst (λ z. Leads (a_type d ∷ []) [] T at (bracket_wants d z) (token t ∷ []) (at + 1)) (sym m) (bracket_opens [] [] T at d n t i b k m l)

pub then_sorts : {W W' : List Want} {G G' : List Part} {T : List Token} {at mid to d : ℕ} {before found : List WrittenType} (xs : List WrittenType) → Leads W G T at (more of_types d ∷ W') (sorts xs ∷ G') mid → (g : SortsGoOn before found d T mid to []) → Leads W G T at W' (sorts (xs ++ g.new) ∷ G') to
then_sorts {W' = W'} {G' = G'} xs l g = leads_on l (leads_first W' G' (g.leads xs))

pub stop_sorts : {W W' : List Want} {G G' : List Part} {T : List Token} {at mid d : ℕ} {e : Refusal} (xs : List WrittenType) → Leads W G T at (more of_types d ∷ W') (sorts xs ∷ G') mid → ((xs : List WrittenType) → Halts (more of_types d ∷ []) (sorts xs ∷ []) T mid e) → Halts W G T at e
stop_sorts {W' = W'} {G' = G'} xs l h = halts_on l (halts_before W' G' (h xs))

pub sorts_start : (before : List WrittenType) (d : ℕ) (T : List Token) (at : ℕ) → at ≤ length T → SortsGoOn before before d T at at (more of_types d ∷ [])
sorts_start before d T at l = record { new = []; is = sym (append-nil before); further = omega arith; within = l; leads = λ xs. record { runs = λ ss v. ap (λ z. judge (drop at T) (more of_types d ∷ ss) (sorts z ∷ v)) (sym (append-nil xs)); further = omega arith; within = l } }

pub sorts_step : (before found found' : List WrittenType) (d : ℕ) (T : List Token) (at mid to : ℕ) (s : WrittenType) → SortsGoOn before found d T at mid (more of_types d ∷ []) → Stands (kind.Sign sign.Comma) T mid → d ≤ DEPTH_LIMIT → Done (a_type d ∷ []) [] T 8 (mid + 1) to (sort s) → found' ≡ found ++ s ∷ [] → SortsGoOn before found' d T at to (more of_types d ∷ [])
sorts_step before found found' d T at mid to s g c l a e = record {
  new = g.new ++ s ∷ [];
  is = e ∙ ap (λ z. z ++ s ∷ []) g.is ∙ append_assoc before g.new (s ∷ []);
  further = let f = g.further in let k = a.further in omega (arith, f, k);
  within = a.within;
  leads = λ xs. subst (λ z. Leads (more of_types d ∷ []) (sorts xs ∷ []) T at (more of_types d ∷ []) (sorts z ∷ []) to) (append_assoc xs g.new (s ∷ [])) (leads_on (g.leads xs) (one_more_sort T mid to d s (xs ++ g.new) c l a));
}

pub sorts_end : (before found : List WrittenType) (d : ℕ) (T : List Token) (at to : ℕ) → SortsGoOn before found d T at to (more of_types d ∷ []) → Lacks (kind.Sign sign.Comma) T to → SortsGoOn before found d T at to []
sorts_end before found d T at to g n = record { new = g.new; is = g.is; further = g.further; within = g.within; leads = λ xs. leads_on (g.leads xs) (items_ends of_types sign.Comma d [] (sorts (xs ++ g.new) ∷ []) g.within n refl) }

pub sorts_fail : (before found : List WrittenType) (d : ℕ) (T : List Token) (at mid : ℕ) (e : Refusal) → SortsGoOn before found d T at mid (more of_types d ∷ []) → Stands (kind.Sign sign.Comma) T mid → d ≤ DEPTH_LIMIT → SortAnswered (a_type d ∷ []) [] T (mid + 1) (Err e) → (xs : List WrittenType) → Halts (more of_types d ∷ []) (sorts xs ∷ []) T at e
sorts_fail before found d T at mid e g c l a xs = halts_on (g.leads xs) (sort_fails T mid d (xs ++ g.new) e c l a)

-- what follows is what a function answers, at a place and of parts that are the same
pub relays_as : {A : Type 0} {W W' : List Want} {G G' G'' : List Part} {T : List Token} {at mid to : ℕ} (part : A → Part) (bound : ℕ) (r : Result (A × ℕ) Refusal) → Leads W G T at W' G' mid → mid ≡ to → G'' ≡ G' → Answered part W' G'' T bound to r → Answered part W G T bound at r
relays_as {W' = W'} {G' = G'} {T = T} {to = to} part bound r l e h a = relays part bound r (at_place to e l) (subst (λ g. Answered part W' g T bound to r) h a)

-- ---- items of one kind of part
pub items_first : {T : List Token} {at to : ℕ} (w : Items) (d : ℕ) (p q : Part) → Leads (element_wants w d) [] T at [] (p ∷ []) to → alone p ≡ q → Leads (items_wants w d) [] T at (more w d ∷ []) (q ∷ []) to
items_first w d p q l e = then_make (q ∷ []) (leads_first (make begin ∷ more w d ∷ []) [] l) (λ v. ap (λ z. z ∷ v) e)

pub items_first_fails : {T : List Token} {at : ℕ} {e : Refusal} (w : Items) (d : ℕ) → Halts (element_wants w d) [] T at e → Halts (items_wants w d) [] T at e
items_first_fails w d h = halts_before (make begin ∷ more w d ∷ []) [] h

items_comma : {T : List Token} {at mid : ℕ} {W : List Want} {q : Part} (w : Items) (s : Sign) (d : ℕ) → Leads W [] T at (more w d ∷ []) (q ∷ []) mid → Stands (kind.Sign s) T mid → separator w ≡ s → d ≤ DEPTH_LIMIT → Leads W [] T at (element_wants w d ++ make add ∷ more w d ∷ []) (q ∷ []) (mid + 1)
items_comma {T} {at} {mid} {W} {q} w s d l c e b = subst (λ z. Leads W [] T at z (q ∷ []) (mid + 1)) (append-nil (element_wants w d ++ make add ∷ more w d ∷ [])) (leads_on l (items_goes_on w s d [] (q ∷ []) {T = T} {at = mid} {t = c.token} (record { next = c.next; within = c.within; room = c.room }) c.is e b))

pub items_next : {T : List Token} {at mid to : ℕ} {W : List Want} (w : Items) (s : Sign) (d : ℕ) (p q q' : Part) → Leads W [] T at (more w d ∷ []) (q ∷ []) mid → Stands (kind.Sign s) T mid → separator w ≡ s → d ≤ DEPTH_LIMIT → Leads (element_wants w d) [] T (mid + 1) [] (p ∷ []) to → and_then q p ≡ q' → Leads W [] T at (more w d ∷ []) (q' ∷ []) to
items_next w s d p q q' l c e b x h = then_make (q' ∷ []) (leads_on (items_comma w s d l c e b) (leads_first (make add ∷ more w d ∷ []) (q ∷ []) x)) (λ v. ap (λ z. z ∷ v) h)

pub items_next_fails : {T : List Token} {at mid : ℕ} {W : List Want} {q : Part} {x : Refusal} (w : Items) (s : Sign) (d : ℕ) → Leads W [] T at (more w d ∷ []) (q ∷ []) mid → Stands (kind.Sign s) T mid → separator w ≡ s → d ≤ DEPTH_LIMIT → Halts (element_wants w d) [] T (mid + 1) x → Halts W [] T at x
items_next_fails {q = q} w s d l c e b h = halts_on (items_comma w s d l c e b) (halts_before (make add ∷ more w d ∷ []) (q ∷ []) h)

pub items_done : {T : List Token} {at to : ℕ} {W : List Want} {q : Part} (w : Items) (s : Sign) (d : ℕ) → Leads W [] T at (more w d ∷ []) (q ∷ []) to → Lacks (kind.Sign s) T to → separator w ≡ s → Done W [] T 8 at to q
items_done {q = q} w s d l n e = leads_done (leads_on l (items_ends w s d [] (q ∷ []) l.within n e))

-- tokens of a kind
element_token : {T : List Token} {at d : ℕ} {k : TokenKind} {t : Token} (w : Items) → element_wants w d ≡ keep k d ∷ [] → IsAt T at t → same t.kind k ≡ true → d ≤ DEPTH_LIMIT → Leads (element_wants w d) [] T at [] (token t ∷ []) (at + 1)
element_token {T} {at} {d} {k} {t} w e i h l = subst (λ z. Leads z [] T at [] (token t ∷ []) (at + 1)) (sym e) (keeps [] [] i h l)

element_lacks : {T : List Token} {at d : ℕ} {k : TokenKind} {e : Refusal} (w : Items) → element_wants w d ≡ keep k d ∷ [] → at ≤ length T → Lacks k T at → e ≡ Wrong at → Halts (element_wants w d) [] T at e
element_lacks {T} {at} {d} {k} {e} w q b n h = subst (λ z. Halts z [] T at e) (sym q) (lacks_kept [] [] b n h)

pub record NamesSoFar (k : TokenKind) (s : Sign) (T : List Token) (at to : ℕ) (found : List Span) : Type 0 where
  pub further : at ≤ to
  pub within : to ≤ length T
  pub leads : (w : Items) (d : ℕ) → element_wants w d ≡ keep k d ∷ [] → separator w ≡ s → d ≤ DEPTH_LIMIT → Leads (items_wants w d) [] T at (more w d ∷ []) (names found ∷ []) to

pub names_start : {T : List Token} {at : ℕ} {k : TokenKind} (s : Sign) (t : Token) (found : List Span) → IsAt T at t → same t.kind k ≡ true → found ≡ span t ∷ [] → NamesSoFar k s T at (at + 1) found
names_start s t found i h e = record { further = omega arith; within = let w = i.within in omega (arith, w); leads = λ w d q r l. items_first w d (token t) (names found) (element_token w q i h l) (ap (λ z. names z) (sym e)) }

pub names_none : {T : List Token} {at : ℕ} {k : TokenKind} {e : Refusal} (s : Sign) → at ≤ length T → Lacks k T at → e ≡ Wrong at → (w : Items) (d : ℕ) → element_wants w d ≡ keep k d ∷ [] → separator w ≡ s → d ≤ DEPTH_LIMIT → Answered (λ ns. names ns) (items_wants w d) [] T 8 at (Err e)
names_none s b n h w d q r l = halts_answer (λ ns. names ns) 8 (items_first_fails w d (element_lacks w q b n h))

pub names_step : {T : List Token} {at mid to : ℕ} {k : TokenKind} {s : Sign} {t : Token} {found : List Span} (found' : List Span) → NamesSoFar k s T at mid found → Stands (kind.Sign s) T mid → IsAt T (mid + 1) t → same t.kind k ≡ true → found' ≡ found ++ span t ∷ [] → mid + 2 ≡ to → NamesSoFar k s T at to found'
names_step {T} {at} {mid} {to} {k} {s} {t} {found} found' g c i h e m = record {
  further = let f = g.further in omega (arith, f, m);
  within = let w = i.within in omega (arith, w, m);
  leads = λ w d q r l. at_place to (omega (arith, m)) (items_next w s d (token t) (names found) (names found') (g.leads w d q r l) c r l (element_token w q i h l) (ap (λ z. names z) (sym e)));
}

pub names_fail : {T : List Token} {at mid : ℕ} {k : TokenKind} {s : Sign} {found : List Span} {e : Refusal} → NamesSoFar k s T at mid found → Stands (kind.Sign s) T mid → Lacks k T (mid + 1) → e ≡ Wrong (mid + 1) → (w : Items) (d : ℕ) → element_wants w d ≡ keep k d ∷ [] → separator w ≡ s → d ≤ DEPTH_LIMIT → Answered (λ ns. names ns) (items_wants w d) [] T 8 at (Err e)
names_fail {s = s} g c n h w d q r l = halts_answer (λ ns. names ns) 8 (items_next_fails w s d (g.leads w d q r l) c r l (element_lacks w q (let b = c.within in omega (arith, b)) n h))

pub names_end : {T : List Token} {at to : ℕ} {k : TokenKind} {s : Sign} {found : List Span} → NamesSoFar k s T at to found → Lacks (kind.Sign s) T to → (w : Items) (d : ℕ) → element_wants w d ≡ keep k d ∷ [] → separator w ≡ s → d ≤ DEPTH_LIMIT → Done (items_wants w d) [] T 8 at to (names found)
names_end {s = s} g n w d q r l = items_done w s d (g.leads w d q r l) n r

-- names with their types
pub whole_reads : {T : List Token} {W : List Want} {bound at to : ℕ} {p : Part} → Done W [] T bound at to p → Leads W [] T at [] (p ∷ []) to
whole_reads d = record { runs = λ ss v. d.runs ss v; further = d.further; within = d.within }

pub whole_halts : {A : Type 0} (part : A → Part) (W : List Want) (G : List Part) (T : List Token) (bound at : ℕ) (e : Refusal) → Answered part W G T bound at (Err e) → Halts W G T at e
whole_halts part W G T bound at (Wrong k) h = at_wrong k refl h
whole_halts part W G T bound at (Deep k) h = at_deep k refl h
whole_halts part W G T bound at Memory h = for_memory refl

pub record TypedsSoFar (s : Sign) (T : List Token) (at to : ℕ) (found : List TypedName) : Type 0 where
  pub further : at ≤ to
  pub within : to ≤ length T
  pub leads : (w : Items) → element_wants w 1 ≡ typed_wants 1 → separator w ≡ s → Leads (items_wants w 1) [] T at (more w 1 ∷ []) (typeds found ∷ []) to

element_typed : {T : List Token} {at to : ℕ} {n : TypedName} (w : Items) → element_wants w 1 ≡ typed_wants 1 → Done (typed_wants 1) [] T 8 at to (typed n) → Leads (element_wants w 1) [] T at [] (typed n ∷ []) to
element_typed {T} {at} {to} {n} w q d = subst (λ z. Leads z [] T at [] (typed n ∷ []) to) (sym q) (whole_reads d)

element_untyped : {T : List Token} {at : ℕ} (e : Refusal) (w : Items) → element_wants w 1 ≡ typed_wants 1 → Answered (λ n. typed n) (typed_wants 1) [] T 8 at (Err e) → Halts (element_wants w 1) [] T at e
element_untyped {T} {at} e w q a = subst (λ z. Halts z [] T at e) (sym q) (whole_halts (λ n. typed n) (typed_wants 1) [] T 8 at e a)

pub typeds_start : {T : List Token} {at to : ℕ} (s : Sign) (n : TypedName) (found : List TypedName) → Done (typed_wants 1) [] T 8 at to (typed n) → found ≡ n ∷ [] → TypedsSoFar s T at to found
typeds_start s n found d e = record { further = d.further; within = d.within; leads = λ w q r. items_first w 1 (typed n) (typeds found) (element_typed w q d) (ap (λ z. typeds z) (sym e)) }

pub typeds_none : (T : List Token) (at : ℕ) (e : Refusal) (s : Sign) → Answered (λ n. typed n) (typed_wants 1) [] T 8 at (Err e) → (w : Items) → element_wants w 1 ≡ typed_wants 1 → separator w ≡ s → Answered (λ ns. typeds ns) (items_wants w 1) [] T 8 at (Err e)
typeds_none T at e s a w q r = halts_answer (λ ns. typeds ns) 8 (items_first_fails w 1 (element_untyped e w q a))

pub typeds_step : {T : List Token} {at mid to : ℕ} {s : Sign} {found : List TypedName} (n : TypedName) (found' : List TypedName) → TypedsSoFar s T at mid found → Stands (kind.Sign s) T mid → Done (typed_wants 1) [] T 8 (mid + 1) to (typed n) → found' ≡ found ++ n ∷ [] → TypedsSoFar s T at to found'
typeds_step {s = s} {found = found} n found' g c d e = record {
  further = let f = g.further in let k = d.further in omega (arith, f, k);
  within = d.within;
  leads = λ w q r. items_next w s 1 (typed n) (typeds found) (typeds found') (g.leads w q r) c r (omega arith) (element_typed w q d) (ap (λ z. typeds z) (sym e));
}

pub typeds_fail : {T : List Token} {at mid : ℕ} {s : Sign} {found : List TypedName} (e : Refusal) → TypedsSoFar s T at mid found → Stands (kind.Sign s) T mid → Answered (λ n. typed n) (typed_wants 1) [] T 8 (mid + 1) (Err e) → (w : Items) → element_wants w 1 ≡ typed_wants 1 → separator w ≡ s → Answered (λ ns. typeds ns) (items_wants w 1) [] T 8 at (Err e)
typeds_fail {s = s} e g c a w q r = halts_answer (λ ns. typeds ns) 8 (items_next_fails w s 1 (g.leads w q r) c r (omega arith) (element_untyped e w q a))

pub typeds_end : {T : List Token} {at to : ℕ} {s : Sign} {found : List TypedName} → TypedsSoFar s T at to found → Lacks (kind.Sign s) T to → (w : Items) → element_wants w 1 ≡ typed_wants 1 → separator w ≡ s → Done (items_wants w 1) [] T 8 at to (typeds found)
typeds_end {s = s} g n w q r = items_done w s 1 (g.leads w q r) n r

-- ---- whole lists of items on a path
pub then_all : {W : List Want} {H H' : List Part} {T : List Token} {at mid to bound : ℕ} {p : Part} (X W' : List Want) → Leads W H T at (X ++ W') H' mid → Done X [] T bound mid to p → Leads W H T at W' (p ∷ H') to
then_all {H' = H'} X W' l d = leads_on l (leads_first W' H' (whole_reads d))

pub stop_all : {A : Type 0} {W : List Want} {H H' : List Part} {T : List Token} {at mid : ℕ} (part : A → Part) (bound : ℕ) (e : Refusal) (X W' : List Want) → Leads W H T at (X ++ W') H' mid → Answered part X [] T bound mid (Err e) → Halts W H T at e
stop_all {H' = H'} {T = T} {mid = mid} part bound e X W' l a = halts_on l (halts_before W' H' (whole_halts part X [] T bound mid e a))

pub leads_to : {W W' : List Want} {G G' : List Part} {T : List Token} {at to : ℕ} (G'' : List Part) → Leads W G T at W' G' to → G'' ≡ G' → Leads W G T at W' G'' to
leads_to {W} {W'} {G} {G'} {T} {at} {to} G'' l e = subst (λ z. Leads W G T at W' z to) (sym e) l

-- ---- wants that do the same with what is next
-- a token of a kind is kept
pub keeps_alike : {s : Want} {T : List Token} {at : ℕ} (j : TokenKind) (d : ℕ) (new W : List Want) (G G' : List Part) → at ≤ length T → d ≤ DEPTH_LIMIT
    → ((v : List Part) (t : Token) (ts : List Token) → drop at T ≡ t ∷ ts → act s (G ++ v) t t.kind ≡ cond (same t.kind j) (take d new (token t ∷ G' ++ v)) refuse)
    → ((v : List Part) → idle s (G ++ v) ≡ refuse) → Leads (s ∷ W) G T at (keep j d ∷ new ++ W) G' at
keeps_alike {s} {T} {at} j d new W G G' l b a i = record { runs = λ ss v. go ss v (drop at T) refl; further = omega arith; within = l }
  where
    two : (ss : List Want) (v : List Part) (t : Token) (ts : List Token) (x : Bool) → went (cond x (take d new (token t ∷ G' ++ v)) refuse) (W ++ ss) t ts ≡ went (cond x (take d [] (token t ∷ G' ++ v)) refuse) ((new ++ W) ++ ss) t ts
    two ss v t ts true = went_take d new (token t ∷ G' ++ v) (W ++ ss) t ts b ∙ ap (λ z. judge ts z (token t ∷ G' ++ v)) (sym (append_assoc new W ss)) ∙ sym (went_take d [] (token t ∷ G' ++ v) ((new ++ W) ++ ss) t ts b)
    two ss v t ts false = went_refuse (W ++ ss) t ts ∙ sym (went_refuse ((new ++ W) ++ ss) t ts)

    go : (ss : List Want) (v : List Part) (r : List Token) → drop at T ≡ r → judge (drop at T) (s ∷ W ++ ss) (G ++ v) ≡ judge (drop at T) (keep j d ∷ (new ++ W) ++ ss) (G' ++ v)
    go ss v [] e = refused T at s (W ++ ss) (G ++ v) (record { here = λ t ts q. absurd (let z : 0 ≡ suc (length ts) = sym (ap length e) ∙ ap length q in omega arith); end = i v }) ∙ sym (refused T at (keep j d) ((new ++ W) ++ ss) (G' ++ v) (record { here = λ t ts q. absurd (let z : 0 ≡ suc (length ts) = sym (ap length e) ∙ ap length q in omega arith); end = refl }))
    go ss v (t ∷ ts) e = ap (λ z. judge z (s ∷ W ++ ss) (G ++ v)) e ∙ judge_act t ts s (W ++ ss) (G ++ v) (cond (same t.kind j) (take d new (token t ∷ G' ++ v)) refuse) (a v t ts e) ∙ two ss v t ts (same t.kind j) ∙ sym (judge_act t ts (keep j d) ((new ++ W) ++ ss) (G' ++ v) (cond (same t.kind j) (take d [] (token t ∷ G' ++ v)) refuse) refl) ∙ ap (λ z. judge z (keep j d ∷ (new ++ W) ++ ss) (G' ++ v)) (sym e)

-- a type is read
went_then : (d : ℕ) (w new ss : List Want) (u : List Part) (t : Token) (ts : List Token) → went (take d (w ++ new) u) ss t ts ≡ went (take d w u) (new ++ ss) t ts
went_then d w new ss u t ts = elim (cases_lt DEPTH_LIMIT d) [
  | inl h ↦ went_deep d (w ++ new) u ss t ts h ∙ sym (went_deep d w u (new ++ ss) t ts h)
  | inr h ↦ went_take d (w ++ new) u ss t ts h ∙ ap (λ z. judge ts z u) (append_assoc w new ss) ∙ sym (went_take d w u (new ++ ss) t ts h)
]

went_type : (d : ℕ) (new ss : List Want) (v : List Part) (t : Token) (ts : List Token) (o : Option WrittenType) (b : Bool) → went (then_wants (if_some o (λ s. take d (more_type d ∷ []) (sort s ∷ v)) (cond b (take (suc d) (bracketed_sorts d) (token t ∷ v)) refuse)) new) ss t ts ≡ went (if_some o (λ s. take d (more_type d ∷ []) (sort s ∷ v)) (cond b (take (suc d) (bracketed_sorts d) (token t ∷ v)) refuse)) (new ++ ss) t ts
went_type d new ss v t ts (Some s) b = went_then d (more_type d ∷ []) new ss (sort s ∷ v) t ts
went_type d new ss v t ts None true = went_then (suc d) (bracketed_sorts d) new ss (token t ∷ v) t ts
went_type d new ss v t ts None false = went_refuse ss t ts ∙ sym (went_refuse (new ++ ss) t ts)

pub types_alike : {s : Want} {T : List Token} {at : ℕ} (d : ℕ) (new W : List Want) (G : List Part) → at ≤ length T
    → ((v : List Part) (t : Token) (ts : List Token) → drop at T ≡ t ∷ ts → act s (G ++ v) t t.kind ≡ then_wants (on_type d (G ++ v) t t.kind) new)
    → ((v : List Part) → idle s (G ++ v) ≡ refuse) → Leads (s ∷ W) G T at (a_type d ∷ new ++ W) G at
types_alike {s} {T} {at} d new W G l a i = record { runs = λ ss v. go ss v (drop at T) refl; further = omega arith; within = l }
  where
    go : (ss : List Want) (v : List Part) (r : List Token) → drop at T ≡ r → judge (drop at T) (s ∷ W ++ ss) (G ++ v) ≡ judge (drop at T) (a_type d ∷ (new ++ W) ++ ss) (G ++ v)
    go ss v [] e = refused T at s (W ++ ss) (G ++ v) (record { here = λ t ts q. absurd (let z : 0 ≡ suc (length ts) = sym (ap length e) ∙ ap length q in omega arith); end = i v }) ∙ sym (refused T at (a_type d) ((new ++ W) ++ ss) (G ++ v) (record { here = λ t ts q. absurd (let z : 0 ≡ suc (length ts) = sym (ap length e) ∙ ap length q in omega arith); end = refl }))
    go ss v (t ∷ ts) e = ap (λ z. judge z (s ∷ W ++ ss) (G ++ v)) e ∙ judge_act t ts s (W ++ ss) (G ++ v) (then_wants (on_type d (G ++ v) t t.kind) new) (a v t ts e) ∙ went_type d new (W ++ ss) (G ++ v) t ts (base_type t t.kind) (same t.kind (the_sign sign.OpenParen)) ∙ ap (λ z. went (on_type d (G ++ v) t t.kind) z t ts) (sym (append_assoc new W ss)) ∙ sym (judge_act t ts (a_type d) ((new ++ W) ++ ss) (G ++ v) (on_type d (G ++ v) t t.kind) refl) ∙ ap (λ z. judge z (a_type d ∷ (new ++ W) ++ ss) (G ++ v)) (sym e)

-- the same where the token stands as a fact of its kind
takes_at : {s : Want} {T : List Token} {at : ℕ} {k : TokenKind} (W : List Want) (G : List Part) (d : ℕ) (new : List Want) (G' : List Part) (c : Stands k T at) → ((v : List Part) → act s (G ++ v) c.token c.token.kind ≡ take d new (G' ++ v)) → d ≤ DEPTH_LIMIT → Leads (s ∷ W) G T at (new ++ W) G' (at + 1)
takes_at {s} {T} {at} W G d new G' c a l = let i : IsAt T at c.token = record { next = c.next; within = c.within; room = c.room } in takes W G d new G' i a l

-- ---- type declarations
abbrev pub vars_wants : List Want
vars_wants = keep kind.TypeVar 1 ∷ past sign.Comma 1 ∷ items_wants of_vars 1 ++ past sign.CloseParen 0 ∷ make more_params ∷ keep kind.Ident 0 ∷ type_end ∷ []

pub one_param : {T : List Token} {at : ℕ} {t : Token} → Lacks kind.Ident T at → IsAt T at t → same t.kind kind.TypeVar ≡ true → Leads (type_head ∷ []) [] T at (keep kind.Ident 0 ∷ type_end ∷ []) (names (span t ∷ []) ∷ []) (at + 1)
one_param {T} {at} {t} n i k = takes [] [] 0 (keep kind.Ident 0 ∷ type_end ∷ []) (names (span t ∷ []) ∷ []) i (λ v. cond-false _ _ _ (n.none t (drop (at + 1) T) i.next) ∙ cond-true _ _ _ k) (omega arith)

pub open_params : {T : List Token} {at : ℕ} {t : Token} → Lacks kind.Ident T at → Lacks kind.TypeVar T at → IsAt T at t → same t.kind (kind.Sign sign.OpenParen) ≡ true → Leads (type_head ∷ []) [] T at vars_wants [] (at + 1)
open_params {T} {at} {t} n m i k = takes [] [] 1 vars_wants [] i (λ v. cond-false _ _ _ (n.none t (drop (at + 1) T) i.next) ∙ cond-false _ _ _ (m.none t (drop (at + 1) T) i.next) ∙ cond-true _ _ _ k) (omega arith)

pub no_params : {T : List Token} {at : ℕ} {e : Refusal} → at ≤ length T → Lacks kind.Ident T at → Lacks kind.TypeVar T at → Lacks (kind.Sign sign.OpenParen) T at → e ≡ Wrong at → Halts (type_head ∷ []) [] T at e
no_params l n m o h = stops_here [] [] l (λ v. record { here = λ t ts q. cond-false _ _ _ (n.none t ts q) ∙ cond-false _ _ _ (m.none t ts q) ∙ cond-false _ _ _ (o.none t ts q); end = refl }) h

pub plain_head : {T : List Token} {at : ℕ} {t : Token} (f : Token) → IsAt T at t → same t.kind kind.Ident ≡ true → Leads (type_head ∷ []) (token f ∷ []) T at (type_body ∷ []) (token t ∷ names [] ∷ token f ∷ []) (at + 1)
plain_head {t = t} f i k = takes [] (token f ∷ []) 0 (type_body ∷ []) (token t ∷ names [] ∷ token f ∷ []) i (λ v. cond-true _ _ _ k) (omega arith)

pub body_ends : {T : List Token} {at : ℕ} (f n : Token) (ps : List Span) → at ≤ length T → Lacks (kind.Sign sign.Equal) T at → Leads (type_body ∷ []) (token n ∷ names ps ∷ token f ∷ []) T at [] (decl (abstract_type f ps n) ∷ []) at
body_ends f n ps l m = passes [] (token n ∷ names ps ∷ token f ∷ []) (decl (abstract_type f ps n) ∷ []) l (λ v. record { here = λ t ts q. cond-false _ _ _ (m.none t ts q); end = refl })

pub end_ends : {W : List Want} {G : List Part} {T : List Token} {at mid : ℕ} (f n : Token) (ps : List Span) → Leads W G T at (type_end ∷ []) (token n ∷ names ps ∷ token f ∷ []) mid → Lacks (kind.Sign sign.Equal) T mid → Leads W G T at [] (decl (abstract_type f ps n) ∷ []) mid
end_ends f n ps p m = leads_on p (passes [] (token n ∷ names ps ∷ token f ∷ []) (decl (abstract_type f ps n) ∷ []) p.within (λ v. record { here = λ t ts q. cond-false _ _ _ (m.none t ts q); end = refl }))

pub body_goes_on : {T : List Token} {at : ℕ} (G : List Part) → Stands (kind.Sign sign.Equal) T at → Leads (type_body ∷ []) G T at (type_definition ∷ []) G (at + 1)
body_goes_on {T} {at} G c = takes_at [] G 0 (type_definition ∷ []) G c (λ v. cond-true _ _ _ c.is) (omega arith)

pub end_goes_on : {W : List Want} {G G' : List Part} {T : List Token} {at mid : ℕ} → Leads W G T at (type_end ∷ []) G' mid → Stands (kind.Sign sign.Equal) T mid → Leads W G T at (past sign.OpenBrace 1 ∷ record_wants) G' (mid + 1)
end_goes_on {G' = G'} {T = T} {mid = mid} p c = leads_on p (takes_at [] G' 0 (past sign.OpenBrace 1 ∷ record_wants) G' c (λ v. cond-true _ _ _ c.is) (omega arith))

pub form_fields : {W : List Want} {G G' : List Part} {T : List Token} {at mid : ℕ} {t : Token} → Leads W G T at (type_definition ∷ []) G' mid → IsAt T mid t → same t.kind (kind.Sign sign.OpenBrace) ≡ true → Leads W G T at record_wants G' (mid + 1)
form_fields {G' = G'} p i k = leads_on p (takes [] G' 1 record_wants G' i (λ v. cond-true _ _ _ k) (omega arith))

pub form_choices : {W : List Want} {G G' : List Part} {T : List Token} {at mid : ℕ} → Leads W G T at (type_definition ∷ []) G' mid → Lacks (kind.Sign sign.OpenBrace) T mid → Leads W G T at (items_wants of_constructors 0 ++ make be_choice ∷ []) G' mid
form_choices {G' = G'} p n = leads_on p (keeps_alike kind.Ident 0 (make begin ∷ more of_constructors 0 ∷ make be_choice ∷ []) [] G' G' p.within (omega arith) (λ v t ts q. cond-false _ _ _ (n.none t ts q)) (λ v. refl))

-- ---- symbols
pub ac_stands : {T : List Token} {at : ℕ} (f : Token) → Stands (kind.Reserved word.Ac) T at → Leads (logic_head ∷ []) (token f ∷ []) T at (items_wants of_names 0 ++ past sign.Colon 0 ∷ logic_sorts ∷ []) (flag true ∷ token f ∷ []) (at + 1)
ac_stands {T} {at} f c = takes_at [] (token f ∷ []) 0 (items_wants of_names 0 ++ past sign.Colon 0 ∷ logic_sorts ∷ []) (flag true ∷ token f ∷ []) c (λ v. cond-true _ _ _ c.is) (omega arith)

pub ac_lacks : {T : List Token} {at : ℕ} (f : Token) → at ≤ length T → Lacks (kind.Reserved word.Ac) T at → Leads (logic_head ∷ []) (token f ∷ []) T at (items_wants of_names 0 ++ past sign.Colon 0 ∷ logic_sorts ∷ []) (flag false ∷ token f ∷ []) at
ac_lacks f l n = keeps_alike kind.Ident 0 (make begin ∷ more of_names 0 ∷ past sign.Colon 0 ∷ logic_sorts ∷ []) [] (token f ∷ []) (flag false ∷ token f ∷ []) l (omega arith) (λ v t ts q. cond-false _ _ _ (n.none t ts q)) (λ v. refl)

pub prop_sorts : {T : List Token} {at : ℕ} {t : Token} (f : Token) (a : Bool) (ns : List Span) → IsAt T at t → same t.kind (kind.Reserved word.Prop) ≡ true → Leads (logic_sorts ∷ []) (names ns ∷ flag a ∷ token f ∷ []) T at [] (decl (logic_of f a ns [] (prop_at t)) ∷ []) (at + 1)
prop_sorts {t = t} f a ns i k = then_make (decl (logic_of f a ns [] (prop_at t)) ∷ []) (takes [] (names ns ∷ flag a ∷ token f ∷ []) 0 (make be_symbols ∷ []) (result (prop_at t) ∷ sorts [] ∷ names ns ∷ flag a ∷ token f ∷ []) i (λ v. cond-true _ _ _ k) (omega arith)) (λ v. refl)

pub type_sorts : {T : List Token} {at : ℕ} (G : List Part) → at ≤ length T → Lacks (kind.Reserved word.Prop) T at → Leads (logic_sorts ∷ []) G T at (a_type 0 ∷ after_sort ∷ []) G at
type_sorts G l n = types_alike 0 (after_sort ∷ []) [] G l (λ v t ts q. cond-false _ _ _ (n.none t ts q)) (λ v. refl)

pub lone_sort : {W : List Want} {G : List Part} {T : List Token} {at mid : ℕ} (f : Token) (a : Bool) (ns : List Span) (s : WrittenType) → Leads W G T at (after_sort ∷ []) (sort s ∷ names ns ∷ flag a ∷ token f ∷ []) mid → Lacks (kind.Sign sign.Arrow) T mid → Lacks (kind.Sign sign.Comma) T mid → Leads W G T at [] (decl (logic_of f a ns [] (a_sort s)) ∷ []) mid
lone_sort f a ns s p n m = leads_on p (passes [] (sort s ∷ names ns ∷ flag a ∷ token f ∷ []) (decl (logic_of f a ns [] (a_sort s)) ∷ []) p.within (λ v. record { here = λ t ts q. cond-false _ _ _ (n.none t ts q) ∙ cond-false _ _ _ (m.none t ts q); end = refl }))

pub one_argument : {W : List Want} {G G' : List Part} {T : List Token} {at mid : ℕ} (s : WrittenType) → Leads W G T at (after_sort ∷ []) (sort s ∷ G') mid → Stands (kind.Sign sign.Arrow) T mid → Leads W G T at (a_result ∷ make be_symbols ∷ []) (sorts (s ∷ []) ∷ G') (mid + 1)
one_argument {G' = G'} {T = T} {mid = mid} s p c = leads_on p (takes_at [] (sort s ∷ G') 0 (a_result ∷ make be_symbols ∷ []) (sorts (s ∷ []) ∷ G') c (λ v. cond-true _ _ _ c.is) (omega arith))

abbrev pub range_wants : List Want
range_wants = past sign.Arrow 0 ∷ a_result ∷ make be_symbols ∷ []

pub more_arguments : {W : List Want} {G G' : List Part} {T : List Token} {at mid : ℕ} (s : WrittenType) → Leads W G T at (after_sort ∷ []) (sort s ∷ G') mid → Lacks (kind.Sign sign.Arrow) T mid → Stands (kind.Sign sign.Comma) T mid → Leads W G T at (more of_types 0 ∷ range_wants) (sorts (s ∷ []) ∷ G') mid
more_arguments {G' = G'} {T = T} {mid = mid} s p n c = leads_on p (
    let i : IsAt T mid c.token = record { next = c.next; within = c.within; room = c.room } in
    let x : Leads (after_sort ∷ []) (sort s ∷ G') T mid (a_type 0 ∷ make add ∷ more of_types 0 ∷ range_wants) (sorts (s ∷ []) ∷ G') (mid + 1) = takes [] (sort s ∷ G') 0 (a_type 0 ∷ make add ∷ more of_types 0 ∷ range_wants) (sorts (s ∷ []) ∷ G') i (λ v. cond-false _ _ _ (n.none c.token (drop (mid + 1) T) c.next) ∙ cond-true _ _ _ c.is) (omega arith) in
    let y : Leads (more of_types 0 ∷ range_wants) (sorts (s ∷ []) ∷ G') T mid (a_type 0 ∷ make add ∷ more of_types 0 ∷ range_wants) (sorts (s ∷ []) ∷ G') (mid + 1) = takes range_wants (sorts (s ∷ []) ∷ G') 0 (a_type 0 ∷ make add ∷ more of_types 0 ∷ []) (sorts (s ∷ []) ∷ G') i (λ v. cond-true _ _ _ c.is) (omega arith) in
    record { runs = λ ss v. x.runs ss v ∙ sym (y.runs ss v); further = omega arith; within = p.within })

pub prop_result : {T : List Token} {at : ℕ} {t : Token} → IsAt T at t → same t.kind (kind.Reserved word.Prop) ≡ true → Leads (a_result ∷ []) [] T at [] (result (prop_at t) ∷ []) (at + 1)
prop_result {t = t} i k = takes [] [] 0 [] (result (prop_at t) ∷ []) i (λ v. cond-true _ _ _ k) (omega arith)

pub type_result : {T : List Token} {at : ℕ} → at ≤ length T → Lacks (kind.Reserved word.Prop) T at → Leads (a_result ∷ []) [] T at (a_type 0 ∷ make sort_result ∷ []) [] at
type_result l n = types_alike 0 (make sort_result ∷ []) [] [] l (λ v t ts q. cond-false _ _ _ (n.none t ts q)) (λ v. refl)

-- ---- formals
pub no_formals : {T : List Token} {at : ℕ} → Stands (kind.Sign sign.CloseParen) T at → Leads (formals_end ∷ []) [] T at [] (typeds [] ∷ []) (at + 1)
no_formals {T} {at} c = takes_at [] [] 0 [] (typeds [] ∷ []) c (λ v. cond-true _ _ _ c.is) (omega arith)

pub some_formals : {T : List Token} {at : ℕ} → at ≤ length T → Lacks (kind.Sign sign.CloseParen) T at → Leads (formals_end ∷ []) [] T at (items_wants of_formals 1 ++ past sign.CloseParen 0 ∷ []) [] at
some_formals l n = keeps_alike kind.Ident 1 (past sign.Colon 1 ∷ a_type 1 ∷ make give_type ∷ make begin ∷ more of_formals 1 ∷ past sign.CloseParen 0 ∷ []) [] [] [] l (omega arith) (λ v t ts q. cond-false _ _ _ (n.none t ts q)) (λ v. refl)

pub bare_head : {T : List Token} {at : ℕ} → Stands (kind.Sign sign.Equal) T at → Leads (predicate_head ∷ []) [] T at [] (typeds [] ∷ []) (at + 1)
bare_head {T} {at} c = takes_at [] [] 0 [] (typeds [] ∷ []) c (λ v. cond-true _ _ _ c.is) (omega arith)

pub open_head : {T : List Token} {at : ℕ} {t : Token} → Lacks (kind.Sign sign.Equal) T at → IsAt T at t → same t.kind (kind.Sign sign.OpenParen) ≡ true → Leads (predicate_head ∷ []) [] T at (formals_end ∷ past sign.Equal 0 ∷ []) [] (at + 1)
open_head {T} {at} {t} n i k = takes [] [] 1 (formals_end ∷ past sign.Equal 0 ∷ []) [] i (λ v. cond-false _ _ _ (n.none t (drop (at + 1) T) i.next) ∙ cond-true _ _ _ k) (omega arith)

pub no_head : {T : List Token} {at : ℕ} {e : Refusal} → at ≤ length T → Lacks (kind.Sign sign.Equal) T at → Lacks (kind.Sign sign.OpenParen) T at → e ≡ Wrong at → Halts (predicate_head ∷ []) [] T at e
no_head l n o h = stops_here [] [] l (λ v. record { here = λ t ts q. cond-false _ _ _ (n.none t ts q) ∙ cond-false _ _ _ (o.none t ts q); end = refl }) h

-- ---- a declaration in a file
grouped_end : (w : List Token) (X Y : List Want) (v : List Part) → judge w ((X ++ Y) ++ []) (v ++ []) ≡ judge w (X ++ Y) v
grouped_end w X Y v = ap (λ z. judge w z (v ++ [])) (append-nil (X ++ Y)) ∙ ap (λ z. judge w (X ++ Y) z) (append-nil v)

begun : (T : List Token) (at : ℕ) (t : Token) (ds : List Decl) (W : List Want) → IsAt T at t → decl_wants t.kind ≡ Some W → Leads (a_file ∷ []) (decls ds ∷ []) T at (W ++ make add ∷ a_file ∷ []) (token t ∷ decls ds ∷ []) (at + 1)
begun T at t ds W i e = subst (λ z. Leads (a_file ∷ []) (decls ds ∷ []) T at z (token t ∷ decls ds ∷ []) (at + 1)) (append-nil (W ++ make add ∷ a_file ∷ [])) (takes [] (decls ds ∷ []) 0 (W ++ make add ∷ a_file ∷ []) (token t ∷ decls ds ∷ []) i (λ v. ap (λ z. if_some z (λ wants. take 0 (wants ++ make add ∷ a_file ∷ []) (token t ∷ decls ds ∷ v)) (skip (decls ds ∷ v))) e) (omega arith))

pub declared : (T : List Token) (at : ℕ) (t : Token) (W : List Want) (r : Result (Decl × ℕ) Refusal) → IsAt T at t → decl_wants t.kind ≡ Some W → Answered (λ d. decl d) W (token t ∷ []) T 8 (at + 1) r → DeclRead T at r
declared T at t W (Ok p) i e d = (let f = d.further in omega (arith, f), d.within, λ ds. let l : Leads W (token t ∷ []) T (at + 1) [] (decl p.0 ∷ []) p.1 = record { runs = d.runs; further = d.further; within = d.within } in then_make (decls (ds ++ p.0 ∷ []) ∷ []) (leads_on (begun T at t ds W i e) (leads_first (make add ∷ a_file ∷ []) (decls ds ∷ []) l)) (λ v. refl))
declared T at t W (Err (Wrong k)) i e a = (a.within, λ ds. let b = begun T at t ds W i e in b.runs [] [] ∙ grouped_end (drop (at + 1) T) W (make add ∷ a_file ∷ []) (token t ∷ decls ds ∷ []) ∙ a.runs (make add ∷ a_file ∷ []) (decls ds ∷ []))
declared T at t W (Err (Deep k)) i e a = (a.within, λ ds. let b = begun T at t ds W i e in b.runs [] [] ∙ grouped_end (drop (at + 1) T) W (make add ∷ a_file ∷ []) (token t ∷ decls ds ∷ []) ∙ a.runs (make add ∷ a_file ∷ []) (decls ds ∷ []))
declared T at t W (Err Memory) i e a = tt

nothing_wanted : (t : Token) (ts : List Token) (u : List Part) → judge (t ∷ ts) [] u ≡ wrong (suc (length ts))
unfolding run feed
nothing_wanted t ts u = refl

pub undeclared : (T : List Token) (at : ℕ) (t : Token) → IsAt T at t → decl_wants t.kind ≡ None → DeclRead T at (Err (Wrong at))
undeclared T at t i e = (let w = i.within in omega (arith, w), λ ds. ap (λ z. judge z (a_file ∷ []) (decls ds ∷ [])) i.next ∙ judge_act t (drop (at + 1) T) a_file [] (decls ds ∷ []) (skip (decls ds ∷ [])) (ap (λ z. if_some z (λ wants. take 0 (wants ++ make add ∷ a_file ∷ []) (token t ∷ decls ds ∷ [])) (skip (decls ds ∷ []))) e) ∙ went_skip (decls ds ∷ []) [] t (drop (at + 1) T) ∙ nothing_wanted t (drop (at + 1) T) (decls ds ∷ []) ∙ ap wrong (left_at T at t i))

-- each word that begins a declaration
pub no_word : (k : Reserved) → (k ≡ word.Type_ → ⊥) → (k ≡ word.Logic → ⊥) → (k ≡ word.Function → ⊥) → (k ≡ word.Predicate → ⊥) → (k ≡ word.Axiom → ⊥) → (k ≡ word.Goal → ⊥) → decl_wants (kind.Reserved k) ≡ None
no_word word.Type_ a b c d e f = absurd (a refl)
no_word word.Logic a b c d e f = absurd (b refl)
no_word word.Function a b c d e f = absurd (c refl)
no_word word.Predicate a b c d e f = absurd (d refl)
no_word word.Axiom a b c d e f = absurd (e refl)
no_word word.Goal a b c d e f = absurd (f refl)
no_word k a b c d e f = refl

-- ---- a whole file
pub record FileSoFar (T : List Token) (found : List Decl) (at : ℕ) : Type 0 where
  pub runs : judge T (a_file ∷ []) (decls [] ∷ []) ≡ judge (drop at T) (a_file ∷ []) (decls found ∷ [])
  pub within : at ≤ length T

pub file_start : (T : List Token) (found : List Decl) → found ≡ [] → FileSoFar T found 0
file_start T found e = record { runs = ap (λ z. judge T (a_file ∷ []) (decls z ∷ [])) (sym e); within = omega arith }

pub file_step : (T : List Token) (at to : ℕ) (found found' : List Decl) (d : Decl) → FileSoFar T found at → ((ds : List Decl) → Leads (a_file ∷ []) (decls ds ∷ []) T at (a_file ∷ []) (decls (ds ++ d ∷ []) ∷ []) to) → found' ≡ found ++ d ∷ [] → FileSoFar T found' to
file_step T at to found found' d s l e = record { runs = s.runs ∙ (let q = l found in q.runs [] []) ∙ ap (λ z. judge (drop to T) (a_file ∷ []) (decls z ∷ [])) (sym e); within = let q = l found in q.within }

pub file_fails : (T : List Token) (at : ℕ) (found : List Decl) (e : Refusal) → FileSoFar T found at → DeclRead T at (Err e) → FileRead T (Err e)
file_fails T at found (Wrong k) s d = (d.0, s.runs ∙ d.1 found)
file_fails T at found (Deep k) s d = (d.0, s.runs ∙ d.1 found)
file_fails T at found Memory s d = tt

file_over : (ds : List Decl) → judge [] (a_file ∷ []) (decls ds ∷ []) ≡ all (decls ds ∷ [])
unfolding run finish_run
file_over ds = refl

pub file_done : (T : List Token) (at : ℕ) (found : List Decl) → FileSoFar T found at → drop at T ≡ [] → FileRead T (Ok found)
file_done T at found s e = s.runs ∙ ap (λ z. judge z (a_file ∷ []) (decls found ∷ [])) e ∙ file_over found

-- the same with other parts below
pub leads_beside : {W0 W1 : List Want} {G0 G1 : List Part} (G : List Part) {T : List Token} {at to : ℕ} → Leads W0 G0 T at W1 G1 to → Leads W0 (G0 ++ G) T at W1 (G1 ++ G) to
leads_beside {W0} {W1} {G0} {G1} G {T} {at} {to} l = record {
  runs = λ ss v. ap (λ z. judge (drop at T) (W0 ++ ss) z) (append_assoc G0 G v) ∙ l.runs ss (G ++ v) ∙ ap (λ z. judge (drop to T) (W1 ++ ss) z) (sym (append_assoc G1 G v));
  further = l.further;
  within = l.within;
}

last_is : (n : Span) (ns : List Span) (s : Span) → slice_index_or (n ∷ ns) (length ns) s ≡ last_or n ns
last_is n [] s = refl
last_is n (m ∷ ms) s = last_is m ms s

pub last_place : (first : Span) (ns : List Span) (s : Span) → 1 ≤ length ns → slice_index_or ns (length ns - 1) s ≡ last_or first ns
last_place first [] s l = absurd (omega arith)
last_place first (n ∷ ns) s l = let e : suc (length ns) - 1 ≡ length ns = omega arith in ap (λ k. slice_index_or (n ∷ ns) k s) e ∙ last_is n ns s
