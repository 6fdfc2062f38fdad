-- Laws of files and of faults: tokens are one file or have one kind of fault, and what the parser answers is one of them.
use Rattle.std.proofs.Common.{ℕ, suc, ◌+◌, ◌-◌, length-append, ◌<◌, Bool, true, false, List, [], ◌∷◌, ◌++◌, ◌≡◌, Err, length, drop, take, length-drop, take-append-drop, refl, sym, ap, ◌∙◌, subst, arith}
use Rattle.std.proofs.Math.Seq.{drop-append_seam}
use Rattle.std.proofs.lemmas.Bool.{false≢true}
use Rattle.ae_lex.specs.declared.kinds.Token.{Token}
use Rattle.ae_syntax.specs.declared.decls.Decl.{Decl}
use Rattle.ae_syntax.specs.declared.decls.File.{File}
use Rattle.ae_syntax.specs.declared.faults.Refusal.{Refusal}
use Rattle.ae_syntax.specs.declared.faults.Refusal.TheVariants.{Wrong, Deep, Memory}
use Rattle.ae_syntax.specs.declared.faults.SyntaxFault.{SyntaxFault}
use Rattle.ae_syntax.specs.declared.faults.SyntaxFault.TheVariants as fault
use Rattle.ae_syntax.specs.Parts.{Part, decls}
use Rattle.ae_syntax.specs.Inner.Machine.{a_file, judge, all, wrong, deep}
use Rattle.ae_syntax.specs.Inner.ReadingDecls.{FileRead, FaultOf, IsPlaced, wrong_fault}
use Rattle.ae_syntax.specs.Files.{IsParsed, StopsAt, SinksAt, IsSyntaxFault, place, next_is_outside}
use Rattle.ae_syntax.proofs.Whole.{file_stuck, file_deep, parsed_judge, stuck_judge, deep_judge}

-- ---- what the parser answers
pub placed : (T : List Token) (r : Refusal) → FileRead T (Err r) → IsPlaced T r
placed T (Wrong k) d = d.0
placed T (Deep k) d = let l = d.0 in omega (arith, l)
placed T Memory d = tt

wrong_is : (text : List ℕ) (T : List Token) (b : Bool) (at : ℕ) (f : SyntaxFault) → f ≡ wrong_fault b at → StopsAt text T b at → IsSyntaxFault text T f
wrong_is text T true at f e s = subst (λ z. IsSyntaxFault text T z) (sym e) s
wrong_is text T false at f e s = subst (λ z. IsSyntaxFault text T z) (sym e) s

stops : (text : List ℕ) (T : List Token) (k : ℕ) → judge T (a_file ∷ []) (decls [] ∷ []) ≡ wrong (length T - k) → StopsAt text T (next_is_outside (drop k T)) (place text (drop k T))
stops text T k e = record {
  before = take k T;
  after = drop k T;
  cut = sym (take-append-drop k T);
  stuck = file_stuck (take k T) (drop k T) (ap (λ z. judge z (a_file ∷ []) (decls [] ∷ [])) (take-append-drop k T) ∙ e ∙ ap wrong (sym (length-drop k T)));
  word = refl;
  at_is = refl;
}

sinks : (text : List ℕ) (T : List Token) (k : ℕ) (rest : List Token) → drop k T ≡ rest → k < length T → judge T (a_file ∷ []) (decls [] ∷ []) ≡ deep (length T - k) → SinksAt T (place text rest)
sinks text T k [] q l e = absurd (let z : 0 ≡ length T - k = sym (ap length q) ∙ length-drop k T in omega (arith, z, l))
sinks text T k (t ∷ after) q l e =
    let c : T ≡ take k T ++ t ∷ after = sym (take-append-drop k T) ∙ ap (λ z. take k T ++ z) q in
    let n : suc (length after) ≡ length T - k = sym (ap length q) ∙ length-drop k T in
    record { before = take k T; after = after; token = t; cut = c; deep = file_deep (take k T) after t (ap (λ z. judge z (a_file ∷ []) (decls [] ∷ [])) (sym c) ∙ e ∙ ap deep (sym n)); at_is = refl }

pub file_fault : (text : List ℕ) (T : List Token) (r : Refusal) (f : SyntaxFault) → FileRead T (Err r) → FaultOf text T r f → (f ≡ fault.Memory → ⊥) → IsSyntaxFault text T f
file_fault text T (Wrong k) f d e n = wrong_is text T (next_is_outside (drop k T)) (place text (drop k T)) f e (stops text T k d.1)
file_fault text T (Deep k) f d e n = subst (λ z. IsSyntaxFault text T z) (sym e) (sinks text T k (drop k T) refl d.0 d.1)
file_fault text T Memory f d e n = absurd (n e)

-- ---- one file, or a fault
same_trees : (ds es : List Decl) → all (decls ds ∷ []) ≡ all (decls es ∷ []) → ds ≡ es
same_trees ds es e = cc

not_wrong : (v : List Part) (n : ℕ) → all v ≡ wrong n → ⊥
not_wrong v n e = cc

not_deep : (v : List Part) (n : ℕ) → all v ≡ deep n → ⊥
not_deep v n e = cc

pub one_tree : (ts : List Token) (f g : File) → IsParsed ts f → IsParsed ts g → f ≡ g
one_tree ts f g p q = ap (λ ds. record { decls = ds }) (same_trees f.decls g.decls (sym (parsed_judge ts f p) ∙ parsed_judge ts g q))

stops_none : (text : List ℕ) (ts : List Token) (f : File) (b : Bool) (at : ℕ) → IsParsed ts f → StopsAt text ts b at → ⊥
stops_none text ts f b at p s = not_wrong (decls f.decls ∷ []) (length s.after) (sym (parsed_judge ts f p) ∙ ap (λ z. judge z (a_file ∷ []) (decls [] ∷ [])) s.cut ∙ stuck_judge s.before s.after s.stuck)

pub never_both : (text : List ℕ) (ts : List Token) (f : File) (e : SyntaxFault) → IsParsed ts f → IsSyntaxFault text ts e → ⊥
never_both text ts f (fault.Unexpected at) p s = stops_none text ts f _ at p s
never_both text ts f (fault.OutsideProfile at) p s = stops_none text ts f _ at p s
never_both text ts f (fault.TooDeep at) p s = not_deep (decls f.decls ∷ []) (suc (length s.after)) (sym (parsed_judge ts f p) ∙ ap (λ z. judge z (a_file ∷ []) (decls [] ∷ [])) s.cut ∙ deep_judge s.before s.after s.token s.deep)
never_both text ts f fault.Memory p s = absurd s

-- ---- one fault
wrong_once : (m n : ℕ) → wrong m ≡ wrong n → m ≡ n
wrong_once m n e = cc

deep_once : (m n : ℕ) → deep m ≡ deep n → m ≡ n
deep_once m n e = cc

wrong_or_deep : (m n : ℕ) → wrong m ≡ deep n → ⊥
wrong_or_deep m n e = cc

left_over : (ts before after : List Token) → ts ≡ before ++ after → after ≡ drop (length ts - length after) ts
left_over ts before after e =
    let long : length ts ≡ length before + length after = ap length e ∙ length-append before after in
    let n : length before ≡ length ts - length after = omega (arith, long) in
    sym (drop-append_seam before after) ∙ ap (λ z. drop (length before) z) (sym e) ∙ ap (λ n. drop n ts) n

same_rest : (ts before after before' after' : List Token) → ts ≡ before ++ after → ts ≡ before' ++ after' → length after ≡ length after' → after ≡ after'
same_rest ts b a b' a' e f n = left_over ts b a e ∙ ap (λ n. drop (length ts - n) ts) n ∙ sym (left_over ts b' a' f)

stop_judge : (text : List ℕ) (ts : List Token) (b : Bool) (at : ℕ) (s : StopsAt text ts b at) → judge ts (a_file ∷ []) (decls [] ∷ []) ≡ wrong (length s.after)
stop_judge text ts b at s = ap (λ z. judge z (a_file ∷ []) (decls [] ∷ [])) s.cut ∙ stuck_judge s.before s.after s.stuck

sink_judge : (ts : List Token) (at : ℕ) (s : SinksAt ts at) → judge ts (a_file ∷ []) (decls [] ∷ []) ≡ deep (suc (length s.after))
sink_judge ts at s = ap (λ z. judge z (a_file ∷ []) (decls [] ∷ [])) s.cut ∙ deep_judge s.before s.after s.token s.deep

module _ (text : List ℕ) (ts : List Token) where
  same_after : (b c : Bool) (at to : ℕ) (s : StopsAt text ts b at) (r : StopsAt text ts c to) → s.after ≡ r.after
  same_after b c at to s r =
      same_rest ts s.before s.after r.before r.after s.cut r.cut (wrong_once _ _ (sym (stop_judge text ts b at s) ∙ stop_judge text ts c to r))

  same_stop : (b c : Bool) (at to : ℕ) → StopsAt text ts b at → StopsAt text ts c to → at ≡ to
  same_stop b c at to s r = s.at_is ∙ ap (place text) (same_after b c at to s r) ∙ sym r.at_is

  same_word : (b c : Bool) (at to : ℕ) → StopsAt text ts b at → StopsAt text ts c to → b ≡ c
  same_word b c at to s r = sym s.word ∙ ap next_is_outside (same_after b c at to s r) ∙ r.word

  same_sink : (at to : ℕ) → SinksAt ts at → SinksAt ts to → at ≡ to
  same_sink at to s r =
      let n = deep_once _ _ (sym (sink_judge ts at s) ∙ sink_judge ts to r) in
      let rest : s.token ∷ s.after ≡ r.token ∷ r.after = same_rest ts s.before (s.token ∷ s.after) r.before (r.token ∷ r.after) s.cut r.cut n in
      s.at_is ∙ ap (place text) rest ∙ sym r.at_is

  stop_or_sink : {A : Type 0} (b : Bool) (at to : ℕ) → StopsAt text ts b at → SinksAt ts to → A
  stop_or_sink b at to s r = absurd (wrong_or_deep _ _ (sym (stop_judge text ts b at s) ∙ sink_judge ts to r))

  pub one_fault_of : (d e : SyntaxFault) → IsSyntaxFault text ts d → IsSyntaxFault text ts e → d ≡ e
  one_fault_of (fault.Unexpected at) (fault.Unexpected to) s r = ap fault.Unexpected (same_stop false false at to s r)
  one_fault_of (fault.OutsideProfile at) (fault.OutsideProfile to) s r = ap fault.OutsideProfile (same_stop true true at to s r)
  one_fault_of (fault.TooDeep at) (fault.TooDeep to) s r = ap fault.TooDeep (same_sink at to s r)
  one_fault_of (fault.Unexpected at) (fault.OutsideProfile to) s r = absurd (false≢true (same_word false true at to s r))
  one_fault_of (fault.OutsideProfile at) (fault.Unexpected to) s r = absurd (false≢true (same_word false true to at r s))
  one_fault_of (fault.Unexpected at) (fault.TooDeep to) s r = stop_or_sink false at to s r
  one_fault_of (fault.OutsideProfile at) (fault.TooDeep to) s r = stop_or_sink true at to s r
  one_fault_of (fault.TooDeep at) (fault.Unexpected to) s r = stop_or_sink false to at r s
  one_fault_of (fault.TooDeep at) (fault.OutsideProfile to) s r = stop_or_sink true to at r s
  one_fault_of fault.Memory e s r = absurd s
  one_fault_of d fault.Memory s r = absurd r

pub one_fault : (text : List ℕ) (ts : List Token) (d e : SyntaxFault) → IsSyntaxFault text ts d → IsSyntaxFault text ts e → d ≡ e
one_fault text ts d e s r = one_fault_of text ts d e s r
