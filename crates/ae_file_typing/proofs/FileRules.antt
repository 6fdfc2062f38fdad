-- Declarations, one after another.
use Rattle.std.proofs.Common.{◌≡◌, ◌∙◌, ℕ, List, [], ◌∷◌, ◌++◌, refl, sym, ap, subst}
use Rattle.std.proofs.lemmas.List.{append_assoc, append-nil, map-append}
use Rattle.ae_core.specs.declared.problems.Signature.{Signature}
use Rattle.ae_core.specs.declared.terms.Sort.{Sort, Var}
use Rattle.ae_base.proofs.AllOf.{all_append}
use Rattle.ae_types.specs.Bound.{bound}
use Rattle.ae_types.specs.Substitutions.{put}
use Rattle.ae_declaration_typing.specs.declared.drafts.Draft as code
use Rattle.ae_declaration_typing.specs.Drafts.{draft_of}
use Rattle.ae_elab.specs.declared.faults.TypeFault.{TypeFault}
use Rattle.ae_elab.specs.declared.faults.TypeFault.TheVariants as fault
use Rattle.ae_elab.specs.declared.typings.Typing.{Typing}
use Rattle.ae_elab.specs.Conditions.{IsPrincipal}
use Rattle.ae_elab.specs.Declarations.{Declared, Draft, conditions_of, decl_rule, decls_rule, no_declarations}
use Rattle.ae_elab.specs.Nodes.{Entry, IsClaim, claim_at}
use Rattle.ae_elab.specs.Rules.{Passed, Rule, give, ◌>>◌}
use Rattle.ae_elab.specs.Steps.{AreNotMet, IsStopped, IsWalked}
use Rattle.ae_elab.specs.Typings.{Begins, nodes_of}
use Rattle.ae_elab.proofs.NodeLaws.{claim_is, later_claim}
use Rattle.ae_elab.proofs.PutLaws.{put_var}
use Rattle.ae_elab.proofs.WalkLaws.{give_walked, then_walked, then_stops, then_stops_later}
use Rattle.ae_syntax.specs.declared.decls.Decl.{Decl}
use Rattle.ae_syntax.specs.declared.decls.File.{File}
use Rattle.ae_file_typing.specs.Files.{IsUntyped, drafts_at}
use Rattle.ae_file_typing.specs.Inner.Walks.{Declares, Stand}

-- ---- with more nodes
pub still_stand : (es fs : List Entry) → Begins es fs → (ds : List code.Draft) → Stand es ds → Stand fs ds
still_stand es fs b [] a = tt
still_stand es fs b (d ∷ ds) a =
    let there = later_claim es fs b d.claim (claim_at es d.claim) a.0 in
    (subst (λ f. IsClaim fs d.claim f) (sym (claim_is fs d.claim (claim_at es d.claim) there)) there, still_stand es fs b ds a.1)

pub same_drafts : (text : List ℕ) (es fs : List Entry) → Begins es fs → (ds : List code.Draft) → Stand es ds → drafts_at text fs ds ≡ drafts_at text es ds
same_drafts text es fs b [] a = refl
same_drafts text es fs b (d ∷ ds) a =
    ap (λ f. draft_of text d f ∷ drafts_at text fs ds) (claim_is fs d.claim (claim_at es d.claim) (later_claim es fs b d.claim (claim_at es d.claim) a.0))
    ∙ ap (λ xs. draft_of text d (claim_at es d.claim) ∷ xs) (same_drafts text es fs b ds a.1)

pub more_drafts : (text : List ℕ) (es : List Entry) (ds ns : List code.Draft) → drafts_at text es (ds ++ ns) ≡ drafts_at text es ds ++ drafts_at text es ns
more_drafts text es ds ns = map-append (λ d. draft_of text d (claim_at es d.claim)) ds ns

-- ---- along the declarations: what the rest comes to, the whole comes to with what is done
abbrev pub declares : Signature → List Draft → Declared
declares sig ds = record { signature = sig; drafts = ds }

module _ (text : List ℕ) (whole : Rule Declared) (m : ℕ → Sort) (start : Passed) where
  pub record Goes (sig : Signature) (u : ℕ → Sort) (now : Passed) (done : List Draft) (rest : List Decl) : Type 0 where
    pub walks : (w : ℕ → Sort) (q : Passed) (y : Declared) → IsWalked (decls_rule text sig rest) u w now q y → IsWalked whole m w start q (declares y.signature (done ++ y.drafts))
    pub stops : (e : TypeFault) → IsStopped (decls_rule text sig rest) u now e → IsStopped whole m start e

  module _ (sig : Signature) (u : ℕ → Sort) (now : Passed) (done : List Draft) (d : Decl) (rest : List Decl) (so_far : Goes sig u now done (d ∷ rest)) where
    abbrev after_rest : Declared → Declared → Rule Declared
    after_rest a b = give (declares b.signature (a.drafts ++ b.drafts))

    abbrev after_one : Declared → Rule Declared
    after_one a = decls_rule text a.signature rest >> after_rest a

    pub goes_stop : (e : TypeFault) → IsStopped (decl_rule text sig d) u now e → IsStopped whole m start e
    goes_stop e a = so_far.stops e (then_stops (decl_rule text sig d) after_one u now e a)

    pub goes_on : (v : ℕ → Sort) (next : Passed) (known : Signature) (new : List Draft) → IsWalked (decl_rule text sig d) u v now next (declares known new) → Goes known v next (done ++ new) rest
    goes_on v next known new a = record {
      walks = λ w q y b.
          subst (λ z. IsWalked whole m w start q (declares y.signature z)) (sym (append_assoc done new y.drafts))
          (so_far.walks w q (declares y.signature (new ++ y.drafts))
          (then_walked (decl_rule text sig d) after_one u v w now next q (declares known new) (declares y.signature (new ++ y.drafts)) a
          (then_walked (decls_rule text known rest) (after_rest (declares known new)) v w w next q q y (declares y.signature (new ++ y.drafts)) b
          (give_walked (declares y.signature (new ++ y.drafts)) w q))));
      stops = λ e b. so_far.stops e
          (then_stops_later (decl_rule text sig d) after_one u v now next (declares known new) e a (then_stops (decls_rule text known rest) (after_rest (declares known new)) v next e b));
    }

  pub goes_end : (sig : Signature) (u : ℕ → Sort) (now : Passed) (done : List Draft) → Goes sig u now done [] → IsWalked whole m u start now (declares sig done)
  goes_end sig u now done g = subst (λ z. IsWalked whole m u start now (declares sig z)) (append-nil done) (g.walks u now (declares sig []) (give_walked (declares sig []) u now))

pub goes_start : (text : List ℕ) (sig : Signature) (ds : List Decl) (m : ℕ → Sort) (p : Passed) → Goes text (decls_rule text sig ds) m p sig m p [] ds
goes_start text sig ds m p = record { walks = λ w q y a. a; stops = λ e a. a }

-- ---- the file's conditions, from nothing
pub none_principal : (m : ℕ → Sort) → ((n : ℕ) → m n ≡ Var n) → IsPrincipal [] m
none_principal m e = record { typing = tt; general = λ f h n. ap (put f) (e n) ∙ put_var f n }

pub no_passed : (p : Passed) → p.next ≡ 0 → p.written ≡ [] → p ≡ record { next = 0; written = [] }
no_passed p e h = λ i. record { next = e i; written = h i }

refused_file : (text : List ℕ) (file : File) (m : ℕ → Sort) (p : IsPrincipal [] m) (e : TypeFault) → AreNotMet (conditions_of text file) m e → IsUntyped text file e
refused_file text file m p (fault.UnknownName n i j) a = a [] p
refused_file text file m p (fault.Arity i j) a = a [] p
refused_file text file m p (fault.Mismatch s t i j) a = a [] p
refused_file text file m p (fault.Twice n i j) a = a [] p
refused_file text file m p (fault.NotProp i j) a = a [] p
refused_file text file m p (fault.PropInTerm i j) a = a [] p
refused_file text file m p (fault.BadAc i j) a = a [] p
refused_file text file m p (fault.MissingField i j) a = a [] p
refused_file text file m p (fault.SelfRecord i j) a = a [] p
refused_file text file m p (fault.BadTrigger i j) a = a [] p
refused_file text file m p (fault.TooLarge i j) a = a [] p
refused_file text file m p (fault.Memory x) a = tt

module _ (text : List ℕ) (file : File) (sig : Signature) (m : ℕ → Sort) (p : Passed) (none : sig ≡ no_declarations) (open_ : (n : ℕ) → m n ≡ Var n) (next : p.next ≡ 0) (written : p.written ≡ []) where
  abbrev rule_of : Signature → Rule Declared
  rule_of s = decls_rule text s file.decls

  abbrev begins : Passed
  begins = record { next = 0; written = [] }

  pub file_stops : (e : TypeFault) → IsStopped (rule_of sig) m p e → IsUntyped text file e
  file_stops e a =
      refused_file text file m (none_principal m open_) e
      (subst (λ z. IsStopped (rule_of no_declarations) m z e) (no_passed p next written) (subst (λ z. IsStopped (rule_of z) m p e) none a))

  module _ (w : ℕ → Sort) (q : Passed) (y : Declared) (a : IsWalked (rule_of sig) m w p q y) where
    walked_file : IsWalked (rule_of no_declarations) m w begins q y
    walked_file = subst (λ z. IsWalked (rule_of no_declarations) m w z q y) (no_passed p next written) (subst (λ z. IsWalked (rule_of z) m w p q y) none a)

    pub file_principal : IsPrincipal (conditions_of text file) w
    file_principal = walked_file.met [] (none_principal m open_)

    pub file_value : (rule_of no_declarations begins).value ≡ y
    file_value = walked_file.value

-- ---- one declaration more
module _ (text : List ℕ) (whole : Rule Declared) (m : ℕ → Sort) (start : Passed) (sig known : Signature) (old new : Typing) (ds ns : List code.Draft) (d : Decl) (a : Declares text (decl_rule text sig d) known old new ns)
    (stand : Stand (nodes_of old) ds) where
  pub stand_next : Stand (nodes_of new) (ds ++ ns)
  stand_next = all_append (λ z. IsClaim (nodes_of new) z.claim (claim_at (nodes_of new) z.claim)) ds ns (still_stand (nodes_of old) (nodes_of new) a.kept ds stand) a.stand

  pub goes_next : (rest : List Decl) → Goes text whole m start sig (bound old.bindings) old.passing (drafts_at text (nodes_of old) ds) (d ∷ rest)
      → Goes text whole m start known (bound new.bindings) new.passing (drafts_at text (nodes_of new) (ds ++ ns)) rest
  goes_next rest g =
      subst (λ z. Goes text whole m start known (bound new.bindings) new.passing z rest)
      (ap (λ z. z ++ drafts_at text (nodes_of new) ns) (sym (same_drafts text (nodes_of old) (nodes_of new) a.kept ds stand)) ∙ sym (more_drafts text (nodes_of new) ds ns))
      (goes_on text whole m start sig (bound old.bindings) old.passing (drafts_at text (nodes_of old) ds) d rest g (bound new.bindings) new.passing known (drafts_at text (nodes_of new) ns) a.walked)
