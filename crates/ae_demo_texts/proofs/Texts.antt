-- How phrases are written.
use Rattle.std.proofs.Common.{ℕ, List, [], ◌∷◌, ◌++◌, ◌≡◌, refl, sym, ap, ◌∙◌, append_assoc, append-nil}
use Rattle.std.specs.Prelude.{codes}
use Rattle.ae_lex.specs.declared.kinds.Sign.TheVariants as sign
use Rattle.ae_demo_texts.proofs.Before.{tenths}
use Rattle.ae_demo_texts.proofs.Phrases.{Argument, named, plus, argument_pieces, Side, alone, one, two, side_pieces, Equation, equation_pieces, chain_pieces, Goal, goal_pieces, mark}
use Rattle.ae_demo_texts.proofs.Pieces.{Gap, nothing, a_blank, a_break, gap_bytes, Piece, text_of}

abbrev pub argument_text : Argument → List ℕ
argument_text (named w k) = w
argument_text (plus w k m) = w ++ (codes " + " ++ tenths m)

abbrev pub side_text : Side → List ℕ
side_text (alone u) = argument_text u
side_text (one f k u) = f ++ (codes "(" ++ (argument_text u ++ codes ")"))
side_text (two f k u v) = f ++ (codes "(" ++ (argument_text u ++ (codes ", " ++ (argument_text v ++ codes ")"))))

abbrev pub equation_text : Equation → List ℕ
equation_text e = side_text e.left ++ (codes " = " ++ side_text e.right)

abbrev pub given_text : List Equation → List ℕ
given_text [] = []
given_text (h ∷ hs) = equation_text h ++ (codes " -> " ++ given_text hs)

abbrev pub goal_text : Goal → List ℕ
goal_text g = codes "goal " ++ (g.name ++ (codes " : " ++ (given_text g.given ++ (equation_text g.then ++ codes "\n"))))

argument_written : (u : Argument) (g : Gap) (qs : List Piece) → text_of (argument_pieces u g ++ qs) ≡ argument_text u ++ (gap_bytes g ++ text_of qs)
argument_written (named w k) g qs = refl
argument_written (plus w k m) g qs = sym (append_assoc w (codes " + " ++ tenths m) (gap_bytes g ++ text_of qs))

side_written : (s : Side) (g : Gap) (qs : List Piece) → text_of (side_pieces s g ++ qs) ≡ side_text s ++ (gap_bytes g ++ text_of qs)
side_written (alone u) g qs = argument_written u g qs
side_written (one f k u) g qs =
    let y = gap_bytes g ++ text_of qs in
    ap (λ z. f ++ (40 ∷ z))
    (ap text_of (append_assoc (argument_pieces u nothing) (mark sign.CloseParen g ∷ []) qs)
    ∙ argument_written u nothing (mark sign.CloseParen g ∷ qs)
    ∙ sym (append_assoc (argument_text u) (codes ")") y))
    ∙ sym (append_assoc f (codes "(" ++ (argument_text u ++ codes ")")) y)
side_written (two f k u v) g qs =
    let y = gap_bytes g ++ text_of qs in
    let more = mark sign.Comma a_blank ∷ (argument_pieces v nothing ++ (mark sign.CloseParen g ∷ [])) in
    let last : text_of ((argument_pieces v nothing ++ (mark sign.CloseParen g ∷ [])) ++ qs) ≡ (argument_text v ++ codes ")") ++ y =
    ap text_of (append_assoc (argument_pieces v nothing) (mark sign.CloseParen g ∷ []) qs)
    ∙ argument_written v nothing (mark sign.CloseParen g ∷ qs)
    ∙ sym (append_assoc (argument_text v) (codes ")") y) in
    ap (λ z. f ++ (40 ∷ z))
    (ap text_of (append_assoc (argument_pieces u nothing) more qs)
    ∙ argument_written u nothing (more ++ qs)
    ∙ ap (λ z. argument_text u ++ (44 ∷ 32 ∷ z)) last
    ∙ sym (append_assoc (argument_text u) (codes ", " ++ (argument_text v ++ codes ")")) y))
    ∙ sym (append_assoc f (codes "(" ++ (argument_text u ++ (codes ", " ++ (argument_text v ++ codes ")")))) y)

equation_written : (e : Equation) (g : Gap) (qs : List Piece) → text_of (equation_pieces e g ++ qs) ≡ equation_text e ++ (gap_bytes g ++ text_of qs)
equation_written e g qs =
    ap text_of (append_assoc (side_pieces e.left a_blank) (mark sign.Equal a_blank ∷ side_pieces e.right g) qs)
    ∙ side_written e.left a_blank (mark sign.Equal a_blank ∷ (side_pieces e.right g ++ qs))
    ∙ ap (λ z. side_text e.left ++ (32 ∷ 61 ∷ 32 ∷ z)) (side_written e.right g qs)
    ∙ sym (append_assoc (side_text e.left) (codes " = " ++ side_text e.right) (gap_bytes g ++ text_of qs))

chain_written : (hs : List Equation) (c : Equation) (qs : List Piece) → text_of (chain_pieces hs c ++ qs) ≡ given_text hs ++ (equation_text c ++ (10 ∷ text_of qs))
chain_written [] c qs = equation_written c a_break qs
chain_written (h ∷ hs) c qs =
    ap text_of (append_assoc (equation_pieces h a_blank) (mark sign.Arrow a_blank ∷ chain_pieces hs c) qs)
    ∙ equation_written h a_blank (mark sign.Arrow a_blank ∷ (chain_pieces hs c ++ qs))
    ∙ ap (λ z. equation_text h ++ (32 ∷ 45 ∷ 62 ∷ 32 ∷ z)) (chain_written hs c qs)
    ∙ sym (append_assoc (equation_text h) (codes " -> " ++ given_text hs) (equation_text c ++ (10 ∷ text_of qs)))

goal_with : (g : Goal) (qs : List Piece) → text_of (goal_pieces g ++ qs) ≡ goal_text g ++ text_of qs
goal_with g qs =
    let t = text_of qs in
    let body = given_text g.given ++ (equation_text g.then ++ codes "\n") in
    ap (λ z. codes "goal " ++ (g.name ++ (codes " : " ++ z)))
    (chain_written g.given g.then qs
    ∙ ap (λ z. given_text g.given ++ z) (sym (append_assoc (equation_text g.then) (codes "\n") t))
    ∙ sym (append_assoc (given_text g.given) (equation_text g.then ++ codes "\n") t))
    ∙ ap (λ z. codes "goal " ++ z) (sym (append_assoc g.name (codes " : " ++ body) t))

pub goal_written : (g : Goal) → text_of (goal_pieces g) ≡ goal_text g
goal_written g = ap text_of (sym (append-nil (goal_pieces g))) ∙ goal_with g [] ∙ append-nil (goal_text g)

pub given_append : (hs ks : List Equation) → given_text (hs ++ ks) ≡ given_text hs ++ given_text ks
given_append [] ks = refl
given_append (h ∷ hs) ks = ap (λ z. equation_text h ++ (codes " -> " ++ z)) (given_append hs ks) ∙ sym (append_assoc (equation_text h) (codes " -> " ++ given_text hs) (given_text ks))
