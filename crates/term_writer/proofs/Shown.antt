-- What a page shows once a piece is put.
use Rattle.std.proofs.Common.{◌≡◌, ◌<◌, ◌^◌, ℕ, Bool, true, false, List, [], ◌∷◌, ◌++◌, Option, Some, None, refl, sym, ◌∙◌, ap, append_assoc, lit<}
use Rattle.std.specs.Prelude.{codes, decimal, IsAscii, if◌then◌else◌, ◌||◌}
use Rattle.std.specs.List.{flat_map}
use Rattle.std.specs.Str.{encode_utf8_all, chars}
use Rattle.std.proofs.lemmas.Str.{encodes-append, encodes-IsAscii, encode_ascii, chars-IsAscii}
use Rattle.pl_term.specs.Tree.{Chars}
use Rattle.pl_model.specs.Writing.{last_character, escaped, quoted, variable, would_join}
use Rattle.pl_model.specs.TermWriting.{Piece, Behind, behind, gap, put, text_behind, would_bind}
use Rattle.term_writer.specs.Pages.{piece_of, shown}

piece_behind : (b : Behind) (o : Option Chars) (p : Chars) (ps : List Piece)
    → text_behind b (piece_of o p ∷ ps) ≡ put b p ++ text_behind (behind b o p) ps
piece_behind b None p ps = refl
piece_behind b (Some f) p ps = refl

-- A page to which a piece was added, with the space before it, shows what was to follow that piece.
pub shown_put : (before after : List ℕ) (b c : Behind) (o : Option Chars) (p : Chars) (ps : List Piece)
    → after ≡ before ++ encode_utf8_all (put b p)
    → c ≡ behind b o p
    → shown after c ps ≡ shown before b (piece_of o p ∷ ps)
unfolding shown
shown_put before after b c o p ps grown is =
    let rest = text_behind (behind b o p) ps in
    ap (λ d. after ++ encode_utf8_all (text_behind d ps)) is
    ∙ ap (λ bs. bs ++ encode_utf8_all rest) grown
    ∙ append_assoc before (encode_utf8_all (put b p)) (encode_utf8_all rest)
    ∙ ap (λ bs. before ++ bs) (sym (encodes-append (put b p) rest))
    ∙ ap (λ cs. before ++ encode_utf8_all cs) (sym (piece_behind b o p ps))

-- A space is one byte.
space_encodes : (b : Bool) → encode_utf8_all (if b then codes " " else []) ≡ (if b then codes " " else [])
space_encodes true = ap (λ bs. bs ++ []) (encode_ascii 32 (lit< tt))
space_encodes false = refl

gap_encodes : (b : Behind) (d : ℕ) → encode_utf8_all (gap b d) ≡ gap b d
gap_encodes b d = space_encodes (would_join b.last d || would_bind b.prefix d)

-- The space, and then the bytes of a piece with this first character, were put.
pub characters_put : (before spaced after bs : List ℕ) (b : Behind) (o : Option Chars) (c last : ℕ) (cs : Chars) (ps : List Piece)
    → bs ≡ encode_utf8_all (c ∷ cs)
    → spaced ≡ before ++ gap b c
    → after ≡ spaced ++ bs
    → last ≡ last_character c cs
    → shown after (record { last = last; prefix = o }) ps ≡ shown before b (piece_of o (c ∷ cs) ∷ ps)
characters_put before spaced after bs b o c last cs ps text s a ends =
    shown_put
    before
    after
    b
    (record { last = last; prefix = o })
    o
    (c ∷ cs)
    ps
    (a
    ∙ ap (λ xs. xs ++ bs) s
    ∙ append_assoc before (gap b c) bs
    ∙ ap (λ xs. before ++ (gap b c ++ xs)) text
    ∙ ap (λ xs. before ++ (xs ++ encode_utf8_all (c ∷ cs))) (sym (gap_encodes b c))
    ∙ ap (λ xs. before ++ xs) (sym (encodes-append (gap b c) (c ∷ cs))))
    (ap (λ l. record { last = l; prefix = o }) ends)

-- The same for a text of which the first character is known.
pub text_put : (before spaced after bs : List ℕ) (b : Behind) (o : Option Chars) (c last : ℕ) (f : Chars) (ps : List Piece)
    → (cs : Chars) × (f ≡ c ∷ cs)
    → bs ≡ encode_utf8_all f
    → spaced ≡ before ++ gap b c
    → after ≡ spaced ++ bs
    → last ≡ last_character c f
    → shown after (record { last = last; prefix = o }) ps ≡ shown before b (piece_of o f ∷ ps)
text_put before spaced after bs b o c last f ps (cs, is) text s a ends =
    characters_put before spaced after bs b o c last cs ps (text ∙ ap encode_utf8_all is) s a (ends ∙ ap (last_character c) is)
    ∙ ap (λ g. shown before b (piece_of o g ∷ ps)) (sym is)

-- A text without a character counts for nothing.
pub nothing_put : (before : List ℕ) (b : Behind) (o : Option Chars) (f : Chars) (ps : List Piece)
    → f ≡ []
    → shown before b ps ≡ shown before b (piece_of o f ∷ ps)
unfolding shown
nothing_put before b o f ps is =
    ap (λ cs. before ++ encode_utf8_all cs) (sym (piece_behind b o [] ps))
    ∙ ap (λ g. shown before b (piece_of o g ∷ ps)) (sym is)

pub mark_put : (before spaced after : List ℕ) (b : Behind) (c : ℕ) (ps : List Piece)
    → c < 128
    → spaced ≡ before ++ gap b c
    → after ≡ spaced ++ c ∷ []
    → shown after (record { last = c; prefix = None }) ps ≡ shown before b (piece_of None (c ∷ []) ∷ ps)
mark_put before spaced after b c ps ascii s a =
    characters_put before spaced after (c ∷ []) b None c c [] ps (ap (λ bs. bs ++ []) (sym (encode_ascii c ascii))) s a refl

pub last_push : (c : ℕ) (cs : Chars) (d : ℕ) → last_character c (cs ++ d ∷ []) ≡ d
last_push c [] d = refl
last_push c (b ∷ cs) d = last_push b cs d

quote : encode_utf8_all (codes "'") ≡ codes "'"
quote = ap (λ bs. bs ++ []) (encode_ascii 39 (lit< tt))

-- A quoted name, of which the space, the quote, the escapes and the quote were put.
pub quoted_put : (before spaced opened escapes closed : List ℕ) (b : Behind) (o : Option Chars) (f : Chars) (ps : List Piece)
    → spaced ≡ before ++ gap b 39
    → opened ≡ spaced ++ codes "'"
    → escapes ≡ opened ++ encode_utf8_all (flat_map escaped f)
    → closed ≡ escapes ++ codes "'"
    → shown closed (record { last = 39; prefix = o }) ps ≡ shown before b (piece_of o (quoted f) ∷ ps)
quoted_put before spaced opened escapes closed b o f ps s q m e =
    characters_put
    before
    spaced
    closed
    (codes "'" ++ (encode_utf8_all (flat_map escaped f) ++ codes "'"))
    b
    o
    39
    39
    (flat_map escaped f ++ codes "'")
    ps
    (ap (λ bs. codes "'" ++ (encode_utf8_all (flat_map escaped f) ++ bs)) (sym quote)
    ∙ ap (λ bs. codes "'" ++ bs) (sym (encodes-append (flat_map escaped f) (codes "'")))
    ∙ ap (λ bs. bs ++ encode_utf8_all (flat_map escaped f ++ codes "'")) (sym (encode_ascii 39 (lit< tt))))
    s
    (e
    ∙ ap (λ bs. bs ++ codes "'") (m ∙ ap (λ bs. bs ++ encode_utf8_all (flat_map escaped f)) q)
    ∙ regroup spaced (codes "'") (encode_utf8_all (flat_map escaped f)) (codes "'"))
    (sym (last_push 39 (flat_map escaped f) 39))
  where
    regroup : (a b c d : List ℕ) → ((a ++ b) ++ c) ++ d ≡ a ++ (b ++ (c ++ d))
    regroup a b c d = simp append_assoc

pub variable_put : (before spaced marked after digits : List ℕ) (b : Behind) (last n : ℕ) (ps : List Piece)
    → IsAscii digits
    → digits ≡ decimal n
    → spaced ≡ before ++ gap b 95
    → marked ≡ spaced ++ codes "_"
    → after ≡ marked ++ digits
    → last ≡ last_character 95 (chars digits)
    → shown after (record { last = last; prefix = None }) ps ≡ shown before b (piece_of None (variable n) ∷ ps)
variable_put before spaced marked after digits b last n ps ascii is s m a ends =
    characters_put
    before
    spaced
    after
    (codes "_" ++ digits)
    b
    None
    95
    last
    digits
    ps
    (ap (λ bs. codes "_" ++ bs) (sym (encodes-IsAscii digits ascii))
    ∙ ap (λ bs. bs ++ encode_utf8_all digits) (sym (encode_ascii 95 (lit< tt))))
    s
    (a ∙ ap (λ bs. bs ++ digits) m ∙ append_assoc spaced (codes "_") digits)
    (ends ∙ ap (last_character 95) (chars-IsAscii digits ascii))
    ∙ ap (λ ds. shown before b (piece_of None (codes "_" ++ ds) ∷ ps)) is
