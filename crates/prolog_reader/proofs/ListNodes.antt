-- The nodes of the list of a text's characters or of their codes.
use Rattle.std.proofs.Common.{◌≡◌, ℕ, ℤ, List, [], ◌∷◌, ◌++◌, map, pos, codes, refl, sym, ap, ◌∙◌, append_assoc, append-nil}
use Rattle.std.specs.Char.{IsScalar, encode_utf8}
use Rattle.std.specs.Str.{chars, encode_utf8_all, IsUtf8}
use Rattle.std.proofs.lemmas.Str.{chars_from_encodes, chars_past_char, chars-nil, IsUtf8-encode}
use Rattle.pl_term.specs.Tree.{Chars}
use Rattle.pl_term.specs.Nodes.{nodes}
use Rattle.pl_term.specs.declared.node.Node.{Node}
use Rattle.pl_term.specs.declared.node.Node.TheVariants.{Comp, Int, Atom}
use Rattle.pl_model.specs.TermGrammar.{codes_of, characters_of}

-- The cells of a list, each with its element, and none of the list's end.
abbrev pub code_cells : Chars → List Node
code_cells [] = []
code_cells (c ∷ cs) = Comp (codes ".") 2 ∷ Int (pos c) ∷ code_cells cs

abbrev pub character_cells : Chars → List Node
character_cells [] = []
character_cells (c ∷ cs) = Comp (codes ".") 2 ∷ Atom (c ∷ []) ∷ character_cells cs

abbrev pub list_end : Node
list_end = Atom (codes "[]")

pub nodes-codes : (cs : Chars) → nodes (codes_of cs) ≡ code_cells cs ++ list_end ∷ []
nodes-codes [] = refl
nodes-codes (c ∷ cs) =
    ap (λ ns. Comp (codes ".") 2 ∷ Int (pos c) ∷ ns) (append-nil (nodes (codes_of cs)) ∙ nodes-codes cs)

pub nodes-characters : (cs : Chars) → nodes (characters_of cs) ≡ character_cells cs ++ list_end ∷ []
nodes-characters [] = refl
nodes-characters (c ∷ cs) =
    ap (λ ns. Comp (codes ".") 2 ∷ Atom (c ∷ []) ∷ ns) (append-nil (nodes (characters_of cs)) ∙ nodes-characters cs)

pub code_cells-push : (cs : Chars) (c : ℕ) → code_cells (cs ++ c ∷ []) ≡ code_cells cs ++ (Comp (codes ".") 2 ∷ Int (pos c) ∷ [])
code_cells-push [] c = refl
code_cells-push (d ∷ cs) c = ap (λ ns. Comp (codes ".") 2 ∷ Int (pos d) ∷ ns) (code_cells-push cs c)

pub character_cells-push : (cs : Chars) (c : ℕ) → character_cells (cs ++ c ∷ []) ≡ character_cells cs ++ (Comp (codes ".") 2 ∷ Atom (c ∷ []) ∷ [])
character_cells-push [] c = refl
character_cells-push (d ∷ cs) c = ap (λ ns. Comp (codes ".") 2 ∷ Atom (d ∷ []) ∷ ns) (character_cells-push cs c)

same_items : (cs : List ℕ) → map (λ c. c) cs ≡ cs
same_items [] = refl
same_items (c ∷ cs) = ap (λ ds. c ∷ ds) (same_items cs)

module _ (bs text cs : List ℕ) (utf8 : IsUtf8 bs) (spells : bs ≡ encode_utf8_all text) (given : map (λ c. c) cs ≡ chars bs) where
  pub read-all : cs ≡ text
  read-all = sym (same_items cs) ∙ given ∙ sym (chars_from_encodes text bs utf8 (sym spells))

  -- All characters of a text, and the list's end.
  pub codes-all : (all : List Node) (e : Chars) → e ≡ codes "[]" → all ≡ code_cells cs ++ Atom e ∷ [] → all ≡ nodes (codes_of text)
  codes-all all e end so_far =
      so_far ∙ ap (λ f. code_cells cs ++ Atom f ∷ []) end ∙ ap (λ ds. code_cells ds ++ list_end ∷ []) read-all ∙ sym (nodes-codes text)

  pub characters-all : (all : List Node) (e : Chars) → e ≡ codes "[]" → all ≡ character_cells cs ++ Atom e ∷ [] → all ≡ nodes (characters_of text)
  characters-all all e end so_far =
      so_far ∙ ap (λ f. character_cells cs ++ Atom f ∷ []) end ∙ ap (λ ds. character_cells ds ++ list_end ∷ []) read-all ∙ sym (nodes-characters text)

-- One character more.
pub codes-more : (before between now : List Node) (cs : List ℕ) (c : ℕ) (n : Node) (i : ℤ) → before ≡ code_cells cs → n ≡ Comp (codes ".") 2 → i ≡ pos c
    → between ≡ before ++ n ∷ [] → now ≡ between ++ Int i ∷ [] → now ≡ code_cells (cs ++ c ∷ [])
codes-more before between now cs c n i so_far cell code put put_code =
    put_code ∙ ap (λ j. between ++ Int j ∷ []) code ∙ ap (λ ns. ns ++ Int (pos c) ∷ []) put ∙ append_assoc before (n ∷ []) (Int (pos c) ∷ [])
    ∙ ap (λ ns. ns ++ (n ∷ Int (pos c) ∷ [])) so_far ∙ ap (λ m. code_cells cs ++ (m ∷ Int (pos c) ∷ [])) cell ∙ sym (code_cells-push cs c)

pub characters-more : (before between now : List Node) (cs : List ℕ) (c : ℕ) (n : Node) (t : Chars) → before ≡ character_cells cs → n ≡ Comp (codes ".") 2
    → t ≡ c ∷ [] → between ≡ before ++ n ∷ [] → now ≡ between ++ Atom t ∷ [] → now ≡ character_cells (cs ++ c ∷ [])
characters-more before between now cs c n t so_far cell text put put_text =
    put_text ∙ ap (λ u. between ++ Atom u ∷ []) text ∙ ap (λ ns. ns ++ Atom (c ∷ []) ∷ []) put ∙ append_assoc before (n ∷ []) (Atom (c ∷ []) ∷ [])
    ∙ ap (λ ns. ns ++ (n ∷ Atom (c ∷ []) ∷ [])) so_far ∙ ap (λ m. character_cells cs ++ (m ∷ Atom (c ∷ []) ∷ [])) cell ∙ sym (character_cells-push cs c)

-- The text of one character.
pub one-character : (bs ds : List ℕ) (c : ℕ) → bs ≡ [] → ds ≡ bs ++ encode_utf8 c → IsScalar c → chars ds ≡ c ∷ []
one-character bs ds c none put scalar =
    ap chars (put ∙ ap (λ xs. xs ++ encode_utf8 c) none)
    ∙ chars_past_char (encode_utf8 c) [] c (IsUtf8-encode c scalar) (sym (append-nil (encode_utf8 c))) ∙ ap (λ cs. c ∷ cs) chars-nil
