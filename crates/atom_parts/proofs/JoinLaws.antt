-- The answer of atom_concat/3 for two atoms.
use Rattle.std.proofs.Common.{◌≡◌, ℕ, zero, ◌+◌, ◌<◌, ◌≤◌, if◌then◌else◌, true, codes, List, [], ◌∷◌, ◌++◌, Option, Some, refl, sym, ap, ap₂, subst, ◌∙◌}
use Rattle.std.specs.Prelude.{encode_utf8_all}
use Rattle.std.specs.List.{All, Contains}
use Rattle.std.specs.Str.{all_scalars, chars}
use Rattle.std.proofs.lemmas.Str.{chars-encodes}
use Rattle.std.proofs.lemmas.Bool.{le-ltb, lt-ltb}
use Rattle.std.proofs.lemmas.List.Elements.{All-cons, All-nil, Contains-append_right}
use Rattle.pl_term.specs.Texts.{size}
use Rattle.pl_term.specs.Tree.{Chars, Tree, Trees, atom}
use Rattle.pl_model.specs.Balls.{representation_error}
use Rattle.pl_model.specs.BuiltinRows.{error, one_answer}
use Rattle.pl_model.specs.Checks.{text_of_atom}
use Rattle.pl_model.specs.History.{Proc}
use Rattle.pl_model.specs.TermBuiltins.{three}
use Rattle.atom_api.specs.Names.{Names}
use Rattle.term_store.specs.declared.words.Place.{Place}
use Rattle.term_store.specs.Heap.{atom_name}
use Rattle.term_store.specs.Contents.{Contents, Holds, term_at}
use Rattle.world_api.specs.Asked.{texts_in, texts_in_all}
use Rattle.world_api.specs.Gains.{Gains}
use Rattle.world_api.specs.Texts.{Holds as Keeps}
use Rattle.world_builtins.specs.Naming.{IsHeldAt}
use Rattle.world_builtins.specs.Spelling.{reads}
use Rattle.builtin_rows.specs.Rows.{ArePlaced, Makes, terms_at}
use Rattle.builtin_atom.specs.Answering.{AsksFor, charged}
use Rattle.builtin_atom.proofs.Asking.{asks_given, contains_first}
use Rattle.builtin_atom.proofs.Kept.{held_kept, reads_kept}
use Rattle.builtin_atom.proofs.MadeLaws.{atom_held, atom_reads}
use Rattle.builtin_atom.proofs.Rows.{makes_charged}
use Rattle.atom_parts.specs.Joining.{joined_row}

-- The text is too long, or it is not.
pub joined_long : (a b : Tree) → 248 < size (text_of_atom a ++ text_of_atom b) → error (representation_error (codes "max_atom_length")) ≡ joined_row a b
joined_long a b h =
    let t = text_of_atom a ++ text_of_atom b in
    sym (ap (λ x. if x then error (representation_error (codes "max_atom_length")) else one_answer (three a b (atom t))) (lt-ltb 248 (size t) h))

pub joined_short : (a b : Tree) (t : Chars) → t ≡ text_of_atom a ++ text_of_atom b → size t ≤ 248 → one_answer (three a b (atom t)) ≡ joined_row a b
joined_short a b t e h =
    ap (λ u. one_answer (three a b (atom u))) e
    ∙ sym
    (ap (λ x. if x then error (representation_error (codes "max_atom_length")) else one_answer (three a b (atom (text_of_atom a ++ text_of_atom b))))
    (le-ltb 248 (size (text_of_atom a ++ text_of_atom b)) (subst (λ (u : Chars). size u ≤ 248) e h)))

-- The answer with the terms at two places and the atom that was made.
pub joined_parts : (m n : Names) (s t : Contents) (next a : ℕ) (text : Chars) (p q r : Place) (ps : List Place) → Keeps m n → n a ≡ Some text → t ≡ charged s 0
    → ps ≡ p ∷ (q ∷ (r ∷ [])) → ((u : Contents) → Holds u r × (term_at u r ≡ atom (atom_name a))) → Holds s p → Holds s q → IsHeldAt m s p → IsHeldAt m s q
    → ((three (reads m s p) (reads m s q) (atom text) ∷ []) ≡ (terms_at n t ps ∷ [])) × ((zero ≡ zero) × (Makes s next zero 0 t × ArePlaced n t ps))
joined_parts m n s t next a text p q r ps keeps e same is place hp hq mp mq =
    let us = three (reads m s p) (reads m s q) (atom text) in
    let u = charged s 0 in
    let terms : us ≡ three (reads n u p) (reads n u q) (reads n u r) =
    ap₂ (λ x y. three x y (atom text)) (sym (reads_kept m n keeps s p mp)) (sym (reads_kept m n keeps s q mq))
    ∙ ap (three (reads n s p) (reads n s q)) (sym (atom_reads n u r a text e (place u).1)) in
    let inside : All (Holds u) (p ∷ (q ∷ (r ∷ []))) =
    All-cons (Holds u) p (q ∷ (r ∷ [])) hp (All-cons (Holds u) q (r ∷ []) hq (All-cons (Holds u) r [] (place u).0 (All-nil (Holds u)))) in
    let held : All (IsHeldAt n u) (p ∷ (q ∷ (r ∷ []))) =
    All-cons (IsHeldAt n u) p (q ∷ (r ∷ [])) (held_kept m n keeps s p mp)
    (All-cons (IsHeldAt n u) q (r ∷ []) (held_kept m n keeps s q mq)
    (All-cons (IsHeldAt n u) r [] (atom_held n u r a text e (place u).1) (All-nil (IsHeldAt n u)))) in
    subst (λ (x : Contents). ((us ∷ []) ≡ (terms_at n x ps ∷ [])) × ((zero ≡ zero) × (Makes s next zero 0 x × ArePlaced n x ps))) (sym same)
    (subst (λ (xs : List Place). ((us ∷ []) ≡ (terms_at n u xs ∷ [])) × ((zero ≡ zero) × (Makes s next zero 0 u × ArePlaced n u xs))) (sym is)
    (ap (λ x. x ∷ []) terms, (refl, (makes_charged next s 0, record { inside = inside; held = held }))))

pub joined_asks : (s : Contents) (p : Proc) (ts : Trees) (a b : Tree) (t : Chars) (old new : Option (List Chars)) → s.used + 0 ≤ s.budget → Gains (λ c. c ≡ t) old new
    → AsksFor s p ts (one_answer (three a b (atom t))) old new
joined_asks s p ts a b t old new fits gains =
    asks_given s p ts (three a b (atom t)) 0 (λ c. c ≡ t) old new fits
    (λ c e. subst (λ x. Contains (texts_in_all (three a b (atom t))) x) (sym e)
    (Contains-append_right (texts_in a) (texts_in b ++ ((t ∷ []) ++ [])) t (Contains-append_right (texts_in b) ((t ∷ []) ++ []) t (contains_first t []))))
    gains

-- The text of both.
pub joined_text : (a b : Tree) (f g bs cs : List ℕ) (t : Chars) → a ≡ atom f → b ≡ atom g → bs ≡ encode_utf8_all f → cs ≡ encode_utf8_all g
    → all_scalars f ≡ true → all_scalars g ≡ true → t ≡ chars bs ++ chars cs → t ≡ text_of_atom a ++ text_of_atom b
joined_text a b f g bs cs t ea eb eb' ec sf sg e =
    e
    ∙ ap₂ (λ (x y : List ℕ). x ++ y) (ap chars eb' ∙ chars-encodes f sf ∙ sym (ap text_of_atom ea)) (ap chars ec ∙ chars-encodes g sg ∙ sym (ap text_of_atom eb))
