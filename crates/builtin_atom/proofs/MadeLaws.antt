-- Answers with an atom that was made.
use Rattle.std.proofs.Common.{◌≡◌, ℕ, zero, List, [], ◌∷◌, Some, sym, ap, ap₂, subst, ◌∙◌}
use Rattle.std.specs.Prelude.{IsSome, is_some}
use Rattle.std.specs.List.{All}
use Rattle.std.proofs.lemmas.List.Elements.{All-cons, All-nil}
use Rattle.pl_term.specs.Tree.{Chars, atom}
use Rattle.pl_model.specs.TermBuiltins.{two}
use Rattle.atom_api.specs.Names.{Names}
use Rattle.term_store.specs.declared.words.Place.{Place}
use Rattle.term_store.specs.Heap.{atom_name}
use Rattle.term_store.specs.Contents.{Contents, Holds, term_at}
use Rattle.world_api.specs.Texts.{Holds as Keeps}
use Rattle.world_builtins.specs.Naming.{IsHeldAt, atoms_in}
use Rattle.world_builtins.specs.Spelling.{or_no_text, reads, spelled, text_of}
use Rattle.builtin_rows.specs.Rows.{ArePlaced, Makes, terms_at}
use Rattle.builtin_atom.specs.Answering.{charged}
use Rattle.builtin_atom.proofs.Kept.{held_kept, reads_kept}
use Rattle.builtin_atom.proofs.Rows.{answer_parts, makes_charged}

pub atom_reads : (n : Names) (s : Contents) (p : Place) (a : ℕ) (t : Chars) → n a ≡ Some t → term_at s p ≡ atom (atom_name a) → reads n s p ≡ atom t
atom_reads n s p a t e is = ap (spelled (text_of n)) is ∙ ap (λ o. atom (or_no_text (atom_name a) o)) e

pub atom_held : (n : Names) (s : Contents) (p : Place) (a : ℕ) (t : Chars) → n a ≡ Some t → term_at s p ≡ atom (atom_name a) → IsHeldAt n s p
atom_held n s p a t e is =
    subst (λ u. All (λ b. IsSome (n b)) (atoms_in u)) (sym is) (All-cons (λ b. IsSome (n b)) a [] (ap is_some e) (All-nil (λ b. IsSome (n b))))

-- The answer with the atom and the term at a place.
pub made_parts : (m n : Names) (s t : Contents) (next : ℕ) (a : ℕ) (text : Chars) (p q : Place) (ps : List Place) → Keeps m n → n a ≡ Some text → t ≡ charged s 0 → ps ≡ p ∷ (q ∷ [])
    → ((u : Contents) → Holds u p × (term_at u p ≡ atom (atom_name a))) → Holds s q → IsHeldAt m s q
    → ((two (atom text) (reads m s q) ∷ []) ≡ (terms_at n t ps ∷ [])) × ((zero ≡ zero) × (Makes s next zero 0 t × ArePlaced n t ps))
made_parts m n s t next a text p q ps keeps e same is place hq mq =
    subst (λ (u : Contents). ((two (atom text) (reads m s q) ∷ []) ≡ (terms_at n u ps ∷ [])) × ((zero ≡ zero) × (Makes s next zero 0 u × ArePlaced n u ps))) (sym same)
    (answer_parts n s (charged s 0) next 0 (two (atom text) (reads m s q)) p q ps is
    (ap₂ two (sym (atom_reads n (charged s 0) p a text e (place (charged s 0)).1)) (sym (reads_kept m n keeps s q mq)))
    (makes_charged next s 0) (place (charged s 0)).0 hq (atom_held n (charged s 0) p a text e (place (charged s 0)).1) (held_kept m n keeps s q mq))
