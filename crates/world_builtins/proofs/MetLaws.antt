-- The texts of atoms that were met one after the other.
use Rattle.std.proofs.Common.{◌≡◌, inl, inr, ◌<◌, ℕ, List, [], ◌∷◌, ◌++◌, length, get_or, sym, ap, ◌∙◌, arith}
use Rattle.std.proofs.Math.Seq.{get_or-append_seam}
use Rattle.std.proofs.lemmas.Bool.{cases_lt}
use Rattle.std.proofs.lemmas.List.{get_or_append_left, length_push}
use Rattle.named_terms.specs.NamedNodes.{text_by}
use Rattle.pl_term.specs.Tree.{Chars}
use Rattle.atom_api.specs.Names.{Names}
use Rattle.term_store.specs.Heap.{atom_name}
use Rattle.world_builtins.specs.NamesMet.{Tells}
use Rattle.world_builtins.specs.Spelling.{text_of}

pub none_met : (m : Names) (slots : List ℕ) (names : List Chars) → slots ≡ [] → names ≡ [] → Tells m slots names
none_met m slots names none empty = record { long = ap length empty ∙ sym (ap length none); text = λ k d lt. absurd (omega (arith, lt, ap length none)) }

-- An atom that was found.
pub found_text : (m : Names) (slots : List ℕ) (names : List Chars) (slot p : ℕ) → Tells m slots names → p < length slots → get_or slots p p ≡ slot
    → (p < length names) × (text_by names p ≡ text_of m (atom_name slot))
found_text m slots names slot p tells lt is =
    (omega (arith, lt, tells.long), tells.text p p lt ∙ ap (λ a. text_of m (atom_name a)) is)

-- One atom more.
pub one_met : (m : Names) (slots after : List ℕ) (names texts : List Chars) (slot : ℕ) (t : Chars) → Tells m slots names → after ≡ slots ++ slot ∷ []
    → texts ≡ names ++ t ∷ [] → t ≡ text_of m (atom_name slot) → Tells m after texts
one_met m slots after names texts slot t tells es en is =
    record {
      long = ap length en ∙ omega (arith, length_push names t, length_push slots slot, tells.long) ∙ sym (ap length es);
      text = λ k d lt.
          elim (cases_lt k (length slots)) [
            | inl below ↦
                ap (λ xs. text_by xs k) en
                ∙ get_or_append_left names (t ∷ []) [] k (omega (arith, below, tells.long))
                ∙ tells.text k d below
                ∙ ap (λ a. text_of m (atom_name a)) (sym (ap (λ xs. get_or xs k d) es ∙ get_or_append_left slots (slot ∷ []) d k below))
            | inr above ↦
                let at : k ≡ length slots = omega (arith, lt, above, ap length es, length_push slots slot) in
                ap (λ xs. text_by xs k) en
                ∙ ap (λ j. text_by (names ++ t ∷ []) j) (at ∙ sym tells.long)
                ∙ get_or-append_seam names t [] []
                ∙ is
                ∙ ap (λ a. text_of m (atom_name a))
                (sym (ap (λ xs. get_or xs k d) es ∙ ap (λ j. get_or (slots ++ slot ∷ []) j d) at ∙ get_or-append_seam slots slot [] d))
          ];
    }
