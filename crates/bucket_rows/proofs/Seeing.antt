-- The load of a slot's word, which shows whether its mark is set.
use Rattle.std.proofs.Common.{◌≡◌, ℕ, ◌%◌, ◌<◌, false, List, refl, sym, ap, ◌∙◌, subst, arith}
use mathlib.Core.Logic.{dite}
use mathlib.Core.Option.{none}
use native.Mathlib.Decide.{ℕ_discrete}
use lib.Seq.{set-get_or}
use Rattle.atomic_table.specs.Table.{step, Allows}
use Rattle.atom_words.specs.Board.{Board, atom, atom_at, with_atom}
use Rattle.atom_words.specs.Kinds.{marked, view_after}
use Rattle.atom_words.specs.Rule.{Rule}
use Rattle.atom_words.specs.declared.size.Size.{Size}
use Rattle.atom_words.specs.declared.kind.Kind.TheVariants.{Load, Protect}
use Rattle.atom_words.proofs.Regions.{atom_read}
use Rattle.atom_words.proofs.Adapters.{Sat, atom_load}
use Rattle.bucket_rows.specs.Plays.{mark_seen}

-- a word with its mark set stays as it is where that is set
marked_same : (b : Board) (k : ℕ) → atom b k % 8 ≡ 7 → b ≡ with_atom b k (marked (atom b k))
marked_same b k set_ = let plain : marked (atom b k) ≡ atom b k = omega arith in sym (ap (with_atom b k) plain ∙ ap (λ (l : List ℕ). let y : Board = record b { atoms = l } in y) (set-get_or b.atoms k 0))

pub seeing_mark : (key : Size) (slots id : ℕ) (me : Sat) → key ≡ me.0.size → me.0.gone ≡ false → (i k : ℕ) → i ≡ atom_at me.0.size k → k < me.0.size.slots → Allows (Rule key) slots id me i (λ n. n) (mark_seen (step slots i 0 0 none) me)
seeing_mark key slots id me is here i k at inside = subst (λ (w : ℕ). Allows (Rule key) slots id me w (λ n. n) (mark_seen (step slots w 0 0 none) me)) (sym at)
    (atom_load key me.0.size slots id me k (mark_seen (step slots (atom_at me.0.size k) 0 0 none) me) is here inside
    (λ b vs r seen small. dite (ℕ_discrete (atom b k % 8) 7)
    (λ (set_ : atom b k % 8 ≡ 7). (Protect k (atom b k), (inside, refl, marked_same b k set_), (refl, λ j e. let same : k ≡ j = omega arith in ((λ _. ap (λ (x : ℕ). view_after me.0 (Protect x (atom b k))) same), λ ne. absurd (ne set_)))))
    (λ (other : ¬ (atom b k % 8 ≡ 7)). (Load (atom_at me.0.size k) (atom b k), (atom_read me.0.size b r.sized k inside, refl), (refl, λ j e. ((λ t. absurd (other t)), λ _. refl))))))
