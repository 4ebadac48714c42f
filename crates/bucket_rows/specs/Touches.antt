-- The kind of step with which an engine that scans sets the mark of a slot.
use Rattle.std.specs.Prelude.{ℕ, Bool, ◌==◌, ◌||◌, List, if◌then◌else◌}
use Rattle.std.specs.List.{list_any}
use Rattle.atom_words.specs.declared.view.Held.{Held}
use Rattle.atom_words.specs.declared.view.View.{View}
use Rattle.atom_words.specs.declared.kind.Kind.{Kind}
use Rattle.atom_words.specs.declared.kind.Kind.TheVariants.{Scan, Protect}

-- whether one of these is the slot
abbrev pub has_slot : ℕ → List Held → Bool
has_slot k hs = list_any (λ (h : Held). h.slot == k) hs

-- a slot that the seat holds, or a fixed one, is scanned; another one, whose word was found, is protected
abbrev pub touch : View → ℕ → ℕ → Kind
touch v k x = if has_slot k v.held || has_slot k v.fixed then Scan k else Protect k x
