-- Engines that have begun, each with its alias.
use Rattle.std.proofs.Common.{◌≡◌, ℕ, List, Option, refl}
use Rattle.pl_term.specs.Tree.{Chars}
use Rattle.counted_terms.specs.declared.row.Row.{Row}
use Rattle.counted_terms.specs.declared.row.Row.TheVariants.{Reads, Makes, Waits, NeedsAtoms, Retry, Worn, Memory}
use Rattle.hub_threads.specs.Goals.{called_after}
use Rattle.hub_threads.specs.Rows.{updates_in}

-- a row without an update begins none
pub called_quiet : (row : Row) (n : ℕ) (a : Option Chars) (xs : List (ℕ × Option Chars)) → updates_in row ≡ 0 → called_after row n a xs ≡ xs
called_quiet (Reads r) n a xs e = refl
called_quiet (Makes r) n a xs e = absurd (cc)
called_quiet (Waits on) n a xs e = refl
called_quiet (NeedsAtoms p) n a xs e = refl
called_quiet (Retry c) n a xs e = refl
called_quiet (Worn w) n a xs e = refl
called_quiet Memory n a xs e = refl
