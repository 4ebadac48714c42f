-- Steps that were not made.
use Rattle.std.specs.Prelude.{List, [], ◌∷◌, ◌++◌, ◌≡◌, Option, Some, None, Result, Ok, Err}
use Rattle.pl_term.specs.declared.memory.Memory.{Memory as NoMemory}
use Rattle.atom_words.specs.declared.view.Refusal.{Refusal}
use Rattle.atom_words.specs.declared.view.Refusal.TheVariants.{Full as RefusalFull, Again as RefusalAgain, Worn as RefusalWorn}
use Rattle.iso_engine.specs.declared.slices.Slice.{Slice}
use Rattle.iso_engine.specs.declared.slices.Slice.TheVariants as slices
pub use Rattle.world_api.specs.Unserved.{OnRefusal, UnlessMemory, refusals_in}
use Rattle.world_api.specs.declared.unserved.Unserved.{Unserved}
use Rattle.world_api.specs.declared.unserved.Unserved.TheVariants.{NeedsAtoms, Retry, Worn, Memory}

-- How a slice ends at the step, if it does.
abbrev pub as_stopped : Result (Option Slice) Unserved → Result (Option Slice) NoMemory
as_stopped (Ok o) = Ok o
as_stopped (Err (NeedsAtoms p)) = Ok (Some (slices.NeedsAtoms p))
as_stopped (Err (Retry c)) = Ok (Some (slices.Retry c))
as_stopped (Err (Worn w)) = Ok (Some (slices.Worn w))
as_stopped (Err Memory) = Err (record {})

-- What the end of a slice appends to the list of refusals of the atoms.
abbrev pub refusals_of : Slice → List Refusal
refusals_of (slices.NeedsAtoms p) = RefusalFull p ∷ []
refusals_of (slices.Retry c) = RefusalAgain c ∷ []
refusals_of (slices.Worn w) = RefusalWorn w ∷ []
refusals_of _ = []

abbrev pub stopped_refusals : Option Slice → List Refusal
stopped_refusals None = []
stopped_refusals (Some s) = refusals_of s

-- The list of refusals has grown by that of the answer. After running out of memory nothing is said.
abbrev pub IsRefusedBy : Slice → List Refusal → List Refusal → Type 0
IsRefusedBy slices.Memory xs ys = Unit {0}
IsRefusedBy s xs ys = ys ≡ xs ++ refusals_of s
