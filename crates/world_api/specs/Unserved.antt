-- Calls that were not served.
use Rattle.std.specs.Prelude.{List, [], ◌∷◌, Result, Ok, Err}
use Rattle.atom_words.specs.declared.view.Refusal.{Refusal}
use Rattle.atom_words.specs.declared.view.Refusal.TheVariants.{Full as RefusalFull, Again as RefusalAgain, Worn as RefusalWorn}
use Rattle.world_api.specs.declared.unserved.Unserved.{Unserved}
use Rattle.world_api.specs.declared.unserved.Unserved.TheVariants.{NeedsAtoms, Retry, Worn, Memory}

-- Where the call is to be made again.
abbrev pub OnRefusal : {T : Type 0} → Result T Unserved → Type 0 → Type 0
OnRefusal (Ok x) P = Unit {0}
OnRefusal (Err (NeedsAtoms p)) P = P
OnRefusal (Err (Retry c)) P = P
OnRefusal (Err (Worn w)) P = P
OnRefusal (Err Memory) P = Unit {0}

-- Where memory did not run out.
abbrev pub UnlessMemory : {T : Type 0} → Result T Unserved → Type 0 → Type 0
UnlessMemory (Ok x) P = P
UnlessMemory (Err (NeedsAtoms p)) P = P
UnlessMemory (Err (Retry c)) P = P
UnlessMemory (Err (Worn w)) P = P
UnlessMemory (Err Memory) P = Unit {0}

-- What is appended to the list of refusals of the atoms.
abbrev pub unserved_refusals : Unserved → List Refusal
unserved_refusals (NeedsAtoms p) = RefusalFull p ∷ []
unserved_refusals (Retry c) = RefusalAgain c ∷ []
unserved_refusals (Worn w) = RefusalWorn w ∷ []
unserved_refusals Memory = []

abbrev pub refusals_in : {T : Type 0} → Result T Unserved → List Refusal
refusals_in (Ok x) = []
refusals_in (Err u) = unserved_refusals u
