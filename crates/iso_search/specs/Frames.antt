-- Lists of tasks that share their ends.
use Rattle.std.specs.Prelude.{ℕ, ◌<◌, ◌≤◌, List, [], ◌∷◌, ◌++◌, length, slice_index_or}
use Rattle.iso_search.specs.declared.frames.Task.{Task}
use Rattle.iso_search.specs.declared.frames.Task.TheVariants.{Goal}
use Rattle.term_store.specs.declared.words.Word.TheVariants.{Var}
use Rattle.iso_search.specs.declared.frames.Frame.{Frame}

-- The lists, the empty one first: each frame makes one more of an earlier one.
abbrev pub stacked : List Frame → List (List Task) → List (List Task)
stacked [] done = done
stacked (f ∷ fs) done = stacked fs (done ++ (f.task ∷ slice_index_or done f.continuation []) ∷ [])

-- The list with this number.
unfoldable pub tasks : List Frame → ℕ → List Task
tasks fs i = slice_index_or (stacked fs ([] ∷ [])) i []

abbrev pub no_frame : Frame
no_frame = record { task = Goal (record { word = Var 0 }) 0; continuation = 0 }

-- Each frame stands before an earlier list.
abbrev pub AreLinked : List Frame → Type 0
AreLinked fs = (k : ℕ) → k < length fs → (slice_index_or fs k no_frame).continuation ≤ k
