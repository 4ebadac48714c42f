-- What contracts see of files in memory, and how they answer.
use Rattle.std.specs.Prelude.{◌≡◌, ◌≢◌, ◌≤◌, ◌||◌, ◌==◌, ℕ, Bool, false, List, Option, Some, bytes_eq, is_none}
use Rattle.std.specs.List.{find, list_any}
use Rattle.std.specs.Option.{option_map, option_map_or}
use Rattle.pl_io.specs.Faults.{one_more}
use Rattle.pl_io.specs.declared.memory_files.MemoryFile.{MemoryFile}

pub record MemoryFilesState : Type 0 where
  -- the files, each with its name, its bytes and how many reads of it failed
  pub files : List MemoryFile
  -- how many reads of names that have no file failed
  pub other_faults : ℕ
  -- how many calls there were, and which are to fail, counted from 0
  pub calls : ℕ
  pub failing : List ℕ

-- a file has this name
abbrev pub is_named : List ℕ → MemoryFile → Bool
is_named name f = bytes_eq f.name name

-- the file of a name
abbrev pub file_of : MemoryFilesState → List ℕ → Option MemoryFile
file_of m name = find (is_named name) m.files

-- the bytes under a name
abbrev pub content : MemoryFilesState → List ℕ → Option (List ℕ)
content m name = option_map (λ f. f.bytes) (file_of m name)

-- there is no file of this name
abbrev pub is_absent : MemoryFilesState → List ℕ → Bool
is_absent m name = is_none (file_of m name)

-- how many reads with this name failed
abbrev pub fault_count : MemoryFilesState → List ℕ → ℕ
fault_count m name = option_map_or (λ f. f.faults) (file_of m name) m.other_faults

-- the next call fails with this name
abbrev pub fails : MemoryFilesState → List ℕ → Bool
fails m name = list_any (λ call. call == m.calls) m.failing || is_absent m name

-- the state with one call more
abbrev pub at_call : MemoryFilesState → MemoryFilesState
at_call m = record m { calls = one_more m.calls }

-- a file with these bytes was put under a name: the bytes under the other names stay, and all counts
pub record Puts (old : MemoryFilesState) (name bytes : List ℕ) (new : MemoryFilesState) : Type 0 where
  pub here : content new name ≡ Some bytes
  pub others : (n : List ℕ) → n ≢ name → content new n ≡ content old n
  pub counts : (n : List ℕ) → fault_count new n ≡ fault_count old n
  pub calls : new.calls ≡ old.calls
  pub failing : new.failing ≡ old.failing

-- one read with this name failed: the counts of the other files stay, and so does all else
pub record CountsFault (old : MemoryFilesState) (name : List ℕ) (new : MemoryFilesState) : Type 0 where
  pub counts : fault_count new name ≡ one_more (fault_count old name)
  pub others : (n : List ℕ) → n ≢ name → is_absent old n ≡ false → fault_count new n ≡ fault_count old n
  pub none_falls : (n : List ℕ) → fault_count old n ≤ fault_count new n
  pub contents : (n : List ℕ) → content new n ≡ content old n
  pub absence : (n : List ℕ) → is_absent new n ≡ is_absent old n
  pub calls : new.calls ≡ old.calls
  pub failing : new.failing ≡ old.failing
