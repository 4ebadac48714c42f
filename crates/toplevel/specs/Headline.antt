-- What the program's top call promises.
use Rattle.std.specs.Prelude.{◌≡◌, ◌<◌, ◌++◌, ◌⊎◌, ℕ, zero, suc, List, [], length, take, Option, Some, None}
use Rattle.std.specs.Str.{encode_utf8_all}
use Rattle.pl_term.specs.Tree.{Chars}
use Rattle.run_model.specs.Execution.{most_bytes}
use Rattle.run_model.specs.Lawful.{IsComplete, Program}
use Rattle.run_model.specs.Report.{AreFinal, Finals, transcript}
use Rattle.run_model.specs.declared.ends.End.{End}
use Rattle.run_model.specs.declared.ends.End.TheVariants.{Done, GoalFailed, Usage, Waiting, Memory, ReadFault, WriteFault, Halted}
use Rattle.command_line.specs.CommandLine.{Command, Order, checks, load_command, loads, program_of, runs, unread_line}
use Rattle.load_source.specs.LoadSource.{load_source}
use Rattle.source_check.specs.Listings.{faults_in, listing}
use Rattle.source_check.specs.declared.listing.Listing.{Listing}
use Rattle.run_model.specs.Ends.{end_of, goal_ends}
use Rattle.toplevel.specs.Fronts.{told_by}
use Rattle.toplevel.specs.declared.front.Front.{Front}
use Rattle.toplevel.specs.declared.ready.Ready.{Ready}
use Rattle.toplevel.specs.declared.run.Report.{Report}

-- The file that an order names, which is to be read; `load` reads none.
abbrev pub file_of : Option Order → Option Chars
file_of None = None
file_of (Some (runs c)) = Some c.file
file_of (Some (checks file)) = Some file
file_of (Some (loads seed size)) = None

-- The program did what was asked to its end, or until it waited, and wrote all of its text.
abbrev pub HasRun : End → Type 0
HasRun Done = Unit {0}
HasRun GoalFailed = Unit {0}
HasRun Usage = ⊥
HasRun Waiting = Unit {0}
HasRun Memory = ⊥
HasRun ReadFault = ⊥
HasRun WriteFault = ⊥
HasRun (Halted n) = Unit {0}

-- The report tells nothing of a run: neither a history nor an end of a goal.
abbrev pub TellsNothing : Report → Type 0
TellsNothing report = (report.front ≡ None) × (report.ends.items ≡ [])

-- The program stopped where the file was to be read.
abbrev pub IsUnread : End → Type 0
IsUnread end = (end ≡ ReadFault) ⊎ (end ≡ Memory)

-- These are the bytes of the file, where they are told.
abbrev pub AreRead : Option (List ℕ) → List ℕ → Type 0
AreRead None bytes = Unit {0}
AreRead (Some all) bytes = bytes ≡ all

-- The sink held `before`, and holds the text after it.
abbrev pub IsWritten : Option (List ℕ) → Option (List ℕ) → List ℕ → Type 0
IsWritten old new text = (before : List ℕ) → old ≡ Some before → new ≡ Some (before ++ text)

-- The sink held `before`, and holds a front of the text after it.
abbrev pub IsPartlyWritten : Option (List ℕ) → Option (List ℕ) → List ℕ → Type 0
IsPartlyWritten old new text =
    (before : List ℕ) → old ≡ Some before → (k : ℕ) × (k < length text) × (new ≡ Some (before ++ take k text))

-- The whole text was written, or a write failed and a front of it was.
abbrev pub IsWrittenUnless : Type 0 → Option (List ℕ) → Option (List ℕ) → List ℕ → Type 0
IsWrittenUnless rose old new text = IsWritten old new text ⊎ (rose × IsPartlyWritten old new text)

-- The run of a program, as its front tells it: the history is the whole of what the program did, and the engines stand so
-- at its end.
pub record IsRun (p : Program) (front : Front) : Type 0 where
  pub finals : Finals
  pub complete : IsComplete p (told_by front)
  pub final : AreFinal p (told_by front) finals

-- The text of the run, which the definitions give.
abbrev pub text_of : Chars → (p : Program) → (front : Front) → IsRun p front → List ℕ
text_of name p front run = encode_utf8_all (transcript name p (told_by front) run.finals)

-- The headline: what was written is the transcript of resolution over the history that the report returns, which is
-- the whole of what the command did, and the report's ends and its end are those that this history gives.
pub record Ran (c : Command) (file old new : Option (List ℕ)) (report : Report) : Type 0 where
  pub bytes : List ℕ
  pub read : AreRead file bytes
  pub front : Front
  pub front_is : report.front ≡ Some front
  pub run : IsRun (program_of c bytes) front
  pub ends_are : report.ends.items ≡ goal_ends (program_of c bytes) (told_by front) run.finals
  pub end_is : report.end ≡ end_of (program_of c bytes) (told_by front) run.finals
  pub written : IsWritten old new (text_of c.file (program_of c bytes) front run)

-- A write failed: the run is complete all the same, and a front of its transcript was written.
pub record RanUnwritten (c : Command) (file old new : Option (List ℕ)) (report : Report) : Type 0 where
  pub bytes : List ℕ
  pub read : AreRead file bytes
  pub front : Front
  pub front_is : report.front ≡ Some front
  pub run : IsRun (program_of c bytes) front
  pub ends_are : report.ends.items ≡ goal_ends (program_of c bytes) (told_by front) run.finals
  pub written : IsPartlyWritten old new (text_of c.file (program_of c bytes) front run)

-- `check`: what was written is the listing of the file, and the end says whether it has faults. Of a file that is too large, only
-- the first bytes are read that show it.
abbrev pub end_by_faults : ℕ → End
end_by_faults zero = Done
end_by_faults (suc n) = GoalFailed

abbrev pub bytes_read : List ℕ → List ℕ
bytes_read bytes = take (suc most_bytes) bytes

abbrev pub text_listed : Chars → List ℕ → List ℕ
text_listed name bytes = encode_utf8_all (listing name (bytes_read bytes))

pub record Listed (name : Chars) (file old new : Option (List ℕ)) (report : Report) : Type 0 where
  pub bytes : List ℕ
  pub read : AreRead file bytes
  pub none : TellsNothing report
  pub end_is : report.end ≡ end_by_faults (faults_in (bytes_read bytes))
  pub written : IsWritten old new (text_listed name bytes)

-- A write failed, and a front of the listing was written.
pub record ListedUnwritten (name : Chars) (file old new : Option (List ℕ)) (report : Report) : Type 0 where
  pub bytes : List ℕ
  pub read : AreRead file bytes
  pub none : TellsNothing report
  pub written : IsPartlyWritten old new (text_listed name bytes)

-- What was asked is done, where `told` has the bytes that the files tell of each name: a command has run on its file, `load` on
-- the source of its seed and size, or a file is listed.
abbrev pub Did : (Chars → Option (List ℕ)) → Order → Option (List ℕ) → Option (List ℕ) → Report → Type 0
Did told (runs c) old new report = Ran c (told c.file) old new report
Did told (checks file) old new report = Listed file (told file) old new report
Did told (loads seed size) old new report = Ran load_command (Some (load_source seed size)) old new report

-- It is done, but a write failed.
abbrev pub DidUnwritten : (Chars → Option (List ℕ)) → Order → Option (List ℕ) → Option (List ℕ) → Report → Type 0
DidUnwritten told (runs c) old new report = RanUnwritten c (told c.file) old new report
DidUnwritten told (checks file) old new report = ListedUnwritten file (told file) old new report
DidUnwritten told (loads seed size) old new report = RanUnwritten load_command (Some (load_source seed size)) old new report

-- What is ready to be written of `check` of a file of this name with these bytes.
pub record IsListed (name : Chars) (bytes : List ℕ) (l : Listing) : Type 0 where
  pub text_is : l.text.items ≡ text_listed name bytes
  pub faults_are : l.faults ≡ faults_in (bytes_read bytes)

-- What is ready to be written of a run of this command on a file with these bytes.
pub record IsReady (c : Command) (bytes : List ℕ) (ready : Ready) : Type 0 where
  pub run : IsRun (program_of c bytes) ready.front
  pub ends_are : ready.ends.items ≡ goal_ends (program_of c bytes) (told_by ready.front) run.finals
  pub end_is : ready.end ≡ end_of (program_of c bytes) (told_by ready.front) run.finals
  pub text_is : ready.text.items ≡ text_of c.file (program_of c bytes) ready.front run

-- What is promised of each end of a command, where `read_rose` and `write_rose` say that the counts of faults rose.
abbrev pub Promised : Type 0 → Type 0 → Command → Option (List ℕ) → Option (List ℕ) → Option (List ℕ) → Report → End → Type 0
Promised read_rose write_rose c file old new report Done = Ran c file old new report
Promised read_rose write_rose c file old new report GoalFailed = Ran c file old new report
Promised read_rose write_rose c file old new report Usage = ⊥
Promised read_rose write_rose c file old new report Waiting = Ran c file old new report
Promised read_rose write_rose c file old new report Memory = TellsNothing report × (new ≡ old)
Promised read_rose write_rose c file old new report ReadFault =
    TellsNothing report × read_rose × IsWrittenUnless write_rose old new (encode_utf8_all (unread_line c.file))
Promised read_rose write_rose c file old new report WriteFault = write_rose × RanUnwritten c file old new report
Promised read_rose write_rose c file old new report (Halted n) = Ran c file old new report

-- What is promised of each end of `check`.
abbrev pub PromisedListing : Type 0 → Type 0 → Chars → Option (List ℕ) → Option (List ℕ) → Option (List ℕ) → Report → End → Type 0
PromisedListing read_rose write_rose name file old new report Done = Listed name file old new report
PromisedListing read_rose write_rose name file old new report GoalFailed = Listed name file old new report
PromisedListing read_rose write_rose name file old new report Usage = ⊥
PromisedListing read_rose write_rose name file old new report Waiting = ⊥
PromisedListing read_rose write_rose name file old new report Memory = TellsNothing report × (new ≡ old)
PromisedListing read_rose write_rose name file old new report ReadFault =
    TellsNothing report × read_rose × IsWrittenUnless write_rose old new (encode_utf8_all (unread_line name))
PromisedListing read_rose write_rose name file old new report WriteFault = write_rose × ListedUnwritten name file old new report
PromisedListing read_rose write_rose name file old new report (Halted n) = ⊥

-- What is promised of each end of an order, where `reads` says of a name whether its count of faults rose.
abbrev pub PromisedOf : (Chars → Type 0) → Type 0 → (Chars → Option (List ℕ)) → Order → Option (List ℕ) → Option (List ℕ) → Report → End → Type 0
PromisedOf reads write_rose told (runs c) old new report end =
    Promised (reads c.file) write_rose c (told c.file) old new report end
PromisedOf reads write_rose told (checks file) old new report end =
    PromisedListing (reads file) write_rose file (told file) old new report end
PromisedOf reads write_rose told (loads seed size) old new report end =
    Promised ⊥ write_rose load_command (Some (load_source seed size)) old new report end

-- What is promised where a read of the file failed.
abbrev pub GaveUp : Type 0 → Chars → Option (List ℕ) → Option (List ℕ) → Report → End → Type 0
GaveUp write_rose name old new report ReadFault =
    TellsNothing report × IsWrittenUnless write_rose old new (encode_utf8_all (unread_line name))
GaveUp write_rose name old new report Memory = TellsNothing report × (new ≡ old)
GaveUp write_rose name old new report end = ⊥
