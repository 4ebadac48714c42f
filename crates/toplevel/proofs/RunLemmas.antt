-- What a run's outcome gives the report.
use Rattle.std.proofs.Common.{◌≡◌, ◌≤◌, ℕ, zero, suc, Bool, true, false, List, length, ◌∙◌, take, Option, Some, None, refl, sym, ap, subst, inl, inr}
use Rattle.std.proofs.lemmas.List.{take_all}
use Rattle.std.specs.Prelude.{Result, Ok, Err, OnOk, OnErr}
use Rattle.run_model.specs.Execution.{most_bytes}
use Rattle.run_model.specs.declared.ends.End.{End}
use Rattle.run_model.specs.declared.ends.End.TheVariants.{Done, GoalFailed, Usage, Waiting, Memory, ReadFault, WriteFault, Halted}
use Rattle.run_model.specs.Lawful.{Program, Told}
use Rattle.command_line.specs.CommandLine.{Command, program_of}
use Rattle.run_model.specs.Ends.{all_done, end_by, engines, first_halt, some_waits}
use Rattle.toplevel.specs.Headline.{AreRead, GaveUp, IsListed, IsPartlyWritten, IsReady, IsWritten, IsWrittenUnless, Listed, ListedUnwritten, Promised, PromisedListing, Ran, RanUnwritten, TellsNothing, bytes_read, end_by_faults, text_listed}
use Rattle.toplevel.specs.Fronts.{told_by}
use Rattle.toplevel.specs.declared.ready.Ready.{Ready}
use Rattle.toplevel.specs.declared.run.Report.{Report}
use Rattle.source_check.specs.Listings.{faults_in}
use Rattle.source_check.specs.declared.listing.Listing.{Listing}
use Rattle.pl_term.specs.Tree.{Chars}

-- The file's bytes, where they are told, or those that were read.
pub record FileBytes (file : Option (List ℕ)) (read : List ℕ) : Type 0 where
  pub bytes : List ℕ
  pub are_read : AreRead file bytes
  pub first : read ≡ take (suc most_bytes) bytes

pub file_bytes : (file : Option (List ℕ)) (read : List ℕ) → length read ≤ suc most_bytes → ((all : List ℕ) → file ≡ Some all → read ≡ take (suc most_bytes) all) → FileBytes file read
file_bytes None read short whole = record { bytes = read; are_read = tt; first = sym (take_all (suc most_bytes) read short) }
file_bytes (Some all) read short whole = record { bytes = all; are_read = refl; first = whole all refl }

-- What a write of a whole text leaves.
written : {E rose : Type 0} (r : Result (Unit {0}) E) (old new : Option (List ℕ)) (text : List ℕ) → OnOk r (IsWritten old new text) → OnErr r (IsPartlyWritten old new text) → OnErr r rose → IsWrittenUnless rose old new text
written (Ok x) old new text whole part failed = inl whole
written (Err e) old new text whole part failed = inr (failed, part)

pub written_unless : {E rose : Type 0} (r : Result (Unit {0}) E) (old new : Option (List ℕ)) (text line : List ℕ) → text ≡ line → OnOk r (IsWritten old new text) → OnErr r (IsPartlyWritten old new text) → OnErr r rose → IsWrittenUnless rose old new line
written_unless {rose = rose} r old new text line e whole part failed =
    subst (λ t. IsWrittenUnless rose old new t) e (written r old new text whole part failed)

-- A file that was given up, since a read of it failed.
pub unread : (read_rose write_rose : Type 0) (c : Command) (file old new : Option (List ℕ)) (report : Report) (end : End) → read_rose → GaveUp write_rose c.file old new report end → Promised read_rose write_rose c file old new report end
unread rr wr c file old new report Done rose h = absurd h
unread rr wr c file old new report GoalFailed rose h = absurd h
unread rr wr c file old new report Usage rose h = absurd h
unread rr wr c file old new report Waiting rose h = absurd h
unread rr wr c file old new report Memory rose h = h
unread rr wr c file old new report ReadFault rose h = (h.0, rose, h.1)
unread rr wr c file old new report WriteFault rose h = absurd h
unread rr wr c file old new report (Halted n) rose h = absurd h

-- The end of a run is promised so.
promised_by : (rr wr : Type 0) (c : Command) (file old new : Option (List ℕ)) (report : Report) (halt : Option ℕ) (waits done : Bool)
    → Ran c file old new report
    → Promised rr wr c file old new report (end_by halt waits done)
promised_by rr wr c file old new report (Some n) waits done ran = ran
promised_by rr wr c file old new report None true done ran = ran
promised_by rr wr c file old new report None false true ran = ran
promised_by rr wr c file old new report None false false ran = ran

-- What was written of a run.
pub told : (wr : Type 0) (c : Command) (file old new : Option (List ℕ)) (report : Report) (ready : Ready) (bytes text : List ℕ)
    → AreRead file bytes
    → (r : IsReady c bytes ready)
    → text ≡ ready.text.items
    → IsWritten old new text
    → report.front ≡ Some ready.front
    → report.ends.items ≡ ready.ends.items
    → report.end ≡ ready.end
    → Promised ⊥ wr c file old new report ready.end
told wr c file old new report ready bytes text read r same written front ends end =
    let p : Program = program_of c bytes in
    let all : Told = told_by ready.front in
    let ran : Ran c file old new report =
    record {
      bytes = bytes;
      read = read;
      front = ready.front;
      front_is = front;
      run = r.run;
      ends_are = ends ∙ r.ends_are;
      end_is = end ∙ r.end_is;
      written = subst (λ (t : List ℕ). IsWritten old new t) (same ∙ r.text_is) written;
    } in
    subst
    (λ (e : End). Promised ⊥ wr c file old new report e)
    (sym r.end_is)
    (promised_by
    ⊥
    wr
    c
    file
    old
    new
    report
    (first_halt all.history (engines p all))
    (some_waits all.history (engines p all))
    (all_done p all r.run.finals)
    ran)

pub untold : (c : Command) (file old new : Option (List ℕ)) (report : Report) (ready : Ready) (bytes text : List ℕ)
    → AreRead file bytes
    → (r : IsReady c bytes ready)
    → text ≡ ready.text.items
    → IsPartlyWritten old new text
    → report.front ≡ Some ready.front
    → report.ends.items ≡ ready.ends.items
    → RanUnwritten c file old new report
untold c file old new report ready bytes text read r same written front ends =
    record {
      bytes = bytes;
      read = read;
      front = ready.front;
      front_is = front;
      run = r.run;
      ends_are = ends ∙ r.ends_are;
      written = subst (λ (t : List ℕ). IsPartlyWritten old new t) (same ∙ r.text_is) written;
    }

-- No read failed.
pub promised_more : (rr wr : Type 0) (c : Command) (file old new : Option (List ℕ)) (report : Report) (end : End)
    → Promised ⊥ wr c file old new report end
    → Promised rr wr c file old new report end
promised_more rr wr c file old new report Done h = h
promised_more rr wr c file old new report GoalFailed h = h
promised_more rr wr c file old new report Usage h = absurd h
promised_more rr wr c file old new report Waiting h = h
promised_more rr wr c file old new report Memory h = h
promised_more rr wr c file old new report ReadFault h = absurd h.1
promised_more rr wr c file old new report WriteFault h = h
promised_more rr wr c file old new report (Halted n) h = h

-- A file that was to be listed, and was given up.
pub unlisted : (read_rose write_rose : Type 0) (name : Chars) (file old new : Option (List ℕ)) (report : Report) (end : End)
    → read_rose
    → GaveUp write_rose name old new report end
    → PromisedListing read_rose write_rose name file old new report end
unlisted rr wr name file old new report Done rose h = absurd h
unlisted rr wr name file old new report GoalFailed rose h = absurd h
unlisted rr wr name file old new report Usage rose h = absurd h
unlisted rr wr name file old new report Waiting rose h = absurd h
unlisted rr wr name file old new report Memory rose h = h
unlisted rr wr name file old new report ReadFault rose h = (h.0, rose, h.1)
unlisted rr wr name file old new report WriteFault rose h = absurd h
unlisted rr wr name file old new report (Halted n) rose h = absurd h

listed_by : (rr wr : Type 0) (name : Chars) (file old new : Option (List ℕ)) (report : Report) (faults : ℕ)
    → Listed name file old new report
    → PromisedListing rr wr name file old new report (end_by_faults faults)
listed_by rr wr name file old new report zero l = l
listed_by rr wr name file old new report (suc n) l = l

-- A listing was written.
pub listed : (wr : Type 0) (name : Chars) (file old new : Option (List ℕ)) (report : Report) (l : Listing) (bytes text : List ℕ)
    → AreRead file bytes
    → (r : IsListed name bytes l)
    → text ≡ l.text.items
    → IsWritten old new text
    → TellsNothing report
    → report.end ≡ end_by_faults l.faults
    → PromisedListing ⊥ wr name file old new report report.end
listed wr name file old new report l bytes text read r same written none end =
    let is : report.end ≡ end_by_faults (faults_in (bytes_read bytes)) = end ∙ ap end_by_faults r.faults_are in
    let all : Listed name file old new report =
    record {
      bytes = bytes;
      read = read;
      none = none;
      end_is = is;
      written = subst (λ (t : List ℕ). IsWritten old new t) (same ∙ r.text_is) written;
    } in
    subst
    (λ (e : End). PromisedListing ⊥ wr name file old new report e)
    (sym is)
    (listed_by ⊥ wr name file old new report (faults_in (bytes_read bytes)) all)

pub listed_unwritten : (wr : Type 0) (name : Chars) (file old new : Option (List ℕ)) (report : Report) (l : Listing) (bytes text : List ℕ)
    → AreRead file bytes
    → (r : IsListed name bytes l)
    → text ≡ l.text.items
    → wr
    → IsPartlyWritten old new text
    → TellsNothing report
    → report.end ≡ WriteFault
    → PromisedListing ⊥ wr name file old new report report.end
listed_unwritten wr name file old new report l bytes text read r same rose written none end =
    let part : ListedUnwritten name file old new report =
    record {
      bytes = bytes;
      read = read;
      none = none;
      written = subst (λ (t : List ℕ). IsPartlyWritten old new t) (same ∙ r.text_is) written;
    } in
    subst (λ (e : End). PromisedListing ⊥ wr name file old new report e) (sym end) (rose, part)

-- No read failed.
pub listed_more : (rr wr : Type 0) (name : Chars) (file old new : Option (List ℕ)) (report : Report) (end : End)
    → PromisedListing ⊥ wr name file old new report end
    → PromisedListing rr wr name file old new report end
listed_more rr wr name file old new report Done h = h
listed_more rr wr name file old new report GoalFailed h = h
listed_more rr wr name file old new report Usage h = absurd h
listed_more rr wr name file old new report Waiting h = absurd h
listed_more rr wr name file old new report Memory h = h
listed_more rr wr name file old new report ReadFault h = absurd h.1
listed_more rr wr name file old new report WriteFault h = h
listed_more rr wr name file old new report (Halted n) h = absurd h
