-- What the promises of an order give of each end.
use Rattle.std.proofs.Common.{◌≡◌, ◌≢◌, ◌<◌, ℕ, List, Option, Some, refl, subst, inl, inr, arith}
use Rattle.std.specs.Prelude.{encode_utf8_all}
use Rattle.pl_term.specs.Tree.{Chars}
use Rattle.pl_io.specs.Faults.{Rose}
use Rattle.run_model.specs.declared.ends.End.{End}
use Rattle.run_model.specs.declared.ends.End.TheVariants.{Done, GoalFailed, Usage, Waiting, Memory, ReadFault, WriteFault, Halted}
use Rattle.command_line.specs.CommandLine.{Command, Order, checks, loads, runs, load_command, unread_line}
use Rattle.load_source.specs.LoadSource.{load_source}
use Rattle.toplevel.specs.Headline.{Did, DidUnwritten, HasRun, IsWrittenUnless, Listed, ListedUnwritten, Promised, PromisedListing, PromisedOf, Ran, RanUnwritten, TellsNothing, file_of}
use Rattle.toplevel.specs.declared.run.Report.{Report}

ran_by : (rr wr : Type 0) (c : Command) (file old new : Option (List ℕ)) (report : Report) (end : End)
    → Promised rr wr c file old new report end
    → HasRun end
    → Ran c file old new report
ran_by rr wr c file old new report Done h has = h
ran_by rr wr c file old new report GoalFailed h has = h
ran_by rr wr c file old new report Usage h has = absurd h
ran_by rr wr c file old new report Waiting h has = h
ran_by rr wr c file old new report Memory h has = absurd has
ran_by rr wr c file old new report ReadFault h has = absurd has
ran_by rr wr c file old new report WriteFault h has = absurd has
ran_by rr wr c file old new report (Halted n) h has = h

listed_so : (rr wr : Type 0) (name : Chars) (file old new : Option (List ℕ)) (report : Report) (end : End)
    → PromisedListing rr wr name file old new report end
    → HasRun end
    → Listed name file old new report
listed_so rr wr name file old new report Done h has = h
listed_so rr wr name file old new report GoalFailed h has = h
listed_so rr wr name file old new report Usage h has = absurd h
listed_so rr wr name file old new report Waiting h has = absurd h
listed_so rr wr name file old new report Memory h has = absurd has
listed_so rr wr name file old new report ReadFault h has = absurd has
listed_so rr wr name file old new report WriteFault h has = absurd has
listed_so rr wr name file old new report (Halted n) h has = absurd h

pub done_by : (reads : Chars → Type 0) (wr : Type 0) (told : Chars → Option (List ℕ)) (o : Order) (old new : Option (List ℕ)) (report : Report) (end : End)
    → PromisedOf reads wr told o old new report end
    → HasRun end
    → Did told o old new report
done_by reads wr told (runs c) old new report end h has = ran_by (reads c.file) wr c (told c.file) old new report end h has
done_by reads wr told (checks file) old new report end h has = listed_so (reads file) wr file (told file) old new report end h has
done_by reads wr told (loads seed size) old new report end h has =
    ran_by ⊥ wr load_command (Some (load_source seed size)) old new report end h has

-- Where no count rose and there is memory, it was done.
run_else : (rr wr : Type 0) (c : Command) (file old new : Option (List ℕ)) (report : Report) (end : End)
    → Promised rr wr c file old new report end
    → (rr → ⊥)
    → (wr → ⊥)
    → end ≢ Memory
    → HasRun end
run_else rr wr c file old new report Done h read write some = tt
run_else rr wr c file old new report GoalFailed h read write some = tt
run_else rr wr c file old new report Usage h read write some = h
run_else rr wr c file old new report Waiting h read write some = tt
run_else rr wr c file old new report Memory h read write some = some refl
run_else rr wr c file old new report ReadFault h read write some = read h.1
run_else rr wr c file old new report WriteFault h read write some = write h.0
run_else rr wr c file old new report (Halted n) h read write some = tt

listed_else : (rr wr : Type 0) (name : Chars) (file old new : Option (List ℕ)) (report : Report) (end : End)
    → PromisedListing rr wr name file old new report end
    → (rr → ⊥)
    → (wr → ⊥)
    → end ≢ Memory
    → HasRun end
listed_else rr wr name file old new report Done h read write some = tt
listed_else rr wr name file old new report GoalFailed h read write some = tt
listed_else rr wr name file old new report Usage h read write some = h
listed_else rr wr name file old new report Waiting h read write some = tt
listed_else rr wr name file old new report Memory h read write some = some refl
listed_else rr wr name file old new report ReadFault h read write some = read h.1
listed_else rr wr name file old new report WriteFault h read write some = write h.0
listed_else rr wr name file old new report (Halted n) h read write some = tt

pub done_else : (reads : Chars → Type 0) (wr : Type 0) (told : Chars → Option (List ℕ)) (o : Order) (old new : Option (List ℕ)) (report : Report) (end : End)
    → PromisedOf reads wr told o old new report end
    → ((name : Chars) → file_of (Some o) ≡ Some name → reads name → ⊥)
    → (wr → ⊥)
    → end ≢ Memory
    → HasRun end
done_else reads wr told (runs c) old new report end h read write some =
    run_else (reads c.file) wr c (told c.file) old new report end h (read c.file refl) write some
done_else reads wr told (checks file) old new report end h read write some =
    listed_else (reads file) wr file (told file) old new report end h (read file refl) write some
done_else reads wr told (loads seed size) old new report end h read write some =
    run_else ⊥ wr load_command (Some (load_source seed size)) old new report end h (λ no. no) write some

-- An order that is obeyed is not refused.
pub not_usage : (reads : Chars → Type 0) (wr : Type 0) (told : Chars → Option (List ℕ)) (o : Order) (old new : Option (List ℕ)) (report : Report)
    → PromisedOf reads wr told o old new report Usage
    → ⊥
not_usage reads wr told (runs c) old new report h = h
not_usage reads wr told (checks file) old new report h = h
not_usage reads wr told (loads seed size) old new report h = h

-- A read failed.
pub read_by : (reads : Chars → Type 0) (wr : Type 0) (told : Chars → Option (List ℕ)) (o : Order) (old new : Option (List ℕ)) (report : Report)
    → PromisedOf reads wr told o old new report ReadFault
    → TellsNothing report × ((name : Chars) × ((file_of (Some o) ≡ Some name) × (reads name × IsWrittenUnless wr old new (encode_utf8_all (unread_line name)))))
read_by reads wr told (runs c) old new report h = (h.0, (c.file, (refl, (h.1, h.2))))
read_by reads wr told (checks file) old new report h = (h.0, (file, (refl, (h.1, h.2))))
read_by reads wr told (loads seed size) old new report h = absurd h.1

-- A write failed.
pub unwritten_by : (reads : Chars → Type 0) (wr : Type 0) (told : Chars → Option (List ℕ)) (o : Order) (old new : Option (List ℕ)) (report : Report)
    → PromisedOf reads wr told o old new report WriteFault
    → wr × DidUnwritten told o old new report
unwritten_by reads wr told (runs c) old new report h = h
unwritten_by reads wr told (checks file) old new report h = h
unwritten_by reads wr told (loads seed size) old new report h = h

-- There was no memory.
pub nothing_by : (reads : Chars → Type 0) (wr : Type 0) (told : Chars → Option (List ℕ)) (o : Order) (old new : Option (List ℕ)) (report : Report)
    → PromisedOf reads wr told o old new report Memory
    → TellsNothing report × (new ≡ old)
nothing_by reads wr told (runs c) old new report h = h
nothing_by reads wr told (checks file) old new report h = h
nothing_by reads wr told (loads seed size) old new report h = h

-- A count that is 0 all the time did not rise.
never_rose : Rose 0 0 → ⊥
never_rose (inl less) = let l : 0 < 0 = less in omega (arith, l)
never_rose (inr last) = let l : 0 ≡ 18446744073709551615 = last in omega (arith, l)

read_never : (wr : Type 0) (c : Command) (file old new : Option (List ℕ)) (report : Report) (end : End)
    → Promised (Rose 0 0) wr c file old new report end
    → Promised ⊥ wr c file old new report end
read_never wr c file old new report Done h = h
read_never wr c file old new report GoalFailed h = h
read_never wr c file old new report Usage h = h
read_never wr c file old new report Waiting h = h
read_never wr c file old new report Memory h = h
read_never wr c file old new report ReadFault h = absurd (never_rose h.1)
read_never wr c file old new report WriteFault h = h
read_never wr c file old new report (Halted n) h = h

-- The source of `load` is run as a file that is read without a fault.
pub load_so : (wr : Type 0) (c : Command) (bytes source : List ℕ) (old new : Option (List ℕ)) (report : Report) (end : End)
    → c ≡ load_command
    → bytes ≡ source
    → Promised (Rose 0 0) wr c (Some bytes) old new report end
    → Promised ⊥ wr load_command (Some source) old new report end
load_so wr c bytes source old new report end command is h =
    read_never wr load_command (Some source) old new report end
    (subst (λ (c : Command). Promised (Rose 0 0) wr c (Some source) old new report end) command
    (subst (λ (b : List ℕ). Promised (Rose 0 0) wr c (Some b) old new report end) is h))
