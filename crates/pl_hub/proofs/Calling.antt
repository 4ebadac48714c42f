-- Which engines have begun after a row, each with its alias.
use Rattle.std.proofs.Common.{◌≡◌, ℕ, suc, List, [], ◌∷◌, ◌++◌, Option, refl, sym, ap, ◌∙◌, arith, append-nil, append_assoc}
use Rattle.pl_term.specs.Tree.{Chars}
use Rattle.pl_model.specs.History.{History, Kind, add_first, add_last, erase, abolish, set_dynamic, set_flag, set_op, make_queue, drop_queue, send, start, finish, join}
use Rattle.pl_model.specs.History as entries
use Rattle.pl_history.specs.Fronts.{Life, begun_by}
use Rattle.counted_terms.specs.declared.row.Row.{Row}
use Rattle.counted_terms.specs.declared.row.Row.TheVariants.{Reads, Makes, Waits, NeedsAtoms, Retry, Worn, Memory}
use Rattle.hub_threads.specs.Goals.{called_after}
use Rattle.hub_threads.specs.Rows.{updates_in}
use Rattle.pl_hub.specs.Called.{Called, called_by, called_in, lives_of}
use Rattle.pl_hub.specs.Fronts.{idle}
use Rattle.pl_hub.specs.Settling.{entry}
use Rattle.pl_hub.proofs.Order.{seen_after}

-- THE ENGINE of an update
pub begun_called : (k : Kind) → begun_by k ≡ lives_of (called_by k)
begun_called (add_first p c o) = refl
begun_called (add_last p c o) = refl
begun_called (erase j) = refl
begun_called (abolish p) = refl
begun_called (set_dynamic ps) = refl
begun_called (set_flag f v) = refl
begun_called (set_op os) = refl
begun_called (make_queue n a) = refl
begun_called (drop_queue n) = refl
begun_called (send n t) = refl
begun_called (entries.take j) = refl
begun_called (start n t a) = refl
begun_called (finish how steps) = refl
begun_called (join n) = refl

some_begun : (n : ℕ) → idle n ∷ [] ≡ [] → ⊥
some_begun n e = cc

-- one that begins nobody
pub nobody_called : (k : Kind) → begun_by k ≡ [] → called_by k ≡ []
nobody_called (add_first p c o) is = refl
nobody_called (add_last p c o) is = refl
nobody_called (erase j) is = refl
nobody_called (abolish p) is = refl
nobody_called (set_dynamic ps) is = refl
nobody_called (set_flag f v) is = refl
nobody_called (set_op os) is = refl
nobody_called (make_queue n a) is = refl
nobody_called (drop_queue n) is = refl
nobody_called (send n t) is = refl
nobody_called (entries.take j) is = refl
nobody_called (start n t a) is = absurd (some_begun n is)
nobody_called (finish how steps) is = refl
nobody_called (join n) is = refl

-- no engine, where none has begun
pub no_lives : (cs : List Called) → lives_of cs ≡ [] → cs ≡ []
no_lives [] is = refl
no_lives (c ∷ cs) is = absurd (some_lives c.0 (lives_of cs) is)
  where
    some_lives : (n : ℕ) (ls : List Life) → idle n ∷ ls ≡ [] → ⊥
    some_lives n ls e = cc

-- THE ENGINES of a longer history
called_more : (h more : History) → called_in (h ++ more) ≡ called_in h ++ called_in more
called_more [] more = refl
called_more (x ∷ xs) more = ap (λ (cs : List Called). called_by x.kind ++ cs) (called_more xs more) ∙ sym (append_assoc (called_by x.kind) (called_in xs) (called_in more))

pub called_then : (e : ℕ) (k : Kind) (h : History) → called_in (h ++ entry e k ∷ []) ≡ called_in h ++ called_by k
called_then e k h = called_more h (entry e k ∷ []) ∙ ap (λ (cs : List Called). called_in h ++ cs) (append-nil (called_by k))

pub nobody_then : (e : ℕ) (k : Kind) (h : History) → begun_by k ≡ [] → called_in (h ++ entry e k ∷ []) ≡ called_in h
nobody_then e k h is = called_then e k h ∙ ap (λ (cs : List Called). called_in h ++ cs) (nobody_called k is) ∙ append-nil (called_in h)

-- the engines after a row that begins these where it makes an update
abbrev pub calls_after : Row → List Called → List Called → List Called
calls_after (Makes r) cs more = cs ++ more
calls_after _ cs more = cs

pub calls_quiet : (row : Row) (cs : List Called) → calls_after row cs [] ≡ cs
calls_quiet (Reads r) cs = refl
calls_quiet (Makes r) cs = append-nil cs
calls_quiet (Waits on) cs = refl
calls_quiet (NeedsAtoms p) cs = refl
calls_quiet (Retry c) cs = refl
calls_quiet (Worn w) cs = refl
calls_quiet Memory cs = refl

pub calls_noted : (row : Row) (n : ℕ) (a : Option Chars) (cs : List Called) → called_after row n a cs ≡ calls_after row cs ((n, a) ∷ [])
calls_noted (Reads r) n a cs = refl
calls_noted (Makes r) n a cs = refl
calls_noted (Waits on) n a cs = refl
calls_noted (NeedsAtoms p) n a cs = refl
calls_noted (Retry c) n a cs = refl
calls_noted (Worn w) n a cs = refl
calls_noted Memory n a cs = refl

no_update : (n : ℕ) → suc n ≡ 0 → ⊥
no_update n e = omega (arith, e)

pub calls_read : (row : Row) (cs more : List Called) → updates_in row ≡ 0 → calls_after row cs more ≡ cs
calls_read (Reads r) cs more reads = refl
calls_read (Makes r) cs more reads = absurd (no_update 0 reads)
calls_read (Waits on) cs more reads = refl
calls_read (NeedsAtoms p) cs more reads = refl
calls_read (Retry c) cs more reads = refl
calls_read (Worn w) cs more reads = refl
calls_read Memory cs more reads = refl

-- a row of an update that begins nobody
pub calls_kept : (e : ℕ) (k : Kind) (h : History) → begun_by k ≡ [] → (row : Row) → called_in (seen_after e k row h) ≡ called_in h
calls_kept e k h quiet (Reads r) = refl
calls_kept e k h quiet (Makes r) = nobody_then e k h quiet
calls_kept e k h quiet (Waits on) = refl
calls_kept e k h quiet (NeedsAtoms p) = refl
calls_kept e k h quiet (Retry c) = refl
calls_kept e k h quiet (Worn w) = refl
calls_kept e k h quiet Memory = refl
